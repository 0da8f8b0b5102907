-- The columns that a CREATE TABLE makes and an ALTER TABLE adds may stand behind one another.
use Rattle.std.proofs.Common.{◌≡◌, ℕ, Bool, true, false, not, ◌&&◌, ◌||◌, List, [], ◌∷◌, ◌++◌, length, map, bytes_eq, is_some, refl, sym, subst, append_assoc, ◌∙◌, arith}
use Rattle.std.specs.List.{AllByRecursion, list_all, list_any}
use Rattle.std.proofs.lemmas.Bool.{lt-ltb}
use Rattle.std.proofs.lemmas.List.Folds.{list_all-append, list_any-append}
use Rattle.cas_types.specs.Schemas.{is_partition, is_clustering, is_key, is_static, is_plain, is_map}
use Rattle.cas_types.specs.declared.schema.Column.{Column}
use Rattle.cas_types.specs.declared.schema.Kind.{Kind}
use Rattle.cas_types.specs.declared.schema.Kind.TheVariants.{Partition, Ascending, Descending, Static, Regular}
use Rattle.cas_types.specs.declared.schema.Shape.{Shape}
use Rattle.cql_parse.specs.declared.syntax.ColumnType.{ColumnType}
use Rattle.cql_parse.specs.declared.syntax.ColumnType.TheVariants as column_type
use Rattle.cas_terms.specs.Names.{any_two}
use Rattle.cas_define.specs.Schemas.{shape_of, second_type, column_of, other_kind}
use Rattle.cas_schemas.specs.Columns.{has_some, may_stand, may_have, FitsColumn}
use Rattle.cas_schemas.specs.Each.{EachFits}
use Rattle.cas_schemas.specs.Names.{is_name, is_new_column}
use Rattle.define_laws.proofs.Tests.{both, not_first, not_second, neither, first_so, second_so, its_not}

-- ---- names

abbrev pub names : List Column → List (List ℕ)
names cs = map (λ c. c.name) cs

abbrev pub Once : List Column → Type 0
Once cs = any_two bytes_eq (names cs) ≡ false

-- no column before has the name of this one
apart : (n : List ℕ) (before : List Column) (c : Column) (cs : List Column) → list_any (bytes_eq n) (names (before ++ c ∷ cs)) ≡ false → bytes_eq n c.name ≡ false
apart n [] c cs e = not_first (bytes_eq n c.name) (list_any (bytes_eq n) (names cs)) e
apart n (b ∷ before) c cs e = apart n before c cs (not_second (bytes_eq n b.name) (list_any (bytes_eq n) (names (before ++ c ∷ cs))) e)

fresh : (before : List Column) (c : Column) (cs : List Column) → Once (before ++ c ∷ cs) → list_any (λ d. bytes_eq d.name c.name) before ≡ false
fresh [] c cs e = refl
fresh (b ∷ before) c cs e =
    neither (bytes_eq b.name c.name) (list_any (λ d. bytes_eq d.name c.name) before)
    (apart b.name before c cs (not_first (list_any (bytes_eq b.name) (names (before ++ c ∷ cs))) (any_two bytes_eq (names (before ++ c ∷ cs))) e))
    (fresh before c cs (not_second (list_any (bytes_eq b.name) (names (before ++ c ∷ cs))) (any_two bytes_eq (names (before ++ c ∷ cs))) e))

-- ---- columns one by one

-- all that is asked of a column, but of its place
pub record IsFine (c : Column) : Type 0 where
  pub name : is_name c.name ≡ true
  pub shape : may_have c.kind c.shape ≡ true
  pub second : is_some c.second ≡ is_map c.shape

abbrev pub Stands : Bool → List Column → Column → Type 0
Stands new before c = may_stand new before c.kind ≡ true

pub columns_fit : (new : Bool) (before cs : List Column) → Once (before ++ cs) → EachFits (Stands new) before cs → AllByRecursion IsFine cs → EachFits (FitsColumn new) before cs
unfolding is_new_column
columns_fit new before [] once stand fine = tt
columns_fit new before (c ∷ cs) once stand fine = (
  record {
    name = both (is_name c.name) (not (list_any (λ d. bytes_eq d.name c.name) before)) fine.0.name (its_not _ (fresh before c cs once));
    kind = stand.0;
    shape = fine.0.shape;
    second = fine.0.second;
  },
  columns_fit new (before ++ c ∷ []) cs (subst Once (sym (append_assoc before (c ∷ []) cs)) once) stand.1 fine.1,
)

second_fits : (t : ColumnType) → is_some (second_type t) ≡ is_map (shape_of t)
unfolding second_type shape_of
second_fits (column_type.One t) = refl
second_fits (column_type.SetOf t) = refl
second_fits (column_type.ListOf t) = refl
second_fits (column_type.MapOf k v) = refl

plain_or_not : (k : Kind) (s : Shape) → (is_key k ≡ true → is_plain s ≡ true) → may_have k s ≡ true
plain_or_not k s plain = of (is_key k) refl
  where
    of : (b : Bool) → is_key k ≡ b → may_have k s ≡ true
    of true is = first_so (is_plain s) (not (is_key k)) (plain is)
    of false is = second_so (is_plain s) (not (is_key k)) (its_not _ is)

pub fine_column : (k : Kind) (n : List ℕ) (t : ColumnType) → is_name n ≡ true → (is_key k ≡ true → is_plain (shape_of t) ≡ true) → IsFine (column_of k n t)
fine_column k n t name plain = record { name = name; shape = plain_or_not k (shape_of t) plain; second = second_fits t }

-- ---- the places of columns

pub some_there : (c : Column) (cs : List Column) → has_some (c ∷ cs) ≡ true
some_there c cs = lt-ltb 0 (length (c ∷ cs)) (omega arith)

some_more : (before : List Column) (c : Column) → has_some (before ++ c ∷ []) ≡ true
some_more [] c = refl
some_more (b ∷ before) c = some_there b (before ++ c ∷ [])

one_more : (test : Column → Bool) (before : List Column) (c : Column) → list_all test before ≡ true → test c ≡ true → list_all test (before ++ c ∷ []) ≡ true
one_more test before c e f = list_all-append test before (c ∷ []) ∙ both (list_all test before) (test c && true) e (both (test c) true f refl)

pub partition_stands : (before cs : List Column) → list_all (λ c. is_partition c.kind) before ≡ true → AllByRecursion (λ c. is_partition c.kind ≡ true) cs → EachFits (Stands true) before cs
partition_stands before [] e all = tt
partition_stands before (c ∷ cs) e all = (stands c.kind all.0, partition_stands (before ++ c ∷ []) cs (one_more (λ c. is_partition c.kind) before c e all.0) all.1)
  where
    stands : (k : Kind) → is_partition k ≡ true → may_stand true before k ≡ true
    stands Partition is = both (list_all (λ c. is_partition c.kind) before) true e refl
    stands Ascending is = cc
    stands Descending is = cc
    stands Static is = cc
    stands Regular is = cc

clustering_is_key : (k : Kind) → is_clustering k ≡ true → is_key k ≡ true
clustering_is_key k e = second_so (is_partition k) (is_clustering k) e

pub clustering_stands : (before cs : List Column) → has_some before ≡ true → list_all (λ c. is_key c.kind) before ≡ true → AllByRecursion (λ c. is_clustering c.kind ≡ true) cs
    → EachFits (Stands true) before cs
clustering_stands before [] some e all = tt
clustering_stands before (c ∷ cs) some e all =
    (stands c.kind all.0, clustering_stands (before ++ c ∷ []) cs (some_more before c) (one_more (λ c. is_key c.kind) before c e (clustering_is_key c.kind all.0)) all.1)
  where
    behind : (has_some before && list_all (λ c. is_key c.kind) before) ≡ true
    behind = both (has_some before) (list_all (λ c. is_key c.kind) before) some e

    stands : (k : Kind) → is_clustering k ≡ true → may_stand true before k ≡ true
    stands Partition is = cc
    stands Ascending is = both (has_some before && list_all (λ c. is_key c.kind) before) true behind refl
    stands Descending is = both (has_some before && list_all (λ c. is_key c.kind) before) true behind refl
    stands Static is = cc
    stands Regular is = cc

-- a column of no key, static only where there are clustering columns
abbrev pub IsOther : Bool → Column → Type 0
IsOther clustered c = (is_key c.kind ≡ false) × (is_static c.kind ≡ true → clustered ≡ true)

pub others_stand : (new clustered : Bool) (before cs : List Column) → has_some before ≡ true → (clustered ≡ true → list_any (λ c. is_clustering c.kind) before ≡ true) → AllByRecursion (IsOther clustered) cs
    → EachFits (Stands new) before cs
others_stand new clustered before [] some e all = tt
others_stand new clustered before (c ∷ cs) some e all = (
  stands c.kind all.0.0 all.0.1,
  others_stand new clustered (before ++ c ∷ []) cs (some_more before c)
      (λ is. list_any-append (λ c. is_clustering c.kind) before (c ∷ []) ∙ first_so (list_any (λ c. is_clustering c.kind) before) (list_any (λ c. is_clustering c.kind) (c ∷ [])) (e is)) all.1,
)
  where
    stands : (k : Kind) → is_key k ≡ false → (is_static k ≡ true → clustered ≡ true) → may_stand new before k ≡ true
    stands Partition is clustering = cc
    stands Ascending is clustering = cc
    stands Descending is clustering = cc
    stands Static is clustering = both (list_any (λ c. is_clustering c.kind) before) (new || true) (e (clustering refl)) (second_so new true refl)
    stands Regular is clustering = both (has_some before) (new || true) some (second_so new true refl)

pub other_is : (clustered b : Bool) → (b ≡ true → clustered ≡ true) → (is_key (other_kind b) ≡ false) × (is_static (other_kind b) ≡ true → clustered ≡ true)
unfolding other_kind
other_is clustered true e = (refl, e)
other_is clustered false e = (refl, λ is. cc)
