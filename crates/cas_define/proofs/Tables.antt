-- What a CREATE TABLE makes that isn't refused is a table, and stays one with the columns of an ALTER TABLE.
use Rattle.std.proofs.Common.{◌≡◌, ℕ, ◌≤◌, nat_lt, Bool, true, false, cond, not, ◌&&◌, ◌||◌, All, List, [], ◌∷◌, ◌++◌, length, map, filter_map, find, bytes_eq, Option, None, Some, is_none, option_map, refl, sym, ap, ◌∙◌, subst}
use Rattle.std.specs.List.{AllByRecursion, cons_option, list_all, list_any, slice_get}
use Rattle.std.specs.Option.{option_or, option_map_or}
use Rattle.std.proofs.lemmas.List.{map-id}
use Rattle.std.proofs.lemmas.List.Elements.{All-from_recursion, All-append, recursion_from_All}
use Rattle.std.proofs.lemmas.List.Folds.{find-append, list_any-append}
use Rattle.std.proofs.lemmas.Slice.Eq.{bytes_eq-Decides}
use Rattle.cas_types.specs.Schemas.{is_partition, is_key, is_plain}
use Rattle.cas_types.specs.declared.limits.TheConstants.{TTL_LIMIT}
use Rattle.cas_types.specs.declared.schema.Column.{Column}
use Rattle.cas_types.specs.declared.schema.TableSchema.{TableSchema}
use Rattle.cql_parse.specs.declared.syntax.AddedColumn.{AddedColumn}
use Rattle.cql_parse.specs.declared.syntax.AlterTable.{AlterTable}
use Rattle.cql_parse.specs.declared.syntax.CreateTable.{CreateTable}
use Rattle.cql_parse.specs.declared.syntax.DefinedColumn.{DefinedColumn}
use Rattle.cql_parse.specs.declared.syntax.PrimaryKey.{PrimaryKey}
use Rattle.cql_parse.specs.declared.syntax.TableOption.{TableOption}
use Rattle.cas_effects.specs.Refusals.{refusal_for}
use Rattle.cas_terms.specs.Columns.{column_named, is_unknown}
use Rattle.cas_terms.specs.Names.{any_two, stands_twice}
use Rattle.cas_define.specs.AlterReasons.{is_new_name, alter_is_malformed, alter_reasons}
use Rattle.cas_define.specs.CreateReasons.{create_reasons}
use Rattle.cas_define.specs.CreateTests.{may_be_key, orders_fit, statics_fit, key_fits_table, one_key_fits, names_defined, create_is_malformed}
use Rattle.cas_define.specs.IsTable.{IsTable}
use Rattle.cas_define.specs.Limits.{has_name_length}
use Rattle.cas_options.specs.Options.{options_of}
use Rattle.cas_define.specs.Schemas.{shape_of, column_of, other_kind, columns_defined, defined_named, keys_said, key_names, key_kind, key_column, other_column, columns_with, columns_of, schema_of, added_column}
use Rattle.cas_define.proofs.Reasoning.{none_bad}

-- ---- tests

front : (a b : Bool) → (a && b) ≡ true → a ≡ true
front true b e = refl
front false b e = cc

back : (a b : Bool) → (a && b) ≡ true → b ≡ true
back true b e = e
back false b e = cc

not_first : (a b : Bool) → (a || b) ≡ false → a ≡ false
not_first true b e = cc
not_first false b e = refl

not_second : (a b : Bool) → (a || b) ≡ false → b ≡ false
not_second true b e = cc
not_second false b e = e

so : (b : Bool) → not b ≡ false → b ≡ true
so true e = refl
so false e = cc

not_so : (b : Bool) → not b ≡ true → b ≡ false
not_so true e = cc
not_so false e = refl

neither : (a b : Bool) → a ≡ false → b ≡ false → (a || b) ≡ false
neither true b e f = cc
neither false b e f = f

either_so : (a b : Bool) → a ≡ true → (a || b) ≡ true
either_so true b e = refl
either_so false b e = cc

itself : (n : List ℕ) → bytes_eq n n ≡ true
itself n = (bytes_eq-Decides n n).1 refl

other_way : (a b : List ℕ) → bytes_eq a b ≡ false → bytes_eq b a ≡ false
other_way a b e = told (bytes_eq b a) refl
  where
    told : (t : Bool) → bytes_eq b a ≡ t → bytes_eq b a ≡ false
    told false is = is
    told true is = let full : bytes_eq a b ≡ true = (bytes_eq-Decides a b).1 (sym ((bytes_eq-Decides b a).0 is)) in cc

-- ---- lists

module _ {X : Type 0} where
  each : (P Q R : X → Type 0) → ((x : X) → P x → Q x → R x) → (xs : List X) → AllByRecursion P xs → AllByRecursion Q xs → AllByRecursion R xs
  each P Q R gives [] p q = tt
  each P Q R gives (x ∷ xs) p q = (gives x p.0 q.0, each P Q R gives xs p.1 q.1)

  together : (P : X → Type 0) (xs ys : List X) → AllByRecursion P xs → AllByRecursion P ys → AllByRecursion P (xs ++ ys)
  together P [] ys p q = q
  together P (x ∷ xs) ys p q = (p.0, together P xs ys p.1 q)

  all_pass : (test : X → Bool) (xs : List X) → list_all test xs ≡ true → AllByRecursion (λ x. test x ≡ true) xs
  all_pass test [] e = tt
  all_pass test (x ∷ xs) e = (front (test x) (list_all test xs) e, all_pass test xs (back (test x) (list_all test xs) e))

  passes : (test : X → Bool) (xs : List X) (y : X) → find test xs ≡ Some y → test y ≡ true
  passes test [] y e = cc
  passes test (x ∷ xs) y e =
      elim (test x) as (λ b. test x ≡ b → cond b (Some x) (find test xs) ≡ Some y → test y ≡ true) [
        | true ↦ λ is f. let same : x ≡ y = cc in ap test (sym same) ∙ is
        | false ↦ λ is f. passes test xs y f
      ] refl e

-- ---- columns by their names

abbrev names : List Column → List (List ℕ)
names cs = map (λ c. c.name) cs

abbrev Once : List Column → Type 0
Once cs = any_two bytes_eq (names cs) ≡ false

-- no column of the first has the name of one of the second
abbrev AreNew : List Column → List Column → Type 0
AreNew cs ds = AllByRecursion (λ d. list_any (bytes_eq d.name) (names cs) ≡ false) ds

module _ (n : List ℕ) where
  away : (cs ds : List Column) → list_any (bytes_eq n) (names cs) ≡ false → list_any (bytes_eq n) (names ds) ≡ false → list_any (bytes_eq n) (names (cs ++ ds)) ≡ false
  away [] ds e f = f
  away (c ∷ cs) ds e f = neither _ _ (not_first (bytes_eq n c.name) (list_any (bytes_eq n) (names cs)) e) (away cs ds (not_second (bytes_eq n c.name) (list_any (bytes_eq n) (names cs)) e) f)

  away_from : (ds : List Column) → AllByRecursion (λ d. bytes_eq d.name n ≡ false) ds → list_any (bytes_eq n) (names ds) ≡ false
  away_from [] all = refl
  away_from (d ∷ ds) all = neither _ _ (other_way d.name n all.0) (away_from ds all.1)

  each_away : (ds : List Column) → list_any (bytes_eq n) (names ds) ≡ false → AllByRecursion (λ d. bytes_eq n d.name ≡ false) ds
  each_away [] e = tt
  each_away (d ∷ ds) e = (not_first (bytes_eq n d.name) (list_any (bytes_eq n) (names ds)) e, each_away ds (not_second (bytes_eq n d.name) (list_any (bytes_eq n) (names ds)) e))

  unknown : (cs : List Column) → is_none (find (λ c. bytes_eq c.name n) cs) ≡ true → list_any (bytes_eq n) (names cs) ≡ false
  unknown [] e = refl
  unknown (c ∷ cs) e =
      elim (bytes_eq c.name n) as (λ b. bytes_eq c.name n ≡ b → is_none (cond b (Some c) (find (λ c. bytes_eq c.name n) cs)) ≡ true → list_any (bytes_eq n) (names (c ∷ cs)) ≡ false) [
        | true ↦ λ is f. cc
        | false ↦ λ is f. neither _ _ (other_way c.name n is) (unknown cs f)
      ] refl e

once_together : (cs ds : List Column) → Once cs → Once ds → AreNew cs ds → Once (cs ++ ds)
once_together [] ds first second new = second
once_together (c ∷ cs) ds first second new =
    neither _ _
    (away c.name cs ds (not_first (list_any (bytes_eq c.name) (names cs)) (any_two bytes_eq (names cs)) first)
    (away_from c.name ds (each (λ d. list_any (bytes_eq d.name) (names (c ∷ cs)) ≡ false) (λ d. list_any (bytes_eq d.name) (names (c ∷ cs)) ≡ false) (λ d. bytes_eq d.name c.name ≡ false)
    (λ d e f. not_first (bytes_eq d.name c.name) (list_any (bytes_eq d.name) (names cs)) e) ds new new)))
    (once_together cs ds (not_second (list_any (bytes_eq c.name) (names cs)) (any_two bytes_eq (names cs)) first) second
    (each (λ d. list_any (bytes_eq d.name) (names (c ∷ cs)) ≡ false) (λ d. list_any (bytes_eq d.name) (names (c ∷ cs)) ≡ false) (λ d. list_any (bytes_eq d.name) (names cs) ≡ false)
    (λ d e f. not_second (bytes_eq d.name c.name) (list_any (bytes_eq d.name) (names cs)) e) ds new new))

-- where no two columns have one name, each is the one of its name
pub each_named : (cs : List Column) → stands_twice (map (λ c. c.name) cs) ≡ false → AllByRecursion (λ c. column_named cs c.name ≡ Some c) cs
unfolding column_named
each_named [] once = tt
each_named (c ∷ cs) once = (
  ap (λ b. cond b (Some c) (find (λ d. bytes_eq d.name c.name) cs)) (itself c.name),
  each (λ d. bytes_eq c.name d.name ≡ false) (λ d. find (λ e. bytes_eq e.name d.name) cs ≡ Some d) (λ d. find (λ e. bytes_eq e.name d.name) (c ∷ cs) ≡ Some d)
      (λ d e f. ap (λ b. cond b (Some c) (find (λ e. bytes_eq e.name d.name) cs)) e ∙ f) cs
      (each_away c.name cs (not_first (list_any (bytes_eq c.name) (names cs)) (any_two bytes_eq (names cs)) once))
      (each_named cs (not_second (list_any (bytes_eq c.name) (names cs)) (any_two bytes_eq (names cs)) once)),
)

-- ---- columns that are made of what has a name

module _ {A : Type 0} (make : A → Option Column) where
  made : (P : Column → Type 0) (Q : A → Type 0) → ((a : A) (c : Column) → Q a → make a ≡ Some c → P c) → (items : List A) → AllByRecursion Q items → AllByRecursion P (filter_map make items)
  made P Q gives [] all = tt
  made P Q gives (a ∷ items) all =
      elim (make a) as (λ o. make a ≡ o → AllByRecursion P (cons_option o (filter_map make items))) [
        | None ↦ λ e. made P Q gives items all.1
        | Some c ↦ λ e. (gives a c all.0 e, made P Q gives items all.1)
      ] refl

  module _ (name : A → List ℕ) (has : (a : A) (c : Column) → make a ≡ Some c → c.name ≡ name a) where
    apart : (n : List ℕ) (items : List A) → list_any (bytes_eq n) (map name items) ≡ false → list_any (bytes_eq n) (names (filter_map make items)) ≡ false
    apart n [] e = refl
    apart n (a ∷ items) e =
        let rest : list_any (bytes_eq n) (names (filter_map make items)) ≡ false = apart n items (not_second (bytes_eq n (name a)) (list_any (bytes_eq n) (map name items)) e) in
        elim (make a) as (λ o. make a ≡ o → list_any (bytes_eq n) (names (cons_option o (filter_map make items))) ≡ false) [
          | None ↦ λ is. rest
          | Some c ↦ λ is. neither _ _ (ap (bytes_eq n) (has a c is) ∙ not_first (bytes_eq n (name a)) (list_any (bytes_eq n) (map name items)) e) rest
        ] refl

    once_made : (items : List A) → any_two bytes_eq (map name items) ≡ false → Once (filter_map make items)
    once_made [] e = refl
    once_made (a ∷ items) e =
        let rest : Once (filter_map make items) = once_made items (not_second (list_any (bytes_eq (name a)) (map name items)) (any_two bytes_eq (map name items)) e) in
        let other : list_any (bytes_eq (name a)) (names (filter_map make items)) ≡ false =
        apart (name a) items (not_first (list_any (bytes_eq (name a)) (map name items)) (any_two bytes_eq (map name items)) e) in
        elim (make a) as (λ o. make a ≡ o → Once (cons_option o (filter_map make items))) [
          | None ↦ λ is. rest
          | Some c ↦ λ is. neither _ _ (ap (λ n. list_any (bytes_eq n) (names (filter_map make items))) (has a c is) ∙ other) rest
        ] refl

-- ---- the columns of a CREATE TABLE

module _ (options : List TableOption) (ds : List DefinedColumn) (k : PrimaryKey) where
  abbrev keys : List Column
  keys = filter_map (key_column options ds k) (key_names k)

  abbrev others : List Column
  others = filter_map (other_column k) ds

  key_made : (n : List ℕ) (c : Column) → key_column options ds k n ≡ Some c
      → (d : DefinedColumn) × (defined_named ds n ≡ Some d) × (column_of (key_kind options k n) d.name d.column_type ≡ c)
  unfolding key_column
  key_made n c e = of (defined_named ds n) refl e
    where
      of : (o : Option DefinedColumn) → defined_named ds n ≡ o → option_map (λ d. column_of (key_kind options k n) d.name d.column_type) o ≡ Some c
          → (d : DefinedColumn) × (defined_named ds n ≡ Some d) × (column_of (key_kind options k n) d.name d.column_type ≡ c)
      of None f g = cc
      of (Some d) f g = (d, f, cc)

  key_has : (n : List ℕ) (c : Column) → key_column options ds k n ≡ Some c → c.name ≡ n
  unfolding defined_named
  key_has n c e =
      let its = key_made n c e in
      ap (λ c. c.name) (sym its.2) ∙ (bytes_eq-Decides its.0.name n).0 (passes (λ d. bytes_eq d.name n) ds its.0 its.1)

  key_plain : (n : List ℕ) (c : Column) → may_be_key ds n ≡ true → key_column options ds k n ≡ Some c → is_key c.kind ≡ true → is_plain c.shape ≡ true
  unfolding may_be_key
  key_plain n c may e is =
      let its = key_made n c e in
      let fits : (is_plain (shape_of its.0.column_type) && not its.0.is_static) ≡ true =
      ap (λ o. option_map_or (λ d. is_plain (shape_of d.column_type) && not d.is_static) o false) (sym its.1) ∙ may in
      ap (λ c. is_plain c.shape) (sym its.2) ∙ front _ _ fits

  other_made : (d : DefinedColumn) (c : Column) → other_column k d ≡ Some c
      → (list_any (bytes_eq d.name) (key_names k) ≡ false) × (column_of (other_kind d.is_static) d.name d.column_type ≡ c)
  unfolding other_column
  other_made d c e =
      elim (list_any (bytes_eq d.name) (key_names k)) as (λ b. list_any (bytes_eq d.name) (key_names k) ≡ b
      → cond b None (Some (column_of (other_kind d.is_static) d.name d.column_type)) ≡ Some c
      → (list_any (bytes_eq d.name) (key_names k) ≡ false) × (column_of (other_kind d.is_static) d.name d.column_type ≡ c)) [
        | true ↦ λ is f. cc
        | false ↦ λ is f. (is, cc)
      ] refl e

  other_has : (d : DefinedColumn) (c : Column) → other_column k d ≡ Some c → c.name ≡ d.name
  other_has d c e = ap (λ c. c.name) (sym (other_made d c e).1)

  no_key : (b : Bool) → is_key (other_kind b) ≡ false
  unfolding other_kind
  no_key true = refl
  no_key false = refl

  other_plain : (d : DefinedColumn) (c : Column) → Unit {0} → other_column k d ≡ Some c → is_key c.kind ≡ true → is_plain c.shape ≡ true
  other_plain d c t e is = let isnt : is_key c.kind ≡ false = ap (λ c. is_key c.kind) (sym (other_made d c e).1) ∙ no_key d.is_static in cc

  any_at_all : {A : Type 0} (items : List A) → AllByRecursion (λ a. Unit {0}) items
  any_at_all [] = tt
  any_at_all (a ∷ items) = (tt, any_at_all items)

  all_once : stands_twice (key_names k) ≡ false → stands_twice (names_defined ds) ≡ false → Once (keys ++ others)
  all_once once each_once =
      let key_names_once : any_two bytes_eq (map (λ n. n) (key_names k)) ≡ false = ap (any_two bytes_eq) (map-id (key_names k)) ∙ once in
      once_together keys others (once_made (key_column options ds k) (λ n. n) key_has (key_names k) key_names_once)
      (once_made (other_column k) (λ d. d.name) other_has ds each_once)
      (made (other_column k) (λ c. list_any (bytes_eq c.name) (names keys) ≡ false) (λ d. Unit {0})
      (λ d c t e. apart (key_column options ds k) (λ n. n) key_has c.name (key_names k)
      (ap (list_any (bytes_eq c.name)) (map-id (key_names k)) ∙ ap (λ m. list_any (bytes_eq m) (key_names k)) (other_has d c e) ∙ (other_made d c e).0)) ds (any_at_all ds))

  all_plain : list_all (may_be_key ds) (key_names k) ≡ true → AllByRecursion (λ c. is_key c.kind ≡ true → is_plain c.shape ≡ true) (keys ++ others)
  all_plain may =
      together (λ c. is_key c.kind ≡ true → is_plain c.shape ≡ true) keys others
      (made (key_column options ds k) (λ c. is_key c.kind ≡ true → is_plain c.shape ≡ true) (λ n. may_be_key ds n ≡ true) key_plain (key_names k) (all_pass (may_be_key ds) (key_names k) may))
      (made (other_column k) (λ c. is_key c.kind ≡ true → is_plain c.shape ≡ true) (λ d. Unit {0}) other_plain ds (any_at_all ds))

  -- the first column of the partition key is there
  first_key : (n : List ℕ) → list_any (bytes_eq n) k.partition ≡ true → may_be_key ds n ≡ true → (c : Column) × (key_column options ds k n ≡ Some c) × (is_partition c.kind ≡ true)
  unfolding may_be_key key_column key_kind
  first_key n among may = of (defined_named ds n) refl may
    where
      of : (o : Option DefinedColumn) → defined_named ds n ≡ o → option_map_or (λ d. is_plain (shape_of d.column_type) && not d.is_static) o false ≡ true
          → (c : Column) × (key_column options ds k n ≡ Some c) × (is_partition c.kind ≡ true)
      of None f g = cc
      of (Some d) f g =
          (column_of (key_kind options k n) d.name d.column_type, ap (option_map (λ d. column_of (key_kind options k n) d.name d.column_type)) f, rw among refl)

  has_partition : nat_lt 0 (length k.partition) ≡ true → list_all (may_be_key ds) (key_names k) ≡ true → list_any (λ c. is_partition c.kind) (keys ++ others) ≡ true
  has_partition some may =
      list_any-append (λ c. is_partition c.kind) keys others ∙ either_so (list_any (λ c. is_partition c.kind) keys) _ (among k.partition refl)
    where
      among : (ps : List (List ℕ)) → k.partition ≡ ps → list_any (λ c. is_partition c.kind) keys ≡ true
      among [] e = let none : nat_lt 0 (length k.partition) ≡ false = ap (λ ps. nat_lt 0 (length ps)) e in cc
      among (p ∷ ps) e =
          let in_front : key_names k ≡ p ∷ (ps ++ k.clustering) = ap (λ ps. ps ++ k.clustering) e in
          let its = first_key p (ap (list_any (bytes_eq p)) e ∙ either_so (bytes_eq p p) (list_any (bytes_eq p) ps) (itself p))
          (front (may_be_key ds p) (list_all (may_be_key ds) (ps ++ k.clustering)) (ap (list_all (may_be_key ds)) (sym in_front) ∙ may)) in
          ap (λ ns. list_any (λ c. is_partition c.kind) (filter_map (key_column options ds k) ns)) in_front
          ∙ ap (λ o. list_any (λ c. is_partition c.kind) (cons_option o (filter_map (key_column options ds k) (ps ++ k.clustering)))) its.1
          ∙ either_so (is_partition its.0.kind) _ its.2

-- ---- a CREATE TABLE

module _ (c : CreateTable) where
  ds : List DefinedColumn
  ds = columns_defined c.items

  fits : (k : PrimaryKey) → key_fits_table c k ≡ true
      → (nat_lt 0 (length k.partition) ≡ true) × (list_all (may_be_key (columns_defined c.items)) (key_names k) ≡ true) × (stands_twice (key_names k) ≡ false)
  unfolding key_fits_table
  fits k e =
      let first : (list_all (may_be_key (columns_defined c.items)) (key_names k) && (not (stands_twice (key_names k))
      && (orders_fit k.clustering c.options && statics_fit k.clustering (columns_defined c.items)))) ≡ true = back _ _ e in
      (front _ _ e, front _ _ first, not_so _ (front _ _ (back _ _ first)))

  table_with : (t : TableSchema) (ks : List PrimaryKey) → keys_said c.items ≡ ks → one_key_fits c ks ≡ true → stands_twice (names_defined (columns_defined c.items)) ≡ false
      → t.columns ≡ columns_of c → t.options.default_time_to_live ≤ TTL_LIMIT → IsTable t
  unfolding one_key_fits columns_of columns_with
  table_with t [] said e once its lives = cc
  table_with t (k ∷ []) said e once its lives =
      let is = fits k e in
      let are : t.columns ≡ keys c.options (columns_defined c.items) k ++ others c.options (columns_defined c.items) k =
      its ∙ ap (λ ks. option_map_or (columns_with c.options (columns_defined c.items)) (slice_get ks 0) []) said in
      record {
        once = ap (λ cs. any_two bytes_eq (names cs)) are ∙ all_once c.options (columns_defined c.items) k is.2 once;
        keyed = subst (λ cs. list_any (λ c. is_partition c.kind) cs ≡ true) (sym are) (has_partition c.options (columns_defined c.items) k is.0 is.1);
        plain = subst (All (λ c. is_key c.kind ≡ true → is_plain c.shape ≡ true)) (sym are) (All-from_recursion _ _ (all_plain c.options (columns_defined c.items) k is.1));
        lives = lives;
      }
  table_with t (k ∷ l ∷ ks) said e once its lives = cc

  pub made_table : (tables : List TableSchema) (t : TableSchema) → refusal_for (create_reasons tables c) ≡ None → t.columns ≡ columns_of c → t.options.default_time_to_live ≤ TTL_LIMIT → IsTable t
  unfolding create_reasons create_is_malformed
  made_table tables t e its lives =
      let good : create_is_malformed c ≡ false = none_bad (create_reasons tables c) e in
      table_with t (keys_said c.items) refl (so _ (not_first _ _ good)) (not_first _ _ (not_second _ _ good)) its lives

-- ---- an ALTER TABLE

module _ (t : TableSchema) (a : AlterTable) where
  added : List Column
  added = map added_column a.added

  all_made : (xs : List AddedColumn) → filter_map (λ x. Some (added_column x)) xs ≡ map added_column xs
  all_made [] = refl
  all_made (x ∷ xs) = ap (λ cs. added_column x ∷ cs) (all_made xs)

  added_has : (x : AddedColumn) (c : Column) → Some (added_column x) ≡ Some c → c.name ≡ x.name
  unfolding added_column
  added_has x c e = let same : added_column x ≡ c = cc in ap (λ c. c.name) (sym same)

  not_known : (x : AddedColumn) (c : Column) → is_new_name t.columns x.name ≡ true → Some (added_column x) ≡ Some c → list_any (bytes_eq c.name) (names t.columns) ≡ false
  unfolding is_new_name is_unknown column_named
  not_known x c new e = ap (λ n. list_any (bytes_eq n) (names t.columns)) (added_has x c e) ∙ unknown x.name t.columns (front _ _ new)

  added_plain : (x : AddedColumn) (c : Column) → Unit {0} → Some (added_column x) ≡ Some c → is_key c.kind ≡ true → is_plain c.shape ≡ true
  unfolding added_column other_kind
  added_plain x c o e is = let same : added_column x ≡ c = cc in let isnt : is_key c.kind ≡ false = ap (λ c. is_key c.kind) (sym same) ∙ none x.is_static in cc
    where
      none : (b : Bool) → is_key (other_kind b) ≡ false
      none true = refl
      none false = refl

  each_any : (xs : List AddedColumn) → AllByRecursion (λ a. Unit {0}) xs
  each_any [] = tt
  each_any (x ∷ xs) = (tt, each_any xs)

  pub stays_table : refusal_for (alter_reasons t a) ≡ None → IsTable t → IsTable (record t { columns = t.columns ++ map added_column a.added })
  unfolding alter_reasons alter_is_malformed
  stays_table e is =
      let good : alter_is_malformed t a ≡ false = none_bad (alter_reasons t a) e in
      let new : list_all (λ c. is_new_name t.columns c.name) a.added ≡ true = so _ (not_first _ _ (not_second _ _ good)) in
      let makes : filter_map (λ x. Some (added_column x)) a.added ≡ map added_column a.added = all_made a.added in
      let its : Once (map added_column a.added) = subst Once makes (once_made (λ x. Some (added_column x)) (λ x. x.name) added_has a.added (not_first _ _ good)) in
      let unknowns : AreNew t.columns (map added_column a.added) = subst (AreNew t.columns) makes
      (made (λ x. Some (added_column x)) (λ c. list_any (bytes_eq c.name) (names t.columns) ≡ false) (λ x. is_new_name t.columns x.name ≡ true) not_known a.added
      (all_pass (λ c. is_new_name t.columns c.name) a.added new)) in
      let plain : AllByRecursion (λ c. is_key c.kind ≡ true → is_plain c.shape ≡ true) (map added_column a.added) =
      subst (AllByRecursion (λ c. is_key c.kind ≡ true → is_plain c.shape ≡ true)) makes
      (made (λ x. Some (added_column x)) (λ c. is_key c.kind ≡ true → is_plain c.shape ≡ true) (λ x. Unit {0}) added_plain a.added (each_any a.added)) in
      record {
        once = once_together t.columns (map added_column a.added) is.once its unknowns;
        keyed = list_any-append (λ c. is_partition c.kind) t.columns (map added_column a.added)
            ∙ either_so _ (list_any (λ c. is_partition c.kind) (map added_column a.added)) is.keyed;
        plain = All-append (λ c. is_key c.kind ≡ true → is_plain c.shape ≡ true) t.columns (map added_column a.added) is.plain (All-from_recursion _ _ plain);
        lives = is.lives;
      }
