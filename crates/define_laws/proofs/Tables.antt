-- A table that a CREATE TABLE makes and the columns that an ALTER TABLE adds are such as the manifest takes.
use Rattle.std.proofs.Common.{◌≡◌, ℕ, ◌<◌, ◌≤◌, ◌+◌, ◌-◌, nat_lt, nat_le, ◌==◌, Bool, true, false, cond, not, ◌&&◌, ◌||◌, List, [], ◌∷◌, ◌++◌, length, map, filter, filter_map, bytes_eq, Option, None, Some, Ok, option_map, refl, sym, ap, subst, ◌∙◌, length-append, arith}
use Rattle.std.specs.Bool.{then_some}
use Rattle.std.specs.Char.{is_ascii_alphanumeric}
use Rattle.std.specs.Int.{is_in_range}
use Rattle.std.specs.List.{AllByRecursion, cons_option, list_all, list_any, slice_get}
use Rattle.std.specs.Option.{option_map_or}
use Rattle.std.specs.Str.{is_utf8}
use Rattle.std.proofs.lemmas.Bool.{leb-true, ltb-true, and_parts}
use Rattle.std.proofs.lemmas.List.{length-map}
use Rattle.std.proofs.lemmas.List.Folds.{list_any-append}
use Rattle.std.proofs.lemmas.Slice.Eq.{bytes_eq-Decides}
use Rattle.std.proofs.lemmas.Str.{IsUtf8-from_ascii, is_utf8-from_IsUtf8}
use Rattle.std.proofs.lemmas.Str.Ascii.{IsAscii-nil, IsAscii-cons}
use Rattle.std.specs.Prelude.{IsAscii}
use Rattle.cas_types.specs.Schemas.{is_partition, is_clustering, is_key, is_plain}
use Rattle.cas_types.specs.declared.limits.TheConstants.{COLUMN_LIMIT}
use Rattle.cas_types.specs.declared.schema.Column.{Column}
use Rattle.cas_types.specs.declared.schema.Kind.TheVariants.{Ascending, Descending}
use Rattle.cas_types.specs.declared.schema.TableSchema.{TableSchema}
use Rattle.cql_parse.specs.declared.syntax.AddedColumn.{AddedColumn}
use Rattle.cql_parse.specs.declared.syntax.AlterTable.{AlterTable}
use Rattle.cql_parse.specs.declared.syntax.CreateTable.{CreateTable}
use Rattle.cql_parse.specs.declared.syntax.DefinedColumn.{DefinedColumn}
use Rattle.cql_parse.specs.declared.syntax.PrimaryKey.{PrimaryKey}
use Rattle.cql_parse.specs.declared.syntax.TableOption.{TableOption}
use Rattle.cas_effects.specs.Refusals.{refusal_for, first_of}
use Rattle.cas_effects.specs.declared.reasons.Reasons.{Reasons}
use Rattle.cas_effects.specs.declared.refusal.Refusal.{Refusal}
use Rattle.cas_effects.specs.declared.refusal.Refusal.TheVariants.{NoTable, TableExists, BadDefinition, NoColumn, BadOption}
use Rattle.cas_terms.specs.Columns.{clustering_columns}
use Rattle.cas_terms.specs.Names.{any_two, stands_twice}
use Rattle.cas_define.specs.AlterReasons.{is_new_name, alter_is_malformed, alter_reasons, alter_means}
use Rattle.cas_define.specs.CreateReasons.{create_reasons, create_means}
use Rattle.cas_define.specs.CreateTests.{may_be_key, orders_fit, statics_fit, key_fits_table, one_key_fits, names_defined, option_names, create_is_malformed}
use Rattle.cas_define.specs.IsTable.{IsTable}
use Rattle.cas_define.specs.Limits.{has_name_length, is_table_name}
use Rattle.cas_options.specs.Options.{options_of}
use Rattle.cas_define.specs.Outcomes.{outcome}
use Rattle.cas_define.specs.Schemas.{shape_of, column_of, other_kind, columns_defined, defined_named, keys_said, key_names, key_kind, key_column, other_column, orders_descending, columns_with, columns_of, schema_of, added_column, addition_of}
use Rattle.cas_define.proofs.Reasoning.{none_bad, few_tables, few_columns, few_together}
use Rattle.cas_define.proofs.Tables.{made_table, stays_table}
use Rattle.cas_schemas.specs.Allowed.{FitsTable}
use Rattle.cas_schemas.specs.Columns.{FitColumns, has_some}
use Rattle.cas_schemas.specs.Each.{EachFits}
use Rattle.cas_schemas.specs.Options.{FitsOptions}
use Rattle.cas_schemas.specs.Names.{is_name, is_new_table, has_letters}
use Rattle.cas_schemas.proofs.CodeLaws.{within}
use Rattle.define_laws.specs.Fits.{AreTexts, MadeTableFits, AddedColumnsFit}
use Rattle.define_laws.proofs.Columns.{IsFine, Stands, IsOther, columns_fit, fine_column, partition_stands, clustering_stands, others_stand, other_is, some_there}
use Rattle.define_laws.proofs.Options.{made_options_fit}
use Rattle.define_laws.proofs.Tests.{front, back, both, not_first, not_second, neither, first_so, second_so, so, not_so, its_not, both_of, each_of, of_any, together, fronts, backs, passes, passed, none_passes, found, each_on, made, made_parts}

-- ---- what isn't refused

is_false : {X : Type 0} (b : Bool) (x : X) → then_some b x ≡ None → b ≡ false
is_false true x e = cc
is_false false x e = refl

first_none : (o : Option Refusal) (rs : List (Option Refusal)) → first_of (o ∷ rs) ≡ None → o ≡ None
first_none None rs e = refl
first_none (Some r) rs e = cc

rest_none : (o : Option Refusal) (rs : List (Option Refusal)) → first_of (o ∷ rs) ≡ None → first_of rs ≡ None
rest_none None rs e = e
rest_none (Some r) rs e = cc

none_exists : (r : Reasons) → refusal_for r ≡ None → r.table_exists ≡ false
none_exists r e = is_false r.table_exists TableExists (first_none _ _ (rest_none (then_some r.no_table NoTable) _ e))

none_bad_option : (r : Reasons) → refusal_for r ≡ None → r.bad_option ≡ false
none_bad_option r e =
    is_false r.bad_option BadOption (first_none _ _ (rest_none (then_some r.no_column NoColumn) _ (rest_none (then_some r.bad_definition BadDefinition) _
    (rest_none (then_some r.table_exists TableExists) _ (rest_none (then_some r.no_table NoTable) _ e)))))

pub unrefused : {X : Type 0} (o : Option Refusal) (x y : X) → outcome o x ≡ Ok y → (o ≡ None) × (x ≡ y)
unrefused None x y e = (refl, cc)
unrefused (Some r) x y e = cc

-- ---- names

a_name : (n : List ℕ) → has_name_length n ≡ true → is_utf8 n ≡ true → is_name n ≡ true
unfolding has_name_length is_name
a_name n long text =
    let parts = and_parts (nat_lt 0 (length n)) (nat_le (length n) 48) long in
    let least : 0 < length n = ltb-true _ _ parts.0 in
    let most : length n ≤ 48 = leb-true _ _ parts.1 in
    both (is_in_range 1 48 (length n)) (is_utf8 n) (within 1 48 (length n) (omega arith) most) text

letter_small : (c : ℕ) → (is_ascii_alphanumeric c || (c == 95)) ≡ true → c < 128
letter_small c e = grind arith

letters_ascii : (n : List ℕ) → has_letters n ≡ true → IsAscii n
letters_ascii [] e = IsAscii-nil
letters_ascii (c ∷ n) e =
    IsAscii-cons c n (letter_small c (front (is_ascii_alphanumeric c || (c == 95)) (has_letters n) e)) (letters_ascii n (back (is_ascii_alphanumeric c || (c == 95)) (has_letters n) e))

a_table_name : (tables : List TableSchema) (n : List ℕ) → is_table_name n ≡ true → list_any (λ t. bytes_eq t.name n) tables ≡ false → is_new_table tables n ≡ true
unfolding is_table_name is_new_table
a_table_name tables n name new =
    let letters : has_letters n ≡ true = back (has_name_length n) (has_letters n) name in
    both (is_name n) (has_letters n && not (list_any (λ t. bytes_eq t.name n) tables))
    (a_name n (front (has_name_length n) (has_letters n) name) (is_utf8-from_IsUtf8 n (IsUtf8-from_ascii n (letters_ascii n letters))))
    (both (has_letters n) (not (list_any (λ t. bytes_eq t.name n) tables)) letters (its_not _ new))

-- ---- the columns of a CREATE TABLE

abbrev HasName : DefinedColumn → Type 0
HasName d = is_name d.name ≡ true

module _ (options : List TableOption) (ds : List DefinedColumn) (k : PrimaryKey) where
  key_made : (P : Column → Type 0) (n : List ℕ) (c : Column) → key_column options ds k n ≡ Some c
      → ((d : DefinedColumn) → defined_named ds n ≡ Some d → P (column_of (key_kind options k n) d.name d.column_type)) → P c
  unfolding key_column
  key_made P n c e gives = of (defined_named ds n) refl e
    where
      of : (o : Option DefinedColumn) → defined_named ds n ≡ o → option_map (λ d. column_of (key_kind options k n) d.name d.column_type) o ≡ Some c → P c
      of None f g = cc
      of (Some d) f g = let same : column_of (key_kind options k n) d.name d.column_type ≡ c = cc in subst P same (gives d f)

  other_made : (P : Column → Type 0) (d : DefinedColumn) (c : Column) → other_column k d ≡ Some c → P (column_of (other_kind d.is_static) d.name d.column_type) → P c
  unfolding other_column
  other_made P d c e p =
      elim (list_any (bytes_eq d.name) (key_names k)) as (λ b. cond b None (Some (column_of (other_kind d.is_static) d.name d.column_type)) ≡ Some c → P c) [
        | true ↦ λ f. cc
        | false ↦ λ f. let same : column_of (other_kind d.is_static) d.name d.column_type ≡ c = cc in subst P same p
      ] e

  named_plain : (n : List ℕ) (d : DefinedColumn) → may_be_key ds n ≡ true → defined_named ds n ≡ Some d → is_plain (shape_of d.column_type) ≡ true
  unfolding may_be_key
  named_plain n d may e =
      front (is_plain (shape_of d.column_type)) (not d.is_static) (ap (λ o. option_map_or (λ d. is_plain (shape_of d.column_type) && not d.is_static) o false) (sym e) ∙ may)

  key_fine : AllByRecursion HasName ds → (n : List ℕ) (c : Column) → may_be_key ds n ≡ true → key_column options ds k n ≡ Some c → IsFine c
  unfolding defined_named
  key_fine all n c may e =
      key_made IsFine n c e (λ d f. fine_column (key_kind options k n) d.name d.column_type (found HasName (λ d. bytes_eq d.name n) ds d all f) (λ is. named_plain n d may f))

  not_key : (b : Bool) → is_key (other_kind b) ≡ false
  unfolding other_kind
  not_key true = refl
  not_key false = refl

  other_fine : (d : DefinedColumn) (c : Column) → HasName d → other_column k d ≡ Some c → IsFine c
  other_fine d c name e =
      other_made IsFine d c e (fine_column (other_kind d.is_static) d.name d.column_type name (λ is. let isnt : is_key (other_kind d.is_static) ≡ false = not_key d.is_static in cc))

  -- of the partition key, and of the clustering columns
  partition_made : (n : List ℕ) (c : Column) → list_any (bytes_eq n) k.partition ≡ true → key_column options ds k n ≡ Some c → is_partition c.kind ≡ true
  unfolding key_kind
  partition_made n c is e = key_made (λ c. is_partition c.kind ≡ true) n c e (λ d f. rw is refl)

  clustering_made : (n : List ℕ) (c : Column) → list_any (bytes_eq n) k.partition ≡ false → key_column options ds k n ≡ Some c → is_clustering c.kind ≡ true
  unfolding key_kind
  clustering_made n c is e = key_made (λ c. is_clustering c.kind ≡ true) n c e (λ d f. rw is (of (list_any (orders_descending n) options)))
    where
      of : (b : Bool) → is_clustering (cond b Descending Ascending) ≡ true
      of true = refl
      of false = refl

  -- a key's column is there
  is_made : (n : List ℕ) → may_be_key ds n ≡ true → (c : Column) × (key_column options ds k n ≡ Some c)
  unfolding may_be_key key_column
  is_made n may = of (defined_named ds n) refl may
    where
      of : (o : Option DefinedColumn) → defined_named ds n ≡ o → option_map_or (λ d. is_plain (shape_of d.column_type) && not d.is_static) o false ≡ true
          → (c : Column) × (option_map (λ d. column_of (key_kind options k n) d.name d.column_type) (defined_named ds n) ≡ Some c)
      of None f g = cc
      of (Some d) f g = (column_of (key_kind options k n) d.name d.column_type, ap (option_map (λ d. column_of (key_kind options k n) d.name d.column_type)) f)

  some_made : (ns : List (List ℕ)) → AllByRecursion (λ n. may_be_key ds n ≡ true) ns → nat_lt 0 (length ns) ≡ true → has_some (filter_map (key_column options ds k) ns) ≡ true
  some_made [] may some = cc
  some_made (n ∷ ns) may some = let its = is_made n may.0 in
      ap (λ o. has_some (cons_option o (filter_map (key_column options ds k) ns))) its.1 ∙ some_there its.0 (filter_map (key_column options ds k) ns)

  -- a name of the clustering columns isn't of the partition key
  apart : (n : List ℕ) (ps : List (List ℕ)) → AllByRecursion (λ p. bytes_eq p n ≡ false) ps → list_any (bytes_eq n) ps ≡ false
  apart n [] all = refl
  apart n (p ∷ ps) all = neither (bytes_eq n p) (list_any (bytes_eq n) ps) (of (bytes_eq n p) refl) (apart n ps all.1)
    where
      of : (b : Bool) → bytes_eq n p ≡ b → bytes_eq n p ≡ false
      of false is = is
      of true is =
          let same : n ≡ p = (bytes_eq-Decides n p).0 is in
          let its : bytes_eq p n ≡ true = (bytes_eq-Decides p n).1 (sym same) in
          let isnt : bytes_eq p n ≡ false = all.0 in
          cc

  others_apart : (ps cs : List (List ℕ)) → any_two bytes_eq (ps ++ cs) ≡ false → AllByRecursion (λ c. AllByRecursion (λ p. bytes_eq p c ≡ false) ps) cs
  others_apart [] cs e = of_any (λ c. Unit {0}) (λ c. tt) cs
  others_apart (p ∷ ps) cs e =
      both_of (λ c. bytes_eq p c ≡ false) (λ c. AllByRecursion (λ p. bytes_eq p c ≡ false) ps) (λ c. AllByRecursion (λ p. bytes_eq p c ≡ false) (p ∷ ps)) (λ c f g. (f, g)) cs
      (backs (λ c. bytes_eq p c ≡ false) ps cs (none_passes (bytes_eq p) (ps ++ cs) (not_first (list_any (bytes_eq p) (ps ++ cs)) (any_two bytes_eq (ps ++ cs)) e)))
      (others_apart ps cs (not_second (list_any (bytes_eq p) (ps ++ cs)) (any_two bytes_eq (ps ++ cs)) e))

  in_itself : (ps : List (List ℕ)) → AllByRecursion (λ p. list_any (bytes_eq p) ps ≡ true) ps
  in_itself [] = tt
  in_itself (p ∷ ps) = (
    first_so (bytes_eq p p) (list_any (bytes_eq p) ps) ((bytes_eq-Decides p p).1 refl),
    each_of (λ q. list_any (bytes_eq q) ps ≡ true) (λ q. list_any (bytes_eq q) (p ∷ ps) ≡ true) (λ q e. second_so (bytes_eq q p) (list_any (bytes_eq q) ps) e) ps (in_itself ps),
  )

  abbrev parts : List Column
  parts = filter_map (key_column options ds k) k.partition

  abbrev clusters : List Column
  clusters = filter_map (key_column options ds k) k.clustering

  abbrev others : List Column
  others = filter_map (other_column k) ds

  parts_are : AllByRecursion (λ c. is_partition c.kind ≡ true) parts
  parts_are = made (key_column options ds k) (λ c. is_partition c.kind ≡ true) (λ n. list_any (bytes_eq n) k.partition ≡ true) (λ n c is e. partition_made n c is e) k.partition (in_itself k.partition)

  clusters_are : stands_twice (key_names k) ≡ false → AllByRecursion (λ c. is_clustering c.kind ≡ true) clusters
  clusters_are once =
      made (key_column options ds k) (λ c. is_clustering c.kind ≡ true) (λ n. AllByRecursion (λ p. bytes_eq p n ≡ false) k.partition)
      (λ n c is e. clustering_made n c (apart n k.partition is) e) k.clustering (others_apart k.partition k.clustering once)

  -- a column is static only where the key has clustering columns
  statics_are : statics_fit k.clustering ds ≡ true → AllByRecursion (λ d. d.is_static ≡ true → nat_lt 0 (length k.clustering) ≡ true) ds
  unfolding statics_fit
  statics_are e = of (nat_lt 0 (length k.clustering)) refl
    where
      of : (b : Bool) → nat_lt 0 (length k.clustering) ≡ b → AllByRecursion (λ d. d.is_static ≡ true → nat_lt 0 (length k.clustering) ≡ true) ds
      of true is = of_any (λ d. d.is_static ≡ true → nat_lt 0 (length k.clustering) ≡ true) (λ d s. is) ds
      of false is =
          let none : not (list_any (λ d. d.is_static) ds) ≡ true = ap (λ b. b || not (list_any (λ d. d.is_static) ds)) (sym is) ∙ e in
          each_of (λ d. d.is_static ≡ false) (λ d. d.is_static ≡ true → nat_lt 0 (length k.clustering) ≡ true) (λ d f s. cc) ds
          (none_passes (λ d. d.is_static) ds (not_so (list_any (λ d. d.is_static) ds) none))

  others_are : statics_fit k.clustering ds ≡ true → AllByRecursion (IsOther (nat_lt 0 (length k.clustering))) others
  others_are e =
      made (other_column k) (IsOther (nat_lt 0 (length k.clustering))) (λ d. d.is_static ≡ true → nat_lt 0 (length k.clustering) ≡ true)
      (λ d c s f. other_made (IsOther (nat_lt 0 (length k.clustering))) d c f (other_is (nat_lt 0 (length k.clustering)) d.is_static s)) ds (statics_are e)

  some_in_front : (cs ds : List Column) → has_some cs ≡ true → has_some (cs ++ ds) ≡ true
  some_in_front [] ds e = cc
  some_in_front (c ∷ cs) ds e = some_there c (cs ++ ds)

  one_clusters : (cs : List Column) → has_some cs ≡ true → AllByRecursion (λ c. is_clustering c.kind ≡ true) cs → list_any (λ c. is_clustering c.kind) cs ≡ true
  one_clusters [] some all = cc
  one_clusters (c ∷ cs) some all = first_so (is_clustering c.kind) (list_any (λ c. is_clustering c.kind) cs) all.0

  all_stand : nat_lt 0 (length k.partition) ≡ true → list_all (may_be_key ds) (key_names k) ≡ true → stands_twice (key_names k) ≡ false → statics_fit k.clustering ds ≡ true
      → EachFits (Stands true) [] (filter_map (key_column options ds k) (key_names k) ++ others)
  all_stand begun may once statics =
      let may_each : AllByRecursion (λ n. may_be_key ds n ≡ true) (k.partition ++ k.clustering) = passes (may_be_key ds) (key_names k) may in
      let some : has_some parts ≡ true = some_made k.partition (fronts (λ n. may_be_key ds n ≡ true) k.partition k.clustering may_each) begun in
      let are : AllByRecursion (λ c. is_clustering c.kind ≡ true) clusters = clusters_are once in
      let keys : list_all (λ c. is_key c.kind) parts ≡ true =
      passed (λ c. is_key c.kind) parts (each_of (λ c. is_partition c.kind ≡ true) (λ c. is_key c.kind ≡ true) (λ c e. first_so (is_partition c.kind) (is_clustering c.kind) e) parts parts_are) in
      let clustered : nat_lt 0 (length k.clustering) ≡ true → list_any (λ c. is_clustering c.kind) (parts ++ clusters) ≡ true =
      λ e. list_any-append (λ c. is_clustering c.kind) parts clusters
      ∙ second_so (list_any (λ c. is_clustering c.kind) parts) (list_any (λ c. is_clustering c.kind) clusters)
      (one_clusters clusters (some_made k.clustering (backs (λ n. may_be_key ds n ≡ true) k.partition k.clustering may_each) e) are) in
      let key : EachFits (Stands true) [] (parts ++ clusters) =
      each_on (Stands true) [] parts clusters (partition_stands [] parts refl parts_are) (clustering_stands parts clusters some keys are) in
      let all : EachFits (Stands true) [] ((parts ++ clusters) ++ others) =
      each_on (Stands true) [] (parts ++ clusters) others key
      (others_stand true (nat_lt 0 (length k.clustering)) (parts ++ clusters) others (some_in_front parts clusters some) clustered (others_are statics)) in
      subst (λ cs. EachFits (Stands true) [] (cs ++ others)) (sym (made_parts (key_column options ds k) k.partition k.clustering)) all

  all_fine : AllByRecursion HasName ds → list_all (may_be_key ds) (key_names k) ≡ true → AllByRecursion IsFine (filter_map (key_column options ds k) (key_names k) ++ others)
  all_fine named may =
      together IsFine (filter_map (key_column options ds k) (key_names k)) others
      (made (key_column options ds k) IsFine (λ n. may_be_key ds n ≡ true) (λ n c is e. key_fine named n c is e) (key_names k) (passes (may_be_key ds) (key_names k) may))
      (made (other_column k) IsFine HasName (λ d c is e. other_fine d c is e) ds named)

-- ---- a CREATE TABLE

module _ (c : CreateTable) where
  abbrev Stood : List Column → Type 0
  Stood cs = EachFits (Stands true) [] cs × AllByRecursion IsFine cs

  columns_stand : (ks : List PrimaryKey) → keys_said c.items ≡ ks → one_key_fits c ks ≡ true → AllByRecursion HasName (columns_defined c.items) → Stood (columns_of c)
  unfolding one_key_fits columns_of columns_with key_fits_table
  columns_stand [] said e named = cc
  columns_stand (k ∷ []) said e named =
      let ds : List DefinedColumn = columns_defined c.items in
      let rest : (list_all (may_be_key (columns_defined c.items)) (key_names k) && (not (stands_twice (key_names k))
      && (orders_fit k.clustering c.options && statics_fit k.clustering (columns_defined c.items)))) ≡ true = back _ _ e in
      let begun : nat_lt 0 (length k.partition) ≡ true = front _ _ e in
      let may : list_all (may_be_key (columns_defined c.items)) (key_names k) ≡ true = front _ _ rest in
      let last : (not (stands_twice (key_names k)) && (orders_fit k.clustering c.options && statics_fit k.clustering (columns_defined c.items))) ≡ true = back _ _ rest in
      let ends : (orders_fit k.clustering c.options && statics_fit k.clustering (columns_defined c.items)) ≡ true = back _ _ last in
      let are : columns_of c ≡ filter_map (key_column c.options (columns_defined c.items) k) (key_names k) ++ filter_map (other_column k) (columns_defined c.items) =
      ap (λ ks. option_map_or (columns_with c.options (columns_defined c.items)) (slice_get ks 0) []) said in
      subst Stood (sym are)
      (all_stand c.options (columns_defined c.items) k begun may (not_so _ (front _ _ last)) (back _ _ ends), all_fine c.options (columns_defined c.items) k named may)
  columns_stand (k ∷ l ∷ ks) said e named = cc

  named_all : (ds : List DefinedColumn) → list_all has_name_length (names_defined ds) ≡ true → AreTexts (names_defined ds) → AllByRecursion HasName ds
  named_all [] long texts = tt
  named_all (d ∷ ds) long texts = (
    a_name d.name (front (has_name_length d.name) (list_all has_name_length (names_defined ds)) long) (front (is_utf8 d.name) (list_all is_utf8 (names_defined ds)) texts),
    named_all ds (back (has_name_length d.name) (list_all has_name_length (names_defined ds)) long) (back (is_utf8 d.name) (list_all is_utf8 (names_defined ds)) texts),
  )

  some_keyed : (cs : List Column) → list_any (λ c. is_partition c.kind) cs ≡ true → 1 ≤ length cs
  some_keyed [] e = cc
  some_keyed (c ∷ cs) e = omega arith

  made_fits : (tables : List TableSchema) → AreTexts (names_defined (columns_defined c.items)) → refusal_for (create_reasons tables c) ≡ None → FitsTable tables (schema_of tables c)
  unfolding create_reasons create_is_malformed schema_of
  made_fits tables texts e =
      let good : create_is_malformed c ≡ false = none_bad (create_reasons tables c) e in
      let keyed : one_key_fits c (keys_said c.items) ≡ true = so _ (not_first _ _ good) in
      let after : (stands_twice (names_defined (columns_defined c.items)) || (stands_twice (option_names c.options)
      || (not (is_table_name c.table.name) || not (list_all has_name_length (names_defined (columns_defined c.items)))))) ≡ false = not_second _ _ good in
      let later : (stands_twice (option_names c.options)
      || (not (is_table_name c.table.name) || not (list_all has_name_length (names_defined (columns_defined c.items))))) ≡ false = not_second _ _ after in
      let names : (not (is_table_name c.table.name) || not (list_all has_name_length (names_defined (columns_defined c.items)))) ≡ false = not_second _ _ later in
      let name : is_table_name c.table.name ≡ true = so _ (not_first _ _ names) in
      let long : list_all has_name_length (names_defined (columns_defined c.items)) ≡ true = so _ (not_second _ _ names) in
      let few : length (columns_of c) ≤ 256 = few_columns tables c e in
      let stood : Stood (columns_of c) = columns_stand (keys_said c.items) refl keyed (named_all (columns_defined c.items) long texts) in
      let options : FitsOptions (options_of c.options) = made_options_fit c.options (so _ (none_bad_option (create_reasons tables c) e)) in
      let is : IsTable (schema_of tables c) = made_table c tables (schema_of tables c) e refl (options.ttl) in
      record {
        number = refl;
        few = few_tables tables c e;
        name = a_table_name tables c.table.name name (none_exists (create_reasons tables c) e);
        columns = (some_keyed (columns_of c) is.keyed, few, columns_fit true [] (columns_of c) is.once stood.0 stood.1);
        options = options;
      }

pub made_table_fits : MadeTableFits
unfolding create_means
made_table_fits tables c t texts e =
    let made = unrefused (refusal_for (create_reasons tables c)) (schema_of tables c) t e in subst (FitsTable tables) made.1 (made_fits c tables texts made.0)

-- ---- an ALTER TABLE

module _ (t : TableSchema) (a : AlterTable) where
  fine_added : (xs : List AddedColumn) → list_all (λ x. is_new_name t.columns x.name) xs ≡ true → AreTexts (map (λ x. x.name) xs) → AllByRecursion IsFine (map added_column xs)
  unfolding added_column is_new_name
  fine_added [] new texts = tt
  fine_added (x ∷ xs) new texts =
      let its : is_new_name t.columns x.name ≡ true = front (is_new_name t.columns x.name) (list_all (λ x. is_new_name t.columns x.name) xs) new in (
        fine_column (other_kind x.is_static) x.name x.column_type (a_name x.name (back _ _ its) (front (is_utf8 x.name) (list_all is_utf8 (map (λ x. x.name) xs)) texts))
            (λ is. let isnt : is_key (other_kind x.is_static) ≡ false = (other_is true x.is_static (λ s. refl)).0 in cc),
        fine_added xs (back (is_new_name t.columns x.name) (list_all (λ x. is_new_name t.columns x.name) xs) new) (back (is_utf8 x.name) (list_all is_utf8 (map (λ x. x.name) xs)) texts),
      )

  none_clusters : (cs : List Column) → list_any (λ c. is_clustering c.kind) cs ≡ false → length (filter (λ c. is_clustering c.kind) cs) ≡ 0
  none_clusters [] e = refl
  none_clusters (c ∷ cs) e =
      rw (not_first (is_clustering c.kind) (list_any (λ c. is_clustering c.kind) cs) e) (none_clusters cs (not_second (is_clustering c.kind) (list_any (λ c. is_clustering c.kind) cs) e))

  abbrev clustered : Bool
  clustered = list_any (λ c. is_clustering c.kind) t.columns

  statics : (list_any (λ x. x.is_static) a.added && (length (clustering_columns t.columns) == 0)) ≡ false → AllByRecursion (λ x. x.is_static ≡ true → clustered ≡ true) a.added
  statics e = of clustered refl
    where
      of : (b : Bool) → clustered ≡ b → AllByRecursion (λ x. x.is_static ≡ true → clustered ≡ true) a.added
      of true is = of_any (λ x. x.is_static ≡ true → clustered ≡ true) (λ x s. is) a.added
      of false is =
          let none : length (clustering_columns t.columns) ≡ 0 = none_clusters t.columns is in
          let no_static : list_any (λ x. x.is_static) a.added ≡ false = alone (list_any (λ x. x.is_static) a.added) (ap (λ n. list_any (λ x. x.is_static) a.added && (n == 0)) (sym none) ∙ e) in
          each_of (λ x. x.is_static ≡ false) (λ x. x.is_static ≡ true → clustered ≡ true) (λ x f s. cc) a.added (none_passes (λ x. x.is_static) a.added no_static)
        where
          alone : (b : Bool) → (b && true) ≡ false → b ≡ false
          alone true f = f
          alone false f = refl

  others_added : (xs : List AddedColumn) → AllByRecursion (λ x. x.is_static ≡ true → clustered ≡ true) xs → AllByRecursion (IsOther clustered) (map added_column xs)
  unfolding added_column
  others_added [] all = tt
  others_added (x ∷ xs) all = (other_is clustered x.is_static all.0, others_added xs all.1)

  some_keyed_column : (cs : List Column) → list_any (λ c. is_partition c.kind) cs ≡ true → has_some cs ≡ true
  some_keyed_column [] e = cc
  some_keyed_column (c ∷ cs) e = some_there c cs

  fits_behind : (n : ℕ) → length (t.columns ++ map added_column a.added) ≤ n → length (map added_column a.added) ≤ n - length t.columns
  fits_behind n few =
      let sum : length (t.columns ++ map added_column a.added) ≡ length t.columns + length (map added_column a.added) = length-append t.columns (map added_column a.added) in
      omega arith

  added_fit : IsTable t → 1 ≤ length a.added → AreTexts (map (λ x. x.name) a.added) → refusal_for (alter_reasons t a) ≡ None
      → FitColumns (256 - length t.columns) false t.columns (map added_column a.added)
  unfolding alter_reasons alter_is_malformed
  added_fit is some texts e =
      let good : alter_is_malformed t a ≡ false = none_bad (alter_reasons t a) e in
      let rest : (not (list_all (λ x. is_new_name t.columns x.name) a.added) || (list_any (λ x. x.is_static) a.added && (length (clustering_columns t.columns) == 0))) ≡ false =
      not_second _ _ good in
      let new : list_all (λ x. is_new_name t.columns x.name) a.added ≡ true = so _ (not_first _ _ rest) in
      let stays : IsTable (record t { columns = t.columns ++ map added_column a.added }) = stays_table t a e is in (
        subst (λ n. 1 ≤ n) (sym (length-map a.added added_column)) some,
        fits_behind 256 (few_together t a e),
        columns_fit false t.columns (map added_column a.added) stays.once
            (others_stand false clustered t.columns (map added_column a.added) (some_keyed_column t.columns is.keyed) (λ s. s) (others_added a.added (statics (not_second _ _ rest))))
            (fine_added a.added new texts),
      )

pub added_columns_fit : AddedColumnsFit
unfolding alter_means addition_of
added_columns_fit t a d is some texts e =
    let made = unrefused (refusal_for (alter_reasons t a)) (addition_of t a) d e in
    subst (λ d. FitColumns (COLUMN_LIMIT - length t.columns) false t.columns d.columns) made.1 (added_fit t a is some texts made.0)
