-- Entries that may follow one another tell of tables such as CREATE TABLE and ALTER TABLE make them.
use Rattle.std.proofs.Common.{◌≡◌, ℕ, zero, suc, ◌+◌, ◌≤◌, ◌<◌, ◌-◌, Bool, true, false, not, ◌||◌, List, [], ◌∷◌, ◌++◌, length, map, bytes_eq, Some, slice_get, refl, sym, subst, append_assoc, ◌∙◌, length-append, arith}
use Rattle.std.specs.List.{All, AllByRecursion, fold, list_any}
use Rattle.std.proofs.lemmas.List.{append-nil}
use Rattle.std.proofs.lemmas.List.Elements.{All-append, All-from_recursion, All-nil, recursion_from_All}
use Rattle.std.proofs.lemmas.List.Folds.{list_any-append}
use Rattle.cas_types.specs.Limits.{IsNarrow}
use Rattle.cas_types.specs.Schemas.{is_partition, is_key, is_plain}
use Rattle.cas_types.specs.declared.limits.TheConstants.{COLUMN_LIMIT}
use Rattle.cas_types.specs.declared.schema.Column.{Column}
use Rattle.cas_types.specs.declared.schema.Kind.{Kind}
use Rattle.cas_types.specs.declared.schema.Kind.TheVariants.{Partition, Ascending, Descending, Static, Regular}
use Rattle.cas_types.specs.declared.schema.TableSchema.{TableSchema}
use Rattle.cas_terms.specs.Names.{any_two}
use Rattle.cas_define.specs.IsTable.{IsTable}
use Rattle.cas_define.specs.declared.addition.Addition.{Addition}
use Rattle.cas_bind.specs.Tables.{AreInPlace, AreTables, tables_after}
use Rattle.cas_bind.proofs.Kept.{create_keeps}
use Rattle.cas_bind.proofs.KeptTables.{numbered_after, holds_after}
use Rattle.cas_schemas.specs.Allowed.{FitsTable}
use Rattle.cas_schemas.specs.Columns.{may_stand, FitsColumn, FitColumns}
use Rattle.cas_schemas.specs.Each.{EachFits}
use Rattle.cas_schemas.specs.Names.{is_name, is_new_column}
use Rattle.cas_changes.specs.declared.entry.Entry.{Entry}
use Rattle.cas_changes.specs.declared.entry.Entry.TheVariants as entry
use Rattle.cas_changes.specs.Saying.{Saying, nothing, after, said_by, with_columns}
use Rattle.cas_changes.specs.Allowed.{FitsEntry}
use Rattle.cas_manifest.specs.File.{MayFollow}
use Rattle.define_laws.specs.Entries.{ToldTablesAreTables}
use Rattle.define_laws.proofs.Columns.{names, Once}
use Rattle.define_laws.proofs.Tests.{back, first_so, neither, not_first, not_second, not_so}

-- ---- names

-- no column before has the name, so each before has another
others_away : (b : Column) (before : List Column) (c : Column) → list_any (bytes_eq b.name) (names before) ≡ false → bytes_eq b.name c.name ≡ false
    → list_any (bytes_eq b.name) (names (before ++ c ∷ [])) ≡ false
others_away b [] c away apart = neither (bytes_eq b.name c.name) false apart refl
others_away b (d ∷ before) c away apart =
    neither (bytes_eq b.name d.name) (list_any (bytes_eq b.name) (names (before ++ c ∷ [])))
    (not_first (bytes_eq b.name d.name) (list_any (bytes_eq b.name) (names before)) away)
    (others_away b before c (not_second (bytes_eq b.name d.name) (list_any (bytes_eq b.name) (names before)) away) apart)

once_with : (before : List Column) (c : Column) → Once before → list_any (λ d. bytes_eq d.name c.name) before ≡ false → Once (before ++ c ∷ [])
once_with [] c once new = refl
once_with (b ∷ before) c once new =
    neither (list_any (bytes_eq b.name) (names (before ++ c ∷ []))) (any_two bytes_eq (names (before ++ c ∷ [])))
    (others_away b before c (not_first (list_any (bytes_eq b.name) (names before)) (any_two bytes_eq (names before)) once)
    (not_first (bytes_eq b.name c.name) (list_any (λ d. bytes_eq d.name c.name) before) new))
    (once_with before c (not_second (list_any (bytes_eq b.name) (names before)) (any_two bytes_eq (names before)) once)
    (not_second (bytes_eq b.name c.name) (list_any (λ d. bytes_eq d.name c.name) before) new))

is_away : (before : List Column) (n : List ℕ) → is_new_column before n ≡ true → list_any (λ d. bytes_eq d.name n) before ≡ false
unfolding is_new_column
is_away before n e = not_so (list_any (λ d. bytes_eq d.name n) before) (back (is_name n) (not (list_any (λ d. bytes_eq d.name n) before)) e)

once_all : (new : Bool) (before cs : List Column) → Once before → EachFits (FitsColumn new) before cs → Once (before ++ cs)
once_all new before [] once fit = subst Once (sym (append-nil before)) once
once_all new before (c ∷ cs) once fit =
    subst Once (append_assoc before (c ∷ []) cs)
    (once_all new (before ++ c ∷ []) cs (once_with before c once (is_away before c.name fit.0.name)) fit.1)

-- ---- the key

abbrev IsPlain : Column → Type 0
IsPlain c = is_key c.kind ≡ true → is_plain c.shape ≡ true

plain_key : (k : Bool) (p : Bool) → (p || not k) ≡ true → k ≡ true → p ≡ true
plain_key true true e is = refl
plain_key true false e is = cc
plain_key false p e is = cc

all_plain : (new : Bool) (before cs : List Column) → EachFits (FitsColumn new) before cs → AllByRecursion IsPlain cs
all_plain new before [] fit = tt
all_plain new before (c ∷ cs) fit = (plain_key (is_key c.kind) (is_plain c.shape) fit.0.shape, all_plain new (before ++ c ∷ []) cs fit.1)

-- the first column of all is of the partition key
first_partition : (k : Kind) → may_stand true [] k ≡ true → is_partition k ≡ true
first_partition Partition e = refl
first_partition Ascending e = cc
first_partition Descending e = cc
first_partition Static e = cc
first_partition Regular e = cc

has_key : (cs : List Column) → 1 ≤ length cs → EachFits (FitsColumn true) [] cs → list_any (λ c. is_partition c.kind) cs ≡ true
has_key [] some fit = absurd (omega arith)
has_key (c ∷ cs) some fit = first_so (is_partition c.kind) (list_any (λ c. is_partition c.kind) cs) (first_partition c.kind fit.0.kind)

still_key : (cs ds : List Column) → list_any (λ c. is_partition c.kind) cs ≡ true → list_any (λ c. is_partition c.kind) (cs ++ ds) ≡ true
still_key cs ds is =
    list_any-append (λ c. is_partition c.kind) cs ds ∙ first_so (list_any (λ c. is_partition c.kind) cs) (list_any (λ c. is_partition c.kind) ds) is

-- ---- a table that is told, and its columns

told_table : (tables : List TableSchema) (t : TableSchema) → FitsTable tables t → IsTable t
told_table tables t fit = record {
  once = once_all true [] t.columns refl fit.columns.2;
  keyed = has_key t.columns fit.columns.0 fit.columns.2;
  plain = All-from_recursion IsPlain t.columns (all_plain true [] t.columns fit.columns.2);
  lives = fit.options.ttl;
}

abbrev with_more : List Column → TableSchema → TableSchema
with_more columns t = record t { columns = t.columns ++ columns }

told_columns : (t : TableSchema) (columns : List Column) → IsTable t → FitColumns (COLUMN_LIMIT - length t.columns) false t.columns columns → IsTable (with_more columns t)
told_columns t columns is fit = record {
  once = once_all false t.columns columns is.once fit.2;
  keyed = still_key t.columns columns is.keyed;
  plain = All-append IsPlain t.columns columns is.plain (All-from_recursion IsPlain columns (all_plain false t.columns columns fit.2));
  lives = is.lives;
}

narrow_columns : (t : TableSchema) (columns : List Column) → FitColumns (COLUMN_LIMIT - length t.columns) false t.columns columns → IsNarrow (t.columns ++ columns)
narrow_columns t columns fit = omega (arith, fit.0, fit.1, length-append t.columns columns)

-- ---- numbers and places

-- what holds of the table at a place holds of each that has its number, since there is no other
module _ (P : TableSchema → Type 0) where
  none_below : (n m : ℕ) (ts : List TableSchema) → n < m → AreInPlace m ts → AllByRecursion (λ u. u.number ≡ n → P u) ts
  none_below n m [] below numbered = tt
  none_below n m (u ∷ us) below numbered = (
    (λ same. let its : u.number ≡ m = numbered.0 in absurd (omega (arith, below, its, same))),
    none_below n (m + 1) us (omega (arith, below)) numbered.1,
  )

  holds_of_place : (n i : ℕ) (ts : List TableSchema) (t : TableSchema) → AreInPlace n ts → slice_get ts i ≡ Some t → P t → AllByRecursion (λ u. u.number ≡ n + i → P u) ts
  holds_of_place n i [] t numbered e holds = tt
  holds_of_place n zero (u ∷ us) t numbered e holds =
      let same : u ≡ t = cc in
      ((λ number. subst P (sym same) holds), none_below (n + 0) (n + 1) us (omega arith) numbered.1)
  holds_of_place n (suc i) (u ∷ us) t numbered e holds = (
    (λ same. let its : u.number ≡ n = numbered.0 in absurd (omega (arith, its, same))),
    subst (λ m. AllByRecursion (λ u. u.number ≡ m → P u) us) (omega arith) (holds_of_place (n + 1) i us t numbered.1 e holds),
  )

at_place : (P : TableSchema → Type 0) (i : ℕ) (ts : List TableSchema) (t : TableSchema) → AllByRecursion P ts → slice_get ts i ≡ Some t → P t
at_place P i [] t all e = cc
at_place P zero (u ∷ us) t all e = let same : u ≡ t = cc in subst P same all.0
at_place P (suc i) (u ∷ us) t all e = at_place P i us t all.1 e

-- ---- tables stay as they are to be

one_more : (tables : List TableSchema) (t : TableSchema) → AreTables tables → FitsTable tables t → AreTables (tables ++ t ∷ [])
unfolding tables_after
one_more tables t are fit = create_keeps tables t are fit.columns.1 fit.number (told_table tables t fit)

more_columns : (tables : List TableSchema) (table : ℕ) (columns : List Column) (t : TableSchema) → AreTables tables → slice_get tables table ≡ Some t
    → FitColumns (COLUMN_LIMIT - length t.columns) false t.columns columns → AreTables (map (with_columns table columns) tables)
more_columns tables table columns t are there fit = record {
  narrow = each (λ t. IsNarrow t.columns) are.narrow (narrow_columns t columns fit);
  numbered = numbered_after addition 0 tables are.numbered;
  each = each IsTable are.each (told_columns t columns (at_place IsTable table tables t (recursion_from_All IsTable tables are.each) there) fit);
}
  where
    addition : Addition
    addition = record { table = table; columns = columns }

    each : (P : TableSchema → Type 0) → All P tables → P (with_more columns t) → All P (map (with_columns table columns) tables)
    each P all one =
        All-from_recursion P _ (holds_after addition P tables (recursion_from_All P tables all)
        (subst (λ m. AllByRecursion (λ u. u.number ≡ m → P (with_more columns u)) tables) (omega arith)
        (holds_of_place (λ u. P (with_more columns u)) 0 table tables t are.numbered there one)))

-- ---- what entries tell

after_entry : (s : Saying) (e : Entry) → AreTables s.tables → FitsEntry s e → AreTables (after s e).tables
after_entry s (entry.Store shards) are fit = are
after_entry s (entry.Schema t) are fit = one_more s.tables t are fit.1
after_entry s (entry.NewSegment n) are fit = are
after_entry s (entry.DropSegment n) are fit = are
after_entry s (entry.Change c) are fit = are
after_entry s (entry.AddColumns table columns) are fit = more_columns s.tables table columns fit.1 are fit.2 fit.3

after_all : (s : Saying) (entries : List Entry) → AreTables s.tables → MayFollow s entries → AreTables (fold after s entries).tables
after_all s [] are follow = are
after_all s (e ∷ entries) are follow = after_all (after s e) entries (after_entry s e are follow.0.0) follow.1

no_tables : AreTables []
no_tables = record { narrow = All-nil (λ t. IsNarrow t.columns); numbered = tt; each = All-nil IsTable }

pub told_tables_are_tables : ToldTablesAreTables
unfolding said_by
told_tables_are_tables entries follow = after_all nothing entries no_tables follow
