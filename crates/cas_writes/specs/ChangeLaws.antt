-- Of which columns the atoms of a statement's write are, by the names that stand in the statement.
-- CQL documentation, "Data manipulation: INSERT, UPDATE, DELETE" and "Data types: collections".
use Rattle.std.specs.Prelude.{◌≡◌, ℕ, ℤ, Bool, true, false, not, ◌&&◌, ◌||◌, List, [], map, filter, is_some, Ok}
use Rattle.std.specs.List.{list_any, slice_get}
use Rattle.std.specs.Option.{option_map_or}
use Rattle.std.specs.Str.{bytes_eq}
use Rattle.cas_types.specs.Schemas.{is_key}
use Rattle.cas_types.specs.declared.schema.TableSchema.{TableSchema}
use Rattle.cql_parse.specs.declared.term.Literal.{Literal}
use Rattle.cql_parse.specs.declared.syntax.Assigned.{Assigned}
use Rattle.cql_parse.specs.declared.syntax.Assigned.TheVariants as assigned
use Rattle.cql_parse.specs.declared.syntax.Statement.{Statement}
use Rattle.cql_parse.specs.declared.syntax.Statement.TheVariants as statement
use Rattle.cas_effects.specs.AtomsOf.{mutation_of}
use Rattle.cas_effects.specs.WriteLaws.{is_of_column}
use Rattle.cas_effects.specs.declared.effect.BoundWrite.{BoundWrite}
use Rattle.cas_terms.specs.Terms.{elements_in, entries_in}
use Rattle.cas_define.specs.IsTable.{IsTable}
use Rattle.cas_writes.specs.ChangeMeaning.{change_means}

-- something stands in `{..}` or `[..]`
abbrev pub has_parts : Literal → Bool
has_parts x = is_some (slice_get (elements_in x) 0) || is_some (slice_get (entries_in x) 0)

-- `c = c + {}`, `c = [] + c` and `c = c - {}` change nothing
abbrev pub changes_something : Assigned → Bool
changes_something (assigned.Append n x) = has_parts x
changes_something (assigned.Prepend x n) = has_parts x
changes_something (assigned.Remove n x) = has_parts x
changes_something _ = true

-- the columns that INSERT names, those that UPDATE assigns something, those that DELETE lists
abbrev pub names_changed : Statement → List (List ℕ)
names_changed (statement.Insert i) = i.columns
names_changed (statement.Update u) = map (λ a. a.column) (filter (λ a. changes_something a.value) u.assignments)
names_changed (statement.Delete d) = map (λ t. t.column) d.targets
names_changed _ = []

-- of a bound write exactly the columns that the statement names are written or deleted, but for those of the primary key, which say
-- where that is
abbrev pub ChangesItsNames : Type 0
ChangesItsNames =
    (shards : ℕ) (t : TableSchema) (s : Statement) (w : BoundWrite) → IsTable t → change_means shards t s ≡ Ok w
    → (drawn moment : ℤ) (number n : ℕ) → list_any (is_of_column n) (mutation_of w drawn moment number).atoms
    ≡ option_map_or (λ c. not (is_key c.kind) && list_any (bytes_eq c.name) (names_changed s)) (slice_get t.columns n) false
