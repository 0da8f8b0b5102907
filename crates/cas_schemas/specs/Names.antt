-- Which names tables and columns may have.
-- CQL documentation, "Data definition: CREATE TABLE": the name of a table has letters, digits and `_`, and at most 48 of them. That a column's name
-- is as short is own.
use Rattle.std.specs.Prelude.{ℕ, ◌==◌, Bool, ◌&&◌, ◌||◌, not, List, length}
use Rattle.std.specs.Char.{is_ascii_alphanumeric}
use Rattle.std.specs.Int.{is_in_range}
use Rattle.std.specs.List.{list_all, list_any}
use Rattle.std.specs.Str.{is_utf8, bytes_eq}
use Rattle.cas_types.specs.declared.schema.Column.{Column}
use Rattle.cas_types.specs.declared.schema.TableSchema.{TableSchema}
use Rattle.cas_schemas.specs.declared.names.TheConstants.{NAME_LIMIT}

-- a text of 1 to 48 bytes
unfoldable pub is_name : List ℕ → Bool
is_name n = is_in_range 1 NAME_LIMIT (length n) && is_utf8 n

-- of letters, digits and `_`
abbrev pub has_letters : List ℕ → Bool
has_letters n = list_all (λ c. is_ascii_alphanumeric c || (c == 95)) n

-- a name that none of these columns has
unfoldable pub is_new_column : List Column → List ℕ → Bool
is_new_column before n = is_name n && not (list_any (λ c. bytes_eq c.name n) before)

-- a name that a table may have, and none of these has
unfoldable pub is_new_table : List TableSchema → List ℕ → Bool
is_new_table tables n = is_name n && (has_letters n && not (list_any (λ t. bytes_eq t.name n) tables))
