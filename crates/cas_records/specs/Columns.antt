-- Reading the number of a column, and the path of one of its cells.
-- CQL documentation, "Data types: collections" and "Data definition: static columns"; the paths of lists are own. The place of a refusal is that
-- of the refused field's first byte.
use Rattle.std.specs.Prelude.{ℕ, Bool, true, false, ◌&&◌, not, List, length, slice_get, Option, None, Some, if◌then◌else◌, Ok, Err}
use Rattle.cas_codec.specs.declared.fault.ReadFault.TheVariants.{Bad}
use Rattle.cas_codec.specs.Reading.{Left, Read, ◌>>=◌, u16_at, bytes16_at}
use Rattle.cas_types.specs.Schemas.{is_regular, is_static, is_plain, path_type}
use Rattle.cas_types.specs.declared.schema.Column.{Column}
use Rattle.cas_atoms.specs.declared.atom.ColumnRef.{ColumnRef}
use Rattle.cas_atoms.specs.Fits.{is_path_in}
use Rattle.cas_records.specs.declared.columns.Wanted.{Wanted}
use Rattle.cas_records.specs.declared.columns.Wanted.TheVariants.{Regular, Static, RegularCollection, StaticCollection}

-- a column of rows or of the static row; where all of a column is deleted, a collection
abbrev pub is_wanted : Wanted → Column → Bool
is_wanted Regular column = is_regular column.kind
is_wanted Static column = is_static column.kind
is_wanted RegularCollection column = is_regular column.kind && not (is_plain column.shape)
is_wanted StaticCollection column = is_static column.kind && not (is_plain column.shape)

-- a column by its number, and by the type of what tells its cells apart
abbrev pub ref_of : ℕ → Column → ColumnRef
ref_of n column = record { number = n; path = path_type column.shape column.tag }

-- the column that has the number, where there is one and it is wanted
abbrev pub named_at : ℕ → Wanted → ℕ → Left → Option Column → Read (ColumnRef × Column)
named_at place wanted n left None = Err (Bad place)
named_at place wanted n left (Some column) = if is_wanted wanted column then Ok ((ref_of n column, column), left) else Err (Bad place)

-- the number of a column in two bytes
unfoldable pub column_at : Wanted → List Column → Left → Read (ColumnRef × Column)
column_at wanted columns left = do
  number ← u16_at left
  named_at left.at wanted number.0 number.1 (slice_get columns number.0)

-- whether a cell of the column may stand at that path
unfoldable pub has_path : Column → List ℕ → Bool
has_path column bytes = is_path_in column.shape column.tag bytes

-- the path of a cell of the column, with its length in two bytes
unfoldable pub path_at : Column → Left → Read (List ℕ)
path_at column left = do
  bytes ← bytes16_at left
  if has_path column bytes.0 then Ok bytes else Err (Bad left.at)
