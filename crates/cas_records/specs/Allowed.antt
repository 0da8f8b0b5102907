-- Which columns a file names, and which cells it holds of a column.
-- Own.
use Rattle.std.specs.Prelude.{◌≡◌, ◌^◌, ◌<◌, ℕ, Bool, true, List, length}
use Rattle.cas_atoms.specs.declared.atom.ColumnRef.{ColumnRef}
use Rattle.cas_types.specs.declared.schema.Column.{Column}
use Rattle.cas_cell.specs.declared.cell.Cell.{Cell}
use Rattle.cas_atoms.specs.Fits.{Names, is_cell_value, FitsCell}
use Rattle.cas_records.specs.declared.columns.Wanted.{Wanted}
use Rattle.cas_records.specs.Columns.{is_wanted}

-- a value that the test allows, spelled with its length in four bytes
abbrev pub FitsContent : (List ℕ → Bool) → List ℕ → Type 0
FitsContent allows bytes = (length bytes < 2 ^ 32) × (allows bytes ≡ true)

-- a cell of the column whose value has fewer than 2^32 bytes
abbrev pub FitsCellOf : Column → Cell → Type 0
FitsCellOf column c = FitsCell (FitsContent (is_cell_value column)) c

-- a column of the table that is wanted, and its reference; the number is spelled in two bytes
abbrev pub IsNamed : Wanted → List Column → ColumnRef × Column → Type 0
IsNamed wanted columns p = Names columns p.0 p.1 × (p.0.number < 2 ^ 16) × (is_wanted wanted p.1 ≡ true)
