-- Which streams a table file may hold.
-- Own.
use Rattle.std.specs.Prelude.{List, Option, IfSome}
use Rattle.std.specs.List.{AllByRecursion}
use Rattle.cas_types.specs.Schemas.{is_static}
use Rattle.cas_types.specs.declared.schema.Column.{Column}
use Rattle.cas_cell.specs.declared.deletion.Deletion.{Deletion}
use Rattle.cas_atoms.specs.Fits.{FitsDeletion}
use Rattle.cas_streams.specs.declared.fragment.Fragment.{Fragment}
use Rattle.cas_fragments.specs.Allowed.{FitColumns, FitsFragment, HaveRoom, HasSpelling}
use Rattle.cas_fragments.specs.Blocks.{statics_in, behind_statics}

-- a stream of which a file of a table with these columns may hold all that is said: the DELETE of the partition, static columns, and rows and markers
pub record FitsTable (columns : List Column) (over : Option Deletion) (fs : List Fragment) : Type 0 where
  pub top : IfSome over FitsDeletion
  pub statics : FitColumns is_static columns (statics_in fs)
  pub rest : AllByRecursion (FitsFragment columns) (behind_statics fs)

-- all lengths and numbers of its fragments have room in their fields
abbrev pub HasRoom : List Fragment → Type 0
HasRoom fs = HaveRoom (statics_in fs) × AllByRecursion HasSpelling (behind_statics fs)
