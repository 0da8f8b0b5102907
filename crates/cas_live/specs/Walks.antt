-- The live rows of a stream as they come, by what has come before (own).
use Rattle.std.specs.Prelude.{ℤ, Option, None, List, [], ◌∷◌, ◌++◌}
use Rattle.std.specs.List.{flat_map, cons_option}
use Rattle.cas_cell.specs.declared.deletion.Deletion.{Deletion}
use Rattle.cas_atoms.specs.declared.atom.Atom.{Atom}
use Rattle.cas_atoms.specs.declared.query.Query.{Query}
use Rattle.cas_atoms.specs.declared.query.LiveRow.{LiveRow}
use Rattle.cas_streams.specs.Flat.{of_column}
use Rattle.cas_streams.specs.declared.fragment.Fragment.{Fragment}
use Rattle.cas_streams.specs.declared.fragment.Fragment.TheVariants as fragment
use Rattle.cas_live.specs.Views.{row_view, if_answered}

-- the live rows of the fragments to come, by what rows share so far and the range deletion in force
abbrev pub walk : Query → ℤ → List Atom → Option Deletion → List Fragment → List LiveRow
walk q now all force [] = []
walk q now all force (fragment.Static columns ∷ fs) = walk q now (all ++ flat_map (of_column None) columns) force fs
walk q now all force (fragment.Row r ∷ fs) = cons_option (if_answered q now (row_view all force r) r.clustering.values) (walk q now all force fs)
walk q now all force (fragment.Marker cut d ∷ fs) = walk q now all d fs

-- what rows share once the fragments have come
abbrev pub shared_after : List Atom → List Fragment → List Atom
shared_after all [] = all
shared_after all (fragment.Static columns ∷ fs) = shared_after (all ++ flat_map (of_column None) columns) fs
shared_after all (fragment.Row r ∷ fs) = shared_after all fs
shared_after all (fragment.Marker cut d ∷ fs) = shared_after all fs
