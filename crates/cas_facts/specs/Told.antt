-- What the fragments of a partition tell, as they come one by one (own).
use Rattle.std.specs.Prelude.{Option, List, ◌++◌}
use Rattle.std.specs.List.{flat_map}
use Rattle.cas_cell.specs.declared.deletion.Deletion.{Deletion}
use Rattle.cas_atoms.specs.declared.atom.Atom.{Atom}
use Rattle.cas_atoms.specs.declared.atom.Atom.TheVariants.{PartitionDeletion, RangeDeletion}
use Rattle.cas_streams.specs.Flat.{atom_of, own}
use Rattle.cas_streams.specs.declared.fragment.Fragment.{Fragment}
use Rattle.cas_streams.specs.declared.fragment.Fragment.TheVariants as fragment

-- the deletion of the whole partition
abbrev pub top_told : Option Deletion → List Atom
top_told top = atom_of PartitionDeletion top

-- what a fragment says of its own row; and the range deletion that a marker puts in force, for wherever it ends
abbrev pub told : Fragment → List Atom
told (fragment.Static columns) = own (fragment.Static columns)
told (fragment.Row r) = own (fragment.Row r)
told (fragment.Marker cut d) = atom_of (RangeDeletion cut cut) d

-- what a partition tells with these fragments
abbrev pub all_told : Option Deletion → List Fragment → List Atom
all_told top fs = top_told top ++ flat_map told fs
