use Rattle.std.proofs.Common.{◌≡◌, map, take}
use Rattle.cas_atoms.specs.Inner.Places.{row_at}
use Rattle.cas_atoms.specs.Picks.{shown_element}
use Rattle.cas_atoms.proofs.column_values.element_values.Given as goal

abbrev pub invariant-loop-bytes : goal.invariant-loop-bytes
invariant-loop-bytes l = l.values.items ≡ map (shown_element l.partition.atoms.now l.partition.now (row_at l.place) l.place.number) (take l.bytes-index l.paths)
