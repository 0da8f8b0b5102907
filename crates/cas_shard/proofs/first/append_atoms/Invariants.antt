use Rattle.std.proofs.Common.{◌≡◌, ◌++◌, filter, take}
use Rattle.cas_laws.specs.Inside.{is_read}
use Rattle.cas_shard.proofs.first.append_atoms.Given as goal

abbrev pub invariant-loop-atom : goal.invariant-loop-atom
invariant-loop-atom l = l.into.items ≡ l.initial.into.items ++ filter (is_read l.slice) (take l.atom-index l.atoms)
