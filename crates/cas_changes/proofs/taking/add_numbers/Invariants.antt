use Rattle.std.proofs.Common.{◌≡◌, ◌++◌, take, map}
use Rattle.cas_changes.proofs.taking.add_numbers.Given as goal

abbrev pub invariant-loop-info : goal.invariant-loop-info
invariant-loop-info l = l.into.list.items ≡ l.initial.into.list.items ++ map (λ i. i.number) (take l.info-index l.infos)
