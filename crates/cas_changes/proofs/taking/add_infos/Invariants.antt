use Rattle.std.proofs.Common.{◌≡◌, ◌++◌, take}
use Rattle.cas_changes.proofs.taking.add_infos.Given as goal

abbrev pub invariant-loop-info : goal.invariant-loop-info
invariant-loop-info l = l.into.items ≡ l.initial.into.items ++ take l.info-index l.infos
