use Rattle.std.proofs.Common.{◌↔◌, ◌<◌, ◌^◌, length}
use Rattle.std.specs.List.{AllByRecursion}
use Rattle.cas_sstwrite.proofs.rooms.each_short.Given as goal

abbrev pub invariant-loop-rest : goal.invariant-loop-rest
invariant-loop-rest l = AllByRecursion (λ v. length v < 2 ^ 16) l.fn.values ↔ AllByRecursion (λ v. length v < 2 ^ 16) l.rest

abbrev pub decreases-loop-rest : goal.decreases-loop-rest
decreases-loop-rest l = length l.rest
