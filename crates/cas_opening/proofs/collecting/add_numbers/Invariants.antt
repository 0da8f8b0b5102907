use Rattle.std.proofs.Common.{◌≡◌, ◌++◌, take}
use Rattle.cas_opening.specs.Inner.Counting.{numbers_of}
use Rattle.cas_opening.proofs.collecting.add_numbers.Given as goal

abbrev pub invariant-loop-info : goal.invariant-loop-info
invariant-loop-info l = l.out.items ≡ l.fn.out.items ++ numbers_of (take l.info-index l.infos)
