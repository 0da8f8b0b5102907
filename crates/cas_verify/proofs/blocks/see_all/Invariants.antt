use Rattle.std.proofs.Common.{take}
use Rattle.std.specs.List.{flat_map}
use Rattle.cas_facts.specs.Told.{told}
use Rattle.cas_verify.specs.Inner.Walks.{Sees}
use Rattle.cas_verify.proofs.blocks.see_all.Given as goal

abbrev pub invariant-loop-fragment : goal.invariant-loop-fragment
invariant-loop-fragment l = Sees l.fn.seen (flat_map told (take l.fragment-index l.fragments)) l.seen
