use Rattle.std.proofs.Common.{◌≡◌, fold, take}
use Rattle.cas_facts.specs.Inner.Gathering as gathering
use Rattle.cas_facts.proofs.gathering.with_cells.Given as goal

abbrev pub invariant-loop-p : goal.invariant-loop-p
invariant-loop-p l = l.now ≡ fold gathering.with_cell l.fn.facts (take l.p-index l.cells)
