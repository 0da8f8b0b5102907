use Rattle.std.proofs.Common.{◌≡◌, fold, take}
use Rattle.cas_facts.specs.Inner.Gathering as gathering
use Rattle.cas_facts.proofs.gathering.with_columns.Given as goal

abbrev pub invariant-loop-c : goal.invariant-loop-c
invariant-loop-c l = l.now ≡ fold gathering.with_column l.fn.facts (take l.c-index l.columns)
