use Rattle.std.proofs.Common.{◌≡◌, drop}
use Rattle.cas_node.specs.Ran.{verdicts_cause}
use Rattle.cas_node.proofs.script.verdicts_cause.Given as goal

abbrev pub invariant-loop-verdict : goal.invariant-loop-verdict
invariant-loop-verdict l = verdicts_cause (drop l.verdict-index l.verdicts) ≡ verdicts_cause l.verdicts
