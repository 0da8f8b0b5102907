use Rattle.std.proofs.Common.{◌≡◌, ◌++◌, take}
use Rattle.std.specs.List.{flat_map}
use Rattle.cas_render.specs.Text.{verdict_text}
use Rattle.cas_render.proofs.printing.append_verdicts.Given as goal

abbrev pub invariant-loop-verdict : goal.invariant-loop-verdict
invariant-loop-verdict l = l.out.items ≡ l.initial.out.items ++ flat_map verdict_text (take l.verdict-index l.verdicts)
