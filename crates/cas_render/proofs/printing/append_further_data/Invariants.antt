use Rattle.std.proofs.Common.{◌≡◌, ◌++◌, take}
use Rattle.std.specs.Prelude.{codes}
use Rattle.std.specs.List.{flat_map}
use Rattle.cas_render.specs.Text.{datum_text}
use Rattle.cas_render.proofs.printing.append_further_data.Given as goal

abbrev pub invariant-loop-datum : goal.invariant-loop-datum
invariant-loop-datum l = l.out.items ≡ l.initial.out.items ++ flat_map (λ d. codes " | " ++ datum_text d) (take l.datum-index l.values)
