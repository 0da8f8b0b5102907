use Rattle.std.proofs.Common.{ap, sym, ◌∙◌}
use Rattle.std.specs.Prelude.{option_map}
use Rattle.cas_effects.proofs.LargeValues.{find_path}
use Rattle.cas_effects.proofs.too_large.first_long_path.Goals as goal

pub returns-in-Some : goal.returns-in-Some
returns-in-Some c = ap (option_map (λ e. e.0)) c.in-Some.ensures ∙ sym (find_path c.args.elements.now)

pub returns-in-None : goal.returns-in-None
returns-in-None c = ap (option_map (λ e. e.0)) c.in-None.ensures ∙ sym (find_path c.args.elements.now)
