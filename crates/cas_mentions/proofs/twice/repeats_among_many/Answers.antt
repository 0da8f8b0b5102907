use Rattle.std.proofs.Common.{◌≡◌, subst, IfOk}
use Rattle.cas_mentions.proofs.Sorting.{names_tell}
use Rattle.cas_mentions.proofs.twice.repeats_among_many.Goals as goal

pub returns : goal.returns
returns c = subst (λ x. IfOk c.any_two.result (λ b. b ≡ x)) (names_tell c.args.names.now _ c.in_ok-spots.ensures) c.any_two.ensures
