use Rattle.std.proofs.Common.{◌≡◌, subst, IfOk}
use Rattle.cas_mentions.specs.Mentions.{deletes}
use Rattle.cas_mentions.proofs.Sorting.{spots_tell}
use Rattle.cas_mentions.proofs.twice.deleted_twice.Goals as goal

pub returns : goal.returns
returns c =
    subst (λ x. IfOk c.any_two.result (λ b. b ≡ x))
    (spots_tell c.args.columns.now (λ t. (t.column, deletes t.key)) c.args.targets.now _ c.in_ok-spots.ensures) c.any_two.ensures
