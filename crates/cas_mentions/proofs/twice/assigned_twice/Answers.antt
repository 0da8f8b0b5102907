use Rattle.std.proofs.Common.{◌≡◌, subst, IfOk}
use Rattle.cas_mentions.specs.Mentions.{assigns}
use Rattle.cas_mentions.proofs.Sorting.{spots_tell}
use Rattle.cas_mentions.proofs.twice.assigned_twice.Goals as goal

pub returns : goal.returns
returns c =
    subst (λ x. IfOk c.any_two.result (λ b. b ≡ x))
    (spots_tell c.args.columns.now (λ a. (a.column, assigns a.value)) c.args.assignments.now _ c.in_ok-spots.ensures) c.any_two.ensures
