use Rattle.std.proofs.Common.{◌++◌, ◌∙◌, sym, ap, subst}
use Rattle.cas_effects.specs.Refusals.{refusal_for}
use Rattle.cas_define.specs.Schemas.{addition_of}
use Rattle.cas_define.specs.AlterReasons.{alter_means}
use Rattle.cas_define.specs.IsTable.{IsTable}
use Rattle.cas_define.specs.Outcomes.{outcome}
use Rattle.cas_define.proofs.Tables.{stays_table}
use Rattle.cas_define.proofs.alter.bind_alter.Goals as goal

pub returns-in-Some-clause-means : goal.returns-in-Some-clause-means
unfolding alter_means
returns-in-Some-clause-means c =
    ap (λ o. outcome o (addition_of c.args.table.now c.args.alter.now)) (sym (ap refusal_for c.in_ok-reasons.ensures) ∙ sym c.refusal.ensures ∙ c.in-Some.is)

pub returns-in_ok-addition_of-in-None-clause-table : goal.returns-in_ok-addition_of-in-None-clause-table
unfolding addition_of
returns-in_ok-addition_of-in-None-clause-table c is =
    subst (λ a. IsTable (record c.args.table.now { columns = c.args.table.now.columns ++ a.columns })) (sym c.in_ok-addition_of-in-None.ensures)
    (stays_table c.args.table.now c.args.alter.now (sym (ap refusal_for c.in_ok-reasons.ensures) ∙ sym c.refusal.ensures ∙ c.in-None.is) is)
