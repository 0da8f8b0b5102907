use Rattle.std.proofs.Common.{◌∙◌, sym, ap}
use Rattle.cas_effects.specs.Refusals.{refusal_for}
use Rattle.cas_define.proofs.Tables.{made_table}
use Rattle.cas_define.proofs.create.bind_create.Goals as goal

pub returns-in_ok-schema_of-in-None-clause-table : goal.returns-in_ok-schema_of-in-None-clause-table
returns-in_ok-schema_of-in-None-clause-table c =
    made_table c.args.create.now c.args.tables.now c.in_ok-schema_of-in-None.field-0 (sym (ap refusal_for c.in_ok-reasons.ensures) ∙ sym c.refusal.ensures ∙ c.in-None.is)
    c.in_ok-schema_of-in-None.ensures.columns c.in_ok-schema_of-in-None.ensures.lives
