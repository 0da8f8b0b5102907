use Rattle.std.proofs.Common.{sym, ap, ◌∙◌}
use Rattle.std.specs.Option.{option_copied}
use Rattle.cas_bind.proofs.Kept.{alter_keeps}
use Rattle.cas_bind.proofs.meaning.alter_table.Goals as goal

pub returns-in-Ok-clause-kept : goal.returns-in-Ok-clause-kept
returns-in-Ok-clause-kept c =
    alter_keeps c.args.tables.now c.args.alter.now.table c.in-Some.table.now c.in-Ok.addition c.requires (sym c.table_named.ensures ∙ ap option_copied c.in-Some.is)
    c.in-Ok.ensures.numbered c.in-Ok.ensures.narrow c.in-Ok.ensures.table
