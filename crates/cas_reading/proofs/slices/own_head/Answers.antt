use Rattle.std.proofs.Common.{sym, ◌∙◌}
use Rattle.cas_reading.proofs.Heads.{is_own, isnt_own}
use Rattle.cas_reading.proofs.slices.own_head.Goals as goal

pub returns-then-has_key-clause-told : goal.returns-then-has_key-clause-told
returns-then-has_key-clause-told g c = λ left at is.
    is_own c.args.file.now.version c.args.file.now.columns.now left c.args.key.now c.args.head is (sym c.has_key.ensures ∙ c.if-has_key.true)

pub returns-clause-told : goal.returns-clause-told
returns-clause-told g c = λ left at is. (
  c.requires,
  sym at,
  isnt_own c.args.file.now.version c.args.file.now.columns.now left c.args.key.now c.args.head is (sym c.has_key.ensures ∙ c.if-has_key.false),
)
