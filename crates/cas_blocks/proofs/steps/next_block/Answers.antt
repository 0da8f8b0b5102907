use Rattle.cas_blocks.proofs.NextBlock.{unread, told_bad}
use Rattle.cas_blocks.proofs.steps.next_block.Goals as goal

pub returns-in-Ok-Some-clause-told : goal.returns-in-Ok-Some-clause-told
returns-in-Ok-Some-clause-told g c = λ b is.
    let told = rw c.in-Ok-Some.field-0-is at (c.in-Ok-Some.ensures.told b is) in
    c.judge.ensures.told b told

pub returns-in-Ok-None-clause-told : goal.returns-in-Ok-None-clause-told
returns-in-Ok-None-clause-told g c = λ b is.
    let told = rw c.in-Ok-None.field-0-is at (c.in-Ok-None.ensures.told b is) in
    told_bad c.args.file.now.order.now c.args.file.now.columns.now c.args.file.now.number c.args.file.now.end b c.args.at.now c.bad_block.result c.bad_block.ensures
    (unread c.args.file.now.order.now c.args.file.now.columns.now c.args.file.now.number c.args.file.now.end b c.args.at.now told)
