use Rattle.std.proofs.Common.{◌∙◌, arith}
use Rattle.cas_blocks.proofs.Bodies.{no_room, length_told, length_lacks}
use Rattle.cas_verify.proofs.bodies.read_length.Goals as goal

pub returns-then-saturating_sub-lt4-clause-told : goal.returns-then-saturating_sub-lt4-clause-told
returns-then-saturating_sub-lt4-clause-told g c = λ b is. no_room b c.args.table.now.kept.end c.args.place (omega arith)

pub returns-in-Ok-clause-told : goal.returns-in-Ok-clause-told
returns-in-Ok-clause-told g c = λ b is.
    length_told b c.args.table.now.kept.end c.args.place c.in-Ok.long c.new-reader.result c.u32.new.self (omega arith)
    (c.new-reader.ensures.bytes ∙ c.deref.ensures.value ∙ c.in_ok-bytes.ensures.bytes b is) c.in-Ok.ensures.exact

pub returns-clause-told : goal.returns-clause-told
returns-clause-told g c = λ b is.
    length_lacks b c.args.table.now.kept.end c.args.place c.new-reader.result c.u32.new.self c.in-Err.field-0 (omega arith)
    (c.new-reader.ensures.bytes ∙ c.deref.ensures.value ∙ c.in_ok-bytes.ensures.bytes b is) c.in-Err.ensures.exact c.in-Err.ensures.field.0
