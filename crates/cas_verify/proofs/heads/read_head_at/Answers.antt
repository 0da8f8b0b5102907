use Rattle.std.proofs.Common.{arith}
use Rattle.std.specs.Option.{option_copied}
use Rattle.cas_verify.proofs.HeadLaws.{front_head}
use Rattle.cas_verify.proofs.heads.read_head_at.Goals as goal

pub returns-in-Ok-clause-told : goal.returns-in-Ok-clause-told
returns-in-Ok-clause-told g c = λ b is.
    let told = rw c.in-Ok.is at (c.in_ok-found.ensures.told b is) in
    front_head c.args.table.now.kept.version c.args.table.now.columns c.requires.narrow (option_copied c.args.before) b c.args.table.now.kept.end c.args.place c.loop-long.long c.in-Ok.found (omega arith) told

pub returns-in-Ok-2-clause-told : goal.returns-in-Ok-2-clause-told
returns-in-Ok-2-clause-told g c = λ b is.
    let told = rw c.in-Ok-2.is at (c.in_ok-found-2.ensures.told b is) in
    front_head c.args.table.now.kept.version c.args.table.now.columns c.requires.narrow (option_copied c.args.before) b c.args.table.now.kept.end c.args.place c.saturating_sub-room.result c.in-Ok-2.found (omega arith) told
