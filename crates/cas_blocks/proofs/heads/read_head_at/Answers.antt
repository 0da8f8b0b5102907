use Rattle.std.proofs.Common.{arith}
use Rattle.cas_types.specs.Limits.{IsNarrow}
use Rattle.cas_blocks.proofs.HeadLaws.{front_head}
use Rattle.cas_blocks.proofs.heads.read_head_at.Goals as goal

pub returns-in-Some-clause-told : goal.returns-in-Some-clause-told
returns-in-Some-clause-told g c = λ b is.
    let narrow : IsNarrow c.args.file.now.columns.now = c.args.file.now.narrow in
    let told = rw c.in-Some.is at (c.in_ok-head.ensures.told b is) in
    front_head c.args.file.now.version c.args.file.now.columns.now narrow b c.args.file.now.end c.args.place c.loop-long.long c.in-Some.head (omega arith) told
