use Rattle.cas_verify.proofs.Rounds.{sees_head}
use Rattle.cas_verify.proofs.partitions.see_head.Goals as goal

pub returns : goal.returns
returns c = sees_head c.args.seen.now c.see_top.new.self c.see.new.self c.args.top c.args.columns c.see_top.ensures c.see.ensures
