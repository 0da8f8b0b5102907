use Rattle.cas_node.proofs.Answered.{drops_some}
use Rattle.cas_node.proofs.runner.Runner.drop_behind.Goals as goal

pub returns-clause-drops : goal.returns-clause-drops
returns-clause-drops g c =
    drops_some _ _ _ _ c.args.listed c.is_want.result c.drop_segments-told.result c.if-not-listed.false c.is_want.ensures
    (c.drop_segments-told.ensures.drops c.args.self.now.seconds)
