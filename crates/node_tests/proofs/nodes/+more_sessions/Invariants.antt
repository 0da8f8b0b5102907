use Rattle.node_tests.proofs.nodes.+more_sessions.Given as goal

abbrev pub decreases-more_sessions : goal.decreases-more_sessions
decreases-more_sessions g l = l.most
