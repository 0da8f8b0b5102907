use Rattle.std.specs.Arc.{arc_value}
use Rattle.cas_stored.proofs.Inside.{adopts, adopts_of}
use Rattle.cas_stored.proofs.table.TableStore.adopt.Goals as goal

pub returns-clause-holds : goal.returns-clause-holds
returns-clause-holds g c order vss wss none holds files = adopts _ _ c.self.view_is order (arc_value c.args.view) vss wss none holds files

pub returns-clause-columns : goal.returns-clause-columns
returns-clause-columns g c columns of own = adopts_of _ _ c.self.view_is columns (arc_value c.args.view) of own
