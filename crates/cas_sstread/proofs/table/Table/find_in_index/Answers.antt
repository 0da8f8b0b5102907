use Rattle.std.proofs.Common.{None, subst}
use Rattle.cas_index.specs.Searches.{HasKey}
use Rattle.cas_sstread.specs.Loading.{Held}
use Rattle.cas_sstread.proofs.table.Table.find_in_index.Goals as goal

pub returns-in-None-clause-has : goal.returns-in-None-clause-has
returns-in-None-clause-has g c = subst (λ (h : Held). HasKey h.kept.partitions c.args.key.now None) c.self.view_is c.in-None.ensures
