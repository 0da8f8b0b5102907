use Rattle.std.proofs.Common.{◌++◌, sym, subst}
use Rattle.cas_facts.specs.Facts.{AreFactsSoFar}
use Rattle.cas_facts.specs.Told.{top_told}
use Rattle.cas_facts.proofs.Gathered.{top_seen}
use Rattle.cas_facts.proofs.facts.Tally.see_top.Goals as goal

pub returns : goal.returns
returns c A h = subst (AreFactsSoFar (A ++ top_told c.args.top)) (sym c.with_deletion-self.ensures) (top_seen A c.args.self.now.facts c.args.top h)
