use Rattle.std.proofs.Common.{◌++◌, sym, subst}
use Rattle.cas_facts.specs.Facts.{AreFactsSoFar}
use Rattle.cas_facts.specs.Told.{told}
use Rattle.cas_facts.proofs.Gathered.{fragment_seen}
use Rattle.cas_facts.proofs.facts.Tally.see.Goals as goal

pub returns : goal.returns
returns c A h = subst (AreFactsSoFar (A ++ told c.args.f.now)) (sym c.with_fragment-self.ensures) (fragment_seen A c.args.self.now.facts c.args.f.now h)
