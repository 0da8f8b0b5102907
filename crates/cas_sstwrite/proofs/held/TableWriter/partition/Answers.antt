use Rattle.std.proofs.Common.{List, subst}
use Rattle.cas_streams.specs.declared.fragment.Fragment.{Fragment}
use Rattle.cas_sstwrite.specs.Inner.Adding.{Adds}
use Rattle.cas_sstwrite.specs.Rooms.{AreHeld}
use Rattle.cas_sstwrite.proofs.Adding.{adds_held, adds_kept}
use Rattle.cas_sstwrite.proofs.Writing.{writes_on}
use Rattle.cas_sstwrite.proofs.held.TableWriter.partition.Goals as goal

pub returns-in-Ok-clause-written : goal.returns-in-Ok-clause-written
returns-in-Ok-clause-written g c columns ps fs w told fit =
    let added = c.in-Ok.ensures.added in
    let top = g.S.FragmentSource.over_all c.args.source.now in
    writes_on g.D.Draft.number g.D.Draft.written columns c.args.self.now _ ps c.args.key.now top fs w
    (subst (λ (xs : List Fragment). Adds g.D.Draft.number g.D.Draft.written c.args.key.now top xs c.args.self.now c.add.new.self) (added.all fs told) added.adds)
    fit c.in-Ok.ensures.above

pub returns-in-Ok-clause-held : goal.returns-in-Ok-clause-held
returns-in-Ok-clause-held g c fs told =
    let added = c.in-Ok.ensures.added in
    subst AreHeld (added.all fs told)
    (adds_held g.D.Draft.number g.D.Draft.written c.args.key.now (g.S.FragmentSource.over_all c.args.source.now) added.given c.args.self.now c.add.new.self added.adds)

pub returns-in-Ok-clause-kept : goal.returns-in-Ok-clause-kept
returns-in-Ok-clause-kept g c =
    let added = c.in-Ok.ensures.added in
    adds_kept g.D.Draft.number g.D.Draft.written c.args.key.now (g.S.FragmentSource.over_all c.args.source.now) added.given c.args.self.now c.add.new.self added.adds
