use Rattle.std.proofs.Common.{◌≡◌, false, Option, subst}
use Rattle.std.proofs.lemmas.Result.{on_ok_weaker}
use Rattle.cas_cell.specs.declared.deletion.Deletion.{Deletion}
use Rattle.cas_sstwrite.specs.declared.fault.PartitionFault.{PartitionFault}
use Rattle.cas_sstwrite.specs.Inner.Adding.{is_nothing, AddsTold}
use Rattle.cas_sstwrite.proofs.Adding.{adds_told}
use Rattle.cas_sstwrite.proofs.held.TableWriter.advance.Goals as goal

pub returns-clause-added : goal.returns-clause-added
returns-clause-added g c =
    let some : is_nothing c.top-top.result c.in_ok-first.first ≡ false = cc in
    on_ok_weaker c.write.result (λ added.
    subst (λ (x : Option Deletion). AddsTold g.D.Draft.number g.D.Draft.written c.args.key.now x c.args.self.now c.write.new.self (g.S.FragmentSource.to_come c.args.source.now))
    c.top-top.ensures
    (adds_told (PartitionFault g.row.E.Denot) g.D.Draft.number g.D.Draft.written c.args.key.now c.top-top.result c.in_ok-first.first c.args.self.now c.write.new.self
    (g.S.FragmentSource.to_come c.args.source.now) (g.S.FragmentSource.to_come c.next_of.new.source) some c.in_ok-first.ensures.first added))
    c.write.ensures.added
