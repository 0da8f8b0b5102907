use Rattle.std.proofs.Common.{◌≡◌, List, length, Some}
use Rattle.std.proofs.lemmas.Result.{IfErr-weaker}
use Rattle.cas_streams.specs.declared.fragment.Fragment.{Fragment}
use Rattle.cas_sstwrite.specs.Causes.{WhyNot}
use Rattle.cas_sstwrite.specs.Inner.Adding.{WrittenFault}
use Rattle.cas_sstwrite.proofs.Adding.{written_why}
use Rattle.cas_sstwrite.proofs.held.TableWriter.add.Goals as goal

pub returns-clause-why : goal.returns-clause-why
returns-clause-why g c =
    let told = g.S.FragmentSource.to_come c.args.source.now in
    let top = g.S.FragmentSource.over_all c.args.source.now in
    let entries = c.args.self.now.entries.items in
    let place = c.args.self.now.sink.place in
    IfErr-weaker c.advance.result (λ e. (fs : List Fragment) → told ≡ Some fs → WrittenFault (length entries) place c.args.key.now top fs e)
    (λ e. (fs : List Fragment) → told ≡ Some fs → WhyNot entries place c.args.key.now top fs e)
    (λ e why fs is. written_why g.row.E.Denot entries place c.args.key.now top fs e (why fs is))
    c.advance.ensures.why
