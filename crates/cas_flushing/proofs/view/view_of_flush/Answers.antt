use Rattle.cas_sstwrite.proofs.Results.{passed_on}
use Rattle.cas_flushing.specs.Flushed.{WhyUnopened}
use Rattle.cas_flushing.proofs.Opening.{unloaded}
use Rattle.cas_flushing.proofs.view.view_of_flush.Goals as goal

pub returns-in_err-loaded-clause-why : goal.returns-in_err-loaded-clause-why
returns-in_err-loaded-clause-why g c =
    let e = c.in_err-loaded.field-0.0 in
    let bytes = g.S.Sealed.contents c.args.file in
    passed_on c.from_residual.result e (WhyUnopened c.args.table.now c.args.index c.args.info.now bytes) c.from_residual.ensures.1
    (unloaded c.args.table.now c.args.index c.args.info.now bytes e c.in_err-loaded.ensures.loaded)
