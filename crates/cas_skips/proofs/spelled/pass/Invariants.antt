use Rattle.std.proofs.Common.{◌≡◌, ◌-◌}
use Rattle.cas_skips.specs.Blocks.{spelled, skipped}
use Rattle.cas_skips.specs.Inner.Stops.{IsFurther}
use Rattle.cas_skips.proofs.spelled.pass.Given as goal

abbrev pub invariant-loop-done : goal.invariant-loop-done
invariant-loop-done l = record {
  same : skipped l.by l.cut l.fn.force (spelled l.order l.columns l.count l.fn.reader) ≡ skipped l.by l.cut l.now (spelled l.order l.columns (l.count - l.done) l.reader);
  further : IsFurther l.fn.reader l.reader;
}
