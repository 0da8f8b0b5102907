use Rattle.std.proofs.Common.{◌-◌, length, arith}
use Rattle.cas_blocks.proofs.Ranges.{filled_more}
use Rattle.cas_blocks.proofs.reading.fill.Goals as goal

pub loop-filled-preserved : goal.loop-filled-preserved
loop-filled-preserved g c = record {
  within = omega (arith, c.in_ok-given.ensures.bound, c.read_at.auto.into, c.loop-filled.invariant.within, c.loop-filled.auto.bytes);
  front = λ b is.
      filled_more c.args.at c.loop-filled.filled c.in_ok-given.given (length c.loop-filled.bytes - c.loop-filled.filled) b c.loop-filled.bytes c.read_at.new.into
      (omega (arith, c.loop-filled.invariant.within, c.loop-filled.auto.bytes)) (omega (arith, c.read_at.auto.into)) c.in_ok-given.ensures.bound
      (c.loop-filled.invariant.front b is) (c.in_ok-given.ensures.given b is);
  faults = omega (arith, c.loop-filled.invariant.faults, c.read_at.ensures.count);
}
