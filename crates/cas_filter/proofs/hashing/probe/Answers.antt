use Rattle.std.proofs.Common.{arith}
use Rattle.cas_filter.proofs.FilterLaws.{step_below}
use Rattle.cas_filter.proofs.hashing.probe.Goals as goal

pub overflow_mul-result : goal.overflow_mul-result
overflow_mul-result c = omega (arith, step_below c.args.hash c.args.number c.requires.within)

pub overflow_add-result : goal.overflow_add-result
overflow_add-result c = omega (arith, step_below c.args.hash c.args.number c.requires.within)
