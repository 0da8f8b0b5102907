use Rattle.std.proofs.Common.{arith}
use Rattle.cas_filter.proofs.Exact.{read_fits}
use Rattle.cas_filter.proofs.fields.read_filter.Goals as goal

pub of-requires : goal.of-requires
of-requires c =
    read_fits c.in_ok-bits.bits c.in_ok-to_vec.field-0.items (omega arith, c.in_ok-bits.ensures.counted)
    (omega (arith, c.in_ok-to_vec.ensures.len, c.in_ok-bytes.ensures.field.0, c.in_ok-to_vec.field-0.ok))
