use Rattle.std.proofs.Common.{◌||◌, ◌==◌, List, ℕ, length, ap, ◌∙◌, arith}
use Rattle.cas_filter.specs.Filters.{is_set}
use Rattle.cas_filter.proofs.Bits.{set_bit}
use Rattle.cas_filter.proofs.filter.Filter.set.Goals as goal

pub returns-clause-bits : goal.returns-clause-bits
returns-clause-bits c =
    λ p. set_bit c.self.inside.bytes.items c.args.bit c.index_mut.result.now p (omega (arith, ap length c.self.view_is)) c.index_mut.ensures.value
    ∙ ap (λ (f : List ℕ). is_set f p || (c.args.bit == p)) c.self.view_is
