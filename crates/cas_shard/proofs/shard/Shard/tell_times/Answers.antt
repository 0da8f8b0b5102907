use Rattle.std.proofs.Common.{◌≡◌, ◌≤ℤ◌, of_z, to_z, w64, sym, subst, rules}
use Rattle.std.specs.Int.{int_max}
use Rattle.cas_types.specs.Limits.{IsMoment}
use Rattle.cas_types.specs.declared.limits.TheConstants.{LAST_DRAWN}
use Rattle.cas_shard.proofs.Preparing.{later_begun, later_low}
use Rattle.cas_shard.proofs.shard.Shard.tell_times.Goals as goal

pub invariant_of-self : goal.invariant_of-self
invariant_of-self g c =
    let drawn : to_z w64 (of_z w64 c.max-self-inside.result) ≡ int_max c.self.inside.drawn c.args.drawn = search rules in
    let moment : to_z w64 (of_z w64 c.max-self-inside-2.result) ≡ int_max c.self.inside.moment c.args.moment = search rules in (
      c.self.invariant.0,
      subst (λ z. z ≤ℤ LAST_DRAWN) (sym drawn) (later_low c.self.inside.drawn c.args.drawn c.self.invariant.1 c.requires.low),
      subst IsMoment (sym moment) (later_begun c.self.inside.moment c.args.moment c.self.invariant.2 c.requires.begun),
    )
