use Rattle.std.proofs.Common.{ℕ, ◌+◌, sym, subst}
use Rattle.cas_lifecycle.specs.Inner.Homes.{Homely}
use Rattle.cas_lifecycle.proofs.Homes.{homely_lends}
use Rattle.cas_lifecycle.proofs.maker.Maker.session.Goals as goal

pub invariant_of-self-2 : goal.invariant_of-self-2
invariant_of-self-2 g c =
    let self = c.reach.new.self in
    let list = c.next_diary-list.result in
    let home = subst (λ (n : ℕ). Homely n self.out self.pass) c.in_ok-reach.ensures.ok self.home in
    record { home = subst (Homely (list + 1) (self.out + 1)) (sym c.in_ok-pass.ensures.ok.1) (homely_lends list self.out self.pass home) }
