use Rattle.std.proofs.Common.{◌≡◌, ℕ, ◌+◌, ◌%◌, ◌<◌, ◌≤◌, sym, subst, arith}
use Rattle.cas_history.specs.Items.{first_diary}
use Rattle.cas_lifecycle.specs.Inner.Homes.{Homely}
use Rattle.cas_lifecycle.proofs.Homes.{homely_seats}
use Rattle.cas_lifecycle.proofs.maker.Maker.list.Goals as goal

only : (list p : ℕ) → list ≤ p → p < list + 1 → list ≡ p
only list p le lt = omega arith

pub invariant_of-self-2 : goal.invariant_of-self-2
invariant_of-self-2 g c =
    let self = c.reach.new.self in
    let list = c.args.list in
    let home = subst (λ (n : ℕ). Homely n self.out self.pass) c.in_ok-reach.ensures.ok self.home in
    record {
      home = subst (Homely (list + 1) self.out) (sym c.in_ok-pass.ensures.ok.1)
          (homely_seats list self.out 1 self.pass home
          (λ p le lt low. subst (λ (k : ℕ). k % 2 ≡ 1) (only list p le lt) (c.requires.next.2 (subst (λ (k : ℕ). first_diary ≤ k) (sym (only list p le lt)) low))));
    }
