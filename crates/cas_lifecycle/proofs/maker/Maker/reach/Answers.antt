use Rattle.std.proofs.Common.{ℕ, ◌-◌, ◌≤◌, ◌∙◌, sym, subst, arith}
use Rattle.cas_history.specs.Hands.{Knows, gave, given, both}
use Rattle.cas_lifecycle.specs.Inner.Homes.{Homely}
use Rattle.cas_history.specs.Items.{items}
use Rattle.cas_lifecycle.proofs.Homes.{homely_reaches}
use Rattle.cas_lifecycle.proofs.maker.Maker.reach.Goals as goal

pub invariant_of-self-2 : goal.invariant_of-self-2
invariant_of-self-2 g c =
    let self = c.args.self.now in
    let list = c.args.list in
    let n = list - self.next in
    let dealt = c.in_ok-spare.ensures.ok in
    let join = c.join.ensures in
    let log = c.join.new.keeper.saw in
    let low : self.next ≤ list = c.requires.next.0 in
    let home = homely_reaches self.next self.out n log self.pass self.home (subst (Knows items log) dealt.1 join.known.0) (subst (Knows items log) dealt.0 join.known.1.0) in
    record {
      home = subst (Homely list self.out) (sym (join.keeper ∙ (λ k. both log (dealt.1 k) (dealt.0 k))))
          (subst (λ (m : ℕ). Homely m self.out (both log (gave n self.pass) (given n self.pass))) (omega arith) home);
    }
