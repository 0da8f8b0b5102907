use Rattle.std.proofs.Common.{◌≡◌, ◌+◌, ◌-◌, ◌<◌, ◌∙◌, ap, sym, subst, arith}
use Rattle.cas_history.specs.Hands.{times}
use Rattle.cas_history.proofs.LogLists.{times_append}
use Rattle.cas_history.proofs.Parts.{owned}
use Rattle.cas_lifecycle.specs.Inner.Homes.{Homely}
use Rattle.cas_history.specs.Items.{items}
use Rattle.cas_lifecycle.proofs.Homes.{some_out, homely_keeps}
use Rattle.cas_history.proofs.Shares.{list_begins}
use Rattle.cas_lifecycle.proofs.maker.Maker.keep.Goals as goal

pub overflow_sub-self : goal.overflow_sub-self
overflow_sub-self g c =
    let self = c.args.self.now in
    let session = c.args.session in
    let some = some_out self.next self.out session.list self.pass session.pass self.home c.join.ensures.apart session.owns.0 session.even session.owns.1 in
    omega arith

pub invariant_of-self : goal.invariant_of-self
invariant_of-self g c =
    let self = c.args.self.now in
    let session = c.args.session in
    let join = c.join.ensures in
    let some = some_out self.next self.out session.list self.pass session.pass self.home join.apart session.owns.0 session.even session.owns.1 in
    let less : self.out - 1 + 1 ≡ self.out = omega arith in
    record {
      home = subst (Homely self.next (self.out - 1)) (sym join.keeper)
          (homely_keeps self.next self.out (self.out - 1) session.list c.join.new.keeper.saw self.pass session.pass self.home less join.known.0 join.known.1.0 join.apart session.owns.0 session.even session.alone session.owns.1 c.requires.idle);
    }

pub returns-clause-out : goal.returns-clause-out
returns-clause-out g c =
    let self = c.args.self.now in
    let session = c.args.session in
    let some = some_out self.next self.out session.list self.pass session.pass self.home c.join.ensures.apart session.owns.0 session.even session.owns.1 in
    omega arith

pub returns-clause-owns : goal.returns-clause-owns
returns-clause-owns g c =
    let session = c.args.session in
    let lists = ap (λ h. times session.list h.lists) c.join.ensures.keeper ∙ times_append c.args.self.now.pass.lists session.pass.lists session.list in
    let own : 0 < times session.list session.pass.lists = session.owns.1 in
    omega arith

pub returns-clause-list : goal.returns-clause-list
returns-clause-list g c =
    let session = c.args.session in
    sym (c.join.ensures.known.1.0.1 session.list (owned items session.pass session.list session.owns.1))

pub returns-clause-holds : goal.returns-clause-holds
returns-clause-holds g c r = list_begins r _ _ c.join.ensures.known.1.0.0
