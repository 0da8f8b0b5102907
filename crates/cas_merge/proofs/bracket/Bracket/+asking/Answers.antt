use Rattle.std.proofs.Common.{◌≡◌, ◌+◌, ℕ, Option, List, sym, ap, ◌∙◌, arith}
use Rattle.std.specs.contracts.alloc.AllocError.{the_row}
use Rattle.cas_streams.specs.declared.fragment.Fragment.{Fragment}
use Rattle.cas_merge.specs.Inner.Brackets.{of_both, with_next, side_room, coming, room}
use Rattle.cas_merge.proofs.Pairs.{still, same_answer, lessened}
use Rattle.cas_merge.proofs.bracket.Bracket.+asking.Goals as goal

pub next-returns-in_ok-step-in-Pair-clause-first : goal.next-returns-in_ok-step-in-Pair-clause-first
next-returns-in_ok-step-in-Pair-clause-first g m c fs told =
    let tells = g.I.FragmentSource.to_come in
    let one = c.in-Pair.one in
    let other = c.in-Pair.other in
    let left : Option (List Fragment) = coming tells c.ask.new.self in
    let right : Option (List Fragment) = coming tells c.ask-in-Pair.new.self in
    same_answer the_row.Denot g.row.I-Fault.Denot fs (of_both c.step.new.left (with_next c.step.new.left.ahead left) c.step.new.right (with_next c.step.new.right.ahead right)) c.in_ok-step-in-Pair.field-0
    (c.in_ok-step-in-Pair.ensures.first left right fs
    (still one other c.ask.new.side c.ask-in-Pair.new.side (with_next one.ahead (coming tells c.in-Pair.left.value)) (with_next other.ahead (coming tells c.in-Pair.right.value))
    (with_next c.ask.new.side.ahead left) (with_next c.ask-in-Pair.new.side.ahead right) c.ask.ensures.force c.ask-in-Pair.ensures.force
    (λ xs k. c.in_ok-ask-in-Pair.ensures.same xs (ap (λ b. with_next one.ahead (coming tells b)) c.deref_mut.ensures.value ∙ k))
    (λ ys k. c.in_ok-ask-in-Pair-2.ensures.same ys (ap (λ b. with_next other.ahead (coming tells b)) c.deref_mut-in-Pair.ensures.value ∙ k))
    fs (sym (ap (coming tells) c.in-Pair.is) ∙ told)))

pub next-returns-in_ok-step-in-Pair-clause-ends : goal.next-returns-in_ok-step-in-Pair-clause-ends
next-returns-in_ok-step-in-Pair-clause-ends g m c =
    let holds = g.I.FragmentSource.at_most in
    let one = c.in-Pair.one in
    let other = c.in-Pair.other in
    let left : ℕ = room holds c.ask.new.self in
    let right : ℕ = room holds c.ask-in-Pair.new.self in
    let before : room holds c.args.self.now ≡ side_room one.ahead (room holds c.deref_mut.result.now) + side_room other.ahead (room holds c.deref_mut-in-Pair.result.now) =
    ap (room holds) c.in-Pair.is
    ∙ (λ i. side_room one.ahead (room holds (sym c.deref_mut.ensures.value i)) + side_room other.ahead (room holds (sym c.deref_mut-in-Pair.ensures.value i))) in
    lessened the_row.Denot g.row.I-Fault.Denot (room holds c.args.self.now) (side_room c.ask.new.side.ahead left + side_room c.ask-in-Pair.new.side.ahead right)
    (side_room c.step.new.left.ahead left + side_room c.step.new.right.ahead right) c.in_ok-step-in-Pair.field-0
    (omega (arith, before, c.in_ok-ask-in-Pair.ensures.ends, c.in_ok-ask-in-Pair-2.ensures.ends))
    (c.in_ok-step-in-Pair.ensures.ends left right)
