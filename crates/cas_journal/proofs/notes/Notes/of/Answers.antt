-- Segments that are noted together.
use Rattle.std.proofs.Common.{[], ◌≡◌, ◌∙◌, ℕ, List, length, map, ap, sym, subst, arith}
use Rattle.std.proofs.lemmas.List.{take_all, length-map}
use Rattle.cas_log.specs.Segment.{joined}
use Rattle.cas_journal.specs.Stores.{found_in}
use Rattle.cas_journal.specs.Notes.{EachNoted}
use Rattle.cas_journal.specs.declared.notes.Note.{Note}
use Rattle.cas_journal.proofs.Noting.{none_same, each_same}
use Rattle.cas_journal.proofs.notes.Notes.of.Goals as goal

pub loop-segment-init : goal.loop-segment-init
loop-segment-init c =
    let none = c.none-notes.ensures.know (found_in [] []) in
    record { shards = c.none-notes.ensures.shards; numbers = none.numbers; same = none_same c.args.tops.now c.none-notes.result.list.items none.numbers; next = none.next }

pub returns-clause-know : goal.returns-clause-know
returns-clause-know c parts long of_all =
    let loop = c.loop-segment in
    let all = c.args.segments.now in
    let numbers : map (λ (n : Note). n.segment) loop.notes.list.items ≡ all =
    loop.invariant.numbers ∙ take_all loop.segment-index all (omega (arith, c.loop-segment-test.false)) in
    record {
      numbers = ap (map (λ (n : Note). n.segment)) c.reserve.ensures.items ∙ numbers;
      noted = subst (λ (k : ℕ). EachNoted k (found_in all (joined parts)) c.reserve.new.self.items parts) (sym loop.invariant.shards)
          (subst (λ (l : List Note). EachNoted c.args.shards (found_in all (joined parts)) l parts) (sym c.reserve.ensures.items)
          (each_same c.args.shards c.args.tops.now loop.notes.list.items all parts numbers loop.invariant.same
          (long ∙ sym (ap length numbers) ∙ length-map loop.notes.list.items (λ (n : Note). n.segment)) of_all));
      next = loop.invariant.next;
    }
