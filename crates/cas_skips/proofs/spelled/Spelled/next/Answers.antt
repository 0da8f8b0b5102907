use Rattle.std.proofs.Common.{◌≡◌, ◌+◌, ◌-◌, List, ◌∷◌, length, drop, Option, Some, None, ℕ, refl, sym, ap, subst, ◌∙◌, arith}
use Rattle.cas_codec.proofs.Exactness.{read_left}
use Rattle.cas_streams.specs.declared.fragment.Fragment.{Fragment}
use Rattle.cas_skips.specs.Blocks.{spelled}
use Rattle.cas_skips.specs.Inner.Notes.{IsHeld}
use Rattle.cas_skips.specs.declared.notes.Note.{Note}
use Rattle.cas_skips.proofs.Noting.{held_behind}
use Rattle.cas_skips.specs.Inner.Stops.{left_from, IsFirst}
use Rattle.cas_skips.proofs.Spelling.{none_spelled, taken_within, taken_is, none_taken}
use Rattle.cas_skips.proofs.spelled.Spelled.next.Goals as goal

pub returns-then-self-eq0-clause-split : goal.returns-then-self-eq0-clause-split
returns-then-self-eq0-clause-split c =
    sym (none_spelled c.self.inside.order.now c.self.inside.columns.now c.self.inside.count _ c.if-self-eq0.true) ∙ c.self.view_is

pub returns-then-self-eq0-clause-ended : goal.returns-then-self-eq0-clause-ended
returns-then-self-eq0-clause-ended c = λ e.
    sym c.self.view_is ∙ none_spelled c.self.inside.order.now c.self.inside.columns.now c.self.inside.count _ c.if-self-eq0.true

pub overflow_sub-self : goal.overflow_sub-self
overflow_sub-self c =
    let first : IsFirst c.self.inside.order.now c.self.inside.columns.now (left_from c.self.inside.bytes.items c.self.inside.place c.self.inside.taken) (Some (c.in-Some.fragment, c.in-Some.left)) =
    subst (λ (bs : List ℕ). IsFirst c.self.inside.order.now c.self.inside.columns.now (read_left bs (c.self.inside.place + c.self.inside.taken)) (Some (c.in-Some.fragment, c.in-Some.left)))
    (c.behind-bytes.ensures ∙ ap (drop c.self.inside.taken) c.deref.ensures.value) (subst (λ (o : Option (Fragment × ℕ)). IsFirst c.self.inside.order.now c.self.inside.columns.now
    (read_left c.behind-bytes.result.now (c.self.inside.place + c.self.inside.taken)) o) c.in-Some.is c.in_ok-fragment.ensures) in
    let fits = taken_within c.self.inside.order.now c.self.inside.columns.now c.self.inside.bytes.items c.self.inside.place c.self.inside.taken c.self.inside.count
    c.self.invariant.kept c.in-Some.fragment c.in-Some.left first in omega (arith, c.len.ensures)

pub invariant_of-self : goal.invariant_of-self
invariant_of-self c =
    let s = c.self.inside in
    let first : IsFirst s.order.now s.columns.now (left_from s.bytes.items s.place s.taken) (Some (c.in-Some.fragment, c.in-Some.left)) =
    subst (λ (bs : List ℕ). IsFirst s.order.now s.columns.now (read_left bs (s.place + s.taken)) (Some (c.in-Some.fragment, c.in-Some.left)))
    (c.behind-bytes.ensures ∙ ap (drop s.taken) c.deref.ensures.value) (subst (λ (o : Option (Fragment × ℕ)). IsFirst s.order.now s.columns.now
    (read_left c.behind-bytes.result.now (s.place + s.taken)) o) c.in-Some.is c.in_ok-fragment.ensures) in
    let long : c.len.result ≡ length s.bytes.items = omega (arith, c.len.ensures) in
    subst (λ (n : ℕ). IsHeld s.order.now s.columns.now s.bytes.items s.place (n - c.in-Some.left) (s.count - 1) c.count_behind.new.note) (sym long)
    (subst (λ (o : Option Note). IsHeld s.order.now s.columns.now s.bytes.items s.place (length s.bytes.items - c.in-Some.left) (s.count - 1) o) (sym c.count_behind.ensures)
    (held_behind s.order.now s.columns.now s.bytes.items s.place s.taken s.count s.note c.self.invariant c.in-Some.fragment c.in-Some.left first))

pub returns-in-Some-clause-split : goal.returns-in-Some-clause-split
returns-in-Some-clause-split c =
    let first : IsFirst c.self.inside.order.now c.self.inside.columns.now (left_from c.self.inside.bytes.items c.self.inside.place c.self.inside.taken) (Some (c.in-Some.fragment, c.in-Some.left)) =
    subst (λ (bs : List ℕ). IsFirst c.self.inside.order.now c.self.inside.columns.now (read_left bs (c.self.inside.place + c.self.inside.taken)) (Some (c.in-Some.fragment, c.in-Some.left)))
    (c.behind-bytes.ensures ∙ ap (drop c.self.inside.taken) c.deref.ensures.value) (subst (λ (o : Option (Fragment × ℕ)). IsFirst c.self.inside.order.now c.self.inside.columns.now
    (read_left c.behind-bytes.result.now (c.self.inside.place + c.self.inside.taken)) o) c.in-Some.is c.in_ok-fragment.ensures) in
    let long : c.len.result ≡ length c.self.inside.bytes.items = omega (arith, c.len.ensures) in
    ap (λ (n : ℕ). c.in-Some.fragment ∷ spelled c.self.inside.order.now c.self.inside.columns.now (c.self.inside.count - 1)
    (left_from c.self.inside.bytes.items c.self.inside.place (n - c.in-Some.left))) long
    ∙ taken_is c.self.inside.order.now c.self.inside.columns.now c.self.inside.bytes.items c.self.inside.place c.self.inside.taken c.self.inside.count
    c.self.invariant.kept c.in-Some.fragment c.in-Some.left first (omega arith) ∙ c.self.view_is

pub returns-in-None-clause-split : goal.returns-in-None-clause-split
returns-in-None-clause-split c =
    let none = subst (λ (bs : List ℕ). IsFirst c.self.inside.order.now c.self.inside.columns.now (read_left bs (c.self.inside.place + c.self.inside.taken)) None)
    (c.behind-bytes.ensures ∙ ap (drop c.self.inside.taken) c.deref.ensures.value) (subst (λ (o : Option (Fragment × ℕ)). IsFirst c.self.inside.order.now c.self.inside.columns.now
    (read_left c.behind-bytes.result.now (c.self.inside.place + c.self.inside.taken)) o) c.in-None.is c.in_ok-fragment.ensures) in
    sym (none_taken c.self.inside.order.now c.self.inside.columns.now c.self.inside.bytes.items c.self.inside.place c.self.inside.taken c.self.inside.count
    c.self.invariant.kept none (omega arith)) ∙ c.self.view_is

pub returns-in-None-clause-ended : goal.returns-in-None-clause-ended
returns-in-None-clause-ended c = λ e. none_spelled c.self.inside.order.now c.self.inside.columns.now 0 _ refl
