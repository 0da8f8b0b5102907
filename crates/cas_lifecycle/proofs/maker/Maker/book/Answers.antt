use Rattle.std.proofs.Common.{◌≡◌, ℕ, ◌+◌, ◌%◌, ◌<◌, ◌≤◌, ◌∙◌, refl, ap, sym, subst, arith}
use Rattle.cas_history.specs.Log.{Has}
use Rattle.cas_history.specs.Hands.{Owns, dealt, times}
use Rattle.cas_history.proofs.Parts.{deals_all}
use Rattle.cas_history.specs.Items.{listed, book_changes, first_diary}
use Rattle.cas_history.specs.Last.{files_of}
use Rattle.cas_lifecycle.specs.Inner.Homes.{Homely}
use Rattle.cas_lifecycle.proofs.Homes.{homely_seats}
use Rattle.cas_lifecycle.proofs.maker.Maker.book.Goals as goal

never_odd : (p : ℕ) → 80 ≤ p → p < 80 + 16 → first_diary ≤ p → p % 2 ≡ 1
never_odd p le lt low = absurd (omega arith)

pub invariant_of-self-2 : goal.invariant_of-self-2
invariant_of-self-2 g c =
    let self = c.reach.new.self in
    let home = subst (λ (n : ℕ). Homely n self.out self.pass) c.in_ok-reach.ensures.ok self.home in
    record { home = subst (Homely 96 self.out) (sym c.in_ok-pass.ensures.ok.1) (homely_seats 80 self.out 16 self.pass home never_odd) }

pub invariant_of-result : goal.invariant_of-result
invariant_of-result g c =
    let self = c.reach.new.self in
    let home = subst (λ (n : ℕ). Homely n self.out self.pass) c.in_ok-reach.ensures.ok self.home in
    let same = c.in_ok-pass.ensures.ok.0 in
    record {
      booked = record {
        owns = λ s low. subst (λ h. Owns h (book_changes s)) (sym same)
            (subst (λ p. 0 < times (book_changes s) (dealt p 16)) (sym home.makes) (deals_all 80 16 (book_changes s) (omega arith) (omega arith)));
        live = λ s low k has.
            absurd (subst (λ l. Has (files_of l) k) (ap (λ h. listed (book_changes s) h.saw) same ∙ home.empty (book_changes s) (omega arith)) has);
      };
    }

pub returns-clause-ok : goal.returns-clause-ok
returns-clause-ok g c =
    let self = c.reach.new.self in
    let home = subst (λ (n : ℕ). Homely n self.out self.pass) c.in_ok-reach.ensures.ok self.home in
    (refl, refl, λ s low. ap (λ h. listed (book_changes s) h.saw) c.in_ok-pass.ensures.ok.0 ∙ home.empty (book_changes s) (omega arith))
