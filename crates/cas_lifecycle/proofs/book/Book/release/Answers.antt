use Rattle.std.proofs.Common.{◌≡◌, ◌≢◌, ◌∙◌, ℕ, true, ap, sym, subst, ⊎_elim, true≢false}
use Rattle.std.specs.Prelude.{Option, Some, None, IfSome, IfNone}
use Rattle.cas_refs.specs.Counts.{at, one_less}
use Rattle.cas_refs.specs.declared.Removal.{Removal}
use Rattle.cas_refs.specs.declared.RefBook.{RefBook}
use Rattle.cas_lifecycle.specs.Books.{is_live}
use Rattle.cas_lifecycle.proofs.Books.{less_live, booked_more}
use Rattle.cas_history.proofs.Lists.{same_or}
use Rattle.cas_lifecycle.proofs.book.Book.release.Goals as goal

still : (old new : RefBook) (id : ℕ) (res : Option Removal)
    → IfSome res (λ r. (r.id ≡ id) × (at old id ≡ Some (record { pins = 1; retired = true })) × (at new id ≡ None))
    → IfNone res ((at old id ≢ Some (record { pins = 1; retired = true })) × (at new id ≡ one_less (at old id)))
    → is_live (at old id) ≡ true → is_live (at new id) ≡ true
still old new id (Some r) some none live = absurd (true≢false (sym live ∙ ap is_live some.1))
still old new id None some none live = ap is_live none.1 ∙ less_live (at old id) live

pub invariant_of-self : goal.invariant_of-self
invariant_of-self g c =
    let self = c.args.self.now in
    let id = c.args.pin.id in
    let after = c.release.new.self in
    record {
      booked = booked_more self.refs after self.pass self.booked
          (λ s low k has live.
          ⊎_elim
          (λ is. subst (λ m. is_live (at after m) ≡ true) (sym is)
          (still self.refs after id c.release.result c.release.ensures.some c.release.ensures.none (subst (λ m. is_live (at self.refs m) ≡ true) is live)))
          (λ not. ap is_live (c.release.ensures.others k not) ∙ live)
          (same_or k id));
    }
