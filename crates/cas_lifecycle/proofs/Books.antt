-- What the book's seat keeps.
use Rattle.std.proofs.Common.{◌≡◌, ℕ, ◌<◌, List, [], ◌∷◌, Bool, true, false, refl, sym, subst, ⊎_elim, true≢false}
use Rattle.std.specs.Prelude.{not, Option, None, Some}
use Rattle.cas_history.specs.Log.{Has, Legal}
use Rattle.cas_history.specs.Hands.{Knows, Entered, sees}
use Rattle.cas_history.specs.declared.hand.Hand.{Hand}
use Rattle.cas_history.proofs.Parts.{owned, gets, stays}
use Rattle.cas_history.proofs.LogLists.{has_or_not}
use Rattle.std.proofs.lemmas.List.Sums.{fold-append}
use Rattle.cas_refs.specs.declared.Count.{Count}
use Rattle.cas_refs.specs.declared.RefBook.{RefBook}
use Rattle.cas_refs.specs.Counts.{at, Live, one_less}
use Rattle.cas_history.specs.declared.item.Item.{Item}
use Rattle.cas_history.specs.Items.{items, listed, lists_of, changes_list, book_changes}
use Rattle.cas_history.specs.Last.{adds, files_of, files_after}
use Rattle.cas_lifecycle.specs.Books.{is_live, Booked}
use Rattle.cas_history.proofs.Shares.{book_copies}
use Rattle.cas_lifecycle.proofs.Listed.{stays_or_comes}

pub live_is : (o : Option Count) → is_live o ≡ true → Live o
live_is None live = true≢false (sym live)
live_is (Some c) live = by c.retired live
  where
    by : (b : Bool) → not b ≡ true → b ≡ false
    by true e = sym e
    by false e = refl

pub less_live : (o : Option Count) → is_live o ≡ true → is_live (one_less o) ≡ true
less_live None live = live
less_live (Some c) live = live

module _ {E : Type 0} where
  pub booked_sees : (refs : RefBook) (log : List (Item E)) (h : Hand (Item E)) → Booked refs h → Knows items log h → Booked refs (sees log h)
  booked_sees refs log h booked k = record {
    owns = booked.owns;
    live = λ s low f has. booked.live s low f (subst (λ l. Has (files_of l) f) (sym (k.1 (book_changes s) (owned items h (book_changes s) (booked.owns s low)))) has);
  }

  -- where the book keeps what a shard has
  pub booked_more : (refs after : RefBook) (h : Hand (Item E)) → Booked refs h
      → ((s : ℕ) → s < 16 → (k : ℕ) → Has (files_of (listed (book_changes s) h.saw)) k → is_live (at refs k) ≡ true → is_live (at after k) ≡ true) → Booked after h
  booked_more refs after h booked kept = record {
    owns = booked.owns;
    live = λ s low k has. kept s low k has (booked.live s low k has);
  }

  -- a shard's file is in the book
  pub shard_live : (refs : RefBook) (log : List (Item E)) (h : Hand (Item E)) → Booked refs h → Knows items log h → Legal items log → (s k : ℕ) → s < 16 → Has (files_of (listed (changes_list s) log)) k → is_live (at refs k) ≡ true
  shard_live refs log h booked know legal s k low has =
      booked.live s low k
      (subst (λ l. Has (files_of l) k) (sym (know.1 (book_changes s) (owned items h (book_changes s) (booked.owns s low)))) (subst (λ l. Has (files_of l) k) (book_copies s low log legal) has))

  -- what an entry lists is in the book
  pub booked_gets : (refs : RefBook) (hands : List (Hand (Item E))) (e : Item E) (log : List (Item E)) (n : ℕ) (h : Hand (Item E)) → Booked refs h → Entered items hands e log n → Has hands h
      → ((k : ℕ) → Has (adds e) k → is_live (at refs k) ≡ true) → Booked refs (sees log h)
  booked_gets refs hands e log n h booked entered here new = record {
    owns = booked.owns;
    live = λ s low k has.
        let r = book_changes s in
        let own = booked.owns s low in
        ⊎_elim
        (λ there.
        let list = gets items hands e log n h r entered here own there in
        let more = subst (λ l. Has l k) (fold-append files_after [] (listed r h.saw) (e ∷ [])) (subst (λ l. Has (files_of l) k) list has) in
        ⊎_elim (λ old. booked.live s low k old) (λ comes. new k comes) (stays_or_comes (files_of (listed r h.saw)) e k more))
        (λ none. booked.live s low k (subst (λ l. Has (files_of l) k) (stays items hands e log n h r entered here (owned items h r own) none) has))
        (has_or_not (lists_of e) r);
  }
