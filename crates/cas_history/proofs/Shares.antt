-- In a legal log, the mutations of a session in the room's list are those of its diary, those of a shard are those of its list, and the copies of a shard's changes are its changes.
use Rattle.std.proofs.Common.{◌≡◌, ◌⊎◌, ℕ, ◌<◌, List, [], ◌∷◌, ◌++◌, Bool, true, false, cond, refl, ap, sym, ◌∙◌, inl, inr, ⊎_elim, arith, append-nil, eqb-true, true≢false}
use Rattle.std.specs.Prelude.{◌==◌}
use Rattle.std.specs.List.{filter, list_any}
use mathlib.Core.List.{IsPrefix}
use Rattle.std.proofs.lemmas.List.Elements.{filter-append}
use Rattle.cas_history.specs.Log.{Has, Follows, Legal}
use Rattle.cas_history.proofs.LogLists.{has_or_not}
use Rattle.cas_history.proofs.Parts.{part_gets, part_stays, legal_grows}
use Rattle.cas_history.specs.declared.item.Item.{Item}
use Rattle.cas_history.specs.declared.item.Item.TheVariants.{Found, Stood, Wrote, Purged, Faulted, Read, Rose, Drew, Began, Ended, Changed}
use Rattle.cas_history.specs.Items.{items, listed, lists_of, log_list, front_list, changes_list, room_changes, book_changes}
use Rattle.cas_history.specs.Laws.{is_write_of, is_write_in, writes_of, writes_in}

module _ {E : Type 0} where
  -- each list goes on from what it was in a beginning of the log
  pub list_begins : (list : ℕ) (p log : List (Item E)) → IsPrefix p log → IsPrefix (listed list p) (listed list log)
  list_begins list p log begin = (listed list begin.0, sym (filter-append (λ e. list_any (λ k. k == list) (lists_of e)) p begin.0) ∙ ap (listed list) begin.1)

  -- what a test finds in a list, after an entry that the list has, and after one that fails the test
  found_here : (test : Item E → Bool) (r : ℕ) (before : List (Item E)) (e : Item E) → Has (lists_of e) r → filter test (listed r (before ++ e ∷ [])) ≡ filter test (listed r before) ++ filter test (e ∷ [])
  found_here test r before e has = ap (filter test) (part_gets items before e r has) ∙ filter-append test (listed r before) (e ∷ [])

  found_kept : (test : Item E → Bool) (r : ℕ) (before : List (Item E)) (e : Item E) → test e ≡ false → filter test (listed r (before ++ e ∷ [])) ≡ filter test (listed r before)
  found_kept test r before e fails =
      ⊎_elim
      (λ has. found_here test r before e has ∙ (ap (λ (b : Bool). filter test (listed r before) ++ cond b (e ∷ []) []) fails ∙ append-nil (filter test (listed r before))))
      (λ none. ap (filter test) (part_stays items before e r none))
      (has_or_not (lists_of e) r)

  -- two lists of which each has the entries that pass the test, as they come
  alike : (test : Item E → Bool) (r q : ℕ) → ((e : Item E) → test e ≡ true → Has (lists_of e) r × Has (lists_of e) q) → (log : List (Item E)) → Legal items log → filter test (listed r log) ≡ filter test (listed q log)
  alike test r q both log legal =
      legal_grows items (λ l. filter test (listed r l) ≡ filter test (listed q l)) refl (λ before e same f. one before e same (test e) refl) log legal
    where
      one : (before : List (Item E)) (e : Item E) → filter test (listed r before) ≡ filter test (listed q before) → (b : Bool) → test e ≡ b → filter test (listed r (before ++ e ∷ [])) ≡ filter test (listed q (before ++ e ∷ []))
      one before e same true is = found_here test r before e (both e is).0 ∙ (ap (λ l. l ++ filter test (e ∷ [])) same ∙ sym (found_here test q before e (both e is).1))
      one before e same false is = found_kept test r before e is ∙ (same ∙ sym (found_kept test q before e is))

  pub session_writes : (session : ℕ) (log : List (Item E)) → Legal items log → writes_of session (listed log_list log) ≡ writes_of session (listed session log)
  session_writes session = alike (is_write_of session) log_list session both
    where
      both : (e : Item E) → is_write_of session e ≡ true → Has (lists_of e) log_list × Has (lists_of e) session
      both (Wrote s p c n w) is = (inl refl, inr (inr (inl (eqb-true p session is))))
      both (Found _ _) is = absurd (true≢false (sym is))
      both (Stood _ _ _ _ _) is = absurd (true≢false (sym is))
      both (Purged _ _ _ _) is = absurd (true≢false (sym is))
      both (Faulted _ _ _) is = absurd (true≢false (sym is))
      both (Read _ _) is = absurd (true≢false (sym is))
      both (Rose _ _ _) is = absurd (true≢false (sym is))
      both (Drew _ _) is = absurd (true≢false (sym is))
      both (Began _ _ _) is = absurd (true≢false (sym is))
      both (Ended _ _) is = absurd (true≢false (sym is))
      both (Changed _ _ _ _ _ _ _) is = absurd (true≢false (sym is))

  pub shard_writes : (shard : ℕ) (log : List (Item E)) → Legal items log → writes_in shard (listed log_list log) ≡ writes_in shard (listed (front_list shard) log)
  shard_writes shard = alike (is_write_in shard) log_list (front_list shard) both
    where
      both : (e : Item E) → is_write_in shard e ≡ true → Has (lists_of e) log_list × Has (lists_of e) (front_list shard)
      both (Wrote s p c n w) is = (inl refl, inr (inl (ap front_list (eqb-true s shard is))))
      both (Found _ _) is = absurd (true≢false (sym is))
      both (Stood _ _ _ _ _) is = absurd (true≢false (sym is))
      both (Purged _ _ _ _) is = absurd (true≢false (sym is))
      both (Faulted _ _ _) is = absurd (true≢false (sym is))
      both (Read _ _) is = absurd (true≢false (sym is))
      both (Rose _ _ _) is = absurd (true≢false (sym is))
      both (Drew _ _) is = absurd (true≢false (sym is))
      both (Began _ _ _) is = absurd (true≢false (sym is))
      both (Ended _ _) is = absurd (true≢false (sym is))
      both (Changed _ _ _ _ _ _ _) is = absurd (true≢false (sym is))

  -- an entry of one of the lists of changes of a shard is a change of that shard, and so of the others too
  copied : (shard r : ℕ) (before : List (Item E)) (e : Item E) → shard < 16 → Follows items before e
      → (r ≡ changes_list shard) ⊎ (r ≡ room_changes shard) ⊎ (r ≡ book_changes shard) → Has (lists_of e) r → Has (lists_of e) (changes_list shard) × Has (lists_of e) (room_changes shard) × Has (lists_of e) (book_changes shard)
  copied shard r before (Stood s t n fs w) low f which has = let s' = f.0.0.0 in let same : s ≡ shard = grind (arith) in (inr (inl (ap changes_list same)), inr (inr (inl (ap room_changes same))), inr (inr (inr (inl (ap book_changes same)))))
  copied shard r before (Changed s p t n rm a w) low f which has = let p' = f.0.0.1 in let s' = f.0.0.0 in let same : s ≡ shard = grind (arith) in (inl (ap changes_list same), inr (inl (ap room_changes same)), inr (inr (inl (ap book_changes same))))
  copied shard r before (Found l n) low f which has = let p' = f.0.0.0 in absurd (grind (arith))
  copied shard r before (Wrote s p c n w) low f which has = let p' = f.0.0 in absurd (grind (arith))
  copied shard r before (Purged s k p w) low f which has = let p' = f.0.0 in absurd (grind (arith))
  copied shard r before (Faulted _ _ _) low f which has = absurd (grind (arith))
  copied shard r before (Read p _) low f which has = let p' = f.0.0 in absurd (grind (arith))
  copied shard r before (Rose s _ _) low f which has = let p' = f.0.0 in absurd (grind (arith))
  copied shard r before (Drew p _) low f which has = let p' = f.0.0 in absurd (grind (arith))
  copied shard r before (Began k p _) low f which has = let p' = f.0.0 in absurd (grind (arith))
  copied shard r before (Ended k p) low f which has = let p' = f.0.0 in absurd (grind (arith))

  all_copied : (shard : ℕ) → shard < 16 → (log : List (Item E)) → Legal items log → (listed (changes_list shard) log ≡ listed (room_changes shard) log) × (listed (changes_list shard) log ≡ listed (book_changes shard) log)
  all_copied shard low log legal =
      legal_grows items (λ l. (listed (changes_list shard) l ≡ listed (room_changes shard) l) × (listed (changes_list shard) l ≡ listed (book_changes shard) l)) (refl, refl)
      (λ before e same f. ⊎_elim
      (λ has.
      let all = copied shard (changes_list shard) before e low f (inl refl) has in
      let here = part_gets items before e (changes_list shard) has in (
        here ∙ (ap (λ l. l ++ e ∷ []) same.0 ∙ sym (part_gets items before e (room_changes shard) all.1)),
        here ∙ (ap (λ l. l ++ e ∷ []) same.1 ∙ sym (part_gets items before e (book_changes shard) all.2)),
      ))
      (λ none.
      let here = part_stays items before e (changes_list shard) none in (
        here ∙ (same.0 ∙ sym (part_stays items before e (room_changes shard) (λ has. none (copied shard (room_changes shard) before e low f (inr (inl refl)) has).0))),
        here ∙ (same.1 ∙ sym (part_stays items before e (book_changes shard) (λ has. none (copied shard (book_changes shard) before e low f (inr (inr refl)) has).0))),
      ))
      (has_or_not (lists_of e) (changes_list shard)))
      log legal

  pub room_copies : (shard : ℕ) → shard < 16 → (log : List (Item E)) → Legal items log → listed (changes_list shard) log ≡ listed (room_changes shard) log
  room_copies shard low log legal = (all_copied shard low log legal).0

  pub book_copies : (shard : ℕ) → shard < 16 → (log : List (Item E)) → Legal items log → listed (changes_list shard) log ≡ listed (book_changes shard) log
  book_copies shard low log legal = (all_copied shard low log legal).1
