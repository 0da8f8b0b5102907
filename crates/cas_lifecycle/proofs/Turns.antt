-- What runs in a list of works, its beginner's diary has begun and not ended; and the other way round.
use Rattle.std.proofs.Common.{◌%◌, ◌≤◌, ◌≡◌, ◌≢◌, ℕ, ◌⊎◌, List, [], ◌∷◌, ◌++◌, Bool, true, false, cond, refl, ap, sym, ◌∙◌, subst, inl, inr, ⊎_elim, eqb, eq-eqb, ne_eqb, true≢false}
use Rattle.std.specs.Prelude.{Option, None, Some, ◌==◌}
use Rattle.std.proofs.lemmas.Bool.Decides.{eqb_tells}
use Rattle.std.proofs.lemmas.List.Sums.{fold-append}
use Rattle.cas_history.specs.Log.{Has, Follows, Legal}
use Rattle.cas_history.proofs.Parts.{part_stays, legal_grows}
use Rattle.cas_history.specs.declared.item.Item.{Item}
use Rattle.cas_history.specs.declared.item.Item.TheVariants.{Found, Stood, Wrote, Purged, Faulted, Read, Rose, Drew, Began, Ended, Changed}
use Rattle.cas_history.specs.Last.{runs, runs_after, turn, turn_after, Idle}
use Rattle.cas_history.specs.Items.{first_diary, items, listed, lists_of}
use Rattle.cas_history.proofs.Lists.{some_one, none_some, same_or, fold_gets, fold_kept}

module _ {E : Type 0} where
  -- an entry that begins and ends nothing in these works
  abbrev Other : ℕ → Item E → Type 0
  Other works (Began there _ _) = there ≢ works
  Other works (Ended there _) = there ≢ works
  Other works e = Unit {0}

  abbrev other_or_not : ℕ → Item E → Type 0
  other_or_not works e = Other works e ⊎ ((pass : ℕ) × (what : E) × (e ≡ Began works pass what)) ⊎ ((pass : ℕ) × (e ≡ Ended works pass))

  which : (works : ℕ) (e : Item E) → other_or_not works e
  which works (Began there pass what) = ⊎_elim (λ (t : (eqb there works ≡ true) × (there ≡ works)). inr (inl (pass, what, ap (λ k. Began k pass what) t.1))) (λ (f : (eqb there works ≡ false) × (there ≢ works)). inl f.1) (eqb_tells there works)
  which works (Ended there pass) = ⊎_elim (λ (t : (eqb there works ≡ true) × (there ≡ works)). inr (inr (pass, ap (λ k. Ended k pass) t.1))) (λ (f : (eqb there works ≡ false) × (there ≢ works)). inl f.1) (eqb_tells there works)
  which works (Found _ _) = inl tt
  which works (Wrote _ _ _ _ _) = inl tt
  which works (Stood _ _ _ _ _) = inl tt
  which works (Purged _ _ _ _) = inl tt
  which works (Faulted _ _ _) = inl tt
  which works (Read _ _) = inl tt
  which works (Rose _ _ _) = inl tt
  which works (Drew _ _) = inl tt
  which works (Changed _ _ _ _ _ _ _) = inl tt

  turn_kept : (works : ℕ) (e : Item E) → Other works e → (b : Bool) → turn_after works b e ≡ b
  turn_kept works (Began there p w) o b = ap (λ (t : Bool). cond t true b) (ne_eqb there works o)
  turn_kept works (Ended there p) o b = ap (λ (t : Bool). cond t false b) (ne_eqb there works o)
  turn_kept works (Found _ _) o b = refl
  turn_kept works (Wrote _ _ _ _ _) o b = refl
  turn_kept works (Stood _ _ _ _ _) o b = refl
  turn_kept works (Purged _ _ _ _) o b = refl
  turn_kept works (Faulted _ _ _) o b = refl
  turn_kept works (Read _ _) o b = refl
  turn_kept works (Rose _ _ _) o b = refl
  turn_kept works (Drew _ _) o b = refl
  turn_kept works (Changed _ _ _ _ _ _ _) o b = refl

  runs_kept : (works : ℕ) (e : Item E) → Other works e → (p : Option ℕ) → runs_after works p e ≡ p
  runs_kept works (Began there q w) o p = ap (λ (t : Bool). cond t (Some q) p) (ne_eqb there works o)
  runs_kept works (Ended there q) o p = ap (λ (t : Bool). cond t None p) (ne_eqb there works o)
  runs_kept works (Found _ _) o p = refl
  runs_kept works (Wrote _ _ _ _ _) o p = refl
  runs_kept works (Stood _ _ _ _ _) o p = refl
  runs_kept works (Purged _ _ _ _) o p = refl
  runs_kept works (Faulted _ _ _) o p = refl
  runs_kept works (Read _ _) o p = refl
  runs_kept works (Rose _ _ _) o p = refl
  runs_kept works (Drew _ _) o p = refl
  runs_kept works (Changed _ _ _ _ _ _ _) o p = refl

  -- the diary has the turn only where it runs for it
  abbrev pub Turned : ℕ → ℕ → List (Item E) → Type 0
  Turned works pass log = turn works (listed pass log) ≡ true → runs works (listed works log) ≡ Some pass

  begins_turned : (works pass : ℕ) → works ≢ pass → (before : List (Item E)) (p : ℕ) (what : E) → Turned works pass before → Follows items before (Began works p what) → Turned works pass (before ++ Began works p what ∷ [])
  begins_turned works pass apart before p what so f now =
      let e = Began works p what in
      let idle : runs works (listed works before) ≡ None = f.0.0.4 refl in
      let runs_now : runs works (listed works (before ++ e ∷ [])) ≡ Some p = fold_gets (runs_after works) None works before e (inl refl) ∙ ap (λ (t : Bool). cond t (Some p) (runs works (listed works before))) (eq-eqb works works refl) in
      ⊎_elim
      (λ (same : p ≡ pass). runs_now ∙ ap Some same)
      (λ (not : p ≢ pass).
      let stays = part_stays items before e pass (λ has. elsewhere has not) in
      absurd (none_some pass (sym idle ∙ so (sym (ap (turn works) stays) ∙ now))))
      (same_or p pass)
    where
      elsewhere : Has (works ∷ p ∷ []) pass → p ≢ pass → ⊥
      elsewhere (inl is) not = apart is
      elsewhere (inr (inl is)) not = not is
      elsewhere (inr (inr none)) not = none

  ends_turned : (works pass : ℕ) → works ≢ pass → (before : List (Item E)) (p : ℕ) → Turned works pass before → Follows items before (Ended works p) → Turned works pass (before ++ Ended works p ∷ [])
  ends_turned works pass apart before p so f now =
      let e : Item E = Ended works p in
      let ran : runs works (listed works before) ≡ Some p = f.0.0.3 refl in
      ⊎_elim
      (λ (same : p ≡ pass).
      let over : turn works (listed pass (before ++ e ∷ [])) ≡ false =
      fold_gets (turn_after works) false pass before e (inr (inl same)) ∙ ap (λ (t : Bool). cond t false (turn works (listed pass before))) (eq-eqb works works refl) in
      absurd (true≢false (sym now ∙ over)))
      (λ (not : p ≢ pass).
      let stays = part_stays items before e pass (λ has. elsewhere has not) in
      absurd (not (some_one p pass (sym ran ∙ so (sym (ap (turn works) stays) ∙ now)))))
      (same_or p pass)
    where
      elsewhere : Has (works ∷ p ∷ []) pass → p ≢ pass → ⊥
      elsewhere (inl is) not = apart is
      elsewhere (inr (inl is)) not = not is
      elsewhere (inr (inr none)) not = none

  pub turned : (works pass : ℕ) → works ≢ pass → (log : List (Item E)) → Legal items log → Turned works pass log
  turned works pass apart log legal =
      legal_grows items (Turned works pass) (λ never. absurd (true≢false (sym never)))
      (λ before e so f. one before e so f (which works e)) log legal
    where
      one : (before : List (Item E)) (e : Item E) → Turned works pass before → Follows items before e → other_or_not works e → Turned works pass (before ++ e ∷ [])
      one before e so f (inl o) now =
          fold_kept (runs_after works) None works before e (runs_kept works e o) ∙ so (sym (fold_kept (turn_after works) false pass before e (turn_kept works e o)) ∙ now)
      one before e so f (inr (inl is)) now =
          subst (λ x. Turned works pass (before ++ x ∷ [])) (sym is.2) (begins_turned works pass apart before is.0 is.1 so (subst (Follows items before) is.2 f)) now
      one before e so f (inr (inr is)) now =
          subst (λ x. Turned works pass (before ++ x ∷ [])) (sym is.1) (ends_turned works pass apart before is.0 so (subst (Follows items before) is.1 f)) now

  -- who runs is a diary that has the turn
  abbrev pub Running : ℕ → ℕ → List (Item E) → Type 0
  Running works pass log = runs works (listed works log) ≡ Some pass → (first_diary ≤ pass) × (pass % 2 ≡ 0) × (turn works (listed pass log) ≡ true)

  pub running : (works pass : ℕ) (log : List (Item E)) → Legal items log → Running works pass log
  running works pass log legal =
      legal_grows items (Running works pass) (λ runs'. absurd (none_some pass runs')) (λ before e so f. one before e so f (which works e)) log legal
    where
      begun : (before : List (Item E)) (e : Item E) (p : ℕ) (what : E) → e ≡ Began works p what → Follows items before e → runs works (listed works (before ++ e ∷ [])) ≡ Some pass
          → (first_diary ≤ pass) × (pass % 2 ≡ 0) × (turn works (listed pass (before ++ e ∷ [])) ≡ true)
      begun before e p what is f now =
          let has : Has (lists_of e) works = subst (λ x. Has (lists_of x) works) (sym is) (inl refl) in
          let here : runs works (listed works (before ++ e ∷ [])) ≡ Some p =
          fold_gets (runs_after works) None works before e has
          ∙ (ap (runs_after works (runs works (listed works before))) is ∙ ap (λ (t : Bool). cond t (Some p) (runs works (listed works before))) (eq-eqb works works refl)) in
          let same : p ≡ pass = some_one p pass (sym here ∙ now) in
          let f' : Follows items before (Began works p what) = subst (Follows items before) is f in
          let diary : Has (lists_of e) pass = subst (λ x. Has (lists_of x) pass) (sym is) (inr (inl same)) in (
            subst (λ (k : ℕ). first_diary ≤ k) same f'.0.0.1,
            subst (λ (k : ℕ). k % 2 ≡ 0) same f'.0.0.3,
            fold_gets (turn_after works) false pass before e diary
                ∙ (ap (turn_after works (turn works (listed pass before))) is ∙ ap (λ (t : Bool). cond t true (turn works (listed pass before))) (eq-eqb works works refl)),
          )

      one : (before : List (Item E)) (e : Item E) → Running works pass before → Follows items before e → other_or_not works e → Running works pass (before ++ e ∷ [])
      one before e so f (inl o) now =
          let was = so (sym (fold_kept (runs_after works) None works before e (runs_kept works e o)) ∙ now) in (
            was.0,
            was.1,
            fold_kept (turn_after works) false pass before e (turn_kept works e o) ∙ was.2,
          )
      one before e so f (inr (inl is)) now = begun before e is.0 is.1 is.2 f now
      one before e so f (inr (inr is)) now =
          let has : Has (lists_of e) works = subst (λ x. Has (lists_of x) works) (sym is.1) (inl refl) in
          let over : runs works (listed works (before ++ e ∷ [])) ≡ None =
          fold_gets (runs_after works) None works before e has
          ∙ (ap (runs_after works (runs works (listed works before))) is.1 ∙ ap (λ (t : Bool). cond t None (runs works (listed works before))) (eq-eqb works works refl)) in
          absurd (none_some pass (sym over ∙ now))

module _ {E : Type 0} where
  -- what begins nothing leaves a diary without a turn
  pub stays_idle : (list : List (Item E)) (e : Item E) → ((works : ℕ) → turn_after works false e ≡ false) → Idle list → Idle (list ++ e ∷ [])
  stays_idle list e quiet idle works = fold-append (turn_after works) false list (e ∷ []) ∙ (ap (λ b. turn_after works b e) (idle works) ∙ quiet works)

  -- a diary whose only turn has ended
  pub idle_again : (works pass : ℕ) (list : List (Item E)) (what : E) → Idle list → Idle ((list ++ Began works pass what ∷ []) ++ Ended works pass ∷ [])
  idle_again works pass list what idle k =
      let begun : Item E = Began works pass what in
      let ended : Item E = Ended works pass in
      fold-append (turn_after {E = E} k) false (list ++ begun ∷ []) (ended ∷ [])
      ∙ (ap (λ b. turn_after {E = E} k b ended) (fold-append (turn_after {E = E} k) false list (begun ∷ [])) ∙ over (works == k) (turn k list) (idle k))
    where
      over : (same was : Bool) → was ≡ false → cond same false (cond same true was) ≡ false
      over true was none = refl
      over false was none = none
