-- What is noted of mutations, once another is noted or none.
use Rattle.std.proofs.Common.{◌≡◌, ◌⊎◌, inl, inr, ⊎_elim, ℕ, ◌<◌, ◌≤◌, ◌==◌, max, Bool, true, false, List, [], ◌∷◌, ◌++◌, length, refl, sym, ◌∙◌, arith, length-append}
use Rattle.std.specs.Prelude.{if◌then◌else◌}
use Rattle.std.specs.List.{Any}
use Rattle.std.proofs.lemmas.Bool.{eq-eqb, eqb-true, cases_lt}
use Rattle.std.proofs.lemmas.List.{get_or_append_left}
use Rattle.std.proofs.lemmas.List.Quantifiers.{Any-push}
use Rattle.cas_atoms.specs.declared.atom.Mutation.{Mutation}
use Rattle.cas_replay.specs.declared.tops.Tops.{Tops}
use Rattle.cas_replay.specs.Tops.{place_in, top_at, AreNoted, AreTopsOf, AreNotesOf}

-- one of a front is one of all
any_front : {X : Type 0} (P : X → Type 0) (xs ys : List X) → Any P xs → Any P (xs ++ ys)
any_front P xs ys (k, x, within, is, so) = (k, x, omega (arith, within, length-append xs ys), get_or_append_left xs ys x k within ∙ is, so)

-- with others behind them
pub tops_front : (shards : ℕ) (tops : Tops) (ms others : List Mutation) → AreTopsOf shards tops ms → AreTopsOf shards tops (ms ++ others)
tops_front shards tops ms others exact place =
    ⊎_elim inl (λ one. inr (any_front (λ m. (place_in shards m ≡ place) × (m.number ≡ top_at tops place)) ms others one)) (exact place)

module _ (shards : ℕ) (a b : Tops) where
  -- where no number falls, what is noted stays so
  pub still_noted : ((at : ℕ) → top_at a at ≤ top_at b at) → (ms : List Mutation) → AreNoted shards a ms → AreNoted shards b ms
  still_noted rises [] noted = tt
  still_noted rises (m ∷ ms) noted = (omega (arith, noted.0, rises (place_in shards m)), still_noted rises ms noted.1)

  -- where none changes, each is that of a mutation
  pub still_tops : ((at : ℕ) → top_at b at ≡ top_at a at) → (ms : List Mutation) → AreTopsOf shards a ms → AreTopsOf shards b ms
  still_tops same ms exact place =
      ⊎_elim (λ none. inl (same place ∙ none)) (λ (k, m, within, is, so). inr (k, m, within, is, (so.0, so.1 ∙ sym (same place)))) (exact place)

  pub still_notes : ((at : ℕ) → top_at b at ≡ top_at a at) → (ms : List Mutation) → AreNotesOf shards a ms → AreNotesOf shards b ms
  still_notes same ms notes = record {
    noted = still_noted (λ at. let e : top_at b at ≡ top_at a at = same at in omega (arith, e)) ms notes.noted;
    exact = still_tops same ms notes.exact;
  }

  -- one mutation more is noted
  module _ (m : Mutation) (raised : (at : ℕ) → top_at b at ≡ (if at == place_in shards m then max (top_at a at) m.number else top_at a at)) where
    raised_by : (at : ℕ) (is : Bool) → (at == place_in shards m) ≡ is → top_at a at ≤ top_at b at
    raised_by at true is = let e : top_at b at ≡ max (top_at a at) m.number = raised at ∙ rw is refl in omega (arith, e)
    raised_by at false is = let e : top_at b at ≡ top_at a at = raised at ∙ rw is refl in omega (arith, e)

    noted_more : (ms : List Mutation) → AreNoted shards a ms → m.number ≤ top_at b (place_in shards m) → AreNoted shards b (ms ++ m ∷ [])
    noted_more [] noted one = (one, tt)
    noted_more (x ∷ ms) noted one = (omega (arith, noted.0, raised_by (place_in shards x) (place_in shards x == place_in shards m) refl), noted_more ms noted.1 one)

    pub one_more_noted : (ms : List Mutation) → AreNoted shards a ms → AreNoted shards b (ms ++ m ∷ [])
    one_more_noted ms noted =
        let same : (place_in shards m == place_in shards m) ≡ true = eq-eqb (place_in shards m) (place_in shards m) refl in
        let e : top_at b (place_in shards m) ≡ max (top_at a (place_in shards m)) m.number = raised (place_in shards m) ∙ rw same refl in
        noted_more ms noted (omega (arith, e))

    abbrev Top : Tops → List Mutation → ℕ → Type 0
    Top tops ms at = (top_at tops at ≡ 0) ⊎ Any (λ x. (place_in shards x ≡ at) × (x.number ≡ top_at tops at)) ms

    -- the number that was there before
    top_stays : (ms : List Mutation) (at : ℕ) → top_at b at ≡ top_at a at → Top a ms at → Top b (ms ++ m ∷ []) at
    top_stays ms at same was =
        ⊎_elim (λ none. inl (same ∙ none))
        (λ one. inr (any_front (λ x. (place_in shards x ≡ at) × (x.number ≡ top_at b at)) ms (m ∷ []) (one.0, one.1, one.2, one.3, (one.4.0, one.4.1 ∙ sym same)))) was

    top_more : (ms : List Mutation) (at : ℕ) (is : Bool) → (at == place_in shards m) ≡ is → Top a ms at → Top b (ms ++ m ∷ []) at
    top_more ms at false is was = top_stays ms at (raised at ∙ rw is refl) was
    top_more ms at true is was =
        let e : top_at b at ≡ max (top_at a at) m.number = raised at ∙ rw is refl in
        let here : at ≡ place_in shards m = eqb-true at (place_in shards m) is in
        ⊎_elim (λ above. top_stays ms at (omega (arith, e, above)) was)
        (λ new. inr (Any-push (λ x. (place_in shards x ≡ at) × (x.number ≡ top_at b at)) ms m (sym here, omega (arith, e, new)))) (cases_lt m.number (top_at a at))

    pub one_more_top : (ms : List Mutation) → AreTopsOf shards a ms → AreTopsOf shards b (ms ++ m ∷ [])
    one_more_top ms exact at = top_more ms at (at == place_in shards m) refl (exact at)

-- the same, of a mutation at a place with a number
pub one_more_notes : (shards : ℕ) (a b : Tops) (m : Mutation) (place number : ℕ) → place ≡ place_in shards m → m.number ≡ number
    → ((at : ℕ) → top_at b at ≡ (if at == place then max (top_at a at) number else top_at a at))
    → (ms : List Mutation) → AreNotesOf shards a ms → AreNotesOf shards b (ms ++ m ∷ [])
one_more_notes shards a b m place number at is raised ms notes =
    let raises : (i : ℕ) → top_at b i ≡ (if i == place_in shards m then max (top_at a i) m.number else top_at a i) =
    λ i. raised i ∙ (λ k. if i == at k then max (top_at a i) (sym is k) else top_at a i) in
    record { noted = one_more_noted shards a b m raises ms notes.noted; exact = one_more_top shards a b m raises ms notes.exact }
