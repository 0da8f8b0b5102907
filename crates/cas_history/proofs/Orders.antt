-- A session's mutations are its first, its second and so on; a shard's are numbered by one.
use Rattle.std.proofs.Common.{◌≡◌, ℕ, zero, suc, ◌+◌, ◌<◌, ◌≤◌, List, [], ◌∷◌, ◌++◌, length, Bool, true, false, cond, refl, ap, sym, ◌∙◌, subst, arith, append-nil, length-append, eq-eqb}
use Rattle.std.specs.List.{filter, flat_map}
use Rattle.std.proofs.lemmas.Grind.{flat_map-append}
use Rattle.std.proofs.lemmas.List.Elements.{filter-append}
use Rattle.std.proofs.lemmas.List.Sums.{fold-append}
use Rattle.cas_history.specs.Log.{Has, Legal}
use Rattle.cas_history.specs.Hands.{numbers}
use Rattle.cas_history.proofs.Parts.{list_grows}
use Rattle.cas_history.specs.declared.item.Item.{Item}
use Rattle.cas_history.specs.declared.item.Item.TheVariants.{Found, Stood, Wrote, Purged, Faulted, Read, Rose, Drew, Began, Ended, Changed}
use Rattle.cas_history.specs.Items.{items, listed, lists_of, MayCome, log_list, front_list, first_diary}
use Rattle.cas_history.specs.Last.{last_call, call_after, last_number, number_after}
use Rattle.cas_history.specs.Laws.{is_write_of, is_write_in, writes_of, writes_in, call_of, calls_of, number_of, numbers_of, found, found_after, Stands}
use Rattle.cas_history.proofs.Shares.{session_writes, shard_writes}

one_more : (m n : ℕ) → numbers m (suc n) ≡ numbers m n ++ (m + n) ∷ []
one_more m zero = ap (λ (k : ℕ). k ∷ []) (omega arith)
one_more m (suc n) = ap (λ l. m ∷ l) (one_more (suc m) n ∙ ap (λ (k : ℕ). numbers (suc m) n ++ k ∷ []) (omega arith))

module _ {E : Type 0} where
  -- the entries that pass the test bring these numbers, one by one
  abbrev InOrder : (Item E → Bool) → (Item E → List ℕ) → ℕ → List (Item E) → Type 0
  InOrder test brings first list = flat_map brings (filter test list) ≡ numbers first (length (filter test list))

  passes : (test : Item E → Bool) (list : List (Item E)) (e : Item E) → test e ≡ true → filter test (list ++ e ∷ []) ≡ filter test list ++ e ∷ []
  passes test list e is = filter-append test list (e ∷ []) ∙ ap (λ (b : Bool). filter test list ++ cond b (e ∷ []) []) is

  fails : (test : Item E → Bool) (list : List (Item E)) (e : Item E) → test e ≡ false → filter test (list ++ e ∷ []) ≡ filter test list
  fails test list e is = filter-append test list (e ∷ []) ∙ (ap (λ (b : Bool). filter test list ++ cond b (e ∷ []) []) is ∙ append-nil (filter test list))

  goes_on : (test : Item E → Bool) (brings : Item E → List ℕ) (first n : ℕ) (list : List (Item E)) (e : Item E)
      → test e ≡ true → brings e ≡ n ∷ [] → n ≡ first + length (filter test list) → InOrder test brings first list → InOrder test brings first (list ++ e ∷ [])
  goes_on test brings first n list e is one next so =
      let xs = filter test list in
      let more = passes test list e is in
      let left : flat_map brings (xs ++ e ∷ []) ≡ numbers first (length xs) ++ n ∷ [] =
      flat_map-append brings xs (e ∷ []) ∙ (ap (λ l. flat_map brings xs ++ l) (append-nil (brings e) ∙ one) ∙ ap (λ l. l ++ n ∷ []) so) in
      let count : length (xs ++ e ∷ []) ≡ suc (length xs) = let l = length-append xs (e ∷ []) in omega arith in
      ap (flat_map brings) more
      ∙ (left
      ∙ (ap (λ (k : ℕ). numbers first (length xs) ++ k ∷ []) next
      ∙ (sym (one_more first (length xs)) ∙ (ap (numbers first) (sym count) ∙ ap (λ l. numbers first (length l)) (sym more)))))

  stays_so : (test : Item E → Bool) (brings : Item E → List ℕ) (first : ℕ) (list : List (Item E)) (e : Item E) → test e ≡ false → InOrder test brings first list → InOrder test brings first (list ++ e ∷ [])
  stays_so test brings first list e is so =
      let same = fails test list e is in
      ap (flat_map brings) same ∙ (so ∙ ap (λ l. numbers first (length l)) (sym same))

  -- a diary
  abbrev Called : ℕ → List (Item E) → Type 0
  Called s list = InOrder (is_write_of s) call_of 1 list × (last_call list ≡ length (writes_of s list))

  calls_same : (s : ℕ) (list : List (Item E)) (e : Item E) → is_write_of s e ≡ false → call_after (last_call list) e ≡ last_call list → Called s list → Called s (list ++ e ∷ [])
  calls_same s list e not same so = (
    stays_so (is_write_of s) call_of 1 list e not so.0,
    fold-append call_after 0 list (e ∷ []) ∙ (same ∙ (so.1 ∙ ap length (sym (fails (is_write_of s) list e not)))),
  )

  called : (s : ℕ) → first_diary ≤ s → (list : List (Item E)) (e : Item E) → Has (lists_of e) s → Called s list → MayCome s list e → Called s (list ++ e ∷ [])
  called s low list (Wrote sh p c n w) has so may =
      let small = may.0 in
      let here : p ≡ s = grind (arith) in
      let next : c ≡ last_call list + 1 = may.3 (sym here) in
      let is : is_write_of s (Wrote sh p c n w) ≡ true = eq-eqb p s here in
      let last = so.1 in
      let longer = length-append (writes_of s list) (Wrote sh p c n w ∷ []) in (
        goes_on (is_write_of s) call_of 1 c list (Wrote sh p c n w) is refl (omega arith) so.0,
        fold-append call_after 0 list (Wrote sh p c n w ∷ []) ∙ (next ∙ (ap (λ (k : ℕ). k + 1) last ∙ (sym longer ∙ ap length (sym (passes (is_write_of s) list (Wrote sh p c n w) is))))),
      )
  called s low list (Found a b) has so may = calls_same s list (Found a b) refl refl so
  called s low list (Stood a b c d w) has so may = calls_same s list (Stood a b c d w) refl refl so
  called s low list (Purged a b c w) has so may = calls_same s list (Purged a b c w) refl refl so
  called s low list (Faulted a b c) has so may = calls_same s list (Faulted a b c) refl refl so
  called s low list (Read a b) has so may = calls_same s list (Read a b) refl refl so
  called s low list (Rose a b c) has so may = calls_same s list (Rose a b c) refl refl so
  called s low list (Drew a b) has so may = calls_same s list (Drew a b) refl refl so
  called s low list (Began a b w) has so may = calls_same s list (Began a b w) refl refl so
  called s low list (Ended a b) has so may = calls_same s list (Ended a b) refl refl so
  called s low list (Changed a b c d e f w) has so may = calls_same s list (Changed a b c d e f w) refl refl so

  -- a shard's list
  abbrev Numbered : ℕ → List (Item E) → Type 0
  Numbered s list = InOrder (is_write_in s) number_of (found list + 1) list × (last_number list ≡ found list + length (writes_in s list))

  numbers_same : (s : ℕ) (list : List (Item E)) (e : Item E) → is_write_in s e ≡ false → number_after (last_number list) e ≡ last_number list → found_after (found list) e ≡ found list
      → Numbered s list → Numbered s (list ++ e ∷ [])
  numbers_same s list e not same start so =
      let same_start : found (list ++ e ∷ []) ≡ found list = fold-append found_after 0 list (e ∷ []) ∙ start in (
        subst (λ (k : ℕ). InOrder (is_write_in s) number_of (k + 1) (list ++ e ∷ [])) (sym same_start) (stays_so (is_write_in s) number_of (found list + 1) list e not so.0),
        fold-append number_after 0 list (e ∷ [])
            ∙ (same ∙ (so.1 ∙ (ap (λ (k : ℕ). k + length (writes_in s list)) (sym same_start) ∙ ap (λ l. found (list ++ e ∷ []) + length l) (sym (fails (is_write_in s) list e not))))),
      )

  numbered : (s : ℕ) → s < 16 → (list : List (Item E)) (e : Item E) → Has (lists_of e) (front_list s) → Numbered s list → MayCome (front_list s) list e → Numbered s (list ++ e ∷ [])
  numbered s low list (Wrote sh p c n w) has so may =
      let e : Item E = Wrote sh p c n w in
      let diary = may.1 in
      let there : front_list s ≡ front_list sh = grind (arith) in
      let here : sh ≡ s = omega arith in
      let next = may.2 there in
      let is : is_write_in s e ≡ true = eq-eqb sh s here in
      let last = so.1 in
      let longer = length-append (writes_in s list) (e ∷ []) in
      let same_start : found (list ++ e ∷ []) ≡ found list = fold-append found_after 0 list (e ∷ []) in (
        subst (λ (k : ℕ). InOrder (is_write_in s) number_of (k + 1) (list ++ e ∷ [])) (sym same_start) (goes_on (is_write_in s) number_of (found list + 1) n list e is refl (omega arith) so.0),
        fold-append number_after 0 list (e ∷ [])
            ∙ ((omega arith)
            ∙ (ap (λ (k : ℕ). found list + k) (sym longer) ∙ (ap (λ (k : ℕ). k + length (writes_in s list ++ e ∷ [])) (sym same_start) ∙ ap (λ l. found (list ++ e ∷ []) + length l) (sym (passes (is_write_in s) list e is))))),
      )
  numbered s low list (Found a b) has so may = subst (λ l. Numbered s (l ++ Found a b ∷ [])) (sym may.1) (refl, omega arith)
  numbered s low list (Stood a b c d w) has so may = numbers_same s list (Stood a b c d w) refl refl refl so
  numbered s low list (Purged a b c w) has so may = numbers_same s list (Purged a b c w) refl refl refl so
  numbered s low list (Faulted a b c) has so may = numbers_same s list (Faulted a b c) refl refl refl so
  numbered s low list (Read a b) has so may = numbers_same s list (Read a b) refl refl refl so
  numbered s low list (Rose a b c) has so may = numbers_same s list (Rose a b c) refl refl refl so
  numbered s low list (Drew a b) has so may = numbers_same s list (Drew a b) refl refl refl so
  numbered s low list (Began a b w) has so may = numbers_same s list (Began a b w) refl refl refl so
  numbered s low list (Ended a b) has so may = numbers_same s list (Ended a b) refl refl refl so
  numbered s low list (Changed a b c d e f w) has so may = numbers_same s list (Changed a b c d e f w) refl refl refl so

  -- a legal log is one history
  pub stands : (log : List (Item E)) → Legal items log → Stands (listed log_list log) (λ shard. listed (front_list shard) log) (λ session. listed session log)
  stands log legal = record {
    sessions = λ s low. session_writes s log legal;
    calls = λ s low.
        subst (λ l. calls_of l ≡ numbers 1 (length l)) (sym (session_writes s log legal))
        (list_grows items s (Called s) (λ list e has so may. called s low list e has so may) [] log (log, refl) legal (refl, refl)).0;
    shards = λ s low. shard_writes s log legal;
    numbers = λ s low.
        subst (λ l. numbers_of l ≡ numbers (found (listed (front_list s) log) + 1) (length l)) (sym (shard_writes s log legal))
        (list_grows items (front_list s) (Numbered s) (λ list e has so may. numbered s low list e has so may) [] log (log, refl) legal (refl, refl)).0;
  }
