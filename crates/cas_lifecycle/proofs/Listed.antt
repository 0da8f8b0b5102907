-- Files of shards: no two shards list the same, and what a change removes its shard has no longer; no frontier is above the shard's last number.
use Rattle.std.proofs.Common.{◌≡◌, ◌≢◌, ◌⊎◌, ℕ, ◌<◌, ◌≤◌, List, [], ◌∷◌, ◌++◌, Bool, true, false, cond, refl, ap, sym, ◌∙◌, subst, inl, inr, ⊎_elim, arith, true≢false, le_refl}
use Rattle.std.specs.Prelude.{not, ◌==◌}
use Rattle.std.specs.List.{fold, filter, list_any}
use Rattle.std.proofs.lemmas.List.Sums.{fold-append}
use Rattle.cas_history.specs.Log.{Has, Follows, Legal}
use Rattle.cas_history.proofs.LogLists.{has_or_not, each_at}
use Rattle.cas_history.proofs.Parts.{part_gets, part_stays, legal_grows, names_it}
use Rattle.cas_history.specs.declared.item.Item.{Item}
use Rattle.cas_history.specs.declared.item.Item.TheVariants.{Found, Stood, Wrote, Purged, Faulted, Read, Rose, Drew, Began, Ended, Changed}
use Rattle.cas_history.specs.Items.{items, listed, lists_of, MayCome, Distinct, first_diary, front_list, changes_list}
use Rattle.cas_history.specs.Last.{adds, all_added, without, files_after, files_of, frontier_of, frontier_after, last_number, number_after}
use Rattle.cas_history.proofs.Lists.{has_either, has_left, has_right, fold_gets}
use Rattle.cas_history.proofs.Rising.{number_rises}
use Rattle.cas_history.proofs.Once.{Kept, Which, which, keeps, nothing_kept, adds_new, part_brings, brings_more}

-- what passes a test
passes_in : (test : ℕ → Bool) (xs : List ℕ) (k : ℕ) → Has (filter test xs) k → Has xs k × (test k ≡ true)
passes_in test [] k h = absurd h
passes_in test (x ∷ xs) k h = by (test x) refl (passes_in test xs k) h
  where
    by : (b : Bool) → test x ≡ b → (Has (filter test xs) k → Has xs k × (test k ≡ true)) → Has (cond b (x ∷ filter test xs) (filter test xs)) k → Has (x ∷ xs) k × (test k ≡ true)
    by true is rest g = ⊎_elim (λ (e : x ≡ k). (inl e, ap test (sym e) ∙ is)) (λ l. (inr (rest l).0, (rest l).1)) g
    by false is rest g = (inr (rest g).0, (rest g).1)

gone_from : (gone xs : List ℕ) (k : ℕ) → Has gone k → Has (without gone xs) k → ⊥
gone_from gone xs k has h =
    let test = (passes_in (λ (m : ℕ). not (list_any (λ j. j == m) gone)) xs k h).1 in
    true≢false (sym test ∙ ap not (names_it gone k has))

apart_in : (xs ys : List ℕ) (k : ℕ) → Distinct (xs ++ ys) → Has xs k → Has ys k → ⊥
apart_in [] ys k d hx hy = hx
apart_in (x ∷ xs) ys k d (inl e) hy = d.0 (subst (λ m. Has (xs ++ ys) m) (sym e) (has_right xs ys k hy))
apart_in (x ∷ xs) ys k d (inr h) hy = apart_in xs ys k d.1 h hy

one_of : {n m k : ℕ} (b : Bool) → n ≤ k → m ≤ k → cond b n m ≤ k
one_of true one other = one
one_of false one other = other

module _ {E : Type 0} where
  pub stays_or_comes : (files : List ℕ) (e : Item E) (k : ℕ) → Has (files_after files e) k → Has files k ⊎ Has (adds e) k
  stays_or_comes files (Stood _ _ _ found _) k h = has_either files found k h
  stays_or_comes files (Changed _ _ _ _ gone new _) k h =
      ⊎_elim (λ l. inl (passes_in (λ (m : ℕ). not (list_any (λ j. j == m) gone)) files k l).0) (λ r. inr r) (has_either (without gone files) new k h)
  stays_or_comes files (Found _ _) k h = inl h
  stays_or_comes files (Wrote _ _ _ _ _) k h = inl h
  stays_or_comes files (Purged _ _ _ _) k h = inl h
  stays_or_comes files (Faulted _ _ _) k h = inl h
  stays_or_comes files (Read _ _) k h = inl h
  stays_or_comes files (Rose _ _ _) k h = inl h
  stays_or_comes files (Drew _ _) k h = inl h
  stays_or_comes files (Began _ _ _) k h = inl h
  stays_or_comes files (Ended _ _) k h = inl h

  -- a shard's files were listed
  were_listed : (list : List (Item E)) (files : List ℕ) (k : ℕ) → Has (fold files_after files list) k → Has files k ⊎ Has (all_added list) k
  were_listed [] files k h = inl h
  were_listed (e ∷ es) files k h =
      ⊎_elim
      (λ there. ⊎_elim (λ a. inl a) (λ b. inr (has_left (adds e) (all_added es) k b)) (stays_or_comes files e k there))
      (λ later. inr (has_right (adds e) (all_added es) k later))
      (were_listed es (files_after files e) k h)

  pub was_listed : (list : List (Item E)) (k : ℕ) → Has (files_of list) k → Has (all_added list) k
  was_listed list k h = ⊎_elim (λ none. absurd none) (λ all. all) (were_listed list [] k h)

  -- what a change removes was listed, and still was
  pub was_before : (list : List (Item E)) (e : Item E) (k : ℕ) → Has (files_of list) k → Has (all_added (list ++ e ∷ [])) k
  was_before list e k h = subst (λ l. Has l k) (sym (brings_more adds list e)) (has_left (all_added list) (adds e) k (was_listed list k h))

  -- what a change removes is gone with it
  pub removed_gone : (s p t n : ℕ) (gone new : List ℕ) (w : E) (list : List (Item E)) (k : ℕ)
      → Distinct (all_added (list ++ Changed s p t n gone new w ∷ [])) → Has (files_of list) k → Has gone k → Has (files_of (list ++ Changed s p t n gone new w ∷ [])) k → ⊥
  removed_gone s p t n gone new w list k once was has h =
      let e : Item E = Changed s p t n gone new w in
      ⊎_elim
      (λ left. gone_from gone (files_of list) k has left)
      (λ right. apart_in (all_added list) new k (subst Distinct (brings_more adds list e) once) (was_listed list k was) right)
      (has_either (without gone (files_of list)) new k (subst (λ l. Has l k) (fold-append files_after [] list (e ∷ [])) h))

  comes_from : (r : ℕ) (before : List (Item E)) (e : Item E) (k : ℕ) → Has (all_added (listed r (before ++ e ∷ []))) k
      → Has (all_added (listed r before)) k ⊎ (Has (lists_of e) r × Has (adds e) k)
  comes_from r before e k h =
      ⊎_elim
      (λ has. ⊎_elim (λ old. inl old) (λ new. inr (has, new))
      (has_either (all_added (listed r before)) (adds e) k (subst (λ l. Has l k) (ap all_added (part_gets items before e r has) ∙ brings_more adds (listed r before) e) h)))
      (λ none. inl (subst (λ l. Has (all_added l) k) (part_stays items before e r none) h))
      (has_or_not (lists_of e) r)

  -- the shard of an entry that stands in a list of changes
  stood : (a m : ℕ) → a < 16 → m < 16 → (t n : ℕ) (fs : List ℕ) (w : E) → Has (lists_of (Stood a t n fs w)) (changes_list m) → a ≡ m
  stood a m la lm t n fs w (inl is) = omega arith
  stood a m la lm t n fs w (inr (inl is)) = omega arith
  stood a m la lm t n fs w (inr (inr (inl is))) = omega arith
  stood a m la lm t n fs w (inr (inr (inr (inl is)))) = omega arith
  stood a m la lm t n fs w (inr (inr (inr (inr (inl is))))) = omega arith
  stood a m la lm t n fs w (inr (inr (inr (inr (inr none))))) = absurd none

  changed : (a m p : ℕ) → a < 16 → m < 16 → first_diary ≤ p → (t n : ℕ) (rm fs : List ℕ) (w : E) → Has (lists_of (Changed a p t n rm fs w)) (changes_list m) → a ≡ m
  changed a m p la lm low t n rm fs w (inl is) = omega arith
  changed a m p la lm low t n rm fs w (inr (inl is)) = omega arith
  changed a m p la lm low t n rm fs w (inr (inr (inl is))) = omega arith
  changed a m p la lm low t n rm fs w (inr (inr (inr (inl is)))) = omega arith
  changed a m p la lm low t n rm fs w (inr (inr (inr (inr (inl is))))) = omega arith
  changed a m p la lm low t n rm fs w (inr (inr (inr (inr (inr none))))) = absurd none

  -- an entry lists files in one shard
  one_shard : (s z k : ℕ) → s < 16 → z < 16 → (before : List (Item E)) (e : Item E) → Follows items before e → Has (adds e) k → Has (lists_of e) (changes_list s) → Has (lists_of e) (changes_list z) → s ≡ z
  one_shard s z k ls lz before e f new hs hz = by (which k e)
    where
      by : Which k e → s ≡ z
      by (inl a) = absurd (a.none new)
      by (inr (inl d)) = absurd (subst (λ x. Has (adds x) k) d.1 new)
      by (inr (inr (inl (a, t, n, fs, w, is, here)))) =
          let low = (subst (Follows items before) is f).0.0.0 in
          let in_s = subst (λ x. Has (lists_of x) (changes_list s)) is hs in
          let in_z = subst (λ x. Has (lists_of x) (changes_list z)) is hz in
          sym (stood a s low ls t n fs w in_s) ∙ stood a z low lz t n fs w in_z
      by (inr (inr (inr (a, p, t, n, rm, fs, w, is, here)))) =
          let f' = subst (Follows items before) is f in
          let in_s = subst (λ x. Has (lists_of x) (changes_list s)) is hs in
          let in_z = subst (λ x. Has (lists_of x) (changes_list z)) is hz in
          sym (changed a s p f'.0.0.0 ls f'.0.0.1 t n rm fs w in_s) ∙ changed a z p f'.0.0.0 lz f'.0.0.1 t n rm fs w in_z

  pub shards_apart : (s z : ℕ) → s < 16 → z < 16 → s ≢ z → (log : List (Item E)) → Legal items log → (k : ℕ) → Has (all_added (listed (changes_list s) log)) k → Has (all_added (listed (changes_list z) log)) k → ⊥
  shards_apart s z ls lz differ log legal =
      (legal_grows items (λ l. ((file : ℕ) → Kept file l) × ((k : ℕ) → Has (all_added (listed (changes_list s) l)) k → Has (all_added (listed (changes_list z) l)) k → ⊥)) (nothing_kept, λ k h g. h)
      (λ before e so f. (λ file. keeps file before e (so.0 file) f, λ k h g. more before e so.0 so.1 f k (comes_from (changes_list s) before e k h) (comes_from (changes_list z) before e k g)))
      log legal).1
    where
      more : (before : List (Item E)) (e : Item E) → ((file : ℕ) → Kept file before) → ((k : ℕ) → Has (all_added (listed (changes_list s) before)) k → Has (all_added (listed (changes_list z) before)) k → ⊥) → Follows items before e
          → (k : ℕ) → Has (all_added (listed (changes_list s) before)) k ⊎ (Has (lists_of e) (changes_list s) × Has (adds e) k)
          → Has (all_added (listed (changes_list z) before)) k ⊎ (Has (lists_of e) (changes_list z) × Has (adds e) k) → ⊥
      more before e kept so f k (inl a) (inl b) = so k a b
      more before e kept so f k (inl a) (inr b) = adds_new k before e (kept k) f b.1 (part_brings adds (λ x. list_any (λ j. j == changes_list s) (lists_of x)) before k a)
      more before e kept so f k (inr a) (inl b) = adds_new k before e (kept k) f a.1 (part_brings adds (λ x. list_any (λ j. j == changes_list z) (lists_of x)) before k b)
      more before e kept so f k (inr a) (inr b) = differ (one_shard s z k ls lz before e f a.1 a.0 b.0)

  -- the frontier that an entry leaves is one that the shard has given
  frontier_given : (s table n : ℕ) → s < 16 → (before : List (Item E)) (e : Item E) → Follows items before e → Has (lists_of e) (changes_list s)
      → n ≤ last_number (listed (front_list s) before) → frontier_after table n e ≤ last_number (listed (front_list s) before)
  frontier_given s table n low before (Stood a t front fs w) f has so =
      let same = stood a s f.0.0.0 low t front fs w has in
      one_of (t == table) (subst (λ (m : ℕ). front ≤ last_number (listed (front_list m) before)) same (f.0.1.1.1.1.0.4 refl)) so
  frontier_given s table n low before (Changed a p t front rm fs w) f has so =
      let same = changed a s p f.0.0.0 low f.0.0.1 t front rm fs w has in
      one_of (t == table) (subst (λ (m : ℕ). front ≤ last_number (listed (front_list m) before)) same (f.0.1.1.1.1.0.5 refl)) so
  frontier_given s table n low before (Found _ _) f has so = so
  frontier_given s table n low before (Wrote _ _ _ _ _) f has so = so
  frontier_given s table n low before (Purged _ _ _ _) f has so = so
  frontier_given s table n low before (Faulted _ _ _) f has so = so
  frontier_given s table n low before (Read _ _) f has so = so
  frontier_given s table n low before (Rose _ _ _) f has so = so
  frontier_given s table n low before (Drew _ _) f has so = so
  frontier_given s table n low before (Began _ _ _) f has so = so
  frontier_given s table n low before (Ended _ _) f has so = so

  pub frontier_below : (s table : ℕ) → s < 16 → (log : List (Item E)) → Legal items log → frontier_of table (listed (changes_list s) log) ≤ last_number (listed (front_list s) log)
  frontier_below s table low log legal =
      legal_grows items (λ l. frontier_of table (listed (changes_list s) l) ≤ last_number (listed (front_list s) l)) (le_refl 0)
      (λ before e so f. let up = rises before e f in let le = stays before e so f in omega arith)
      log legal
    where
      rises : (before : List (Item E)) (e : Item E) → Follows items before e → last_number (listed (front_list s) before) ≤ last_number (listed (front_list s) (before ++ e ∷ []))
      rises before e f =
          ⊎_elim
          (λ has. subst (λ (n : ℕ). last_number (listed (front_list s) before) ≤ n) (sym (fold_gets number_after 0 (front_list s) before e has))
          (number_rises s low (listed (front_list s) before) e has (each_at (λ r. MayCome r (listed r before) e) (lists_of e) (front_list s) f.0 has)))
          (λ none. subst (λ l. last_number (listed (front_list s) before) ≤ last_number l) (sym (part_stays items before e (front_list s) none)) (le_refl _))
          (has_or_not (lists_of e) (front_list s))

      stays : (before : List (Item E)) (e : Item E) → frontier_of table (listed (changes_list s) before) ≤ last_number (listed (front_list s) before) → Follows items before e
          → frontier_of table (listed (changes_list s) (before ++ e ∷ [])) ≤ last_number (listed (front_list s) before)
      stays before e so f =
          ⊎_elim
          (λ has. subst (λ (n : ℕ). n ≤ last_number (listed (front_list s) before)) (sym (fold_gets (frontier_after table) 0 (changes_list s) before e has))
          (frontier_given s table (frontier_of table (listed (changes_list s) before)) low before e f has so))
          (λ none. subst (λ l. frontier_of table l ≤ last_number (listed (front_list s) before)) (sym (part_stays items before e (changes_list s) none)) so)
          (has_or_not (lists_of e) (changes_list s))
