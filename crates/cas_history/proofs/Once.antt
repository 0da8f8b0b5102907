-- File numbers: each is used up once, held by one alone, and listed once.
use Rattle.std.proofs.Common.{◌≡◌, ◌≢◌, ◌⊎◌, ℕ, ◌<◌, ◌≤◌, List, [], ◌∷◌, ◌++◌, Bool, true, false, cond, refl, ap, sym, ◌∙◌, subst, inl, inr, ⊎_elim, arith, append-nil, eqb, eq-eqb, true≢false, le_refl}
use Rattle.std.specs.Prelude.{Option, None, Some, ◌==◌}
use Rattle.std.specs.List.{fold, filter, flat_map, list_any}
use Rattle.std.proofs.lemmas.Bool.{false_from_ne_true}
use Rattle.std.proofs.lemmas.Bool.Decides.{eqb_tells}
use Rattle.std.proofs.lemmas.Grind.{flat_map-append}
use Rattle.std.proofs.lemmas.List.Sums.{fold-append}
use Rattle.cas_history.specs.Log.{Has, Follows, Legal}
use Rattle.cas_history.proofs.LogLists.{has_or_not, each_at, named}
use Rattle.cas_history.proofs.Parts.{part_gets, part_stays, list_grows, legal_grows, names_it}
use Rattle.cas_history.specs.declared.item.Item.{Item}
use Rattle.cas_history.specs.declared.item.Item.TheVariants.{Found, Stood, Wrote, Purged, Faulted, Read, Rose, Drew, Began, Ended, Changed}
use Rattle.cas_history.specs.Items.{items, listed, lists_of, MayCome, Distinct, first_diary, numbers_list}
use Rattle.cas_history.specs.Last.{uses, used, adds, all_added, holds, holds_after, file_after, last_file}
use Rattle.cas_history.proofs.Lists.{some_one, none_some, same_or, none_if, has_left, has_right, has_either, fold_gets, fold_kept}

distinct_append : (xs ys : List ℕ) → Distinct xs → Distinct ys → ((k : ℕ) → Has ys k → Has xs k → ⊥) → Distinct (xs ++ ys)
distinct_append [] ys dx dy apart = dy
distinct_append (x ∷ xs) ys dx dy apart = (
  λ h. ⊎_elim dx.0 (λ there. apart x there (inl refl)) (has_either xs ys x h),
  distinct_append xs ys dx.1 dy (λ k hy hx. apart k hy (inr hx)),
)

module _ {E : Type 0} where
  -- what entries bring, after one more
  pub brings_more : (f : Item E → List ℕ) (list : List (Item E)) (e : Item E) → flat_map f (list ++ e ∷ []) ≡ flat_map f list ++ f e
  brings_more f list e = flat_map-append f list (e ∷ []) ∙ ap (λ l. flat_map f list ++ l) (append-nil (f e))

  -- what a part of a list brings, the list brings
  pub part_brings : (f : Item E → List ℕ) (test : Item E → Bool) (list : List (Item E)) (k : ℕ) → Has (flat_map f (filter test list)) k → Has (flat_map f list) k
  part_brings f test [] k h = h
  part_brings f test (e ∷ es) k h = by (test e) (part_brings f test es k) h
    where
      by : (b : Bool) → (Has (flat_map f (filter test es)) k → Has (flat_map f es) k) → Has (flat_map f (cond b (e ∷ filter test es) (filter test es))) k → Has (f e ++ flat_map f es) k
      by true rest g = ⊎_elim (λ a. has_left (f e) (flat_map f es) k a) (λ b. has_right (f e) (flat_map f es) k (rest b)) (has_either (f e) (flat_map f (filter test es)) k g)
      by false rest g = has_right (f e) (flat_map f es) k (rest g)

  -- each number of the list is used up once, and none is above the last
  abbrev pub Used : List (Item E) → Type 0
  Used list = Distinct (used list) × ((k : ℕ) → Has (used list) k → k ≤ last_file list)

  abbrev UsesMore : List (Item E) → Item E → Type 0
  UsesMore list e = Distinct (uses e) × ((k : ℕ) → Has (uses e) k → Has (used list) k → ⊥) × ((k : ℕ) → Has (uses e) k → k ≤ file_after (last_file list) e)
      × (last_file list ≤ file_after (last_file list) e)

  uses_more : (list : List (Item E)) (e : Item E) → Used list → MayCome numbers_list list e → UsesMore list e
  uses_more list (Found _ n) u may = let none : last_file list ≡ 0 = ap last_file may.1 in (tt, (λ k h. absurd h), (λ k h. absurd h), omega arith)
  uses_more list (Stood _ _ _ fs _) u may =
      let all = may.2 refl in (
        may.1,
        (λ k h. (each_at (λ j. (j ≤ last_file list) × (Has (used list) j → ⊥)) fs k all h).1),
        (λ k h. (each_at (λ j. (j ≤ last_file list) × (Has (used list) j → ⊥)) fs k all h).0),
        le_refl _,
      )
  uses_more list (Drew _ file) u may =
      let above = may.1 refl in (
        ((λ h. h), tt),
        (λ k h was. ⊎_elim (λ (s : file ≡ k). let le = u.1 k was in absurd (omega arith)) (λ n. n) h),
        (λ k h. ⊎_elim (λ (s : file ≡ k). omega arith) (λ n. absurd n) h),
        omega arith,
      )
  uses_more list (Wrote _ _ _ _ _) u may = (tt, (λ k h. absurd h), (λ k h. absurd h), le_refl _)
  uses_more list (Purged _ _ _ _) u may = (tt, (λ k h. absurd h), (λ k h. absurd h), le_refl _)
  uses_more list (Faulted _ _ _) u may = (tt, (λ k h. absurd h), (λ k h. absurd h), le_refl _)
  uses_more list (Read _ _) u may = (tt, (λ k h. absurd h), (λ k h. absurd h), le_refl _)
  uses_more list (Rose _ _ _) u may = (tt, (λ k h. absurd h), (λ k h. absurd h), le_refl _)
  uses_more list (Began _ _ _) u may = (tt, (λ k h. absurd h), (λ k h. absurd h), le_refl _)
  uses_more list (Ended _ _) u may = (tt, (λ k h. absurd h), (λ k h. absurd h), le_refl _)
  uses_more list (Changed _ _ _ _ _ _ _) u may = (tt, (λ k h. absurd h), (λ k h. absurd h), le_refl _)

  used_grows : (list : List (Item E)) (e : Item E) → Used list → MayCome numbers_list list e → Used (list ++ e ∷ [])
  used_grows list e u may =
      let more = uses_more list e u may in
      let now = brings_more uses list e in
      let last : last_file (list ++ e ∷ []) ≡ file_after (last_file list) e = fold-append file_after 0 list (e ∷ []) in (
        subst Distinct (sym now) (distinct_append (used list) (uses e) u.0 more.0 more.1),
        (λ k h.
            subst (λ (n : ℕ). k ≤ n) (sym last)
            (⊎_elim (λ was. let le = u.1 k was in let up = more.3 in omega arith) (λ new. more.2 k new) (has_either (used list) (uses e) k (subst (λ l. Has l k) now h)))),
      )

  pub used_stand : (log : List (Item E)) → Legal items log → Used (listed numbers_list log)
  used_stand log legal = list_grows items numbers_list Used (λ list e has u may. used_grows list e u may) [] log (log, refl) legal (tt, λ k h. absurd h)

  -- who holds a number
  abbrev holder_after : ℕ → Option ℕ → Item E → Option ℕ
  holder_after file p (Drew pass drawn) = cond (drawn == file) (Some pass) p
  holder_after file p (Changed _ _ _ _ _ added _) = cond (list_any (λ k. k == file) added) None p
  holder_after file p other = p

  abbrev holder : ℕ → List (Item E) → Option ℕ
  holder file log = fold (holder_after file) None log

  -- a number is held by its holder alone; while it is held it isn't listed; and what is held or listed was used up
  pub record Kept (file : ℕ) (log : List (Item E)) : Type 0 where
    pub numbers : Used (listed numbers_list log)
    pub one : (p : ℕ) → first_diary ≤ p → holds file (listed p log) ≡ true → holder file log ≡ Some p
    pub unlisted : (p : ℕ) → holder file log ≡ Some p → Has (all_added log) file → ⊥
    pub drawn : (p : ℕ) → holder file log ≡ Some p → Has (used (listed numbers_list log)) file
    pub known : Has (all_added log) file → Has (used (listed numbers_list log)) file

  -- an entry that neither draws nor lists the number
  pub record Aside (file : ℕ) (e : Item E) : Type 0 where
    pub who : (p : Option ℕ) → holder_after file p e ≡ p
    pub held : (b : Bool) → holds_after file b e ≡ b
    pub none : Has (adds e) file → ⊥

  aside : (file : ℕ) (e : Item E) → ((p : Option ℕ) → holder_after file p e ≡ p) → ((b : Bool) → holds_after file b e ≡ b) → (Has (adds e) file → ⊥) → Aside file e
  aside file e who held none = record { who = who; held = held; none = none }

  abbrev pub Which : ℕ → Item E → Type 0
  Which file e = Aside file e ⊎ ((pass : ℕ) × (e ≡ Drew pass file))
      ⊎ ((s : ℕ) × (t : ℕ) × (n : ℕ) × (fs : List ℕ) × (w : E) × (e ≡ Stood s t n fs w) × Has fs file)
      ⊎ ((s : ℕ) × (p : ℕ) × (t : ℕ) × (n : ℕ) × (rm : List ℕ) × (fs : List ℕ) × (w : E) × (e ≡ Changed s p t n rm fs w) × Has fs file)

  pub which : (file : ℕ) (e : Item E) → Which file e
  which file (Drew pass drawn) =
      ⊎_elim
      (λ (t : (eqb drawn file ≡ true) × (drawn ≡ file)). inr (inl (pass, ap (λ k. Drew pass k) t.1)))
      (λ (f : (eqb drawn file ≡ false) × (drawn ≢ file)).
      inl (aside file (Drew pass drawn) (λ p. ap (λ (b : Bool). cond b (Some pass) p) f.0) (λ b. ap (λ (c : Bool). cond c true b) f.0) (λ h. h)))
      (eqb_tells drawn file)
  which file (Stood s t n fs w) =
      ⊎_elim
      (λ has. inr (inr (inl (s, t, n, fs, w, refl, has))))
      (λ none. inl (aside file (Stood s t n fs w) (λ p. refl) (λ b. refl) none))
      (has_or_not fs file)
  which file (Changed s p t n rm fs w) =
      ⊎_elim
      (λ has. inr (inr (inr (s, p, t, n, rm, fs, w, refl, has))))
      (λ none.
      let off : list_any (λ k. k == file) fs ≡ false = false_from_ne_true (list_any (λ k. k == file) fs) (λ t. none (named fs file t)) in
      inl (aside file (Changed s p t n rm fs w) (λ q. ap (λ (b : Bool). cond b None q) off) (λ b. ap (λ (c : Bool). cond c false b) off) none))
      (has_or_not fs file)
  which file (Found l n) = inl (aside file (Found l n) (λ p. refl) (λ b. refl) (λ h. h))
  which file (Wrote a b c d w) = inl (aside file (Wrote a b c d w) (λ p. refl) (λ b. refl) (λ h. h))
  which file (Purged a b c w) = inl (aside file (Purged a b c w) (λ p. refl) (λ b. refl) (λ h. h))
  which file (Faulted a b c) = inl (aside file (Faulted a b c) (λ p. refl) (λ b. refl) (λ h. h))
  which file (Read a b) = inl (aside file (Read a b) (λ p. refl) (λ b. refl) (λ h. h))
  which file (Rose a b c) = inl (aside file (Rose a b c) (λ p. refl) (λ b. refl) (λ h. h))
  which file (Began a b w) = inl (aside file (Began a b w) (λ p. refl) (λ b. refl) (λ h. h))
  which file (Ended a b) = inl (aside file (Ended a b) (λ p. refl) (λ b. refl) (λ h. h))

  still_used : (file : ℕ) (before : List (Item E)) (e : Item E) → Has (used (listed numbers_list before)) file → Has (used (listed numbers_list (before ++ e ∷ []))) file
  still_used file before e was =
      ⊎_elim
      (λ has. subst (λ l. Has l file) (sym (ap used (part_gets items before e numbers_list has) ∙ brings_more uses (listed numbers_list before) e)) (has_left (used (listed numbers_list before)) (uses e) file was))
      (λ none. subst (λ l. Has (used l) file) (sym (part_stays items before e numbers_list none)) was)
      (has_or_not (lists_of e) numbers_list)

  uses_it : (file : ℕ) (before : List (Item E)) (e : Item E) → Has (lists_of e) numbers_list → Has (uses e) file → Has (used (listed numbers_list (before ++ e ∷ []))) file
  uses_it file before e has new =
      subst (λ l. Has l file) (sym (ap used (part_gets items before e numbers_list has) ∙ brings_more uses (listed numbers_list before) e)) (has_right (used (listed numbers_list before)) (uses e) file new)

  numbers_more : (before : List (Item E)) (e : Item E) → Used (listed numbers_list before) → Follows items before e → Used (listed numbers_list (before ++ e ∷ []))
  numbers_more before e u f =
      ⊎_elim
      (λ has. subst Used (sym (part_gets items before e numbers_list has)) (used_grows (listed numbers_list before) e u (each_at (λ r. MayCome r (listed r before) e) (lists_of e) numbers_list f.0 has)))
      (λ none. subst Used (sym (part_stays items before e numbers_list none)) u)
      (has_or_not (lists_of e) numbers_list)

  keeps_aside : (file : ℕ) (before : List (Item E)) (e : Item E) → Kept file before → Follows items before e → Aside file e → Kept file (before ++ e ∷ [])
  keeps_aside file before e k f a =
      let who : holder file (before ++ e ∷ []) ≡ holder file before = fold-append (holder_after file) None before (e ∷ []) ∙ a.who (holder file before) in
      let old : Has (all_added (before ++ e ∷ [])) file → Has (all_added before) file =
      λ h. ⊎_elim (λ was. was) (λ new. absurd (a.none new)) (has_either (all_added before) (adds e) file (subst (λ l. Has l file) (brings_more adds before e) h)) in
      record {
        numbers = numbers_more before e k.numbers f;
        one = λ p low h. who ∙ k.one p low (sym (fold_kept (holds_after file) false p before e a.held) ∙ h);
        unlisted = λ p h has. k.unlisted p (sym who ∙ h) (old has);
        drawn = λ p h. still_used file before e (k.drawn p (sym who ∙ h));
        known = λ has. still_used file before e (k.known (old has));
      }

  keeps_drawn : (file pass : ℕ) (before : List (Item E)) → Kept file before → Follows items before (Drew pass file) → Kept file (before ++ Drew pass file ∷ [])
  keeps_drawn file pass before k f =
      let e : Item E = Drew pass file in
      let above : last_file (listed numbers_list before) < file = f.0.0.1 refl in
      let unused : Has (used (listed numbers_list before)) file → ⊥ = λ was. let le = k.numbers.1 file was in absurd (omega arith) in
      let nobody : holder file before ≡ None = none_if (holder file before) (λ p is. unused (k.drawn p is)) in
      let who : holder file (before ++ e ∷ []) ≡ Some pass =
      fold-append (holder_after file) None before (e ∷ []) ∙ ap (λ (b : Bool). cond b (Some pass) (holder file before)) (eq-eqb file file refl) in
      let now : Has (used (listed numbers_list (before ++ e ∷ []))) file = uses_it file before e (inl refl) (inl refl) in
      let old : Has (all_added (before ++ e ∷ [])) file → Has (all_added before) file =
      λ h. ⊎_elim (λ was. was) (λ new. absurd new) (has_either (all_added before) [] file (subst (λ l. Has l file) (brings_more adds before e) h)) in
      record {
        numbers = numbers_more before e k.numbers f;
        one = λ p low h.
            ⊎_elim
            (λ (same : pass ≡ p). who ∙ ap Some same)
            (λ (not : pass ≢ p).
            let stays = part_stays items before e p (elsewhere p low not) in
            absurd (none_some p (sym nobody ∙ k.one p low (sym (ap (holds file) stays) ∙ h))))
            (same_or pass p);
        unlisted = λ p h has. unused (k.known (old has));
        drawn = λ p h. now;
        known = λ has. now;
      }
    where
      elsewhere : (p : ℕ) → first_diary ≤ p → pass ≢ p → Has (numbers_list ∷ pass ∷ []) p → ⊥
      elsewhere p low not (inl is) = omega arith
      elsewhere p low not (inr (inl is)) = not is
      elsewhere p low not (inr (inr none)) = none

  keeps_found : (file s t n : ℕ) (fs : List ℕ) (w : E) (before : List (Item E)) → Has fs file → Kept file before → Follows items before (Stood s t n fs w) → Kept file (before ++ Stood s t n fs w ∷ [])
  keeps_found file s t n fs w before has k f =
      let e : Item E = Stood s t n fs w in
      let unused : Has (used (listed numbers_list before)) file → ⊥ =
      (each_at (λ j. (j ≤ last_file (listed numbers_list before)) × (Has (used (listed numbers_list before)) j → ⊥)) fs file (f.0.0.2 refl) has).1 in
      let who : holder file (before ++ e ∷ []) ≡ holder file before = fold-append (holder_after file) None before (e ∷ []) in
      let now : Has (used (listed numbers_list (before ++ e ∷ []))) file = uses_it file before e (inl refl) has in
      record {
        numbers = numbers_more before e k.numbers f;
        one = λ p low h. who ∙ k.one p low (sym (fold_kept (holds_after file) false p before e (λ b. refl)) ∙ h);
        unlisted = λ p h listed'. unused (k.drawn p (sym who ∙ h));
        drawn = λ p h. now;
        known = λ listed'. now;
      }

  keeps_taken : (file s pass t n : ℕ) (rm fs : List ℕ) (w : E) (before : List (Item E)) → Has fs file → Kept file before → Follows items before (Changed s pass t n rm fs w)
      → Kept file (before ++ Changed s pass t n rm fs w ∷ [])
  keeps_taken file s pass t n rm fs w before has k f =
      let e : Item E = Changed s pass t n rm fs w in
      let low : first_diary ≤ pass = f.0.0.1 in
      let held : holds file (listed pass before) ≡ true = each_at (λ j. holds j (listed pass before) ≡ true) fs file (f.0.1.1.1.0.3 refl) has in
      let was : holder file before ≡ Some pass = k.one pass low held in
      let named' : list_any (λ j. j == file) fs ≡ true = names_it fs file has in
      let who : holder file (before ++ e ∷ []) ≡ None =
      fold-append (holder_after file) None before (e ∷ []) ∙ ap (λ (b : Bool). cond b None (holder file before)) named' in
      let now = still_used file before e (k.drawn pass was) in
      record {
        numbers = numbers_more before e k.numbers f;
        one = λ p low' h.
            ⊎_elim
            (λ (same : pass ≡ p).
            let over : holds file (listed p (before ++ e ∷ [])) ≡ false =
            fold_gets (holds_after file) false p before e (inr (inr (inr (inl same)))) ∙ ap (λ (b : Bool). cond b false (holds file (listed p before))) named' in
            absurd (true≢false (sym h ∙ over)))
            (λ (not : pass ≢ p).
            let stays = part_stays items before e p (elsewhere p low' not f.0.0.0) in
            absurd (not (some_one pass p (sym was ∙ k.one p low' (sym (ap (holds file) stays) ∙ h)))))
            (same_or pass p);
        unlisted = λ p h listed'. absurd (none_some p (sym who ∙ h));
        drawn = λ p h. now;
        known = λ listed'. now;
      }
    where
      elsewhere : (p : ℕ) → first_diary ≤ p → pass ≢ p → s < 16 → Has (lists_of (Changed s pass t n rm fs w)) p → ⊥
      elsewhere p low not small (inl is) = omega arith
      elsewhere p low not small (inr (inl is)) = omega arith
      elsewhere p low not small (inr (inr (inl is))) = omega arith
      elsewhere p low not small (inr (inr (inr (inl is)))) = not is
      elsewhere p low not small (inr (inr (inr (inr (inl is))))) = omega arith
      elsewhere p low not small (inr (inr (inr (inr (inr none))))) = none

  pub keeps : (file : ℕ) (before : List (Item E)) (e : Item E) → Kept file before → Follows items before e → Kept file (before ++ e ∷ [])
  keeps file before e k f = by (which file e)
    where
      by : Which file e → Kept file (before ++ e ∷ [])
      by (inl a) = keeps_aside file before e k f a
      by (inr (inl d)) = subst (λ x. Kept file (before ++ x ∷ [])) (sym d.1) (keeps_drawn file d.0 before k (subst (Follows items before) d.1 f))
      by (inr (inr (inl (s, t, n, fs, w, is, has)))) =
          subst (λ x. Kept file (before ++ x ∷ [])) (sym is) (keeps_found file s t n fs w before has k (subst (Follows items before) is f))
      by (inr (inr (inr (s, p, t, n, rm, fs, w, is, has)))) =
          subst (λ x. Kept file (before ++ x ∷ [])) (sym is) (keeps_taken file s p t n rm fs w before has k (subst (Follows items before) is f))

  pub nothing_kept : (file : ℕ) → Kept file []
  nothing_kept file = record {
    numbers = (tt, λ k h. absurd h);
    one = λ p low h. absurd (true≢false (sym h));
    unlisted = λ p h has. has;
    drawn = λ p h. absurd (none_some p h);
    known = λ has. absurd has;
  }

  pub kept : (file : ℕ) (log : List (Item E)) → Legal items log → Kept file log
  kept file log legal = legal_grows items (Kept file) (nothing_kept file) (λ before e k f. keeps file before e k f) log legal

  pub holds_once : (file p q : ℕ) (log : List (Item E)) → Legal items log → first_diary ≤ p → first_diary ≤ q → holds file (listed p log) ≡ true → holds file (listed q log) ≡ true → p ≡ q
  holds_once file p q log legal lowp lowq one two =
      let k = kept file log legal in
      some_one p q (sym (k.one p lowp one) ∙ k.one q lowq two)

  pub held_unlisted : (file p r : ℕ) (log : List (Item E)) → Legal items log → first_diary ≤ p → holds file (listed p log) ≡ true → Has (all_added (listed r log)) file → ⊥
  held_unlisted file p r log legal low held has =
      let k = kept file log legal in
      k.unlisted p (k.one p low held) (part_brings adds (λ e. list_any (λ j. j == r) (lists_of e)) log file has)

  pub listed_used : (r file : ℕ) (log : List (Item E)) → Legal items log → Has (all_added (listed r log)) file → Has (used (listed numbers_list log)) file
  listed_used r file log legal has = (kept file log legal).known (part_brings adds (λ e. list_any (λ j. j == r) (lists_of e)) log file has)

  adds_others : (before : List (Item E)) (e : Item E) → Follows items before e → Distinct (adds e)
  adds_others before (Stood _ _ _ _ _) f = f.0.0.1
  adds_others before (Changed _ _ _ _ _ _ _) f = f.0.0.2
  adds_others before (Found _ _) f = tt
  adds_others before (Wrote _ _ _ _ _) f = tt
  adds_others before (Purged _ _ _ _) f = tt
  adds_others before (Faulted _ _ _) f = tt
  adds_others before (Read _ _) f = tt
  adds_others before (Rose _ _ _) f = tt
  adds_others before (Drew _ _) f = tt
  adds_others before (Began _ _ _) f = tt
  adds_others before (Ended _ _) f = tt

  -- what an entry lists was not listed before
  pub adds_new : (file : ℕ) (before : List (Item E)) (e : Item E) → Kept file before → Follows items before e → Has (adds e) file → Has (all_added before) file → ⊥
  adds_new file before e k f has was = by (which file e)
    where
      by : Which file e → ⊥
      by (inl a) = a.none has
      by (inr (inl d)) = subst (λ x. Has (adds x) file) d.1 has
      by (inr (inr (inl (s, t, n, fs, w, is, here)))) =
          let f' = subst (Follows items before) is f in
          (each_at (λ j. (j ≤ last_file (listed numbers_list before)) × (Has (used (listed numbers_list before)) j → ⊥)) fs file (f'.0.0.2 refl) here).1 (k.known was)
      by (inr (inr (inr (s, p, t, n, rm, fs, w, is, here)))) =
          let f' = subst (Follows items before) is f in
          k.unlisted p (k.one p f'.0.0.1 (each_at (λ j. holds j (listed p before) ≡ true) fs file (f'.0.1.1.1.0.3 refl) here)) was

  pub listed_once : (r : ℕ) (log : List (Item E)) → Legal items log → Distinct (all_added (listed r log))
  listed_once r log legal =
      (legal_grows items (λ l. ((file : ℕ) → Kept file l) × Distinct (all_added (listed r l))) (nothing_kept, tt)
      (λ before e so f. (
        λ file. keeps file before e (so.0 file) f,
        ⊎_elim
            (λ has.
            subst Distinct (sym (ap all_added (part_gets items before e r has) ∙ brings_more adds (listed r before) e))
            (distinct_append (all_added (listed r before)) (adds e) so.1 (adds_others before e f)
            (λ k new was. adds_new k before e (so.0 k) f new (part_brings adds (λ x. list_any (λ j. j == r) (lists_of x)) before k was))))
            (λ none. subst (λ l. Distinct (all_added l)) (sym (part_stays items before e r none)) so.1)
            (has_or_not (lists_of e) r),
      ))
      log legal).1
