-- Each step, split and join keeps the table's rule.
use Rattle.std.proofs.Common.{◌≡◌, ◌≢◌, ℕ, zero, suc, ◌+◌, ◌%◌, ◌^◌, ◌<◌, ◌≤◌, ◌⊎◌, List, [], ◌∷◌, ◌++◌, map, length, set, Bool, true, false, cond, refl, ap, sym, ◌∙◌, subst, inl, inr, ⊎_elim, arith, append_assoc, append-nil, length-append, eq-eqb, ne_eqb, eqb}
use Rattle.std.specs.Prelude.{◌==◌, slice_index, None, Some, Option}
use Rattle.std.specs.List.{filter, list_any}
use Rattle.std.proofs.Math.Nat.{mod-add-mod}
use Rattle.std.proofs.lemmas.Bool.{false_from_ne_true}
use Rattle.std.proofs.lemmas.Bool.Decides.{eqb_tells, nat_tests}
use Rattle.std.proofs.lemmas.List.{length-set, set-get_or, get_or-set_same, get_or-set_other}
use Rattle.std.proofs.lemmas.List.Elements.{filter-append}
use mathlib.Core.Option.{some, some-injective, some-ne-none}
use mathlib.Core.List.{IsPrefix}
use lib.ListN.{get_elem?}
use Rattle.atomic_table.specs.Table.{Allows, Splits, Joins, keeps}
use Rattle.atomic_table.proofs.Lists.{at_set, at_snoc, set_else}
use Rattle.cas_history.specs.declared.hand.Hand.{Hand}
use Rattle.cas_history.specs.Log.{Rules, Each, Any, Has, part, counted, Follows, LegalAfter}
use Rattle.cas_history.specs.Hands.{numbers, times, beyond, total, shares, stakes, Owns, sees, gave, given, dealt, further, either_right, founder, Knows, Ready}
use Rattle.cas_history.specs.Inner.Table.{nobody, hand_of, others, lent, merged, Counts, Stands, Grew, Looked}
use Rattle.cas_history.proofs.LogLists.{begins_itself, begins_longer, each_weaker, each_map, each_kept, each_append, each_at, any_of_each, any_gives, has_begun, total_append, total_map, total_cut, total_set, total_at, total_two, named, times_append}

module _ {E : Type 0} (R : Rules E) where
  legal_more : (before log : List E) (e : E) → LegalAfter R before log → Follows R (before ++ log) e → LegalAfter R before (log ++ e ∷ [])
  legal_more before [] e l f = (subst (λ m. Follows R m e) (append-nil before) f, tt)
  legal_more before (x ∷ xs) e l f = (l.0, legal_more (before ++ x ∷ []) xs e l.1 (subst (λ m. Follows R m e) (sym (append_assoc before (x ∷ []) xs)) f))

  part_else : (log : List E) (e : E) (r : ℕ) → (Has (R.lists e) r → ⊥) → part R r (log ++ e ∷ []) ≡ part R r log
  part_else log e r none =
      let test : E → Bool = λ x. list_any (λ k. k == r) (R.lists x) in
      let off : test e ≡ false = false_from_ne_true (test e) (λ t. none (named (R.lists e) r t)) in
      filter-append test log (e ∷ []) ∙ (ap (λ b. filter test log ++ cond b (e ∷ []) []) off ∙ append-nil (filter test log))

  -- what a hand owned by nobody here knows, after an entry
  knows_more : (log : List E) (e : E) (h : Hand E) → ((r : ℕ) → 0 < shares r h → Has (R.lists e) r → ⊥) → Knows R log h → Knows R (log ++ e ∷ []) h
  knows_more log e h none k = (begins_longer h.saw log (e ∷ []) k.0, λ r s. k.1 r s ∙ sym (part_else log e r (none r s)))

  all_know_more : (log : List E) (e : E) (hands : List (Hand E)) → ((r : ℕ) → Has (R.lists e) r → stakes r hands ≤ 0) → Each (Knows R log) hands → Each (Knows R (log ++ e ∷ [])) hands
  all_know_more log e [] none k = tt
  all_know_more log e (h ∷ hs) none k = (
    knows_more log e h (λ r s has. let n = none r has in omega arith) k.0,
    all_know_more log e hs (λ r has. let n = none r has in omega arith) k.1,
  )

  sees_all : (log : List E) (h : Hand E) → Knows R log (sees log h)
  sees_all log h = (begins_itself log, λ r s. refl)

  -- who is ready owns each list of the entry
  ready_owns : (r : ℕ) (hands : List (Hand E)) (P : Hand E → Type 0) → Any (λ h. Owns h r × P h) hands → 0 < stakes r hands
  ready_owns r [] P a = absurd a
  ready_owns r (h ∷ hs) P (inl p) = let t : Owns h r = p.0 in omega arith
  ready_owns r (h ∷ hs) P (inr a) = let t = ready_owns r hs P a in omega arith

  follows : (log : List E) (e : E) (hands : List (Hand E)) → Each (Knows R log) hands → Ready R hands e → Follows R log e
  follows log e hands know ready = (
    each_weaker
        (λ r. Any (λ h. Owns h r × R.may r (part R r h.saw) e) hands)
        (λ r. R.may r (part R r log) e)
        (λ r a. any_gives (λ h. R.may r (part R r log) e) (R.may r (part R r log) e) (λ h m. m) hands
        (any_of_each (λ h. Owns h r × R.may r (part R r h.saw) e) (Knows R log) (λ h. R.may r (part R r log) e)
        (λ h p k. subst (λ xs. R.may r xs e) (k.1 r (let t : Owns h r = p.0 in omega arith)) p.1) hands a know))
        (R.lists e) ready.0,
    each_weaker
        (λ x. Any (λ h. Has h.saw x) hands)
        (λ x. Has log x)
        (λ x a. any_gives (λ h. Has log x) (Has log x) (λ h m. m) hands
        (any_of_each (λ h. Has h.saw x) (Knows R log) (λ h. Has log x) (λ h p k. has_begun h.saw log x k.0 p) hands a know))
        (R.cites e) ready.1,
  )

  -- the hands of one seat are others now
  views_set : (P : List (Hand E) → Type 0) (views : List (List (Hand E))) (id : ℕ) (w : List (Hand E)) → ((j : ℕ) (u : List (Hand E)) → j ≢ id → get_elem? views j ≡ some u → P u) → P w
      → (j : ℕ) (u : List (Hand E)) → get_elem? (set views id w) j ≡ some u → P u
  views_set P views id w rest mine j u e =
      ⊎_elim
      (λ (x : (j ≡ id) × (w ≡ u)). subst P x.1 mine)
      (λ (x : (j ≢ id) × (get_elem? views j ≡ some u)). rest j u x.0 x.1)
      (at_set views id j w u e)

  total_less : (views : List (List (Hand E))) (id r : ℕ) (v w : List (Hand E)) → get_elem? views id ≡ some v → stakes r w ≤ stakes r v → total (stakes r) (set views id w) ≤ total (stakes r) views
  total_less views id r v w at le = let t = total_set (stakes r) views id v w at in omega arith

  -- words
  counted_same : (log : List E) (e : E) (w : ℕ) → R.word e ≡ w → counted R w (log ++ e ∷ []) ≡ counted R w log + 1
  counted_same log e w is =
      let test : E → Bool = λ x. R.word x == w in
      ap length (filter-append test log (e ∷ []))
      ∙ (ap (λ b. length (filter test log ++ cond b (e ∷ []) [])) (eq-eqb (R.word e) w is) ∙ length-append (filter test log) (e ∷ []))

  counted_else : (log : List E) (e : E) (w : ℕ) → R.word e ≢ w → counted R w (log ++ e ∷ []) ≡ counted R w log
  counted_else log e w not =
      let test : E → Bool = λ x. R.word x == w in
      ap length (filter-append test log (e ∷ []))
      ∙ (ap (λ b. length (filter test log ++ cond b (e ∷ []) [])) (ne_eqb (R.word e) w not) ∙ ap length (append-nil (filter test log)))

  counts_more : (words : List ℕ) (log : List E) (e : E) → R.word e < 34 → Counts R words log → Counts R (set words (R.word e) ((slice_index words (R.word e) + 1) % 2 ^ 64)) (log ++ e ∷ [])
  counts_more words log e lt c =
      let w = R.word e in
      let now = (slice_index words w + 1) % 2 ^ 64 in (
        length-set words w now ∙ c.0,
        (λ k below.
            ⊎_elim
            (λ (t : (eqb k w ≡ true) × (k ≡ w)).
            subst (λ (m : ℕ). slice_index (set words w now) m ≡ counted R m (log ++ e ∷ []) % 2 ^ 64) (sym t.1)
            (get_or-set_same words w now 0 (subst (λ (m : ℕ). w < m) (sym c.0) lt)
            ∙ (ap (λ m. (m + 1) % 2 ^ 64) (c.1 w lt)
            ∙ (mod-add-mod (counted R w log) (2 ^ 64) 1 ∙ ap (λ m. m % 2 ^ 64) (sym (counted_same log e w refl))))))
            (λ (f : (eqb k w ≡ false) × (k ≢ w)).
            get_or-set_other words w k now 0 f.1 ∙ (c.1 k below ∙ ap (λ m. m % 2 ^ 64) (sym (counted_else log e k (λ s. f.1 (sym s))))))
            (eqb_tells k w)),
      )

  -- fetch_add of 1 on the entry's word
  pub enters : {S : Type 0} (slots id : ℕ) (v : List (Hand E)) (e : E) → R.word e < 34 → Ready R v e
      → Allows {S = S} {V = List (Hand E)} (λ s. Stands R s.words s.views) slots id (v, []) (R.word e) (λ k. (k + 1) % 2 ^ 64) (λ found w. Grew R (e ∷ []) (R.word e) v found w.0 × (w.1 ≡ []))
  enters slots id v e lt ready s h len at below =
      let log = h.0 in
      let after = log ++ e ∷ [] in
      let w = map (sees after) v in
      let mine = h.3 id v at in
      let legal = legal_more [] log e h.1 (follows log e v mine ready) in
      let same : (r : ℕ) → stakes r w ≡ stakes r v = λ r. total_map (shares r) (sees after) (λ x. refl) v in
      let apart : (r : ℕ) → stakes r v ≤ 1 = λ r. let t = total_at (stakes r) s.views id v at in let o = h.4 r in omega arith in (
        w,
        keeps,
        tt,
        (
          after,
          legal,
          counts_more s.words log e lt h.2,
          views_set (λ u. Each (Knows R after) u) s.views id w
              (λ j u apart at'. all_know_more log e u (λ r has.
              let t = total_two (stakes r) s.views id j v u apart at at' in
              let o = h.4 r in
              let p = ready_owns r v (λ x. R.may r (part R r x.saw) e) (each_at (λ k. Any (λ x. Owns x k × R.may k (part R k x.saw) e) v) (R.lists e) r ready.0 has) in
              omega arith) (h.3 j u at'))
              (each_map (Knows R after) (sees after) (sees_all after) v),
          (λ r. let t = total_less s.views id r v w at (let q = same r in omega arith) in let o = h.4 r in omega arith),
        ),
        ((log, refl, legal, h.2.1 (R.word e) lt, mine, apart), refl),
      )

  -- a load, after which the hands are as `shown` says
  pub looks : {S : Type 0} (shown : List E → List (Hand E) → List (Hand E)) → ((log : List E) (v : List (Hand E)) → Each (Knows R log) v → Each (Knows R log) (shown log v))
      → ((log : List E) (v : List (Hand E)) (r : ℕ) → stakes r (shown log v) ≤ stakes r v)
      → (slots id : ℕ) (v : List (Hand E)) (word : ℕ) → word < 34
      → Allows {S = S} {V = List (Hand E)} (λ s. Stands R s.words s.views) slots id (v, []) word (λ k. k) (λ found w. Looked R shown word v found w.0 × (w.1 ≡ []))
  looks shown know less slots id v word lt s h len at below =
      let log = h.0 in
      let mine = h.3 id v at in
      let apart : (r : ℕ) → stakes r v ≤ 1 = λ r. let t = total_at (stakes r) s.views id v at in let o = h.4 r in omega arith in (
        shown log v,
        keeps,
        tt,
        (
          log,
          h.1,
          subst (λ ws. Counts R ws log) (sym (set-get_or s.words word 0)) h.2,
          views_set (λ u. Each (Knows R log) u) s.views id (shown log v) (λ j u n at'. h.3 j u at') (know log v mine),
          (λ r. let t = total_less s.views id r v (shown log v) at (less log v r) in let o = h.4 r in omega arith),
        ),
        ((log, refl, h.1, h.2.1 word lt, mine, apart), refl),
      )

  pub sees_more : (log : List E) (v : List (Hand E)) → Each (Knows R log) v → Each (Knows R log) (map (sees log) v)
  sees_more log v k = each_map (Knows R log) (sees log) (sees_all log) v

  pub merges_known : (log : List E) (v : List (Hand E)) → Each (Knows R log) v → Each (Knows R log) (merged log v)
  merges_known log [] k = tt
  merges_known log (h ∷ []) k = (sees_all log h, tt)
  merges_known log (h ∷ g ∷ hs) k = ((begins_itself log, λ r s. refl), k.1.1)

  -- one seat's hands go to two
  pub cuts : {S : Type 0} (id : ℕ) (v left other : List (Hand E)) → ((log : List E) → Each (Knows R log) v → Each (Knows R log) left × Each (Knows R log) other)
      → ((r : ℕ) → stakes r left + stakes r other ≤ stakes r v)
      → Splits {S = S} {V = List (Hand E)} (λ s. Stands R s.words s.views) id v left other
  cuts id v left other know less s h at =
      let log = h.0 in
      let both = know log (h.3 id v at) in (
        log,
        h.1,
        h.2,
        (λ j u e.
            ⊎_elim
            (λ e'. views_set (λ z. Each (Knows R log) z) s.views id left (λ k z n at'. h.3 k z at') both.0 j u e')
            (λ same. subst (λ z. Each (Knows R log) z) same both.1)
            (at_snoc (set s.views id left) other u j e)),
        (λ r.
            let t = total_set (stakes r) s.views id v left at in
            let a = total_append (stakes r) (set s.views id left) (other ∷ []) in
            let l = less r in
            let o = h.4 r in
            omega arith),
      )

  -- two seats' hands come together
  pub meets : {S : Type 0} (id other : ℕ) (v w : List (Hand E)) → Joins {S = S} {V = List (Hand E)} (λ s. Stands R s.words s.views) id v other w (v ++ w) []
  meets id other v w s h at apart at' =
      let log = h.0 in
      let there : get_elem? s.views other ≡ some w = sym (set_else s.views id other (v ++ w) apart) ∙ at' in
      let whole = set s.views id (v ++ w) in (
        log,
        h.1,
        h.2,
        views_set (λ z. Each (Knows R log) z) whole other []
            (λ j u n e. views_set (λ z. Each (Knows R log) z) s.views id (v ++ w) (λ k z m e'. h.3 k z e') (each_append (Knows R log) v w (h.3 id v at) (h.3 other w there)) j u e)
            tt,
        (λ r.
            let a = total_set (stakes r) s.views id v (v ++ w) at in
            let b = total_set (stakes r) whole other w [] at' in
            let c = total_append (shares r) v w in
            let o = h.4 r in
            omega arith),
      )

  -- the table at the start
  pub opens : (zeros : List ℕ) → length zeros ≡ 34 → ((w : ℕ) → w < 34 → slice_index zeros w ≡ 0) → Stands R zeros ((founder ∷ []) ∷ [])
  opens zeros len zero' = (
    [],
    tt,
    (len, λ w lt. zero' w lt),
    (λ seat v e. first seat v e),
    (λ r. one r),
  )
    where
      one : (r : ℕ) → stakes r (founder {E = E} ∷ []) + 0 ≤ 1
      one r = grind (arith, nat_tests)

      first : (seat : ℕ) (v : List (Hand E)) → get_elem? ((founder ∷ []) ∷ []) seat ≡ some v → Each (Knows R []) v
      first zero v e = subst (λ z. Each (Knows R []) z) (some-injective (founder ∷ []) v e) ((begins_itself [], λ r s. refl), tt)
      first (suc n) v e = absurd (some-ne-none v (sym e))

module _ {E : Type 0} (R : Rules E) where
  -- a hand that owns no more than another, and saw as much
  knows_less : (log : List E) (h g : Hand E) → g.saw ≡ h.saw → ((r : ℕ) → shares r g ≤ shares r h) → Knows R log h → Knows R log g
  knows_less log h g saw less k = (
    subst (λ xs. IsPrefix xs log) (sym saw) k.0,
    (λ r s. ap (part R r) saw ∙ k.1 r (let l = less r in omega arith)),
  )

  -- all hands are cut alike
  pub cuts_each : {S : Type 0} (id : ℕ) (f g : Hand E → Hand E) → ((h : Hand E) → ((f h).saw ≡ h.saw) × ((g h).saw ≡ h.saw)) → ((h : Hand E) (r : ℕ) → shares r (f h) + shares r (g h) ≤ shares r h)
      → (v : List (Hand E)) → Splits {S = S} {V = List (Hand E)} (λ s. Stands R s.words s.views) id v (map f v) (map g v)
  cuts_each id f g saw less v =
      cuts R id v (map f v) (map g v)
      (λ log k. (
        each_kept (Knows R log) f (λ h. knows_less log h (f h) (saw h).0 (λ r. let l = less h r in omega arith)) v k,
        each_kept (Knows R log) g (λ h. knows_less log h (g h) (saw h).1 (λ r. let l = less h r in omega arith)) v k,
      ))
      (λ r. total_cut (shares r) f g (λ h. less h r) v)

  pub lends : {S : Type 0} (id : ℕ) (v : List (Hand E)) → Splits {S = S} {V = List (Hand E)} (λ s. Stands R s.words s.views) id v (map lent v) v
  lends id v =
      cuts R id v (map lent v) v
      (λ log k. (each_kept (Knows R log) lent (λ h. knows_less log h (lent h) refl (λ r. omega arith)) v k, k))
      (λ r. let t = none r v in omega arith)
    where
      none : (r : ℕ) (v : List (Hand E)) → stakes r (map lent v) ≡ 0
      none r [] = refl
      none r (h ∷ hs) = let n = none r hs in omega arith

  pub parts : {S : Type 0} (id : ℕ) (v : List (Hand E)) → Splits {S = S} {V = List (Hand E)} (λ s. Stands R s.words s.views) id v (hand_of v ∷ []) (others v)
  parts id [] = cuts R id [] (nobody ∷ []) [] (λ log k. ((((log, refl), λ r s. absurd (omega arith)), tt), tt)) (λ r. omega arith)
  parts id (h ∷ hs) = cuts R id (h ∷ hs) (h ∷ []) hs (λ log k. ((k.0, tt), k.1)) (λ r. omega arith)

pub sees_less : {E : Type 0} (log : List E) (v : List (Hand E)) (r : ℕ) → stakes r (map (sees log) v) ≤ stakes r v
sees_less log v r = let t = total_map (shares r) (sees log) (λ x. refl) v in omega arith

-- a number is dealt once
deals_once : (k n r : ℕ) → times r (numbers k n) + beyond (Some (k + n)) r ≤ beyond (Some k) r
deals_once k zero r = let same : beyond (Some (k + 0)) r ≡ beyond (Some k) r = ap (λ (m : ℕ). beyond (Some m) r) (omega arith) in omega arith
deals_once k (suc n) r =
    let more = deals_once (suc k) n r in
    let here = one_of k r (eqb_tells k r) in
    let later : beyond (Some (suc k + n)) r ≡ beyond (Some (k + suc n)) r = ap (λ (m : ℕ). beyond (Some m) r) (omega arith) in
    omega arith
  where
    one_of : (k r : ℕ) → ((eqb k r ≡ true) × (k ≡ r)) ⊎ ((eqb k r ≡ false) × (k ≢ r)) → cond (k == r) 1 0 + beyond (Some (suc k)) r ≤ beyond (Some k) r
    one_of k r t = grind (arith, nat_tests, t)

pub merges_less : {E : Type 0} (log : List E) (v : List (Hand E)) (r : ℕ) → stakes r (merged log v) ≤ stakes r v
merges_less log [] r = omega arith
merges_less log (h ∷ []) r = omega arith
merges_less log (h ∷ g ∷ hs) r = let t = times_append h.lists g.lists r in let b = right_less h.from g.from r in omega arith
  where
    right_less : (p q : Option ℕ) (r : ℕ) → beyond (either_right p q) r ≤ beyond p r + beyond q r
    right_less None q r = omega arith
    right_less (Some k) q r = omega arith

deals_less : {E : Type 0} (n : ℕ) (h : Hand E) (r : ℕ) → shares r (gave n h) + shares r (given n h) ≤ shares r h
deals_less n h r = let d = right_dealt h.from in omega arith
  where
    right_dealt : (p : Option ℕ) → times r (dealt p n) + beyond (further n p) r ≤ beyond p r
    right_dealt None = omega arith
    right_dealt (Some k) = deals_once k n r

pub deals : {E : Type 0} (R : Rules E) → {S : Type 0} (id n : ℕ) (v : List (Hand E)) → Splits {S = S} {V = List (Hand E)} (λ s. Stands R s.words s.views) id v (map (gave n) v) (map (given n) v)
deals R id n v = cuts_each R id (gave n) (given n) (λ h. (refl, refl)) (deals_less n) v
