-- For crates above: what an entry does to the lists of who stood there, and facts that each entry keeps.
use Rattle.std.proofs.Common.{◌≡◌, ◌≢◌, ℕ, zero, suc, ◌+◌, ◌<◌, ◌≤◌, eqb, List, [], ◌∷◌, ◌++◌, Bool, true, false, cond, refl, ap, sym, ◌∙◌, subst, inl, inr, ⊎_elim, arith, append_assoc, append-nil, eq-eqb, true≢false}
use Rattle.std.specs.Prelude.{◌==◌, ◌||◌}
use Rattle.std.specs.List.{filter, list_any}
use Rattle.std.proofs.lemmas.Bool.{false_from_ne_true}
use Rattle.std.proofs.lemmas.Bool.Decides.{eqb_tells}
use Rattle.std.proofs.lemmas.List.Elements.{filter-append}
use mathlib.Core.List.{IsPrefix}
use Rattle.cas_history.specs.declared.hand.Hand.{Hand}
use Rattle.cas_history.specs.Log.{Rules, Has, part, Follows, LegalAfter, Legal}
use Rattle.cas_history.specs.Hands.{numbers, times, shares, Owns, Knows, Entered}
use Rattle.cas_history.proofs.LogLists.{begins_longer, each_at, named}

pub names_it : (ks : List ℕ) (r : ℕ) → Has ks r → list_any (λ k. k == r) ks ≡ true
names_it [] r h = absurd h
names_it (k ∷ ks) r (inl e) = ap (λ (b : Bool). b || list_any (λ m. m == r) ks) (eq-eqb k r e)
names_it (k ∷ ks) r (inr h) = ap (λ (b : Bool). (k == r) || b) (names_it ks r h) ∙ or_true (k == r)
  where
    or_true : (b : Bool) → (b || true) ≡ true
    or_true false = refl
    or_true true = refl

module _ {E : Type 0} (R : Rules E) where
  abbrev test : ℕ → E → Bool
  test r x = list_any (λ k. k == r) (R.lists x)

  pub part_gets : (log : List E) (e : E) (r : ℕ) → Has (R.lists e) r → part R r (log ++ e ∷ []) ≡ part R r log ++ e ∷ []
  part_gets log e r has = filter-append (test r) log (e ∷ []) ∙ ap (λ (b : Bool). filter (test r) log ++ cond b (e ∷ []) []) (names_it (R.lists e) r has)

  pub part_stays : (log : List E) (e : E) (r : ℕ) → (Has (R.lists e) r → ⊥) → part R r (log ++ e ∷ []) ≡ part R r log
  part_stays log e r none =
      filter-append (test r) log (e ∷ [])
      ∙ (ap (λ (b : Bool). filter (test r) log ++ cond b (e ∷ []) []) (false_from_ne_true (test r e) (λ t. none (named (R.lists e) r t))) ∙ append-nil (filter (test r) log))

  pub owned : (h : Hand E) (r : ℕ) → Owns h r → 0 < shares r h
  owned h r has = let t : 0 < times r h.lists = has in omega arith

  -- a list of the entry, at its owner
  pub gets : (hands : List (Hand E)) (e : E) (log : List E) (n : ℕ) (h : Hand E) (r : ℕ) → Entered R hands e log n → Has hands h → Owns h r → Has (R.lists e) r → part R r log ≡ part R r h.saw ++ e ∷ []
  gets hands e log n h r entered here own has =
      let k = each_at (Knows R entered.0) hands h entered.3 here in
      ap (part R r) entered.1 ∙ (part_gets entered.0 e r has ∙ ap (λ xs. xs ++ e ∷ []) (sym (k.1 r (owned h r own))))

  -- another list of who stood there
  pub stays : (hands : List (Hand E)) (e : E) (log : List E) (n : ℕ) (h : Hand E) (r : ℕ) → Entered R hands e log n → Has hands h → 0 < shares r h → (Has (R.lists e) r → ⊥) → part R r log ≡ part R r h.saw
  stays hands e log n h r entered here own none =
      let k = each_at (Knows R entered.0) hands h entered.3 here in
      ap (part R r) entered.1 ∙ (part_stays entered.0 e r none ∙ sym (k.1 r own))

  pub begins : (hands : List (Hand E)) (e : E) (log : List E) (n : ℕ) (h : Hand E) → Entered R hands e log n → Has hands h → IsPrefix h.saw log
  begins hands e log n h entered here =
      let k = each_at (Knows R entered.0) hands h entered.3 here in
      subst (λ xs. IsPrefix h.saw xs) (sym entered.1) (begins_longer h.saw entered.0 (e ∷ []) k.0)

  legal_from : (P : List E → Type 0) → ((before : List E) (e : E) → P before → Follows R before e → P (before ++ e ∷ [])) → (before log : List E) → P before → LegalAfter R before log → P (before ++ log)
  legal_from P step before [] p l = subst P (sym (append-nil before)) p
  legal_from P step before (e ∷ es) p l = subst P (append_assoc before (e ∷ []) es) (legal_from P step (before ++ e ∷ []) es (step before e p l.0) l.1)

  legal_rest : (before p rest : List E) → LegalAfter R before (p ++ rest) → LegalAfter R (before ++ p) rest
  legal_rest before [] rest l = subst (λ b. LegalAfter R b rest) (sym (append-nil before)) l
  legal_rest before (x ∷ xs) rest l = subst (λ b. LegalAfter R b rest) (append_assoc before (x ∷ []) xs) (legal_rest (before ++ x ∷ []) xs rest l.1)

  -- what each entry that may come in a list keeps, goes on from a beginning of the log to the log
  pub list_grows : (r : ℕ) (P : List E → Type 0) → ((list : List E) (e : E) → Has (R.lists e) r → P list → R.may r list e → P (list ++ e ∷ [])) → (p log : List E) → IsPrefix p log → Legal R log → P (part R r p) → P (part R r log)
  list_grows r P step p log begin legal now =
      subst (λ l. P (part R r l)) begin.1
      (legal_from (λ l. P (part R r l)) (λ before e q f. one before e q f (list_any (λ k. k == r) (R.lists e)) refl) p begin.0 now (legal_rest [] p begin.0 (subst (Legal R) (sym begin.1) legal)))
    where
      one : (before : List E) (e : E) → P (part R r before) → Follows R before e → (b : Bool) → list_any (λ k. k == r) (R.lists e) ≡ b → P (part R r (before ++ e ∷ []))
      one before e q f true is =
          let here = named (R.lists e) r is in
          subst P (sym (part_gets before e r here)) (step (part R r before) e here q (each_at (λ k. R.may k (part R k before) e) (R.lists e) r f.0 here))
      one before e q f false is = subst P (sym (part_stays before e r (λ here. true≢false (sym (names_it (R.lists e) r here) ∙ is)))) q

  -- what each entry that may come keeps, holds of each legal log
  pub legal_grows : (P : List E → Type 0) → P [] → ((before : List E) (e : E) → P before → Follows R before e → P (before ++ e ∷ [])) → (log : List E) → Legal R log → P log
  legal_grows P none step log l = legal_from P step [] log none l

-- who is dealt numbers owns each of them
pub deals_all : (k n r : ℕ) → k ≤ r → r < k + n → 0 < times r (numbers k n)
deals_all k zero r low high = absurd (omega arith)
deals_all k (suc n) r low high =
    ⊎_elim
    (λ (t : (eqb k r ≡ true) × (k ≡ r)). let s : cond {A = ℕ} (k == r) 1 0 ≡ 1 = ap (λ (b : Bool). cond {A = ℕ} b 1 0) t.0 in omega arith)
    (λ (f : (eqb k r ≡ false) × (k ≢ r)). let more = deals_all (suc k) n r (let apart = f.1 in omega arith) (omega arith) in omega arith)
    (eqb_tells k r)
