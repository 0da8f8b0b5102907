use Rattle.std.proofs.Common.{◌≡◌, ◌≢◌, ℕ, ◌%◌, ◌∙◌, [], ◌∷◌, true, false, cond, ap, refl, sym, subst, inl, inr, eq-eqb, true≢false, arith}
use Rattle.std.specs.Prelude.{Option, None, Some}
use Rattle.std.specs.Option.{is_some}
use Rattle.std.proofs.lemmas.List.Sums.{fold-append}
use Rattle.cas_history.specs.Hands.{Owns}
use Rattle.cas_history.proofs.Parts.{gets, begins}
use Rattle.cas_history.specs.Items.{items, listed}
use Rattle.cas_history.specs.Last.{runs, runs_after, turn, turn_after, last_call, call_after}
use Rattle.cas_lifecycle.proofs.works.Works.begin.Goals as goal

apart : (works diary : ℕ) → works % 2 ≡ 1 → diary % 2 ≡ 0 → works ≢ diary
apart works diary odd even same = let m = ap (λ (k : ℕ). k % 2) same in omega arith

none_of : (o : Option ℕ) → is_some o ≡ false → o ≡ None
none_of None e = refl
none_of (Some p) e = absurd (true≢false e)

pub accept_two-requires-clause-ready : goal.accept_two-requires-clause-ready
accept_two-requires-clause-ready g c =
    let self = c.args.self.now in
    let session = c.args.session.now in
    let differ = apart self.list session.list self.odd session.even in
    let none = none_of self.running (sym c.is_some.ensures ∙ c.if-is_some.false) in
    let first = inl (self.owns.1, (self.owns.0, session.owns.0, differ, session.even, λ same. sym self.is_last ∙ none)) in
    let second = inr (inl (session.owns.1, (self.owns.0, session.owns.0, differ, session.even, λ same. absurd (differ (sym same))))) in
    ((first, (second, tt)), tt)

pub invariant_of-session-2 : goal.invariant_of-session-2
invariant_of-session-2 g c =
    let session = c.args.session.now in
    let came = c.accept_two.ensures in
    let hands = c.args.self.now.pass ∷ session.pass ∷ [] in
    let more = gets items hands _ _ _ session.pass session.list came.entered (inr (inl refl)) session.owns.1 (inr (inl refl)) in
    record {
      owns = (session.owns.0, subst (λ h. Owns h session.list) (sym came.two) session.owns.1);
      alone = ap (λ h. h.lists) came.two ∙ session.alone;
      even = session.even;
      last = session.last
          ∙ sym (ap (λ h. last_call (listed session.list h.saw)) came.two ∙ (ap last_call more ∙ fold-append call_after 0 (listed session.list session.pass.saw) (_ ∷ [])));
    }

pub invariant_of-self-2 : goal.invariant_of-self-2
invariant_of-self-2 g c =
    let self = c.args.self.now in
    let came = c.accept_two.ensures in
    let hands = self.pass ∷ c.args.session.now.pass ∷ [] in
    let more = gets items hands _ _ _ self.pass self.list came.entered (inl refl) self.owns.1 (inl refl) in
    let before = listed self.list self.pass.saw in
    record {
      owns = (self.owns.0, subst (λ h. Owns h self.list) (sym came.one) self.owns.1);
      odd = self.odd;
      is_last = sym (ap (runs self.list) more
          ∙ (fold-append (runs_after self.list) None before (_ ∷ []) ∙ ap (λ b. cond b (Some c.args.session.now.list) (runs self.list before)) (eq-eqb self.list self.list refl)));
    }

pub returns-clause-list : goal.returns-clause-list
returns-clause-list g c began =
    let self = c.args.self.now in
    let hands = self.pass ∷ c.args.session.now.pass ∷ [] in
    gets items hands _ _ _ self.pass self.list c.accept_two.ensures.entered (inl refl) self.owns.1 (inl refl)

pub returns-clause-diary : goal.returns-clause-diary
returns-clause-diary g c began =
    let session = c.args.session.now in
    let came = c.accept_two.ensures in
    let hands = c.args.self.now.pass ∷ session.pass ∷ [] in
    ap (λ h. listed session.list h.saw) came.two ∙ gets items hands _ _ _ session.pass session.list came.entered (inr (inl refl)) session.owns.1 (inr (inl refl))

pub returns-clause-turn : goal.returns-clause-turn
returns-clause-turn g c began =
    let works = c.args.self.now.list in
    let before = listed c.args.session.now.list c.args.session.now.pass.saw in
    ap (turn works) (returns-clause-diary g c began)
    ∙ (fold-append (turn_after works) false before (_ ∷ []) ∙ ap (λ b. cond b true (turn works before)) (eq-eqb works works refl))

pub returns-clause-seen : goal.returns-clause-seen
returns-clause-seen g c =
    let self = c.args.self.now in
    let session = c.args.session.now in
    let came = c.accept_two.ensures in
    let hands = self.pass ∷ session.pass ∷ [] in
    (ap (λ h. h.saw) came.two, begins items hands _ _ _ self.pass came.entered (inl refl), begins items hands _ _ _ session.pass came.entered (inr (inl refl)))
