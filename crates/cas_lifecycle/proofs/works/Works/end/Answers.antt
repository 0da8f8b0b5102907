use Rattle.std.proofs.Common.{◌≡◌, ◌≢◌, ℕ, ◌%◌, ◌∙◌, ◌++◌, [], ◌∷◌, false, cond, eq-eqb, ap, refl, sym, subst, inl, inr, arith}
use Rattle.std.specs.Prelude.{None}
use Rattle.std.proofs.lemmas.List.Sums.{fold-append}
use Rattle.cas_history.specs.Hands.{Owns}
use Rattle.cas_history.proofs.Parts.{owned, gets}
use Rattle.cas_history.specs.declared.item.Item.TheVariants.{Ended}
use Rattle.cas_history.specs.Items.{items, listed}
use Rattle.cas_history.specs.Last.{runs, runs_after, turn, turn_after, last_call, call_after}
use Rattle.cas_lifecycle.proofs.Turns.{turned}
use Rattle.cas_lifecycle.proofs.works.Works.end.Goals as goal

apart : (works diary : ℕ) → works % 2 ≡ 1 → diary % 2 ≡ 0 → works ≢ diary
apart works diary odd even same = let m = ap (λ (k : ℕ). k % 2) same in omega arith

pub accept_two-requires-clause-ready : goal.accept_two-requires-clause-ready
accept_two-requires-clause-ready g c =
    let self = c.args.self.now in
    let session = c.args.session.now in
    let shown = c.look.ensures in
    let diary = shown.known.1.0.1 session.list (owned items session.pass session.list session.owns.1) in
    let here = turned self.list session.list (apart self.list session.list self.odd session.even) _ shown.legal (sym (ap (turn self.list) diary) ∙ c.requires.turn) in
    let first = inl (subst (λ h. Owns h self.list) (sym shown.one) self.owns.1, (self.owns.0, session.owns.0, (apart self.list session.list self.odd session.even), λ same. here)) in
    let second = inr (inl (subst (λ h. Owns h session.list) (sym shown.two) session.owns.1, (self.owns.0, session.owns.0, (apart self.list session.list self.odd session.even), λ same. absurd ((apart self.list session.list self.odd session.even) (sym same))))) in
    ((first, (second, tt)), tt)

pub returns-clause-was : goal.returns-clause-was
returns-clause-was g c =
    let self = c.args.self.now in
    let session = c.args.session.now in
    let shown = c.look.ensures in
    let list = shown.known.0.1 self.list (owned items self.pass self.list self.owns.1) in
    let diary = shown.known.1.0.1 session.list (owned items session.pass session.list session.owns.1) in
    self.is_last ∙ (ap (runs self.list) list ∙ turned self.list session.list (apart self.list session.list self.odd session.even) _ shown.legal (sym (ap (turn self.list) diary) ∙ c.requires.turn))

pub returns-clause-list : goal.returns-clause-list
returns-clause-list g c =
    let self = c.args.self.now in
    let session = c.args.session.now in
    let shown = c.look.ensures in
    let list = shown.known.0.1 self.list (owned items self.pass self.list self.owns.1) in
    gets items (c.look.new.one ∷ c.look.new.two ∷ []) _ _ _ c.look.new.one self.list c.accept_two.ensures.entered (inl refl) (subst (λ h. Owns h self.list) (sym shown.one) self.owns.1) (inl refl)
    ∙ ap (λ l. l ++ Ended self.list session.list ∷ []) (sym list)

pub returns-clause-diary : goal.returns-clause-diary
returns-clause-diary g c =
    let session = c.args.session.now in
    let shown = c.look.ensures in
    let came = c.accept_two.ensures in
    let hands = c.look.new.one ∷ c.look.new.two ∷ [] in
    let diary = shown.known.1.0.1 session.list (owned items session.pass session.list session.owns.1) in
    ap (λ h. listed session.list h.saw) came.two
    ∙ (gets items hands _ _ _ c.look.new.two session.list came.entered (inr (inl refl)) (subst (λ h. Owns h session.list) (sym shown.two) session.owns.1) (inr (inl refl))
    ∙ ap (λ l. l ++ Ended c.args.self.now.list session.list ∷ []) (ap (λ h. listed session.list h.saw) shown.two ∙ sym diary))

pub returns-clause-turn : goal.returns-clause-turn
returns-clause-turn g c =
    let works = c.args.self.now.list in
    let before = listed c.args.session.now.list c.args.session.now.pass.saw in (
      ap (turn works) (returns-clause-diary g c)
          ∙ (fold-append (turn_after works) false before (_ ∷ []) ∙ ap (λ b. cond b false (turn works before)) (eq-eqb works works refl)),
      refl,
      refl,
    )

pub invariant_of-session : goal.invariant_of-session
invariant_of-session g c =
    let session = c.args.session.now in
    let shown = c.look.ensures in
    let came = c.accept_two.ensures in
    let hands = c.look.new.one ∷ c.look.new.two ∷ [] in
    let own = subst (λ h. Owns h session.list) (sym shown.two) session.owns.1 in
    let diary = ap (λ h. listed session.list h.saw) shown.two ∙ sym (shown.known.1.0.1 session.list (owned items session.pass session.list session.owns.1)) in
    let more = gets items hands _ _ _ c.look.new.two session.list came.entered (inr (inl refl)) own (inr (inl refl)) in
    record {
      owns = (session.owns.0, subst (λ h. Owns h session.list) (sym came.two) own);
      alone = ap (λ h. h.lists) came.two ∙ (ap (λ h. h.lists) shown.two ∙ session.alone);
      even = session.even;
      last = session.last
          ∙ sym (ap (λ h. last_call (listed session.list h.saw)) came.two
          ∙ (ap last_call more ∙ (fold-append call_after 0 (listed session.list c.look.new.two.saw) (_ ∷ []) ∙ ap last_call diary)));
    }

pub invariant_of-self : goal.invariant_of-self
invariant_of-self g c =
    let self = c.args.self.now in
    let shown = c.look.ensures in
    let came = c.accept_two.ensures in
    let hands = c.look.new.one ∷ c.look.new.two ∷ [] in
    let own = subst (λ h. Owns h self.list) (sym shown.one) self.owns.1 in
    let before = listed self.list c.look.new.one.saw in
    let more = gets items hands _ _ _ c.look.new.one self.list came.entered (inl refl) own (inl refl) in
    record {
      owns = (self.owns.0, subst (λ h. Owns h self.list) (sym came.one) own);
      odd = self.odd;
      is_last = sym (ap (runs self.list) more
          ∙ (fold-append (runs_after self.list) None before (_ ∷ []) ∙ ap (λ b. cond b None (runs self.list before)) (eq-eqb self.list self.list refl)));
    }
