use Rattle.std.proofs.Common.{◌≡◌, ◌≢◌, ℕ, ◌%◌, ◌<◌, ◌≤◌, ◌∙◌, ◌++◌, [], ◌∷◌, Bool, false, cond, ap, refl, sym, subst, inl, inr, eq-eqb, arith}
use Rattle.std.specs.Prelude.{None}
use Rattle.std.proofs.lemmas.List.Sums.{fold-append}
use Rattle.cas_history.specs.Hands.{Owns}
use Rattle.cas_history.proofs.Parts.{owned, gets}
use Rattle.cas_history.specs.declared.item.Item.TheVariants.{Purged}
use Rattle.cas_history.specs.Items.{items, listed, front_list, first_diary}
use Rattle.cas_history.specs.Last.{runs, runs_after, turn, turn_after, decided, decided_after, last_number, number_after, last_call, call_after}
use Rattle.cas_lifecycle.proofs.Turns.{turned}
use Rattle.cas_lifecycle.proofs.works.Works.decide.Goals as goal

apart : (works diary : ℕ) → works % 2 ≡ 1 → diary % 2 ≡ 0 → works ≢ diary
apart works diary odd even same = let m = ap (λ (k : ℕ). k % 2) same in omega arith

outside : (shard works : ℕ) → shard < 16 → first_diary ≤ works → front_list shard ≢ works
outside shard works low high same = omega arith

pub accept_three-requires-clause-ready : goal.accept_three-requires-clause-ready
accept_three-requires-clause-ready g c =
    let self = c.args.self.now in
    let session = c.args.session.now in
    let front = c.args.front.now in
    let shown = c.look.ensures in
    let differ = apart self.list session.list self.odd session.even in
    let diary = shown.known.1.0.1 session.list (owned items session.pass session.list session.owns.1) in
    let here = turned self.list session.list differ _ shown.legal (sym (ap (turn self.list) diary) ∙ c.requires.turn) in
    let first = inl (front.owns.1, (front.owns.0, self.owns.0, session.owns.0, differ, λ same. absurd (outside front.shard self.list front.owns.0 self.owns.0 same))) in
    let second = inr (inl (subst (λ h. Owns h self.list) (sym shown.one) self.owns.1, (front.owns.0, self.owns.0, session.owns.0, differ, λ same. here))) in
    let third = inr (inr (inl (subst (λ h. Owns h session.list) (sym shown.two) session.owns.1, (front.owns.0, self.owns.0, session.owns.0, differ, λ same. absurd (differ (sym same)))))) in
    ((first, (second, (third, tt))), tt)

pub returns-clause-runs : goal.returns-clause-runs
returns-clause-runs g c =
    let self = c.args.self.now in
    let session = c.args.session.now in
    let shown = c.look.ensures in
    let list = shown.known.0.1 self.list (owned items self.pass self.list self.owns.1) in
    let diary = shown.known.1.0.1 session.list (owned items session.pass session.list session.owns.1) in
    let here = turned self.list session.list (apart self.list session.list self.odd session.even) _ shown.legal (sym (ap (turn self.list) diary) ∙ c.requires.turn) in
    (self.is_last ∙ (ap (runs self.list) list ∙ here), refl, refl)

pub returns-clause-list : goal.returns-clause-list
returns-clause-list g c =
    let self = c.args.self.now in
    let shown = c.look.ensures in
    let came = c.accept_three.ensures in
    let hands = c.args.front.now.pass ∷ c.look.new.one ∷ c.look.new.two ∷ [] in
    let list = shown.known.0.1 self.list (owned items self.pass self.list self.owns.1) in
    ap (λ h. listed self.list h.saw) came.two
    ∙ (gets items hands _ _ _ c.look.new.one self.list came.entered (inr (inl refl)) (subst (λ h. Owns h self.list) (sym shown.one) self.owns.1) (inr (inl refl))
    ∙ ap (λ l. l ++ Purged c.args.front.now.shard self.list c.args.session.now.list (g.T.Tells.entry c.args.what.now) ∷ []) (sym list))

pub returns-clause-decided : goal.returns-clause-decided
returns-clause-decided g c =
    let self = c.args.self.now in
    let before = listed self.list self.pass.saw in
    ap (decided self.list) (returns-clause-list g c)
    ∙ (fold-append (decided_after self.list) [] before (_ ∷ [])
    ∙ ap (λ (b : Bool). cond b (decided self.list before ++ g.T.Tells.entry c.args.what.now ∷ []) (decided self.list before)) (eq-eqb self.list self.list refl))

pub returns-clause-front : goal.returns-clause-front
returns-clause-front g c =
    let front = c.args.front.now in
    let came = c.accept_three.ensures in
    let hands = front.pass ∷ c.look.new.one ∷ c.look.new.two ∷ [] in
    (refl, refl, gets items hands _ _ _ front.pass (front_list front.shard) came.entered (inl refl) front.owns.1 (inl refl))

pub returns-clause-diary : goal.returns-clause-diary
returns-clause-diary g c =
    let session = c.args.session.now in
    let shown = c.look.ensures in
    let came = c.accept_three.ensures in
    let hands = c.args.front.now.pass ∷ c.look.new.one ∷ c.look.new.two ∷ [] in
    let diary = shown.known.1.0.1 session.list (owned items session.pass session.list session.owns.1) in (
      refl,
      refl,
      ap (λ h. listed session.list h.saw) came.three
          ∙ (gets items hands _ _ _ c.look.new.two session.list came.entered (inr (inr (inl refl))) (subst (λ h. Owns h session.list) (sym shown.two) session.owns.1) (inr (inr (inl refl)))
          ∙ ap (λ l. l ++ Purged c.args.front.now.shard c.args.self.now.list session.list (g.T.Tells.entry c.args.what.now) ∷ []) (ap (λ h. listed session.list h.saw) shown.two ∙ sym diary)),
    )

pub returns-clause-turn : goal.returns-clause-turn
returns-clause-turn g c =
    let self = c.args.self.now in
    let session = c.args.session.now in
    ap (turn self.list) (returns-clause-diary g c).2 ∙ (fold-append (turn_after self.list) false (listed session.list session.pass.saw) (_ ∷ []) ∙ c.requires.turn)

pub invariant_of-front : goal.invariant_of-front
invariant_of-front g c =
    let front = c.args.front.now in
    let came = c.accept_three.ensures in
    let hands = front.pass ∷ c.look.new.one ∷ c.look.new.two ∷ [] in
    let list = gets items hands _ _ _ front.pass (front_list front.shard) came.entered (inl refl) front.owns.1 (inl refl) in
    record {
      owns = (front.owns.0, subst (λ h. Owns h (front_list front.shard)) (sym came.one) front.owns.1);
      last = front.last ∙ sym (ap last_number list ∙ fold-append number_after 0 (listed (front_list front.shard) front.pass.saw) (_ ∷ []));
    }

pub invariant_of-self : goal.invariant_of-self
invariant_of-self g c =
    let self = c.args.self.now in
    let shown = c.look.ensures in
    let came = c.accept_three.ensures in
    let hands = c.args.front.now.pass ∷ c.look.new.one ∷ c.look.new.two ∷ [] in
    let own = subst (λ h. Owns h self.list) (sym shown.one) self.owns.1 in
    let list = shown.known.0.1 self.list (owned items self.pass self.list self.owns.1) in
    let more = gets items hands _ _ _ c.look.new.one self.list came.entered (inr (inl refl)) own (inr (inl refl)) in
    record {
      owns = (self.owns.0, subst (λ h. Owns h self.list) (sym came.two) own);
      odd = self.odd;
      is_last = self.is_last
          ∙ (ap (runs self.list) list
          ∙ sym (ap (λ h. runs self.list (listed self.list h.saw)) came.two ∙ (ap (runs self.list) more ∙ fold-append (runs_after self.list) None (listed self.list c.look.new.one.saw) (_ ∷ []))));
    }

pub invariant_of-session : goal.invariant_of-session
invariant_of-session g c =
    let session = c.args.session.now in
    let shown = c.look.ensures in
    let came = c.accept_three.ensures in
    let hands = c.args.front.now.pass ∷ c.look.new.one ∷ c.look.new.two ∷ [] in
    let own = subst (λ h. Owns h session.list) (sym shown.two) session.owns.1 in
    let diary = ap (λ h. listed session.list h.saw) shown.two ∙ sym (shown.known.1.0.1 session.list (owned items session.pass session.list session.owns.1)) in
    let more = gets items hands _ _ _ c.look.new.two session.list came.entered (inr (inr (inl refl))) own (inr (inr (inl refl))) in
    record {
      owns = (session.owns.0, subst (λ h. Owns h session.list) (sym came.three) own);
      alone = ap (λ h. h.lists) came.three ∙ (ap (λ h. h.lists) shown.two ∙ session.alone);
      even = session.even;
      last = session.last
          ∙ sym (ap (λ h. last_call (listed session.list h.saw)) came.three
          ∙ (ap last_call more ∙ (fold-append call_after 0 (listed session.list c.look.new.two.saw) (_ ∷ []) ∙ ap last_call diary)));
    }
