use Rattle.std.proofs.Common.{◌≡◌, ◌≢◌, ℕ, ◌+◌, ◌<◌, ◌≤◌, ◌∙◌, [], ◌∷◌, ap, refl, sym, subst, inl, inr, arith}
use Rattle.std.proofs.lemmas.List.Sums.{fold-append}
use Rattle.cas_history.specs.Hands.{Owns}
use Rattle.cas_history.proofs.Parts.{gets, begins}
use Rattle.cas_history.specs.Items.{items, listed, log_list, front_list}
use Rattle.cas_history.specs.Last.{last_number, number_after, last_call, call_after}
use Rattle.cas_history.proofs.front.write.Goals as goal

below : (m p : ℕ) → m < 96 → 96 ≤ p → m ≢ p
below m p low high same = omega arith

pub accept_three-requires-clause-ready : goal.accept_three-requires-clause-ready
accept_three-requires-clause-ready g c =
    let log = c.args.log.now in
    let front = c.args.front.now in
    let session = c.args.session.now in
    let low = front.owns.0 in
    let high = session.owns.0 in
    let r = front_list front.shard in
    let first = inl (log.owns, (low, high, (λ (same : log_list ≡ r). absurd (omega arith)), (λ same. absurd (below log_list session.list (omega arith) high same)))) in
    let second = inr (inl (front.owns.1, (low, high, (λ same. ap (λ n. n + 1) front.last), (λ same. absurd (below r session.list (omega arith) high same))))) in
    let third = inr (inr (inl (session.owns.1, (low, high, (λ same. absurd (below r session.list (omega arith) high (sym same))), (λ same. ap (λ n. n + 1) session.last))))) in
    ((first, (second, (third, tt))), tt)

pub invariant_of-log : goal.invariant_of-log
invariant_of-log g c = record { owns = subst (λ h. Owns h log_list) (sym c.accept_three.ensures.one) c.args.log.now.owns }

pub invariant_of-front : goal.invariant_of-front
invariant_of-front g c =
    let front = c.args.front.now in
    let r = front_list front.shard in
    let hands = c.args.log.now.pass ∷ front.pass ∷ c.args.session.now.pass ∷ [] in
    let came = c.accept_three.ensures in
    let list = ap (λ h. listed r h.saw) came.two ∙ gets items hands _ _ _ front.pass r came.entered (inr (inl refl)) front.owns.1 (inr (inl refl)) in
    record {
      owns = (front.owns.0, subst (λ h. Owns h r) (sym came.two) front.owns.1);
      last = sym (ap last_number list ∙ fold-append number_after 0 (listed r front.pass.saw) (_ ∷ []));
    }

pub invariant_of-session : goal.invariant_of-session
invariant_of-session g c =
    let session = c.args.session.now in
    let r = session.list in
    let hands = c.args.log.now.pass ∷ c.args.front.now.pass ∷ session.pass ∷ [] in
    let came = c.accept_three.ensures in
    let list = ap (λ h. listed r h.saw) came.three ∙ gets items hands _ _ _ session.pass r came.entered (inr (inr (inl refl))) session.owns.1 (inr (inr (inl refl))) in
    record {
      owns = (session.owns.0, subst (λ h. Owns h r) (sym came.three) session.owns.1);
      alone = ap (λ h. h.lists) came.three ∙ session.alone;
      even = session.even;
      last = sym (ap last_call list ∙ fold-append call_after 0 (listed r session.pass.saw) (_ ∷ []));
    }

pub returns-clause-log : goal.returns-clause-log
returns-clause-log g c =
    let log = c.args.log.now in
    let hands = log.pass ∷ c.args.front.now.pass ∷ c.args.session.now.pass ∷ [] in
    gets items hands _ _ _ log.pass log_list c.accept_three.ensures.entered (inl refl) log.owns (inl refl)

pub returns-clause-front : goal.returns-clause-front
returns-clause-front g c =
    let front = c.args.front.now in
    let r = front_list front.shard in
    let hands = c.args.log.now.pass ∷ front.pass ∷ c.args.session.now.pass ∷ [] in
    let came = c.accept_three.ensures in
    ap (λ h. listed r h.saw) came.two ∙ gets items hands _ _ _ front.pass r came.entered (inr (inl refl)) front.owns.1 (inr (inl refl))

pub returns-clause-session : goal.returns-clause-session
returns-clause-session g c =
    let session = c.args.session.now in
    let r = session.list in
    let hands = c.args.log.now.pass ∷ c.args.front.now.pass ∷ session.pass ∷ [] in
    let came = c.accept_three.ensures in
    ap (λ h. listed r h.saw) came.three ∙ gets items hands _ _ _ session.pass r came.entered (inr (inr (inl refl))) session.owns.1 (inr (inr (inl refl)))

pub returns-clause-seen : goal.returns-clause-seen
returns-clause-seen g c =
    let log = c.args.log.now in
    let front = c.args.front.now in
    let session = c.args.session.now in
    let hands = log.pass ∷ front.pass ∷ session.pass ∷ [] in
    let came = c.accept_three.ensures in (
      ap (λ h. h.saw) came.two,
      ap (λ h. h.saw) came.three,
      begins items hands _ _ _ log.pass came.entered (inl refl),
      begins items hands _ _ _ front.pass came.entered (inr (inl refl)),
      begins items hands _ _ _ session.pass came.entered (inr (inr (inl refl))),
    )
