use Rattle.std.proofs.Common.{◌≡◌, ◌≢◌, ℕ, ◌+◌, ◌<◌, ◌≤◌, ◌∙◌, [], ◌∷◌, true, false, cond, ap, refl, sym, subst, inl, inr, eq-eqb, arith}
use Rattle.std.proofs.lemmas.List.Sums.{fold-append}
use Rattle.cas_history.specs.Hands.{Owns}
use Rattle.cas_history.proofs.Parts.{gets, begins}
use Rattle.cas_history.specs.Items.{items, listed, numbers_list}
use Rattle.cas_history.specs.Last.{last_file, file_after, holds, holds_after}
use Rattle.cas_history.proofs.Once.{used_stand}
use Rattle.cas_history.proofs.numbers.Numbers.draw.Goals as goal

below : (m p : ℕ) → m < 96 → 96 ≤ p → m ≢ p
below m p low high same = omega arith

pub accept_two-requires-clause-ready : goal.accept_two-requires-clause-ready
accept_two-requires-clause-ready g c =
    let self = c.args.self.now in
    let files = c.args.files.now in
    let high = files.owns.0 in
    let last : self.last ≡ last_file (listed numbers_list self.pass.saw) = self.is_last in
    let first = inl (self.owns, (high, λ same. omega arith)) in
    let second = inr (inl (files.owns.1, (high, λ same. absurd (below numbers_list files.list (omega arith) high (sym same))))) in
    ((first, (second, tt)), tt)

pub invariant_of-self : goal.invariant_of-self
invariant_of-self g c =
    let self = c.args.self.now in
    let hands = self.pass ∷ c.args.files.now.pass ∷ [] in
    let came = c.accept_two.ensures in
    let list = gets items hands _ _ _ self.pass numbers_list came.entered (inl refl) self.owns (inl refl) in
    record {
      owns = subst (λ h. Owns h numbers_list) (sym came.one) self.owns;
      is_last = sym (ap last_file list ∙ fold-append file_after 0 (listed numbers_list self.pass.saw) (_ ∷ []));
    }

pub invariant_of-files : goal.invariant_of-files
invariant_of-files g c =
    let files = c.args.files.now in
    record { owns = (files.owns.0, subst (λ h. Owns h files.list) (sym c.accept_two.ensures.two) files.owns.1); odd = files.odd }

pub returns-clause-unused : goal.returns-clause-unused
returns-clause-unused g c was =
    let self = c.args.self.now in
    let last : self.last ≡ last_file (listed numbers_list self.pass.saw) = self.is_last in
    let le = (used_stand self.pass.saw c.stands.ensures).1 _ was in
    omega arith

pub returns-clause-list : goal.returns-clause-list
returns-clause-list g c =
    let self = c.args.self.now in
    let hands = self.pass ∷ c.args.files.now.pass ∷ [] in
    gets items hands _ _ _ self.pass numbers_list c.accept_two.ensures.entered (inl refl) self.owns (inl refl)

pub returns-clause-files : goal.returns-clause-files
returns-clause-files g c =
    let files = c.args.files.now in
    let hands = c.args.self.now.pass ∷ files.pass ∷ [] in
    let came = c.accept_two.ensures in
    (refl, ap (λ h. listed files.list h.saw) came.two ∙ gets items hands _ _ _ files.pass files.list came.entered (inr (inl refl)) files.owns.1 (inr (inl refl)))

pub returns-clause-held : goal.returns-clause-held
returns-clause-held g c =
    let file = c.args.self.now.last + 1 in
    let before = listed c.args.files.now.list c.args.files.now.pass.saw in
    ap (holds file) (returns-clause-files g c).1
    ∙ (fold-append (holds_after file) false before (_ ∷ []) ∙ ap (λ b. cond b true (holds file before)) (eq-eqb file file refl))

pub returns-clause-seen : goal.returns-clause-seen
returns-clause-seen g c =
    let self = c.args.self.now in
    let files = c.args.files.now in
    let hands = self.pass ∷ files.pass ∷ [] in
    let came = c.accept_two.ensures in
    (ap (λ h. h.saw) came.two, begins items hands _ _ _ self.pass came.entered (inl refl), begins items hands _ _ _ files.pass came.entered (inr (inl refl)))
