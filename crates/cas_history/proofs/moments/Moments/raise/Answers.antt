use Rattle.std.proofs.Common.{ℕ, ◌<◌, ◌≤◌, ◌∙◌, [], ◌∷◌, ap, refl, sym, subst, inl, inr, arith}
use Rattle.cas_history.specs.Log.{Has}
use Rattle.cas_history.proofs.Parts.{owned, stays, gets, begins}
use Rattle.cas_history.specs.Items.{items, listed, moments_list, first_diary}
use Rattle.cas_history.specs.Last.{last_moment, moment_after}
use Rattle.std.proofs.lemmas.List.Sums.{fold-append}
use Rattle.cas_history.proofs.Rising.{moments_rise}
use Rattle.cas_history.proofs.moments.Moments.raise.Goals as goal

pub returns-then-seconds-self-clause-shown : goal.returns-then-seconds-self-clause-shown
returns-then-seconds-self-clause-shown g c =
    let self = c.args.self.now in
    let r = moments_list self.shard in
    let shown = c.look.ensures in
    let list = shown.known.0.1 r (owned items self.pass r self.owns.1) in
    subst (λ n. last_moment (listed r c.args.session.now.pass.saw) ≤ n) (sym (self.is_last ∙ ap last_moment list)) (moments_rise r _ _ shown.known.1.0.0 shown.legal)

pub returns-clause-shown : goal.returns-clause-shown
returns-clause-shown g c =
    let self = c.args.self.now in
    let r = moments_list self.shard in
    let session = c.args.session.now in
    let hands = self.pass ∷ session.pass ∷ [] in
    let came = c.accept_two.ensures in
    subst (λ n. last_moment (listed r c.args.session.now.pass.saw) ≤ n) (ap last_moment (gets items hands _ _ _ self.pass r came.entered (inl refl) self.owns.1 (inl refl)) ∙ fold-append moment_after 0 (listed r self.pass.saw) (_ ∷ []))
    (moments_rise r _ _ (begins items hands _ _ _ session.pass came.entered (inr (inl refl))) came.legal)

pub returns-clause-session : goal.returns-clause-session
returns-clause-session g c =
    let self = c.args.self.now in
    let session = c.args.session.now in (
      refl,
      refl,
      ap (λ h. listed session.list h.saw) c.accept_two.ensures.two
          ∙ stays items (self.pass ∷ session.pass ∷ []) _ _ _ session.pass session.list c.accept_two.ensures.entered (inr (inl refl)) (owned items session.pass session.list session.owns.1)
          (apart self.shard session.list self.owns.0 session.owns.0),
    )
  where
    apart : (shard list : ℕ) → shard < 16 → first_diary ≤ list → Has (moments_list shard ∷ []) list → ⊥
    apart shard list low high (inl e) = omega arith
    apart shard list low high (inr none) = none
