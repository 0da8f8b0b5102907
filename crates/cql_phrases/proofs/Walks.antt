-- One step of the walk through open brackets, as the loop makes it: `total` is what the whole walk gives.
use Rattle.std.proofs.Common.{◌≡◌, ℕ, List, [], ◌∷◌, ◌++◌, reverse, Option, None, Some, refl, sym, ap, ◌∙◌}
use Rattle.std.proofs.lemmas.List.{reverse-append}
use Rattle.cql_phrases.specs.declared.lexeme.Lexeme.{Lexeme}
use Rattle.cql_phrases.specs.declared.nested.Frame.{Frame}
use Rattle.cql_phrases.specs.declared.nested.Wants.{Wants}
use Rattle.cql_phrases.specs.declared.nested.Wants.TheVariants as wants
use Rattle.cql_phrases.specs.declared.nested.Move.TheVariants as move
use Rattle.cql_phrases.specs.Inner.TermReading.{step, walk}

pub walk_goes : (w v : Wants) (f g : Frame) (fs : List Frame) (x : Lexeme) (l : List Lexeme) → step w f x ≡ move.Go v g → walk w f fs (x ∷ l) ≡ walk v g fs l
unfolding walk
walk_goes w v f g fs x l e = rw (walk, e) refl

pub walk_opens : (w : Wants) (f g : Frame) (fs : List Frame) (x : Lexeme) (l : List Lexeme) → step w f x ≡ move.Open g → walk w f fs (x ∷ l) ≡ walk wants.First g (f ∷ fs) l
unfolding walk
walk_opens w f g fs x l e = rw (walk, e) refl

pub walk_closes : (w : Wants) (f g : Frame) (fs : List Frame) (x : Lexeme) (l : List Lexeme) (at : ℕ) → step w f x ≡ move.Close at → walk w f (g ∷ fs) (x ∷ l) ≡ walk wants.Next g fs l
unfolding walk
walk_closes w f g fs x l at e = rw (walk, e) refl

pub walk_ends : (w : Wants) (f : Frame) (x : Lexeme) (l : List Lexeme) (at : ℕ) → step w f x ≡ move.Close at → walk w f [] (x ∷ l) ≡ Some (at, l)
unfolding walk
walk_ends w f x l at e = rw (walk, e) refl

pub walk_fails : (w : Wants) (f : Frame) (fs : List Frame) (x : Lexeme) (l : List Lexeme) → step w f x ≡ move.Wrong → walk w f fs (x ∷ l) ≡ None
unfolding walk
walk_fails w f fs x l e = rw (walk, e) refl

-- ---- the loop

pub goes : (w v : Wants) (f g : Frame) (fs : List Frame) (x : Lexeme) (l rest : List Lexeme) (total : Option (ℕ × List Lexeme)) → rest ≡ x ∷ l → step w f x ≡ move.Go v g
    → walk w f fs rest ≡ total → walk v g fs l ≡ total
goes w v f g fs x l rest total r e so_far = sym (walk_goes w v f g fs x l e) ∙ ap (walk w f fs) (sym r) ∙ so_far

pub opens_one : (w : Wants) (f g : Frame) (fs around : List Frame) (x : Lexeme) (l rest : List Lexeme) (total : Option (ℕ × List Lexeme)) → rest ≡ x ∷ l → step w f x ≡ move.Open g → around ≡ fs ++ f ∷ []
    → walk w f (reverse fs) rest ≡ total → walk wants.First g (reverse around) l ≡ total
opens_one w f g fs around x l rest total r e a so_far =
    let back : reverse around ≡ f ∷ reverse fs = ap reverse a ∙ reverse-append fs (f ∷ []) in
    ap (λ (gs : List Frame). walk wants.First g gs l) back ∙ sym (walk_opens w f g (reverse fs) x l e) ∙ ap (walk w f (reverse fs)) (sym r) ∙ so_far

pub closes_one : (w : Wants) (f g : Frame) (fs around : List Frame) (x : Lexeme) (l rest : List Lexeme) (at : ℕ) (total : Option (ℕ × List Lexeme)) → rest ≡ x ∷ l → step w f x ≡ move.Close at → around ≡ fs ++ g ∷ []
    → walk w f (reverse around) rest ≡ total → walk wants.Next g (reverse fs) l ≡ total
closes_one w f g fs around x l rest at total r e a so_far =
    let back : reverse around ≡ g ∷ reverse fs = ap reverse a ∙ reverse-append fs (g ∷ []) in
    sym (walk_closes w f g (reverse fs) x l at e) ∙ ap (λ (gs : List Frame). walk w f gs (x ∷ l)) (sym back) ∙ ap (walk w f (reverse around)) (sym r) ∙ so_far

pub closes_all : (w : Wants) (f : Frame) (around : List Frame) (x : Lexeme) (l rest : List Lexeme) (at : ℕ) (total : Option (ℕ × List Lexeme)) → rest ≡ x ∷ l → step w f x ≡ move.Close at → around ≡ []
    → walk w f (reverse around) rest ≡ total → total ≡ Some (at, l)
closes_all w f around x l rest at total r e a so_far =
    sym so_far ∙ ap (walk w f (reverse around)) r ∙ ap (λ (gs : List Frame). walk w f (reverse gs) (x ∷ l)) a ∙ walk_ends w f x l at e

pub fails_here : (w : Wants) (f : Frame) (fs : List Frame) (x : Lexeme) (l rest : List Lexeme) (total : Option (ℕ × List Lexeme)) → rest ≡ x ∷ l → step w f x ≡ move.Wrong
    → walk w f fs rest ≡ total → total ≡ None
fails_here w f fs x l rest total r e so_far = sym so_far ∙ ap (walk w f fs) r ∙ walk_fails w f fs x l e

pub runs_out : (w : Wants) (f : Frame) (fs : List Frame) (rest : List Lexeme) (total : Option (ℕ × List Lexeme)) → rest ≡ []
    → walk w f fs rest ≡ total → total ≡ None
unfolding walk
runs_out w f fs rest total r so_far = sym so_far ∙ ap (walk w f fs) r
