-- Values that are told by reference.
use Rattle.std.proofs.Common.{◌≡◌, ℕ, List, [], ◌∷◌, ◌++◌, refl, ap, ◌∙◌}
use Rattle.std.specs.Borrow.{Bor}
use Rattle.cas_skips.specs.Inner.Passing.{seen}

seen_more : (ws : List (Bor (List ℕ))) (w : Bor (List ℕ)) → seen (ws ++ w ∷ []) ≡ seen ws ++ w.now ∷ []
seen_more [] w = refl
seen_more (v ∷ ws) w = ap (λ (vs : List (List ℕ)). v.now ∷ vs) (seen_more ws w)

pub seen_pushed : (ws us : List (Bor (List ℕ))) (w : Bor (List ℕ)) → us ≡ ws ++ w ∷ [] → seen us ≡ seen ws ++ w.now ∷ []
seen_pushed ws us w e = ap seen e ∙ seen_more ws w
