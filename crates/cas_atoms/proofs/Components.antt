-- One more component of a key.
use Rattle.std.proofs.Common.{◌≡◌, ℕ, suc, ◌+◌, ◌-◌, ◌<◌, List, [], ◌∷◌, ◌++◌, take, drop, sym, ap, ◌∙◌, arith, append_assoc}
use Rattle.std.specs.Int.{w16, from_be_bytes}
use Rattle.cas_atoms.specs.PartitionKeys.{components}

pub component_step : (count i size : ℕ) (key rest behind value copy next : List ℕ) (before after : List (List ℕ)) → i < count
    → size ≡ from_be_bytes w16 (take 2 rest) → behind ≡ drop 2 rest → value ≡ take size behind → copy ≡ value → next ≡ drop (size + 3) rest
    → after ≡ before ++ copy ∷ [] → before ++ components (count - i) rest ≡ components count key
    → after ++ components (count - (i + 1)) next ≡ components count key
component_step count i size key rest behind value copy next before after h sized from valued copied dropped pushed e =
    let n = count - (i + 1) in
    let one_more : count - i ≡ suc n = omega arith in
    let shown : copy ∷ components n next ≡ components (suc n) rest = (λ j. copied j ∷ components n (dropped j)) ∙ (λ j. valued j ∷ components n (drop (size + 3) rest)) ∙ (λ j. take size (from j) ∷ components n (drop (size + 3) rest)) ∙ (λ j. take (sized j) (drop 2 rest) ∷ components n (drop (sized j + 3) rest)) in
    ap (λ xs. xs ++ components n next) pushed ∙ append_assoc before (copy ∷ []) (components n next) ∙ ap (λ xs. before ++ xs) (shown ∙ ap (λ m. components m rest) (sym one_more)) ∙ e
