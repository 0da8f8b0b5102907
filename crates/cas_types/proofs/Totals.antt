-- Totals of a longer front of a list.
use Rattle.std.proofs.Common.{◌≡◌, ℕ, ◌+◌, ◌-◌, ◌^◌, ◌<◌, ◌≤◌, List, [], ◌∷◌, ◌++◌, length, take, get_or, min, sym, ap, ◌∙◌, arith}
use Rattle.std.specs.List.{flat_map}
use Rattle.std.proofs.lemmas.List.{take_more, flat_map_more}
use Rattle.std.proofs.lemmas.Grind.{common_steps}
use Rattle.std.proofs.Math.ListN.{length-append}
use Rattle.std.proofs.lemmas.List.Folds.{length-flat_map-take}
use Rattle.cas_types.specs.Keys.{component, composite_key}

pub composite_more : (vs : List (List ℕ)) (i : ℕ) (v : List ℕ) → i < length vs → v ≡ get_or vs i v → composite_key (take (i + 1) vs) ≡ composite_key (take i vs) ++ component v
composite_more vs i v h e =
    ap (flat_map component) (take_more vs i v h ∙ ap (λ z. take i vs ++ z ∷ []) (sym e))
    ∙ sym (flat_map_more component [] (take i vs) v)

pub component_length : (v : List ℕ) → length (component v) ≡ length v + 3
component_length v = grind (arith, common_steps)

pub component_fits : (vs : List (List ℕ)) (i : ℕ) (v : List ℕ) → i < length vs → v ≡ get_or vs i v → length (composite_key vs) ≤ 65535 → length v ≤ 65535
component_fits vs i v h e fits =
    let part = length-flat_map-take component vs i v h in
    let same = ap (λ z. length (component z)) e in
    let own = component_length v in
    omega arith

-- one turn of the sum of the components' lengths, which stands at the greatest number of the type
pub length_more : (vs : List (List ℕ)) (i : ℕ) (v w : List ℕ) (total next : ℕ) → i < length vs → v ≡ get_or vs i v → w ≡ v → total ≡ min (length (composite_key (take i vs))) (2 ^ 64 - 1) → next ≡ min (total + (length w + 3)) (2 ^ 64 - 1) → next ≡ min (length (composite_key (take (i + 1) vs))) (2 ^ 64 - 1)
length_more vs i v w total next h e same before after =
    let grown = ap length (composite_more vs i v h e) ∙ length-append (composite_key (take i vs)) (component v) in
    let own = component_length v in
    let as_given = ap length same in
    omega arith

-- one turn of the encoding
pub encode_more : (vs : List (List ℕ)) (i : ℕ) (v w key next : List ℕ) → i < length vs → v ≡ get_or vs i v → w ≡ v → key ≡ composite_key (take i vs) → next ≡ key ++ component w → next ≡ composite_key (take (i + 1) vs)
encode_more vs i v w key next h e same before after =
    after ∙ (λ j. before j ++ component (same j)) ∙ sym (composite_more vs i v h e)
