-- A partition key reads back as the values that it was made of.
use Rattle.std.proofs.Common.{◌≡◌, ℕ, ◌+◌, ◌^◌, ◌<◌, ◌≤◌, List, [], ◌∷◌, ◌++◌, length, take, drop, refl, sym, ap, ◌∙◌, append_assoc, arith}
use Rattle.std.specs.List.{AllByRecursion}
use Rattle.std.specs.Int.{w16, from_be_bytes, to_be_bytes}
use Rattle.std.proofs.lemmas.List.{take_at, drop_at, length-append}
use Rattle.std.proofs.lemmas.List.Elements.{recursion_from_All}
use Rattle.std.proofs.lemmas.Nat.{from_be_bytes-to_be_bytes_2}
use Rattle.cas_types.specs.Keys.{component, composite_key, key_of}
use Rattle.cas_types.specs.declared.limits.TheConstants.{KEY_LIMIT}
use Rattle.cas_atoms.specs.PartitionKeys.{components, key_values}
use Rattle.cas_keys.specs.KeyLaws.{KeysReadBack}

abbrev IsShort : List ℕ → Type 0
IsShort v = length v ≤ KEY_LIMIT

-- the length in front of a value is the value's
length_read : (v rest : List ℕ) → IsShort v → from_be_bytes w16 (take 2 (component v ++ rest)) ≡ length v
length_read v rest short = let small : length v < 2 ^ 16 = omega arith in from_be_bytes-to_be_bytes_2 (length v) small

value_read : (size : ℕ) (v rest : List ℕ) → size ≡ length v → take size (drop 2 (component v ++ rest)) ≡ v
value_read size v rest e = ap (take size) (append_assoc v (0 ∷ []) rest) ∙ take_at v (0 ∷ rest) size (sym e)

component_length : (size : ℕ) (v : List ℕ) → size ≡ length v → length (component v) ≡ size + 3
component_length size v e =
    length-append (to_be_bytes w16 (length v)) (v ++ 0 ∷ []) ∙ (let two : length (to_be_bytes w16 (length v)) ≡ 2 = refl in let more : length (v ++ 0 ∷ []) ≡ length v + 1 = length-append v (0 ∷ []) in omega arith)

rest_read : (size : ℕ) (v rest : List ℕ) → size ≡ length v → drop (size + 3) (component v ++ rest) ≡ rest
rest_read size v rest e = drop_at (component v) rest (size + 3) (component_length size v e)

components_back : (values : List (List ℕ)) → AllByRecursion IsShort values → components (length values) (composite_key values) ≡ values
components_back [] short = refl
components_back (v ∷ vs) short =
    let size : from_be_bytes w16 (take 2 (component v ++ composite_key vs)) ≡ length v = length_read v (composite_key vs) short.0 in
    (λ j. value_read _ v (composite_key vs) size j ∷ components (length vs) (rest_read _ v (composite_key vs) size j))
    ∙ ap (λ l. v ∷ l) (components_back vs short.1)

back : (values : List (List ℕ)) → AllByRecursion IsShort values → key_values (length values) (key_of values) ≡ values
back [] short = refl
back (v ∷ []) short = refl
back (v ∷ w ∷ vs) short = components_back (v ∷ w ∷ vs) short

pub keys_read_back : KeysReadBack
keys_read_back values short = back values (recursion_from_All IsShort values short)
