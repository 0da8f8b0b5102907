-- The first of several values that is too large.
use Rattle.std.proofs.Common.{◌≡◌, ℕ, ◌^◌, ◌-◌, ◌+◌, ◌<◌, nat_lt, min, Bool, true, false, cond, List, [], ◌∷◌, ◌++◌, length, drop, get_or, map, Option, None, Some, option_map, refl, sym, ap, ◌∙◌}
use Rattle.std.specs.List.{find, flat_map}
use Rattle.std.specs.Option.{option_or}
use Rattle.std.proofs.lemmas.List.{at_drop_more}
use Rattle.cas_types.specs.declared.limits.TheConstants.{KEY_LIMIT}
use Rattle.cas_effects.specs.TooLarge.{limited_values, too_large}
use Rattle.cas_effects.specs.declared.effect.Effect.{Effect}
use Rattle.cas_effects.specs.declared.refusal.Refusal.{Refusal}
use Rattle.cas_effects.specs.declared.refusal.Refusal.TheVariants.{TooLarge}

chosen : {X Y : Type 0} (f : X → Y) (b : Bool) (v : X) (o : Option X) → option_map f (cond b (Some v) o) ≡ option_or (option_map f (cond b (Some v) None)) (option_map f o)
chosen f true v o = refl
chosen f false v o = refl

or_assoc : {X : Type 0} (o p q : Option X) → option_or o (option_or p q) ≡ option_or (option_or o p) q
or_assoc None p q = refl
or_assoc (Some x) p q = refl

pub too_large_cons : (v : List ℕ) (vs : List (List ℕ)) → too_large (v ∷ vs) ≡ option_or (too_large (v ∷ [])) (too_large vs)
unfolding too_large
too_large_cons v vs = chosen (λ v. TooLarge (min (length v) (2 ^ 64 - 1)) KEY_LIMIT) (nat_lt KEY_LIMIT (length v)) v (find (λ v. nat_lt KEY_LIMIT (length v)) vs)

no_value : too_large [] ≡ None
unfolding too_large
no_value = refl

pub too_large_append : (vs ws : List (List ℕ)) → too_large (vs ++ ws) ≡ option_or (too_large vs) (too_large ws)
too_large_append [] ws = ap (λ o. option_or o (too_large ws)) (sym no_value)
too_large_append (v ∷ vs) ws =
    too_large_cons v (vs ++ ws) ∙ ap (option_or (too_large (v ∷ []))) (too_large_append vs ws)
    ∙ or_assoc (too_large (v ∷ [])) (too_large vs) (too_large ws) ∙ ap (λ o. option_or o (too_large ws)) (sym (too_large_cons v vs))

-- the values in front are small, so those behind decide
pub passes_over : (vs ws : List (List ℕ)) → too_large vs ≡ None → too_large (vs ++ ws) ≡ too_large ws
passes_over vs ws e = too_large_append vs ws ∙ ap (λ o. option_or o (too_large ws)) e

-- one of the values in front is too large
pub stops_at : (vs ws : List (List ℕ)) (r : Refusal) → too_large vs ≡ Some r → too_large (vs ++ ws) ≡ Some r
stops_at vs ws r e = too_large_append vs ws ∙ ap (λ o. option_or o (too_large ws)) e

-- ---- the paths of elements, and the effects of a write

found : {X Y : Type 0} (f : X → Y) (b : Bool) (x : X) (o : Option X) (p : Option Y) → p ≡ option_map f o → cond b (Some (f x)) p ≡ option_map f (cond b (Some x) o)
found f true x o p e = refl
found f false x o p e = e

pub find_path : (es : List (List ℕ × Option (List ℕ))) → find (λ v. nat_lt KEY_LIMIT (length v)) (map (λ e. e.0) es) ≡ option_map (λ e. e.0) (find (λ e. nat_lt KEY_LIMIT (length e.0)) es)
find_path [] = refl
find_path (e ∷ es) = found (λ e. e.0) (nat_lt KEY_LIMIT (length e.0)) e (find (λ e. nat_lt KEY_LIMIT (length e.0)) es) _ (find_path es)

-- an effect of small values leaves the decision to those behind it
pub passes_effect : (A : List Effect) (i : ℕ) (e : Effect) (all : Option Refusal) → i < length A → e ≡ get_or A i e → too_large (limited_values e) ≡ None
    → too_large (flat_map limited_values (drop i A)) ≡ all → too_large (flat_map limited_values (drop (i + 1) A)) ≡ all
passes_effect A i e all h at none before =
    sym (at_drop_more (λ es. too_large (flat_map limited_values es)) A i e h
    ∙ ap (λ x. too_large (limited_values x ++ flat_map limited_values (drop (i + 1) A))) (sym at)
    ∙ passes_over (limited_values e) (flat_map limited_values (drop (i + 1) A)) none)
    ∙ before

-- an effect with a value that is too large decides
pub stops_at_effect : (A : List Effect) (i : ℕ) (e : Effect) (r : Refusal) (all : Option Refusal) → i < length A → e ≡ get_or A i e → too_large (limited_values e) ≡ Some r
    → too_large (flat_map limited_values (drop i A)) ≡ all → Some r ≡ all
stops_at_effect A i e r all h at some before =
    sym (at_drop_more (λ es. too_large (flat_map limited_values es)) A i e h
    ∙ ap (λ x. too_large (limited_values x ++ flat_map limited_values (drop (i + 1) A))) (sym at)
    ∙ stops_at (limited_values e) (flat_map limited_values (drop (i + 1) A)) r some)
    ∙ before
