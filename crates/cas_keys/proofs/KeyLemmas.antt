-- A key that is too long is refused as such.
use Rattle.std.proofs.Common.{◌≡◌, ℕ, ◌^◌, ◌-◌, ◌==◌, nat_lt, min, Bool, true, false, cond, List, [], ◌∷◌, length, Option, None, Some, Result, Ok, Err, IfErr, option_map, refl, sym, eqb-true, arith}
use Rattle.std.specs.List.{find}
use Rattle.cas_types.specs.Keys.{key_fault}
use Rattle.cas_types.specs.declared.key.KeyFault.{KeyFault}
use Rattle.cas_types.specs.declared.key.KeyFault.TheVariants.{Empty, TooLong, Mem}
use Rattle.cas_types.specs.declared.schema.Column.{Column}
use Rattle.cas_effects.specs.TooLarge.{too_large}
use Rattle.cas_effects.specs.declared.refusal.Refusal.{Refusal}
use Rattle.cas_effects.specs.declared.refusal.Refusal.TheVariants.{TooLarge}
use Rattle.cas_keys.specs.Keys.{sole_column}

told : (m n : ℕ) (key : List ℕ) (rest : Option (List ℕ)) (f : List ℕ → Refusal) (b c : Bool) → f key ≡ TooLarge m 65535
    → cond b (Some Empty) (cond c (Some (TooLong m)) None) ≡ Some (TooLong n) → option_map f (cond c (Some key) rest) ≡ Some (TooLarge n 65535)
told m n key rest f true c is e = cc
told m n key rest f false true is e = cc
told m n key rest f false false is e = cc

as_refused : (key : List ℕ) (n : ℕ) (others : List (List ℕ)) → key_fault key ≡ Some (TooLong n) → too_large (key ∷ others) ≡ Some (TooLarge n 65535)
unfolding too_large
as_refused key n others e =
    told (min (length key) (2 ^ 64 - 1)) n key (find (λ v. nat_lt 65535 (length v)) others) (λ v. TooLarge (min (length v) (2 ^ 64 - 1)) 65535) (length key == 0) (nat_lt 65535 (length key)) refl e

is_long : {X : Type 0} (r : Option KeyFault) (n : ℕ) (result : Result X KeyFault) → result ≡ Err (TooLong n) → ((f : KeyFault) → r ≡ Some f → result ≡ Err f) → (r ≡ None → IfErr result (λ f. f ≡ Mem)) → r ≡ Some (TooLong n)
is_long None n (Ok x) is refused memory = cc
is_long None n (Err f) is refused memory = let same : f ≡ Mem = memory refl in cc
is_long (Some f) n result is refused memory = let same : result ≡ Err f = refused f refl in cc

pub too_long : {X : Type 0} (key : List ℕ) (n : ℕ) (result : Result X KeyFault) → result ≡ Err (TooLong n) → ((f : KeyFault) → key_fault key ≡ Some f → result ≡ Err f) → (key_fault key ≡ None → IfErr result (λ f. f ≡ Mem))
    → (others : List (List ℕ)) → too_large (key ∷ others) ≡ Some (TooLarge n 65535)
too_long key n result is refused memory others = as_refused key n others (is_long (key_fault key) n result is refused memory)

first_told : (f : List ℕ → Refusal) (key : List ℕ) (rest : Option (List ℕ)) (r : Refusal) (b : Bool) → option_map f (cond b (Some key) None) ≡ Some r → option_map f (cond b (Some key) rest) ≡ Some r
first_told f key rest r true e = e
first_told f key rest r false e = cc

-- a value that is too large alone is the first of those that are too large
pub first_too_large : (key : List ℕ) (r : Refusal) → too_large (key ∷ []) ≡ Some r → (others : List (List ℕ)) → too_large (key ∷ others) ≡ Some r
unfolding too_large
first_too_large key r e others = first_told _ key (find (λ v. nat_lt 65535 (length v)) others) r (nat_lt 65535 (length key)) e

-- ---- the only column of a partition key

only_one : (b : Bool) (n : ℕ) (c d : Column) (cs : List Column) → b ≡ (length cs == n) → n ≡ 0 → cond b (Some c) None ≡ Some d → c ∷ cs ≡ d ∷ []
only_one true n c d [] is zero_is e = cc
only_one true n c d (x ∷ xs) is zero_is e = let none : length (x ∷ xs) ≡ n = eqb-true (length (x ∷ xs)) n (sym is) in absurd (omega arith)
only_one false n c d cs is zero_is e = cc

-- it is all of the partition key
pub sole_is : (cs : List Column) (d : Column) → sole_column cs ≡ Some d → cs ≡ d ∷ []
unfolding sole_column
sole_is [] d e = cc
sole_is (c ∷ cs) d e = only_one (length cs == 0) 0 c d cs refl refl e
