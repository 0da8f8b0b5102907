-- What filter and index tell of a key, and what a list has.
use Rattle.std.proofs.Common.{◌≡◌, ℕ, zero, suc, ◌<◌, Bool, true, false, Option, None, Some, List, [], ◌∷◌, length, get_or, refl, arith}
use Rattle.std.specs.Prelude.{slice_get}
use Rattle.std.specs.List.{Contains}
use Rattle.cas_filter.specs.Filters.{may_hold}
use Rattle.cas_index.specs.Searches.{HasKey}
use Rattle.cas_sstread.specs.Reading.{Loaded}
use Rattle.cas_sstread.specs.Searches.{HasOwnFilter, IsFound}
use Rattle.cas_sstread.proofs.Within.{denied}

-- ---- items of a list

some_same : {X : Type 0} (o : Option X) (x y : X) → o ≡ Some x → o ≡ Some y → x ≡ y
some_same o x y a b = cc

one_long : {X : Type 0} (xs : List X) (n : ℕ) (x : X) → slice_get xs n ≡ Some x → n < length xs
one_long [] n x is = absurd cc
one_long (y ∷ ys) zero x is = omega arith
one_long (y ∷ ys) (suc n) x is = omega (arith, one_long ys n x is)

one_is : {X : Type 0} (xs : List X) (n : ℕ) (x : X) → slice_get xs n ≡ Some x → get_or xs n x ≡ x
one_is [] n x is = absurd cc
one_is (y ∷ ys) zero x is = some_same (Some y) y x refl is
one_is (y ∷ ys) (suc n) x is = one_is ys n x is

pub is_among : {X : Type 0} (xs : List X) (n : ℕ) (x : X) → slice_get xs n ≡ Some x → Contains xs x
is_among xs n x is = (n, one_long xs n x is, one_is xs n x is)

-- ---- what is told

-- where nothing is found, and the filter is that of the keys, the index has none
none_by : (k : Loaded) (key : List ℕ) → HasOwnFilter k → IsFound k key None → (b : Bool) → may_hold k.filter key ≡ b → HasKey k.partitions key None
none_by k key own found true holds = found.asked holds
none_by k key own found false holds = denied k key own holds

pub has_none : (k : Loaded) (key : List ℕ) → HasOwnFilter k → IsFound k key None → HasKey k.partitions key None
has_none k key own found = none_by k key own found (may_hold k.filter key) refl
