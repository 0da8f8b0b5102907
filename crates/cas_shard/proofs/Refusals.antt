-- What a mutation that isn't refused owes its shard.
use Rattle.std.proofs.Common.{◌≡◌, ◌≤◌, ◌/◌, ℕ, ℤ, ◌≤ℤ◌, Bool, true, false, Option, None, Some, refl, arith}
use Rattle.std.proofs.lemmas.Int.{ints}
use Rattle.std.proofs.lemmas.Bool.{ltb-false}
use Rattle.std.specs.Prelude.{if◌then◌else◌, ◌&&◌, ◌||◌, nat_lt, int_lt}
use Rattle.cas_types.specs.declared.limits.TheConstants.{LAST_DRAWN, MUTATION_LIMIT}
use Rattle.cas_atoms.specs.declared.atom.Mutation.{Mutation}
use Rattle.cas_atoms.specs.LogLength.{record_length}
use Rattle.cas_effects.specs.declared.refusal.TheConstants.{TOO_LARGE, TOO_MANY}
use Rattle.cas_shard.specs.Shards.{take_refusal}

first_false : (a : Bool) (x : ℕ) (o : Option ℕ) → (if a then Some x else o) ≡ None → a ≡ false
first_false true x o e = cc
first_false false x o e = refl

second_false : (a b : Bool) (x y : ℕ) → (if a then Some x else if b then Some y else None) ≡ None → b ≡ false
second_false true b x y e = cc
second_false false true x y e = cc
second_false false false x y e = refl

neither : (a b : Bool) → (a || b) ≡ false → (a ≡ false) × (b ≡ false)
neither true b e = cc
neither false b e = (refl, e)

not_drawn : (b : Bool) (at : ℤ) → (b && int_lt (LAST_DRAWN) at) ≡ false → b ≡ true → at ≤ℤ LAST_DRAWN
not_drawn true at e d = grind (arith, ints, e)
not_drawn false at e d = cc

pub is_few : (segment : ℕ) (m : Mutation) → take_refusal segment m ≡ None → m.number ≤ MUTATION_LIMIT
unfolding take_refusal
is_few segment m e =
    ltb-false (MUTATION_LIMIT) m.number (neither (nat_lt (MUTATION_LIMIT) m.number) (m.drawn && int_lt (LAST_DRAWN) m.at) (second_false (nat_lt (segment / 2) (record_length m)) _ TOO_LARGE TOO_MANY e)).0

pub is_low : (segment : ℕ) (m : Mutation) → take_refusal segment m ≡ None → m.drawn ≡ true → m.at ≤ℤ LAST_DRAWN
unfolding take_refusal
is_low segment m e =
    not_drawn m.drawn m.at (neither (nat_lt (MUTATION_LIMIT) m.number) (m.drawn && int_lt (LAST_DRAWN) m.at) (second_false (nat_lt (segment / 2) (record_length m)) _ TOO_LARGE TOO_MANY e)).1

pub is_short : (segment : ℕ) (m : Mutation) → take_refusal segment m ≡ None → record_length m ≤ segment / 2
unfolding take_refusal
is_short segment m e = ltb-false (segment / 2) (record_length m) (first_false (nat_lt (segment / 2) (record_length m)) TOO_LARGE _ e)
