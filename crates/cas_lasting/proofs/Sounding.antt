-- An open store is sound where one part of it has changed.
use Rattle.std.proofs.Common.{◌≡◌, ℕ, List, map, length, Some, sym, ap, ◌∙◌, subst}
use Rattle.std.specs.Prelude.{slice_get, slice_set}
use Rattle.cas_types.specs.declared.schema.TableSchema.{TableSchema}
use Rattle.cas_bind.specs.Tables.{AreTables}
use Rattle.cas_bind.specs.declared.bound.Limits.{Limits}
use Rattle.cas_shard.specs.Stands.{ShardState}
use Rattle.cas_lasting.specs.Inner.Sound.{IsSound}
use Rattle.cas_recovery.proofs.Places.{length_set, map_set, map_set_same}

-- a shard is in another state, with the same last number
pub sound_looked : (l : Limits) (ts : List TableSchema) (xs : List ShardState) (ps cs : List ℕ) (a n : ℕ) (x y : ShardState) → IsSound l ts xs ps cs a → slice_get xs n ≡ Some x
    → y.number ≡ x.number → IsSound l ts (slice_set xs n y) ps cs a
sound_looked l ts xs ps cs a n x y sound there number = record {
  tables = sound.tables;
  count = length_set xs n y ∙ sound.count;
  some = sound.some;
  size = sound.size;
  places = sound.places;
  numbers = sound.numbers ∙ sym (map_set_same (λ (z : ShardState). z.number) xs n x y there number);
}

-- a shard is in another state, and its seat has its last number
pub sound_with : {X : Type 0} (place count : X → ℕ) (l : Limits) (ts : List TableSchema) (xs ys : List ShardState) (a b n : ℕ) (fs : List X) (f g : X) (z : ShardState)
    → IsSound l ts xs (map place fs) (map count fs) a → slice_get fs n ≡ Some f → place g ≡ place f → count g ≡ z.number → ys ≡ slice_set xs n z → b ≡ a
    → IsSound l ts ys (map place (slice_set fs n g)) (map count (slice_set fs n g)) b
sound_with place count l ts xs ys a b n fs f g z sound at_f same_place its_number shards size = record {
  tables = sound.tables;
  count = ap length shards ∙ length_set xs n z ∙ sound.count;
  some = sound.some;
  size = (size ∙ sound.size.0, sound.size.1);
  places = map_set_same place fs n f g at_f same_place ∙ sound.places;
  numbers =
      map_set count fs n g ∙ ap (λ ns. slice_set ns n (count g)) sound.numbers
      ∙ ap (λ (k : ℕ). slice_set (map (λ (q : ShardState). q.number) xs) n k) its_number ∙ sym (map_set (λ (q : ShardState). q.number) xs n z)
      ∙ ap (map (λ (q : ShardState). q.number)) (sym shards);
}

-- there are other tables
pub sound_told : (l : Limits) (ts us : List TableSchema) (xs : List ShardState) (ps cs : List ℕ) (a b : ℕ) → IsSound l ts xs ps cs a → b ≡ a → AreTables us
    → IsSound l us xs ps cs b
sound_told l ts us xs ps cs a b sound size tables = record {
  tables = tables;
  count = sound.count;
  some = sound.some;
  size = (size ∙ sound.size.0, sound.size.1);
  places = sound.places;
  numbers = sound.numbers;
}

-- the same tables in a list that got a place more
pub sound_reserved : (l : Limits) (ts us : List TableSchema) (xs : List ShardState) (ps cs : List ℕ) (a : ℕ) → IsSound l ts xs ps cs a → us ≡ ts → IsSound l us xs ps cs a
sound_reserved l ts us xs ps cs a sound same = subst (λ vs. IsSound l vs xs ps cs a) (sym same) sound
