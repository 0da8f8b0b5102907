-- What a manifest says of each table in each shard: as many parts as there are of these.
use Rattle.std.proofs.Common.{◌≡◌, ◌<◌, ◌≤◌, ◌+◌, ◌*◌, ◌/◌, ◌%◌, ℕ, zero, suc, List, [], ◌∷◌, ◌++◌, length, Option, Some, refl, sym, ap, ◌∙◌, arith, length-append}
use Rattle.std.specs.Prelude.{replicate, slice_get, unwrap_or}
use Rattle.std.specs.List.{fold}
use Rattle.std.proofs.Math.Nat.{mul-le-mul_right, suc-mul}
use Rattle.std.proofs.lemmas.List.{length-map, length-replicate}
use Rattle.std.proofs.lemmas.Nat.{div-mul-add, mod-mul-add}
use Rattle.std.proofs.lemmas.Option.{slice_get_past}
use Rattle.cas_changes.specs.Allowed.{FitsEntry}
use Rattle.cas_changes.specs.Saying.{Saying, after, no_part, nothing, part_after, part_of, place_in, said_by, with_columns}
use Rattle.cas_changes.specs.declared.entry.Entry.{Entry}
use Rattle.cas_changes.specs.declared.entry.Entry.TheVariants as entry
use Rattle.cas_changes.specs.declared.said.Part.{Part}
use Rattle.cas_manifest.specs.File.{MayFollow}
use Rattle.cas_recovery.proofs.Places.{length_set}

-- ---- how many there are

-- a part of each table in each shard, and no table before there are shards
pub record HasParts (s : Saying) : Type 0 where
  pub many : length s.parts ≡ length s.tables * s.shards
  pub first : s.shards ≡ 0 → length s.tables ≡ 0

has_after : (s : Saying) (e : Entry) → FitsEntry s e → HasParts s → HasParts (after s e)
has_after s (entry.Store shards) fit has = record {
  many =
      let none : length s.parts ≡ length s.tables * 0 = has.many ∙ ap (λ (k : ℕ). length s.tables * k) fit.0 in
      let no_table : length s.tables * shards ≡ 0 * shards = ap (λ (k : ℕ). k * shards) (has.first fit.0) in
      omega (arith, none, no_table);
  first = λ e. absurd (omega (arith, e, fit.1.0));
}
has_after s (entry.Schema t) fit has = record {
  many =
      let parts : length (s.parts ++ replicate s.shards no_part) ≡ length s.parts + s.shards =
      length-append s.parts (replicate s.shards no_part) ∙ ap (λ (k : ℕ). length s.parts + k) (length-replicate s.shards no_part) in
      let tables : length (s.tables ++ t ∷ []) ≡ suc (length s.tables) = omega (arith, length-append s.tables (t ∷ [])) in
      let places : length (s.tables ++ t ∷ []) * s.shards ≡ length s.tables * s.shards + s.shards =
      ap (λ (k : ℕ). k * s.shards) tables ∙ suc-mul (length s.tables) s.shards in
      omega (arith, parts, places, has.many);
  first = λ e. absurd (omega (arith, e, fit.0));
}
has_after s (entry.NewSegment n) fit has = record { many = has.many; first = has.first }
has_after s (entry.DropSegment n) fit has = record { many = has.many; first = has.first }
has_after s (entry.Change c) fit has = record {
  many = length_set s.parts (place_in s c.table c.shard) (part_after (part_of s c.table c.shard) c) ∙ has.many;
  first = has.first;
}
has_after s (entry.AddColumns table columns) fit has =
    let same = length-map s.tables (with_columns table columns) in
    record { many = has.many ∙ ap (λ (k : ℕ). k * s.shards) (sym same); first = λ e. same ∙ has.first e }

has_all : (s : Saying) (entries : List Entry) → HasParts s → MayFollow s entries → HasParts (fold after s entries)
has_all s [] has follow = has
has_all s (e ∷ entries) has follow = has_all (after s e) entries (has_after s e follow.0.0 has) follow.1

pub has_parts : (entries : List Entry) → MayFollow nothing entries → HasParts (said_by entries)
unfolding said_by
has_parts entries follow = has_all nothing entries (record { many = refl; first = λ e. refl }) follow

pub said_few : (entries : List Entry) → MayFollow nothing entries → length (said_by entries).parts ≤ length (said_by entries).tables * (said_by entries).shards
said_few entries follow = let has = has_parts entries follow in omega (arith, has.many)

-- ---- their places

-- what is in a place that there is
pub there_at : {X : Type 0} (xs : List X) (n : ℕ) → n < length xs → (x : X) × (slice_get xs n ≡ Some x)
there_at [] n lt = absurd (omega (arith, lt))
there_at (x ∷ xs) zero lt = (x, refl)
there_at (x ∷ xs) (suc n) lt = there_at xs n (omega (arith, lt))

-- no part of a table that isn't there
pub no_more : (s : Saying) (table shard : ℕ) → length s.parts ≤ length s.tables * s.shards → length s.tables ≤ table → part_of s table shard ≡ no_part
no_more s table shard few high =
    let past : length s.tables * s.shards ≤ table * s.shards = mul-le-mul_right s.shards high in
    ap (λ (o : Option Part). unwrap_or o no_part) (slice_get_past s.parts (place_in s table shard) (omega (arith, few, past)))

-- the place of a table that is there, in a shard that is, has a part
pub is_within : (s : Saying) (table shard : ℕ) → HasParts s → table < length s.tables → shard < s.shards → place_in s table shard < length s.parts
is_within s table shard has low few =
    let next : table * s.shards + s.shards ≡ suc table * s.shards = sym (suc-mul table s.shards) in
    let past : suc table * s.shards ≤ length s.tables * s.shards = mul-le-mul_right s.shards (omega (arith, low)) in
    omega (arith, has.many, next, past, few)

-- in one place two parts are of one shard, and of one table
pub one_shard : (a b k n many : ℕ) → k < many → n < many → a * many + k ≡ b * many + n → k ≡ n
one_shard a b k n many few less same = sym (mod-mul-add a many k few) ∙ ap (λ (m : ℕ). m % many) same ∙ mod-mul-add b many n less

pub one_table : (a b k n many : ℕ) → k < many → n < many → a * many + k ≡ b * many + n → a ≡ b
one_table a b k n many few less same = sym (div-mul-add a many k few) ∙ ap (λ (m : ℕ). m / many) same ∙ div-mul-add b many n less
