-- How long the parts of an index are.
use Rattle.std.proofs.Common.{◌≡◌, ℕ, zero, suc, ◌+◌, ◌≤◌, List, [], ◌∷◌, ◌++◌, length, take, true, false, None, Some, Result, Ok, Err, refl, sym, ap, ◌∙◌, arith}
use Rattle.std.specs.Prelude.{OnErr}
use Rattle.std.specs.List.{flat_map}
use Rattle.std.proofs.lemmas.List.{length-append, take_at}
use Rattle.cas_codec.specs.Fields.{u32, u64, bytes16, flag, maybe}
use Rattle.cas_codec.proofs.FieldLengths.{u32_long, u64_long, flag_long, bytes16_long}
use Rattle.cas_cell.specs.declared.deletion.Deletion.{Deletion}
use Rattle.cas_atoms.specs.LogLength.{cut_length}
use Rattle.cas_records.specs.Spelling.{deletion_bytes, cut_bytes}
use Rattle.cas_records.proofs.CellLaws.{deletion_long}
use Rattle.cas_records.proofs.BoundLaws.{cut_long}
use Rattle.cas_index.specs.declared.entries.BlockEntry.{BlockEntry}
use Rattle.cas_index.specs.declared.entries.PartitionEntry.{PartitionEntry}
use Rattle.cas_index.specs.Spelling.{block_bytes, head_bytes, partition_bytes, index_bytes}

pub none_long : length (maybe deletion_bytes None) ≡ 1
none_long = flag_long false

pub some_long : (d : Deletion) → length (maybe deletion_bytes (Some d)) ≡ 17
some_long d = omega (arith, length-append (flag true) (deletion_bytes d), flag_long true, deletion_long d)

pub block_long : (b : BlockEntry) → length (block_bytes b) ≡ cut_length b.cut + (8 + length (maybe deletion_bytes b.in_force))
block_long b =
    omega (
      arith,
      length-append (cut_bytes b.cut) (u64 b.place ++ maybe deletion_bytes b.in_force),
      length-append (u64 b.place) (maybe deletion_bytes b.in_force),
      cut_long b.cut,
      u64_long b.place,
    )

pub head_long : (p : PartitionEntry) → length (head_bytes p) ≡ 2 + length p.key + 12
head_long p =
    omega (
      arith,
      length-append (bytes16 p.key) (u64 p.place ++ u32 (length p.blocks)),
      length-append (u64 p.place) (u32 (length p.blocks)),
      bytes16_long p.key,
      u64_long p.place,
      u32_long (length p.blocks),
    )

-- its blocks come behind that
pub partition_long : (p : PartitionEntry) → 2 + length p.key + 12 ≤ length (partition_bytes p)
partition_long p = omega (arith, length-append (head_bytes p) (flat_map block_bytes p.blocks), head_long p)

pub index_long : (ps : List PartitionEntry) → 4 ≤ length (index_bytes ps)
index_long ps = omega (arith, length-append (u32 (length ps)) (flat_map partition_bytes ps), u32_long (length ps))

-- ---- what was there stays where it was

take_take_le : (a b : ℕ) (xs : List ℕ) → a ≤ b → take a (take b xs) ≡ take a xs
take_take_le zero b xs low = refl
take_take_le (suc a) zero xs low = absurd (omega arith)
take_take_le (suc a) (suc b) [] low = refl
take_take_le (suc a) (suc b) (x ∷ xs) low = ap (λ (t : List ℕ). x ∷ t) (take_take_le a b xs (omega arith))

-- what is kept of more is kept of less
pub kept_of : (a b : ℕ) (new mid old more : List ℕ) → take b new ≡ mid → mid ≡ old ++ more → length old ≡ a → a ≤ b → take a new ≡ old
kept_of a b new mid old more kept is long low =
    sym (take_take_le a b new low) ∙ ap (λ (t : List ℕ). take a t) (kept ∙ is) ∙ take_at old more a long

pub on_err : {A E : Type 0} (r : Result A E) (P Q : Type 0) → (P → Q) → OnErr r P → OnErr r Q
on_err (Ok x) P Q so p = tt
on_err (Err e) P Q so p = so p

pub on_any : {A E : Type 0} (r : Result A E) (P : Type 0) → P → OnErr r P
on_any (Ok x) P p = tt
on_any (Err e) P p = p
