-- What a loaded index tells stands before the place where the partitions end, and a filter of its own keys denies no key that is there.
use Rattle.std.proofs.Common.{◌≡◌, ℕ, suc, zero, ◌<◌, ◌≤◌, true, false, eqb, ltb, map, List, [], ◌∷◌, length, get_or, Option, None, Some, refl, sym, ap, subst, ◌∙◌, arith}
use Rattle.std.specs.Prelude.{slice_get, IfSome}
use Rattle.std.specs.List.{AllByRecursion, Contains, last_or}
use Rattle.std.proofs.lemmas.Bool.{true≢false, and_parts, ltb-true}
use Rattle.cas_bounds.specs.declared.order.Ordered.{Ordered}
use Rattle.cas_filter.specs.Filters.{bits_for, may_hold}
use Rattle.cas_filter.specs.Laws.{IsWhole}
use Rattle.cas_filter.proofs.FilterLaws.{holds_its_keys}
use Rattle.cas_index.specs.Entries.{block_place, last_place}
use Rattle.cas_index.specs.Allowed.{Chain, IsNextBlock, IsNextPartition, AreEntries}
use Rattle.cas_index.specs.Searches.{HasKey, IsBlockFor}
use Rattle.cas_index.specs.declared.entries.BlockAt.{BlockAt}
use Rattle.cas_index.specs.declared.entries.BlockEntry.{BlockEntry}
use Rattle.cas_index.specs.declared.entries.PartitionEntry.{PartitionEntry}
use Rattle.cas_bounds.specs.declared.cuts.Slice.{Slice}
use Rattle.cas_tables.specs.declared.header.TheConstants.{HEADER_LENGTH}
use Rattle.cas_sstread.specs.Reading.{Loaded, own_place, stand_before}
use Rattle.cas_sstread.specs.Searches.{HasOwnFilter}
use Rattle.cas_sstread.specs.Inner.Within.{StandsBefore}

-- ---- places ascend

blocks_upto : (order : List Ordered) (place : ℕ) (last : Option BlockEntry) (bs : List BlockEntry) → Chain (IsNextBlock order place) last bs
    → block_place place last ≤ block_place place (last_or last bs)
blocks_upto order place last [] chain = omega arith
blocks_upto order place last (b ∷ bs) chain =
    let behind : block_place place last < b.place = chain.0.behind.0 in
    omega (arith, blocks_upto order place (Some b) bs chain.1)

blocks_before : (order : List Ordered) (place end : ℕ) (last : Option BlockEntry) (bs : List BlockEntry) → Chain (IsNextBlock order place) last bs
    → block_place place (last_or last bs) < end → AllByRecursion (λ b. b.place < end) bs
blocks_before order place end last [] chain below = tt
blocks_before order place end last (b ∷ bs) chain below =
    (omega (arith, blocks_upto order place (Some b) bs chain.1), blocks_before order place end (Some b) bs chain.1 below)

partitions_upto : (order : List Ordered) (last : Option PartitionEntry) (ps : List PartitionEntry) → Chain (IsNextPartition order) last ps
    → last_place last ≤ last_place (last_or last ps)
partitions_upto order last [] chain = omega arith
partitions_upto order last (p ∷ ps) chain =
    let behind : last_place last < p.place = chain.0.behind.0 in
    omega (arith, blocks_upto order p.place None p.blocks chain.0.blocks, partitions_upto order (Some p) ps chain.1)

partitions_before : (order : List Ordered) (end : ℕ) (last : Option PartitionEntry) (ps : List PartitionEntry) → Chain (IsNextPartition order) last ps
    → last_place (last_or last ps) < end → AllByRecursion (StandsBefore end) ps
partitions_before order end last [] chain below = tt
partitions_before order end last (p ∷ ps) chain below =
    let own : last_place (Some p) < end = omega (arith, partitions_upto order (Some p) ps chain.1) in (
      record {
        place = omega (arith, blocks_upto order p.place None p.blocks chain.0.blocks);
        blocks = blocks_before order p.place end None p.blocks chain.0.blocks own;
      },
      partitions_before order end (Some p) ps chain.1 below,
    )

pub all_before : (order : List Ordered) (end : ℕ) (ps : List PartitionEntry) → AreEntries order ps → stand_before end ps ≡ true → AllByRecursion (StandsBefore end) ps
unfolding stand_before
all_before order end ps entries stand =
    let p = and_parts (eqb (own_place (slice_get ps 0)) HEADER_LENGTH) (ltb (last_place (last_or None ps)) end) stand in
    partitions_before order end None ps entries.each (ltb-true (last_place (last_or None ps)) end p.1)

-- one of them
at_number : {X : Type 0} (P : X → Type 0) (xs : List X) (n : ℕ) (x : X) → AllByRecursion P xs → slice_get xs n ≡ Some x → P x
at_number P [] n x all is = absurd cc
at_number P (y ∷ ys) zero x all is = subst P (same is) all.0
  where
    same : Some y ≡ Some x → y ≡ x
    same e = cc
at_number P (y ∷ ys) (suc n) x all is = at_number P ys n x all.1 is

-- the block that a read begins with
block_before : (s : Slice) (end : ℕ) (p : PartitionEntry) (at : BlockAt) → StandsBefore end p → IsBlockFor s p.blocks (Some at) → at.place < end
block_before s end p at before found =
    let (b, is, place, force) = found.1 in
    let own : b.place < end = at_number (λ (x : BlockEntry). x.place < end) p.blocks at.number b before.blocks is in
    omega arith

-- ---- a filter

is_whole : (n : ℕ) → IsWhole (bits_for n)
is_whole n = (omega arith, omega arith)

has_mapped : (ps : List PartitionEntry) (k : ℕ) (p : PartitionEntry) (d : List ℕ) → k < length ps → get_or ps k p ≡ p → get_or (map (λ p. p.key) ps) k d ≡ p.key
has_mapped [] k p d within is = absurd (omega arith)
has_mapped (q ∷ ps) zero p d within is = ap (λ (x : PartitionEntry). x.key) is
has_mapped (q ∷ ps) (suc k) p d within is = has_mapped ps k p d (omega arith) is

mapped_long : (ps : List PartitionEntry) → length (map (λ p. p.key) ps) ≡ length ps
mapped_long [] = refl
mapped_long (p ∷ ps) = ap (λ (n : ℕ). suc n) (mapped_long ps)

has_key : (ps : List PartitionEntry) (p : PartitionEntry) → Contains ps p → Contains (map (λ p. p.key) ps) p.key
has_key ps p there = (there.0, omega (arith, there.1, mapped_long ps), has_mapped ps there.0 p p.key there.1 there.2)

-- what a filter of its own keys denies isn't there
pub denied : (k : Loaded) (key : List ℕ) → HasOwnFilter k → may_hold k.filter key ≡ false → HasKey k.partitions key None
denied k key own denies = λ p there same.
    let keys : List (List ℕ) = map (λ p. p.key) k.partitions in
    let has : Contains keys key = subst (λ (x : List ℕ). Contains keys x) same (has_key k.partitions p there) in
    true≢false (sym (holds_its_keys (bits_for (length k.partitions)) keys key (is_whole (length k.partitions)) has)
    ∙ ap (λ (f : List ℕ). may_hold f key) (sym own) ∙ denies)

pub within_for : (s : Slice) (end : ℕ) (ps : List PartitionEntry) (n : ℕ) (answer : Option BlockAt) → n < length ps → AllByRecursion (StandsBefore end) ps
    → ((p : PartitionEntry) → slice_get ps n ≡ Some p → IsBlockFor s p.blocks answer) → IfSome answer (λ at. at.place < end)
within_for s end [] n answer there all found = absurd (omega arith)
within_for s end (p ∷ ps) zero None there all found = tt
within_for s end (p ∷ ps) zero (Some at) there all found = block_before s end p at all.0 (found p refl)
within_for s end (p ∷ ps) (suc n) answer there all found = within_for s end ps n answer (omega arith) all.1 found
