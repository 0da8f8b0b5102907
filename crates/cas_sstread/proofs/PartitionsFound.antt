-- What is found of a key in the index of contents is what the contents have.
use Rattle.std.proofs.Common.{◌≡◌, ℕ, zero, suc, ◌+◌, ◌<◌, List, [], ◌∷◌, length, get_or, None, Some, refl, ap, subst, ◌∙◌, arith, length-append}
use Rattle.std.specs.Prelude.{slice_get}
use Rattle.std.specs.List.{Contains, flat_map}
use Rattle.cas_facts.specs.declared.facts.Facts.{Facts}
use Rattle.cas_index.specs.Searches.{HasKey}
use Rattle.cas_index.specs.declared.entries.PartitionEntry.{PartitionEntry}
use Rattle.cas_tables.specs.Spelling.{header_bytes}
use Rattle.cas_tables.specs.Contents.{Partition, Contents}
use Rattle.cas_tables.specs.Places.{head_of, blocks, text_of, block_entries, entries}
use Rattle.cas_tables.specs.Files.{index_of, index_place, table_bytes}
use Rattle.cas_tables.specs.Laws.{StandsAt, BlocksStand, PartitionsStand}
use Rattle.cas_tables.proofs.Standing.{places_are_right}
use Rattle.cas_sstread.specs.Searches.{place_or}
use Rattle.cas_sstread.specs.Laws.{StandsThere, PartitionsAreFound}
use Rattle.cas_fragments.specs.declared.heads.Version.{Version}

-- ---- one after another

-- the partition of that number, and its entry
record IsAt (version : Version) (file : List ℕ) (end place : ℕ) (ps : List Partition) (n : ℕ) (e : PartitionEntry) : Type 0 where
  partition : Partition
  one : slice_get ps n ≡ Some partition
  key_is : partition.key ≡ e.key
  text : StandsAt file e.place (text_of version partition)
  blocks_stand : BlocksStand file (blocks partition) e.blocks
  behind : place_or end (slice_get (entries version place ps) (n + 1)) ≡ e.place + length (text_of version partition)

first_place : (version : Version) (place : ℕ) (ps : List Partition) (end : ℕ) → end ≡ place + length (flat_map (text_of version) ps) → place_or end (slice_get (entries version place ps) 0) ≡ place
first_place version place [] end is = omega (arith, is)
first_place version place (p ∷ ps) end is = refl

same_entry : (a b : PartitionEntry) → Some a ≡ Some b → a ≡ b
same_entry a b e = cc

one_up : (n : ℕ) → suc n + 1 ≡ suc (n + 1)
one_up n = omega arith

at_number : (version : Version) (file : List ℕ) (end place : ℕ) (ps : List Partition) (n : ℕ) (e : PartitionEntry) → end ≡ place + length (flat_map (text_of version) ps)
    → PartitionsStand version file ps (entries version place ps) → slice_get (entries version place ps) n ≡ Some e → IsAt version file end place ps n e
at_number version file end place [] n e is stand told = absurd cc
at_number version file end place (p ∷ ps) zero e is stand told =
    let own : PartitionEntry = record { key = p.key; place = place; blocks = block_entries (place + length (head_of version p)) None (blocks p) } in
    let next : end ≡ (place + length (text_of version p)) + length (flat_map (text_of version) ps) = omega (arith, is, length-append (text_of version p) (flat_map (text_of version) ps)) in
    subst (λ (x : PartitionEntry). IsAt version file end place (p ∷ ps) 0 x) (same_entry own e told) (record {
      partition = p;
      one = refl;
      key_is = refl;
      text = stand.1;
      blocks_stand = stand.2;
      behind = first_place version (place + length (text_of version p)) ps end next;
    })
at_number version file end place (p ∷ ps) (suc n) e is stand told =
    let next : end ≡ (place + length (text_of version p)) + length (flat_map (text_of version) ps) = omega (arith, is, length-append (text_of version p) (flat_map (text_of version) ps)) in
    let other = at_number version file end (place + length (text_of version p)) ps n e next stand.3 told in
    record {
      partition = other.partition;
      one = other.one;
      key_is = other.key_is;
      text = other.text;
      blocks_stand = other.blocks_stand;
      behind = ap (λ (m : ℕ). place_or end (slice_get (entries version place (p ∷ ps)) m)) (one_up n) ∙ other.behind;
    }

found : (c : Contents) (f : Facts) (key : List ℕ) (n : ℕ) → HasKey (index_of c) key (Some n) → StandsThere c f key n
found c f key n has =
    let (e, told, same) = has in
    let is = at_number c.header.version (table_bytes c f) (index_place c) (length (header_bytes c.header)) c.partitions n e
    (length-append (header_bytes c.header) (flat_map (text_of c.header.version) c.partitions)) (places_are_right c f).partitions told in
    record {
      partition = is.partition;
      entry = e;
      one = is.one;
      told = told;
      key_is = is.key_is ∙ same;
      text = is.text;
      blocks_stand = is.blocks_stand;
      behind = is.behind;
    }

-- ---- none

-- the entry of a partition that is there
has_entry : (version : Version) (place : ℕ) (ps : List Partition) (k : ℕ) (p : Partition) → k < length ps → get_or ps k p ≡ p
    → (e : PartitionEntry) × Contains (entries version place ps) e × (e.key ≡ p.key)
has_entry version place [] k p within is = absurd (omega arith)
has_entry version place (q ∷ ps) zero p within is =
    (record { key = q.key; place = place; blocks = block_entries (place + length (head_of version q)) None (blocks q) }, (0, omega arith, refl), ap (λ (x : Partition). x.key) is)
has_entry version place (q ∷ ps) (suc k) p within is =
    let (e, there, same) = has_entry version (place + length (text_of version q)) ps k p (omega arith) is in
    (e, (suc there.0, omega (arith, there.1), there.2), same)

none : (c : Contents) (key : List ℕ) → HasKey (index_of c) key None → (p : Partition) → Contains c.partitions p → p.key ≡ key → ⊥
none c key lacks p there same =
    let (e, told, own) = has_entry c.header.version (length (header_bytes c.header)) c.partitions there.0 p there.1 there.2 in
    lacks e told (own ∙ same)

pub partitions_are_found : PartitionsAreFound
partitions_are_found = record { found = found; none = none }
