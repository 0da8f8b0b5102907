-- How long a table file is, by its partitions.
use Rattle.std.proofs.Common.{◌≡◌, ℕ, ◌+◌, ◌*◌, ◌≤◌, Option, None, Some, List, [], ◌∷◌, ◌++◌, length, map, refl, arith, length-append}
use Rattle.std.proofs.lemmas.List.Sums.{sum_by-cons}
use Rattle.std.specs.List.{AllByRecursion, flat_map, sum_by}
use Rattle.cas_types.specs.declared.limits.TheConstants.{KEY_LIMIT}
use Rattle.cas_cell.specs.declared.deletion.Deletion.{Deletion}
use Rattle.cas_atoms.specs.Fits.{FitsKey}
use Rattle.cas_atoms.specs.LogLength.{cut_length}
use Rattle.cas_atoms.specs.declared.atom.Atom.TheVariants.{PartitionDeletion}
use Rattle.cas_codec.specs.Fields.{u8, u32, u64, i64, bytes16, maybe}
use Rattle.cas_codec.proofs.FieldLengths.{u8_long, u32_long, u64_long, i64_long, bytes16_long, maybe_long}
use Rattle.cas_records.specs.Spelling.{deletion_bytes}
use Rattle.cas_facts.specs.declared.facts.Facts.{Facts}
use Rattle.cas_filter.proofs.FilterLaws.{length_of}
use Rattle.cas_filter.specs.Filters.{bits_for}
use Rattle.cas_filter.specs.Spelling.{filter_bytes}
use Rattle.cas_fragments.specs.Blocks.{behind_statics}
use Rattle.cas_fragments.specs.Spelling.{block_bytes}
use Rattle.cas_fragments.specs.declared.heads.Version.{Version}
use Rattle.cas_index.specs.Spelling.{index_bytes, block_bytes as entry_bytes, partition_bytes as place_bytes, head_bytes as place_head}
use Rattle.cas_index.specs.declared.entries.BlockEntry.{BlockEntry}
use Rattle.cas_index.specs.declared.entries.PartitionEntry.{PartitionEntry}
use Rattle.cas_index.specs.declared.footer.TheConstants.{FOOTER_LENGTH}
use Rattle.cas_index.proofs.Lengths.{block_long, head_long, none_long, some_long}
use Rattle.cas_info.specs.Spelling.{sizes_bytes, range_bytes, times_bytes, rest_bytes, info_bytes}
use Rattle.cas_info.specs.declared.info.TableInfo.{TableInfo}
use Rattle.cas_streams.specs.Flat.{atom_of, changes, at_end}
use Rattle.cas_streams.specs.Streams.{IsThere}
use Rattle.cas_streams.specs.declared.fragment.Fragment.{Fragment}
use Rattle.cas_streams.specs.declared.fragment.Fragment.TheVariants as fragment
use Rattle.cas_tables.specs.Contents.{Contents, Partition, keys}
use Rattle.cas_tables.specs.Files.{front_bytes, index_of, key_filter, first_key, last_key, info_of, table_bytes}
use Rattle.cas_tables.specs.Places.{blocks, block_entries, entries, first_cut, head_of, text_of}
use Rattle.cas_tables.specs.Spelling.{header_bytes}
use Rattle.cas_tables.specs.declared.header.TheConstants.{HEADER_LENGTH}
use Rattle.cas_tables.proofs.Lengths.{header_long, parts_long}
use Rattle.cas_sizes.proofs.Answered.{weight}
use Rattle.cas_sizes.proofs.Blocks.{blocks_cost, head_and_rest, partition_small}
use Rattle.cas_sizes.proofs.Shapes.{size}

-- ---- the index

abbrev entry_size : List Fragment → ℕ
entry_size [] = 0
entry_size (f ∷ fs) = 25 + cut_length (first_cut f)

entry_small : (b : BlockEntry) → length (entry_bytes b) ≤ 25 + cut_length b.cut
entry_small b = omega (arith, block_long b, by b.in_force)
  where
    by : (d : Option Deletion) → length (maybe deletion_bytes d) ≤ 17
    by None = omega (arith, none_long)
    by (Some d) = omega (arith, some_long d)

entries_small : (place : ℕ) (now : Option Deletion) (bs : List (List Fragment))
    → length (flat_map entry_bytes (block_entries place now bs)) ≤ sum_by entry_size bs
entries_small place now [] = omega arith
entries_small place now ([] ∷ bs) = omega (arith, sum_by-cons entry_size [] bs, entries_small place now bs)
entries_small place now ((f ∷ fs) ∷ bs) =
    let entry : BlockEntry = record { cut = first_cut f; place = place; in_force = now } in
    let next : ℕ = place + length (block_bytes (f ∷ fs)) in
    let force : Option Deletion = at_end now (changes (f ∷ fs)) in
    omega (
      arith,
      length-append (entry_bytes entry) (flat_map entry_bytes (block_entries next force bs)),
      entry_small entry,
      sum_by-cons entry_size (f ∷ fs) bs,
      entries_small next force bs,
    )

abbrev many : Fragment → ℕ
many f = 14 * size f

many_all : (fs : List Fragment) → sum_by many fs ≡ 14 * sum_by size fs
many_all [] = refl
many_all (f ∷ fs) = omega (arith, sum_by-cons many f fs, sum_by-cons size f fs, many_all fs)

first_small : (f : Fragment) → 25 + cut_length (first_cut f) ≤ 14 * size f
first_small (fragment.Static cs) = omega arith
first_small (fragment.Row r) = omega arith
first_small (fragment.Marker cut d) = omega arith

entry_within : (b : List Fragment) → IsThere b → entry_size b ≤ sum_by many b
entry_within [] there = absurd there
entry_within (f ∷ fs) there = omega (arith, sum_by-cons many f fs, first_small f)

-- ---- partitions

-- how long fragments are, and the deletion of the whole
abbrev pub taken : Partition → ℕ
taken p = sum_by weight (atom_of PartitionDeletion p.stream.top) + sum_by size p.stream.fragments

-- a partition, and its entry
abbrev pub cost : Partition → ℕ
cost p = 2 * length p.key + 23 + 17 * taken p

place_small : (p : Partition) (place now : ℕ)
    → length (place_bytes (record { key = p.key; place = place; blocks = block_entries now None (blocks p) }))
    ≤ length p.key + 14 + 14 * sum_by size p.stream.fragments
place_small p place now =
    let e : PartitionEntry = record { key = p.key; place = place; blocks = block_entries now None (blocks p) } in
    let behind : List Fragment = behind_statics p.stream.fragments in
    omega (
      arith,
      length-append (place_head e) (flat_map entry_bytes e.blocks),
      head_long e,
      entries_small now None (blocks p),
      blocks_cost entry_size many entry_within [] behind,
      many_all behind,
      head_and_rest p.stream.fragments,
    )

partitions_small : (version : Version) (place : ℕ) (ps : List Partition)
    → length (flat_map (text_of version) ps) + length (flat_map place_bytes (entries version place ps)) ≤ sum_by cost ps
partitions_small version place [] = omega arith
partitions_small version place (p ∷ ps) =
    let next : ℕ = place + length (text_of version p) in
    let now : ℕ = place + length (head_of version p) in
    let entry : PartitionEntry = record { key = p.key; place = place; blocks = block_entries now None (blocks p) } in
    omega (
      arith,
      length-append (text_of version p) (flat_map (text_of version) ps),
      length-append (place_bytes entry) (flat_map place_bytes (entries version next ps)),
      partition_small version p.key p.stream.top p.stream.fragments,
      place_small p place now,
      sum_by-cons cost p ps,
      partitions_small version next ps,
    )

pub front_and_index : (c : Contents) → length (front_bytes c) + length (index_bytes (index_of c)) ≤ 25 + sum_by cost c.partitions
front_and_index c =
    let start : ℕ = length (header_bytes c.header) in
    let limit : HEADER_LENGTH ≡ 21 = refl in
    omega (
      arith,
      length-append (header_bytes c.header) (flat_map (text_of c.header.version) c.partitions),
      length-append (u32 (length (index_of c))) (flat_map place_bytes (index_of c)),
      header_long c.header,
      limit,
      u32_long (length (index_of c)),
      partitions_small c.header.version start c.partitions,
    )

-- ---- the filter, and what is told

filter_small : (c : Contents) → length (filter_bytes (key_filter c)) ≤ 14 + 2 * length c.partitions
filter_small c =
    let n : ℕ = length c.partitions in
    let bits : ℕ = bits_for n in
    let most : bits ≤ 64 + 10 * n + 7 = omega arith in
    omega (
      arith,
      length-append (u32 (8 * length (key_filter c))) (key_filter c),
      u32_long (8 * length (key_filter c)),
      length_of bits (keys c),
      most,
    )

first_short : (ps : List Partition) → AllByRecursion (λ p. FitsKey p.key) ps → length (first_key (map (λ p. p.key) ps)) ≤ KEY_LIMIT
first_short [] fit = omega arith
first_short (p ∷ ps) fit = fit.0.1

last_short : (ps : List Partition) → AllByRecursion (λ p. FitsKey p.key) ps → length (last_key (map (λ p. p.key) ps)) ≤ KEY_LIMIT
last_short [] fit = omega arith
last_short (p ∷ []) fit = fit.0.1
last_short (p ∷ q ∷ ps) fit = last_short (q ∷ ps) fit.1

info_small : (i : TableInfo) → length (info_bytes i) ≤ 50 + length i.first + length i.last
info_small i =
    omega (
      arith,
      length-append (sizes_bytes i.number i.bytes) (range_bytes i.first i.last ++ (times_bytes i.least i.greatest i.dead ++ rest_bytes i.level i.keys)),
      length-append (u64 i.number) (u64 i.bytes),
      u64_long i.number,
      u64_long i.bytes,
      length-append (range_bytes i.first i.last) (times_bytes i.least i.greatest i.dead ++ rest_bytes i.level i.keys),
      length-append (bytes16 i.first) (bytes16 i.last),
      bytes16_long i.first,
      bytes16_long i.last,
      length-append (times_bytes i.least i.greatest i.dead) (rest_bytes i.level i.keys),
      length-append (i64 i.least) (i64 i.greatest ++ maybe i64 i.dead),
      length-append (i64 i.greatest) (maybe i64 i.dead),
      i64_long i.least,
      i64_long i.greatest,
      maybe_long i.dead,
      length-append (u8 i.level) (u32 i.keys),
      u8_long i.level,
      u32_long i.keys,
    )

pub file_small : (c : Contents) (f : Facts) → AllByRecursion (λ p. FitsKey p.key) c.partitions
    → length (table_bytes c f) ≤ 131200 + 2 * length c.partitions + sum_by cost c.partitions
file_small c f fit =
    let footer : FOOTER_LENGTH ≡ 32 = refl in
    let limit : KEY_LIMIT ≡ 65535 = refl in
    omega (
      arith,
      parts_long c f,
      front_and_index c,
      filter_small c,
      info_small (info_of c f),
      first_short c.partitions fit,
      last_short c.partitions fit,
      footer,
      limit,
    )
