-- Little has room, wherever it stands.
use Rattle.std.proofs.Common.{◌≡◌, ℕ, ◌+◌, ◌*◌, ◌<◌, ◌≤◌, ◌^◌, List, [], ◌∷◌, length, refl, arith}
use Rattle.std.proofs.lemmas.List.Sums.{sum_by-cons}
use Rattle.std.specs.List.{AllByRecursion, sum_by}
use Rattle.cas_types.specs.declared.limits.TheConstants.{KEY_LIMIT}
use Rattle.cas_types.specs.declared.schema.Column.{Column}
use Rattle.cas_atoms.specs.Fits.{FitsKey}
use Rattle.cas_atoms.specs.declared.atom.Atom.TheVariants.{PartitionDeletion}
use Rattle.cas_atoms.specs.declared.atom.Mutation.{Mutation}
use Rattle.cas_facts.specs.declared.facts.Facts.{Facts}
use Rattle.cas_fragments.specs.Allowed.{HasSpelling}
use Rattle.cas_fragments.specs.Blocks.{blocks_of, behind_statics}
use Rattle.cas_fragments.specs.Spelling.{body_bytes}
use Rattle.cas_fragments.specs.declared.heads.Version.TheVariants.{Second}
use Rattle.cas_info.specs.declared.info.TheConstants.{FILE_LIMIT, PARTITION_LIMIT}
use Rattle.cas_memtable.specs.Kept.{atoms_under}
use Rattle.cas_partition.specs.Ends.{AllAtEnds}
use Rattle.cas_sstwrite.specs.Causes.{IsUnfit, TooMuch}
use Rattle.cas_sstwrite.specs.Rooms.{IsHeld}
use Rattle.cas_sstwrite.specs.declared.fault.Measure.{Measure}
use Rattle.cas_sstwrite.specs.declared.fault.Measure.TheVariants.{FileBytes, BlockBytes, Partitions}
use Rattle.cas_streams.specs.Flat.{atom_of, changes}
use Rattle.cas_streams.specs.Joined.{Stream}
use Rattle.cas_streams.specs.Merged.{flat_of}
use Rattle.cas_streams.specs.NoMore.{SaysNoMore}
use Rattle.cas_streams.specs.declared.fragment.Fragment.{Fragment}
use Rattle.cas_streams.specs.declared.fragment.Fragment.TheVariants as fragment
use Rattle.cas_tables.specs.Contents.{Contents, Partition}
use Rattle.cas_tables.specs.Files.{front_bytes, table_bytes}
use Rattle.cas_tables.specs.Fitting.{FitsPartition}
use Rattle.cas_sizes.specs.Laws.{LittleHasRoom}
use Rattle.cas_sizes.specs.Little.{AreLittle, SaysUnder, SayUnder}
use Rattle.cas_sizes.proofs.Answered.{weight}
use Rattle.cas_sizes.proofs.Blocks.{head_and_rest, partition_small, short_blocks}
use Rattle.cas_sizes.proofs.Files.{cost, file_small, front_and_index}
use Rattle.cas_sizes.proofs.Having.{shares_little, under_little}
use Rattle.cas_sizes.proofs.Keys.{all_written, atoms_fit, share}
use Rattle.cas_sizes.proofs.Rooms.{HasRooms, NoneStatic, rows_behind, stream_room}
use Rattle.cas_sizes.proofs.Shapes.{size}
use Rattle.cas_sizes.proofs.Streams.{stream_small}

-- ---- one stream

stream_taken : (columns : List Column) (ws : List Mutation) (key : List ℕ) (s : Stream) → AreLittle columns ws → SaysUnder columns ws key s
    → sum_by weight (atom_of PartitionDeletion s.top) + sum_by size s.fragments ≤ 5 * 2 ^ 28
stream_taken columns ws key s little says =
    omega (
      arith,
      stream_small columns s (atoms_under key ws) says.formed says.no_more says.ends,
      under_little key ws little.short,
    )

all_held : (fs : List Fragment) → NoneStatic fs → AllByRecursion HasSpelling fs → AllByRecursion IsHeld fs
all_held [] none room = tt
all_held (fragment.Static cs ∷ fs) none room = absurd none
all_held (fragment.Row r ∷ fs) none room = (room.0, all_held fs none room.1)
all_held (fragment.Marker cut d ∷ fs) none room = (room.0, all_held fs none room.1)

fields : (columns : List Column) (ws : List Mutation) (key : List ℕ) (s : Stream) → AreLittle columns ws → SaysUnder columns ws key s
    → IsUnfit key s.fragments → ⊥
fields columns ws key s little says unfit =
    let limit : KEY_LIMIT ≡ 65535 = refl in
    let few : sum_by size s.fragments < 2 ^ 32 = omega (arith, stream_taken columns ws key s little says) in
    let rooms : HasRooms s.fragments =
    stream_room columns s (atoms_under key ws) little.narrow (atoms_fit columns key ws little.may) says.formed says.cuts says.no_more few in
    unfit (omega (arith, says.key_fits.1, limit), rooms.0, all_held (behind_statics s.fragments) (rows_behind columns s.fragments says.formed) rooms.1)

blocks_short : (columns : List Column) (ws : List Mutation) (key : List ℕ) (s : Stream) → AreLittle columns ws → SaysUnder columns ws key s
    → AllByRecursion (λ b. length (body_bytes b) < 2 ^ 32) (blocks_of (behind_statics s.fragments))
blocks_short columns ws key s little says =
    short_blocks (2 ^ 32) [] (behind_statics s.fragments) (omega (arith, stream_taken columns ws key s little says, head_and_rest s.fragments))

-- ---- partitions

costs_small : (columns : List Column) (ws : List Mutation) (ps : List Partition) → AllByRecursion (FitsPartition columns) ps
    → AllByRecursion (λ p. SaysNoMore (flat_of p.stream) (atoms_under p.key ws)) ps
    → AllByRecursion (λ p. AllAtEnds (atoms_under p.key ws) (changes p.stream.fragments)) ps → sum_by cost ps ≤ 85 * sum_by (share ws) ps
costs_small columns ws [] fit no_more ends = omega arith
costs_small columns ws (p ∷ ps) fit no_more ends =
    omega (
      arith,
      sum_by-cons cost p ps,
      sum_by-cons (share ws) p ps,
      stream_small columns p.stream (atoms_under p.key ws) fit.0.well_formed no_more.0 ends.0,
      costs_small columns ws ps fit.1 no_more.1 ends.1,
    )

all_cost : (columns : List Column) (ws : List Mutation) (ps : List Partition) → AreLittle columns ws → SayUnder columns ws ps → sum_by cost ps ≤ 85 * 2 ^ 28
all_cost columns ws ps little say =
    omega (
      arith,
      costs_small columns ws ps say.each say.no_more say.ends,
      shares_little ps ws say.ascend (all_written columns ws ps say.each say.no_more) little.short,
    )

few_shares : (ws : List Mutation) (ps : List Partition) → 38 * length ps ≤ sum_by (share ws) ps
few_shares ws [] = omega arith
few_shares ws (p ∷ ps) = omega (arith, sum_by-cons (share ws) p ps, few_shares ws ps)

few_partitions : (columns : List Column) (ws : List Mutation) (ps : List Partition) → AreLittle columns ws → SayUnder columns ws ps → 38 * length ps ≤ 2 ^ 28
few_partitions columns ws ps little say =
    omega (arith, few_shares ws ps, shares_little ps ws say.ascend (all_written columns ws ps say.each say.no_more) little.short)

all_keys : (columns : List Column) (ps : List Partition) → AllByRecursion (FitsPartition columns) ps → AllByRecursion (λ p. FitsKey p.key) ps
all_keys columns [] fit = tt
all_keys columns (p ∷ ps) fit = (fit.0.key, all_keys columns ps fit.1)

-- ---- files

behind : (columns : List Column) (ws : List Mutation) (c : Contents) (key : List ℕ) (s : Stream) (what : Measure) → AreLittle columns ws
    → SayUnder columns ws c.partitions → SaysUnder columns ws key s → TooMuch what (length c.partitions) (length (front_bytes c)) key s.top s.fragments → ⊥
behind columns ws c key s FileBytes little say says long =
    let file : FILE_LIMIT ≡ 1099511627776 = refl in
    let limit : KEY_LIMIT ≡ 65535 = refl in
    omega (
      arith,
      long,
      file,
      limit,
      says.key_fits.1,
      front_and_index c,
      all_cost columns ws c.partitions little say,
      partition_small Second key s.top s.fragments,
      stream_taken columns ws key s little says,
    )
behind columns ws c key s BlockBytes little say says long = long (blocks_short columns ws key s little says)
behind columns ws c key s Partitions little say says many =
    let limit : PARTITION_LIMIT ≡ 268435456 = refl in
    omega (arith, many, limit, few_partitions columns ws c.partitions little say)

file : (columns : List Column) (ws : List Mutation) (c : Contents) (f : Facts) → AreLittle columns ws → SayUnder columns ws c.partitions
    → length (table_bytes c f) ≤ FILE_LIMIT
file columns ws c f little say =
    let limit : FILE_LIMIT ≡ 1099511627776 = refl in
    omega (
      arith,
      limit,
      file_small c f (all_keys columns c.partitions say.each),
      all_cost columns ws c.partitions little say,
      few_partitions columns ws c.partitions little say,
    )

pub little_has_room : LittleHasRoom
little_has_room = record { fields = fields; behind = behind; file = file }
