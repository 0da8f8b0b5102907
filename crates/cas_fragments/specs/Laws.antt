-- What holds of blocks and of a partition's fragments.
-- Own format.
use Rattle.std.specs.Prelude.{◌≡◌, ℕ, ◌+◌, ◌^◌, ◌<◌, Bool, true, false, List, [], ◌∷◌, ◌++◌, length, Option, None, is_none, Ok}
use Rattle.std.specs.List.{AllByRecursion, flat_map}
use Rattle.cas_types.specs.Limits.{IsNarrow}
use Rattle.cas_types.specs.Schemas.{is_static}
use Rattle.cas_types.specs.declared.schema.Column.{Column}
use Rattle.cas_cell.specs.declared.deletion.Deletion.{Deletion}
use Rattle.cas_bounds.specs.ClusteringOrder.{clustering_order}
use Rattle.cas_codec.specs.Reading.{Left}
use Rattle.cas_codec.specs.Exact.{AreBytes, IsExact}
use Rattle.cas_atoms.specs.declared.row.RowColumn.{RowColumn}
use Rattle.cas_streams.specs.Streams.{IsThere, WellFormed}
use Rattle.cas_streams.specs.declared.fragment.Fragment.{Fragment}
use Rattle.cas_streams.specs.declared.fragment.Fragment.TheVariants as fragment
use Rattle.cas_fragments.specs.declared.heads.Version.{Version}
use Rattle.cas_fragments.specs.Spelling.{body_bytes}
use Rattle.cas_fragments.specs.Blocks.{Reached, nowhere, past_all, Follow, is_full, BeginEarly, blocks_of, head_bytes, blocks_bytes, says_head, partition_bytes}
use Rattle.cas_fragments.specs.Reading.{body_at, partition_at}
use Rattle.cas_fragments.specs.Allowed.{FitColumns, FitsFragment, FitsHead}

-- fragments of the table that may be a block behind what was reached: there are some, each may stand where it does, and begins before the block is full
pub record IsBlock (columns : List Column) (r : Reached) (fs : List Fragment) : Type 0 where
  pub some : IsThere fs
  pub fit : AllByRecursion (FitsFragment columns) fs
  pub follow : Follow (clustering_order columns) r fs
  pub early : BeginEarly 0 fs

-- what is read of a block is one, and fills it; each block is read
pub record BlocksAreExact : Type 0 where
  pub found : (columns : List Column) → IsNarrow columns → (r : Reached) (old new : Left) (fs : List Fragment) → AreBytes old.bytes
      → body_at (clustering_order columns) columns r old ≡ Ok (fs, new) → IsBlock columns r fs × (old.bytes ≡ body_bytes fs) × (new.bytes ≡ [])
  pub again : (columns : List Column) → IsNarrow columns → (r : Reached) (fs : List Fragment) (at : ℕ) → IsBlock columns r fs
      → body_at (clustering_order columns) columns r (record { bytes = body_bytes fs; at = at })
      ≡ Ok (fs, record { bytes = []; at = at + length (body_bytes fs) })

-- ---- partitions

-- static columns as a fragment, where there are any
abbrev pub static_of : List RowColumn → List Fragment
static_of [] = []
static_of (c ∷ cs) = fragment.Static (c ∷ cs) ∷ []

-- all rows and markers of a partition: each may stand where it does, and no range deletion is in force at their end
pub record IsWhole (columns : List Column) (fs : List Fragment) : Type 0 where
  pub fit : AllByRecursion (FitsFragment columns) fs
  pub follow : Follow (clustering_order columns) nowhere fs
  pub closed : (past_all nowhere fs).force ≡ None

-- such rows and markers behind static columns are a well-formed stream; and those of a well-formed stream, of which each fits, are such
pub record WholesAreStreams : Type 0 where
  pub stream : (columns : List Column) (cs : List RowColumn) (fs : List Fragment) → FitColumns is_static columns cs → IsWhole columns fs
      → WellFormed columns (static_of cs ++ fs)
  pub whole : (columns : List Column) (cs : List RowColumn) (fs : List Fragment) → AllByRecursion (FitsFragment columns) fs
      → WellFormed columns (static_of cs ++ fs) → IsWhole columns fs

-- ---- the blocks of a partition

-- blocks one behind another, each of them full but the last
abbrev pub AreBlocks : List Column → Reached → List (List Fragment) → Type 0
AreBlocks columns r [] = Unit {0}
AreBlocks columns r (b ∷ []) = IsBlock columns r b
AreBlocks columns r (b ∷ c ∷ bs) = IsBlock columns r b × (is_full b ≡ true) × AreBlocks columns (past_all r b) (c ∷ bs)

-- the fragments of all blocks
abbrev pub joined : List (List Fragment) → List Fragment
joined bs = flat_map (λ b. b) bs

-- the blocks of fragments that may stand there are such, and together have just these fragments; and such blocks are those of their fragments
pub record BlocksArePartitions : Type 0 where
  pub whole : (fs : List Fragment) → joined (blocks_of fs) ≡ fs
  pub cut : (columns : List Column) (r : Reached) (fs : List Fragment) → AllByRecursion (FitsFragment columns) fs → Follow (clustering_order columns) r fs
      → AreBlocks columns r (blocks_of fs)
  pub fit : (columns : List Column) (r : Reached) (bs : List (List Fragment)) → AreBlocks columns r bs → AllByRecursion (FitsFragment columns) (joined bs)
  pub follow : (columns : List Column) (r : Reached) (bs : List (List Fragment)) → AreBlocks columns r bs → Follow (clustering_order columns) r (joined bs)
  pub one_way : (columns : List Column) (r : Reached) (bs : List (List Fragment)) → AreBlocks columns r bs → blocks_of (joined bs) ≡ bs

-- ---- partitions in a file

-- blocks up to the end of a partition, told whether it may end there and whether it may go on: each but the last is full, and at the end no range deletion
-- is in force
abbrev pub Stand : List Column → Bool → Bool → Reached → List (List Fragment) → Type 0
Stand columns ends goes_on r [] = ends ≡ true
Stand columns ends goes_on r (b ∷ bs) =
    ((goes_on ≡ true) × IsBlock columns r b × (length (body_bytes b) < 2 ^ 32)) × Stand columns (is_none (past_all r b).force) (is_full b) (past_all r b) bs

-- a head and blocks that are a partition of the table
abbrev pub IsPartition : Version → List Column → (List ℕ × Option Deletion × List RowColumn) × List (List Fragment) → Type 0
IsPartition version columns p = FitsHead version columns p.0 × Stand columns (says_head p.0) true nowhere p.1

-- their bytes
abbrev pub part_bytes : Version → (List ℕ × Option Deletion × List RowColumn) × List (List Fragment) → List ℕ
part_bytes version p = head_bytes version p.0.0 p.0.1 p.0.2 ++ blocks_bytes p.1

-- partitions are read where they stand and nowhere else; their static columns and fragments are a well-formed stream, and they are spelled as its partition
-- is; and each well-formed stream is a partition, if its fragments fit, no block is too long, and something is said
pub record PartitionsAreExact : Type 0 where
  pub exact : (version : Version) (columns : List Column) → IsNarrow columns
      → IsExact (IsPartition version columns) (part_bytes version) (partition_at version (clustering_order columns) columns)
  pub stream : (version : Version) (columns : List Column) (p : (List ℕ × Option Deletion × List RowColumn) × List (List Fragment))
      → IsPartition version columns p
      → WellFormed columns (static_of p.0.2 ++ joined p.1)
  pub spelled : (version : Version) (columns : List Column) (p : (List ℕ × Option Deletion × List RowColumn) × List (List Fragment))
      → IsPartition version columns p → partition_bytes version p.0.0 p.0.1 (static_of p.0.2 ++ joined p.1) ≡ part_bytes version p
  pub whole : (version : Version) (columns : List Column) (h : List ℕ × Option Deletion × List RowColumn) (fs : List Fragment) → FitsHead version columns h
      → AllByRecursion (FitsFragment columns) fs → WellFormed columns (static_of h.2 ++ fs) → (says_head h ≡ false → IsThere fs)
      → AllByRecursion (λ b. length (body_bytes b) < 2 ^ 32) (blocks_of fs) → IsPartition version columns (h, blocks_of fs)
