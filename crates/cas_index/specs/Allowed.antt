-- Which indexes and footers a table file may have.
-- Own format.
use Rattle.std.specs.Prelude.{◌≡◌, ◌<◌, ◌≤◌, ◌^◌, ℕ, true, List, [], ◌∷◌, length, Option, None, Some, IfSome}
use Rattle.std.specs.List.{All, AllByRecursion}
use Rattle.cas_atoms.specs.Fits.{FitsKey, FitsCut, FitsDeletion}
use Rattle.cas_bounds.specs.declared.order.Ordered.{Ordered}
use Rattle.cas_info.specs.declared.info.TheConstants.{PARTITION_LIMIT}
use Rattle.cas_index.specs.declared.footer.Footer.{Footer}
use Rattle.cas_index.specs.declared.entries.BlockEntry.{BlockEntry}
use Rattle.cas_index.specs.declared.entries.PartitionEntry.{PartitionEntry}
use Rattle.cas_index.specs.Entries.{is_next_cut, is_next_key, block_place, last_place}

-- each may follow the one before it; the first follows what is given, or nothing
abbrev pub Chain : {A : Type 0} → (Option A → A → Type 0) → Option A → List A → Type 0
Chain Follows last [] = Unit {0}
Chain Follows last (x ∷ xs) = Follows last x × Chain Follows (Some x) xs

-- a place behind another one; it has room in eight bytes
abbrev pub IsBehind : ℕ → ℕ → Type 0
IsBehind last place = (last < place) × (place < 2 ^ 64)

-- a block that may follow another one in a partition at that place: cuts don't descend, and places ascend
pub record IsNextBlock (order : List Ordered) (place : ℕ) (last : Option BlockEntry) (b : BlockEntry) : Type 0 where
  pub cut : FitsCut order b.cut
  pub upward : is_next_cut last b.cut ≡ true
  pub behind : IsBehind (block_place place last) b.place
  pub in_force : IfSome b.in_force FitsDeletion

-- a partition that may follow another one: keys ascend, and places over the whole index
pub record IsNextPartition (order : List Ordered) (last : Option PartitionEntry) (p : PartitionEntry) : Type 0 where
  pub key : FitsKey p.key
  pub above : is_next_key last p.key ≡ true
  pub behind : IsBehind (last_place last) p.place
  pub few : length p.blocks < 2 ^ 32
  pub blocks : Chain (IsNextBlock order p.place) None p.blocks

-- at most 2^28 partitions, each of which may follow the one before it
pub record AreEntries (order : List Ordered) (partitions : List PartitionEntry) : Type 0 where
  pub few : length partitions ≤ PARTITION_LIMIT
  pub each : Chain (IsNextPartition order) None partitions

-- and at least one of them
abbrev pub FitsIndex : List Ordered → List PartitionEntry → Type 0
FitsIndex order partitions = (1 ≤ length partitions) × AreEntries order partitions

-- places have room in eight bytes
abbrev pub FitsFooter : Footer → Type 0
FitsFooter f = (f.index < 2 ^ 64) × (f.filter < 2 ^ 64) × (f.info < 2 ^ 64)

-- ---- what has room in its fields

-- fewer than 256 values in the cut, each of fewer than 65,536 bytes
pub record HasRoom (b : BlockEntry) : Type 0 where
  pub few : length b.cut.prefix < 2 ^ 8
  pub short : AllByRecursion (λ v. length v < 2 ^ 16) b.cut.prefix

-- a key of fewer than 65,536 bytes, fewer than 2^32 blocks, and each of them with room
pub record HasRooms (p : PartitionEntry) : Type 0 where
  pub key : length p.key < 2 ^ 16
  pub few : length p.blocks < 2 ^ 32
  pub blocks : All HasRoom p.blocks
