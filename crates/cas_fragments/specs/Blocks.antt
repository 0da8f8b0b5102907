-- How a partition's fragments are cut into blocks, and which fragments may stand behind others.
-- Own format.
use Rattle.std.specs.Prelude.{◌≡◌, ℕ, ◌+◌, ◌<◌, nat_lt, nat_le, Bool, true, ◌&&◌, ◌||◌, not, List, [], ◌∷◌, ◌++◌, length}
use Rattle.std.specs.Prelude.{Option, None, Some, is_some, if◌then◌else◌}
use Rattle.std.specs.List.{flat_map}
use Rattle.std.specs.Ordering.{is_lt}
use Rattle.cas_cell.specs.declared.deletion.Deletion.{Deletion}
use Rattle.cas_bounds.specs.declared.order.Ordered.{Ordered}
use Rattle.cas_streams.specs.Places.{Place, place_of, place_cmp}
use Rattle.cas_streams.specs.Joined.{opened}
use Rattle.cas_streams.specs.Settled.{same_force}
use Rattle.cas_streams.specs.declared.fragment.Fragment.{Fragment}
use Rattle.cas_streams.specs.declared.fragment.Fragment.TheVariants as fragment
use Rattle.cas_atoms.specs.declared.row.RowColumn.{RowColumn}
use Rattle.cas_records.specs.Spelling.{deletion_bytes}
use Rattle.cas_codec.specs.Fields.{u32, bytes16, maybe}
use Rattle.cas_fragments.specs.Spelling.{columns_bytes, fragment_bytes, body_bytes, block_bytes}
use Rattle.cas_fragments.specs.declared.blocks.TheConstants.{BLOCK_LEAST}
use Rattle.cas_fragments.specs.declared.heads.Version.{Version}
use Rattle.cas_fragments.specs.declared.heads.Version.TheVariants.{First, Second}

-- ---- what may stand behind what

-- how far fragments came: the place of the last one, and the range deletion in force behind it
pub record Reached : Type 0 where
  pub last : Place
  pub force : Option Deletion

-- before the first fragment of a partition
abbrev pub nowhere : Reached
nowhere = record { last = None; force = None }

-- where a fragment stands; before the first one nowhere
abbrev pub last_place : Option Fragment → Place
last_place None = None
last_place (Some f) = place_of f

-- one fragment further
abbrev pub past : Reached → Fragment → Reached
past r f = record { last = place_of f; force = opened r.force f }

-- these fragments further
abbrev pub past_all : Reached → List Fragment → Reached
past_all r [] = r
past_all r (f ∷ fs) = past_all (past r f) fs

-- a marker changes what is in force
abbrev pub is_change : Option Deletion → Fragment → Bool
is_change now (fragment.Static columns) = true
is_change now (fragment.Row r) = true
is_change now (fragment.Marker cut d) = not (same_force now d)

-- a fragment that may stand there: behind the last one, and, if it is a marker, with another deletion than is in force
unfoldable pub may_follow : List Ordered → Reached → Fragment → Bool
may_follow order r f = is_lt (place_cmp order r.last (place_of f)) && is_change r.force f

-- fragments of which each may stand behind those before it
abbrev pub Follow : List Ordered → Reached → List Fragment → Type 0
Follow order r [] = Unit {0}
Follow order r (f ∷ fs) = (may_follow order r f ≡ true) × Follow order (past r f) fs

-- ---- blocks

-- fragments that are so long that their block ends
abbrev pub is_full : List Fragment → Bool
is_full fs = nat_le BLOCK_LEAST (length (body_bytes fs))

-- each of these begins before its block is full, if so many bytes stand in the block before them
abbrev pub BeginEarly : ℕ → List Fragment → Type 0
BeginEarly used [] = Unit {0}
BeginEarly used (f ∷ fs) = (used < BLOCK_LEAST) × BeginEarly (used + length (fragment_bytes f)) fs

-- a block that was begun and that the partition ends, if anything stands in it
abbrev pub last_block : List Fragment → List (List Fragment)
last_block [] = []
last_block (f ∷ fs) = (f ∷ fs) ∷ []

-- the blocks of fragments, of which the first ones were begun with already: a block ends with the first fragment that makes it full
abbrev pub blocks_from : List Fragment → List Fragment → List (List Fragment)
blocks_from begun [] = last_block begun
blocks_from begun (f ∷ fs) =
    if is_full (begun ++ f ∷ []) then (begun ++ f ∷ []) ∷ blocks_from [] fs else blocks_from (begun ++ f ∷ []) fs

-- the blocks of a partition's rows and markers
abbrev pub blocks_of : List Fragment → List (List Fragment)
blocks_of fs = blocks_from [] fs

-- ---- partitions

-- the static columns of a partition's fragments, which come first, or not at all
abbrev pub statics_in : List Fragment → List RowColumn
statics_in [] = []
statics_in (fragment.Static cs ∷ fs) = cs
statics_in (fragment.Row r ∷ fs) = []
statics_in (fragment.Marker cut d ∷ fs) = []

-- its rows and markers
abbrev pub behind_statics : List Fragment → List Fragment
behind_statics [] = []
behind_statics (fragment.Static cs ∷ fs) = fs
behind_statics (fragment.Row r ∷ fs) = fragment.Row r ∷ fs
behind_statics (fragment.Marker cut d ∷ fs) = fragment.Marker cut d ∷ fs

-- static columns in a head; in the format's first version there are none, and nothing stands for them
abbrev pub statics_bytes : Version → List RowColumn → List ℕ
statics_bytes First cs = []
statics_bytes Second cs = columns_bytes cs

-- the head of a partition: its key, perhaps the DELETE of all of it, and its static columns
abbrev pub head_bytes : Version → List ℕ → Option Deletion → List RowColumn → List ℕ
head_bytes version key top cs = bytes16 key ++ (maybe deletion_bytes top ++ statics_bytes version cs)

-- the blocks, and a length of 0
abbrev pub blocks_bytes : List (List Fragment) → List ℕ
blocks_bytes bs = flat_map block_bytes bs ++ u32 0

-- the head says something of the partition: a DELETE of all of it, or a static column
abbrev pub says_head : List ℕ × Option Deletion × List RowColumn → Bool
says_head h = is_some h.1 || nat_lt 0 (length h.2)

-- a partition: its head, and the blocks of its rows and markers
abbrev pub partition_bytes : Version → List ℕ → Option Deletion → List Fragment → List ℕ
partition_bytes version key top fs = head_bytes version key top (statics_in fs) ++ blocks_bytes (blocks_of (behind_statics fs))
