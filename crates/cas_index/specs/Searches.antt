-- Which partition and which block a read begins with.
-- CQL documentation, "Data manipulation: SELECT; WHERE"; own.
use Rattle.std.specs.Prelude.{◌≡◌, ℕ, ◌+◌, ◌<◌, Bool, true, false, ◌&&◌, List, length, slice_get, Option, None, Some}
use Rattle.std.specs.List.{Contains}
use Rattle.std.specs.Ordering.{is_lt, is_gt}
use Rattle.cas_types.specs.Values.{bytes_cmp}
use Rattle.cas_bounds.specs.Cuts.{cut_cmp}
use Rattle.cas_bounds.specs.declared.order.Ordered.{Ordered}
use Rattle.cas_bounds.specs.declared.cuts.Cut.{Cut}
use Rattle.cas_bounds.specs.declared.cuts.Slice.{Slice}
use Rattle.cas_index.specs.declared.entries.BlockAt.{BlockAt}
use Rattle.cas_index.specs.declared.entries.BlockEntry.{BlockEntry}
use Rattle.cas_index.specs.declared.entries.PartitionEntry.{PartitionEntry}

-- the first number below the count that passes the test, or none where none does
abbrev pub IsFirst : (ℕ → Bool) → ℕ → Option ℕ → Type 0
IsFirst test count None = (i : ℕ) → i < count → test i ≡ false
IsFirst test count (Some n) = (n < count) × (test n ≡ true) × ((i : ℕ) → i < n → test i ≡ false)

-- ---- partitions

-- the number of the partition that has the key; none where no partition has it
abbrev pub HasKey : List PartitionEntry → List ℕ → Option ℕ → Type 0
HasKey partitions key None = (p : PartitionEntry) → Contains partitions p → p.key ≡ key → ⊥
HasKey partitions key (Some n) = (p : PartitionEntry) × (slice_get partitions n ≡ Some p) × (p.key ≡ key)

-- the partition's key stands above the key; each does where none is given
abbrev pub is_after : Option (List ℕ) → Option PartitionEntry → Bool
is_after key None = false
is_after None (Some p) = true
is_after (Some key) (Some p) = is_gt (bytes_cmp p.key key)

-- the number of the first partition above the key
abbrev pub IsNextAfter : List PartitionEntry → Option (List ℕ) → Option ℕ → Type 0
IsNextAfter partitions key answer = IsFirst (λ i. is_after key (slice_get partitions i)) (length partitions) answer

-- ---- blocks

-- a slice of a table that orders its rows so
abbrev pub IsSliceOf : List Ordered → Slice → Type 0
IsSliceOf order s = (s.lo.order ≡ order) × (s.hi.order ≡ order)

-- the block is there, and begins before the cut
abbrev pub begins_before : Cut → Option BlockEntry → Bool
begins_before cut None = false
begins_before cut (Some b) = is_lt (cut_cmp b.cut cut)

-- the next block begins above the cut, or there is none
abbrev pub next_is_above : Cut → Option BlockEntry → Bool
next_is_above cut None = true
next_is_above cut (Some b) = is_lt (cut_cmp cut b.cut)

-- a block can hold something of a slice where the slice isn't empty, the block begins before its end, and the next one begins above its beginning
abbrev pub can_meet : Slice → List BlockEntry → ℕ → Bool
can_meet s blocks i =
    is_lt (cut_cmp s.lo s.hi) && (begins_before s.hi (slice_get blocks i) && next_is_above s.lo (slice_get blocks (i + 1)))

-- the block that has the number, as the index tells of it
abbrev pub TellsBlock : List BlockEntry → BlockAt → Type 0
TellsBlock blocks at = (b : BlockEntry) × (slice_get blocks at.number ≡ Some b) × (at.place ≡ b.place) × (at.in_force ≡ b.in_force)

-- the first block that can hold something of the slice; none where none can
abbrev pub IsBlockFor : Slice → List BlockEntry → Option BlockAt → Type 0
IsBlockFor s blocks None = IsFirst (can_meet s blocks) (length blocks) None
IsBlockFor s blocks (Some at) = IsFirst (can_meet s blocks) (length blocks) (Some at.number) × TellsBlock blocks at
