-- What is read of a partition in a file, from one of its blocks on. Files are read up to where their partitions end.
-- Own format.
use Rattle.std.specs.Prelude.{◌≡◌, ℕ, ◌-◌, Bool, true, false, List, [], ◌∷◌, ◌++◌, length, take, drop, Option, None, Some, is_none, Ok, Err}
use Rattle.std.specs.Option.{option_map}
use Rattle.cas_types.specs.declared.schema.Column.{Column}
use Rattle.cas_cell.specs.declared.deletion.Deletion.{Deletion}
use Rattle.cas_bounds.specs.declared.order.Ordered.{Ordered}
use Rattle.cas_bounds.specs.declared.cuts.Slice.{Slice}
use Rattle.cas_atoms.specs.declared.row.RowColumn.{RowColumn}
use Rattle.cas_codec.specs.Reading.{Left, Read}
use Rattle.cas_codec.specs.declared.fault.ReadFault.{ReadFault}
use Rattle.cas_streams.specs.declared.fragment.Fragment.{Fragment}
use Rattle.cas_fragments.specs.Blocks.{Reached, past_all, is_full}
use Rattle.cas_fragments.specs.Reading.{next_block_at, blocks_at}
use Rattle.cas_fragments.specs.Laws.{joined, static_of}
use Rattle.cas_index.specs.declared.entries.BlockAt.{BlockAt}
use Rattle.cas_blocks.specs.Cutting.{cut_from}

-- the file's bytes from a place on, up to where its partitions end
abbrev pub left_at : List ℕ → ℕ → ℕ → Left
left_at file end place = record { bytes = take (end - place) (drop place file); at = place }

-- the fragments of the blocks that were read
abbrev pub fragments_in : Read (List (List Fragment)) → Option (List Fragment)
fragments_in (Ok p) = Some (joined p.0)
fragments_in (Err f) = None

-- the fragments of a partition's blocks up to its end, told whether it may end there, whether it may go on, and how far its fragments came; none where
-- what stands there isn't that
unfoldable pub fragments_on : List Ordered → List Column → Bool → Bool → Reached → Left → Option (List Fragment)
fragments_on order columns ends goes_on r left = fragments_in (blocks_at order columns (length left.bytes) ends goes_on r left)

-- before a block of which the range deletion in force is known, and not what stands before it
abbrev pub at_block : Option Deletion → Reached
at_block in_force = record { last = None; force = in_force }

-- the fragments from a block on, which stands at that place of the file, the deletion being in force there
abbrev pub from_block : List Ordered → List Column → List ℕ → ℕ → ℕ → Option Deletion → Option (List Fragment)
from_block order columns file end place in_force = fragments_on order columns false true (at_block in_force) (left_at file end place)

-- what a slice of a partition has, by the static columns that its head tells and by what the file has from the block on that the index finds: the static row,
-- and what is between the slice's cuts; where no block is found, the static row alone
abbrev pub slice_of : List Ordered → List Column → Option (List ℕ) → ℕ → List RowColumn → Slice → Option BlockAt → Option (List Fragment)
slice_of order columns contents end statics s None = Some (static_of statics)
slice_of order columns None end statics s (Some at) = None
slice_of order columns (Some file) end statics s (Some at) =
    option_map (λ fs. static_of statics ++ cut_from order s at.in_force fs) (from_block order columns file end at.place at.in_force)

-- ---- where blocks break

-- these blocks stand there one after another, and behind them, at that place, no block that may stand there, and no end of the partition
abbrev pub BreaksBehind : List Ordered → List Column → Bool → Bool → Reached → Left → List (List Fragment) → ℕ → Type 0
BreaksBehind order columns ends goes_on r left [] at = (at ≡ left.at) × ((f : ReadFault) × (next_block_at order columns ends goes_on r left ≡ Err f))
BreaksBehind order columns ends goes_on r left (b ∷ bs) at =
    (rest : Left) × (next_block_at order columns ends goes_on r left ≡ Ok (Some b, rest))
    × BreaksBehind order columns (is_none (past_all r b).force) (is_full b) (past_all r b) rest bs at

-- from a block on, which stands at that place of the file, the deletion being in force there, the blocks lead to a place where none stands that may
abbrev pub BreaksFrom : List Ordered → List Column → List ℕ → ℕ → ℕ → Option Deletion → ℕ → Type 0
BreaksFrom order columns file end place in_force at =
    (bs : List (List Fragment)) × BreaksBehind order columns false true (at_block in_force) (left_at file end place) bs at

-- why a slice that begins with that block finds a place of the file of that number bad: the blocks from it on lead there, where the file tells its bytes
abbrev pub IsBadBehind : List Ordered → List Column → ℕ → ℕ → Option (List ℕ) → Option BlockAt → ℕ → ℕ → Type 0
IsBadBehind order columns number end contents None n at = ⊥
IsBadBehind order columns number end contents (Some b) n at =
    (file : List ℕ) → contents ≡ Some file → (n ≡ number) × BreaksFrom order columns file end b.place b.in_force at
