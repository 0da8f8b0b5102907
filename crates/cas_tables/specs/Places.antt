-- Where the partitions of a table file and their blocks stand, as its index tells it.
-- Own format.
use Rattle.std.specs.Prelude.{ℕ, ◌+◌, false, List, [], ◌∷◌, length, Option, None}
use Rattle.cas_cell.specs.declared.deletion.Deletion.{Deletion}
use Rattle.cas_bounds.specs.declared.cuts.Cut.{Cut}
use Rattle.cas_streams.specs.Flat.{changes, at_end}
use Rattle.cas_streams.specs.declared.fragment.Fragment.{Fragment}
use Rattle.cas_streams.specs.declared.fragment.Fragment.TheVariants as fragment
use Rattle.cas_fragments.specs.Spelling.{block_bytes}
use Rattle.cas_fragments.specs.Blocks.{blocks_of, statics_in, behind_statics, head_bytes, partition_bytes}
use Rattle.cas_fragments.specs.declared.heads.Version.{Version}
use Rattle.cas_index.specs.declared.entries.BlockEntry.{BlockEntry}
use Rattle.cas_index.specs.declared.entries.PartitionEntry.{PartitionEntry}
use Rattle.cas_tables.specs.Contents.{Partition}

-- ---- a partition

-- what stands before its blocks: its key, perhaps the deletion of the whole, and the columns of the static row
abbrev pub head_of : Version → Partition → List ℕ
head_of version p = head_bytes version p.key p.stream.top (statics_in p.stream.fragments)

-- the blocks, in which its rows and markers stand
abbrev pub blocks : Partition → List (List Fragment)
blocks p = blocks_of (behind_statics p.stream.fragments)

-- all of it
abbrev pub text_of : Version → Partition → List ℕ
text_of version p = partition_bytes version p.key p.stream.top p.stream.fragments

-- ---- what the index tells

-- the cut where a fragment stands: before a row, or a marker's own; the static row stands in no block
abbrev pub first_cut : Fragment → Cut
first_cut (fragment.Static columns) = record { prefix = []; after = false; order = [] }
first_cut (fragment.Row r) = record { prefix = r.clustering.values; after = false; order = r.clustering.order }
first_cut (fragment.Marker cut d) = cut

-- blocks from a place on, by what is in force before the first of them: each begins at its first fragment, and behind it its markers count
abbrev pub block_entries : ℕ → Option Deletion → List (List Fragment) → List BlockEntry
block_entries place now [] = []
block_entries place now ([] ∷ bs) = block_entries place now bs
block_entries place now ((f ∷ fs) ∷ bs) =
    record { cut = first_cut f; place = place; in_force = now }
    ∷ block_entries (place + length (block_bytes (f ∷ fs))) (at_end now (changes (f ∷ fs))) bs

-- partitions from a place on
abbrev pub entries : Version → ℕ → List Partition → List PartitionEntry
entries version place [] = []
entries version place (p ∷ ps) =
    record { key = p.key; place = place; blocks = block_entries (place + length (head_of version p)) None (blocks p) }
    ∷ entries version (place + length (text_of version p)) ps
