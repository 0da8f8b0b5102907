-- The partitions of a table file, one behind another up to a place, as they are read; and what they come to.
-- Own format. The place of a refusal is that of the refused field's first byte.
use Rattle.std.specs.Prelude.{ℕ, zero, suc, ◌+◌, ◌==◌, List, [], ◌∷◌, ◌++◌, length, map, Option, None, Some, if◌then◌else◌, Result, Ok, Err}
use Rattle.cas_types.specs.Values.{bytes_cmp}
use Rattle.cas_types.specs.declared.schema.Column.{Column}
use Rattle.cas_cell.specs.declared.deletion.Deletion.{Deletion}
use Rattle.cas_bounds.specs.declared.order.Ordered.{Ordered}
use Rattle.cas_atoms.specs.declared.atom.Atom.{Atom}
use Rattle.cas_atoms.specs.declared.row.RowColumn.{RowColumn}
use Rattle.cas_codec.specs.declared.fault.ReadFault.{ReadFault}
use Rattle.cas_codec.specs.declared.fault.ReadFault.TheVariants.{Bad}
use Rattle.cas_codec.specs.Reading.{Left, Read, ◌>>=◌, checked}
use Rattle.cas_records.specs.Reading.{key_at}
use Rattle.cas_streams.specs.Joined.{Stream}
use Rattle.cas_streams.specs.Merged.{flats}
use Rattle.cas_streams.specs.declared.fragment.Fragment.{Fragment}
use Rattle.cas_fragments.specs.Blocks.{head_bytes}
use Rattle.cas_fragments.specs.Reading.{is_above, partition_at}
use Rattle.cas_fragments.specs.Laws.{static_of, joined, part_bytes}
use Rattle.cas_fragments.specs.declared.heads.Version.{Version}
use Rattle.cas_index.specs.declared.entries.PartitionEntry.{PartitionEntry}
use Rattle.cas_tables.specs.Contents.{Partition}
use Rattle.cas_tables.specs.Places.{block_entries}

-- ---- reading

-- a partition as it is read: its key, perhaps the DELETE of all of it, and its static columns; and its blocks
abbrev pub Part : Type 0
Part = (List ℕ × Option Deletion × List RowColumn) × List (List Fragment)

-- a partition whose key stands above the one before it: its key is tested before the rest is read
unfoldable pub next_partition_at : Version → List Ordered → List Column → Option (List ℕ) → Left → Read Part
next_partition_at version order columns before left = do
  key ← checked (is_above bytes_cmp before) key_at left
  partition_at version order columns left

-- partitions up to that place, at most so many; one more isn't allowed where it begins
unfoldable pub partitions_at : Version → List Ordered → List Column → ℕ → ℕ → Option (List ℕ) → Left → Result (List Part) ReadFault
partitions_at version order columns end zero before left = Err (Bad left.at)
partitions_at version order columns end (suc n) before left = do
  first ← next_partition_at version order columns before left
  if first.1.at == end then Ok (first.0 ∷ []) else
      (partitions_at version order columns end n (Some first.0.0.0) first.1 >>= λ others. Ok (first.0 ∷ others))

-- ---- what they come to

-- the stream of a partition
abbrev pub stream_of : Part → Stream
stream_of p = record { top = p.0.1; fragments = static_of p.0.2 ++ joined p.1 }

-- a partition, as a table file's contents have it
abbrev pub as_partition : Part → Partition
as_partition p = record { key = p.0.0; stream = stream_of p }

-- the atoms of all of them
abbrev pub atoms_in : List Part → List Atom
atoms_in ps = flats (map stream_of ps)

-- what the index is to tell of a partition that stands at that place: its blocks stand behind its head
abbrev pub entry_for : Version → ℕ → Part → PartitionEntry
entry_for version place p = record { key = p.0.0; place = place; blocks = block_entries (place + length (head_bytes version p.0.0 p.0.1 p.0.2)) None p.1 }

-- and of partitions from that place on
abbrev pub entries_for : Version → ℕ → List Part → List PartitionEntry
entries_for version place [] = []
entries_for version place (p ∷ ps) = entry_for version place p ∷ entries_for version (place + length (part_bytes version p)) ps
