-- How far the partitions of a file were read, and what was seen of them (own).
use Rattle.std.specs.Prelude.{◌≡◌, ℕ, ◌+◌, List, [], ◌∷◌, ◌++◌, length, Option, None, Some}
use Rattle.cas_cell.specs.declared.deletion.Deletion.{Deletion}
use Rattle.cas_types.specs.declared.schema.Column.{Column}
use Rattle.cas_types.specs.Values.{bytes_cmp}
use Rattle.cas_atoms.specs.declared.row.RowColumn.{RowColumn}
use Rattle.cas_codec.specs.Reading.{Left, Read, ◌>>=◌, checked}
use Rattle.cas_records.specs.Reading.{key_at}
use Rattle.cas_streams.specs.Merged.{flat_of}
use Rattle.cas_fragments.specs.Blocks.{head_bytes}
use Rattle.cas_fragments.specs.Inner.Lasts.{last_key}
use Rattle.cas_fragments.specs.Laws.{part_bytes}
use Rattle.cas_fragments.specs.Reading.{is_above, head_at}
use Rattle.cas_fragments.specs.declared.heads.Head.{Head}
use Rattle.cas_fragments.specs.declared.heads.Version.{Version}
use Rattle.cas_index.specs.declared.entries.PartitionEntry.{PartitionEntry}
use Rattle.cas_blocks.specs.Reading.{left_at}
use Rattle.cas_tables.specs.declared.header.TheConstants.{HEADER_LENGTH}
use Rattle.cas_facts.specs.Facts.{AreFactsSoFar}
use Rattle.cas_verify.specs.Partitions.{Part, stream_of, atoms_in, entry_for, entries_for}
use Rattle.cas_verify.specs.Inner.Walks.{Sees}
use Rattle.cas_verify.specs.declared.partitions.Scan.{Scan}

-- the head of a partition whose key stands above the one before it
unfoldable pub next_head_at : Version → List Column → Option (List ℕ) → Left → Read (List ℕ × Option Deletion × List RowColumn)
next_head_at version columns before left = do
  key ← checked (is_above bytes_cmp before) key_at left
  head_at version columns left

-- the head that was read, and where it ends
pub record IsHead (version : Version) (end : ℕ) (file : List ℕ) (place : ℕ) (h : Head) (behind : ℕ)
    (p : (List ℕ × Option Deletion × List RowColumn) × Left) : Type 0 where
  pub head : p.0 ≡ (h.key, h.top, h.columns)
  pub left : p.1 ≡ left_at file end behind
  pub long : behind ≡ place + length (head_bytes version h.key h.top h.columns)

-- the last key that was read
abbrev pub key_before : Scan → Option (List ℕ)
key_before s = last_key (λ (e : PartitionEntry). e.key) s.entries.items

-- the key of a partition; no bytes where there is none
abbrev pub key_or : Option PartitionEntry → List ℕ
key_or None = []
key_or (Some p) = p.key

-- a partition further
pub record Adds (version : Version) (end : ℕ) (file : List ℕ) (s t : Scan) (p : Part × Left) : Type 0 where
  pub left : p.1 ≡ left_at file end t.place
  pub place : t.place ≡ s.place + length (part_bytes version p.0)
  pub entries : t.entries.items ≡ s.entries.items ++ entry_for version s.place p.0 ∷ []
  pub seen : Sees s.seen (flat_of (stream_of p.0)) t.seen

-- all partitions
pub record Scanned (version : Version) (s t : Scan) (ps : List Part) : Type 0 where
  pub entries : t.entries.items ≡ s.entries.items ++ entries_for version s.place ps
  pub seen : Sees s.seen (atoms_in ps) t.seen

-- what the index is to tell of the partitions behind the header, and the facts of their atoms
pub record IsSeen (version : Version) (t : Scan) (ps : List Part) : Type 0 where
  pub entries : t.entries.items ≡ entries_for version HEADER_LENGTH ps
  pub facts : AreFactsSoFar (atoms_in ps) t.seen.facts
