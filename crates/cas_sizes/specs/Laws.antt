-- What holds of the sizes of streams, partitions and table files (own).
use Rattle.std.specs.Prelude.{ℕ, ◌≤◌, ◌*◌, List, length}
use Rattle.std.specs.List.{sum_by}
use Rattle.cas_types.specs.declared.schema.Column.{Column}
use Rattle.cas_atoms.specs.LogLength.{atom_length}
use Rattle.cas_atoms.specs.declared.atom.Atom.{Atom}
use Rattle.cas_atoms.specs.declared.atom.Mutation.{Mutation}
use Rattle.cas_facts.specs.declared.facts.Facts.{Facts}
use Rattle.cas_fragments.specs.Spelling.{body_bytes}
use Rattle.cas_info.specs.declared.info.TheConstants.{FILE_LIMIT}
use Rattle.cas_partition.specs.Ends.{AllAtEnds}
use Rattle.cas_sstwrite.specs.Causes.{IsUnfit, TooMuch}
use Rattle.cas_sstwrite.specs.declared.fault.Measure.{Measure}
use Rattle.cas_streams.specs.Flat.{changes}
use Rattle.cas_streams.specs.Joined.{Stream}
use Rattle.cas_streams.specs.Merged.{flat_of}
use Rattle.cas_streams.specs.NoMore.{SaysNoMore}
use Rattle.cas_streams.specs.Streams.{WellFormed}
use Rattle.cas_tables.specs.Contents.{Contents, Partition}
use Rattle.cas_tables.specs.Files.{front_bytes, table_bytes}
use Rattle.cas_sizes.specs.Little.{AreLittle, SaysUnder, SayUnder}

-- the rows and markers of a stream take at most five times the bytes that the atoms of which it says no more take in the log
abbrev pub StreamsAreSmall : Type 0
StreamsAreSmall = (columns : List Column) (s : Stream) (atoms : List Atom) → WellFormed columns s.fragments → SaysNoMore (flat_of s) atoms
    → AllAtEnds atoms (changes s.fragments) → length (body_bytes s.fragments) ≤ 5 * sum_by atom_length atoms

-- partitions are no more than the mutations that they say no more than
abbrev pub PartitionsAreFew : Type 0
PartitionsAreFew = (columns : List Column) (ws : List Mutation) (ps : List Partition) → SayUnder columns ws ps → length ps ≤ length ws

-- Of little each number and each length has room in its field, and there is never too much of it for a file: of bytes, of a block's bytes or of partitions;
-- wherever it stands behind others of its kind, and with its index, its filter and what is told of it.
pub record LittleHasRoom : Type 0 where
  pub fields : (columns : List Column) (ws : List Mutation) (key : List ℕ) (s : Stream) → AreLittle columns ws → SaysUnder columns ws key s
      → IsUnfit key s.fragments → ⊥
  pub behind : (columns : List Column) (ws : List Mutation) (c : Contents) (key : List ℕ) (s : Stream) (what : Measure) → AreLittle columns ws
      → SayUnder columns ws c.partitions → SaysUnder columns ws key s
      → TooMuch what (length c.partitions) (length (front_bytes c)) key s.top s.fragments → ⊥
  pub file : (columns : List Column) (ws : List Mutation) (c : Contents) (f : Facts) → AreLittle columns ws → SayUnder columns ws c.partitions
      → length (table_bytes c f) ≤ FILE_LIMIT
