-- A partition as it was written.
use Rattle.std.specs.Prelude.{◌≡◌, ◌<◌, ◌^◌, ◌+◌, ℕ, List, ◌++◌, length, Option, None}
use Rattle.std.specs.List.{AllByRecursion}
use Rattle.cas_atoms.specs.declared.atom.Atom.{Atom}
use Rattle.cas_atoms.specs.declared.row.RowColumn.{RowColumn}
use Rattle.cas_cell.specs.declared.deletion.Deletion.{Deletion}
use Rattle.cas_info.specs.declared.info.TheConstants.{FILE_LIMIT}
use Rattle.cas_streams.specs.declared.fragment.Fragment.{Fragment}
use Rattle.cas_facts.specs.Facts.{AreFactsSoFar}
use Rattle.cas_facts.specs.Told.{all_told}
use Rattle.cas_facts.specs.declared.facts.Facts.{Facts}
use Rattle.cas_fragments.specs.Allowed.{HaveRoom}
use Rattle.cas_fragments.specs.Spelling.{body_bytes}
use Rattle.cas_fragments.specs.Blocks.{blocks_of, statics_in, behind_statics, head_bytes, partition_bytes}
use Rattle.cas_fragments.specs.declared.heads.Version.TheVariants.{Second}
use Rattle.cas_tables.specs.Places.{block_entries}
use Rattle.cas_sstwrite.specs.Causes.{IsUnfit, TooMuch, limit_of}
use Rattle.cas_sstwrite.specs.declared.fault.Measure.TheVariants.{FileBytes, BlockBytes, Partitions}
use Rattle.cas_sstwrite.specs.declared.fault.WriteFault.{WriteFault}
use Rattle.cas_sstwrite.specs.declared.fault.WriteFault.TheVariants.{Failed, Order, TooMany, Unfit, Mem}
use Rattle.cas_sstwrite.specs.declared.fault.PartitionFault.{PartitionFault}
use Rattle.cas_sstwrite.specs.declared.fault.PartitionFault.TheVariants.{Write, Source}
use Rattle.cas_sstwrite.specs.Rooms.{IsHeld}
use Rattle.cas_sstwrite.specs.declared.held.Part.{Part}
use Rattle.cas_sstwrite.specs.declared.held.Sink.{Sink}
use Rattle.cas_sstwrite.specs.Inner.Sinks.{Took}
use Rattle.cas_sstwrite.specs.Inner.Parts.{BeginWith, Says}

-- why the head of a partition isn't written at that place
abbrev pub HeadFault : ℕ → List ℕ → Option Deletion → List RowColumn → WriteFault → Type 0
HeadFault place key top cs Failed = Unit {0}
HeadFault place key top cs Order = ⊥
HeadFault place key top cs (TooMany FileBytes limit) = (limit ≡ FILE_LIMIT) × (FILE_LIMIT < place + length (head_bytes Second key top cs))
HeadFault place key top cs (TooMany BlockBytes limit) = ⊥
HeadFault place key top cs (TooMany Partitions limit) = ⊥
HeadFault place key top cs Unfit = (length key < 2 ^ 16) × HaveRoom cs → ⊥
HeadFault place key top cs Mem = Unit {0}

-- the partition was written, of the fragments that were given; what the index is to tell of its blocks, and what was seen
pub record WrotePartition {D : Type 0} (number_of : D → ℕ) (written : D → List ℕ → Type 0) (under : List ℕ) (top : Option Deletion)
    (first : Option Fragment)
    (before : Option Facts) (s t : Sink D) (new : Part) (told : Option (List Fragment)) : Type 0 where
  pub given : List Fragment
  pub took : Took number_of written (partition_bytes Second under top given) s t
  pub entries : new.entries.items ≡ block_entries (s.place + length (head_bytes Second under top (statics_in given))) None (blocks_of (behind_statics given))
  pub few : length new.entries.items < 2 ^ 32
  pub short : AllByRecursion (λ b. length (body_bytes b) < 2 ^ 32) (blocks_of (behind_statics given))
  pub facts : (A : List Atom) → AreFactsSoFar A before → AreFactsSoFar (A ++ all_told top given) new.seen.facts
  pub key : length under < 2 ^ 16
  pub statics : HaveRoom (statics_in given)
  pub held : AllByRecursion IsHeld (behind_statics given)
  pub front : BeginWith first given
  pub all : (fs : List Fragment) → Says first told fs → given ≡ fs

-- why a partition isn't written at that place; the source's own fault says nothing of it
abbrev pub Stops : ℕ → List ℕ → Option Deletion → List Fragment → WriteFault → Type 0
Stops place key top fs Failed = Unit {0}
Stops place key top fs Order = ⊥
Stops place key top fs (TooMany FileBytes limit) = (limit ≡ limit_of FileBytes) × TooMuch FileBytes 0 place key top fs
Stops place key top fs (TooMany BlockBytes limit) = (limit ≡ limit_of BlockBytes) × TooMuch BlockBytes 0 place key top fs
Stops place key top fs (TooMany Partitions limit) = ⊥
Stops place key top fs Unfit = IsUnfit key fs
Stops place key top fs Mem = Unit {0}

abbrev pub PartFault : {E : Type 0} → ℕ → List ℕ → Option Deletion → List Fragment → PartitionFault E → Type 0
PartFault place key top fs (Write e) = Stops place key top fs e
PartFault place key top fs (Source e) = Unit {0}
