-- One partition more.
use Rattle.std.specs.Prelude.{◌≡◌, ◌+◌, ◌≤◌, ◌<◌, ◌^◌, ℕ, List, [], ◌∷◌, ◌++◌, length, Option, None, Some, Bool, true, false}
use Rattle.std.specs.List.{AllByRecursion}
use Rattle.cas_atoms.specs.declared.atom.Atom.{Atom}
use Rattle.cas_cell.specs.declared.deletion.Deletion.{Deletion}
use Rattle.cas_streams.specs.declared.fragment.Fragment.{Fragment}
use Rattle.cas_facts.specs.Facts.{AreFactsSoFar}
use Rattle.cas_facts.specs.Told.{all_told}
use Rattle.cas_fragments.specs.Allowed.{HaveRoom}
use Rattle.cas_fragments.specs.Spelling.{body_bytes}
use Rattle.cas_fragments.specs.Blocks.{blocks_of, statics_in, behind_statics, head_bytes, partition_bytes}
use Rattle.cas_fragments.specs.declared.heads.Version.TheVariants.{Second}
use Rattle.cas_index.specs.declared.entries.PartitionEntry.{PartitionEntry}
use Rattle.cas_tables.specs.Places.{block_entries}
use Rattle.cas_sstwrite.specs.Rooms.{IsHeld}
use Rattle.cas_sstwrite.specs.declared.held.TableWriter.{TableWriter}
use Rattle.cas_info.specs.declared.info.TheConstants.{PARTITION_LIMIT}
use Rattle.cas_sstwrite.specs.declared.fault.Measure.TheVariants.{Partitions}
use Rattle.cas_sstwrite.specs.declared.fault.WriteFault.TheVariants.{TooMany}
use Rattle.cas_sstwrite.specs.declared.fault.PartitionFault.{PartitionFault}
use Rattle.cas_sstwrite.specs.declared.fault.PartitionFault.TheVariants.{Write, Source}
use Rattle.cas_sstwrite.specs.Inner.Sinks.{Took}
use Rattle.cas_sstwrite.specs.Inner.Parts.{BeginWith, Says}
use Rattle.cas_sstwrite.specs.Inner.Whole.{Stops}

-- what the index is to tell of a partition of that key and stream at a place
abbrev pub partition_entry : List ℕ → Option Deletion → List Fragment → ℕ → PartitionEntry
partition_entry key top fs place = record {
  key = key;
  place = place;
  blocks = block_entries (place + length (head_bytes Second key top (statics_in fs))) None (blocks_of (behind_statics fs));
}

-- that partition stands behind those that were written
pub record AddsOne {D E : Type 0} (number_of : D → ℕ) (written : D → List ℕ → Type 0) (under : List ℕ) (top : Option Deletion) (fs : List Fragment)
    (old new : TableWriter D E) : Type 0 where
  pub took : Took number_of written (partition_bytes Second under top fs) old.sink new.sink
  pub entries : new.entries.items ≡ old.entries.items ++ partition_entry under top fs old.sink.place ∷ []
  pub short : AllByRecursion (λ b. length (body_bytes b) < 2 ^ 32) (blocks_of (behind_statics fs))
  pub statics : HaveRoom (statics_in fs)
  pub held : AllByRecursion IsHeld (behind_statics fs)
  pub facts : (A : List Atom) → AreFactsSoFar A old.seen.facts → AreFactsSoFar (A ++ all_told top fs) new.seen.facts
  pub header : new.header ≡ old.header
  pub level : new.level ≡ old.level

-- nothing is said of a partition with that deletion of the whole and that first fragment
abbrev pub is_nothing : Option Deletion → Option Fragment → Bool
is_nothing None None = true
is_nothing None (Some f) = false
is_nothing (Some d) first = false

-- or nothing changed, where nothing is said of it
abbrev pub Adds : {D E : Type 0} → (D → ℕ) → (D → List ℕ → Type 0) → List ℕ → Option Deletion → List Fragment → TableWriter D E → TableWriter D E → Type 0
Adds number_of written key None [] old new = new ≡ old
Adds number_of written key None (f ∷ fs) old new = AddsOne number_of written key None (f ∷ fs) old new
Adds number_of written key (Some d) fs old new = AddsOne number_of written key (Some d) fs old new

-- one partition more, of which the first fragment was given, or which has none
pub record AddsFirst {D E : Type 0} (number_of : D → ℕ) (written : D → List ℕ → Type 0) (under : List ℕ) (top : Option Deletion) (first : Option Fragment)
    (old new : TableWriter D E) (told : Option (List Fragment)) : Type 0 where
  pub given : List Fragment
  pub adds : AddsOne number_of written under top given old new
  pub front : BeginWith first given
  pub all : (fs : List Fragment) → Says first told fs → given ≡ fs

-- what the source says was written; where nothing is said, nothing changed
pub record AddsTold {D E : Type 0} (number_of : D → ℕ) (written : D → List ℕ → Type 0) (under : List ℕ) (top : Option Deletion)
    (old new : TableWriter D E) (told : Option (List Fragment)) : Type 0 where
  pub given : List Fragment
  pub adds : Adds number_of written under top given old new
  pub all : (fs : List Fragment) → told ≡ Some fs → given ≡ fs

-- why it isn't written behind so many that end at that place; the source's own fault says nothing of it
abbrev pub WrittenFault : {E : Type 0} → ℕ → ℕ → List ℕ → Option Deletion → List Fragment → PartitionFault E → Type 0
WrittenFault count place key top fs (Write (TooMany Partitions limit)) = (limit ≡ PARTITION_LIMIT) × (PARTITION_LIMIT ≤ count)
WrittenFault count place key top fs (Write e) = Stops place key top fs e
WrittenFault count place key top fs (Source e) = Unit {0}
