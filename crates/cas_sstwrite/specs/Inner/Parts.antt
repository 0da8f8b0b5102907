-- How far a partition was written.
use Rattle.std.specs.Prelude.{◌≡◌, ◌<◌, ◌≤◌, ◌^◌, ◌+◌, ℕ, true, List, [], ◌∷◌, ◌++◌, length, drop, nat_le, if◌then◌else◌, Option, None, Some}
use Rattle.std.specs.List.{AllByRecursion, flat_map}
use Rattle.cas_atoms.specs.declared.atom.Atom.{Atom}
use Rattle.cas_cell.specs.declared.deletion.Deletion.{Deletion}
use Rattle.cas_codec.specs.Fields.{u32, bytes32}
use Rattle.cas_info.specs.declared.info.TheConstants.{FILE_LIMIT}
use Rattle.cas_streams.specs.Flat.{changes, at_end}
use Rattle.cas_streams.specs.Joined.{opened}
use Rattle.cas_streams.specs.declared.fragment.Fragment.{Fragment}
use Rattle.cas_facts.specs.Facts.{AreFactsSoFar}
use Rattle.cas_facts.specs.Told.{told, all_told}
use Rattle.cas_facts.specs.declared.facts.Facts.{Facts}
use Rattle.cas_fragments.specs.Spelling.{fragment_bytes, body_bytes, block_bytes}
use Rattle.cas_fragments.specs.Blocks.{is_full, last_block, blocks_from, blocks_of, blocks_bytes, behind_statics}
use Rattle.cas_fragments.specs.Laws.{joined}
use Rattle.cas_fragments.specs.declared.blocks.TheConstants.{BLOCK_LEAST}
use Rattle.cas_tables.specs.Places.{first_cut, block_entries}
use Rattle.cas_index.specs.declared.entries.BlockEntry.{BlockEntry}
use Rattle.cas_sstwrite.specs.Causes.{limit_of}
use Rattle.cas_sstwrite.specs.Rooms.{IsHeld}
use Rattle.cas_sstwrite.specs.declared.fault.Measure.TheVariants.{FileBytes, BlockBytes, Partitions}
use Rattle.cas_sstwrite.specs.declared.fault.WriteFault.{WriteFault}
use Rattle.cas_sstwrite.specs.declared.fault.WriteFault.TheVariants.{Failed, Order, TooMany, Unfit, Mem}
use Rattle.cas_sstwrite.specs.Inner.Sinks.{Took}
use Rattle.cas_sstwrite.specs.declared.fault.TheConstants.{BLOCK_LIMIT}
use Rattle.cas_sstwrite.specs.declared.fault.PartitionFault.{PartitionFault}
use Rattle.cas_sstwrite.specs.declared.fault.PartitionFault.TheVariants.{Write, Source}
use Rattle.cas_sstwrite.specs.declared.held.Sink.{Sink}
use Rattle.cas_sstwrite.specs.declared.held.Part.{Part}

-- a block that was begun: room for its length, and its fragments
abbrev pub waiting : List Fragment → List ℕ
waiting [] = []
waiting (f ∷ fs) = u32 0 ++ body_bytes (f ∷ fs)

-- Of a partition whose blocks begin at a place these fragments were taken: some stand in blocks that were written, the text; the others wait. What the facts
-- were before it is told.
pub record Taken (start : ℕ) (before : Option Facts) (top : Option Deletion) (gs : List Fragment) (p : Part) (written : List ℕ) : Type 0 where
  pub done : List (List Fragment)
  pub begun : List Fragment
  pub rows : behind_statics gs ≡ joined done ++ begun
  pub cut : (rest : List Fragment) → blocks_of (behind_statics gs ++ rest) ≡ done ++ blocks_from begun rest
  pub text : written ≡ flat_map block_bytes done
  pub buffer : p.buffer.items ≡ waiting begun
  pub entries : p.entries.items ≡ block_entries start None (done ++ last_block begun)
  pub force : p.force ≡ at_end None (changes (behind_statics gs))
  pub full : AllByRecursion (λ b. is_full b ≡ true) done
  pub short : AllByRecursion (λ b. length (body_bytes b) < 2 ^ 32) done
  pub held : AllByRecursion IsHeld (behind_statics gs)
  pub early : length (body_bytes begun) < BLOCK_LEAST
  pub facts : (A : List Atom) → AreFactsSoFar A before → AreFactsSoFar (A ++ all_told top gs) p.seen.facts

-- a buffer in which a block is begun, if none was
abbrev pub with_block : List ℕ → List ℕ
with_block [] = u32 0
with_block (b ∷ bs) = b ∷ bs

-- the entry of that block stands behind those before it
abbrev pub with_entry : List ℕ → List BlockEntry → BlockEntry → List BlockEntry
with_entry [] es e = es ++ e ∷ []
with_entry (b ∷ bs) es e = es

-- the block that begins with a fragment at a place, where a deletion is in force
abbrev pub entry_of : Fragment → ℕ → Option Deletion → BlockEntry
entry_of f place force = record { cut = first_cut f; place = place; in_force = force }

-- what waits, with its length, if anything does, and a length of 0 behind it
abbrev pub ended : List ℕ → List ℕ
ended buffer = (if nat_le 4 (length buffer) then bytes32 (drop 4 buffer) else buffer) ++ u32 0

-- the fragment waits behind those that do
pub record Added (f : Fragment) (place : ℕ) (old new : Part) : Type 0 where
  pub held : IsHeld f
  pub buffer : new.buffer.items ≡ with_block old.buffer.items ++ fragment_bytes f
  pub entries : new.entries.items ≡ with_entry old.buffer.items old.entries.items (entry_of f place old.force)
  pub force : new.force ≡ opened old.force f
  pub seen : (A : List Atom) → AreFactsSoFar A old.seen.facts → AreFactsSoFar (A ++ told f) new.seen.facts

-- why a fragment isn't put there: it can't stand in a block, or memory ran out
abbrev pub AddFault : Fragment → WriteFault → Type 0
AddFault f Failed = ⊥
AddFault f Order = ⊥
AddFault f (TooMany what limit) = ⊥
AddFault f Unfit = IsHeld f → ⊥
AddFault f Mem = Unit {0}

-- the block that waited was written, these fragments' bytes; of the rest nothing changed
pub record Closes {D : Type 0} (number_of : D → ℕ) (written : D → List ℕ → Type 0) (body : List ℕ) (s t : Sink D) (old new : Part) : Type 0 where
  pub took : Took number_of written (bytes32 body) s t
  pub short : length body < 2 ^ 32
  pub buffer : new.buffer.items ≡ []
  pub entries : new.entries.items ≡ old.entries.items
  pub force : new.force ≡ old.force
  pub seen : new.seen ≡ old.seen

-- why a block of so many bytes doesn't get its length
abbrev pub SealFault : ℕ → WriteFault → Type 0
SealFault long Failed = ⊥
SealFault long Order = ⊥
SealFault long (TooMany FileBytes limit) = ⊥
SealFault long (TooMany BlockBytes limit) = (limit ≡ BLOCK_LIMIT) × (2 ^ 32 ≤ long)
SealFault long (TooMany Partitions limit) = ⊥
SealFault long Unfit = ⊥
SealFault long Mem = Unit {0}

-- why a block of so many bytes isn't written at that place
abbrev pub BlockFault : ℕ → ℕ → WriteFault → Type 0
BlockFault place long Failed = Unit {0}
BlockFault place long Order = ⊥
BlockFault place long (TooMany FileBytes limit) = (limit ≡ FILE_LIMIT) × (FILE_LIMIT < place + (4 + long))
BlockFault place long (TooMany BlockBytes limit) = (limit ≡ BLOCK_LIMIT) × (2 ^ 32 ≤ long)
BlockFault place long (TooMany Partitions limit) = ⊥
BlockFault place long Unfit = ⊥
BlockFault place long Mem = Unit {0}

-- one fragment more was taken
pub record Goes {D : Type 0} (number_of : D → ℕ) (written : D → List ℕ → Type 0) (start : ℕ) (before : Option Facts) (top : Option Deletion)
    (gs : List Fragment)
    (s t : Sink D) (new : Part) (text : List ℕ) : Type 0 where
  pub more : List ℕ
  pub took : Took number_of written more s t
  pub taken : Taken start before top gs new (text ++ more)

-- the partition ended: its blocks were written, and the length of 0
pub record Ends {D : Type 0} (number_of : D → ℕ) (written : D → List ℕ → Type 0) (start : ℕ) (before : Option Facts) (top : Option Deletion)
    (gs : List Fragment)
    (s t : Sink D) (new : Part) (text : List ℕ) : Type 0 where
  pub more : List ℕ
  pub took : Took number_of written more s t
  pub whole : text ++ more ≡ blocks_bytes (blocks_of (behind_statics gs))
  pub entries : new.entries.items ≡ block_entries start None (blocks_of (behind_statics gs))
  pub few : length new.entries.items < 2 ^ 32
  pub short : AllByRecursion (λ b. length (body_bytes b) < 2 ^ 32) (blocks_of (behind_statics gs))
  pub held : AllByRecursion IsHeld (behind_statics gs)
  pub facts : (A : List Atom) → AreFactsSoFar A before → AreFactsSoFar (A ++ all_told top gs) new.seen.facts

-- why a partition with these rows and markers isn't written, whose blocks begin at a place
abbrev pub Hinders : ℕ → List Fragment → WriteFault → Type 0
Hinders start rows Failed = Unit {0}
Hinders start rows Order = ⊥
Hinders start rows (TooMany FileBytes limit) = (limit ≡ limit_of FileBytes) × (FILE_LIMIT < start + length (blocks_bytes (blocks_of rows)))
Hinders start rows (TooMany BlockBytes limit) = (limit ≡ limit_of BlockBytes) × (AllByRecursion (λ b. length (body_bytes b) < 2 ^ 32) (blocks_of rows) → ⊥)
Hinders start rows (TooMany Partitions limit) = ⊥
Hinders start rows Unfit = AllByRecursion IsHeld rows → ⊥
Hinders start rows Mem = Unit {0}

-- ---- a stream

-- the fragments of a stream of which the first one was given, or none, and the others are to come, where that is told
abbrev pub Says : Option Fragment → Option (List Fragment) → List Fragment → Type 0
Says None after gs = gs ≡ []
Says (Some f) after gs = (fs : List Fragment) × (after ≡ Some fs) × (gs ≡ f ∷ fs)

-- they begin with the one that was given; where none was, there are none
abbrev pub BeginWith : Option Fragment → List Fragment → Type 0
BeginWith None gs = gs ≡ []
BeginWith (Some f) gs = (fs : List Fragment) × (gs ≡ f ∷ fs)

-- the source answered this fault, and is broken by it
abbrev pub IsOfSource : {E : Type 0} → PartitionFault E → Option E → Type 0
IsOfSource (Write e) broken = ⊥
IsOfSource (Source e) broken = broken ≡ Some e

-- why rows aren't written, whose blocks begin at a place; the source's own fault says nothing of them
abbrev pub RowsFault : {E : Type 0} → ℕ → List Fragment → PartitionFault E → Type 0
RowsFault start rows (Write e) = Hinders start rows e
RowsFault start rows (Source e) = Unit {0}

-- on the way: some were taken, and the others are to come
pub record GoneOn {D : Type 0} (number_of : D → ℕ) (written : D → List ℕ → Type 0) (start : ℕ) (before : Option Facts) (top : Option Deletion)
    (gs : List Fragment)
    (s t : Sink D) (new : Part) (text : List ℕ) (told now : Option (List Fragment)) : Type 0 where
  pub given : List Fragment
  pub goes : Goes number_of written start before top (gs ++ given) s t new text
  pub left : (fs : List Fragment) → told ≡ Some fs → (rest : List Fragment) × (now ≡ Some rest) × (fs ≡ given ++ rest)

-- of a source these rows and markers were taken
pub record GoesOn {D : Type 0} (number_of : D → ℕ) (written : D → List ℕ → Type 0) (start : ℕ) (before : Option Facts) (top : Option Deletion)
    (gs : List Fragment)
    (s t : Sink D) (new : Part) (text : List ℕ) (told : Option (List Fragment)) : Type 0 where
  pub given : List Fragment
  pub goes : Goes number_of written start before top (gs ++ given) s t new text
  pub all : (fs : List Fragment) → told ≡ Some fs → given ≡ fs

-- the rows and markers of a partition were written, and its end
pub record WroteRows {D : Type 0} (number_of : D → ℕ) (written : D → List ℕ → Type 0) (start : ℕ) (before : Option Facts) (top : Option Deletion)
    (first : Option Fragment)
    (s t : Sink D) (new : Part) (text : List ℕ) (told : Option (List Fragment)) : Type 0 where
  pub given : List Fragment
  pub ends : Ends number_of written start before top given s t new text
  pub front : BeginWith first given
  pub all : (fs : List Fragment) → Says first told fs → given ≡ fs

-- a fault of a partition that is being written: neither that of its key nor that of the number of partitions
abbrev pub IsOfPart : WriteFault → Type 0
IsOfPart Failed = Unit {0}
IsOfPart Order = ⊥
IsOfPart (TooMany FileBytes limit) = Unit {0}
IsOfPart (TooMany BlockBytes limit) = Unit {0}
IsOfPart (TooMany Partitions limit) = ⊥
IsOfPart Unfit = Unit {0}
IsOfPart Mem = Unit {0}

-- or one of its source
abbrev pub IsOfRows : {E : Type 0} → PartitionFault E → Type 0
IsOfRows (Write e) = IsOfPart e
IsOfRows (Source e) = Unit {0}
