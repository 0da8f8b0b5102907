-- Segments of the log that are dropped, as no table needs them any more. Storage engine: commit log; own.
use Rattle.std.specs.Prelude.{◌≡◌, ◌⊎◌, ℕ, ◌+◌, ◌<◌, ◌≤◌, List, [], ◌∷◌, ◌++◌, length, map, drop}
use Rattle.std.specs.List.{Any}
use Rattle.cas_disk.specs.Disk.{Image}
use Rattle.cas_atoms.specs.declared.atom.Mutation.{Mutation}
use Rattle.cas_changes.specs.Saying.{Saying, part_of}
use Rattle.cas_changes.specs.declared.entry.Entry.{Entry}
use Rattle.cas_changes.specs.declared.entry.Entry.TheVariants.{DropSegment}
use Rattle.cas_journal.specs.Stores.{Told, MayList}
use Rattle.cas_room.specs.Keeping.{StandsFor}

-- what failed is what failed before, or the entry that drops a segment
abbrev pub FailedToDrop : List Entry → List Entry → Type 0
FailedToDrop before now = (now ≡ before) ⊎ ((number : ℕ) × (now ≡ DropSegment number ∷ []))

-- From one to the other segments were dropped, and so many mutations with them, which were committed; nothing was taken, and nothing else told.
pub record Drops (t u : Told) : Type 0 where
  pub numbers : List ℕ
  pub entries : u.entries ≡ t.entries ++ map DropSegment numbers
  pub failed : FailedToDrop t.failed u.failed
  pub many : ℕ
  pub few : many ≤ length t.taken
  pub taken : u.taken ≡ drop many t.taken
  pub committed : many + u.committed ≡ t.committed

-- a mutation that stands in no table file, by what a manifest says: it is above the frontier of its table and shard
abbrev pub IsAbove : Saying → Mutation → Type 0
IsAbove s m = (part_of s m.table m.shard).frontier < m.number

-- No segment of the log may go: the manifest lists one at most, or one of the log's mutations stands in no table file.
abbrev pub IsTrimmed : Saying → List Mutation → Type 0
IsTrimmed s mutations = (length s.segments ≤ 1) ⊎ Any (IsAbove s) mutations

-- an image meanwhile, in the words of the history: it stands for a front of what was accepted, with some of the segments dropped
abbrev pub StandsDropped : Told → List Mutation → List Mutation → ℕ → Image → Type 0
StandsDropped t found accepted said c = (u : Told) × Drops t u × StandsFor (MayList u) found accepted said c
