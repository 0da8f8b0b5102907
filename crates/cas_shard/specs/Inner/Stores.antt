-- What calls on what a shard has stored do (own).
use Rattle.std.specs.Prelude.{◌≡◌, ℕ, ◌<◌, ◌≤◌, Result, Ok, Err, List, [], ◌∷◌, ◌++◌, drop, length, slice_get, take}
use Rattle.cas_types.specs.declared.schema.Column.{Column}
use Rattle.cas_bounds.specs.declared.order.Ordered.{Ordered}
use Rattle.cas_atoms.specs.declared.atom.Mutation.{Mutation}
use Rattle.cas_partition.specs.Partitions.{AreAtomsOf}
use Rattle.cas_memtable.specs.Kept.{HoldJust, MayHold}
use Rattle.cas_memtable.specs.Memtables.{bytes_with}
use Rattle.cas_sstread.specs.Loading.{Held}
use Rattle.cas_stored.specs.Stored.{StoredTable}
use Rattle.cas_view.specs.Views.{File}
use Rattle.cas_shard.specs.Flushing.{SaysWhatTheyDo, bytes_at, frozen_at, memtables_at}
use Rattle.cas_shard.specs.Stands.{Holds, files_at}

-- no more tables have something stored than before, or than the table's number asks for
abbrev pub StayFew : ℕ → List StoredTable → List StoredTable → Type 0
StayFew table ps qs = (n : ℕ) → length ps ≤ n → table < n → length qs ≤ n

-- each table holds what it held
abbrev pub AllStay : List StoredTable → List StoredTable → Type 0
AllStay ps qs = (t : ℕ) (order : List Ordered) (ws : List Mutation) → Holds order (slice_get ps t) ws → Holds order (slice_get qs t) ws

-- and has the files that it had
abbrev pub KeepFiles : List StoredTable → List StoredTable → Type 0
KeepFiles ps qs = (t : ℕ) → files_at (slice_get qs t) ≡ files_at (slice_get ps t)

-- and has in memory what it had
abbrev pub MemoryStays : List StoredTable → List StoredTable → Type 0
MemoryStays ps qs = (t : ℕ) (columns : List Column) (ws : List Mutation) → HoldJust columns (memtables_at (slice_get ps t)) ws
    → HoldJust columns (memtables_at (slice_get qs t)) ws

-- and its memtable that is written to has the bytes that it had
abbrev pub KeepBytes : List StoredTable → List StoredTable → Type 0
KeepBytes ps qs = (t : ℕ) → bytes_at (slice_get qs t) ≡ bytes_at (slice_get ps t)

-- so do the others
abbrev pub OthersStay : ℕ → List StoredTable → List StoredTable → Type 0
OthersStay table ps qs = (t : ℕ) → (t ≡ table → ⊥) → slice_get qs t ≡ slice_get ps t

-- place was made for a mutation, which says nothing yet
pub record MakesRoom (w : Mutation) (ps qs : List StoredTable) : Type 0 where
  pub kept : (t : ℕ) (order : List Ordered) (ws : List Mutation) → (t ≡ w.table → AreAtomsOf order w.atoms) → Holds order (slice_get ps t) ws
      → Holds order (slice_get qs t) ws
  pub few : StayFew w.table ps qs
  pub files : KeepFiles ps qs
  pub memory : (t : ℕ) (columns : List Column) (ws : List Mutation) → (t ≡ w.table → MayHold columns w) → HoldJust columns (memtables_at (slice_get ps t)) ws
      → HoldJust columns (memtables_at (slice_get qs t)) ws
  pub bytes : KeepBytes ps qs

-- the mutation was joined to those of its table
pub record JoinsRoom (w : Mutation) (ps qs : List StoredTable) : Type 0 where
  pub joined : (order : List Ordered) (ws : List Mutation) → AreAtomsOf order w.atoms → Holds order (slice_get ps w.table) ws
      → Holds order (slice_get qs w.table) (ws ++ w ∷ [])
  pub others : OthersStay w.table ps qs
  pub count : length qs ≡ length ps
  pub files : KeepFiles ps qs
  pub memory : (columns : List Column) (ws : List Mutation) → MayHold columns w → HoldJust columns (memtables_at (slice_get ps w.table)) ws
      → HoldJust columns (memtables_at (slice_get qs w.table)) (ws ++ w ∷ [])
  pub bytes : bytes_at (slice_get qs w.table) ≡ bytes_with (bytes_at (slice_get ps w.table)) w

-- place was made for the mutation, and it was joined; or it wasn't, and place may have been made
abbrev pub InsertsRoom : {E : Type 0} → Result (Unit {0}) E → Mutation → List StoredTable → List StoredTable → Type 0
InsertsRoom (Ok x) w ps qs = (mid : List StoredTable) × MakesRoom w ps mid × JoinsRoom w mid qs
InsertsRoom (Err e) w ps qs = MakesRoom w ps qs

-- the table has these files now, and so many of its oldest frozen memtables no longer: where the last file says what these did, it holds what it held
pub record Swaps (table count : ℕ) (files : List (File Held)) (ps qs : List StoredTable) : Type 0 where
  pub holds : (order : List Ordered) (f : File Held) (ws : List Mutation) → files ≡ files_at (slice_get ps table) ++ f ∷ []
      → SaysWhatTheyDo order (take count (frozen_at (slice_get ps table))) f → Holds order (slice_get ps table) ws → Holds order (slice_get qs table) ws
  pub files_are : files_at (slice_get qs table) ≡ files
  pub memory : memtables_at (slice_get qs table) ≡ drop count (memtables_at (slice_get ps table))
  pub others : OthersStay table ps qs
  pub stay : length qs ≡ length ps
  pub bytes : KeepBytes ps qs
