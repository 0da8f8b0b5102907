-- What holds of every open store (own).
use Rattle.std.specs.Prelude.{ℕ, List, []}
use Rattle.cas_types.specs.declared.schema.TableSchema.{TableSchema}
use Rattle.cas_disk.specs.Disk.{Disk}
use Rattle.cas_atoms.specs.declared.atom.Mutation.{Mutation}
use Rattle.cas_journal.specs.Stores.{Told}
use Rattle.cas_lasting.specs.History.{History}
use Rattle.cas_lasting.specs.Nodes.{State, StandsFor, LastsFor}
use Rattle.cas_lasting.specs.TooMuch.{IsTooMuch}
use Rattle.cas_sizes.specs.Little.{AreLittle}

-- the history of a store in the eyes of another session, which wrote so often
abbrev pub as_another : ℕ → ℕ → History → History
as_another session calls h = record h { session = session; calls = calls }

-- the store as that session has it
abbrev pub to_another : ℕ → ℕ → State → State
to_another session calls s = record s { session = session; calls = calls }

-- whatever one session knows of a store, over this disk, holds for all of them
abbrev pub AllShare : Disk → Type 0
AllShare disk =
    (h : History) (s : State) (session calls : ℕ) → StandsFor h s → StandsFor (as_another session calls h) (to_another session calls s)
    × ((found : List Mutation) (told : Told) → LastsFor h found s disk told
    → LastsFor (as_another session calls h) found (to_another session calls s) disk told)

-- where nothing was written to a table in a shard, that isn't too much for a file
abbrev pub NothingIsTooMuch : Type 0
NothingIsTooMuch = (t : TableSchema) (shard : ℕ) → IsTooMuch t shard [] → ⊥

-- where the records of what was written to a table in a shard are together at most 2^28 bytes long, that isn't too much for a file
abbrev pub LittleIsNeverTooMuch : Type 0
LittleIsNeverTooMuch = (t : TableSchema) (shard : ℕ) (ws : List Mutation) → AreLittle t.columns ws → IsTooMuch t shard ws → ⊥
