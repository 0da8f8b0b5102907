-- What the room's lists have to do with its disk. Own.
use Rattle.std.specs.Prelude.{◌≡◌, ℕ, List, [], ◌∷◌, ◌++◌, Option, None, Some, Result, Ok, Err}
use Rattle.std.specs.List.{flat_map}
use Rattle.cas_atoms.specs.declared.atom.Mutation.{Mutation}
use Rattle.cas_gates.specs.declared.first.First.{First}
use Rattle.cas_history.specs.declared.item.Item.{Item}
use Rattle.cas_history.specs.declared.item.Item.TheVariants.{Wrote}
use Rattle.cas_history.specs.Last.{last_fault, last_committed, last_first}
use Rattle.cas_journal.specs.Stores.{Told, took, committed_all, appended}
use Rattle.cas_journal.specs.Ends.{told_after}
use Rattle.cas_changes.specs.declared.entry.Entry.{Entry}
use Rattle.cas_journal.specs.declared.fault.JournalFault.{JournalFault}
use Rattle.cas_room.specs.declared.event.Event.{Event}
use Rattle.cas_room.specs.declared.event.Event.TheVariants as event

-- the mutation that an event tells
abbrev pub mutation_told : Event → List Mutation
mutation_told (event.Accepted m) = m ∷ []
mutation_told (event.Changed c) = []

-- the mutation that an entry of the history has
abbrev pub mutation_of : Item Event → List Mutation
mutation_of (Wrote shard session call number what) = mutation_told what
mutation_of other = []

-- the mutations of a list, one after another
abbrev pub accepted_in : List (Item Event) → List Mutation
accepted_in list = flat_map mutation_of list

-- the number of the fault that stopped the journal, 0 where none did
abbrev pub first_number : Option First → ℕ
first_number None = 0
first_number (Some first) = first.number

-- ---- what a call comes to

-- the list got this mutation behind its entries, as that call of that session
abbrev pub Accepts : Mutation → ℕ → ℕ → List (Item Event) → List (Item Event) → Type 0
Accepts m call session before after = after ≡ before ++ Wrote m.shard session call m.number (event.Accepted m) ∷ []

-- who has seen these entries about the room's disk knows how many faults there were, how many mutations are committed, and what stopped the room
abbrev pub Knows : ℕ → ℕ → ℕ → List (Item Event) → Type 0
Knows number committed first seen = (last_fault seen ≡ number) × (last_committed seen ≡ committed) × (last_first seen ≡ first)

-- an accepted mutation was taken behind the others; one that isn't changes nothing
abbrev pub after_accept : {T : Type 0} → Result T JournalFault → Mutation → Told → Told
after_accept (Ok x) m t = took m t
after_accept (Err fault) m t = t

-- after a commit all that was taken is committed; after a fault it is as before
abbrev pub after_commit : {T : Type 0} → Result T JournalFault → Told → Told
after_commit (Ok x) t = committed_all t
after_commit (Err fault) t = t

-- after a definition the manifest has its entry; after a fault of the folder it may have it
abbrev pub after_define : {T : Type 0} → Result T JournalFault → Entry → Told → Told
after_define (Ok x) e t = appended e t
after_define (Err fault) e t = told_after fault e t
