-- A change of table files in the room: what it comes to in the history and on the disk. Storage engine: memtable flush; own.
use Rattle.std.specs.Prelude.{◌≡◌, ◌⊎◌, ℕ, List, [], ◌∷◌, ◌++◌, length, map, Option, None, Some, Result, Ok, Err}
use Rattle.std.specs.List.{AllByRecursion}
use Rattle.cas_disk.specs.declared.name.Name.TheVariants.{Table as table_name}
use Rattle.cas_disk.specs.Disk.{Image, Disk}
use Rattle.cas_atoms.specs.declared.atom.Mutation.{Mutation}
use Rattle.cas_changes.specs.declared.entry.Change.{Change}
use Rattle.cas_changes.specs.declared.entry.Entry.{Entry}
use Rattle.cas_history.specs.declared.item.Item.{Item}
use Rattle.cas_history.specs.declared.item.Item.TheVariants.{Changed}
use Rattle.cas_journal.specs.Stores.{Told, Holds, MayList, committed_all, failed_at}
use Rattle.cas_journal.specs.Ends.{told_after}
use Rattle.cas_journal.specs.declared.fault.JournalFault.{JournalFault}
use Rattle.cas_journal.specs.declared.fault.JournalFault.TheVariants.{TooMany}
use Rattle.cas_room.specs.declared.event.Event.{Event}
use Rattle.cas_room.specs.declared.event.Event.TheVariants as event
use Rattle.cas_room.specs.Keeping.{StandsFor}

-- the numbers of the files that a change adds
abbrev pub added_by : Change → List ℕ
added_by c = map (λ i. i.number) c.added

-- the image has a table file of each of these numbers
abbrev pub Have : List ℕ → Image → Type 0
Have numbers c = AllByRecursion (λ n. (file : List ℕ) × (c (table_name n) ≡ Some file)) numbers

-- whatever a crash leaves has them
abbrev pub Stand : List ℕ → Disk → Type 0
Stand numbers disk = (c : Image) → disk.may_leave c → Have numbers c

-- what was told after a fault of telling an entry, before which all is committed: as before, or all is committed, and the entry may be there
abbrev pub MayBeTold : JournalFault → Entry → Told → Told → Type 0
MayBeTold f e t u = (u ≡ t) ⊎ (u ≡ told_after f e (committed_all t))

-- An image while an entry is told, before which all is committed: it holds what was told, or it may have the entry too, and then it has all mutations.
abbrev pub HoldsSettled : Told → Entry → Image → Type 0
HoldsSettled t e c = Holds t c ⊎ Holds (failed_at e (committed_all t)) c

-- an image while files are changed: it has the added files too, whether the manifest lists them or not
abbrev pub HoldsChange : Told → Entry → List ℕ → Image → Type 0
HoldsChange t e added c = HoldsSettled t e c × Have added c

-- An image while files are changed, in the words of the history: it stands for a front of what was accepted; or its manifest may have the change, and
-- then it stands for all.
abbrev pub StandsAmid : Told → Entry → List Mutation → List Mutation → ℕ → Image → Type 0
StandsAmid t e found accepted said c = StandsFor (MayList t) found accepted said c ⊎ StandsFor (MayList (failed_at e t)) found accepted (length accepted) c

-- a limit is told that the entry would pass
abbrev pub TellsLimit : {T : Type 0} → Option JournalFault → Result T JournalFault → Type 0
TellsLimit most (Ok x) = most ≡ None
TellsLimit most (Err (TooMany what n)) = most ≡ Some (TooMany what n)
TellsLimit most (Err _) = Unit {0}

-- the list got the change of the shard behind its entries; its files were drawn into that list
abbrev pub Installs : Change → ℕ → ℕ → List (Item Event) → List (Item Event) → Type 0
Installs c shard drawer before after = after ≡ before ++ Changed shard drawer c.table c.frontier c.removed (added_by c) (event.Changed c) ∷ []
