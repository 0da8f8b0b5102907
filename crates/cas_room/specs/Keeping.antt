-- What a room's folder stands for, in the words of the history. Own.
use Rattle.std.specs.Prelude.{◌≡◌, ℕ, ◌+◌, ◌<◌, ◌≤◌, List, [], ◌∷◌, ◌++◌, length, take}
use Rattle.std.specs.List.{AllByRecursion}
use Rattle.cas_disk.specs.Disk.{Image, Disk}
use Rattle.cas_atoms.specs.declared.atom.Mutation.{Mutation}
use Rattle.cas_changes.specs.Saying.{Saying, part_of, said_by}
use Rattle.cas_changes.specs.declared.entry.Entry.{Entry}
use Rattle.cas_changes.specs.declared.entry.Entry.TheVariants as entry
use Rattle.cas_history.specs.declared.item.Item.{Item}
use Rattle.cas_journal.specs.Stores.{Told, IsStore}
use Rattle.cas_journal.specs.Journals.{Lasts}
use Rattle.cas_journal.specs.declared.journal.Journal.{Journal}
use Rattle.cas_room.specs.declared.event.Event.{Event}
use Rattle.cas_room.specs.Rooms.{accepted_in}

-- ---- mutations whose segments were dropped

-- A mutation that stands in table files, by what a manifest says: it is of a table and of a shard that there are, at or below their frontier.
pub record IsFlushed (s : Saying) (m : Mutation) : Type 0 where
  pub table : m.table < length s.tables
  pub shard : m.shard < s.shards
  pub below : m.number ≤ (part_of s m.table m.shard).frontier

-- all of these do, by what the entries of a manifest say
abbrev pub AreFlushed : List Entry → List Mutation → Type 0
AreFlushed entries mutations = AllByRecursion (IsFlushed (said_by entries)) mutations

-- The image is a store that has these mutations: its log has them, but for some at the front, whose segments were dropped, and which stand in table files.
pub record Stores (entries : List Entry) (mutations : List Mutation) (c : Image) : Type 0 where
  pub dropped : List Mutation
  pub logged : List Mutation
  pub are : mutations ≡ dropped ++ logged
  pub flushed : AreFlushed entries dropped
  pub store : IsStore entries logged c

-- ---- what the journal was told

-- an entry that failed, and may be there or not, if there is one: it makes no store, and no frontier falls by it
abbrev pub MayFail : Saying → List Entry → Type 0
MayFail s [] = Unit {0}
MayFail s (entry.Store shards ∷ []) = ⊥
MayFail s (entry.Change c ∷ []) = (part_of s c.table c.shard).frontier ≤ c.frontier
MayFail s (e ∷ []) = Unit {0}
MayFail s (e ∷ other ∷ others) = ⊥

-- What a journal was told are the mutations that the opening found, and then those that were accepted, each in its order; but for some at the front, whose
-- segments were dropped. At least as many are committed as the room said. Those that leave with an entry that failed stand in table files too.
pub record HasTaken (found accepted : List Mutation) (said : ℕ) (t : Told) : Type 0 where
  pub origin : t.found.mutations ≡ found
  pub dropped : List Mutation
  pub all : dropped ++ t.taken ≡ found ++ accepted
  pub committed : length found + said ≤ length dropped + t.committed
  pub flushed : AreFlushed t.entries dropped
  pub few : t.leaving ≤ length t.taken
  pub leaving : AreFlushed t.entries (take t.leaving t.taken)
  pub failing : MayFail (said_by t.entries) t.failed

-- A journal over a folder with this disk keeps a list of the room, of which it said that so many are committed.
pub record Keeps (journal : Journal) (disk : Disk) (list : List (Item Event)) (said : ℕ) (found : List Mutation) (t : Told) : Type 0 where
  pub lasts : Lasts journal disk t
  pub has : HasTaken found (accepted_in list) said t

-- The image stands for a front of what was accepted: it is a store, with such entries, that has the mutations that the opening found and the first ones that
-- were accepted, in their order, each whole; no fewer than were said to be committed.
pub record StandsFor (May : List Entry → Type 0) (found accepted : List Mutation) (said : ℕ) (c : Image) : Type 0 where
  pub entries : List Entry
  pub may : May entries
  pub count : ℕ
  pub least : said ≤ count
  pub most : count ≤ length accepted
  pub store : Stores entries (found ++ take count accepted) c
