-- How the store of a folder is opened. Storage engine: startup, replay of the commit log; own.
use Rattle.std.specs.Prelude.{◌≡◌, ◌≢◌, ◌⊎◌, ℕ, ◌+◌, ◌<◌, ◌≤◌, nat_lt, Bool, true, false, List, [], ◌∷◌, ◌++◌, length, filter, Result, Ok, Err}
use Rattle.cas_types.specs.Limits.{IsShardCount}
use Rattle.cas_disk.specs.declared.name.Name.{Name}
use Rattle.cas_disk.specs.declared.name.Name.TheVariants.{Manifest as manifest_name, Log as log_name, Table as table_name, Import as import_name}
use Rattle.cas_disk.specs.Disk.{Image, Disk, Same, Changed, bytes_of}
use Rattle.cas_codec.specs.Exact.{AreBytes}
use Rattle.cas_codec.specs.declared.fault.ReadFault.TheVariants.{Short, Bad as BadField}
use Rattle.cas_atoms.specs.declared.atom.Mutation.{Mutation}
use Rattle.cas_changes.specs.declared.entry.Entry.{Entry}
use Rattle.cas_changes.specs.declared.entry.Entry.TheVariants.{NewSegment}
use Rattle.cas_changes.specs.declared.said.TheConstants.{FILE_LIMIT, SEGMENT_LIMIT}
use Rattle.cas_changes.specs.Saying.{Saying, nothing, said_by, part_of, is_listed, has_file}
use Rattle.cas_changes.specs.Spelling.{entry_bytes}
use Rattle.cas_manifest.specs.File.{front, MayFollow}
use Rattle.cas_manifest.specs.Manifests.{is_made}
use Rattle.cas_manifest.specs.Reading.{Far}
use Rattle.cas_manifest.specs.Loading.{manifest_in, HasOthers, IsNew, HasStore, IsBadAt, MayBeNewStore, first_entries}
use Rattle.cas_replay.specs.Reading.{log_of, segment_in}
use Rattle.cas_replay.specs.Grammar.{AreOfALog}
use Rattle.cas_journal.specs.Stores.{IsStore, Found, found_in, Told, Holds, named}
use Rattle.cas_journal.specs.Journals.{Lasts}
use Rattle.cas_journal.specs.declared.journal.Journal.{Journal}
use Rattle.cas_opening.specs.declared.opened.OpenStore.{OpenStore}
use Rattle.cas_opening.specs.declared.opened.Opened.{Opened}
use Rattle.cas_opening.specs.declared.fault.OpenFault.{OpenFault}
use Rattle.cas_opening.specs.declared.fault.OpenFault.TheVariants.{Bad, Failed, Mem}

-- ---- what a folder has

-- each file of the image is made of bytes
abbrev pub IsOfBytes : Image → Type 0
IsOfBytes c = (n : Name) → AreBytes (bytes_of (c n))

-- Of these entries and mutations is the store that is opened: the one that is there, or a new one of so many shards where there is none yet.
abbrev pub OpensAs : ℕ → List Entry → List Mutation → Image → Type 0
OpensAs shards entries mutations c = IsStore entries mutations c ⊎ (IsNew c × (entries ≡ first_entries shards) × (mutations ≡ []))

-- the first field of a listed segment that isn't as it must be stands there
abbrev pub IsBadLog : Saying → ℕ → ℕ → Image → Type 0
IsBadLog s number at c =
    (log_of s.tables s.shards (segment_in c) s.segments [] ≡ Err (number, Short at))
    ⊎ (log_of s.tables s.shards (segment_in c) s.segments [] ≡ Err (number, BadField at))

-- Why a folder is refused: the first field of its manifest that isn't as it must be stands there, or there is no manifest, but a log or table file;
-- or it is a field of the first listed segment that has one.
abbrev pub IsRefused : Name → ℕ → Image → Type 0
IsRefused manifest_name at c =
    ((is_made (c manifest_name) ≡ true) × IsBadAt (manifest_in c) at) ⊎ ((is_made (c manifest_name) ≡ false) × HasOthers c × (at ≡ 0))
IsRefused (log_name number) at c = (far : Far) × HasStore (manifest_in c) far × IsBadLog far.0 number at c
IsRefused (table_name number) at c = ⊥
IsRefused (import_name number) at c = ⊥

-- ---- which files stay

-- a file of the number is listed of some table in some shard
pub record IsListedTable (s : Saying) (number : ℕ) : Type 0 where
  pub table : ℕ
  pub shard : ℕ
  pub defined : table < length s.tables
  pub within : shard < s.shards
  pub has : has_file (part_of s table shard).listed number ≡ true

-- a file that stays as it is: the manifest itself, a segment or a table that it lists, and one that waits to be imported
abbrev pub Stays : Saying → Name → Type 0
Stays s manifest_name = Unit {0}
Stays s (log_name number) = is_listed s.segments number ≡ true
Stays s (table_name number) = IsListedTable s number
Stays s (import_name number) = Unit {0}

-- ---- what is answered

-- a mutation above the frontier of its table and shard: it stands in no table file
abbrev pub is_above : Saying → Mutation → Bool
is_above s m = nat_lt (part_of s m.table m.shard).frontier m.number

-- the number of the next segment: one more than the greatest that was ever named
abbrev pub next_segment : List Entry → ℕ
next_segment entries = (said_by entries).last_segment + 1

-- the entry that names it
abbrev pub next_named : List Entry → Entry
next_named entries = NewSegment (next_segment entries)

-- No segment can be named any more: there is no number left, or the manifest has no place for the entry's block and the next gate.
abbrev pub IsFull : List Entry → Type 0
IsFull entries = (SEGMENT_LIMIT < next_segment entries) ⊎ (FILE_LIMIT < length (front entries) + length (entry_bytes (next_named entries)) + 10)

-- which segments are begun and named: the next one, or none where none can be
abbrev pub Begins : List Entry → List ℕ → Type 0
Begins entries numbers = (numbers ≡ next_segment entries ∷ []) ⊎ ((numbers ≡ []) × IsFull entries)

-- as far as the entries alone tell: the next one, where there is a number left, or none
abbrev pub MayBegin : List Entry → List ℕ → Type 0
MayBegin entries numbers = (numbers ≡ []) ⊎ ((numbers ≡ next_segment entries ∷ []) × (next_segment entries ≤ SEGMENT_LIMIT))

-- What was opened is read as a store of these entries and mutations, also where the folder tells nothing: the entries may follow one another, and the
-- first makes the store; its log may have the mutations; what the entries say is told, with the segment that was begun and named, and of the mutations
-- those above their frontiers are given, in order.
pub record IsReadWith (entries : List Entry) (mutations given : List Mutation) (j : Journal) (s : Saying) : Type 0 where
  pub made : entries ≢ []
  pub follow : MayFollow nothing entries
  pub shards : IsShardCount (said_by entries).shards
  pub log : AreOfALog (said_by entries).tables (said_by entries).shards mutations
  pub numbers : List ℕ
  pub begins : MayBegin entries numbers
  pub said : s ≡ said_by (entries ++ named numbers)
  pub above : given ≡ filter (is_above (said_by entries)) mutations
  pub last : j.last_segment ≤ next_segment entries

-- the same of a store that is opened with its mutations
abbrev pub IsReadAs : List Entry → List Mutation → Opened → Type 0
IsReadAs entries mutations o = IsReadWith entries mutations o.mutations.items o.journal o.said

-- what a store of these entries and mutations is found with: the segments that are listed, and all mutations
abbrev pub found_with : List Entry → List Mutation → Found
found_with entries mutations = found_in (said_by entries).segments mutations

-- what a journal is told that opens a store of these entries and mutations, and names these segments
abbrev pub told : List Entry → List Mutation → List ℕ → Told
told entries mutations numbers = record {
  found = found_with entries mutations;
  entries = entries ++ named numbers;
  failed = [];
  taken = mutations;
  committed = length mutations;
  leaving = 0;
}

-- The store that was opened: its journal goes on behind the mutations that were there; of these those above their frontiers are given, in order.
pub record IsOpenedWith (entries : List Entry) (mutations given : List Mutation) (j : Journal) (s : Saying) (disk : Disk) : Type 0 where
  pub numbers : List ℕ
  pub begins : Begins entries numbers
  pub lasts : Lasts j disk (told entries mutations numbers)
  pub said : s ≡ said_by (entries ++ named numbers)
  pub above : given ≡ filter (is_above (said_by entries)) mutations

-- the same of a store that is opened with its mutations
abbrev pub IsOpened : List Entry → List Mutation → Opened → Disk → Type 0
IsOpened entries mutations o disk = IsOpenedWith entries mutations o.mutations.items o.journal o.said disk

-- the given ones are a front of the mutations that are above their frontiers
abbrev pub AreFirst : List Entry → List Mutation → List Mutation → Type 0
AreFirst entries mutations given = (rest : List Mutation) × (filter (is_above (said_by entries)) mutations ≡ given ++ rest)

-- How the opening of a store of these entries and mutations ends that hands some on: it isn't refused; where the folder failed or memory ran out, a front
-- of those above their frontiers was given.
abbrev pub EndsWith : List Entry → List Mutation → List Mutation → Disk → Result OpenStore OpenFault → Type 0
EndsWith entries mutations given disk (Ok o) = IsOpenedWith entries mutations given o.journal o.said disk
EndsWith entries mutations given disk (Err (Bad name at)) = ⊥
EndsWith entries mutations given disk (Err Failed) = AreFirst entries mutations given
EndsWith entries mutations given disk (Err Mem) = AreFirst entries mutations given

-- how the opening of a store of these entries and mutations ends: it isn't refused
abbrev pub Ends : List Entry → List Mutation → Disk → Result Opened OpenFault → Type 0
Ends entries mutations disk (Ok o) = IsOpened entries mutations o disk
Ends entries mutations disk (Err (Bad name at)) = ⊥
Ends entries mutations disk (Err Failed) = Unit {0}
Ends entries mutations disk (Err Mem) = Unit {0}

-- why the opening of a folder ends so: it has a store, or none yet; or a field isn't as it must be
abbrev pub Answers : {T : Type 0} → ℕ → Image → Result T OpenFault → Type 0
Answers shards c (Ok x) = (entries : List Entry) × (mutations : List Mutation) × OpensAs shards entries mutations c
Answers shards c (Err (Bad name at)) = IsRefused name at c
Answers shards c (Err Failed) = Unit {0}
Answers shards c (Err Mem) = Unit {0}

-- ---- what is left

-- what each image has while the next segment is begun: the store, with the entry that names it or without
abbrev pub while_named : List Entry → List Mutation → Told
while_named entries mutations = record {
  found = found_with entries mutations;
  entries = entries;
  failed = next_named entries ∷ [];
  taken = mutations;
  committed = length mutations;
  leaving = 0;
}

-- the image has the store of these entries and mutations, and each file that stays as it was, but the manifest
pub record HasStayed (entries : List Entry) (mutations : List Mutation) (d c : Image) : Type 0 where
  pub holds : Holds (while_named entries mutations) c
  pub stays : (n : Name) → n ≢ manifest_name → Stays (said_by entries) n → c n ≡ d n

-- while a store is opened: what was there before, or the store
abbrev pub MayBeOpened : List Entry → List Mutation → Image → Image → Type 0
MayBeOpened entries mutations d c = Same d c ⊎ HasStayed entries mutations d c

-- while a store of so many shards is made and opened: its manifest is made; or it is the new store
abbrev pub MayBeMadeNew : ℕ → Image → Image → Type 0
MayBeMadeNew shards d c = Changed manifest_name (MayBeNewStore shards) d c ⊎ HasStayed (first_entries shards) [] d c
