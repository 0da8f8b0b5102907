-- How a folder's store is loaded, or made where none is. Own.
use Rattle.std.specs.Prelude.{◌≡◌, ◌≢◌, ◌⊎◌, ℕ, Bool, true, false, List, [], ◌∷◌, Option, None, Result, Ok, Err}
use Rattle.cas_codec.specs.declared.fault.ReadFault.TheVariants.{Short, Bad as BadField}
use Rattle.cas_disk.specs.declared.name.Name.{Name}
use Rattle.cas_disk.specs.declared.name.Name.TheVariants.{Manifest as manifest_name, Log, Table}
use Rattle.cas_disk.specs.Disk.{Image, bytes_of}
use Rattle.cas_changes.specs.declared.entry.Entry.{Entry}
use Rattle.cas_changes.specs.declared.entry.Entry.TheVariants.{Store}
use Rattle.cas_changes.specs.Saying.{nothing, said_by}
use Rattle.cas_manifest.specs.Manifests.{is_made, MayHave}
use Rattle.cas_manifest.specs.Reading.{Far, manifest_of}
use Rattle.cas_manifest.specs.declared.fault.ManifestFault.{ManifestFault}
use Rattle.cas_manifest.specs.declared.fault.ManifestFault.TheVariants.{TooMany, Failed, Stopped, Bad, Mem}

-- ---- what a folder has

-- the bytes of the manifest's file, none where it isn't there
abbrev pub manifest_in : Image → List ℕ
manifest_in c = bytes_of (c manifest_name)

-- a file of a store that stands beside its manifest: a segment of the log, or a table
abbrev pub is_beside : Name → Bool
is_beside (Log n) = true
is_beside (Table n) = true
is_beside _ = false

-- one is there
abbrev pub HasOthers : Image → Type 0
HasOthers c = (n : Name) × (is_beside n ≡ true) × (c n ≢ None)

-- none is
abbrev pub IsBare : Image → Type 0
IsBare c = (n : Name) → is_beside n ≡ true → c n ≡ None

-- the file is a manifest without entries: a crash came before the first
abbrev pub IsEmpty : List ℕ → Type 0
IsEmpty file = (at : ℕ) × (manifest_of file ≡ Ok ((nothing, []), at))

-- There is no store yet: no manifest is made, and no log or table file is there; or the manifest that is made has no entries.
abbrev pub IsNew : Image → Type 0
IsNew c = ((is_made (c manifest_name) ≡ false) × IsBare c) ⊎ IsEmpty (manifest_in c)

-- ---- what is answered

-- the first entry of a manifest, which says how many shards the store has
abbrev pub first_entry : ℕ → Entry
first_entry shards = Store shards

-- the entries of a store that was made just now
abbrev pub first_entries : ℕ → List Entry
first_entries shards = first_entry shards ∷ []

-- and what they say
abbrev pub new_store : ℕ → Far
new_store shards = (said_by (first_entries shards), first_entries shards)

-- the file is a manifest with entries, and these are they
abbrev pub HasStore : List ℕ → Far → Type 0
HasStore file far = (at : ℕ) × (manifest_of file ≡ Ok (far, at)) × (far.1 ≢ [])

-- the first field of the file that isn't as it must be stands there
abbrev pub IsBadAt : List ℕ → ℕ → Type 0
IsBadAt file at = (manifest_of file ≡ Err (Short at)) ⊎ (manifest_of file ≡ Err (BadField at))

-- What loading answers, its value seen by view, of what the folder reads: the store that is there, or a new one where none is; the place of the
-- first field of the manifest that isn't as it must be, or 0 where no manifest is made and a log or table file is there; or the folder failed, or
-- memory ran out.
abbrev pub Loads : {T : Type 0} → (T → Far) → ℕ → Image → Result T ManifestFault → Type 0
Loads view shards c (Ok x) = HasStore (manifest_in c) (view x) ⊎ (IsNew c × (view x ≡ new_store shards))
Loads view shards c (Err (Bad at)) =
    ((is_made (c manifest_name) ≡ true) × IsBadAt (manifest_in c) at) ⊎ ((is_made (c manifest_name) ≡ false) × HasOthers c × (at ≡ 0))
Loads view shards c (Err _) = Unit {0}

-- a fault with which loading may end
abbrev pub EndsLoading : ManifestFault → Type 0
EndsLoading (Bad at) = Unit {0}
EndsLoading Failed = Unit {0}
EndsLoading Mem = Unit {0}
EndsLoading (TooMany what limit) = ⊥
EndsLoading (Stopped first) = ⊥

-- ---- what is left

-- while a store is made: what was there before, no manifest yet, one without entries, or the new store's
abbrev pub MayBeNewStore : ℕ → Option (List ℕ) → Option (List ℕ) → Type 0
MayBeNewStore shards old new = (new ≡ old) ⊎ ((is_made new ≡ false) ⊎ MayHave [] (first_entry shards) new)
