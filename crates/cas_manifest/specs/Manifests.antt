-- What a manifest stands for, and what its calls leave. Own.
use Rattle.std.specs.Prelude.{◌≡◌, ◌≢◌, ◌⊎◌, ℕ, ◌+◌, ◌==◌, nat_lt, Bool, false, if◌then◌else◌, List, [], ◌∷◌, ◌++◌, length, Option, None, Some, Result, Ok, Err}
use Rattle.cas_io.specs.Causes.{Rose}
use Rattle.cas_disk.specs.declared.name.Name.TheVariants.{Manifest as manifest_name}
use Rattle.cas_disk.specs.Disk.{Disk, IsKept}
use Rattle.cas_gates.specs.declared.first.First.{First}
use Rattle.cas_changes.specs.declared.entry.Entry.{Entry}
use Rattle.cas_changes.specs.declared.said.TheConstants.{FILE_LIMIT, LISTED_LIMIT}
use Rattle.cas_changes.specs.Saying.{nothing, said_by, listed_after}
use Rattle.cas_changes.specs.Spelling.{entry_bytes}
use Rattle.cas_manifest.specs.File.{front, MayFollow, IsManifest}
use Rattle.cas_manifest.specs.declared.fault.Limit.TheVariants.{Bytes, Files}
use Rattle.cas_manifest.specs.declared.fault.ManifestFault.{ManifestFault}
use Rattle.cas_manifest.specs.declared.fault.ManifestFault.TheVariants.{TooMany, Failed, Stopped, Bad, Mem}
use Rattle.cas_manifest.specs.declared.manifest.Manifest.{Manifest}

-- where the closed gate of a manifest stands, and how many table files it lists
pub record Place : Type 0 where
  pub end : ℕ
  pub listed : ℕ

-- where a manifest stands on the disk
abbrev pub place_of : Manifest → Place
place_of m = record { end = m.end; listed = m.listed }

-- whatever a crash leaves, the manifest is there with these entries, and a gate that isn't open; what follows that was left by a crash
pub record Stands (place : Place) (disk : Disk) (entries : List Entry) : Type 0 where
  pub gate : ℕ
  pub rest : List ℕ
  pub closed : gate ≢ 1
  pub kept : IsKept manifest_name (front entries ++ gate ∷ rest) disk
  pub end : length (front entries) ≡ place.end
  pub listed : (said_by entries).listed ≡ place.listed
  pub follow : MayFollow nothing entries

-- the file has these entries, or these and one more
abbrev pub MayHave : List Entry → Entry → Option (List ℕ) → Type 0
MayHave entries e found = (file : List ℕ) × (found ≡ Some file) × (IsManifest entries file ⊎ IsManifest (entries ++ e ∷ []) file)

-- a manifest is made once its file has two bytes or more and its own gate is open
abbrev pub is_made : Option (List ℕ) → Bool
is_made None = false
is_made (Some []) = false
is_made (Some (gate ∷ [])) = false
is_made (Some (gate ∷ next ∷ rest)) = gate == 1

-- while a manifest is made: what was there before, one that isn't made, or one without entries
abbrev pub MayBegin : Option (List ℕ) → Option (List ℕ) → Type 0
MayBegin old new = (new ≡ old) ⊎ ((is_made new ≡ false) ⊎ ((file : List ℕ) × (new ≡ Some file) × IsManifest [] file))

-- how many bytes an entry takes in the file: its own, the eight before them in its block, and the next gate
abbrev pub room_of : Entry → ℕ
room_of e = length (entry_bytes e) + 9

-- The limit that an entry would pass: more than 4,096 table files listed after it, or more than 2^40 bytes of the file, which has a gate at its end,
-- with what the entry takes.
abbrev pub passes : Place → Entry → Option ManifestFault
passes place e =
    if nat_lt LISTED_LIMIT (listed_after place.listed e) then Some (TooMany Files LISTED_LIMIT)
    else if nat_lt FILE_LIMIT (place.end + room_of e + 1) then Some (TooMany Bytes FILE_LIMIT)
    else None

-- How an append ends, by the limit that the entry would pass: what fault was kept before and is kept now, the folder's count of faults before and
-- now. One that was kept stops it; where the folder fails that is kept, by the count.
abbrev pub Ends : {T : Type 0} → Option ManifestFault → Option First → Option First → ℕ → ℕ → Result T ManifestFault → Type 0
Ends limit (Some first) kept before now result = (result ≡ Err (Stopped first)) × (kept ≡ Some first) × (now ≡ before)
Ends limit None kept before now (Ok x) = (kept ≡ None) × (limit ≡ None)
Ends limit None kept before now (Err (TooMany what most)) = (kept ≡ None) × (limit ≡ Some (TooMany what most)) × (now ≡ before)
Ends limit None kept before now (Err Failed) = Rose before now × (kept ≡ Some (record { number = now })) × (limit ≡ None)
Ends limit None kept before now (Err Mem) = kept ≡ None
Ends limit None kept before now (Err (Stopped first)) = ⊥
Ends limit None kept before now (Err (Bad at)) = ⊥

-- a fault after which nothing was written
abbrev pub WritesNothing : ManifestFault → Type 0
WritesNothing Failed = ⊥
WritesNothing _ = Unit {0}
