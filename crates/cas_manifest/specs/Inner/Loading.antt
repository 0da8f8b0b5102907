-- What is answered of a manifest that is made, and where none is. Own.
use Rattle.std.specs.Prelude.{◌≡◌, ◌⊎◌, ℕ, Bool, true, false, List, Option, Result, Ok, Err}
use Rattle.cas_disk.specs.Disk.{bytes_of}
use Rattle.cas_manifest.specs.Loading.{HasStore, IsEmpty, IsBadAt, new_store}
use Rattle.cas_manifest.specs.Manifests.{is_made}
use Rattle.cas_manifest.specs.Reading.{Far}
use Rattle.cas_manifest.specs.declared.fault.ManifestFault.{ManifestFault}
use Rattle.cas_manifest.specs.declared.fault.ManifestFault.TheVariants.{Bad}

-- of one that is made: its store, a new one in its place where it has no entries, or the place of the first field that isn't as it must be
abbrev pub LoadsMade : {T : Type 0} → (T → Far) → ℕ → List ℕ → Result T ManifestFault → Type 0
LoadsMade view shards file (Ok x) = HasStore file (view x) ⊎ (IsEmpty file × (view x ≡ new_store shards))
LoadsMade view shards file (Err (Bad at)) = IsBadAt file at
LoadsMade view shards file (Err _) = Unit {0}

-- where none is: a new store, unless there are other files of one
abbrev pub LoadsUnmade : {T : Type 0} → (T → Far) → ℕ → Bool → Result T ManifestFault → Type 0
LoadsUnmade view shards others (Ok x) = (others ≡ false) × (view x ≡ new_store shards)
LoadsUnmade view shards others (Err (Bad at)) = (others ≡ true) × (at ≡ 0)
LoadsUnmade view shards others (Err _) = Unit {0}

-- a store is made: what was found is no manifest, and there are no other files of a store; or it is one without entries
abbrev pub MayMake : Option (List ℕ) → Bool → Type 0
MayMake found others = ((is_made found ≡ false) × (others ≡ false)) ⊎ IsEmpty (bytes_of found)

-- of what was found, whether it is one or not
abbrev pub LoadsFound : {T : Type 0} → (T → Far) → ℕ → Option (List ℕ) → Bool → Result T ManifestFault → Type 0
LoadsFound view shards found others (Ok x) = HasStore (bytes_of found) (view x) ⊎ (MayMake found others × (view x ≡ new_store shards))
LoadsFound view shards found others (Err (Bad at)) =
    ((is_made found ≡ true) × IsBadAt (bytes_of found) at) ⊎ ((is_made found ≡ false) × (others ≡ true) × (at ≡ 0))
LoadsFound view shards found others (Err _) = Unit {0}
