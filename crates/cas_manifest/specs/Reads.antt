-- How a manifest is read. Own.
use Rattle.std.specs.Prelude.{◌≡◌, ◌⊎◌, ℕ, List, length, Result, Ok, Err}
use Rattle.cas_changes.specs.Saying.{said_by}
use Rattle.cas_manifest.specs.File.{front, IsManifest}
use Rattle.cas_manifest.specs.Reading.{Far}
use Rattle.cas_codec.specs.declared.fault.ReadFault.{ReadFault}
use Rattle.cas_codec.specs.declared.fault.ReadFault.TheVariants.{Short, Bad as BadField}
use Rattle.cas_manifest.specs.declared.fault.ManifestFault.{ManifestFault}
use Rattle.cas_manifest.specs.declared.fault.ManifestFault.TheVariants.{TooMany, Failed, Stopped, Bad, Mem}

-- what is answered, its value seen by view, is what the reading gives, unless memory ran out
abbrev pub Reads : {X Y : Type 0} → (X → Y) → Result X ManifestFault → Result Y ReadFault → Type 0
Reads view (Ok x) read = read ≡ Ok (view x)
Reads view (Err (Bad at)) read = (read ≡ Err (Short at)) ⊎ (read ≡ Err (BadField at))
Reads view (Err Mem) read = Unit {0}
Reads view (Err (TooMany what limit)) read = ⊥
Reads view (Err Failed) read = ⊥
Reads view (Err (Stopped first)) read = ⊥

-- the file is a manifest with these entries; what they say together, and where its closed gate stands
pub record IsRead (far : Far) (at : ℕ) (file : List ℕ) : Type 0 where
  pub manifest : IsManifest far.1 file
  pub said : far.0 ≡ said_by far.1
  pub end : at ≡ length (front far.1)
