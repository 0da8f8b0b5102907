-- While a manifest's file is made. Own.
use Rattle.std.specs.Prelude.{◌≡◌, ◌≢◌, ◌⊎◌, ℕ, Bool, true, false, List, ◌∷◌, Option, None}
use Rattle.cas_disk.specs.declared.fault.FolderFault.{FolderFault}
use Rattle.cas_disk.specs.declared.fault.FolderFault.TheVariants as folder_fault
use Rattle.cas_disk.specs.declared.name.Name.TheVariants.{Manifest as manifest_name}
use Rattle.cas_disk.specs.Disk.{Image, Disk, IsKept}
use Rattle.cas_manifest.specs.Manifests.{is_made}
use Rattle.cas_manifest.specs.declared.fault.ManifestFault.{ManifestFault}
use Rattle.cas_manifest.specs.declared.fault.ManifestFault.TheVariants.{TooMany, Failed, Stopped, Bad, Mem}

-- what was there before, or no manifest
abbrev pub MayStayShut : Option (List ℕ) → Option (List ℕ) → Type 0
MayStayShut old new = (new ≡ old) ⊎ (is_made new ≡ false)

-- What was found under the manifest's name: a file with these bytes, which lasts, or none.
abbrev pub IsFound : Bool → List ℕ → Disk → Type 0
IsFound true file disk = IsKept manifest_name file disk
IsFound false file disk = (c : Image) → disk.reads c → c manifest_name ≡ None

-- whatever a crash leaves, the manifest's file begins with a gate that isn't open
pub record StandsShut (disk : Disk) : Type 0 where
  pub gate : ℕ
  pub rest : List ℕ
  pub closed : gate ≢ 1
  pub kept : IsKept manifest_name (gate ∷ rest) disk

-- what a fault of the folder is to the manifest
abbrev pub of_folder : FolderFault → ManifestFault
of_folder folder_fault.Failed = Failed
of_folder folder_fault.Mem = Mem

-- the folder failed, or memory ran out
abbrev pub IsFolderFault : ManifestFault → Type 0
IsFolderFault Failed = Unit {0}
IsFolderFault Mem = Unit {0}
IsFolderFault (Bad at) = ⊥
IsFolderFault (TooMany what limit) = ⊥
IsFolderFault (Stopped first) = ⊥
