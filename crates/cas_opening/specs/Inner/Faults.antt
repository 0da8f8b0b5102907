-- Faults of the calls below as ones of the opening. Own.
use Rattle.cas_disk.specs.declared.fault.FolderFault.{FolderFault}
use Rattle.cas_disk.specs.declared.fault.FolderFault.TheVariants as folder_fault
use Rattle.cas_disk.specs.declared.name.Name.TheVariants.{Manifest, Log}
use Rattle.cas_manifest.specs.declared.fault.ManifestFault.{ManifestFault}
use Rattle.cas_manifest.specs.declared.fault.ManifestFault.TheVariants as manifest_fault
use Rattle.cas_replay.specs.declared.fault.ReplayFault.{ReplayFault}
use Rattle.cas_replay.specs.declared.fault.ReplayFault.TheVariants as replay_fault
use Rattle.cas_opening.specs.declared.fault.OpenFault.{OpenFault}
use Rattle.cas_opening.specs.declared.fault.OpenFault.TheVariants.{Bad, Failed, Mem}

-- of loading the manifest, where it ends with one of three
abbrev pub of_loading : ManifestFault → OpenFault
of_loading (manifest_fault.Bad at) = Bad Manifest at
of_loading manifest_fault.Failed = Failed
of_loading manifest_fault.Mem = Mem
of_loading (manifest_fault.TooMany what limit) = Mem
of_loading (manifest_fault.Stopped first) = Mem

-- of the replay
abbrev pub of_replay : ReplayFault → OpenFault
of_replay (replay_fault.Bad segment at) = Bad (Log segment) at
of_replay replay_fault.Failed = Failed
of_replay replay_fault.Mem = Mem

-- of the folder
abbrev pub of_folder : FolderFault → OpenFault
of_folder folder_fault.Failed = Failed
of_folder folder_fault.Mem = Mem

-- the folder failed, or memory ran out
abbrev pub IsOfFolder : OpenFault → Type 0
IsOfFolder Failed = Unit {0}
IsOfFolder Mem = Unit {0}
IsOfFolder (Bad name at) = ⊥
