-- What faults of what is called are to the recovery. Own.
use Rattle.cas_disk.specs.declared.name.Name.TheVariants.{Table as table_name}
use Rattle.cas_listed.specs.declared.fault.ListedFault.{ListedFault}
use Rattle.cas_listed.specs.declared.fault.ListedFault.TheVariants as listed
use Rattle.cas_opening.specs.declared.fault.OpenFault.{OpenFault}
use Rattle.cas_opening.specs.declared.fault.OpenFault.TheVariants as opening
use Rattle.cas_recovery.specs.declared.fault.RecoveryFault.{RecoveryFault}
use Rattle.cas_recovery.specs.declared.fault.RecoveryFault.TheVariants as fault

-- what a fault of the opening is
abbrev pub of_opening : OpenFault → RecoveryFault
of_opening (opening.Bad name at) = fault.Bad name at
of_opening opening.Failed = fault.Failed
of_opening opening.Mem = fault.Mem

-- what a fault of the listed files is
abbrev pub of_listed : ListedFault → RecoveryFault
of_listed listed.Failed = fault.Failed
of_listed listed.Read = fault.Read
of_listed (listed.Bad number at) = fault.Bad (table_name number) at
of_listed listed.Mem = fault.Mem
