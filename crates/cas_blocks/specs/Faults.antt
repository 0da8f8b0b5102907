-- Why nothing more is read of a table (own).
use Rattle.cas_disk.specs.declared.fault.FolderFault.{FolderFault}
use Rattle.cas_disk.specs.declared.fault.FolderFault.TheVariants as folder_fault
use Rattle.cas_blocks.specs.declared.fault.TableFault.{TableFault}
use Rattle.cas_blocks.specs.declared.fault.TableFault.TheVariants as table_fault

-- a file that failed, or no memory
abbrev pub of_folder : FolderFault → TableFault
of_folder folder_fault.Failed = table_fault.Read
of_folder folder_fault.Mem = table_fault.Mem
