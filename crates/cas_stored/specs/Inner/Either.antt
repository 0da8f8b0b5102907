-- What is said of sources of one kind or another (own).
use Rattle.std.specs.Prelude.{Option, None, Some}
use Rattle.std.specs.Option.{option_map}
use Rattle.cas_blocks.specs.declared.fault.TableFault.{TableFault}
use Rattle.cas_blocks.specs.declared.fault.TableFault.TheVariants.{Mem}
use Rattle.cas_stored.specs.declared.source.StoredSource.{StoredSource}
use Rattle.cas_stored.specs.declared.source.StoredSource.TheVariants.{Memory, File}

-- by a definition for each kind
abbrev pub of_either : {M F X : Type 0} → (M → X) → (F → X) → StoredSource M F → X
of_either memory file (Memory m) = memory m
of_either memory file (File f) = file f

-- the fault by which it is broken; in memory that is want of memory
abbrev pub fault_of : {M F E : Type 0} → (M → Option E) → (F → Option TableFault) → StoredSource M F → Option TableFault
fault_of memory file (Memory m) = option_map (λ e. Mem) (memory m)
fault_of memory file (File f) = file f

-- that of a file, where it is one
abbrev pub file_in : {M F : Type 0} → StoredSource M F → Option F
file_in (Memory m) = None
file_in (File f) = Some f
