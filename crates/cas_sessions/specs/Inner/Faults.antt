-- What is answered that the room didn't take, or of which nothing is shown (own).
use Rattle.std.specs.Prelude.{None}
use Rattle.cas_blocks.specs.declared.fault.TableFault.{TableFault}
use Rattle.cas_blocks.specs.declared.fault.TableFault.TheVariants as table_fault
use Rattle.cas_effects.specs.declared.refusal.TheConstants.{TOO_LARGE, TOO_MANY}
use Rattle.cas_journal.specs.declared.fault.JournalFault.{JournalFault}
use Rattle.cas_journal.specs.declared.fault.JournalFault.TheVariants.{TooLarge, TooMany, Stopped, Failed, Mem}
use Rattle.cas_sessions.specs.declared.answer.Answer.{Answer}
use Rattle.cas_sessions.specs.declared.answer.Answer.TheVariants.{Wrote}
use Rattle.cas_sessions.specs.declared.answer.Fault.{Fault}
use Rattle.cas_sessions.specs.declared.answer.Fault.TheVariants as fault_of

-- what a write or a definition is answered that the room didn't take
abbrev pub fault_for : JournalFault → Fault
fault_for (TooLarge length limit) = fault_of.Refused TOO_LARGE
fault_for (TooMany what limit) = fault_of.Refused TOO_MANY
fault_for (Stopped first) = fault_of.Stopped first
fault_for Failed = fault_of.Disk None
fault_for Mem = fault_of.Mem

-- what a SELECT is answered of which nothing is shown
abbrev pub fault_of_table : TableFault → Fault
fault_of_table table_fault.Read = fault_of.Read
fault_of_table (table_fault.BadBlock number at) = fault_of.BadBlock number at
fault_of_table table_fault.Mem = fault_of.Mem

-- an answer that isn't a mutation's
abbrev pub IsOther : Answer → Type 0
IsOther (Wrote number table shard) = ⊥
IsOther a = Unit {0}
