-- One line's turn, and what came of its reply (own).
use Rattle.std.specs.Prelude.{◌≡◌, ℕ, ℤ, false, Option, None, Some, List}
use Rattle.std.specs.Io.KnownBytes.{Appends, Keeps}
use Rattle.cas_io.specs.Streams.{AppendsFront}
use Rattle.cas_io.specs.declared.script.ScriptFault.{ScriptFault}
use Rattle.cas_io.specs.declared.script.ScriptFault.TheVariants as fault
use Rattle.cas_recovery.specs.declared.fault.RecoveryFault.{RecoveryFault}
use Rattle.cas_recovery.specs.declared.fault.RecoveryFault.TheVariants as recovery
use Rattle.cas_render.specs.declared.reply.Reply.{Reply}
use Rattle.cas_render.specs.Text.{reply_text}
use Rattle.cas_words.specs.declared.words.ClockKind.{ClockKind}
use Rattle.cas_node.specs.declared.cause.Cause.{Cause}
use Rattle.cas_node.specs.declared.cause.Cause.TheVariants as cause
use Rattle.cas_node.specs.declared.script.PrintFault.{PrintFault}
use Rattle.cas_node.specs.declared.upshot.Upshot.{Upshot}
use Rattle.cas_node.specs.declared.script.PrintFault.TheVariants as print
use Rattle.cas_lasting.specs.History.{History, tells_want}
use Rattle.cas_node.specs.Lines.{Answers}
use Rattle.cas_node.specs.Ran.{upshot_cause, worse}

-- what came of writing a reply: all of it was written; a front of it; or nothing, as memory ran out, and it isn't `failed memory`
abbrev pub PrintedReply : Option PrintFault → Reply → Option (List ℕ) → Option (List ℕ) → Type 0
PrintedReply None r old new = Appends old new (reply_text r)
PrintedReply (Some print.Write) r old new = AppendsFront old new (reply_text r)
PrintedReply (Some print.Mem) r old new = (tells_want r ≡ false) × Keeps old new

-- what came of writing what a line is answered; where it isn't answered, nothing is to be written
abbrev pub Printed : Option PrintFault → Option Reply → Option (List ℕ) → Option (List ℕ) → Type 0
Printed fault None old new = (fault ≡ None) × Keeps old new
Printed fault (Some r) old new = PrintedReply fault r old new

-- one line was run, and this came of writing its reply
pub record Turned (kind : ClockKind) (Gives : ℤ → Type 0) (before : History) (line : List ℕ) (after : History)
    (old new : Option (List ℕ)) (why : Cause) (fault : Option PrintFault) : Type 0 where
  pub upshot : Upshot
  pub answers : Answers kind Gives before line upshot after
  pub told : why ≡ upshot_cause upshot
  pub printed : Printed fault upshot.reply old new

-- replies say this of a run's end
abbrev pub IsToldSo : Cause → Type 0
IsToldSo cause.Good = Unit {0}
IsToldSo cause.Refused = Unit {0}
IsToldSo (cause.Bad name at) = Unit {0}
IsToldSo cause.Mem = Unit {0}
IsToldSo _ = ⊥

-- a run that answered lines ends so
abbrev pub IsEnd : Cause → Type 0
IsEnd cause.Good = Unit {0}
IsEnd cause.Refused = Unit {0}
IsEnd cause.Write = Unit {0}
IsEnd (cause.Bad name at) = Unit {0}
IsEnd cause.Mem = Unit {0}
IsEnd _ = ⊥

-- why a run ends that came to this cause, where a reply wasn't written
abbrev pub StopsFor : PrintFault → Cause → Cause → Type 0
StopsFor print.Write before why = why ≡ worse before cause.Write
StopsFor print.Mem before why = why ≡ cause.Mem

-- why a run ends whose script couldn't be read
abbrev pub cause_of_fault : ScriptFault → Cause
cause_of_fault fault.Read = cause.Read
cause_of_fault (fault.TooLong taken) = cause.TooLong taken
cause_of_fault fault.Mem = cause.Mem

-- why an opening ends the run
abbrev pub cause_of_opening : RecoveryFault → Cause
cause_of_opening (recovery.Bad name at) = cause.Bad name at
cause_of_opening recovery.Failed = cause.Disk
cause_of_opening recovery.Read = cause.Disk
cause_of_opening recovery.Mem = cause.Mem
