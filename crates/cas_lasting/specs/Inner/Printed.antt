-- What is printed where the room didn't take something (own).
use Rattle.cas_effects.specs.declared.refusal.TheConstants.{TOO_LARGE, TOO_MANY}
use Rattle.cas_journal.specs.declared.fault.JournalFault.{JournalFault}
use Rattle.cas_journal.specs.declared.fault.JournalFault.TheVariants.{TooLarge, TooMany, Stopped, Failed, Mem}
use Rattle.cas_render.specs.declared.reply.Failure.TheVariants as failure
use Rattle.cas_render.specs.declared.reply.Reply.{Reply}
use Rattle.cas_render.specs.declared.reply.Reply.TheVariants as reply

-- what is printed for a write or a definition that the room didn't take
abbrev pub reply_for : JournalFault → Reply
reply_for (TooLarge length limit) = reply.Refused TOO_LARGE
reply_for (TooMany what limit) = reply.Refused TOO_MANY
reply_for (Stopped first) = reply.Failed failure.Stopped
reply_for Failed = reply.Failed failure.Disk
reply_for Mem = reply.Failed failure.Memory
