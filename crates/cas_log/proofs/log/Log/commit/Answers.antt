use Rattle.std.proofs.Common.{arith}
use Rattle.cas_log.specs.Logs.{place_of}
use Rattle.cas_log.proofs.OneBlockMore.{leaves_either, stands_more}
use Rattle.cas_log.proofs.log.Log.commit.Goals as goal

pub returns-in-Ok-clause-committed : goal.returns-in-Ok-clause-committed
returns-in-Ok-clause-committed g c committed pushed stands has =
    stands_more c.args.self.now _ committed pushed stands has c.deref.result.now c.deref.ensures.value _ c.in-Ok.ensures.opened (place_of c.settle.new.self) _
    (omega (arith, c.deref.ensures.len)) c.settle.ensures.place

pub returns-in-Ok-clause-during : goal.returns-in-Ok-clause-during
returns-in-Ok-clause-during g c committed pushed stands has =
    leaves_either c.args.self.now _ committed pushed stands has c.deref.result.now c.deref.ensures.value (omega (arith, c.deref.ensures.len, c.args.self.now.room)) _ c.in-Ok.ensures.during

pub returns-in-Err-clause-during : goal.returns-in-Err-clause-during
returns-in-Err-clause-during g c committed pushed stands has =
    leaves_either c.args.self.now _ committed pushed stands has c.deref.result.now c.deref.ensures.value (omega (arith, c.deref.ensures.len, c.args.self.now.room)) _ c.in-Err.ensures.during
