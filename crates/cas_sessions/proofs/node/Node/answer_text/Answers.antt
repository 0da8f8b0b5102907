use Rattle.std.proofs.Common.{refl, arith}
use Rattle.cas_lasting.proofs.Crashing.{amid_nothing}
use Rattle.cas_sessions.proofs.Performing.{found_spelled, performs_nothing, performs_statement, tells_nothing}
use Rattle.cas_disk.proofs.Moments.{no_call}
use Rattle.cas_journal.specs.Stores.{SameTables}
use Rattle.cas_lasting.proofs.Listing.{lists_nothing}
use Rattle.cas_lasting.proofs.Going.{numbers_none}
use Rattle.cas_sessions.proofs.node.Node.answer_text.Goals as goal

pub answer-requires-clause-spelled : goal.answer-requires-clause-spelled
answer-requires-clause-spelled g c = found_spelled c.args.defines c.args.text.now c.in-Ok.statement c.in-Ok.ensures

pub returns-in-Ok-clause-performs : goal.returns-in-Ok-clause-performs
returns-in-Ok-clause-performs g c = λ at.
    performs_statement c.args.defines (g.C.Clock.may_give c.args.clock.now) c.args.text.now c.in-Ok.statement _ _ _ _ _ (c.answer.ensures.does at tt) c.in-Ok.ensures

pub returns-in-Err-clause-performs : goal.returns-in-Err-clause-performs
returns-in-Err-clause-performs g c = λ at.
    performs_nothing c.args.defines (g.C.Clock.may_give c.args.clock.now) c.args.text.now c.in-Err.fault _ _ c.in-Err.ensures

pub returns-in-Err-clause-crash : goal.returns-in-Err-clause-crash
returns-in-Err-clause-crash g c = λ at h found told stands lasts. amid_nothing h found _ _ told stands lasts _

pub returns-in-Err-clause-told : goal.returns-in-Err-clause-told
returns-in-Err-clause-told g c = tells_nothing c.args.defines c.args.text.now c.in-Err.fault _ c.in-Err.ensures

pub returns-in-Err-clause-counts : goal.returns-in-Err-clause-counts
returns-in-Err-clause-counts g c = (omega arith, omega arith, omega arith)

pub returns-in-Err-clause-tables : goal.returns-in-Err-clause-tables
returns-in-Err-clause-tables g c = no_call SameTables _

pub returns-in-Err-clause-lists : goal.returns-in-Err-clause-lists
returns-in-Err-clause-lists g c = λ at. lists_nothing _ _

pub returns-in-Err-clause-numbers : goal.returns-in-Err-clause-numbers
returns-in-Err-clause-numbers g c = λ at. numbers_none _ _ refl refl
