use Rattle.std.proofs.Common.{◌∙◌, ap, sym}
use Rattle.cas_history.proofs.Parts.{owned}
use Rattle.cas_history.specs.Items.{items, log_list}
use Rattle.cas_history.specs.Laws.{writes_of}
use Rattle.cas_history.proofs.Shares.{session_writes}
use Rattle.cas_history.proofs.laws.session_stands.Goals as goal

pub returns-clause-law : goal.returns-clause-law
returns-clause-law g c =
    let session = c.args.session.now in
    let shown = c.look.ensures in
    let log = shown.known.0.1 log_list (owned items c.args.log.now.pass log_list c.args.log.now.owns) in
    let diary = shown.known.1.0.1 session.list (owned items session.pass session.list session.owns.1) in
    ap (writes_of session.list) log ∙ (session_writes session.list _ shown.legal ∙ sym (ap (writes_of session.list) diary))
