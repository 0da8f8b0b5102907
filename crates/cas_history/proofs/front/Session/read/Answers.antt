use Rattle.std.proofs.Common.{sym, subst}
use Rattle.cas_history.specs.Log.{Has}
use Rattle.cas_history.proofs.LogLists.{has_last}
use Rattle.cas_history.specs.declared.item.Item.TheVariants.{Read}
use Rattle.cas_history.proofs.front.Session.read.Goals as goal

pub returns-clause-kept : goal.returns-clause-kept
returns-clause-kept g c =
    let entered = c.accept_alone.ensures.entered in
    subst (λ l. Has l (Read c.args.self.now.list c.args.micros)) (sym entered.1) (has_last entered.0 (Read c.args.self.now.list c.args.micros))
