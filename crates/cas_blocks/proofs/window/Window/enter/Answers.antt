use Rattle.std.proofs.Common.{refl}
use Rattle.cas_blocks.proofs.WindowLaws.{enters}
use Rattle.cas_blocks.proofs.window.Window.enter.Goals as goal

pub returns-in-Before-clause-told : goal.returns-in-Before-clause-told
returns-in-Before-clause-told g c = λ fs told.
    let w = c.args.self.now in
    enters c.args.file.now.order.now w.slice w.phase w.force c.seek.new.force w.ahead c.in_ok-ahead.ahead _ _ fs c.in_ok-opening.field-0 c.in-Before.is told
    c.in_ok-ahead.ensures.told c.in_ok-opening.ensures

pub returns-clause-told : goal.returns-clause-told
returns-clause-told g c = λ fs told. record { rest = fs; left_is = told; same = refl }
