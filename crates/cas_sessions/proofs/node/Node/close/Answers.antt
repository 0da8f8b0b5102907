use Rattle.std.proofs.Common.{subst}
use Rattle.cas_lasting.proofs.Serving.{is_left}
use Rattle.cas_sessions.proofs.node.Node.close.Goals as goal

pub returns-clause-left : goal.returns-clause-left
returns-clause-left g c = λ session calls clock h found told stands lasts i leaves.
    is_left h found _ _ told stands lasts i
    (c.images_stand.ensures.law found told lasts.keeps i (subst (λ x. (g.F.Folder.disk x).may_leave i) c.close-folder.ensures.folder leaves))
