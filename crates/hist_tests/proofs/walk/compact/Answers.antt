use Rattle.std.proofs.Common.{◌≡◌, ◌+◌, ◌≤◌, ◌∙◌, ap, inl, refl, sym, subst, arith}
use Rattle.cas_history.specs.Log.{Has}
use Rattle.cas_history.specs.Items.{listed, changes_list}
use Rattle.cas_history.specs.Last.{files_of, holds}
use Rattle.cas_lifecycle.specs.Books.{is_live}
use Rattle.hist_tests.proofs.Oks.{on_ok}
use Rattle.hist_tests.proofs.walk.compact.Goals as goal

pub install-requires-clause-live : goal.install-requires-clause-live
install-requires-clause-live g c =
    let next : c.draw-file.result ≡ c.args.numbers.now.last + 1 = c.draw-file.ensures.next.0 in
    let low : 7 ≤ c.args.numbers.now.last = c.requires.last.0 in
    (ap is_live (c.pin.ensures.others c.draw-file.result (λ (is : c.draw-file.result ≡ 3). absurd (omega arith))) ∙ ap is_live (on_ok _ _ c.expect.ensures c.add.ensures.ok), tt)

pub install-requires-clause-added : goal.install-requires-clause-added
install-requires-clause-added g c = (
  ((λ h. h), tt),
  (ap (λ l. holds c.draw-file.result (listed l c.draw-file.new.files.pass.saw)) c.draw-file.ensures.files.0 ∙ c.draw-file.ensures.held, tt),
)

pub install-requires-clause-removed : goal.install-requires-clause-removed
install-requires-clause-removed g c =
    let same = c.pin.ensures.same in
    (subst (λ l. Has (files_of l) 3) (sym (ap (λ s. listed (changes_list s) c.pin.new.changes.pass.saw) same.0 ∙ same.1)) c.requires.has, tt)

pub retire-requires-clause-gone : goal.retire-requires-clause-gone
retire-requires-clause-gone g c s low = c.install.ensures.retires s 3 low (inl refl)
