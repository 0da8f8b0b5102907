use Rattle.std.proofs.Common.{arith, refl, sym, subst}
use Rattle.std.proofs.lemmas.List.{take_all}
use Rattle.cas_types.specs.Limits.{IsNarrow}
use Rattle.cas_sstread.specs.Loading.{Held}
use Rattle.cas_view.specs.Views.{files_of}
use Rattle.cas_sessions.specs.Verifying.{IsFoundSo}
use Rattle.cas_sessions.specs.Inner.Verifying.{AddVerdicts}
use Rattle.cas_sessions.proofs.Verdicts.{later_unread, narrow_at, none_added, one_added}
use Rattle.cas_sessions.proofs.verifying.check_files.Goals as goal

pub loop-file-init : goal.loop-file-init
loop-file-init g c = record { said = none_added c.args.verdicts.now.items; count = omega arith }

pub first_bad-requires : goal.first_bad-requires
first_bad-requires g c = record {
  narrow =
      subst (λ (t : Held). IsNarrow t.columns) (sym c.deref.ensures)
      (narrow_at c.args.files.now c.loop-file.file-index c.file-item.result c.requires.narrow c.loop-file-test.true c.file-item.is);
}

pub returns-in-Err-clause-why : goal.returns-in-Err-clause-why
returns-in-Err-clause-why g c = later_unread _ _ _ c.in-Err.fault c.loop-file.invariant.count c.in-Err.ensures.why

pub returns-in-Err-clause-count : goal.returns-in-Err-clause-count
returns-in-Err-clause-count g c = omega (arith, c.loop-file.invariant.count, c.first_bad.ensures.count)

pub returns-in-Err-put-clause-count : goal.returns-in-Err-put-clause-count
returns-in-Err-put-clause-count g c = omega (arith, c.loop-file.invariant.count, c.first_bad.ensures.count)

pub loop-file-preserved : goal.loop-file-preserved
loop-file-preserved g c = record {
  said =
      one_added c.args.files.now c.loop-file.file-index c.file-item.result c.args.verdicts.now.items c.loop-file.verdicts.items
      c.put.new.verdicts.items _ c.loop-file-test.true c.file-item.is c.loop-file.invariant.said c.in-Ok-put.ensures (refl, subst (λ (t : Held). IsFoundSo t c.in-Ok.bad) c.deref.ensures c.in-Ok.ensures.found);
  count = omega (arith, c.loop-file.invariant.count, c.first_bad.ensures.count);
}

pub returns-clause-checked : goal.returns-clause-checked
returns-clause-checked g c =
    subst (λ fs. AddVerdicts (files_of fs) c.args.verdicts.now.items c.loop-file.verdicts.items)
    (take_all c.loop-file.file-index c.args.files.now c.loop-file-test.false) c.loop-file.invariant.said

pub returns-clause-count : goal.returns-clause-count
returns-clause-count g c = c.loop-file.invariant.count
