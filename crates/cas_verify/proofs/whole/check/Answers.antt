use Rattle.std.proofs.Common.{List, length, ap, subst, sym, arith}
use Rattle.std.specs.List.{All}
use Rattle.std.proofs.lemmas.Result.{err_from_is_err_and}
use Rattle.cas_index.specs.Allowed.{HasRooms}
use Rattle.cas_index.specs.declared.entries.PartitionEntry.{PartitionEntry}
use Rattle.cas_sstread.specs.Loading.{Answers}
use Rattle.cas_verify.specs.Checking.{own_rest_at}
use Rattle.cas_verify.proofs.Ending.{parts_bad, no_facts, rest_then}
use Rattle.cas_verify.proofs.whole.check.Goals as goal

pub returns-in_err-scan-clause-checked : goal.returns-in_err-scan-clause-checked
returns-in_err-scan-clause-checked g c = λ b is f facts.
    let t = c.args.table.now in
    let r = c.from_residual in
    let p = err_from_is_err_and r.result r.ensures.1 in
    rw (p.1, p.2) (parts_bad t.columns t.info t.kept b f t.info.number c.in_err-scan.field-0.0 (c.in_err-scan.ensures.told b is))

pub returns-in_default-clause-checked : goal.returns-in_default-clause-checked
returns-in_default-clause-checked g c = λ b is f facts.
    let t = c.args.table.now in
    let seen = c.in_ok-scan.ensures.told b is in
    absurd (no_facts t.columns t.info t.kept b f c.in_ok-scan.scan seen.0 seen.1 seen.2 facts c.in_default.is)

pub check_rest-requires-clause-few : goal.check_rest-requires-clause-few
check_rest-requires-clause-few g c = omega (arith, ap length c.deref.ensures.value, c.in_ok-scan.ensures.few)

pub check_rest-requires-clause-rooms : goal.check_rest-requires-clause-rooms
check_rest-requires-clause-rooms g c = subst (λ (es : List PartitionEntry). All HasRooms es) (sym c.deref.ensures.value) c.in_ok-scan.ensures.rooms

pub returns-clause-checked : goal.returns-clause-checked
returns-clause-checked g c = λ b is f facts.
    let t = c.args.table.now in
    let seen = c.in_ok-scan.ensures.told b is in
    rest_then t.columns t.info t.kept b f c.in_ok-scan.scan seen.0 seen.1 seen.2 facts c.in-Some.facts t.info.number c.check_rest.result c.in-Some.is
    (subst (λ (es : List PartitionEntry). Answers (λ u. u) t.info.number c.check_rest.result (own_rest_at es t.info c.in-Some.facts t.kept.end b)) c.deref.ensures.value
    (c.check_rest.ensures.told b is))
