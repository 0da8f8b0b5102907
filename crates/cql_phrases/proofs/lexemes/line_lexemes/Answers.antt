use Rattle.std.proofs.Common.{◌≡◌, ◌<◌, ◌≤◌, length, ap, sym, ◌∙◌, subst, arith, Err}
use Rattle.std.proofs.lemmas.Result.{err_from_is_err_and}
use Rattle.cql_phrases.specs.declared.fault.ParseFault.TheVariants as faults
use Rattle.cql_phrases.proofs.LineReading.{Read, next_positive, read_next, read_nothing, read_refused, read_whole}
use Rattle.cql_phrases.proofs.lexemes.line_lexemes.Goals as goal

pub loop-at-init : goal.loop-at-init
loop-at-init c = subst (λ xs. Read c.args.source.now 0 xs) (sym c.in_ok-found.ensures.items) (read_nothing c.args.source.now)

pub loop-at-preserved : goal.loop-at-preserved
loop-at-preserved c = read_next c.args.source.now c.loop-at.at c.in_ok-at.field-0 c.loop-at.found.items c.add_next.new.found.items c.loop-at.invariant c.loop-at-test.true c.in_ok-at.ensures.ok

pub loop-at-smaller : goal.loop-at-smaller
loop-at-smaller c =
    let grows = next_positive c.args.source.now c.loop-at.at c.in_ok-at.field-0 c.loop-at.found.items c.add_next.new.found.items c.in_ok-at.ensures.ok in
    omega (arith, grows.0, grows.1)

pub returns-in_err-at-clause-refused : goal.returns-in_err-at-clause-refused
returns-in_err-at-clause-refused c e =
    let p = err_from_is_err_and c.from_residual-in_err-at.result c.from_residual-in_err-at.ensures.1 in
    let is : c.add_next.result ≡ Err faults.Syntax = cc (p.1, p.2, e, c.in_err-at.was) in
    read_refused c.args.source.now c.loop-at.at c.loop-at.found.items c.loop-at.invariant c.loop-at-test.true (c.add_next.ensures.refused is)

pub returns-clause-found : goal.returns-clause-found
returns-clause-found c = read_whole c.args.source.now c.loop-at.at c.loop-at.found.items c.loop-at.invariant c.loop-at-test.false
