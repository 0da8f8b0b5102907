use Rattle.std.proofs.Common.{◌≡◌, ◌<◌, length, sym, ap, ◌∙◌, arith, Err}
use Rattle.std.proofs.lemmas.Result.{err_from_is_err_and}
use Rattle.std.proofs.lemmas.List.{nil_from_length}
use Rattle.cql_phrases.specs.declared.fault.ParseFault.TheVariants as faults
use Rattle.cql_parse.proofs.LineAgree.{blank_means, passed_means, passed_wrong, refused_means}
use Rattle.cql_parse.proofs.parse.line_statement.Goals as goal

pub returns-in_err-lexemes-clause-refused : goal.returns-in_err-lexemes-clause-refused
returns-in_err-lexemes-clause-refused c e =
    let p = err_from_is_err_and c.from_residual.result c.from_residual.ensures.1 in
    let is : c.line_lexemes.result ≡ Err faults.Syntax = cc (p.1, p.2, e, c.in_err-lexemes.was) in
    refused_means c.args.source.now (c.line_lexemes.ensures.refused is)

pub returns-in-empty-clause-found : goal.returns-in-empty-clause-found
returns-in-empty-clause-found c =
    blank_means c.args.source.now c.in_ok-lexemes.lexemes.items c.in_ok-lexemes.ensures.found (nil_from_length _ (omega (arith, ap length c.as_slice.ensures.value, c.in-empty.len_below)))

pub returns-in_err-whole_statement-in-len1-up-clause-refused : goal.returns-in_err-whole_statement-in-len1-up-clause-refused
returns-in_err-whole_statement-in-len1-up-clause-refused c e =
    let p = err_from_is_err_and c.from_residual-in_err-whole_statement-in-len1-up.result c.from_residual-in_err-whole_statement-in-len1-up.ensures.1 in
    let is : c.in_err-whole_statement-in-len1-up.field-0.0 ≡ faults.Syntax = cc (p.1, p.2, e) in
    passed_wrong c.args.source.now c.in_ok-lexemes.lexemes.items c.deref.result.now c.in_err-whole_statement-in-len1-up.field-0.0 c.in_ok-lexemes.ensures.found c.deref.ensures.value (omega (arith, ap length c.as_slice.ensures.value, c.in-len1-up.len_at_least)) is c.in_err-whole_statement-in-len1-up.ensures

pub returns-clause-found : goal.returns-clause-found
returns-clause-found c =
    passed_means c.args.source.now c.in_ok-lexemes.lexemes.items c.deref.result.now c.in_ok-whole_statement-in-len1-up.field-0 c.in_ok-lexemes.ensures.found c.deref.ensures.value c.in_ok-whole_statement-in-len1-up.ensures
