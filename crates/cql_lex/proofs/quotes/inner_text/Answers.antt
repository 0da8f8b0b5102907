use Rattle.std.proofs.Common.{ap, ◌∙◌, sym, cond, Some, None, take, rules}
use Rattle.std.specs.Option.{option_and_then}
use Rattle.std.specs.Str.{is_utf8}
use Rattle.std.proofs.lemmas.Result.{IfOk-weaker}
use Rattle.cql_lex.proofs.Turns.{plain_closed}
use Rattle.cql_lex.proofs.quotes.inner_text.Goals as goal

pub returns-then-plain-text : goal.returns-then-plain-text
returns-then-plain-text c =
    let n = c.plain_size-plain.result in
    let text = c.args.text.now in
    IfOk-weaker c.text_in.result _ _ (λ inner e. e ∙ ap (option_and_then (λ bs. cond (is_utf8 bs) (Some bs) None)) (sym (plain_closed c.args.quote text n c.plain_size-plain.ensures.size c.if-plain-text.true))) c.text_in.ensures
