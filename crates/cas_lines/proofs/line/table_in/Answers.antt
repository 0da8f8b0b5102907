use Rattle.std.proofs.Common.{◌≡◌, rules, ap, ◌∙◌, subst, Err}
use Rattle.cql_parse.specs.Means.{IsAnswer}
use Rattle.cql_parse.specs.TableNames.{SpellsTable}
use Rattle.cas_lines.proofs.line.table_in.Goals as goal

pub returns-in-Err-Syntax : goal.returns-in-Err-Syntax
returns-in-Err-Syntax c = λ t named. subst (IsAnswer t) (c.in-Err-Syntax.is ∙ ap (λ f. Err f) c.in-Err-Syntax.field-0-is) (c.table_name.ensures.only t (subst (λ w. SpellsTable w t) (let e : c.args.word.now ≡ c.in-Ok.text.now = search rules in e) named.1))
