use Rattle.std.proofs.Common.{subst, sym, take, rules}
use Rattle.std.specs.Prelude.{IsUtf8}
use Rattle.cql_lex.specs.Characters.{word_size}
use Rattle.cql_lex.proofs.Spelled.{name_is_text}
use Rattle.cql_lex.proofs.Words.{begins_name, is_name_at}
use Rattle.cql_lex.proofs.names.short_name_at.Goals as goal

pub invariant_of-result : goal.invariant_of-result
invariant_of-result c =
    let text = c.args.text.now in
    subst IsUtf8 (sym c.in-Some.ensures) (name_is_text (take (word_size text) text) (begins_name text (search rules)))

pub returns-in-Some : goal.returns-in-Some
returns-in-Some c = is_name_at c.args.text.now c.in-Some.few (search rules) (search rules) c.in-Some.ensures
