use Rattle.std.proofs.Common.{ap, Err}
use Rattle.cql_tables.proofs.WordAgree.{read_is_spelt, is_answer}
use Rattle.cql_tables.proofs.table_words.table_name.Goals as goal

pub returns-in-Ok-clause-found : goal.returns-in-Ok-clause-found
returns-in-Ok-clause-found c = read_is_spelt _ _ c.table_of.result c.in-Ok.ensures.lexed (rw (c.deref.ensures.value, c.as_bytes.ensures.value) at c.table_of.ensures)

pub returns-in-Ok-clause-only : goal.returns-in-Ok-clause-only
returns-in-Ok-clause-only c =
    λ t s. is_answer _ _ t c.table_of.result c.in-Ok.ensures.lexed (rw (c.deref.ensures.value, c.as_bytes.ensures.value) at c.table_of.ensures) s

pub returns-in-Err-Syntax-clause-only : goal.returns-in-Err-Syntax-clause-only
returns-in-Err-Syntax-clause-only c = λ t s. c.in-Err-Syntax.ensures.refused (ap (λ f. Err f) c.in-Err-Syntax.field-0-is) s.tokens s.lexed
