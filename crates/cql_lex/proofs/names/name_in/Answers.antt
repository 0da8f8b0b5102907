use Rattle.std.proofs.Common.{subst, sym}
use Rattle.std.specs.Prelude.{IsUtf8}
use Rattle.cql_lex.proofs.Spelled.{name_is_text}
use Rattle.cql_lex.proofs.names.name_in.Goals as goal

pub invariant_of-result : goal.invariant_of-result
invariant_of-result c = subst IsUtf8 (sym c.few_lowered.ensures) (name_is_text c.args.text.now c.requires)

pub invariant_of-result-2 : goal.invariant_of-result-2
invariant_of-result-2 c = subst IsUtf8 (sym c.in_ok-many_lowered.ensures) (name_is_text c.args.text.now c.requires)
