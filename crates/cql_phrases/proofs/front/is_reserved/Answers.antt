use Rattle.std.proofs.Common.{sym, ◌∙◌, arith}
use Rattle.cql_phrases.specs.Symbols.{spelling}
use Rattle.cql_phrases.proofs.Reserved.{of_its_size, of_no_size}
use Rattle.cql_phrases.proofs.front.is_reserved.Goals as goal

pub returns-in-2 : goal.returns-in-2
unfolding spelling
returns-in-2 c = c.is_one_of.ensures ∙ sym (of_its_size c.args.name.now 2 (sym c.len.ensures ∙ c.in-2.is))

pub returns-in-3 : goal.returns-in-3
unfolding spelling
returns-in-3 c = c.is_one_of-in-3.ensures ∙ sym (of_its_size c.args.name.now 3 (sym c.len.ensures ∙ c.in-3.is))

pub returns-in-4 : goal.returns-in-4
unfolding spelling
returns-in-4 c = c.is_one_of-in-4.ensures ∙ sym (of_its_size c.args.name.now 4 (sym c.len.ensures ∙ c.in-4.is))

pub returns-in-5 : goal.returns-in-5
unfolding spelling
returns-in-5 c = c.is_one_of-in-5.ensures ∙ sym (of_its_size c.args.name.now 5 (sym c.len.ensures ∙ c.in-5.is))

pub returns-in-6 : goal.returns-in-6
unfolding spelling
returns-in-6 c = c.is_one_of-in-6.ensures ∙ sym (of_its_size c.args.name.now 6 (sym c.len.ensures ∙ c.in-6.is))

pub returns-in-7 : goal.returns-in-7
unfolding spelling
returns-in-7 c = c.is_one_of-in-7.ensures ∙ sym (of_its_size c.args.name.now 7 (sym c.len.ensures ∙ c.in-7.is))

pub returns-in_default : goal.returns-in_default
returns-in_default c =
    of_no_size c.args.name.now c.len.result c.len.ensures (omega arith) (omega arith) (omega arith) (omega arith) (omega arith) (omega arith)
