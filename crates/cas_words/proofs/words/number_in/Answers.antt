use Rattle.std.proofs.Common.{rules, ◌≡◌, true, arith}
use Rattle.cas_words.specs.Words.{is_numeral}
use Rattle.cas_words.proofs.Numerals.{unread_numeral}
use Rattle.cas_words.proofs.words.number_in.Goals as goal

pub returns-in-Err-clause-value : goal.returns-in-Err-clause-value
returns-in-Err-clause-value c =
    let numeral : is_numeral c.args.text.now ≡ true = search rules in
    unread_numeral c.args.text.now c.in-Err.field-0 c.args.least c.args.most numeral (omega arith) (rw c.in-Err.is at c.parse.ensures.value.0)
