use Rattle.std.proofs.Common.{rules, tests}
use Rattle.std.proofs.lemmas.Iterator.Consumers.{YieldsList-from_filter, map_from_collect}
use Rattle.std.proofs.lemmas.Iterator.Splits.{YieldsList-from_slice_split}
use Rattle.cql_lex.specs.Gaps.{is_blank}
use Rattle.cas_lines.specs.Lines.{has_bytes}
use Rattle.cas_lines.proofs.line.words_of.Goals as goal

pub returns : goal.returns
returns c =
    map_from_collect _ c.collect.ensures.ran
    (YieldsList-from_filter _ has_bytes
    (YieldsList-from_slice_split _ is_blank c.args.text.now (cc) (cc) (cc) (λ x b q k. search (rules, tests)))
    (cc) (λ x b q k. search (rules, tests)))
