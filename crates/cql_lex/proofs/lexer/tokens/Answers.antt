use Rattle.std.proofs.Common.{◌≤◌, length, ap, sym, ◌∙◌, subst}
use Rattle.cql_lex.specs.Rules.{piece_at}
use Rattle.cql_lex.specs.Lexes.{Lexes, IsRefused}
use Rattle.cql_lex.proofs.Rests.{rest_is}
use Rattle.cql_lex.proofs.Reached.{one_more, refused_at, all_read}
use Rattle.cql_lex.proofs.Spans.{well_placed}
use Rattle.cql_lex.proofs.lexer.tokens.Goals as goal

pub loop-at-preserved : goal.loop-at-preserved
loop-at-preserved c =
    let rest = rest_is c.as_bytes-bytes.result.now c.loop-at.at in
    one_more c.as_bytes-bytes.result.now c.loop-at.at c.loop-at.found.items c.add.new.found.items c.in-Some.piece c.loop-at.invariant c.loop-at-test.true (ap piece_at (sym rest) ∙ sym c.piece_at.ensures.piece ∙ c.in-Some.is) (subst (λ text. c.in-Some.piece.size ≤ length text) rest c.in-Some.ensures.size.1) c.in_ok-add.ensures.ok

pub returns-in_default-clause-refused : goal.returns-in_default-clause-refused
returns-in_default-clause-refused c e =
    let rest = rest_is c.as_bytes-bytes.result.now c.loop-at.at in
    subst IsRefused c.as_bytes-bytes.ensures.value (refused_at c.as_bytes-bytes.result.now c.loop-at.at c.loop-at.found.items c.loop-at.invariant c.loop-at-test.true (ap piece_at (sym rest) ∙ sym c.piece_at.ensures.piece ∙ c.in_default.is))

pub returns-clause-lexed : goal.returns-clause-lexed
returns-clause-lexed c =
    subst (λ text. Lexes text c.loop-at.found.items) c.as_bytes-bytes.ensures.value (all_read c.as_bytes-bytes.result.now c.loop-at.at c.loop-at.found.items c.loop-at.invariant c.loop-at-test.false)

pub returns-clause-placed : goal.returns-clause-placed
returns-clause-placed c =
    well_placed c.args.source.now c.loop-at.found.items c.utf8.source (subst (λ text. Lexes text c.loop-at.found.items) c.as_bytes-bytes.ensures.value (all_read c.as_bytes-bytes.result.now c.loop-at.at c.loop-at.found.items c.loop-at.invariant c.loop-at-test.false))
