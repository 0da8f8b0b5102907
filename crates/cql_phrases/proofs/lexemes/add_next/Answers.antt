use Rattle.std.proofs.Common.{◌≡◌, ◌<◌, length, drop, ap, sym, ◌∙◌, subst, arith, List}
use Rattle.std.specs.Prelude.{IsUtf8}
use Rattle.cql_lex.specs.Rules.{piece_at}
use Rattle.cql_lex.proofs.Rests.{rest_is}
use Rattle.cql_phrases.proofs.LineReading.{piece_has_form, name_added, mark_added, piece_added}
use Rattle.cql_phrases.proofs.lexemes.add_next.Goals as goal

pub returns-in-Some-clause-ok : goal.returns-in-Some-clause-ok
returns-in-Some-clause-ok c =
    let source = c.args.source.now in
    name_added source _ c.args.at c.len-size.result c.in-Some.name c.args.found.now.items c.push.new.found.items (rest_is _ c.args.at ∙ ap (drop c.args.at) c.as_bytes-bytes.ensures.value) c.requires c.in-Some.ensures c.len-size.ensures c.in_ok-push.ensures.ok

pub returns-in-Some-plain_mark_at-clause-ok : goal.returns-in-Some-plain_mark_at-clause-ok
returns-in-Some-plain_mark_at-clause-ok c =
    let source = c.args.source.now in
    mark_added source _ c.args.at c.in-Some-plain_mark_at.mark c.args.found.now.items c.push-in-Some-plain_mark_at.new.found.items (rest_is _ c.args.at ∙ ap (drop c.args.at) c.as_bytes-bytes.ensures.value) c.requires c.in-Some-plain_mark_at.ensures c.in_ok-push-2.ensures.ok

pub add_piece-requires-clause-form : goal.add_piece-requires-clause-form
add_piece-requires-clause-form c =
    let bytes = c.as_bytes-bytes.result.now in
    piece_has_form bytes c.args.at c.in-Some-piece_at.piece (subst IsUtf8 (sym c.as_bytes-bytes.ensures.value) c.utf8.source) (ap piece_at (sym (rest_is bytes c.args.at)) ∙ sym c.piece_at.ensures.piece ∙ c.in-Some-piece_at.is)
