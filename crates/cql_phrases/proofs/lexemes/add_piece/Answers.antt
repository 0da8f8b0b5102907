use Rattle.std.proofs.Common.{◌≡◌, ◌+◌, ◌-◌, take, drop, subst, arith}
use Rattle.cql_lex.specs.Laws.{HasForm}
use Rattle.cql_phrases.proofs.lexemes.add_piece.Goals as goal

pub add_token-requires : goal.add_token-requires
add_token-requires c =
    let wide : c.args.piece.size ≡ (c.args.from + c.args.piece.size) - c.args.from = omega arith in
    subst (λ n. HasForm c.in-Some.kind (take n (drop c.args.from c.args.source.now))) wide (c.requires.form c.in-Some.kind c.in-Some.is)
