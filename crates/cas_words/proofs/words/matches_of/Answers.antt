use Rattle.std.proofs.Common.{◌∙◌, sym, map}
use Rattle.std.specs.Prelude.{string_bytes}
use Rattle.std.proofs.lemmas.Result.{IfOk-weaker}
use Rattle.cas_words.proofs.WordsFound.{none_found, refused_words, stray_words, taken_words}
use Rattle.cas_words.proofs.words.matches_of.Goals as goal

pub returns-then-has_stray : goal.returns-then-has_stray
returns-then-has_stray c = stray_words (map string_bytes c.args.words.now) (sym c.has_stray.ensures ∙ c.if-has_stray.true)

pub returns-in-Ok : goal.returns-in-Ok
returns-in-Ok c = taken_words _ (map string_bytes c.args.words.now) _ (sym c.has_stray.ensures ∙ c.if-has_stray.false) c.in_ok-parser.ensures c.in-Ok.ensures.kinds (λ e. (c.in-Ok.ensures.matches e).0)

pub returns-in-Err : goal.returns-in-Err
returns-in-Err c =
    IfOk-weaker c.refused.result _ _ (λ o h. none_found o _ _ h.0 (refused_words _ (map string_bytes c.args.words.now) c.in-Err.error (sym c.has_stray.ensures ∙ c.if-has_stray.false) c.in_ok-parser.ensures c.in-Err.ensures.kinds h.1))
    c.refused.ensures
