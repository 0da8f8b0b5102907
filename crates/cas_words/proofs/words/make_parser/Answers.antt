use Rattle.std.proofs.Common.{ap, ap₂, ◌≡◌, ◌∙◌}
use Rattle.std.proofs.lemmas.Result.{IfOk-weaker}
use Rattle.clap.specs.Words.{App, with_rule}
use Rattle.cas_words.specs.Inner.Parser.{parser, with_option}
use Rattle.cas_words.specs.declared.words.Setting.{Setting}
use Rattle.cas_words.specs.declared.words.Setting.TheVariants as setting
use Rattle.cas_words.proofs.words.make_parser.Goals as goal

pub returns : goal.returns
unfolding parser
returns c =
    let add = λ (s : Setting) (a b : App) (e : a ≡ b). ap (λ (x : App). with_option x s) e in
    let one = c.in_ok-parser.ensures ∙ add setting.Shards _ _ c.bare_parser-parser.ensures in
    let two = c.in_ok-parser-2.ensures ∙ add setting.Segment _ _ one in
    let three = c.in_ok-parser-3.ensures ∙ add setting.Memtable _ _ two in
    let four = c.in_ok-parser-4.ensures ∙ add setting.Compactors _ _ three in
    let five = c.in_ok-parser-5.ensures ∙ add setting.Clock _ _ four in
    IfOk-weaker c.arg.result _ _ (λ m h. h.shape c.folder_arg.ensures.local ∙ ap₂ with_rule five c.folder_arg.ensures.rule) c.arg.ensures
