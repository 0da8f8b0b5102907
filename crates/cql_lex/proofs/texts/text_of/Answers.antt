use Rattle.std.proofs.Common.{◌≡◌, ap, ◌∙◌, Some, string_bytes, subst, IsUtf8}
use Rattle.std.proofs.lemmas.Str.{IsUtf8-string_bytes}
use Rattle.std.proofs.lemmas.Bool.{false≢true}
use Rattle.cql_lex.proofs.Spelled.{is_text, no_text}
use Rattle.cql_lex.proofs.texts.text_of.Goals as goal

pub returns-in-Ok : goal.returns-in-Ok
returns-in-Ok c =
    let same : string_bytes c.in-Ok.text ≡ c.args.bytes.items = ap (λ v. v.items) c.in-Ok.ensures.ok in
    ap (λ bs. Some bs) (c.from_string.ensures ∙ same) ∙ is_text c.args.bytes.items (subst IsUtf8 same (IsUtf8-string_bytes c.in-Ok.text))

pub returns : goal.returns
returns c = no_text c.args.bytes.items (λ h. false≢true (c.in-Err.ensures.succeeds h))
