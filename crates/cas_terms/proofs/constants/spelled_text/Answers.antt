use Rattle.cas_terms.proofs.Texts.{text_is_itself}
use Rattle.cas_terms.proofs.constants.spelled_text.Goals as goal

pub returns-in-Text : goal.returns-in-Text
returns-in-Text c = text_is_itself c.args.tag _ c.args.text.now c.in-Text.is c.as_bytes-bytes.ensures.value c.utf8.text
