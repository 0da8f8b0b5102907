use Rattle.std.proofs.Common.{ap, ◌∙◌, Err}
use Rattle.cas_lines.proofs.LineReading.{no_meaning}
use Rattle.cas_lines.proofs.line.read_text.Goals as goal

pub returns-in-Err-Syntax : goal.returns-in-Err-Syntax
returns-in-Err-Syntax c = no_meaning _ c.requires.command (c.line_statement.ensures.refused (c.in-Err-Syntax.is ∙ ap (λ f. Err f) c.in-Err-Syntax.field-0-is))
