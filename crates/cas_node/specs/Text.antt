-- The text of a run, line by line (own).
use Rattle.std.specs.Prelude.{ℕ, List, [], Option, None, Some}
use Rattle.std.specs.List.{flat_map}
use Rattle.cas_render.specs.Text.{reply_text}
use Rattle.cas_render.specs.declared.reply.Reply.{Reply}
use Rattle.cas_node.specs.declared.upshot.Upshot.{Upshot}

-- what a line prints: the text of its reply; a line of blanks and comments prints nothing
abbrev pub line_text : Option Reply → List ℕ
line_text None = []
line_text (Some r) = reply_text r

-- what all lines print
abbrev pub output : List Upshot → List ℕ
output upshots = flat_map (λ o. line_text o.reply) upshots
