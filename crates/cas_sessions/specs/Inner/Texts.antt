-- The statement of a text, where a call takes it (own).
use Rattle.std.specs.Prelude.{◌≡◌, ◌⊎◌, ℕ, List, Bool, true, false, Result, Ok, Err}
use Rattle.cas_effects.specs.declared.refusal.TheConstants.{NOT_HERE, SYNTAX}
use Rattle.cas_lines.specs.Lines.{Says}
use Rattle.cas_lines.specs.declared.line.Line.{Line}
use Rattle.cas_lines.specs.declared.line.Line.TheVariants as line
use Rattle.cql_parse.specs.declared.syntax.Statement.{Statement}
use Rattle.cas_sessions.specs.declared.answer.Fault.{Fault}
use Rattle.cas_sessions.specs.declared.answer.Fault.TheVariants.{Refused, Mem}
use Rattle.cas_sessions.specs.Calls.{takes}

-- why a call that takes definitions, or all others, performs nothing of a text that says this
abbrev pub Refuses : Bool → Line → Fault → Type 0
Refuses defines (line.Statement s) f = (takes defines s ≡ false) × (f ≡ Refused NOT_HERE)
Refuses defines _ f = f ≡ Refused SYNTAX

-- the text is this statement, which the call takes; or the call performs nothing, for this reason, which may be want of memory
unfoldable pub Finds : Bool → List ℕ → Result Statement Fault → Type 0
Finds defines text (Ok s) = Says text (line.Statement s) × (takes defines s ≡ true)
Finds defines text (Err f) = (f ≡ Mem) ⊎ ((l : Line) × Says text l × Refuses defines l f)
