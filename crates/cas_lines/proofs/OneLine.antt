-- A text says one line only.
use Rattle.std.proofs.Common.{◌≡◌, ℕ, ℤ, List, [], ◌∷◌, Some, codes, refl, sym, ap, ◌∙◌, subst}
use Rattle.std.proofs.lemmas.Option.{same_Some}
use Rattle.cql_lex.specs.Lexes.{Lexes}
use Rattle.cql_lex.specs.declared.token.Token.{Token}
use Rattle.cql_lex.proofs.Spans.{one_reading}
use Rattle.cql_parse.specs.declared.lexeme.Lexeme.{Lexeme}
use Rattle.cql_parse.specs.declared.syntax.Statement.{Statement}
use Rattle.cql_parse.specs.declared.syntax.Statement.TheVariants as statement
use Rattle.cql_parse.specs.Grammar.{Of}
use Rattle.cql_parse.specs.Lexemes.{lexemes_of}
use Rattle.cql_parse.specs.Means.{Means}
use Rattle.cql_parse.proofs.StatementAgree.{at_most_one}
use Rattle.cql_tables.proofs.WordAgree.{at_most_one as one_table}
use Rattle.cas_lines.specs.declared.line.Line.{Line}
use Rattle.cas_lines.specs.declared.line.Line.TheVariants as line
use Rattle.cql_parse.specs.declared.syntax.TableName.{TableName}
use Rattle.cql_parse.specs.TableNames.{SpellsTable}
use Rattle.cas_lines.specs.Lines.{Commands, Says, Spells, clock_of}
use Rattle.cas_lines.proofs.LineReading.{asks_by_command, asks_no_clock, asks_no_table, no_token, sets_by_command, tells_by_command, tells_no_clock, tells_one}

-- ---- no statement is spelled by nothing

pub starts : (x : Lexeme) (l m : List Lexeme) → l ≡ [] → l ≡ x ∷ m → ⊥
starts x l m e h = cc

not_empty : (s : Statement) (l r : List Lexeme) → l ≡ [] → Of s l r → ⊥
not_empty (statement.Create x) l r e h = starts _ l h.0 e h.1
not_empty (statement.Alter x) l r e h = starts _ l h.0 e h.1
not_empty (statement.Insert x) l r e h = starts _ l h.0 e h.1
not_empty (statement.Update x) l r e h = starts _ l h.0 e h.1
not_empty (statement.Delete x) l r e h = starts _ l h.0 e h.1
not_empty (statement.Select x) l r e h = starts _ l h.0 e h.1

pub no_lexemes : (source : List ℕ) (l : List Lexeme) → lexemes_of source [] ≡ Some l → l ≡ []
unfolding lexemes_of
no_lexemes source l e = sym (same_Some [] l e)

nothing_means : (source : List ℕ) (s : Statement) → Means source [] s → ⊥
nothing_means source s m = not_empty s m.lexemes m.grammar.0 (no_lexemes source m.lexemes m.meanings) m.grammar.1

-- ---- a command has no tokens

no_command : (text : List ℕ) (n : ℤ) (tokens : List Token) → Lexes text tokens → clock_of text ≡ Some n → ⊥
no_command text n tokens lexed e = no_token text tokens (sets_by_command text n e) lexed

-- ---- a line

one_meaning : (text : List ℕ) (tokens others : List Token) (s : Statement) → Lexes text tokens → Lexes text others → Means text others s → Means text tokens s
one_meaning text tokens others s x y m = subst (λ ts. Means text ts s) (one_reading text others tokens y x) m

no_blank : (text : List ℕ) (s : Statement) → Spells text line.Blank → Spells text (line.Statement s) → ⊥
no_blank text s x y = nothing_means text s (one_meaning text [] y.1.0 s x.1 y.1.1 y.1.2)

one_statement : (text : List ℕ) (s t : Statement) → Spells text (line.Statement s) → Spells text (line.Statement t) → s ≡ t
one_statement text s t x y = at_most_one text x.1.0 s t x.1.2 (one_meaning text x.1.0 y.1.0 t x.1.1 y.1.1 y.1.2)

-- ---- a command is one

one_table_told : (c text : List ℕ) (t u : TableName) → Commands c text t → Commands c text u → t ≡ u
one_table_told c text t u x y = one_table x.0 t u x.2.1 (subst (λ w. SpellsTable w u) (same_Some y.0 x.0 (sym y.1 ∙ x.1)) y.2.1)

pub one_line : (text : List ℕ) (l m : Line) → Says text l → Says text m → l ≡ m
one_line text line.Blank line.Blank x y = refl
one_line text line.Blank (line.Statement t) x y = absurd (no_blank text t x y)
one_line text line.Blank (line.Clock k) x y = absurd (no_command text k [] x.1 y)
one_line text line.Blank (line.Flush u) x y = absurd (no_token text [] (tells_by_command (codes "\\flush") text u y) x.1)
one_line text line.Blank (line.Verify u) x y = absurd (no_token text [] (tells_by_command (codes "\\verify") text u y) x.1)
one_line text line.Blank line.Status x y = absurd (no_token text [] (asks_by_command text y) x.1)
one_line text line.Blank line.Syntax x y = absurd (y line.Blank x)
one_line text (line.Statement s) line.Blank x y = absurd (no_blank text s y x)
one_line text (line.Statement s) (line.Statement t) x y = ap line.Statement (one_statement text s t x y)
one_line text (line.Statement s) (line.Clock k) x y = absurd (no_command text k x.1.0 x.1.1 y)
one_line text (line.Statement s) (line.Flush u) x y = absurd (no_token text x.1.0 (tells_by_command (codes "\\flush") text u y) x.1.1)
one_line text (line.Statement s) (line.Verify u) x y = absurd (no_token text x.1.0 (tells_by_command (codes "\\verify") text u y) x.1.1)
one_line text (line.Statement s) line.Status x y = absurd (no_token text x.1.0 (asks_by_command text y) x.1.1)
one_line text (line.Statement s) line.Syntax x y = absurd (y (line.Statement s) x)
one_line text (line.Clock n) line.Blank x y = absurd (no_command text n [] y.1 x)
one_line text (line.Clock n) (line.Statement t) x y = absurd (no_command text n y.1.0 y.1.1 x)
one_line text (line.Clock n) (line.Clock k) x y = ap line.Clock (same_Some n k (sym x ∙ y))
one_line text (line.Clock n) (line.Flush u) x y = absurd (tells_no_clock (codes "\\flush") text y.0 n refl y.1 x)
one_line text (line.Clock n) (line.Verify u) x y = absurd (tells_no_clock (codes "\\verify") text y.0 n refl y.1 x)
one_line text (line.Clock n) line.Status x y = absurd (asks_no_clock text n y x)
one_line text (line.Clock n) line.Syntax x y = absurd (y (line.Clock n) x)
one_line text (line.Flush t) line.Blank x y = absurd (no_token text [] (tells_by_command (codes "\\flush") text t x) y.1)
one_line text (line.Flush t) (line.Statement s) x y = absurd (no_token text y.1.0 (tells_by_command (codes "\\flush") text t x) y.1.1)
one_line text (line.Flush t) (line.Clock k) x y = absurd (tells_no_clock (codes "\\flush") text x.0 k refl x.1 y)
one_line text (line.Flush t) (line.Flush u) x y = ap line.Flush (one_table_told (codes "\\flush") text t u x y)
one_line text (line.Flush t) (line.Verify u) x y = absurd (tells_one (codes "\\flush") (codes "\\verify") text x.0 y.0 refl x.1 y.1)
one_line text (line.Flush t) line.Status x y = absurd (asks_no_table (codes "\\flush") text x.0 y x.1)
one_line text (line.Flush t) line.Syntax x y = absurd (y (line.Flush t) x)
one_line text (line.Verify t) line.Blank x y = absurd (no_token text [] (tells_by_command (codes "\\verify") text t x) y.1)
one_line text (line.Verify t) (line.Statement s) x y = absurd (no_token text y.1.0 (tells_by_command (codes "\\verify") text t x) y.1.1)
one_line text (line.Verify t) (line.Clock k) x y = absurd (tells_no_clock (codes "\\verify") text x.0 k refl x.1 y)
one_line text (line.Verify t) (line.Flush u) x y = absurd (tells_one (codes "\\flush") (codes "\\verify") text y.0 x.0 refl y.1 x.1)
one_line text (line.Verify t) (line.Verify u) x y = ap line.Verify (one_table_told (codes "\\verify") text t u x y)
one_line text (line.Verify t) line.Status x y = absurd (asks_no_table (codes "\\verify") text x.0 y x.1)
one_line text (line.Verify t) line.Syntax x y = absurd (y (line.Verify t) x)
one_line text line.Status line.Blank x y = absurd (no_token text [] (asks_by_command text x) y.1)
one_line text line.Status (line.Statement t) x y = absurd (no_token text y.1.0 (asks_by_command text x) y.1.1)
one_line text line.Status (line.Clock k) x y = absurd (asks_no_clock text k x y)
one_line text line.Status (line.Flush u) x y = absurd (asks_no_table (codes "\\flush") text y.0 x y.1)
one_line text line.Status (line.Verify u) x y = absurd (asks_no_table (codes "\\verify") text y.0 x y.1)
one_line text line.Status line.Status x y = refl
one_line text line.Status line.Syntax x y = absurd (y line.Status x)
one_line text line.Syntax line.Blank x y = absurd (x line.Blank y)
one_line text line.Syntax (line.Statement t) x y = absurd (x (line.Statement t) y)
one_line text line.Syntax (line.Clock k) x y = absurd (x (line.Clock k) y)
one_line text line.Syntax (line.Flush u) x y = absurd (x (line.Flush u) y)
one_line text line.Syntax (line.Verify u) x y = absurd (x (line.Verify u) y)
one_line text line.Syntax line.Status x y = absurd (x line.Status y)
one_line text line.Syntax line.Syntax x y = refl
