-- The name of a table as a word, by reading and by the grammar.
use Rattle.std.proofs.Common.{◌≡◌, ℕ, Bool, true, false, List, [], length, Option, None, Some, Result, Ok, Err, refl, sym, ap, ◌∙◌}
use Rattle.std.specs.Prelude.{IfOk, option_and_then, if◌then◌else◌}
use Rattle.cql_lex.specs.Lexes.{Lexes}
use Rattle.cql_lex.specs.declared.token.Token.{Token}
use Rattle.cql_lex.specs.declared.token.Mark.TheVariants as mark
use Rattle.cql_lex.proofs.Spans.{one_reading}
use Rattle.cql_phrases.specs.declared.fault.ParseFault.{ParseFault}
use Rattle.cql_phrases.specs.declared.fault.ParseFault.TheVariants as faults
use Rattle.cql_phrases.specs.declared.lexeme.Lexeme.{Lexeme}
use Rattle.cql_tables.specs.declared.syntax.TableName.{TableName}
use Rattle.cql_phrases.specs.Inner.Reading.{after_mark, Gives}
use Rattle.cql_tables.specs.Inner.TableReading.{ended, table_alone, table_of}
use Rattle.cql_tables.specs.Tables.{IsTable}
use Rattle.cql_phrases.specs.Lexemes.{lexemes_of}
use Rattle.cql_tables.specs.TableNames.{are_joined, SpellsTable, OneTable, IsAnswer}
use Rattle.cql_phrases.proofs.Agree.{some_is}
use Rattle.cql_tables.proofs.TableAgree.{table_agrees, ended_is}

no_mark : after_mark mark.Dot [] ≡ None
unfolding after_mark
no_mark = refl

alone_sound : (l : List Lexeme) (t : TableName) → table_alone l ≡ Some t → IsTable t l []
unfolding table_alone
alone_sound l t e = table_agrees.sound l [] t (ended_is _ t e)

alone_full : (l : List Lexeme) (t : TableName) → IsTable t l [] → table_alone l ≡ Some t
unfolding table_alone
alone_full l t h = ap ended (table_agrees.full l [] t h no_mark)

spelt : (word : List ℕ) (tokens : List Token) (b : Bool) (o : Option (List Lexeme)) (t : TableName) → Lexes word tokens → are_joined 0 tokens (length word) ≡ b → lexemes_of word tokens ≡ o
    → (if b then option_and_then table_alone o else None) ≡ Some t → SpellsTable word t
spelt word tokens false o t x j m e = absurd cc
spelt word tokens true None t x j m e = absurd cc
spelt word tokens true (Some ls) t x j m e = record { tokens = tokens; lexed = x; joined = j; lexemes = ls; meanings = m; grammar = alone_sound ls t e }

pub read_is_spelt : (word : List ℕ) (tokens : List Token) (r : Result TableName ParseFault) → Lexes word tokens → Gives (λ t. t) r (table_of word tokens) → IfOk r (λ t. SpellsTable word t)
unfolding table_of
read_is_spelt word tokens (Ok t) x g = spelt word tokens _ _ t x refl refl g
read_is_spelt word tokens (Err e) x g = tt

spelt_is_read : (word : List ℕ) (t : TableName) (s : SpellsTable word t) → table_of word s.tokens ≡ Some t
unfolding table_of
spelt_is_read word t s = rw (s.joined, s.meanings) (alone_full s.lexemes t s.grammar)

same_tokens : (word : List ℕ) (tokens : List Token) (t : TableName) → Lexes word tokens → SpellsTable word t → table_of word tokens ≡ Some t
same_tokens word tokens t x s = ap (table_of word) (one_reading word tokens s.tokens x s.lexed) ∙ spelt_is_read word t s

pub is_answer : (word : List ℕ) (tokens : List Token) (t : TableName) (r : Result TableName ParseFault) → Lexes word tokens → Gives (λ u. u) r (table_of word tokens) → SpellsTable word t → IsAnswer t r
is_answer word tokens t (Ok u) x g s = some_is u t (sym g ∙ same_tokens word tokens t x s)
is_answer word tokens t (Err faults.Mem) x g s = tt
is_answer word tokens t (Err faults.Syntax) x g s = let k = sym g ∙ same_tokens word tokens t x s in absurd cc

pub at_most_one : OneTable
at_most_one word t u s v = some_is t u (sym (spelt_is_read word t s) ∙ same_tokens word s.tokens u s.lexed v)
