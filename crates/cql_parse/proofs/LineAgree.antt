-- What a line means, by its lexemes.
use Rattle.std.proofs.Common.{◌≡◌, ℕ, ◌<◌, List, [], ◌∷◌, length, arith, Option, None, Some, Result, Ok, Err, refl, sym, ap, ◌∙◌, subst}
use Rattle.std.specs.Prelude.{IfOk, option_map, option_and_then}
use Rattle.std.proofs.lemmas.Option.{none-some, same_Some}
use Rattle.cql_lex.specs.Lexes.{Lexes, IsRefused}
use Rattle.cql_lex.specs.declared.token.Token.{Token}
use Rattle.cql_lex.proofs.Spans.{one_reading}
use Rattle.cql_phrases.specs.declared.fault.ParseFault.{ParseFault}
use Rattle.cql_phrases.specs.declared.fault.ParseFault.TheVariants as faults
use Rattle.cql_phrases.specs.declared.lexeme.Lexeme.{Lexeme}
use Rattle.cql_phrases.specs.Inner.Reading.{Fails}
use Rattle.cql_phrases.specs.Lexemes.{lexeme_at, lexemes_of, AreLexemes}
use Rattle.cql_parse.specs.declared.syntax.Statement.{Statement}
use Rattle.cql_parse.specs.Inner.StatementReading.{whole_statement}
use Rattle.cql_parse.specs.Means.{LineMeans, Means}
use Rattle.cql_parse.proofs.StatementAgree.{whole_sound, whole_full}

no_tokens : (source : List ℕ) (ts : List Token) → lexemes_of source ts ≡ Some [] → ts ≡ []
unfolding lexemes_of
no_tokens source [] e = refl
no_tokens source (t ∷ ts) e = absurd (by (lexeme_at source t) (lexemes_of source ts) e)
  where
    by : (o : Option Lexeme) (p : Option (List Lexeme)) → option_and_then (λ x. option_map (λ xs. x ∷ xs) p) o ≡ Some [] → ⊥
    by None p f = absurd cc
    by (Some x) None f = absurd cc
    by (Some x) (Some xs) f = absurd cc

no_lexemes : (source : List ℕ) (found : List Lexeme) → lexemes_of source [] ≡ Some found → found ≡ []
unfolding lexemes_of
no_lexemes source found e = sym (same_Some [] found e)

-- a line without lexemes has no tokens
pub blank_means : (source : List ℕ) (found : List Lexeme) → AreLexemes source found → found ≡ [] → LineMeans source None
blank_means source found a e = subst (Lexes source) (no_tokens source a.0 (a.2 ∙ ap (λ xs. Some xs) e)) a.1

pub read_means : (source : List ℕ) (found : List Lexeme) (s : Statement) → AreLexemes source found → whole_statement found ≡ Some s → LineMeans source (Some s)
read_means source found s a e = (a.0, a.1, record { lexemes = found; meanings = a.2; grammar = whole_sound found s e })

pub refused_means : (source : List ℕ) → IsRefused source → (read : Option Statement) → LineMeans source read → ⊥
refused_means source h None l = h [] l
refused_means source h (Some s) l = h l.0 l.1

same_lexemes : (source : List ℕ) (ts us : List Token) (found others : List Lexeme) → Lexes source ts → Lexes source us → lexemes_of source ts ≡ Some found → lexemes_of source us ≡ Some others → found ≡ others
same_lexemes source ts us found others x y e f = same_Some found others (sym e ∙ ap (lexemes_of source) (one_reading source ts us x y) ∙ f)

pub wrong_means : (source : List ℕ) (found : List Lexeme) → AreLexemes source found → (found ≡ [] → ⊥) → whole_statement found ≡ None → (read : Option Statement) → LineMeans source read → ⊥
wrong_means source found a some e None l = some (no_lexemes source found (ap (lexemes_of source) (one_reading source [] a.0 l a.1) ∙ a.2))
wrong_means source found a some e (Some s) l =
    let same = same_lexemes source a.0 l.0 found l.2.lexemes a.1 l.1 a.2 l.2.meanings in
    none-some s (sym e ∙ ap whole_statement same ∙ whole_full l.2.lexemes s l.2.grammar)

-- the same of the lexemes as they are passed on
pub passed_means : (source : List ℕ) (found input : List Lexeme) (s : Statement) → AreLexemes source found → input ≡ found → whole_statement input ≡ Some s → LineMeans source (Some s)
passed_means source found input s a same e = read_means source found s a (ap whole_statement (sym same) ∙ e)

pub passed_wrong : (source : List ℕ) (found input : List Lexeme) (f : ParseFault) → AreLexemes source found → input ≡ found → 0 < length found → f ≡ faults.Syntax → Fails f (whole_statement input) → (read : Option Statement) → LineMeans source read → ⊥
passed_wrong source found input f a same some is fails =
    let none : whole_statement input ≡ None = subst (λ g. Fails g (whole_statement input)) is fails in
    wrong_means source found a (λ z. absurd (omega (arith, ap length z))) (ap whole_statement (sym same) ∙ none)
