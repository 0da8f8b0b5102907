-- The lines of a flush and of a verification, from their word on.
use Rattle.std.proofs.Common.{◌≡◌, ℕ, false, true, List, [], ◌∷◌, ◌++◌, Option, None, Some, refl, ap, ◌∙◌, subst, cond, codes, inl, inr}
use Rattle.std.specs.List.{All, filter, slice_split}
use Rattle.std.proofs.lemmas.List.Elements.{All-cons, All-nil}
use Rattle.std.proofs.lemmas.List.Splits.{slice_split_at, slice_split_none}
use Rattle.cql_lex.specs.Gaps.{is_blank}
use Rattle.cql_lex.proofs.Spans.{one_reading}
use Rattle.cql_parse.specs.declared.lexeme.Lexeme.{Lexeme}
use Rattle.cql_parse.specs.declared.syntax.TableName.{TableName}
use Rattle.cql_parse.specs.Lexemes.{lexemes_of}
use Rattle.cql_parse.specs.TableNames.{SpellsTable}
use Rattle.cql_tables.specs.Tables.{Qualified}
use Rattle.cas_lines.specs.Lines.{Flushes, IsTable, Verifies, has_bytes, word_in, word_of}
use Rattle.cas_lines.proofs.OneLine.{no_lexemes, starts}

-- ---- no table is spelled by nothing

no_name : (n : List ℕ) (l r : List Lexeme) → l ≡ [] → Qualified None n l r → ⊥
no_name n l r e (inl h) = starts _ l r e h.0
no_name n l r e (inr h) = starts _ l r e h

no_qualified : (k : Option (List ℕ)) (n : List ℕ) (l r : List Lexeme) → l ≡ [] → Qualified k n l r → ⊥
no_qualified None n l r e q = no_name n l r e q
no_qualified (Some k) n l r e q = no_name k l q.0 e q.1

no_word : (t : TableName) → SpellsTable [] t → ⊥
no_word t s =
    let meanings = subst (λ ts. lexemes_of [] ts ≡ Some s.lexemes) (one_reading [] s.tokens [] s.lexed ([], refl, refl)) s.meanings in
    no_qualified t.keyspace t.name s.lexemes [] (no_lexemes [] s.lexemes meanings) s.grammar

some_bytes : (word : List ℕ) (t : TableName) → SpellsTable word t → has_bytes word ≡ true
some_bytes [] t s = absurd (no_word t s)
some_bytes (b ∷ word) t s = refl

-- ---- the words of the line

abbrev HasNoBlank : List ℕ → Type 0
HasNoBlank word = All (λ b. is_blank b ≡ false) word

no_blanks : HasNoBlank (codes "\\flush")
no_blanks =
    let P = λ (b : ℕ). is_blank b ≡ false in
    All-cons P 92 (codes "flush") refl (All-cons P 102 (codes "lush") refl (All-cons P 108 (codes "ush") refl
    (All-cons P 117 (codes "sh") refl (All-cons P 115 (codes "h") refl (All-cons P 104 [] refl (All-nil P))))))

none_blank : HasNoBlank (codes "\\verify")
none_blank =
    let P = λ (b : ℕ). is_blank b ≡ false in
    All-cons P 92 (codes "verify") refl (All-cons P 118 (codes "erify") refl (All-cons P 101 (codes "rify") refl
    (All-cons P 114 (codes "ify") refl (All-cons P 105 (codes "fy") refl (All-cons P 102 (codes "y") refl (All-cons P 121 [] refl (All-nil P)))))))

two_words : (c word : List ℕ) → HasNoBlank c → HasNoBlank word → slice_split is_blank (c ++ 32 ∷ word) ≡ c ∷ word ∷ []
two_words c word named whole = slice_split_at is_blank c 32 word named refl ∙ ap (λ ws. c ∷ ws) (slice_split_none is_blank word whole)

pub flush_said : (word : List ℕ) (t : TableName) → IsTable word t → HasNoBlank word → Flushes (codes "\\flush " ++ word) t
unfolding word_of
flush_said word t is whole = (
  word,
  ap (λ ws. word_in (codes "\\flush") (filter has_bytes ws)) (two_words (codes "\\flush") word no_blanks whole)
      ∙ ap (λ b. word_in (codes "\\flush") (codes "\\flush" ∷ cond b (word ∷ []) [])) (some_bytes word t is.1),
  is,
)

pub verify_said : (word : List ℕ) (t : TableName) → IsTable word t → HasNoBlank word → Verifies (codes "\\verify " ++ word) t
unfolding word_of
verify_said word t is whole = (
  word,
  ap (λ ws. word_in (codes "\\verify") (filter has_bytes ws)) (two_words (codes "\\verify") word none_blank whole)
      ∙ ap (λ b. word_in (codes "\\verify") (codes "\\verify" ∷ cond b (word ∷ []) [])) (some_bytes word t is.1),
  is,
)
