-- The parser and the grammar agree.
use Rattle.std.proofs.Common.{◌≡◌, ℕ, false, List, [], Option, None, Some, Result, Ok, Err, refl, sym, subst, ap, ◌∙◌, inl, inr}
use Rattle.std.specs.Prelude.{IfOk, option_and_then}
use Rattle.std.specs.Str.{bytes_eq}
use Rattle.cql_lex.specs.declared.token.Token.{Token}
use Rattle.cql_phrases.specs.declared.fault.ParseFault.{ParseFault}
use Rattle.cql_phrases.specs.declared.fault.ParseFault.TheVariants as faults
use Rattle.cql_phrases.specs.declared.lexeme.Lexeme.{Lexeme}
use Rattle.cql_phrases.specs.declared.keyword.Keyword.{Keyword}
use Rattle.cql_phrases.specs.declared.keyword.Keyword.TheVariants as word
use Rattle.cql_lex.specs.declared.token.Mark.TheVariants as mark
use Rattle.cql_parse.specs.declared.syntax.Statement.{Statement}
use Rattle.cql_parse.specs.declared.syntax.Statement.TheVariants as statement
use Rattle.cql_phrases.specs.Symbols.{spelling}
use Rattle.cql_phrases.specs.Inner.Reading.{done, after_word, after_mark, Gives}
use Rattle.cql_parse.specs.Inner.StatementReading.{select_at, definition_at, change_at, statement_at, semicolon_at, whole_statement, statement_of}
use Rattle.cql_changes.specs.Inner.ChangeReading.{insert_at, update_at, delete_at}
use Rattle.cql_tables.specs.Inner.TableReading.{create_at, alter_at, ended}
use Rattle.cql_phrases.specs.Phrases.{Phrase, keyword, sign, nothing, ◌∣◌}
use Rattle.cql_parse.specs.Grammar.{Of, IsStatement}
use Rattle.cql_phrases.specs.Lexemes.{lexemes_of}
use Rattle.cql_parse.specs.Means.{Means, IsAnswer, OneStatement}
use Rattle.cql_phrases.proofs.Agree.{unstep, step, unchoose, choose, choose_other, some_is, same, phrase_at}
use Rattle.cql_phrases.proofs.Tokens.{word_sound, word_full, other_word, mark_sound, mark_full}
use Rattle.cql_changes.proofs.ChangeAgree.{insert_sound, insert_full, update_sound, update_full, delete_sound, delete_full}
use Rattle.cql_parse.proofs.SelectAgree.{select_sound, select_full}
use Rattle.cql_tables.proofs.TableAgree.{End, ended_is}
use Rattle.cql_tables.proofs.DefineAgree.{create_sound, create_full, alter_sound, alter_full}

nothing_there : (x : Statement) (r : List Lexeme) → ◌≡◌ {A = Option (Statement × List Lexeme)} None (Some (x, r)) → ⊥
nothing_there x r e = cc

definition_sound : (l r : List Lexeme) (x : Statement) → definition_at l ≡ Some (x, r) → Of x l r
unfolding definition_at
definition_sound l r x e =
    elim (unchoose (after_word word.Create l) _ _ (x, r) e) [
      | inl h ↦ let u = unstep (create_at h.0) _ x r h.2 in phrase_at Of (statement.Create u.value) x l u.left r u.next (create_sound l h.0 u.left u.value (word_sound word.Create l h.0 h.1) u.was)
      | inr h ↦
          elim (unchoose (after_word word.Alter l) _ _ (x, r) h.1) [
            | inl k ↦ let u = unstep (alter_at k.0) _ x r k.2 in phrase_at Of (statement.Alter u.value) x l u.left r u.next (alter_sound l k.0 u.left u.value (word_sound word.Alter l k.0 k.1) u.was)
            | inr k ↦ absurd (nothing_there x r k.1)
          ]
    ]

change_sound : (l r : List Lexeme) (x : Statement) → change_at l ≡ Some (x, r) → Of x l r
unfolding change_at
change_sound l r x e =
    elim (unchoose (after_word word.Insert l) _ _ (x, r) e) [
      | inl h ↦ let u = unstep (insert_at h.0) _ x r h.2 in phrase_at Of (statement.Insert u.value) x l u.left r u.next (insert_sound l h.0 u.left u.value (word_sound word.Insert l h.0 h.1) u.was)
      | inr h ↦
          elim (unchoose (after_word word.Update l) _ _ (x, r) h.1) [
            | inl k ↦ let u = unstep (update_at k.0) _ x r k.2 in phrase_at Of (statement.Update u.value) x l u.left r u.next (update_sound l k.0 u.left u.value (word_sound word.Update l k.0 k.1) u.was)
            | inr k ↦
                elim (unchoose (after_word word.Delete l) _ _ (x, r) k.1) [
                  | inl j ↦ let u = unstep (delete_at j.0) _ x r j.2 in phrase_at Of (statement.Delete u.value) x l u.left r u.next (delete_sound l j.0 u.left u.value (word_sound word.Delete l j.0 j.1) u.was)
                  | inr j ↦ definition_sound l r x j.1
                ]
          ]
    ]

statement_sound : (l r : List Lexeme) (x : Statement) → statement_at l ≡ Some (x, r) → Of x l r
unfolding statement_at
statement_sound l r x e =
    elim (unchoose (after_word word.Select l) _ _ (x, r) e) [
      | inl h ↦ let u = unstep (select_at h.0) _ x r h.2 in phrase_at Of (statement.Select u.value) x l u.left r u.next (select_sound l h.0 u.left u.value (word_sound word.Select l h.0 h.1) u.was)
      | inr h ↦ change_sound l r x h.1
    ]

-- how a statement that begins with a word is found
found_change : (k : Keyword) (l m r : List Lexeme) (x : Statement) → keyword k l m → bytes_eq (spelling k) (spelling word.Select) ≡ false → change_at l ≡ Some (x, r) → statement_at l ≡ Some (x, r)
unfolding statement_at
found_change k l m r x h d e = choose_other (after_word word.Select l) _ _ _ (other_word word.Select k l m d h) e

found_definition : (k : Keyword) (l m r : List Lexeme) (x : Statement) → keyword k l m → bytes_eq (spelling k) (spelling word.Insert) ≡ false → bytes_eq (spelling k) (spelling word.Update) ≡ false → bytes_eq (spelling k) (spelling word.Delete) ≡ false
    → definition_at l ≡ Some (x, r) → change_at l ≡ Some (x, r)
unfolding change_at
found_definition k l m r x h a b c e =
    choose_other (after_word word.Insert l) _ _ _ (other_word word.Insert k l m a h)
    (choose_other (after_word word.Update l) _ _ _ (other_word word.Update k l m b h) (choose_other (after_word word.Delete l) _ _ _ (other_word word.Delete k l m c h) e))

statement_full : (l r : List Lexeme) (x : Statement) → Of x l r → End r → statement_at l ≡ Some (x, r)
unfolding statement_at change_at definition_at spelling
statement_full l r (statement.Select x) h s = choose (after_word word.Select l) _ _ h.0 _ (word_full word.Select l h.0 h.1) (step (select_at h.0) _ x r _ (select_full l r x h s) refl)
statement_full l r (statement.Insert x) h s =
    found_change word.Insert l h.0 r (statement.Insert x) h.1 refl (choose (after_word word.Insert l) _ _ h.0 _ (word_full word.Insert l h.0 h.1) (step (insert_at h.0) _ x r _ (insert_full l r x h s) refl))
statement_full l r (statement.Update x) h s =
    found_change word.Update l h.0 r (statement.Update x) h.1 refl
    (choose_other (after_word word.Insert l) _ _ _ (other_word word.Insert word.Update l h.0 refl h.1)
    (choose (after_word word.Update l) _ _ h.0 _ (word_full word.Update l h.0 h.1) (step (update_at h.0) _ x r _ (update_full l r x h s) refl)))
statement_full l r (statement.Delete x) h s =
    found_change word.Delete l h.0 r (statement.Delete x) h.1 refl
    (choose_other (after_word word.Insert l) _ _ _ (other_word word.Insert word.Delete l h.0 refl h.1)
    (choose_other (after_word word.Update l) _ _ _ (other_word word.Update word.Delete l h.0 refl h.1)
    (choose (after_word word.Delete l) _ _ h.0 _ (word_full word.Delete l h.0 h.1) (step (delete_at h.0) _ x r _ (delete_full l r x h s) refl))))
statement_full l r (statement.Create x) h s =
    found_change word.Create l h.0 r (statement.Create x) h.1 refl (found_definition word.Create l h.0 r (statement.Create x) h.1 refl refl refl
    (choose (after_word word.Create l) _ _ h.0 _ (word_full word.Create l h.0 h.1) (step (create_at h.0) _ x r _ (create_full l r x h s) refl)))
statement_full l r (statement.Alter x) h s =
    found_change word.Alter l h.0 r (statement.Alter x) h.1 refl (found_definition word.Alter l h.0 r (statement.Alter x) h.1 refl refl refl
    (choose_other (after_word word.Create l) _ _ _ (other_word word.Create word.Alter l h.0 refl h.1)
    (choose (after_word word.Alter l) _ _ h.0 _ (word_full word.Alter l h.0 h.1) (step (alter_at h.0) _ x r _ (alter_full l r x h s) refl))))

-- ---- the semicolon and the end

abbrev Semicolon : Unit {0} → Phrase
Semicolon u = sign mark.Semicolon ∣ nothing

semicolon_sound : (l r : List Lexeme) (u : Unit {0}) → semicolon_at l ≡ Some (u, r) → Semicolon u l r
unfolding semicolon_at
semicolon_sound l r u e =
    elim (unchoose (after_mark mark.Semicolon l) _ _ (u, r) e) [
      | inl h ↦ phrase_at Semicolon tt u l h.0 r h.2 (inl (mark_sound mark.Semicolon l h.0 h.1))
      | inr h ↦ phrase_at Semicolon tt u l l r h.1 (inr refl)
    ]

pub whole_sound : (l : List Lexeme) (x : Statement) → whole_statement l ≡ Some x → IsStatement x l
unfolding whole_statement
whole_sound l x e =
    let a = unstep (statement_at l) _ x [] (ended_is _ x e) in
    let b = unstep (semicolon_at a.left) _ x [] a.next in
    let z = same a.value x b.left [] b.next in
    subst (λ (y : Statement). IsStatement y l) z.value (a.left, statement_sound l a.left a.value a.was, subst (λ (m : List Lexeme). Semicolon tt a.left m) z.rest (semicolon_sound a.left b.left b.value b.was))

semicolon_full : (l : List Lexeme) → Semicolon tt l [] → (semicolon_at l ≡ Some (tt, [])) × End l
unfolding semicolon_at after_mark
semicolon_full l (inl h) = (choose (after_mark mark.Semicolon l) _ _ [] _ (mark_full mark.Semicolon l [] h) refl, inr ([], h))
semicolon_full l (inr h) = (choose_other (after_mark mark.Semicolon l) _ _ _ (ap (after_mark mark.Semicolon) h) (ap (λ (t : List Lexeme). done tt t) h), inl h)

pub whole_full : (l : List Lexeme) (x : Statement) → IsStatement x l → whole_statement l ≡ Some x
unfolding whole_statement
whole_full l x h =
    let s = semicolon_full h.0 h.2 in
    ap ended (step (statement_at l) _ x h.0 _ (statement_full l h.0 x h.1 s.1) (step (semicolon_at h.0) _ tt [] (Some (x, [])) s.0 refl))

-- ---- from the tokens

meant : (source : List ℕ) (tokens : List Token) (s : Statement) (o : Option (List Lexeme)) → lexemes_of source tokens ≡ o → option_and_then whole_statement o ≡ Some s → Means source tokens s
meant source tokens s None p e = absurd cc
meant source tokens s (Some ls) p e = record { lexemes = ls; meanings = p; grammar = whole_sound ls s e }

pub read_is_meant : (source : List ℕ) (tokens : List Token) (r : Result Statement ParseFault) → Gives (λ s. s) r (statement_of source tokens) → IfOk r (λ s. Means source tokens s)
unfolding statement_of
read_is_meant source tokens (Ok s) g = meant source tokens s (lexemes_of source tokens) refl g
read_is_meant source tokens (Err e) g = tt

meant_is_read : (source : List ℕ) (tokens : List Token) (s : Statement) → Means source tokens s → statement_of source tokens ≡ Some s
unfolding statement_of
meant_is_read source tokens s m = ap (option_and_then whole_statement) m.meanings ∙ whole_full m.lexemes s m.grammar

pub is_answer : (source : List ℕ) (tokens : List Token) (s : Statement) (r : Result Statement ParseFault) → Gives (λ t. t) r (statement_of source tokens) → Means source tokens s → IsAnswer s r
is_answer source tokens s (Ok t) g m = some_is t s (sym g ∙ meant_is_read source tokens s m)
is_answer source tokens s (Err faults.Mem) g m = tt
is_answer source tokens s (Err faults.Syntax) g m = let k = sym g ∙ meant_is_read source tokens s m in absurd cc

pub at_most_one : OneStatement
at_most_one source tokens s t m n = some_is s t (sym (meant_is_read source tokens s m) ∙ meant_is_read source tokens t n)
