-- What a front of a line has given to the grammar.
use Rattle.std.proofs.Common.{◌≡◌, ℕ, ◌+◌, ◌-◌, ◌<◌, ◌≤◌, nat_le, true, false, cond, List, [], ◌∷◌, ◌++◌, length, take, drop, Bool, Option, None, Some, refl, sym, ap, ◌∙◌, subst, arith, length-drop, IfSome}
use Rattle.std.specs.Prelude.{is_some, IsTrue, IsUtf8, map, option_map, option_and_then}
use Rattle.std.specs.Char.{to_ascii_lowercase}
use Rattle.std.proofs.lemmas.List.{append-nil, take-append-drop}
use Rattle.std.proofs.lemmas.Bool.Decides.{nat_tests}
use Rattle.std.proofs.lemmas.Option.{same_Some}
use Rattle.cql_lex.specs.Constants.{is_name, name_value}
use Rattle.cql_lex.specs.Laws.{HasForm}
use Rattle.cql_lex.specs.Lexes.{Lexes, IsRefused, token_of}
use Rattle.cql_lex.specs.Names.{IsNameAt, IsPlainMarkAt, is_plain_mark}
use Rattle.cql_lex.specs.Rules.{piece_at, token}
use Rattle.cql_lex.specs.declared.piece.Piece.{Piece}
use Rattle.cql_lex.specs.declared.token.Mark.{Mark}
use Rattle.cql_lex.specs.declared.token.Mark.TheVariants as mark
use Rattle.cql_lex.specs.declared.token.Token.{Token}
use Rattle.cql_lex.specs.declared.token.TokenKind.{TokenKind}
use Rattle.cql_lex.specs.declared.token.TokenKind.TheVariants as kind
use Rattle.cql_lex.proofs.Pieces.{Good, piece_good}
use Rattle.cql_lex.proofs.Reached.{Reached, nothing_yet, one_more, refused_at, all_read}
use Rattle.cql_phrases.specs.declared.fault.ParseFault.{ParseFault}
use Rattle.cql_phrases.specs.declared.fault.ParseFault.TheVariants as faults
use Rattle.cql_phrases.specs.declared.lexeme.Lexeme.{Lexeme}
use Rattle.cql_phrases.specs.declared.lexeme.Lexeme.TheVariants as lexeme
use Rattle.cql_phrases.specs.Inner.Adding.{IsNextAdded, IsPieceAdded, HasItsForm}
use Rattle.cql_phrases.specs.Inner.Reading.{Fails}
use Rattle.cql_phrases.specs.Lexemes.{lexeme_of, lexeme_at, lexemes_of, mark_lexeme, AreLexemes}

-- the text of a name is one
pub name_has : (text : List ℕ) → IsTrue (is_some (name_value text)) → is_name text ≡ true
name_has text h = by (is_name text) h
  where
    by : (b : Bool) → IsTrue (is_some (cond b (Some (map to_ascii_lowercase text)) None)) → b ≡ true
    by true e = refl
    by false e = absurd cc

-- what is there is refused for want of memory alone
pub only_memory : (e : ParseFault) (o : Option Lexeme) → IsTrue (is_some o) → Fails e o → e ≡ faults.Mem
only_memory faults.Mem o h f = refl
only_memory faults.Syntax o h f = absurd cc

-- what the lexemes of some tokens are, and what the lexeme behind them is
more_lexemes : (source : List ℕ) (ts : List Token) (t : Token) (found : List Lexeme) (x : Lexeme) → lexemes_of source ts ≡ Some found → lexeme_at source t ≡ Some x → lexemes_of source (ts ++ t ∷ []) ≡ Some (found ++ x ∷ [])
unfolding lexemes_of
more_lexemes source [] t found x e h =
    let none : [] ≡ found = same_Some [] found e in
    ap (λ o. option_and_then (λ y. option_map (λ ys. y ∷ ys) (Some [])) o) h ∙ ap (λ front. Some (front ++ x ∷ [])) none
more_lexemes source (u ∷ us) t found x e h =
    by (lexeme_at source u) (lexemes_of source us) (lexemes_of source (us ++ t ∷ [])) (λ ys k. more_lexemes source us t ys x k h) e
  where
    by : (o : Option Lexeme) (p q : Option (List Lexeme)) → ((ys : List Lexeme) → p ≡ Some ys → q ≡ Some (ys ++ x ∷ [])) → option_and_then (λ y. option_map (λ ys. y ∷ ys) p) o ≡ Some found → option_and_then (λ y. option_map (λ ys. y ∷ ys) q) o ≡ Some (found ++ x ∷ [])
    by None p q f k = absurd cc
    by (Some y) None q f k = absurd cc
    by (Some y) (Some ys) q f k = ap (option_map (λ zs. y ∷ zs)) (f ys refl) ∙ ap (λ zs. Some (zs ++ x ∷ [])) (same_Some (y ∷ ys) found k)

-- the lexeme of a token within the source
lexeme_there : (source : List ℕ) (k : TokenKind) (at size : ℕ) (x : Lexeme) → at + size ≤ length source → lexeme_of k at (at + size) (take size (drop at source)) ≡ Some x
    → lexeme_at source (record { kind = k; start = at; end = at + size }) ≡ Some x
unfolding lexeme_at
lexeme_there source k at size x h e =
    let first : nat_le at (at + size) ≡ true = grind (arith, nat_tests) in
    let second : nat_le (at + size) (length source) ≡ true = grind (arith, nat_tests) in
    let wide : (at + size) - at ≡ size = omega arith in
    rw (first, second) (ap (λ n. lexeme_of k at (at + size) (take n (drop at source))) wide ∙ e)

piece_within : (text : List ℕ) (p : Piece) → piece_at text ≡ Some p → p.size ≤ length text
piece_within text p e =
    let good : Good text p = subst (λ o. IfSome o (Good text)) e (piece_good text) in
    good.within

room_for : (source : List ℕ) (at : ℕ) (p : Piece) → at < length source → piece_at (drop at source) ≡ Some p → at + p.size ≤ length source
room_for source at p h e = let within = piece_within (drop at source) p e in omega (arith, within, length-drop at source)

-- a name is added
pub name_added : (source rest : List ℕ) (at size : ℕ) (name : List ℕ) (old new : List Lexeme) → rest ≡ drop at source → at < length source → IsNameAt rest name → size ≡ length name → new ≡ old ++ lexeme.Word name ∷ []
    → IsNextAdded source at size old new
unfolding lexeme_of
name_added source rest at size name old new e h is n added =
    let p = token kind.Name (length name) in
    let here : piece_at (drop at source) ≡ Some p = ap piece_at (sym e) ∙ is.piece in
    let room = room_for source at p h here in (
      p,
      here,
      sym n,
      subst (λ k. at + k ≤ length source) (sym n) room,
      (lexeme.Word name, ap (λ text. option_map lexeme.Word (name_value (take (length name) text))) (sym e) ∙ ap (option_map lexeme.Word) is.value, added),
    )

plain_lexeme : (m : Mark) (start end : ℕ) → is_plain_mark m ≡ true → mark_lexeme m start end ≡ lexeme.Mark m
plain_lexeme mark.AtMost start end e = refl
plain_lexeme mark.AtLeast start end e = refl
plain_lexeme mark.OpenParen start end e = refl
plain_lexeme mark.CloseParen start end e = refl
plain_lexeme mark.OpenBracket start end e = absurd cc
plain_lexeme mark.CloseBracket start end e = absurd cc
plain_lexeme mark.OpenBrace start end e = absurd cc
plain_lexeme mark.CloseBrace start end e = absurd cc
plain_lexeme mark.Less start end e = refl
plain_lexeme mark.Greater start end e = refl
plain_lexeme mark.Equals start end e = refl
plain_lexeme mark.Comma start end e = refl
plain_lexeme mark.Semicolon start end e = refl
plain_lexeme mark.Colon start end e = refl
plain_lexeme mark.Dot start end e = refl
plain_lexeme mark.Plus start end e = refl
plain_lexeme mark.Minus start end e = refl
plain_lexeme mark.Star start end e = refl

-- a mark is added
pub mark_added : (source rest : List ℕ) (at : ℕ) (m : Mark) (old new : List Lexeme) → rest ≡ drop at source → at < length source → IsPlainMarkAt rest m → new ≡ old ++ lexeme.Mark m ∷ []
    → IsNextAdded source at 1 old new
unfolding lexeme_of
mark_added source rest at m old new e h is added =
    let p = token (kind.Mark m) 1 in
    let here : piece_at (drop at source) ≡ Some p = ap piece_at (sym e) ∙ is.piece in
    (p, here, refl, room_for source at p h here, (lexeme.Mark m, ap (λ x. Some x) (plain_lexeme m at (at + 1) is.plain), added))

-- any piece is
pub piece_added : (source rest : List ℕ) (at : ℕ) (p : Piece) (old new : List Lexeme) → rest ≡ drop at source → at < length source → piece_at rest ≡ Some p → IsPieceAdded source at p.kind p.size old new
    → IsNextAdded source at p.size old new
piece_added source rest at p old new e h is added =
    let here : piece_at (drop at source) ≡ Some p = ap piece_at (sym e) ∙ is in
    (p, here, refl, room_for source at p h here, added)

-- the tokens up to a place begin those of the line, and these are their lexemes
pub record Read (source : List ℕ) (at : ℕ) (found : List Lexeme) : Type 0 where
  pub tokens : List Token
  pub reached : Reached source at tokens
  pub meant : lexemes_of source tokens ≡ Some found

pub read_nothing : (source : List ℕ) → Read source 0 []
unfolding lexemes_of
read_nothing source = record { tokens = []; reached = nothing_yet source; meant = refl }

read_by : (source : List ℕ) (at : ℕ) (found next : List Lexeme) (p : Piece) (kind : Option TokenKind) → Read source at found → at < length source → piece_at (drop at source) ≡ Some p → p.kind ≡ kind
    → p.size ≤ length (drop at source) → at + p.size ≤ length source → IsPieceAdded source at kind p.size found next → Read source (at + p.size) next
read_by source at found next p None before h here e size room added = record {
  tokens = before.tokens;
  reached = one_more source at before.tokens before.tokens p before.reached h here size (sym (append-nil before.tokens) ∙ ap (λ k. before.tokens ++ token_of at k p.size) (sym e));
  meant = before.meant ∙ ap (λ xs. Some xs) (sym added);
}
read_by source at found next p (Some k) before h here e size room added =
    let t : Token = record { kind = k; start = at; end = at + p.size } in
    record {
      tokens = before.tokens ++ t ∷ [];
      reached = one_more source at before.tokens (before.tokens ++ t ∷ []) p before.reached h here size (ap (λ k. before.tokens ++ token_of at k p.size) (sym e));
      meant = more_lexemes source before.tokens t found added.0 before.meant (lexeme_there source k at p.size added.0 room added.1) ∙ ap (λ xs. Some xs) (sym added.2);
    }

pub read_next : (source : List ℕ) (at size : ℕ) (found next : List Lexeme) → Read source at found → at < length source → IsNextAdded source at size found next → Read source (at + size) next
read_next source at size found next before h a =
    let within : a.0.size ≤ length (drop at source) = piece_within (drop at source) a.0 a.1 in
    let room : at + a.0.size ≤ length source = omega (arith, a.2, a.3) in
    subst (λ n. Read source (at + n) next) a.2 (read_by source at found next a.0 a.0.kind before h a.1 refl within room a.4)

-- and it isn't empty
pub next_positive : (source : List ℕ) (at size : ℕ) (found next : List Lexeme) → IsNextAdded source at size found next → (0 < size) × (at + size ≤ length source)
next_positive source at size found next a =
    let good : Good (drop at source) a.0 = subst (λ o. IfSome o (Good (drop at source))) a.1 (piece_good (drop at source)) in
    (subst (λ n. 0 < n) a.2 good.positive, a.3)

pub read_refused : (source : List ℕ) (at : ℕ) (found : List Lexeme) → Read source at found → at < length source → piece_at (drop at source) ≡ None → IsRefused source
read_refused source at found before h here = refused_at source at before.tokens before.reached h here

pub read_whole : (source : List ℕ) (at : ℕ) (found : List Lexeme) → Read source at found → length source ≤ at → AreLexemes source found
read_whole source at found before h = (before.tokens, all_read source at before.tokens before.reached h, before.meant)

-- what the rules give has its form
pub piece_has_form : (source : List ℕ) (at : ℕ) (p : Piece) → IsUtf8 source → piece_at (drop at source) ≡ Some p → HasItsForm source at p
piece_has_form source at p u e =
    let good : Good (drop at source) p = subst (λ o. IfSome o (Good (drop at source))) e (piece_good (drop at source)) in
    λ k is. good.form (take at source) (subst IsUtf8 (sym (take-append-drop at source)) u) k is
