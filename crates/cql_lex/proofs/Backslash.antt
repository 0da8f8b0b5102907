-- No token begins with `\`.
use Rattle.std.proofs.Common.{◌≡◌, ℕ, Bool, true, false, cond, List, [], ◌∷◌, take, drop, None, Some, refl, sym, ap, ◌∙◌, ◌&&◌}
use Rattle.std.specs.Prelude.{is_some, not}
use Rattle.std.specs.List.{list_all}
use Rattle.std.proofs.lemmas.Option.{none-some}
use Rattle.uuid.specs.Text.{by_index, is_hex_digit, digits_of}
use Rattle.cql_lex.specs.Characters.{is_word, first_is}
use Rattle.cql_lex.specs.Constants.{uuid_value}
use Rattle.cql_lex.specs.Rules.{piece_at, token_at, token}
use Rattle.cql_lex.specs.Lexes.{IsCut, IsRefused}
use Rattle.cql_lex.specs.declared.piece.Piece.{Piece}
use Rattle.cql_lex.specs.declared.token.TokenKind.TheVariants.{Uuid}

no_digits : (rest : List ℕ) → list_all is_hex_digit (digits_of (92 ∷ rest)) ≡ false
unfolding by_index
no_digits rest = refl

neither : {A : Type 0} (a b c : Bool) (x : A) → c ≡ false → cond a (cond (b && c) (Some x) None) None ≡ None
neither false b c x e = refl
neither true false c x e = refl
neither true true c x e = ap (λ t. cond t (Some x) None) e

no_uuid : (rest : List ℕ) → uuid_value (92 ∷ rest) ≡ None
no_uuid rest = neither _ _ (list_all is_hex_digit (digits_of (92 ∷ rest))) _ (no_digits rest)

no_piece : (rest : List ℕ) → piece_at (92 ∷ rest) ≡ None
unfolding piece_at token_at
no_piece [] = refl
no_piece (d ∷ ds) = ap (λ o. cond (is_some o && not (first_is is_word (drop 36 (92 ∷ d ∷ ds)))) (Some (token Uuid 36)) None) (no_uuid (take 35 (d ∷ ds)))

no_cut : (rest : List ℕ) (ps : List Piece) → IsCut (92 ∷ rest) ps → ⊥
no_cut rest [] h = cc
no_cut rest (p ∷ ps) h = none-some p (sym (no_piece rest) ∙ h.0)

pub refused : (rest : List ℕ) → IsRefused (92 ∷ rest)
refused rest tokens lexed = no_cut rest lexed.0 lexed.1
