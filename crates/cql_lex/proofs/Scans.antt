-- A text is cut piece by piece: what stands first in it is a token, or a blank or a comment, and the rest is cut so too.
use Rattle.std.proofs.Common.{◌≡◌, ℕ, ◌+◌, List, [], ◌∷◌, ◌++◌, length, Some, refl, sym, subst, ap}
use Rattle.std.proofs.Math.Seq.{drop-append_seam}
use Rattle.cql_lex.specs.Lexes.{Lexes, IsCut, tokens_of}
use Rattle.cql_lex.specs.Rules.{piece_at, token, gap}
use Rattle.cql_lex.specs.declared.piece.Piece.{Piece}
use Rattle.cql_lex.specs.declared.token.Token.{Token}
use Rattle.cql_lex.specs.declared.token.TokenKind.{TokenKind}

-- the text, which stands at this place, has these tokens
pub record Cut (text : List ℕ) (at : ℕ) (tokens : List Token) : Type 0 where
  pub pieces : List Piece
  pub cut : IsCut text pieces
  pub same : tokens ≡ tokens_of at pieces

pub cut_end : (at : ℕ) → Cut [] at []
cut_end at = record { pieces = []; cut = refl; same = refl }

pub cut_token : (x rest : List ℕ) (at : ℕ) (k : TokenKind) (ts : List Token) → piece_at (x ++ rest) ≡ Some (token k (length x)) → Cut rest (at + length x) ts
    → Cut (x ++ rest) at (record { kind = k; start = at; end = at + length x } ∷ ts)
cut_token x rest at k ts p h = record {
  pieces = token k (length x) ∷ h.pieces;
  cut = (p, subst (λ t. IsCut t h.pieces) (sym (drop-append_seam x rest)) h.cut);
  same = ap (λ us. record { kind = k; start = at; end = at + length x } ∷ us) h.same;
}

pub cut_gap : (x rest : List ℕ) (at : ℕ) (ts : List Token) → piece_at (x ++ rest) ≡ Some (gap (length x)) → Cut rest (at + length x) ts → Cut (x ++ rest) at ts
cut_gap x rest at ts p h = record {
  pieces = gap (length x) ∷ h.pieces;
  cut = (p, subst (λ t. IsCut t h.pieces) (sym (drop-append_seam x rest)) h.cut);
  same = h.same;
}

pub lexes : (text : List ℕ) (ts : List Token) → Cut text 0 ts → Lexes text ts
lexes text ts h = (h.pieces, h.cut, h.same)
