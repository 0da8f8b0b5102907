-- What a front of a line has given.
use Rattle.std.proofs.Common.{◌≡◌, ℕ, ◌+◌, ◌<◌, ◌≤◌, List, [], ◌∷◌, ◌++◌, length, drop, Some, None, sym, ap, ◌∙◌, refl, subst, arith, length-drop, append_assoc, append-nil, drop-drop}
use Rattle.std.proofs.lemmas.List.{drop_all}
use Rattle.std.proofs.lemmas.Option.{none-some}
use Rattle.cql_lex.specs.Rules.{piece_at}
use Rattle.cql_lex.specs.Lexes.{IsCut, Lexes, IsRefused, tokens_of, token_of}
use Rattle.cql_lex.specs.declared.piece.Piece.{Piece}
use Rattle.cql_lex.specs.declared.token.Token.{Token}

-- the tokens found up to a place begin those of the line, whatever follows
pub record Reached (source : List ℕ) (at : ℕ) (found : List Token) : Type 0 where
  pub within : at ≤ length source
  pub reads : (ps : List Piece) → IsCut (drop at source) ps → (qs : List Piece) × IsCut source qs × (found ++ tokens_of at ps ≡ tokens_of 0 qs)
  pub only : (qs : List Piece) → IsCut source qs → (ps : List Piece) × IsCut (drop at source) ps

pub nothing_yet : (source : List ℕ) → Reached source 0 []
nothing_yet source = record {
  within = omega arith;
  reads = λ ps h. (ps, h, refl);
  only = λ qs h. (qs, h);
}

some_same : (p q : Piece) → Some p ≡ Some q → p ≡ q
some_same p q e = cc

-- where something is left, its first piece is what the rules give
first_piece : (text : List ℕ) (ps : List Piece) → 0 < length text → IsCut text ps → (p : Piece) × (rest : List Piece) × (piece_at text ≡ Some p) × IsCut (drop p.size text) rest
first_piece [] ps h cut = absurd (omega arith)
first_piece (c ∷ cs) [] h cut = cc
first_piece (c ∷ cs) (p ∷ ps) h cut = (p, ps, cut.0, cut.1)

left : (source : List ℕ) (at : ℕ) → at < length source → 0 < length (drop at source)
left source at h = simp length-drop (omega arith)

pub one_more : (source : List ℕ) (at : ℕ) (found next : List Token) (p : Piece) → Reached source at found → at < length source → piece_at (drop at source) ≡ Some p → p.size ≤ length (drop at source) → next ≡ found ++ token_of at p.kind p.size → Reached source (at + p.size) next
one_more source at found next p before h here size now =
    let past : drop p.size (drop at source) ≡ drop (at + p.size) source = drop-drop p.size at source in
    let room = simp length-drop at size in
    record {
      within = omega arith;
      reads = λ ps cut.
          let whole = before.reads (p ∷ ps) (here, subst (λ text. IsCut text ps) (sym past) cut) in
          (whole.0, whole.1, ap (λ ts. ts ++ tokens_of (at + p.size) ps) now ∙ append_assoc found (token_of at p.kind p.size) (tokens_of (at + p.size) ps) ∙ whole.2);
      only = λ qs cut.
          let rest = before.only qs cut in
          let first = first_piece (drop at source) rest.0 (left source at h) rest.1 in
          let same : first.0 ≡ p = some_same _ _ (sym first.2 ∙ here) in
          (first.1, subst (λ text. IsCut text first.1) (ap (λ q. drop q.size (drop at source)) same ∙ past) first.3);
    }

pub refused_at : (source : List ℕ) (at : ℕ) (found : List Token) → Reached source at found → at < length source → piece_at (drop at source) ≡ None → IsRefused source
refused_at source at found before h here tokens lexes =
    let rest = before.only lexes.0 lexes.1 in
    let first = first_piece (drop at source) rest.0 (left source at h) rest.1 in
    absurd (none-some first.0 (sym here ∙ first.2))

pub all_read : (source : List ℕ) (at : ℕ) (found : List Token) → Reached source at found → length source ≤ at → Lexes source found
all_read source at found before h =
    let whole = before.reads [] (drop_all at source h) in
    (whole.0, whole.1, sym (append-nil found) ∙ whole.2)
