-- The tokens of a line ascend within it, each of its kind.
use Rattle.std.proofs.Common.{◌≡◌, ℕ, ◌+◌, ◌-◌, ◌≤◌, List, [], ◌∷◌, ◌++◌, length, take, drop, Option, Some, None, refl, sym, ap, ◌∙◌, subst, arith, IfSome, length-drop, drop-drop}
use Rattle.std.specs.Prelude.{IsUtf8}
use Rattle.std.proofs.lemmas.List.{take-append-drop}
use Rattle.cql_lex.specs.Characters.{is_word, first_is}
use Rattle.cql_lex.specs.Rules.{piece_at}
use Rattle.cql_lex.specs.Lexes.{IsCut, tokens_of, token_of}
use Rattle.cql_lex.specs.Laws.{Ascend, HasForm, HaveForms, AreLongest, AreApart, ArePlaced, WellPlaced, OneReading}
use Rattle.cql_lex.specs.declared.piece.Piece.{Piece}
use Rattle.cql_lex.specs.declared.token.Token.{Token}
use Rattle.cql_lex.specs.declared.token.TokenKind.{TokenKind}
use Rattle.cql_lex.proofs.Pieces.{Good, piece_good}

ascend_lower : (a b end : ℕ) (ts : List Token) → a ≤ b → Ascend b ts end → Ascend a ts end
ascend_lower a b end [] h x = omega arith
ascend_lower a b end (t ∷ ts) h x = (omega (arith, x.0), x.1, x.2)

record Placed (source : List ℕ) (at : ℕ) (ts : List Token) : Type 0 where
  spans : Ascend at ts (length source)
  forms : HaveForms source ts
  longest : AreLongest source ts
  apart : AreApart source ts

no_token : (source : List ℕ) (at size : ℕ) (rest : List Token) → Placed source (at + size) rest → Placed source at rest
no_token source at size rest h = record {
  spans = ascend_lower at (at + size) (length source) rest (omega arith) h.spans;
  forms = h.forms;
  longest = h.longest;
  apart = h.apart;
}

whole : (source : List ℕ) (at : ℕ) → IsUtf8 source → IsUtf8 (take at source ++ drop at source)
whole source at u = subst IsUtf8 (sym (take-append-drop at source)) u

one_token : (source : List ℕ) (at : ℕ) (p : Piece) (k : TokenKind) (rest : List Token) → IsUtf8 source → at ≤ length source → Good (drop at source) p → p.kind ≡ Some k → Placed source (at + p.size) rest → Placed source at (record { kind = k; start = at; end = at + p.size } ∷ rest)
one_token source at p k rest u h good e later =
    let wide : (at + p.size) - at ≡ p.size = omega arith in
    let past : drop p.size (drop at source) ≡ drop (at + p.size) source = drop-drop p.size at source in
    let positive = good.positive in
    record {
      spans = (omega arith, omega arith, later.spans);
      forms = (subst (λ n. HasForm k (take n (drop at source))) (sym wide) (good.form (take at source) (whole source at u) k e), later.forms);
      longest = (λ end more l f. good.longest k e (end - at) (omega arith) (simp length-drop (omega arith)) f, later.longest);
      apart = (λ w. ap (first_is is_word) (sym past) ∙ good.apart k e w, later.apart);
    }

one_piece : (source : List ℕ) (at : ℕ) (p : Piece) (kind : Option TokenKind) (rest : List Token) → IsUtf8 source → at ≤ length source → Good (drop at source) p → p.kind ≡ kind → Placed source (at + p.size) rest → Placed source at (token_of at kind p.size ++ rest)
one_piece source at p None rest u h good e later = no_token source at p.size rest later
one_piece source at p (Some k) rest u h good e later = one_token source at p k rest u h good e later

first_good : (text : List ℕ) (p : Piece) → piece_at text ≡ Some p → Good text p
first_good text p e = subst (λ o. IfSome o (Good text)) e (piece_good text)

placed_from : (source : List ℕ) (at : ℕ) (ps : List Piece) → IsUtf8 source → at ≤ length source → IsCut (drop at source) ps → Placed source at (tokens_of at ps)
placed_from source at [] u h cut = record { spans = h; forms = tt; longest = tt; apart = tt }
placed_from source at (p ∷ ps) u h cut =
    let good = first_good (drop at source) p cut.0 in
    let room = simp length-drop at good.within in
    let past : drop p.size (drop at source) ≡ drop (at + p.size) source = drop-drop p.size at source in
    let rest = placed_from source (at + p.size) ps u (omega arith) (subst (λ text. IsCut text ps) past cut.1) in
    one_piece source at p p.kind (tokens_of (at + p.size) ps) u h good refl rest

pub well_placed : WellPlaced
well_placed source tokens u lexes =
    let placed = placed_from source 0 lexes.0 u (omega arith) lexes.1 in
    subst (ArePlaced source) (sym lexes.2) (record { spans = placed.spans; forms = placed.forms; longest = placed.longest; apart = placed.apart })

same_piece : (p q : Piece) → Some p ≡ Some q → p ≡ q
same_piece p q e = cc

nothing_left : (text : List ℕ) (p : Piece) → text ≡ [] → piece_at text ≡ Some p → ⊥
nothing_left text p e h =
    let good = first_good text p h in
    let none : length text ≡ 0 = ap length e in
    omega (arith, good.positive, good.within)

same_cut : (text : List ℕ) (ps qs : List Piece) → IsCut text ps → IsCut text qs → ps ≡ qs
same_cut text [] [] x y = refl
same_cut text [] (q ∷ qs) x y = absurd (nothing_left text q x y.0)
same_cut text (p ∷ ps) [] x y = absurd (nothing_left text p y x.0)
same_cut text (p ∷ ps) (q ∷ qs) x y =
    let first : p ≡ q = same_piece p q (sym x.0 ∙ y.0) in
    let rest = same_cut (drop p.size text) ps qs x.1 (subst (λ r. IsCut (drop r.size text) qs) (sym first) y.1) in
    λ i. first i ∷ rest i

pub one_reading : OneReading
one_reading source tokens others x y = x.2 ∙ ap (tokens_of 0) (same_cut source x.0 y.0 x.1 y.1) ∙ sym y.2
