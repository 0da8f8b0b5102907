-- A single character is a token of its kind.
use Rattle.std.proofs.Common.{◌≡◌, ℕ, Bool, true, false, cond, List, [], ◌∷◌, length, Option, refl, ap, eqb, IfSome}
use Rattle.std.proofs.lemmas.Bool.{eqb-true}
use Rattle.cql_lex.specs.Rules.{symbol}
use Rattle.cql_lex.specs.Laws.{HasForm, is_wordlike}
use Rattle.cql_lex.specs.declared.token.TokenKind.TheVariants as kind
use Rattle.cql_lex.specs.declared.token.Mark.{Mark}
use Rattle.cql_lex.specs.declared.token.Mark.TheVariants as mark

pub record IsSymbol (c : ℕ) (m : Mark) : Type 0 where
  pub form : HasForm (kind.Mark m) (c ∷ [])
  pub short : (text : List ℕ) → HasForm (kind.Mark m) text → length text ≡ 1
  pub plain : is_wordlike (kind.Mark m) ≡ false

is_symbol : (c : ℕ) (m : Mark) → HasForm (kind.Mark m) (c ∷ []) → ((text : List ℕ) → HasForm (kind.Mark m) text → length text ≡ 1) → is_wordlike (kind.Mark m) ≡ false → IsSymbol c m
is_symbol c m form short plain = record { form = form; short = short; plain = plain }

pick : (c : ℕ) (b : Bool) (x y : Option Mark) → (b ≡ true → IfSome x (IsSymbol c)) → (b ≡ false → IfSome y (IsSymbol c)) → IfSome (cond b x y) (IsSymbol c)
pick c true x y f g = f refl
pick c false x y f g = g refl

pub symbol_is : (c : ℕ) → IfSome (symbol c) (IsSymbol c)
symbol_is c =
    pick c (eqb c 40) _ _ (λ e. is_symbol c mark.OpenParen (ap (λ x. x ∷ []) (eqb-true c 40 e)) (λ xs h. ap length h) refl) (λ _.
    pick c (eqb c 41) _ _ (λ e. is_symbol c mark.CloseParen (ap (λ x. x ∷ []) (eqb-true c 41 e)) (λ xs h. ap length h) refl) (λ _.
    pick c (eqb c 91) _ _ (λ e. is_symbol c mark.OpenBracket (ap (λ x. x ∷ []) (eqb-true c 91 e)) (λ xs h. ap length h) refl) (λ _.
    pick c (eqb c 93) _ _ (λ e. is_symbol c mark.CloseBracket (ap (λ x. x ∷ []) (eqb-true c 93 e)) (λ xs h. ap length h) refl) (λ _.
    pick c (eqb c 123) _ _ (λ e. is_symbol c mark.OpenBrace (ap (λ x. x ∷ []) (eqb-true c 123 e)) (λ xs h. ap length h) refl) (λ _.
    pick c (eqb c 125) _ _ (λ e. is_symbol c mark.CloseBrace (ap (λ x. x ∷ []) (eqb-true c 125 e)) (λ xs h. ap length h) refl) (λ _.
    pick c (eqb c 60) _ _ (λ e. is_symbol c mark.Less (ap (λ x. x ∷ []) (eqb-true c 60 e)) (λ xs h. ap length h) refl) (λ _.
    pick c (eqb c 62) _ _ (λ e. is_symbol c mark.Greater (ap (λ x. x ∷ []) (eqb-true c 62 e)) (λ xs h. ap length h) refl) (λ _.
    pick c (eqb c 61) _ _ (λ e. is_symbol c mark.Equals (ap (λ x. x ∷ []) (eqb-true c 61 e)) (λ xs h. ap length h) refl) (λ _.
    pick c (eqb c 44) _ _ (λ e. is_symbol c mark.Comma (ap (λ x. x ∷ []) (eqb-true c 44 e)) (λ xs h. ap length h) refl) (λ _.
    pick c (eqb c 59) _ _ (λ e. is_symbol c mark.Semicolon (ap (λ x. x ∷ []) (eqb-true c 59 e)) (λ xs h. ap length h) refl) (λ _.
    pick c (eqb c 58) _ _ (λ e. is_symbol c mark.Colon (ap (λ x. x ∷ []) (eqb-true c 58 e)) (λ xs h. ap length h) refl) (λ _.
    pick c (eqb c 46) _ _ (λ e. is_symbol c mark.Dot (ap (λ x. x ∷ []) (eqb-true c 46 e)) (λ xs h. ap length h) refl) (λ _.
    pick c (eqb c 43) _ _ (λ e. is_symbol c mark.Plus (ap (λ x. x ∷ []) (eqb-true c 43 e)) (λ xs h. ap length h) refl) (λ _.
    pick c (eqb c 45) _ _ (λ e. is_symbol c mark.Minus (ap (λ x. x ∷ []) (eqb-true c 45 e)) (λ xs h. ap length h) refl) (λ _.
    pick c (eqb c 42) _ _ (λ e. is_symbol c mark.Star (ap (λ x. x ∷ []) (eqb-true c 42 e)) (λ xs h. ap length h) refl) (λ _.
    tt))))))))))))))))
