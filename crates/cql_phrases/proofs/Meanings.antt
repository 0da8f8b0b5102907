-- Tokens one after the other, as the loop takes them: `total` is what all of them give.
use Rattle.std.proofs.Common.{◌≡◌, ℕ, List, [], ◌∷◌, ◌++◌, Option, None, Some, refl, sym, ap, ◌∙◌, append_assoc}
use Rattle.std.specs.Prelude.{option_map}
use Rattle.std.proofs.lemmas.List.{append-nil}
use Rattle.cql_lex.specs.declared.token.Token.{Token}
use Rattle.cql_phrases.specs.declared.fault.ParseFault.{ParseFault}
use Rattle.cql_phrases.specs.declared.fault.ParseFault.TheVariants as faults
use Rattle.cql_phrases.specs.declared.lexeme.Lexeme.{Lexeme}
use Rattle.cql_phrases.specs.Inner.Reading.{Fails}
use Rattle.cql_phrases.specs.Lexemes.{lexeme_at, lexemes_of}

abbrev pub behind : List Lexeme → Option (List Lexeme) → Option (List Lexeme)
behind front o = option_map (λ xs. front ++ xs) o

regroup : (front : List Lexeme) (x : Lexeme) (o : Option (List Lexeme)) → behind front (option_map (λ xs. x ∷ xs) o) ≡ behind (front ++ x ∷ []) o
regroup front x None = refl
regroup front x (Some xs) = ap (λ ys. Some ys) (sym (append_assoc front (x ∷ []) xs))

pub adds : (source : List ℕ) (front now : List Lexeme) (t : Token) (left rest : List Token) (x : Lexeme) (total : Option (List Lexeme)) → rest ≡ t ∷ left → lexeme_at source t ≡ Some x → now ≡ front ++ x ∷ []
    → behind front (lexemes_of source rest) ≡ total → behind now (lexemes_of source left) ≡ total
unfolding lexemes_of
adds source front now t left rest x total r e n so_far =
    let one : behind front (lexemes_of source (t ∷ left)) ≡ behind (front ++ x ∷ []) (lexemes_of source left) = rw e (regroup front x (lexemes_of source left)) in
    ap (λ (f : List Lexeme). behind f (lexemes_of source left)) n ∙ sym one ∙ ap (λ ts. behind front (lexemes_of source ts)) (sym r) ∙ so_far

pub misses : (source : List ℕ) (front : List Lexeme) (t : Token) (left rest : List Token) (f : ParseFault) (total : Option (List Lexeme)) → rest ≡ t ∷ left → Fails f (lexeme_at source t)
    → behind front (lexemes_of source rest) ≡ total → Fails f total
unfolding lexemes_of
misses source front t left rest faults.Mem total r e so_far = tt
misses source front t left rest faults.Syntax total r e so_far =
    let one : behind front (lexemes_of source (t ∷ left)) ≡ None = rw e refl in
    sym so_far ∙ ap (λ ts. behind front (lexemes_of source ts)) r ∙ one

pub all_found : (source : List ℕ) (front : List Lexeme) (rest : List Token) (total : Option (List Lexeme)) → rest ≡ []
    → behind front (lexemes_of source rest) ≡ total → total ≡ Some front
unfolding lexemes_of
all_found source front rest total r so_far = sym so_far ∙ ap (λ ts. behind front (lexemes_of source ts)) r ∙ ap (λ ys. Some ys) (append-nil front)

pub begins : (o : Option (List Lexeme)) → behind [] o ≡ o
begins None = refl
begins (Some xs) = refl
