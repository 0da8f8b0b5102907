-- How a reader agrees with a phrase, and the steps of readers.
use Rattle.std.proofs.Common.{◌≡◌, ◌≤◌, ◌⊎◌, List, length, Option, None, Some, refl, subst, ap, ◌∙◌, inl, inr}
use Rattle.cql_phrases.specs.declared.lexeme.Lexeme.{Lexeme}
use Rattle.cql_phrases.specs.Inner.Reading.{Reader, done, and_then, chosen, passed}
use Rattle.cql_phrases.specs.Phrases.{Phrase}

-- What is read is the phrase; and a phrase is read, where what follows it may follow.
pub record Agrees {A : Type 0} (p : Reader A) (P : A → Phrase) (F : List Lexeme → Type 0) : Type 0 where
  pub sound : (l r : List Lexeme) (x : A) → p l ≡ Some (x, r) → P x l r
  pub full : (l r : List Lexeme) (x : A) → P x l r → F r → p l ≡ Some (x, r)

-- anything may follow
abbrev pub Anything : List Lexeme → Type 0
Anything r = Unit {0}

-- what is behind a phrase is no longer than what begins with it
abbrev pub Shrinks : {A : Type 0} → (A → Phrase) → Type 0
Shrinks {A} P = (x : A) (l r : List Lexeme) → P x l r → length r ≤ length l

pub record Stepped {A B : Type 0} (o : Option (A × List Lexeme)) (f : A → Reader B) (y : B) (r : List Lexeme) : Type 0 where
  pub value : A
  pub left : List Lexeme
  pub was : o ≡ Some (value, left)
  pub next : f value left ≡ Some (y, r)

pub unstep : {A B : Type 0} (o : Option (A × List Lexeme)) (f : A → Reader B) (y : B) (r : List Lexeme) → and_then o f ≡ Some (y, r) → Stepped o f y r
unstep None f y r e = absurd cc
unstep (Some p) f y r e = record { value = p.0; left = p.1; was = refl; next = e }

pub step : {A B : Type 0} (o : Option (A × List Lexeme)) (f : A → Reader B) (x : A) (m : List Lexeme) (z : Option (B × List Lexeme)) → o ≡ Some (x, m) → f x m ≡ z → and_then o f ≡ z
step {A} {B} o f x m z e h = ap (λ (p : Option (A × List Lexeme)). and_then p f) e ∙ h

pub unchoose : {B : Type 0} (o : Option (List Lexeme)) (f : Reader B) (other : Option (B × List Lexeme)) (z : B × List Lexeme) → chosen o f other ≡ Some z
    → ((m : List Lexeme) × (o ≡ Some m) × (f m ≡ Some z)) ⊎ ((o ≡ None) × (other ≡ Some z))
unchoose None f other z e = inr (refl, e)
unchoose (Some m) f other z e = inl (m, refl, e)

pub choose : {B : Type 0} (o : Option (List Lexeme)) (f : Reader B) (other : Option (B × List Lexeme)) (m : List Lexeme) (z : Option (B × List Lexeme)) → o ≡ Some m → f m ≡ z → chosen o f other ≡ z
choose {B} o f other m z e h = ap (λ (p : Option (List Lexeme)). chosen p f other) e ∙ h

pub choose_other : {B : Type 0} (o : Option (List Lexeme)) (f : Reader B) (other : Option (B × List Lexeme)) (z : Option (B × List Lexeme)) → o ≡ None → other ≡ z → chosen o f other ≡ z
choose_other {B} o f other z e h = ap (λ (p : Option (List Lexeme)). chosen p f other) e ∙ h

pub some_is : {A : Type 0} (x y : A) → ◌≡◌ {A = Option A} (Some x) (Some y) → x ≡ y
some_is x y e = cc

pub unpass : (o : Option (List Lexeme)) (u : Unit {0}) (r : List Lexeme) → passed o ≡ Some (u, r) → o ≡ Some r
unpass None u r e = absurd cc
unpass (Some m) u r e = ap (λ (p : Unit {0} × List Lexeme). Some p.1) (some_is (tt, m) (u, r) e)

pub pass : (o : Option (List Lexeme)) (r : List Lexeme) → o ≡ Some r → passed o ≡ Some (tt, r)
pass o r e = ap passed e

-- the value and the rest of an answer
pub record Same {A : Type 0} (x y : A) (l r : List Lexeme) : Type 0 where
  pub value : x ≡ y
  pub rest : l ≡ r

pub same : {A : Type 0} (x y : A) (l r : List Lexeme) → done x l ≡ Some (y, r) → Same x y l r
same {A} x y l r e =
    let p : ◌≡◌ {A = A × List Lexeme} (x, l) (y, r) = some_is (x, l) (y, r) e in
    record { value = ap (λ (q : A × List Lexeme). q.0) p; rest = ap (λ (q : A × List Lexeme). q.1) p }

-- a phrase of what was answered
pub phrase_at : {A : Type 0} (P : A → Phrase) (x y : A) (l m r : List Lexeme) → done x m ≡ Some (y, r) → P x l m → P y l r
phrase_at {A} P x y l m r e h = let s = same x y m r e in subst (λ (z : A). P z l r) s.value (subst (λ (n : List Lexeme). P x l n) s.rest h)
