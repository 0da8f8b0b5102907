-- A literal within a literal: the walk through open brackets takes the grammar's literals and nothing else.
use Rattle.std.proofs.Common.{◌≡◌, ℕ, ◌⊎◌, Bool, true, false, ◌||◌, cond, List, [], ◌∷◌, Option, Some, refl, sym, subst, ap, ◌∙◌, inl, inr}
use Rattle.std.specs.Str.{bytes_eq}
use Rattle.std.proofs.lemmas.Slice.Eq.{bytes_eq-Decides}
use Rattle.cql_phrases.specs.declared.lexeme.Lexeme.{Lexeme}
use Rattle.cql_phrases.specs.declared.lexeme.Lexeme.TheVariants as lexeme
use Rattle.cql_phrases.specs.declared.keyword.Keyword.TheVariants as word
use Rattle.cql_lex.specs.declared.token.Mark.TheVariants as mark
use Rattle.cql_phrases.specs.declared.nested.Frame.{Frame}
use Rattle.cql_phrases.specs.declared.nested.Frame.TheVariants as frame
use Rattle.cql_phrases.specs.declared.nested.Wants.{Wants}
use Rattle.cql_phrases.specs.declared.nested.Wants.TheVariants as wants
use Rattle.cql_phrases.specs.declared.nested.Move.{Move}
use Rattle.cql_phrases.specs.declared.nested.Move.TheVariants as move
use Rattle.cql_phrases.specs.declared.term.Constant.{Constant}
use Rattle.cql_phrases.specs.declared.term.Constant.TheVariants as constant
use Rattle.cql_phrases.specs.declared.term.Nested.{Nested}
use Rattle.cql_phrases.specs.Symbols.{spelling}
use Rattle.cql_phrases.specs.Inner.TermReading.{stands_alone, opening, starts, bracket_closes, brace_closes, closing, comma, colon, follows, closes, step, walk, nested_at}
use Rattle.cql_phrases.specs.Phrases.{Phrase, keyword, IsConstant, Part, Nests, one_term, some_terms, some_pairs, a_literal, constant_there, null_there, literal_there, last_term, next_term, last_pair, next_pair, empty_braces, set_there, map_there, empty_brackets, list_there}
use Rattle.cql_phrases.proofs.Agree.{Agrees, Anything, unstep, some_is, phrase_at}
use Rattle.cql_phrases.proofs.Walks.{walk_goes, walk_opens, walk_closes, walk_ends, walk_fails}

-- ---- what is still to come in an open bracket

-- behind a term: the closing lexeme, or a comma and more terms
abbrev TermsTail : Lexeme → Phrase
TermsTail x l r = (l ≡ x ∷ r) ⊎ ((m : List Lexeme) × (l ≡ lexeme.Mark mark.Comma ∷ m) × Nests some_terms m (x ∷ r))

abbrev ValueTail : ℕ → Phrase
ValueTail at l r = (l ≡ lexeme.CloseBrace at ∷ r) ⊎ ((m : List Lexeme) × (l ≡ lexeme.Mark mark.Comma ∷ m) × Nests some_pairs m (lexeme.CloseBrace at ∷ r))

abbrev KeyTail : ℕ → Phrase
KeyTail at l r = (m : List Lexeme) × (n : List Lexeme) × (l ≡ lexeme.Mark mark.Colon ∷ m) × Nests one_term m n × ValueTail at n r

abbrev Tail : Frame → ℕ → Phrase
Tail frame.List at l r = TermsTail (lexeme.CloseBracket at) l r
Tail frame.Braces at l r = TermsTail (lexeme.CloseBrace at) l r ⊎ KeyTail at l r
Tail frame.Set at l r = TermsTail (lexeme.CloseBrace at) l r
Tail frame.Key at l r = KeyTail at l r
Tail frame.Value at l r = ValueTail at l r

abbrev Closer : Frame → ℕ → Phrase
Closer frame.List at l r = l ≡ lexeme.CloseBracket at ∷ r
Closer frame.Braces at l r = l ≡ lexeme.CloseBrace at ∷ r
Closer frame.Set at l r = l ≡ lexeme.CloseBrace at ∷ r
Closer frame.Key at l r = ⊥
Closer frame.Value at l r = l ≡ lexeme.CloseBrace at ∷ r

abbrev TermTail : Frame → ℕ → Phrase
TermTail f at l r = (m : List Lexeme) × Nests one_term l m × Tail f at m r

-- from here the innermost bracket is closed, with the place behind it
abbrev Ahead : Wants → Frame → ℕ → Phrase
Ahead wants.First f at l r = Closer f at l r ⊎ TermTail f at l r
Ahead wants.Term f at l r = TermTail f at l r
Ahead wants.Next f at l r = Tail f at l r

-- and those around it
abbrev Out : List Frame → ℕ → ℕ → Phrase
Out [] at e l r = (at ≡ e) × (l ≡ r)
Out (g ∷ gs) at e l r = (b : ℕ) × (m : List Lexeme) × Tail g b l m × Out gs b e m r

abbrev All_ahead : Wants → Frame → List Frame → ℕ → Phrase
All_ahead w f fs e l r = (at : ℕ) × (m : List Lexeme) × Ahead w f at l m × Out fs at e m r

-- ---- joining what was read with what comes

terms_join : (x : Lexeme) (l m k : List Lexeme) → Nests one_term l m → TermsTail x m k → Nests some_terms l (x ∷ k)
terms_join x l m k t (inl h) = last_term (subst (λ (z : List Lexeme). Nests one_term l z) h t)
terms_join x l m k t (inr h) = next_term (subst (λ (z : List Lexeme). Nests one_term l z) h.1 t) h.2

pairs_join : (at : ℕ) (l m k : List Lexeme) → Nests one_term l m → KeyTail at m k → Nests some_pairs l (lexeme.CloseBrace at ∷ k)
pairs_join at l m k t (a, b, e, u, inl h) = last_pair (subst (λ (z : List Lexeme). Nests one_term l z) e t) (subst (λ (z : List Lexeme). Nests one_term a z) h u)
pairs_join at l m k t (a, b, e, u, inr h) = next_pair (subst (λ (z : List Lexeme). Nests one_term l z) e t) (subst (λ (z : List Lexeme). Nests one_term a z) h.1 u) h.2

went : (P : Wants → Frame → Type 0) (v w : Wants) (f g : Frame) → move.Go v f ≡ move.Go w g → P w g → P v f
went P v w f g e p = let a : v ≡ w = cc in let b : f ≡ g = cc in subst (λ (u : Wants). P u f) (sym a) (subst (λ (h : Frame). P w h) (sym b) p)

-- ---- plain terms

is_null_or_truth : (text : List ℕ) (l : List Lexeme) (a b c : Bool) → bytes_eq text (spelling word.Null) ≡ a → bytes_eq text (spelling word.True) ≡ b → bytes_eq text (spelling word.False) ≡ c
    → (a || b || c) ≡ true → Nests one_term (lexeme.Word text ∷ l) l
is_null_or_truth text l true b c p q s e = null_there (ap (λ (t : List ℕ). lexeme.Word t ∷ l) ((bytes_eq-Decides text (spelling word.Null)).0 p))
is_null_or_truth text l false true c p q s e = constant_there (constant.Boolean true) (ap (λ (t : List ℕ). lexeme.Word t ∷ l) ((bytes_eq-Decides text (spelling word.True)).0 q))
is_null_or_truth text l false false true p q s e = constant_there (constant.Boolean false) (ap (λ (t : List ℕ). lexeme.Word t ∷ l) ((bytes_eq-Decides text (spelling word.False)).0 s))
is_null_or_truth text l false false false p q s e = absurd cc

plain_term : (x : Lexeme) (l : List Lexeme) → stands_alone x ≡ true → Nests one_term (x ∷ l) l
unfolding stands_alone
plain_term (lexeme.Word text) l e = is_null_or_truth text l _ _ _ refl refl refl e
plain_term (lexeme.Text text) l e = constant_there (constant.Text text) refl
plain_term (lexeme.Number x) l e = constant_there (constant.Number x) refl
plain_term (lexeme.Blob b) l e = constant_there (constant.Blob b) refl
plain_term (lexeme.Uuid u) l e = constant_there (constant.Uuid u) refl
plain_term (lexeme.Quoted text) l e = absurd cc
plain_term (lexeme.Ratio x) l e = absurd cc
plain_term (lexeme.Mark m) l e = absurd cc
plain_term (lexeme.OpenBracket p) l e = absurd cc
plain_term (lexeme.CloseBracket p) l e = absurd cc
plain_term (lexeme.OpenBrace p) l e = absurd cc
plain_term (lexeme.CloseBrace p) l e = absurd cc

-- ---- one step back: a term

starts_goes : (b : Bool) (f g : Frame) (v : Wants) (x : Lexeme) → stands_alone x ≡ b → cond b (move.Go wants.Next f) (opening x) ≡ move.Go v g → (stands_alone x ≡ true) × (move.Go wants.Next f ≡ move.Go v g)
unfolding opening
starts_goes true f g v x q e = (q, e)
starts_goes false f g v (lexeme.Word text) q e = absurd cc
starts_goes false f g v (lexeme.Quoted text) q e = absurd cc
starts_goes false f g v (lexeme.Text text) q e = absurd cc
starts_goes false f g v (lexeme.Number x) q e = absurd cc
starts_goes false f g v (lexeme.Ratio x) q e = absurd cc
starts_goes false f g v (lexeme.Blob b) q e = absurd cc
starts_goes false f g v (lexeme.Uuid u) q e = absurd cc
starts_goes false f g v (lexeme.Mark m) q e = absurd cc
starts_goes false f g v (lexeme.OpenBracket p) q e = absurd cc
starts_goes false f g v (lexeme.CloseBracket p) q e = absurd cc
starts_goes false f g v (lexeme.OpenBrace p) q e = absurd cc
starts_goes false f g v (lexeme.CloseBrace p) q e = absurd cc

starts_opens : (b : Bool) (f g : Frame) (x : Lexeme) → cond b (move.Go wants.Next f) (opening x) ≡ move.Open g → opening x ≡ move.Open g
starts_opens true f g x e = absurd cc
starts_opens false f g x e = e

starts_closes : (b : Bool) (f : Frame) (at : ℕ) (x : Lexeme) → cond b (move.Go wants.Next f) (opening x) ≡ move.Close at → ⊥
unfolding opening
starts_closes true f at x e = cc
starts_closes false f at (lexeme.Word text) e = cc
starts_closes false f at (lexeme.Quoted text) e = cc
starts_closes false f at (lexeme.Text text) e = cc
starts_closes false f at (lexeme.Number x) e = cc
starts_closes false f at (lexeme.Ratio x) e = cc
starts_closes false f at (lexeme.Blob b) e = cc
starts_closes false f at (lexeme.Uuid u) e = cc
starts_closes false f at (lexeme.Mark m) e = cc
starts_closes false f at (lexeme.OpenBracket p) e = cc
starts_closes false f at (lexeme.CloseBracket p) e = cc
starts_closes false f at (lexeme.OpenBrace p) e = cc
starts_closes false f at (lexeme.CloseBrace p) e = cc

term_goes : (f g : Frame) (v : Wants) (x : Lexeme) (at : ℕ) (l r : List Lexeme) → starts f x ≡ move.Go v g → Ahead v g at l r → TermTail f at (x ∷ l) r
unfolding starts
term_goes f g v x at l r e h =
    let s = starts_goes (stands_alone x) f g v x refl e in
    (l, plain_term x l s.0, went (λ w k. Ahead w k at l r) wants.Next v f g s.1 h)

opened : (g h : Frame) → move.Open g ≡ move.Open h → g ≡ h
opened g h e = cc

brace_literal : (s at : ℕ) (l r : List Lexeme) → Ahead wants.First frame.Braces at l r → Nests (a_literal s at) (lexeme.OpenBrace s ∷ l) r
brace_literal s at l r (inl h) = subst (λ (z : List Lexeme). Nests (a_literal s at) (lexeme.OpenBrace s ∷ z) r) (sym h) (empty_braces s at)
brace_literal s at l r (inr (m, t, inl h)) = set_there s at (terms_join (lexeme.CloseBrace at) l m r t h)
brace_literal s at l r (inr (m, t, inr h)) = map_there s at (pairs_join at l m r t h)

bracket_literal : (s at : ℕ) (l r : List Lexeme) → Ahead wants.First frame.List at l r → Nests (a_literal s at) (lexeme.OpenBracket s ∷ l) r
bracket_literal s at l r (inl h) = subst (λ (z : List Lexeme). Nests (a_literal s at) (lexeme.OpenBracket s ∷ z) r) (sym h) (empty_brackets s at)
bracket_literal s at l r (inr h) = list_there s at (terms_join (lexeme.CloseBracket at) l h.0 r h.1 h.2)

opening_there : (g : Frame) (x : Lexeme) (at : ℕ) (l r : List Lexeme) → opening x ≡ move.Open g → Ahead wants.First g at l r → Nests one_term (x ∷ l) r
unfolding opening
opening_there g (lexeme.OpenBracket s) at l r e h = literal_there s at (bracket_literal s at l r (subst (λ (k : Frame). Ahead wants.First k at l r) (sym (opened frame.List g e)) h))
opening_there g (lexeme.OpenBrace s) at l r e h = literal_there s at (brace_literal s at l r (subst (λ (k : Frame). Ahead wants.First k at l r) (sym (opened frame.Braces g e)) h))
opening_there g (lexeme.Word text) at l r e h = absurd cc
opening_there g (lexeme.Quoted text) at l r e h = absurd cc
opening_there g (lexeme.Text text) at l r e h = absurd cc
opening_there g (lexeme.Number x) at l r e h = absurd cc
opening_there g (lexeme.Ratio x) at l r e h = absurd cc
opening_there g (lexeme.Blob b) at l r e h = absurd cc
opening_there g (lexeme.Uuid u) at l r e h = absurd cc
opening_there g (lexeme.Mark m) at l r e h = absurd cc
opening_there g (lexeme.CloseBracket p) at l r e h = absurd cc
opening_there g (lexeme.CloseBrace p) at l r e h = absurd cc

term_opens : (f g : Frame) (x : Lexeme) (at b : ℕ) (l m r : List Lexeme) → starts f x ≡ move.Open g → Ahead wants.First g at l m → Tail f b m r → TermTail f b (x ∷ l) r
unfolding starts
term_opens f g x at b l m r e h t = (m, opening_there g x at l m (starts_opens (stands_alone x) f g x e) h, t)

-- ---- one step back: behind a term

next_goes : (f g : Frame) (v : Wants) (x : Lexeme) (at : ℕ) (l r : List Lexeme) → follows f x ≡ move.Go v g → Ahead v g at l r → Tail f at (x ∷ l) r
unfolding follows closing bracket_closes brace_closes comma colon
next_goes frame.List g v (lexeme.Mark mark.Comma) at l r e h = let t = went (λ w k. Ahead w k at l r) wants.Term v frame.List g e h in inr (l, refl, terms_join (lexeme.CloseBracket at) l t.0 r t.1 t.2)
next_goes frame.Braces g v (lexeme.Mark mark.Comma) at l r e h = let t = went (λ w k. Ahead w k at l r) wants.Term v frame.Set g e h in inl (inr (l, refl, terms_join (lexeme.CloseBrace at) l t.0 r t.1 t.2))
next_goes frame.Set g v (lexeme.Mark mark.Comma) at l r e h = let t = went (λ w k. Ahead w k at l r) wants.Term v frame.Set g e h in inr (l, refl, terms_join (lexeme.CloseBrace at) l t.0 r t.1 t.2)
next_goes frame.Value g v (lexeme.Mark mark.Comma) at l r e h = let t = went (λ w k. Ahead w k at l r) wants.Term v frame.Key g e h in inr (l, refl, pairs_join at l t.0 r t.1 t.2)
next_goes frame.Key g v (lexeme.Mark mark.Comma) at l r e h = absurd cc
next_goes frame.Braces g v (lexeme.Mark mark.Colon) at l r e h = let t = went (λ w k. Ahead w k at l r) wants.Term v frame.Value g e h in inr (l, t.0, refl, t.1, t.2)
next_goes frame.Key g v (lexeme.Mark mark.Colon) at l r e h = let t = went (λ w k. Ahead w k at l r) wants.Term v frame.Value g e h in (l, t.0, refl, t.1, t.2)
next_goes frame.List g v (lexeme.Mark mark.Colon) at l r e h = absurd cc
next_goes frame.Set g v (lexeme.Mark mark.Colon) at l r e h = absurd cc
next_goes frame.Value g v (lexeme.Mark mark.Colon) at l r e h = absurd cc
next_goes f g v (lexeme.Mark mark.OpenParen) at l r e h = absurd cc
next_goes f g v (lexeme.Mark mark.CloseParen) at l r e h = absurd cc
next_goes f g v (lexeme.Mark mark.Less) at l r e h = absurd cc
next_goes f g v (lexeme.Mark mark.AtMost) at l r e h = absurd cc
next_goes f g v (lexeme.Mark mark.Greater) at l r e h = absurd cc
next_goes f g v (lexeme.Mark mark.AtLeast) at l r e h = absurd cc
next_goes f g v (lexeme.Mark mark.Equals) at l r e h = absurd cc
next_goes f g v (lexeme.Mark mark.Semicolon) at l r e h = absurd cc
next_goes f g v (lexeme.Mark mark.Dot) at l r e h = absurd cc
next_goes f g v (lexeme.Mark mark.OpenBracket) at l r e h = absurd cc
next_goes f g v (lexeme.Mark mark.CloseBracket) at l r e h = absurd cc
next_goes f g v (lexeme.Mark mark.OpenBrace) at l r e h = absurd cc
next_goes f g v (lexeme.Mark mark.CloseBrace) at l r e h = absurd cc
next_goes f g v (lexeme.Mark mark.Plus) at l r e h = absurd cc
next_goes f g v (lexeme.Mark mark.Minus) at l r e h = absurd cc
next_goes f g v (lexeme.Mark mark.Star) at l r e h = absurd cc
next_goes f g v (lexeme.Word text) at l r e h = absurd cc
next_goes f g v (lexeme.Quoted text) at l r e h = absurd cc
next_goes f g v (lexeme.Text text) at l r e h = absurd cc
next_goes f g v (lexeme.Number x) at l r e h = absurd cc
next_goes f g v (lexeme.Ratio x) at l r e h = absurd cc
next_goes f g v (lexeme.Blob b) at l r e h = absurd cc
next_goes f g v (lexeme.Uuid u) at l r e h = absurd cc
next_goes f g v (lexeme.OpenBracket p) at l r e h = absurd cc
next_goes frame.List g v (lexeme.CloseBracket p) at l r e h = absurd cc
next_goes frame.Braces g v (lexeme.CloseBracket p) at l r e h = absurd cc
next_goes frame.Set g v (lexeme.CloseBracket p) at l r e h = absurd cc
next_goes frame.Key g v (lexeme.CloseBracket p) at l r e h = absurd cc
next_goes frame.Value g v (lexeme.CloseBracket p) at l r e h = absurd cc
next_goes f g v (lexeme.OpenBrace p) at l r e h = absurd cc
next_goes frame.List g v (lexeme.CloseBrace p) at l r e h = absurd cc
next_goes frame.Braces g v (lexeme.CloseBrace p) at l r e h = absurd cc
next_goes frame.Set g v (lexeme.CloseBrace p) at l r e h = absurd cc
next_goes frame.Key g v (lexeme.CloseBrace p) at l r e h = absurd cc
next_goes frame.Value g v (lexeme.CloseBrace p) at l r e h = absurd cc

next_opens : (f g : Frame) (x : Lexeme) → follows f x ≡ move.Open g → ⊥
unfolding follows closing bracket_closes brace_closes comma colon
next_opens frame.List g (lexeme.Mark mark.Comma) e = cc
next_opens frame.List g (lexeme.Mark mark.Colon) e = cc
next_opens frame.Braces g (lexeme.Mark mark.Comma) e = cc
next_opens frame.Braces g (lexeme.Mark mark.Colon) e = cc
next_opens frame.Set g (lexeme.Mark mark.Comma) e = cc
next_opens frame.Set g (lexeme.Mark mark.Colon) e = cc
next_opens frame.Key g (lexeme.Mark mark.Comma) e = cc
next_opens frame.Key g (lexeme.Mark mark.Colon) e = cc
next_opens frame.Value g (lexeme.Mark mark.Comma) e = cc
next_opens frame.Value g (lexeme.Mark mark.Colon) e = cc
next_opens f g (lexeme.Mark mark.OpenParen) e = cc
next_opens f g (lexeme.Mark mark.CloseParen) e = cc
next_opens f g (lexeme.Mark mark.Less) e = cc
next_opens f g (lexeme.Mark mark.AtMost) e = cc
next_opens f g (lexeme.Mark mark.Greater) e = cc
next_opens f g (lexeme.Mark mark.AtLeast) e = cc
next_opens f g (lexeme.Mark mark.Equals) e = cc
next_opens f g (lexeme.Mark mark.Semicolon) e = cc
next_opens f g (lexeme.Mark mark.Dot) e = cc
next_opens f g (lexeme.Mark mark.OpenBracket) e = cc
next_opens f g (lexeme.Mark mark.CloseBracket) e = cc
next_opens f g (lexeme.Mark mark.OpenBrace) e = cc
next_opens f g (lexeme.Mark mark.CloseBrace) e = cc
next_opens f g (lexeme.Mark mark.Plus) e = cc
next_opens f g (lexeme.Mark mark.Minus) e = cc
next_opens f g (lexeme.Mark mark.Star) e = cc
next_opens f g (lexeme.Word text) e = cc
next_opens f g (lexeme.Quoted text) e = cc
next_opens f g (lexeme.Text text) e = cc
next_opens f g (lexeme.Number x) e = cc
next_opens f g (lexeme.Ratio x) e = cc
next_opens f g (lexeme.Blob b) e = cc
next_opens f g (lexeme.Uuid u) e = cc
next_opens f g (lexeme.OpenBracket p) e = cc
next_opens frame.List g (lexeme.CloseBracket p) e = cc
next_opens frame.Braces g (lexeme.CloseBracket p) e = cc
next_opens frame.Set g (lexeme.CloseBracket p) e = cc
next_opens frame.Key g (lexeme.CloseBracket p) e = cc
next_opens frame.Value g (lexeme.CloseBracket p) e = cc
next_opens f g (lexeme.OpenBrace p) e = cc
next_opens frame.List g (lexeme.CloseBrace p) e = cc
next_opens frame.Braces g (lexeme.CloseBrace p) e = cc
next_opens frame.Set g (lexeme.CloseBrace p) e = cc
next_opens frame.Key g (lexeme.CloseBrace p) e = cc
next_opens frame.Value g (lexeme.CloseBrace p) e = cc

closed_at : (a b : ℕ) → move.Close a ≡ move.Close b → a ≡ b
closed_at a b e = cc

-- ---- one step back: a closing bracket

closing_there : (f : Frame) (x : Lexeme) (at : ℕ) (l : List Lexeme) → closing f x ≡ move.Close at → Closer f at (x ∷ l) l
unfolding closing bracket_closes brace_closes
closing_there frame.List (lexeme.CloseBracket p) at l e = ap (λ (a : ℕ). lexeme.CloseBracket a ∷ l) (closed_at p at e)
closing_there frame.Braces (lexeme.CloseBrace p) at l e = ap (λ (a : ℕ). lexeme.CloseBrace a ∷ l) (closed_at p at e)
closing_there frame.Set (lexeme.CloseBrace p) at l e = ap (λ (a : ℕ). lexeme.CloseBrace a ∷ l) (closed_at p at e)
closing_there frame.Value (lexeme.CloseBrace p) at l e = ap (λ (a : ℕ). lexeme.CloseBrace a ∷ l) (closed_at p at e)
closing_there frame.Key (lexeme.CloseBrace p) at l e = absurd cc
closing_there frame.List (lexeme.CloseBrace p) at l e = absurd cc
closing_there frame.Braces (lexeme.CloseBracket p) at l e = absurd cc
closing_there frame.Set (lexeme.CloseBracket p) at l e = absurd cc
closing_there frame.Key (lexeme.CloseBracket p) at l e = absurd cc
closing_there frame.Value (lexeme.CloseBracket p) at l e = absurd cc
closing_there f (lexeme.Word text) at l e = absurd cc
closing_there f (lexeme.Quoted text) at l e = absurd cc
closing_there f (lexeme.Text text) at l e = absurd cc
closing_there f (lexeme.Number x) at l e = absurd cc
closing_there f (lexeme.Ratio x) at l e = absurd cc
closing_there f (lexeme.Blob b) at l e = absurd cc
closing_there f (lexeme.Uuid u) at l e = absurd cc
closing_there f (lexeme.Mark m) at l e = absurd cc
closing_there f (lexeme.OpenBracket p) at l e = absurd cc
closing_there f (lexeme.OpenBrace p) at l e = absurd cc

closer_tail : (f : Frame) (at : ℕ) (l r : List Lexeme) → Closer f at l r → Tail f at l r
closer_tail frame.List at l r h = inl h
closer_tail frame.Braces at l r h = inl (inl h)
closer_tail frame.Set at l r h = inl h
closer_tail frame.Key at l r h = absurd h
closer_tail frame.Value at l r h = inl h

comma_closes : (f : Frame) (at : ℕ) → comma f ≡ move.Close at → ⊥
unfolding comma
comma_closes frame.List at e = cc
comma_closes frame.Braces at e = cc
comma_closes frame.Set at e = cc
comma_closes frame.Key at e = cc
comma_closes frame.Value at e = cc

colon_closes : (f : Frame) (at : ℕ) → colon f ≡ move.Close at → ⊥
unfolding colon
colon_closes frame.List at e = cc
colon_closes frame.Braces at e = cc
colon_closes frame.Set at e = cc
colon_closes frame.Key at e = cc
colon_closes frame.Value at e = cc

next_closes : (f : Frame) (x : Lexeme) (at : ℕ) (l : List Lexeme) → follows f x ≡ move.Close at → Tail f at (x ∷ l) l
unfolding follows
next_closes f (lexeme.Mark mark.Comma) at l e = absurd (comma_closes f at e)
next_closes f (lexeme.Mark mark.Colon) at l e = absurd (colon_closes f at e)
next_closes f (lexeme.Mark mark.OpenParen) at l e = closer_tail f at _ l (closing_there f (lexeme.Mark mark.OpenParen) at l e)
next_closes f (lexeme.Mark mark.CloseParen) at l e = closer_tail f at _ l (closing_there f (lexeme.Mark mark.CloseParen) at l e)
next_closes f (lexeme.Mark mark.Less) at l e = closer_tail f at _ l (closing_there f (lexeme.Mark mark.Less) at l e)
next_closes f (lexeme.Mark mark.AtMost) at l e = closer_tail f at _ l (closing_there f (lexeme.Mark mark.AtMost) at l e)
next_closes f (lexeme.Mark mark.Greater) at l e = closer_tail f at _ l (closing_there f (lexeme.Mark mark.Greater) at l e)
next_closes f (lexeme.Mark mark.AtLeast) at l e = closer_tail f at _ l (closing_there f (lexeme.Mark mark.AtLeast) at l e)
next_closes f (lexeme.Mark mark.Equals) at l e = closer_tail f at _ l (closing_there f (lexeme.Mark mark.Equals) at l e)
next_closes f (lexeme.Mark mark.Semicolon) at l e = closer_tail f at _ l (closing_there f (lexeme.Mark mark.Semicolon) at l e)
next_closes f (lexeme.Mark mark.Dot) at l e = closer_tail f at _ l (closing_there f (lexeme.Mark mark.Dot) at l e)
next_closes f (lexeme.Mark mark.OpenBracket) at l e = closer_tail f at _ l (closing_there f (lexeme.Mark mark.OpenBracket) at l e)
next_closes f (lexeme.Mark mark.CloseBracket) at l e = closer_tail f at _ l (closing_there f (lexeme.Mark mark.CloseBracket) at l e)
next_closes f (lexeme.Mark mark.OpenBrace) at l e = closer_tail f at _ l (closing_there f (lexeme.Mark mark.OpenBrace) at l e)
next_closes f (lexeme.Mark mark.CloseBrace) at l e = closer_tail f at _ l (closing_there f (lexeme.Mark mark.CloseBrace) at l e)
next_closes f (lexeme.Mark mark.Plus) at l e = closer_tail f at _ l (closing_there f (lexeme.Mark mark.Plus) at l e)
next_closes f (lexeme.Mark mark.Minus) at l e = closer_tail f at _ l (closing_there f (lexeme.Mark mark.Minus) at l e)
next_closes f (lexeme.Mark mark.Star) at l e = closer_tail f at _ l (closing_there f (lexeme.Mark mark.Star) at l e)
next_closes f (lexeme.Word text) at l e = closer_tail f at _ l (closing_there f (lexeme.Word text) at l e)
next_closes f (lexeme.Quoted text) at l e = closer_tail f at _ l (closing_there f (lexeme.Quoted text) at l e)
next_closes f (lexeme.Text text) at l e = closer_tail f at _ l (closing_there f (lexeme.Text text) at l e)
next_closes f (lexeme.Number x) at l e = closer_tail f at _ l (closing_there f (lexeme.Number x) at l e)
next_closes f (lexeme.Ratio x) at l e = closer_tail f at _ l (closing_there f (lexeme.Ratio x) at l e)
next_closes f (lexeme.Blob b) at l e = closer_tail f at _ l (closing_there f (lexeme.Blob b) at l e)
next_closes f (lexeme.Uuid u) at l e = closer_tail f at _ l (closing_there f (lexeme.Uuid u) at l e)
next_closes f (lexeme.OpenBracket p) at l e = closer_tail f at _ l (closing_there f (lexeme.OpenBracket p) at l e)
next_closes f (lexeme.CloseBracket p) at l e = closer_tail f at _ l (closing_there f (lexeme.CloseBracket p) at l e)
next_closes f (lexeme.OpenBrace p) at l e = closer_tail f at _ l (closing_there f (lexeme.OpenBrace p) at l e)
next_closes f (lexeme.CloseBrace p) at l e = closer_tail f at _ l (closing_there f (lexeme.CloseBrace p) at l e)

-- ---- one step back, whatever is wanted

-- at the first place: a closing bracket, or what starts a term
first_step : (m s z : Move) → cond (closes m) m s ≡ z → (m ≡ z) × (closes m ≡ true) ⊎ (s ≡ z)
first_step (move.Close at) s z e = inl (e, refl)
first_step (move.Go v g) s z e = inr e
first_step (move.Open g) s z e = inr e
first_step move.Wrong s z e = inr e

no_go : (m : Move) (v : Wants) (g : Frame) → m ≡ move.Go v g → closes m ≡ true → ⊥
no_go m v g e c = let k : closes m ≡ false = ap closes e in cc

no_open : (m : Move) (g : Frame) → m ≡ move.Open g → closes m ≡ true → ⊥
no_open m g e c = let k : closes m ≡ false = ap closes e in cc

goes_back : (w v : Wants) (f g : Frame) (x : Lexeme) (at : ℕ) (l r : List Lexeme) → step w f x ≡ move.Go v g → Ahead v g at l r → Ahead w f at (x ∷ l) r
unfolding step
goes_back wants.First v f g x at l r e h =
    elim (first_step (closing f x) (starts f x) (move.Go v g) e) [
      | inl c ↦ absurd (no_go (closing f x) v g c.0 c.1)
      | inr s ↦ inr (term_goes f g v x at l r s h)
    ]
goes_back wants.Term v f g x at l r e h = term_goes f g v x at l r e h
goes_back wants.Next v f g x at l r e h = next_goes f g v x at l r e h

opens_back : (w : Wants) (f g : Frame) (x : Lexeme) (at b : ℕ) (l m r : List Lexeme) → step w f x ≡ move.Open g → Ahead wants.First g at l m → Tail f b m r → Ahead w f b (x ∷ l) r
unfolding step
opens_back wants.First f g x at b l m r e h t =
    elim (first_step (closing f x) (starts f x) (move.Open g) e) [
      | inl c ↦ absurd (no_open (closing f x) g c.0 c.1)
      | inr s ↦ inr (term_opens f g x at b l m r s h t)
    ]
opens_back wants.Term f g x at b l m r e h t = term_opens f g x at b l m r e h t
opens_back wants.Next f g x at b l m r e h t = absurd (next_opens f g x e)

closes_back : (w : Wants) (f : Frame) (x : Lexeme) (at : ℕ) (l : List Lexeme) → step w f x ≡ move.Close at → Ahead w f at (x ∷ l) l
unfolding step starts
closes_back wants.First f x at l e =
    elim (first_step (closing f x) (starts f x) (move.Close at) e) [
      | inl c ↦ inl (closing_there f x at l c.0)
      | inr s ↦ absurd (starts_closes (stands_alone x) f at x s)
    ]
closes_back wants.Term f x at l e = absurd (starts_closes (stands_alone x) f at x e)
closes_back wants.Next f x at l e = next_closes f x at l e

-- ---- what the walk takes is in the grammar

by_move : (w : Wants) (f : Frame) (x : Lexeme) (l : List Lexeme) (e : ℕ) (r : List Lexeme) → ((v : Wants) (g : Frame) (gs : List Frame) → walk v g gs l ≡ Some (e, r) → All_ahead v g gs e l r)
    → (m : Move) → step w f x ≡ m → (fs : List Frame) → walk w f fs (x ∷ l) ≡ Some (e, r) → All_ahead w f fs e (x ∷ l) r
by_move w f x l e r later move.Wrong s fs h = let k = sym (walk_fails w f fs x l s) ∙ h in absurd cc
by_move w f x l e r later (move.Go v g) s fs h =
    let t = later v g fs (sym (walk_goes w v f g fs x l s) ∙ h) in
    (t.0, t.1, goes_back w v f g x t.0 l t.1 s t.2, t.3)
by_move w f x l e r later (move.Open g) s fs h =
    let t = later wants.First g (f ∷ fs) (sym (walk_opens w f g fs x l s) ∙ h) in
    (t.3.0, t.3.1, opens_back w f g x t.0 t.3.0 l t.1 t.3.1 s t.2 t.3.2, t.3.3)
by_move w f x l e r later (move.Close at) s [] h =
    let k = some_is (at, l) (e, r) (sym (walk_ends w f x l at s) ∙ h) in
    (at, l, closes_back w f x at l s, (ap (λ (p : ℕ × List Lexeme). p.0) k, ap (λ (p : ℕ × List Lexeme). p.1) k))
by_move w f x l e r later (move.Close at) s (g ∷ gs) h =
    let t = later wants.Next g gs (sym (walk_closes w f g gs x l at s) ∙ h) in
    (at, l, closes_back w f x at l s, t)

walk_sound : (l : List Lexeme) (w : Wants) (f : Frame) (fs : List Frame) (e : ℕ) (r : List Lexeme) → walk w f fs l ≡ Some (e, r) → All_ahead w f fs e l r
unfolding walk
walk_sound [] w f fs e r h = absurd cc
walk_sound (x ∷ l) w f fs e r h = by_move w f x l e r (λ v g gs. walk_sound l v g gs e r) (step w f x) refl fs h

-- ---- what is in the grammar the walk takes

-- a term begins alike at the first place and behind a comma
abbrev FromBoth : Frame → List Frame → List Lexeme → Option (ℕ × List Lexeme) → Type 0
FromBoth f fs l z = (walk wants.Term f fs l ≡ z) × (walk wants.First f fs l ≡ z)

plain_both : (f : Frame) (fs : List Frame) (x : Lexeme) (l r : List Lexeme) → l ≡ x ∷ r → stands_alone x ≡ true → closing f x ≡ move.Wrong → FromBoth f fs l (walk wants.Next f fs r)
unfolding step starts
plain_both f fs x l r e p c =
    (ap (walk wants.Term f fs) e ∙ walk_goes wants.Term wants.Next f f fs x r (rw p refl), ap (walk wants.First f fs) e ∙ walk_goes wants.First wants.Next f f fs x r (rw (c, p) refl))

constant_both : (f : Frame) (fs : List Frame) (c : Constant) (l r : List Lexeme) → IsConstant c l r → FromBoth f fs l (walk wants.Next f fs r)
unfolding stands_alone closing spelling
constant_both f fs (constant.Text t) l r h = plain_both f fs (lexeme.Text t) l r h refl refl
constant_both f fs (constant.Number n) l r h = plain_both f fs (lexeme.Number n) l r h refl refl
constant_both f fs (constant.Blob b) l r h = plain_both f fs (lexeme.Blob b) l r h refl refl
constant_both f fs (constant.Uuid u) l r h = plain_both f fs (lexeme.Uuid u) l r h refl refl
constant_both f fs (constant.Boolean true) l r h = plain_both f fs (lexeme.Word (spelling word.True)) l r h refl refl
constant_both f fs (constant.Boolean false) l r h = plain_both f fs (lexeme.Word (spelling word.False)) l r h refl refl

null_both : (f : Frame) (fs : List Frame) (l r : List Lexeme) → keyword word.Null l r → FromBoth f fs l (walk wants.Next f fs r)
unfolding stands_alone closing spelling
null_both f fs l r h = plain_both f fs (lexeme.Word (spelling word.Null)) l r h refl refl

-- what the walk does along each part
abbrev Along : Part → List Lexeme → List Lexeme → Type 0
Along one_term l r = (f : Frame) (fs : List Frame) → FromBoth f fs l (walk wants.Next f fs r)
Along some_terms l r = (fs : List Frame)
    → FromBoth frame.List fs l (walk wants.Next frame.List fs r) × (walk wants.Term frame.Set fs l ≡ walk wants.Next frame.Set fs r)
    × ((at : ℕ) (m : List Lexeme) → r ≡ lexeme.CloseBrace at ∷ m → walk wants.First frame.Braces fs l ≡ walk wants.Next frame.Set fs r)
Along some_pairs l r = (fs : List Frame) → (walk wants.Term frame.Key fs l ≡ walk wants.Next frame.Value fs r) × (walk wants.First frame.Braces fs l ≡ walk wants.Next frame.Value fs r)
Along (a_literal s e) l r = ((f : Frame) (fs : List Frame) → FromBoth f fs l (walk wants.Next f fs r)) × (nested_at l ≡ Some (record { start = s; end = e }, r))

-- a comma, a colon, a closing bracket behind a term
comma_step : (f g : Frame) (fs : List Frame) (m : List Lexeme) → comma f ≡ move.Go wants.Term g → walk wants.Next f fs (lexeme.Mark mark.Comma ∷ m) ≡ walk wants.Term g fs m
unfolding step follows
comma_step f g fs m e = walk_goes wants.Next wants.Term f g fs (lexeme.Mark mark.Comma) m e

colon_step : (f g : Frame) (fs : List Frame) (m : List Lexeme) → colon f ≡ move.Go wants.Term g → walk wants.Next f fs (lexeme.Mark mark.Colon ∷ m) ≡ walk wants.Term g fs m
unfolding step follows
colon_step f g fs m e = walk_goes wants.Next wants.Term f g fs (lexeme.Mark mark.Colon) m e

-- a bracket that opens around and closes at its end
abbrev Closed : List Frame → ℕ → List Lexeme → Option (ℕ × List Lexeme)
Closed [] at r = Some (at, r)
Closed (g ∷ gs) at r = walk wants.Next g gs r

close_step : (w : Wants) (f : Frame) (fs : List Frame) (x : Lexeme) (at : ℕ) (r : List Lexeme) → step w f x ≡ move.Close at → walk w f fs (x ∷ r) ≡ Closed fs at r
close_step w f [] x at r e = walk_ends w f x r at e
close_step w f (g ∷ gs) x at r e = walk_closes w f g gs x r at e

-- braces and brackets, whatever stands around
abbrev InBraces : ℕ → List Lexeme → List Lexeme → Type 0
InBraces at l r = (fs : List Frame) → walk wants.First frame.Braces fs l ≡ Closed fs at r

abbrev InBrackets : ℕ → List Lexeme → List Lexeme → Type 0
InBrackets at l r = (fs : List Frame) → walk wants.First frame.List fs l ≡ Closed fs at r

brace_along : (s e : ℕ) (l r : List Lexeme) → InBraces e l r → Along (a_literal s e) (lexeme.OpenBrace s ∷ l) r
unfolding step starts stands_alone opening closing nested_at
brace_along s e l r h = (
  λ f fs. (walk_opens wants.Term f frame.Braces fs (lexeme.OpenBrace s) l refl ∙ h (f ∷ fs), walk_opens wants.First f frame.Braces fs (lexeme.OpenBrace s) l refl ∙ h (f ∷ fs)),
  rw (h []) refl,
)

bracket_along : (s e : ℕ) (l r : List Lexeme) → InBrackets e l r → Along (a_literal s e) (lexeme.OpenBracket s ∷ l) r
unfolding step starts stands_alone opening closing nested_at
bracket_along s e l r h = (
  λ f fs. (walk_opens wants.Term f frame.List fs (lexeme.OpenBracket s) l refl ∙ h (f ∷ fs), walk_opens wants.First f frame.List fs (lexeme.OpenBracket s) l refl ∙ h (f ∷ fs)),
  rw (h []) refl,
)

set_step : (fs : List Frame) (at : ℕ) (r : List Lexeme) → walk wants.Next frame.Set fs (lexeme.CloseBrace at ∷ r) ≡ Closed fs at r
unfolding step follows closing brace_closes
set_step fs at r = close_step wants.Next frame.Set fs (lexeme.CloseBrace at) at r refl

braces_step : (fs : List Frame) (at : ℕ) (r : List Lexeme) → walk wants.Next frame.Braces fs (lexeme.CloseBrace at ∷ r) ≡ Closed fs at r
unfolding step follows closing brace_closes
braces_step fs at r = close_step wants.Next frame.Braces fs (lexeme.CloseBrace at) at r refl

value_step : (fs : List Frame) (at : ℕ) (r : List Lexeme) → walk wants.Next frame.Value fs (lexeme.CloseBrace at ∷ r) ≡ Closed fs at r
unfolding step follows closing brace_closes
value_step fs at r = close_step wants.Next frame.Value fs (lexeme.CloseBrace at) at r refl

list_step : (fs : List Frame) (at : ℕ) (r : List Lexeme) → walk wants.Next frame.List fs (lexeme.CloseBracket at ∷ r) ≡ Closed fs at r
unfolding step follows closing bracket_closes
list_step fs at r = close_step wants.Next frame.List fs (lexeme.CloseBracket at) at r refl

empty_braces_step : (fs : List Frame) (at : ℕ) (r : List Lexeme) → walk wants.First frame.Braces fs (lexeme.CloseBrace at ∷ r) ≡ Closed fs at r
unfolding step closing brace_closes
empty_braces_step fs at r = close_step wants.First frame.Braces fs (lexeme.CloseBrace at) at r refl

empty_brackets_step : (fs : List Frame) (at : ℕ) (r : List Lexeme) → walk wants.First frame.List fs (lexeme.CloseBracket at ∷ r) ≡ Closed fs at r
unfolding step closing bracket_closes
empty_brackets_step fs at r = close_step wants.First frame.List fs (lexeme.CloseBracket at) at r refl

-- one term in braces that close behind it
last_in_braces : (fs : List Frame) (l r m : List Lexeme) (at : ℕ) → walk wants.First frame.Braces fs l ≡ walk wants.Next frame.Braces fs r → r ≡ lexeme.CloseBrace at ∷ m → walk wants.First frame.Braces fs l ≡ walk wants.Next frame.Set fs r
last_in_braces fs l r m at h e =
    h ∙ ap (walk wants.Next frame.Braces fs) e ∙ braces_step fs at m ∙ sym (set_step fs at m) ∙ ap (walk wants.Next frame.Set fs) (sym e)

along : {p : Part} {l r : List Lexeme} → Nests p l r → Along p l r
unfolding comma colon
along (constant_there {l} {r} c h) = λ f fs. constant_both f fs c l r h
along (null_there {l} {r} h) = λ f fs. null_both f fs l r h
along (literal_there s e h) = (along h).0
along (last_term {l} {r} h) = λ fs. ((along h) frame.List fs, ((along h) frame.Set fs).0, λ at m e. last_in_braces fs l r m at ((along h) frame.Braces fs).1 e)
along (next_term {l} {m} {r} h k) = λ fs. (
  (((along h) frame.List fs).0 ∙ comma_step frame.List frame.List fs m refl ∙ ((along k) fs).0.0, ((along h) frame.List fs).1 ∙ comma_step frame.List frame.List fs m refl ∙ ((along k) fs).0.0),
  ((along h) frame.Set fs).0 ∙ comma_step frame.Set frame.Set fs m refl ∙ ((along k) fs).1,
  λ at n e. ((along h) frame.Braces fs).1 ∙ comma_step frame.Braces frame.Set fs m refl ∙ ((along k) fs).1,
)
along (last_pair {l} {m} {r} h k) = λ fs.
    (((along h) frame.Key fs).0 ∙ colon_step frame.Key frame.Value fs m refl ∙ ((along k) frame.Value fs).0, ((along h) frame.Braces fs).1 ∙ colon_step frame.Braces frame.Value fs m refl ∙ ((along k) frame.Value fs).0)
along (next_pair {l} {m} {n} {r} h k j) = λ fs. (
  ((along h) frame.Key fs).0 ∙ colon_step frame.Key frame.Value fs m refl ∙ ((along k) frame.Value fs).0 ∙ comma_step frame.Value frame.Key fs n refl ∙ ((along j) fs).0,
  ((along h) frame.Braces fs).1 ∙ colon_step frame.Braces frame.Value fs m refl ∙ ((along k) frame.Value fs).0 ∙ comma_step frame.Value frame.Key fs n refl ∙ ((along j) fs).0,
)
along (empty_braces {r} s e) = brace_along s e (lexeme.CloseBrace e ∷ r) r (λ fs. empty_braces_step fs e r)
along (set_there {l} {r} s e h) = brace_along s e l r (λ fs. ((along h) fs).2 e r refl ∙ set_step fs e r)
along (map_there {l} {r} s e h) = brace_along s e l r (λ fs. ((along h) fs).1 ∙ value_step fs e r)
along (empty_brackets {r} s e) = bracket_along s e (lexeme.CloseBracket e ∷ r) r (λ fs. empty_brackets_step fs e r)
along (list_there {l} {r} s e h) = bracket_along s e l r (λ fs. ((along h) fs).0.1 ∙ list_step fs e r)

-- ---- both

abbrev pub IsNested : Nested → Phrase
IsNested n = Nests (a_literal n.start n.end)

nested_sound : (l r : List Lexeme) (n : Nested) → nested_at l ≡ Some (n, r) → IsNested n l r
unfolding nested_at
nested_sound [] r n e = absurd cc
nested_sound (lexeme.OpenBracket s ∷ l) r n e =
    let u = unstep (walk wants.First frame.List [] l) _ n r e in
    let t = walk_sound l wants.First frame.List [] u.value u.left u.was in
    let k : Nests (a_literal s t.0) (lexeme.OpenBracket s ∷ l) t.1 = bracket_literal s t.0 l t.1 t.2 in
    phrase_at IsNested (record { start = s; end = u.value }) n (lexeme.OpenBracket s ∷ l) u.left r u.next
    (subst (λ (a : ℕ). Nests (a_literal s a) (lexeme.OpenBracket s ∷ l) u.left) t.3.0 (subst (λ (m : List Lexeme). Nests (a_literal s t.0) (lexeme.OpenBracket s ∷ l) m) t.3.1 k))
nested_sound (lexeme.OpenBrace s ∷ l) r n e =
    let u = unstep (walk wants.First frame.Braces [] l) _ n r e in
    let t = walk_sound l wants.First frame.Braces [] u.value u.left u.was in
    let k : Nests (a_literal s t.0) (lexeme.OpenBrace s ∷ l) t.1 = brace_literal s t.0 l t.1 t.2 in
    phrase_at IsNested (record { start = s; end = u.value }) n (lexeme.OpenBrace s ∷ l) u.left r u.next
    (subst (λ (a : ℕ). Nests (a_literal s a) (lexeme.OpenBrace s ∷ l) u.left) t.3.0 (subst (λ (m : List Lexeme). Nests (a_literal s t.0) (lexeme.OpenBrace s ∷ l) m) t.3.1 k))
nested_sound (lexeme.Word text ∷ l) r n e = absurd cc
nested_sound (lexeme.Quoted text ∷ l) r n e = absurd cc
nested_sound (lexeme.Text text ∷ l) r n e = absurd cc
nested_sound (lexeme.Number x ∷ l) r n e = absurd cc
nested_sound (lexeme.Ratio x ∷ l) r n e = absurd cc
nested_sound (lexeme.Blob b ∷ l) r n e = absurd cc
nested_sound (lexeme.Uuid u ∷ l) r n e = absurd cc
nested_sound (lexeme.Mark m ∷ l) r n e = absurd cc
nested_sound (lexeme.CloseBracket p ∷ l) r n e = absurd cc
nested_sound (lexeme.CloseBrace p ∷ l) r n e = absurd cc

nested_full : (l r : List Lexeme) (n : Nested) → IsNested n l r → Anything r → nested_at l ≡ Some (n, r)
nested_full l r n h a = (along h).1

pub nested_agrees : Agrees nested_at IsNested Anything
nested_agrees = record { sound = nested_sound; full = nested_full }
