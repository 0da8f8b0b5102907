-- Constants, terms and literals agree with the grammar.
use Rattle.std.proofs.Common.{◌≡◌, ℕ, ◌≤◌, ◌⊎◌, Bool, true, false, cond, List, [], ◌∷◌, length, Option, None, Some, refl, sym, subst, ap, ◌∙◌, inl, inr, arith}
use Rattle.std.specs.Str.{bytes_eq}
use Rattle.std.proofs.lemmas.Slice.Eq.{bytes_eq-Decides}
use Rattle.cql_phrases.specs.declared.lexeme.Lexeme.{Lexeme}
use Rattle.cql_phrases.specs.declared.lexeme.Lexeme.TheVariants as lexeme
use Rattle.cql_phrases.specs.declared.keyword.Keyword.TheVariants as word
use Rattle.cql_lex.specs.declared.token.Mark.TheVariants as mark
use Rattle.cql_phrases.specs.declared.lists.Separator.TheVariants as separator
use Rattle.cql_phrases.specs.declared.term.Constant.{Constant}
use Rattle.cql_phrases.specs.declared.term.Constant.TheVariants as constant
use Rattle.cql_phrases.specs.declared.term.Term.{Term}
use Rattle.cql_phrases.specs.declared.term.Term.TheVariants as term
use Rattle.cql_phrases.specs.declared.term.Literal.{Literal}
use Rattle.cql_phrases.specs.declared.term.Literal.TheVariants as literal
use Rattle.cql_phrases.specs.declared.term.Element.{Element}
use Rattle.cql_phrases.specs.declared.term.Element.TheVariants as element
use Rattle.cql_phrases.specs.declared.term.Entry.{Entry}
use Rattle.cql_phrases.specs.declared.term.Setting.{Setting}
use Rattle.cql_phrases.specs.declared.term.Setting.TheVariants as setting
use Rattle.cql_phrases.specs.Symbols.{spelling}
use Rattle.cql_phrases.specs.Inner.Reading.{after_word, after_mark, after_close_brace, after_close_bracket, after_separator, mark_at, close_brace_at, close_bracket_at, from_at, list_at, place}
use Rattle.cql_phrases.specs.Inner.TermReading.{truth_of, boolean, constant_at, nested_at, opens, nested_element, constant_element, element_at, pair_at, set_from, map_from, set_or_map, braces_at, some_elements, brackets_at, literal_at, literal_term, constant_term, term_at, setting_at}
use Rattle.cql_phrases.specs.Phrases.{sign, open_brace, close_brace, open_bracket, close_bracket, More, Some_of, Truth, IsConstant, IsElement, IsEntry, IsLiteral, IsTerm, IsSetting, Part, Nests, one_term, some_terms, some_pairs, a_literal, constant_there, null_there, literal_there, last_term, next_term, last_pair, next_pair, empty_braces, set_there, map_there, empty_brackets, list_there}
use Rattle.cql_phrases.proofs.Agree.{Agrees, Anything, Shrinks, unstep, step, unchoose, choose, choose_other, some_is, phrase_at}
use Rattle.cql_phrases.proofs.Tokens.{word_sound, word_full, mark_sound, mark_full, mark_at_sound, mark_at_full, close_brace_sound, close_brace_full, close_bracket_sound, close_bracket_full, close_brace_at_sound, close_brace_at_full, close_bracket_at_sound, close_bracket_at_full}
use Rattle.cql_phrases.proofs.ClauseAgree.{MayGoOn, AfterList, from_sound, from_full, list_agrees, list_shrinks}
use Rattle.cql_phrases.proofs.Nesting.{nested_agrees}

-- ---- constants

truth_sound : (text : List ℕ) (b c d : Bool) → bytes_eq text (spelling word.True) ≡ c → bytes_eq text (spelling word.False) ≡ d
    → cond c (Some true) (cond d (Some false) None) ≡ Some b → (l r : List Lexeme) → l ≡ lexeme.Word text ∷ r → Truth b l r
truth_sound text b true d p q e l r h =
    let t : true ≡ b = some_is true b e in
    subst (λ (x : Bool). Truth x l r) t (h ∙ ap (λ (t : List ℕ). lexeme.Word t ∷ r) ((bytes_eq-Decides text (spelling word.True)).0 p))
truth_sound text b false true p q e l r h =
    let t : false ≡ b = some_is false b e in
    subst (λ (x : Bool). Truth x l r) t (h ∙ ap (λ (t : List ℕ). lexeme.Word t ∷ r) ((bytes_eq-Decides text (spelling word.False)).0 q))
truth_sound text b false false p q e l r h = absurd cc

boolean_sound : (text : List ℕ) (o : Option Bool) → truth_of text ≡ o → (l r : List Lexeme) (c : Constant) → boolean o l ≡ Some (c, r) → IsConstant c (lexeme.Word text ∷ l) r
unfolding truth_of
boolean_sound text None p l r c e = absurd cc
boolean_sound text (Some b) p l r c e =
    phrase_at IsConstant (constant.Boolean b) c (lexeme.Word text ∷ l) l r e
    (truth_sound text b (bytes_eq text (spelling word.True)) (bytes_eq text (spelling word.False)) refl refl p (lexeme.Word text ∷ l) l refl)

constant_sound : (l r : List Lexeme) (c : Constant) → constant_at l ≡ Some (c, r) → IsConstant c l r
unfolding constant_at
constant_sound [] r c e = absurd cc
constant_sound (lexeme.Text text ∷ l) r c e = phrase_at IsConstant (constant.Text text) c (lexeme.Text text ∷ l) l r e refl
constant_sound (lexeme.Number n ∷ l) r c e = phrase_at IsConstant (constant.Number n) c (lexeme.Number n ∷ l) l r e refl
constant_sound (lexeme.Blob b ∷ l) r c e = phrase_at IsConstant (constant.Blob b) c (lexeme.Blob b ∷ l) l r e refl
constant_sound (lexeme.Uuid u ∷ l) r c e = phrase_at IsConstant (constant.Uuid u) c (lexeme.Uuid u ∷ l) l r e refl
constant_sound (lexeme.Word text ∷ l) r c e = boolean_sound text (truth_of text) refl l r c e
constant_sound (lexeme.Quoted text ∷ l) r c e = absurd cc
constant_sound (lexeme.Ratio n ∷ l) r c e = absurd cc
constant_sound (lexeme.Mark m ∷ l) r c e = absurd cc
constant_sound (lexeme.OpenBracket at ∷ l) r c e = absurd cc
constant_sound (lexeme.CloseBracket at ∷ l) r c e = absurd cc
constant_sound (lexeme.OpenBrace at ∷ l) r c e = absurd cc
constant_sound (lexeme.CloseBrace at ∷ l) r c e = absurd cc

constant_full : (l r : List Lexeme) (c : Constant) → IsConstant c l r → Anything r → constant_at l ≡ Some (c, r)
unfolding constant_at truth_of spelling
constant_full l r (constant.Text t) h a = ap constant_at h
constant_full l r (constant.Number n) h a = ap constant_at h
constant_full l r (constant.Blob b) h a = ap constant_at h
constant_full l r (constant.Uuid u) h a = ap constant_at h
constant_full l r (constant.Boolean true) h a = ap constant_at h
constant_full l r (constant.Boolean false) h a = ap constant_at h

pub constant_agrees : Agrees constant_at IsConstant Anything
constant_agrees = record { sound = constant_sound; full = constant_full }

pub constant_shrinks : Shrinks IsConstant
constant_shrinks (constant.Text t) l r h = omega (arith, ap length h)
constant_shrinks (constant.Number n) l r h = omega (arith, ap length h)
constant_shrinks (constant.Blob b) l r h = omega (arith, ap length h)
constant_shrinks (constant.Uuid u) l r h = omega (arith, ap length h)
constant_shrinks (constant.Boolean true) l r h = omega (arith, ap length h)
constant_shrinks (constant.Boolean false) l r h = omega (arith, ap length h)

-- ---- how a term begins

-- it is not NULL, and opens no literal
record Plain (l : List Lexeme) : Type 0 where
  no_null : after_word word.Null l ≡ None
  no_literal : opens l ≡ false
  no_brace : after_close_brace l ≡ None
  no_bracket : after_close_bracket l ≡ None

constant_plain : (c : Constant) (l r : List Lexeme) → IsConstant c l r → Plain l
unfolding after_word opens after_close_brace after_close_bracket spelling
constant_plain (constant.Text t) l r h = record { no_null = ap (after_word word.Null) h; no_literal = ap opens h; no_brace = ap after_close_brace h; no_bracket = ap after_close_bracket h }
constant_plain (constant.Number n) l r h = record { no_null = ap (after_word word.Null) h; no_literal = ap opens h; no_brace = ap after_close_brace h; no_bracket = ap after_close_bracket h }
constant_plain (constant.Blob b) l r h = record { no_null = ap (after_word word.Null) h; no_literal = ap opens h; no_brace = ap after_close_brace h; no_bracket = ap after_close_bracket h }
constant_plain (constant.Uuid u) l r h = record { no_null = ap (after_word word.Null) h; no_literal = ap opens h; no_brace = ap after_close_brace h; no_bracket = ap after_close_bracket h }
constant_plain (constant.Boolean true) l r h = record { no_null = ap (after_word word.Null) h; no_literal = ap opens h; no_brace = ap after_close_brace h; no_bracket = ap after_close_bracket h }
constant_plain (constant.Boolean false) l r h = record { no_null = ap (after_word word.Null) h; no_literal = ap opens h; no_brace = ap after_close_brace h; no_bracket = ap after_close_bracket h }

record Opening (l : List Lexeme) : Type 0 where
  no_null : after_word word.Null l ≡ None
  a_literal_here : opens l ≡ true
  no_brace : after_close_brace l ≡ None
  no_bracket : after_close_bracket l ≡ None

brace_opening : (l r : List Lexeme) → open_brace l r → Opening l
unfolding after_word opens after_close_brace after_close_bracket
brace_opening l r h = record { no_null = ap (after_word word.Null) h.1; a_literal_here = ap opens h.1; no_brace = ap after_close_brace h.1; no_bracket = ap after_close_bracket h.1 }

bracket_opening : (l r : List Lexeme) → open_bracket l r → Opening l
unfolding after_word opens after_close_brace after_close_bracket
bracket_opening l r h = record { no_null = ap (after_word word.Null) h.1; a_literal_here = ap opens h.1; no_brace = ap after_close_brace h.1; no_bracket = ap after_close_bracket h.1 }

opening_of : (p : Part) (l : List Lexeme) → Type 0
opening_of one_term l = Unit {0}
opening_of some_terms l = Unit {0}
opening_of some_pairs l = Unit {0}
opening_of (a_literal s e) l = Opening l

nests_opening : {p : Part} {l r : List Lexeme} → Nests p l r → opening_of p l
unfolding opening_of
nests_opening (constant_there c h) = tt
nests_opening (null_there h) = tt
nests_opening (literal_there s e h) = tt
nests_opening (last_term h) = tt
nests_opening (next_term h k) = tt
nests_opening (last_pair h k) = tt
nests_opening (next_pair h k j) = tt
nests_opening (empty_braces {r} s e) = brace_opening _ (lexeme.CloseBrace e ∷ r) (s, refl)
nests_opening (set_there {l} {r} s e h) = brace_opening _ l (s, refl)
nests_opening (map_there {l} {r} s e h) = brace_opening _ l (s, refl)
nests_opening (empty_brackets {r} s e) = bracket_opening _ (lexeme.CloseBracket e ∷ r) (s, refl)
nests_opening (list_there {l} {r} s e h) = bracket_opening _ l (s, refl)

literal_opens : (s e : ℕ) (l r : List Lexeme) → Nests (a_literal s e) l r → Opening l
unfolding opening_of
literal_opens s e l r h = nests_opening h

nests_shrinks : {p : Part} {l r : List Lexeme} → Nests p l r → length r ≤ length l
nests_shrinks (constant_there {l} {r} c h) = constant_shrinks c l r h
nests_shrinks (null_there {l} {r} h) = omega (arith, ap length h)
nests_shrinks (literal_there s e h) = nests_shrinks h
nests_shrinks (last_term h) = nests_shrinks h
nests_shrinks (next_term {l} {m} {r} h k) = let a : length (lexeme.Mark mark.Comma ∷ m) ≤ length l = nests_shrinks h in let b : length r ≤ length m = nests_shrinks k in omega arith
nests_shrinks (last_pair {l} {m} {r} h k) = let a : length (lexeme.Mark mark.Colon ∷ m) ≤ length l = nests_shrinks h in let b : length r ≤ length m = nests_shrinks k in omega arith
nests_shrinks (next_pair {l} {m} {n} {r} h k j) =
    let a : length (lexeme.Mark mark.Colon ∷ m) ≤ length l = nests_shrinks h in
    let b : length (lexeme.Mark mark.Comma ∷ n) ≤ length m = nests_shrinks k in
    let c : length r ≤ length n = nests_shrinks j in
    omega arith
nests_shrinks (empty_braces s e) = omega arith
nests_shrinks (set_there {l} {r} s e h) = let a : length (lexeme.CloseBrace e ∷ r) ≤ length l = nests_shrinks h in omega arith
nests_shrinks (map_there {l} {r} s e h) = let a : length (lexeme.CloseBrace e ∷ r) ≤ length l = nests_shrinks h in omega arith
nests_shrinks (empty_brackets s e) = omega arith
nests_shrinks (list_there {l} {r} s e h) = let a : length (lexeme.CloseBracket e ∷ r) ≤ length l = nests_shrinks h in omega arith

-- ---- elements and entries

pub either : {A : Type 0} (b : Bool) (x y z : A) → cond b x y ≡ z → ((b ≡ true) × (x ≡ z)) ⊎ ((b ≡ false) × (y ≡ z))
either true x y z e = inl (refl, e)
either false x y z e = inr (refl, e)

element_sound : (l r : List Lexeme) (x : Element) → element_at l ≡ Some (x, r) → IsElement x l r
unfolding element_at
element_sound l r x e =
    elim (unchoose (after_word word.Null l) _ _ (x, r) e) [
      | inl h ↦ phrase_at IsElement element.Null x l h.0 r h.2 (word_sound word.Null l h.0 h.1)
      | inr h ↦
          elim (either (opens l) (nested_element l) (constant_element l) (Some (x, r)) h.1) [
            | inl n ↦ let u = unstep (nested_at l) _ x r n.1 in phrase_at IsElement (element.Nested u.value) x l u.left r u.next (nested_agrees.sound l u.left u.value u.was)
            | inr n ↦ let u = unstep (constant_at l) _ x r n.1 in phrase_at IsElement (element.Constant u.value) x l u.left r u.next (constant_sound l u.left u.value u.was)
          ]
    ]

element_full : (l r : List Lexeme) (x : Element) → IsElement x l r → Anything r → element_at l ≡ Some (x, r)
unfolding element_at
element_full l r element.Null h a = choose (after_word word.Null l) _ _ r _ (word_full word.Null l r h) refl
element_full l r (element.Constant c) h a =
    let p = constant_plain c l r h in
    choose_other (after_word word.Null l) _ _ _ p.no_null (ap (λ (b : Bool). cond b (nested_element l) (constant_element l)) p.no_literal ∙ step (constant_at l) _ c r _ (constant_full l r c h tt) refl)
element_full l r (element.Nested n) h a =
    let p = literal_opens n.start n.end l r h in
    choose_other (after_word word.Null l) _ _ _ p.no_null (ap (λ (b : Bool). cond b (nested_element l) (constant_element l)) p.a_literal_here ∙ step (nested_at l) _ n r _ (nested_agrees.full l r n h tt) refl)

element_agrees : Agrees element_at IsElement Anything
element_agrees = record { sound = element_sound; full = element_full }

element_shrinks : Shrinks IsElement
element_shrinks element.Null l r h = omega (arith, ap length h)
element_shrinks (element.Constant c) l r h = constant_shrinks c l r h
element_shrinks (element.Nested n) l r h = nests_shrinks h

no_closer : (x : Element) (l r : List Lexeme) → IsElement x l r → (after_close_brace l ≡ None) × (after_close_bracket l ≡ None)
unfolding after_close_brace after_close_bracket
no_closer element.Null l r h = (ap after_close_brace h, ap after_close_bracket h)
no_closer (element.Constant c) l r h = let p = constant_plain c l r h in (p.no_brace, p.no_bracket)
no_closer (element.Nested n) l r h = let p = literal_opens n.start n.end l r h in (p.no_brace, p.no_bracket)

entry_sound : (l r : List Lexeme) (x : Entry) → pair_at l ≡ Some (x, r) → IsEntry x l r
unfolding pair_at
entry_sound l r x e =
    let u = unstep (element_at l) _ x r e in
    let v = unstep (mark_at mark.Colon u.left) _ x r u.next in
    let w = unstep (element_at v.left) _ x r v.next in
    phrase_at IsEntry (record { key = u.value; value = w.value }) x l w.left r w.next
    (u.left, element_sound l u.left u.value u.was, (v.left, mark_at_sound mark.Colon u.left v.left v.value v.was, element_sound v.left w.left w.value w.was))

entry_full : (l r : List Lexeme) (x : Entry) → IsEntry x l r → Anything r → pair_at l ≡ Some (x, r)
unfolding pair_at
entry_full l r x h a =
    step (element_at l) _ x.key h.0 _ (element_full l h.0 x.key h.1 tt)
    (step (mark_at mark.Colon h.0) _ tt h.2.0 _ (mark_at_full mark.Colon h.0 h.2.0 h.2.1)
    (step (element_at h.2.0) _ x.value r _ (element_full h.2.0 r x.value h.2.2 tt) refl))

entry_agrees : Agrees pair_at IsEntry Anything
entry_agrees = record { sound = entry_sound; full = entry_full }

entry_shrinks : Shrinks IsEntry
entry_shrinks x l r h = omega (arith, element_shrinks x.key l h.0 h.1, ap length h.2.1, element_shrinks x.value h.2.0 r h.2.2)

-- ---- literals

anything_goes_on : MayGoOn separator.Comma Anything
anything_goes_on l r h = tt

elements_agree : Agrees (list_at separator.Comma element_at) (Some_of separator.Comma IsElement) (AfterList separator.Comma Anything)
elements_agree = list_agrees separator.Comma element_at IsElement Anything element_agrees element_shrinks anything_goes_on

bracket_ends : (l r : List Lexeme) → close_bracket l r → AfterList separator.Comma Anything l
unfolding after_separator after_mark
bracket_ends l r h = (tt, ap (after_separator separator.Comma) h.1)

brace_ends : (l r : List Lexeme) → close_brace l r → AfterList separator.Comma Anything l
unfolding after_separator after_mark
brace_ends l r h = (tt, ap (after_separator separator.Comma) h.1)

brackets_sound : (at : ℕ) (l r : List Lexeme) (x : Literal) → brackets_at l ≡ Some (x, r) → IsLiteral x (lexeme.OpenBracket at ∷ l) r
unfolding brackets_at some_elements
brackets_sound at l r x e =
    elim (unchoose (after_close_bracket l) _ _ (x, r) e) [
      | inl h ↦ phrase_at IsLiteral (literal.ListOf []) x (lexeme.OpenBracket at ∷ l) h.0 r h.2 (l, (at, refl), close_bracket_sound l h.0 h.1)
      | inr h ↦
          let u = unstep (list_at separator.Comma element_at l) _ x r h.1 in
          let v = unstep (close_bracket_at u.left) _ x r u.next in
          phrase_at IsLiteral (literal.ListOf u.value) x (lexeme.OpenBracket at ∷ l) v.left r v.next
          (not_empty u.value u.left v.left (elements_agree.sound l u.left u.value u.was) (close_bracket_at_sound u.left v.left v.value v.was))
    ] where
      not_empty : (xs : List Element) (m n : List Lexeme) → Some_of separator.Comma IsElement xs l m → close_bracket m n → IsLiteral (literal.ListOf xs) (lexeme.OpenBracket at ∷ l) n
      not_empty [] m n h k = absurd h
      not_empty (y ∷ ys) m n h k = (l, (at, refl), (m, h, k))

set_sound : (at : ℕ) (first : Element) (l m r : List Lexeme) (x : Literal) → IsElement first l m → set_from first m ≡ Some (x, r) → IsLiteral x (lexeme.OpenBrace at ∷ l) r
unfolding set_from
set_sound at first l m r x h e =
    let u = unstep (from_at separator.Comma element_at (first ∷ []) m) _ x r e in
    let v = unstep (close_brace_at u.left) _ x r u.next in
    let t = from_sound separator.Comma element_at IsElement Anything element_agrees (first ∷ []) m u.left u.value u.was in
    phrase_at IsLiteral (literal.SetOf u.value) x (lexeme.OpenBrace at ∷ l) v.left r v.next
    (l, (at, refl), (u.left, subst (λ (ys : List Element). Some_of separator.Comma IsElement ys l u.left) (sym t.1) (m, h, t.2), close_brace_at_sound u.left v.left v.value v.was))

map_sound : (at : ℕ) (key : Element) (l m n r : List Lexeme) (x : Literal) → IsElement key l m → sign mark.Colon m n → map_from key n ≡ Some (x, r) → IsLiteral x (lexeme.OpenBrace at ∷ l) r
unfolding map_from
map_sound at key l m n r x h c e =
    let w = unstep (element_at n) _ x r e in
    let u = unstep (from_at separator.Comma pair_at (record { key = key; value = w.value } ∷ []) w.left) _ x r w.next in
    let v = unstep (close_brace_at u.left) _ x r u.next in
    let t = from_sound separator.Comma pair_at IsEntry Anything entry_agrees (record { key = key; value = w.value } ∷ []) w.left u.left u.value u.was in
    phrase_at IsLiteral (literal.MapOf u.value) x (lexeme.OpenBrace at ∷ l) v.left r v.next
    (l, (at, refl), (u.left, subst (λ (ys : List Entry). Some_of separator.Comma IsEntry ys l u.left) (sym t.1) (w.left, (m, h, (n, c, element_sound n w.left w.value w.was)), t.2), close_brace_at_sound u.left v.left v.value v.was))

braces_sound : (at : ℕ) (l r : List Lexeme) (x : Literal) → braces_at l ≡ Some (x, r) → IsLiteral x (lexeme.OpenBrace at ∷ l) r
unfolding braces_at set_or_map
braces_sound at l r x e =
    elim (unchoose (after_close_brace l) _ _ (x, r) e) [
      | inl h ↦ phrase_at IsLiteral literal.Braces x (lexeme.OpenBrace at ∷ l) h.0 r h.2 (l, (at, refl), close_brace_sound l h.0 h.1)
      | inr h ↦
          let u = unstep (element_at l) _ x r h.1 in
          elim (unchoose (after_mark mark.Colon u.left) _ _ (x, r) u.next) [
            | inl k ↦ map_sound at u.value l u.left k.0 r x (element_sound l u.left u.value u.was) (mark_sound mark.Colon u.left k.0 k.1) k.2
            | inr k ↦ set_sound at u.value l u.left r x (element_sound l u.left u.value u.was) k.1
          ]
    ]

literal_sound : (l r : List Lexeme) (x : Literal) → literal_at l ≡ Some (x, r) → IsLiteral x l r
unfolding literal_at
literal_sound [] r x e = absurd cc
literal_sound (lexeme.OpenBracket at ∷ l) r x e = brackets_sound at l r x e
literal_sound (lexeme.OpenBrace at ∷ l) r x e = braces_sound at l r x e
literal_sound (lexeme.Word text ∷ l) r x e = absurd cc
literal_sound (lexeme.Quoted text ∷ l) r x e = absurd cc
literal_sound (lexeme.Text text ∷ l) r x e = absurd cc
literal_sound (lexeme.Number n ∷ l) r x e = absurd cc
literal_sound (lexeme.Ratio n ∷ l) r x e = absurd cc
literal_sound (lexeme.Blob b ∷ l) r x e = absurd cc
literal_sound (lexeme.Uuid u ∷ l) r x e = absurd cc
literal_sound (lexeme.Mark m ∷ l) r x e = absurd cc
literal_sound (lexeme.CloseBracket at ∷ l) r x e = absurd cc
literal_sound (lexeme.CloseBrace at ∷ l) r x e = absurd cc

-- behind the first element of a set stands no colon
no_colon : (xs : List Element) (l m r : List Lexeme) → More separator.Comma IsElement xs l m → close_brace m r → after_mark mark.Colon l ≡ None
unfolding after_mark place
no_colon [] l m r h k = ap (after_mark mark.Colon) (h ∙ k.1)
no_colon (x ∷ xs) l m r h k = ap (after_mark mark.Colon) h.1

in_brackets : (at : ℕ) (l m : List Lexeme) → l ≡ lexeme.OpenBracket at ∷ m → literal_at l ≡ brackets_at m
unfolding literal_at
in_brackets at l m h = ap literal_at h

in_braces : (at : ℕ) (l m : List Lexeme) → l ≡ lexeme.OpenBrace at ∷ m → literal_at l ≡ braces_at m
unfolding literal_at
in_braces at l m h = ap literal_at h

set_full : (l m r : List Lexeme) (x : Element) (xs : List Element) → Some_of separator.Comma IsElement (x ∷ xs) l m → close_brace m r → braces_at l ≡ Some (literal.SetOf (x ∷ xs), r)
unfolding braces_at set_or_map set_from
set_full l m r x xs h k =
    choose_other (after_close_brace l) _ _ _ (no_closer x l h.0 h.1).0
    (step (element_at l) _ x h.0 _ (element_full l h.0 x h.1 tt)
    (choose_other (after_mark mark.Colon h.0) _ _ _ (no_colon xs h.0 m r h.2 k)
    (step (from_at separator.Comma element_at (x ∷ []) h.0) _ (x ∷ xs) m _ (from_full separator.Comma element_at IsElement Anything element_agrees element_shrinks anything_goes_on (x ∷ []) h.0 m xs h.2 (brace_ends m r k))
    (step (close_brace_at m) _ tt r _ (close_brace_at_full m r k) refl))))

map_full : (l m r : List Lexeme) (x : Entry) (xs : List Entry) → Some_of separator.Comma IsEntry (x ∷ xs) l m → close_brace m r → braces_at l ≡ Some (literal.MapOf (x ∷ xs), r)
unfolding braces_at set_or_map map_from
map_full l m r x xs h k =
    let e = h.1 in
    choose_other (after_close_brace l) _ _ _ (no_closer x.key l e.0 e.1).0
    (step (element_at l) _ x.key e.0 _ (element_full l e.0 x.key e.1 tt)
    (choose (after_mark mark.Colon e.0) _ _ e.2.0 _ (mark_full mark.Colon e.0 e.2.0 e.2.1)
    (step (element_at e.2.0) _ x.value h.0 _ (element_full e.2.0 h.0 x.value e.2.2 tt)
    (step (from_at separator.Comma pair_at (x ∷ []) h.0) _ (x ∷ xs) m _ (from_full separator.Comma pair_at IsEntry Anything entry_agrees entry_shrinks anything_goes_on (x ∷ []) h.0 m xs h.2 (brace_ends m r k))
    (step (close_brace_at m) _ tt r _ (close_brace_at_full m r k) refl)))))

list_full : (l m r : List Lexeme) (x : Element) (xs : List Element) → Some_of separator.Comma IsElement (x ∷ xs) l m → close_bracket m r → brackets_at l ≡ Some (literal.ListOf (x ∷ xs), r)
unfolding brackets_at some_elements
list_full l m r x xs h k =
    choose_other (after_close_bracket l) _ _ _ (no_closer x l h.0 h.1).1
    (step (list_at separator.Comma element_at l) _ (x ∷ xs) m _ (elements_agree.full l m (x ∷ xs) h (bracket_ends m r k))
    (step (close_bracket_at m) _ tt r _ (close_bracket_at_full m r k) refl))

literal_full : (l r : List Lexeme) (x : Literal) → IsLiteral x l r → Anything r → literal_at l ≡ Some (x, r)
unfolding braces_at brackets_at
literal_full l r literal.Braces h a = in_braces h.1.0 l h.0 h.1.1 ∙ choose (after_close_brace h.0) _ _ r _ (close_brace_full h.0 r h.2) refl
literal_full l r (literal.SetOf []) h a = absurd h.2.1
literal_full l r (literal.SetOf (x ∷ xs)) h a = in_braces h.1.0 l h.0 h.1.1 ∙ set_full h.0 h.2.0 r x xs h.2.1 h.2.2
literal_full l r (literal.ListOf []) h a = in_brackets h.1.0 l h.0 h.1.1 ∙ choose (after_close_bracket h.0) _ _ r _ (close_bracket_full h.0 r h.2) refl
literal_full l r (literal.ListOf (x ∷ xs)) h a = in_brackets h.1.0 l h.0 h.1.1 ∙ list_full h.0 h.2.0 r x xs h.2.1 h.2.2
literal_full l r (literal.MapOf []) h a = absurd h.2.1
literal_full l r (literal.MapOf (x ∷ xs)) h a = in_braces h.1.0 l h.0 h.1.1 ∙ map_full h.0 h.2.0 r x xs h.2.1 h.2.2

pub literal_agrees : Agrees literal_at IsLiteral Anything
literal_agrees = record { sound = literal_sound; full = literal_full }

pub literal_shrinks : Shrinks IsLiteral
literal_shrinks literal.Braces l r h = omega (arith, ap length h.1.1, ap length h.2.1)
literal_shrinks (literal.SetOf xs) l r h = omega (arith, ap length h.1.1, list_shrinks separator.Comma IsElement element_shrinks xs h.0 h.2.0 h.2.1, ap length h.2.2.1)
literal_shrinks (literal.ListOf []) l r h = omega (arith, ap length h.1.1, ap length h.2.1)
literal_shrinks (literal.ListOf (x ∷ xs)) l r h = omega (arith, ap length h.1.1, list_shrinks separator.Comma IsElement element_shrinks (x ∷ xs) h.0 h.2.0 h.2.1, ap length h.2.2.1)
literal_shrinks (literal.MapOf xs) l r h = omega (arith, ap length h.1.1, list_shrinks separator.Comma IsEntry entry_shrinks xs h.0 h.2.0 h.2.1, ap length h.2.2.1)

literal_opening : (x : Literal) (l r : List Lexeme) → IsLiteral x l r → Opening l
literal_opening literal.Braces l r h = brace_opening l h.0 h.1
literal_opening (literal.SetOf xs) l r h = brace_opening l h.0 h.1
literal_opening (literal.ListOf []) l r h = bracket_opening l h.0 h.1
literal_opening (literal.ListOf (x ∷ xs)) l r h = bracket_opening l h.0 h.1
literal_opening (literal.MapOf xs) l r h = brace_opening l h.0 h.1

pub literal_is_opened : (x : Literal) (l r : List Lexeme) → IsLiteral x l r → opens l ≡ true
literal_is_opened x l r h = (literal_opening x l r h).a_literal_here

-- ---- terms

term_sound : (l r : List Lexeme) (x : Term) → term_at l ≡ Some (x, r) → IsTerm x l r
unfolding term_at
term_sound l r x e =
    elim (unchoose (after_word word.Null l) _ _ (x, r) e) [
      | inl h ↦ phrase_at IsTerm term.Null x l h.0 r h.2 (word_sound word.Null l h.0 h.1)
      | inr h ↦
          elim (either (opens l) (literal_term l) (constant_term l) (Some (x, r)) h.1) [
            | inl n ↦ let u = unstep (literal_at l) _ x r n.1 in phrase_at IsTerm (term.Literal u.value) x l u.left r u.next (literal_sound l u.left u.value u.was)
            | inr n ↦ let u = unstep (constant_at l) _ x r n.1 in phrase_at IsTerm (term.Constant u.value) x l u.left r u.next (constant_sound l u.left u.value u.was)
          ]
    ]

term_full : (l r : List Lexeme) (x : Term) → IsTerm x l r → Anything r → term_at l ≡ Some (x, r)
unfolding term_at
term_full l r term.Null h a = choose (after_word word.Null l) _ _ r _ (word_full word.Null l r h) refl
term_full l r (term.Constant c) h a =
    let p = constant_plain c l r h in
    choose_other (after_word word.Null l) _ _ _ p.no_null (ap (λ (b : Bool). cond b (literal_term l) (constant_term l)) p.no_literal ∙ step (constant_at l) _ c r _ (constant_full l r c h tt) refl)
term_full l r (term.Literal x) h a =
    let p = literal_opening x l r h in
    choose_other (after_word word.Null l) _ _ _ p.no_null (ap (λ (b : Bool). cond b (literal_term l) (constant_term l)) p.a_literal_here ∙ step (literal_at l) _ x r _ (literal_full l r x h tt) refl)

pub term_agrees : Agrees term_at IsTerm Anything
term_agrees = record { sound = term_sound; full = term_full }

pub term_shrinks : Shrinks IsTerm
term_shrinks term.Null l r h = omega (arith, ap length h)
term_shrinks (term.Constant c) l r h = constant_shrinks c l r h
term_shrinks (term.Literal x) l r h = literal_shrinks x l r h

-- a term that is no literal opens none
pub opens_no_literal : (x : Term) (l r : List Lexeme) → IsTerm x l r → opens l ≡ true → (y : Literal) × (x ≡ term.Literal y)
unfolding opens
opens_no_literal term.Null l r h o = let k : opens l ≡ false = ap opens h in absurd cc
opens_no_literal (term.Constant c) l r h o = let k = (constant_plain c l r h).no_literal in absurd cc
opens_no_literal (term.Literal x) l r h o = (x, refl)

-- ---- settings

setting_sound : (l r : List Lexeme) (x : Setting) → setting_at l ≡ Some (x, r) → IsSetting x l r
unfolding setting_at
setting_sound [] r x e = absurd cc
setting_sound (lexeme.Text text ∷ l) r x e = phrase_at IsSetting (setting.Text text) x (lexeme.Text text ∷ l) l r e refl
setting_sound (lexeme.Number n ∷ l) r x e = phrase_at IsSetting (setting.Number n) x (lexeme.Number n ∷ l) l r e refl
setting_sound (lexeme.Ratio n ∷ l) r x e = phrase_at IsSetting (setting.Ratio n) x (lexeme.Ratio n ∷ l) l r e refl
setting_sound (lexeme.Word text ∷ l) r x e = absurd cc
setting_sound (lexeme.Quoted text ∷ l) r x e = absurd cc
setting_sound (lexeme.Blob b ∷ l) r x e = absurd cc
setting_sound (lexeme.Uuid u ∷ l) r x e = absurd cc
setting_sound (lexeme.Mark m ∷ l) r x e = absurd cc
setting_sound (lexeme.OpenBracket at ∷ l) r x e = absurd cc
setting_sound (lexeme.CloseBracket at ∷ l) r x e = absurd cc
setting_sound (lexeme.OpenBrace at ∷ l) r x e = absurd cc
setting_sound (lexeme.CloseBrace at ∷ l) r x e = absurd cc

setting_full : (l r : List Lexeme) (x : Setting) → IsSetting x l r → Anything r → setting_at l ≡ Some (x, r)
unfolding setting_at
setting_full l r (setting.Text t) h a = ap setting_at h
setting_full l r (setting.Number n) h a = ap setting_at h
setting_full l r (setting.Ratio n) h a = ap setting_at h

pub setting_agrees : Agrees setting_at IsSetting Anything
setting_agrees = record { sound = setting_sound; full = setting_full }

pub setting_shrinks : Shrinks IsSetting
setting_shrinks (setting.Text t) l r h = omega (arith, ap length h)
setting_shrinks (setting.Number n) l r h = omega (arith, ap length h)
setting_shrinks (setting.Ratio n) l r h = omega (arith, ap length h)
