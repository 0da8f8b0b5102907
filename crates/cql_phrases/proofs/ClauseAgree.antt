-- Lists and optional clauses agree with the grammar.
use Rattle.std.proofs.Common.{◌≡◌, ℕ, ℤ, zero, suc, ◌≤◌, ◌⊎◌, Bool, true, false, not, ◌&&◌, eqb, List, [], ◌∷◌, ◌++◌, length, Option, None, Some, refl, sym, subst, ap, ◌∙◌, inl, inr, arith}
use Rattle.std.specs.Str.{bytes_eq}
use Rattle.std.specs.List.{list_all}
use Rattle.cql_phrases.specs.declared.lexeme.Lexeme.{Lexeme}
use Rattle.cql_phrases.specs.declared.keyword.Keyword.{Keyword}
use Rattle.cql_phrases.specs.declared.keyword.Keyword.TheVariants as word
use Rattle.cql_lex.specs.declared.token.Mark.{Mark}
use Rattle.cql_lex.specs.declared.token.Mark.TheVariants as mark
use Rattle.cql_phrases.specs.declared.lists.Separator.{Separator}
use Rattle.cql_phrases.specs.declared.lists.Separator.TheVariants as separator
use Rattle.cql_phrases.specs.Symbols.{spelling}
use Rattle.cql_phrases.specs.Inner.Reading.{Reader, done, after_word, after_mark, mark_at, whole_number_at, blob_at, after_separator, more_at, from_at, list_at, in_parens, list_behind, number_behind, blob_behind, flag_at, place}
use Rattle.cql_phrases.specs.Phrases.{Phrase, keyword, sign, between, More, Some_of, Behind, InParens, Maybe, If, IsNumber, IsBlob}
use Rattle.cql_phrases.proofs.Agree.{Agrees, Anything, Shrinks, unstep, step, unchoose, choose, choose_other, same, phrase_at}
use Rattle.cql_phrases.proofs.Tokens.{word_sound, word_full, other_word, mark_sound, mark_full, mark_at_sound, mark_at_full, number_agrees, blob_agrees}

-- ---- separators

separator_sound : (s : Separator) (l r : List Lexeme) → after_separator s l ≡ Some r → between s l r
unfolding after_separator
separator_sound separator.Comma l r e = mark_sound mark.Comma l r e
separator_sound separator.And l r e = word_sound word.And l r e

separator_full : (s : Separator) (l r : List Lexeme) → between s l r → after_separator s l ≡ Some r
unfolding after_separator
separator_full separator.Comma l r e = mark_full mark.Comma l r e
separator_full separator.And l r e = word_full word.And l r e

separator_shrinks : (s : Separator) (l r : List Lexeme) → between s l r → suc (length r) ≤ length l
separator_shrinks separator.Comma l r e = omega (arith, ap length e)
separator_shrinks separator.And l r e = omega (arith, ap length e)

-- ---- lists

-- the thing may be followed by the separator
abbrev pub MayGoOn : Separator → (List Lexeme → Type 0) → Type 0
MayGoOn s F = (l r : List Lexeme) → between s l r → F l

-- what may follow a list: what may follow its last thing, and isn't the separator
abbrev pub AfterList : Separator → (List Lexeme → Type 0) → List Lexeme → Type 0
AfterList s F r = F r × (after_separator s r ≡ None)

pub more_sound : {A : Type 0} (s : Separator) (p : Reader A) (P : A → Phrase) (F : List Lexeme → Type 0) → Agrees p P F → (n : ℕ) (l r : List Lexeme) (xs : List A) → more_at s p n l ≡ Some (xs, r) → More s P xs l r
unfolding more_at
more_sound {A} s p P F a zero l r xs e = phrase_at (More s P) [] xs l l r e refl
more_sound {A} s p P F a (suc n) l r xs e =
    elim (unchoose (after_separator s l) _ _ (xs, r) e) [
      | inl h ↦
          let u = unstep (p h.0) _ xs r h.2 in
          let v = unstep (more_at s p n u.left) _ xs r u.next in
          phrase_at (More s P) (u.value ∷ v.value) xs l v.left r v.next (h.0, separator_sound s l h.0 h.1, (u.left, a.sound h.0 u.left u.value u.was, more_sound s p P F a n u.left v.left v.value v.was))
      | inr h ↦ phrase_at (More s P) [] xs l l r h.1 refl
    ]

pub more_shrinks : {A : Type 0} (s : Separator) (P : A → Phrase) → Shrinks P → (xs : List A) (l r : List Lexeme) → More s P xs l r → length r ≤ length l
more_shrinks s P k [] l r h = omega (arith, ap length h)
more_shrinks s P k (x ∷ xs) l r h = omega (arith, separator_shrinks s l h.0 h.1, k x h.0 h.2.0 h.2.1, more_shrinks s P k xs h.2.0 r h.2.2)

-- where more things follow, the one before may be followed by them
goes_on : {A : Type 0} (s : Separator) (P : A → Phrase) (F : List Lexeme → Type 0) → MayGoOn s F → (xs : List A) (l r : List Lexeme) → More s P xs l r → F r → F l
goes_on s P F m [] l r h f = subst F (sym h) f
goes_on s P F m (x ∷ xs) l r h f = m l h.0 h.1

pub more_full : {A : Type 0} (s : Separator) (p : Reader A) (P : A → Phrase) (F : List Lexeme → Type 0) → Agrees p P F → Shrinks P → MayGoOn s F
    → (n : ℕ) (l r : List Lexeme) (xs : List A) → length l ≤ n → More s P xs l r → AfterList s F r → more_at s p n l ≡ Some (xs, r)
unfolding more_at
more_full {A} s p P F a k m zero l r [] b h f = ap (λ (t : List Lexeme). done {A = List A} [] t) h
more_full {A} s p P F a k m zero l r (x ∷ xs) b h f = absurd (omega (arith, separator_shrinks s l h.0 h.1))
more_full {A} s p P F a k m (suc n) l r [] b h f = choose_other (after_separator s l) _ _ _ (ap (after_separator s) h ∙ f.1) (ap (λ (t : List Lexeme). done {A = List A} [] t) h)
more_full {A} s p P F a k m (suc n) l r (x ∷ xs) b h f =
    choose (after_separator s l) _ _ h.0 _ (separator_full s l h.0 h.1)
    (step (p h.0) _ x h.2.0 _ (a.full h.0 h.2.0 x h.2.1 (goes_on s P F m xs h.2.0 r h.2.2 f.0))
    (step (more_at s p n h.2.0) _ xs r _ (more_full s p P F a k m n h.2.0 r xs (omega (arith, separator_shrinks s l h.0 h.1, k x h.0 h.2.0 h.2.1)) h.2.2 f) refl))

pub from_sound : {A : Type 0} (s : Separator) (p : Reader A) (P : A → Phrase) (F : List Lexeme → Type 0) → Agrees p P F → (front : List A) (l r : List Lexeme) (ys : List A) → from_at s p front l ≡ Some (ys, r)
    → (xs : List A) × (ys ≡ front ++ xs) × More s P xs l r
unfolding from_at
from_sound {A} s p P F a front l r ys e =
    let u = unstep (more_at s p (length l) l) _ ys r e in
    let z = same (front ++ u.value) ys u.left r u.next in
    (u.value, sym z.value, subst (λ (m : List Lexeme). More s P u.value l m) z.rest (more_sound s p P F a (length l) l u.left u.value u.was))

pub from_full : {A : Type 0} (s : Separator) (p : Reader A) (P : A → Phrase) (F : List Lexeme → Type 0) → Agrees p P F → Shrinks P → MayGoOn s F
    → (front : List A) (l r : List Lexeme) (xs : List A) → More s P xs l r → AfterList s F r → from_at s p front l ≡ Some (front ++ xs, r)
unfolding from_at
from_full {A} s p P F a k m front l r xs h f = step (more_at s p (length l) l) _ xs r _ (more_full s p P F a k m (length l) l r xs (omega arith) h f) refl

list_sound : {A : Type 0} (s : Separator) (p : Reader A) (P : A → Phrase) (F : List Lexeme → Type 0) → Agrees p P F → (l r : List Lexeme) (xs : List A) → list_at s p l ≡ Some (xs, r) → Some_of s P xs l r
unfolding list_at
list_sound {A} s p P F a l r xs e =
    let u = unstep (p l) _ xs r e in
    let v = from_sound s p P F a (u.value ∷ []) u.left r xs u.next in
    subst (λ (ys : List A). Some_of s P ys l r) (sym v.1) (u.left, a.sound l u.left u.value u.was, v.2)

list_full : {A : Type 0} (s : Separator) (p : Reader A) (P : A → Phrase) (F : List Lexeme → Type 0) → Agrees p P F → Shrinks P → MayGoOn s F
    → (l r : List Lexeme) (xs : List A) → Some_of s P xs l r → AfterList s F r → list_at s p l ≡ Some (xs, r)
unfolding list_at
list_full s p P F a k m l r [] h f = absurd h
list_full s p P F a k m l r (x ∷ xs) h f =
    step (p l) _ x h.0 _ (a.full l h.0 x h.1 (goes_on s P F m xs h.0 r h.2 f.0)) (from_full s p P F a k m (x ∷ []) h.0 r xs h.2 f)

pub list_agrees : {A : Type 0} (s : Separator) (p : Reader A) (P : A → Phrase) (F : List Lexeme → Type 0) → Agrees p P F → Shrinks P → MayGoOn s F → Agrees (list_at s p) (Some_of s P) (AfterList s F)
list_agrees s p P F a k m = record { sound = list_sound s p P F a; full = list_full s p P F a k m }

pub list_shrinks : {A : Type 0} (s : Separator) (P : A → Phrase) → Shrinks P → Shrinks (Some_of s P)
list_shrinks s P k [] l r h = absurd h
list_shrinks s P k (x ∷ xs) l r h = omega (arith, k x l h.0 h.1, more_shrinks s P k xs h.0 r h.2)

-- the parenthesis may close behind the thing
abbrev pub MayClose : (List Lexeme → Type 0) → Type 0
MayClose F = (l r : List Lexeme) → sign mark.CloseParen l r → F l

parens_sound : {A : Type 0} (p : Reader A) (P : A → Phrase) (F : List Lexeme → Type 0) → Agrees p P F → (l r : List Lexeme) (xs : List A) → in_parens p l ≡ Some (xs, r) → InParens P xs l r
unfolding in_parens
parens_sound p P F a l r xs e =
    let u = unstep (mark_at mark.OpenParen l) _ xs r e in
    let v = unstep (list_at separator.Comma p u.left) _ xs r u.next in
    let w = unstep (mark_at mark.CloseParen v.left) _ xs r v.next in
    phrase_at (InParens P) v.value xs l w.left r w.next (u.left, mark_at_sound mark.OpenParen l u.left u.value u.was, (v.left, list_sound separator.Comma p P F a u.left v.left v.value v.was, mark_at_sound mark.CloseParen v.left w.left w.value w.was))

no_comma : (l r : List Lexeme) → sign mark.CloseParen l r → after_separator separator.Comma l ≡ None
unfolding after_separator after_mark place
no_comma l r h = ap (after_separator separator.Comma) h

parens_full : {A : Type 0} (p : Reader A) (P : A → Phrase) (F : List Lexeme → Type 0) → Agrees p P F → Shrinks P → MayGoOn separator.Comma F → MayClose F → (l r : List Lexeme) (xs : List A) → InParens P xs l r → Anything r → in_parens p l ≡ Some (xs, r)
unfolding in_parens
parens_full p P F a k m c l r xs h f =
    step (mark_at mark.OpenParen l) _ tt h.0 _ (mark_at_full mark.OpenParen l h.0 h.1)
    (step (list_at separator.Comma p h.0) _ xs h.2.0 _ (list_full separator.Comma p P F a k m h.0 h.2.0 xs h.2.1 (c h.2.0 r h.2.2, no_comma h.2.0 r h.2.2))
    (step (mark_at mark.CloseParen h.2.0) _ tt r _ (mark_at_full mark.CloseParen h.2.0 r h.2.2) refl))

pub parens_agrees : {A : Type 0} (p : Reader A) (P : A → Phrase) (F : List Lexeme → Type 0) → Agrees p P F → Shrinks P → MayGoOn separator.Comma F → MayClose F → Agrees (in_parens p) (InParens P) Anything
parens_agrees p P F a k m c = record { sound = parens_sound p P F a; full = parens_full p P F a k m c }

-- ---- optional clauses

-- what may follow a clause: what may follow its list, and isn't its first word
abbrev pub AfterClause : Keyword → Separator → (List Lexeme → Type 0) → List Lexeme → Type 0
AfterClause k s F r = AfterList s F r × (after_word k r ≡ None)

behind_sound : {A : Type 0} (k : Keyword) (s : Separator) (p : Reader A) (P : A → Phrase) (F : List Lexeme → Type 0) → Agrees p P F → (l r : List Lexeme) (xs : List A) → list_behind k s p l ≡ Some (xs, r) → Behind (keyword k) s P xs l r
unfolding list_behind
behind_sound {A} k s p P F a l r xs e =
    elim (unchoose (after_word k l) _ _ (xs, r) e) [
      | inl h ↦ some_behind xs h.0 (word_sound k l h.0 h.1) (list_sound s p P F a h.0 r xs h.2)
      | inr h ↦ phrase_at (Behind (keyword k) s P) [] xs l l r h.1 refl
    ] where
      some_behind : (ys : List A) (m : List Lexeme) → keyword k l m → Some_of s P ys m r → Behind (keyword k) s P ys l r
      some_behind [] m w h = absurd h
      some_behind (y ∷ ys) m w h = (m, w, h)

behind_full : {A : Type 0} (k : Keyword) (s : Separator) (p : Reader A) (P : A → Phrase) (F : List Lexeme → Type 0) → Agrees p P F → Shrinks P → MayGoOn s F
    → (l r : List Lexeme) (xs : List A) → Behind (keyword k) s P xs l r → AfterClause k s F r → list_behind k s p l ≡ Some (xs, r)
unfolding list_behind
behind_full {A} k s p P F a n m l r [] h f = choose_other (after_word k l) _ _ _ (ap (after_word k) h ∙ f.1) (ap (λ (t : List Lexeme). done {A = List A} [] t) h)
behind_full k s p P F a n m l r (x ∷ xs) h f = choose (after_word k l) _ _ h.0 _ (word_full k l h.0 h.1) (list_full s p P F a n m h.0 r (x ∷ xs) h.2 f.0)

pub behind_agrees : {A : Type 0} (k : Keyword) (s : Separator) (p : Reader A) (P : A → Phrase) (F : List Lexeme → Type 0) → Agrees p P F → Shrinks P → MayGoOn s F → Agrees (list_behind k s p) (Behind (keyword k) s P) (AfterClause k s F)
behind_agrees k s p P F a n m = record { sound = behind_sound k s p P F a; full = behind_full k s p P F a n m }

-- what isn't the word
abbrev pub NotWord : Keyword → List Lexeme → Type 0
NotWord k r = after_word k r ≡ None

number_behind_sound : (k : Keyword) (l r : List Lexeme) (o : Option ℤ) → number_behind k l ≡ Some (o, r) → Maybe (keyword k) IsNumber o l r
unfolding number_behind
number_behind_sound k l r o e =
    elim (unchoose (after_word k l) _ _ (o, r) e) [
      | inl h ↦
          let u = unstep (whole_number_at h.0) _ o r h.2 in
          phrase_at (Maybe (keyword k) IsNumber) (Some u.value) o l u.left r u.next (h.0, word_sound k l h.0 h.1, number_agrees.sound h.0 u.left u.value u.was)
      | inr h ↦ phrase_at (Maybe (keyword k) IsNumber) None o l l r h.1 refl
    ]

number_behind_full : (k : Keyword) (l r : List Lexeme) (o : Option ℤ) → Maybe (keyword k) IsNumber o l r → NotWord k r → number_behind k l ≡ Some (o, r)
unfolding number_behind
number_behind_full k l r None h f = choose_other (after_word k l) _ _ _ (ap (after_word k) h ∙ f) (ap (λ (t : List Lexeme). done {A = Option ℤ} None t) h)
number_behind_full k l r (Some n) h f = choose (after_word k l) _ _ h.0 _ (word_full k l h.0 h.1) (step (whole_number_at h.0) _ n r _ (number_agrees.full h.0 r n h.2 tt) refl)

pub number_behind_agrees : (k : Keyword) → Agrees (number_behind k) (Maybe (keyword k) IsNumber) (NotWord k)
number_behind_agrees k = record { sound = number_behind_sound k; full = number_behind_full k }

blob_behind_sound : (k : Keyword) (l r : List Lexeme) (o : Option (List ℕ)) → blob_behind k l ≡ Some (o, r) → Maybe (keyword k) IsBlob o l r
unfolding blob_behind
blob_behind_sound k l r o e =
    elim (unchoose (after_word k l) _ _ (o, r) e) [
      | inl h ↦
          let u = unstep (blob_at h.0) _ o r h.2 in
          phrase_at (Maybe (keyword k) IsBlob) (Some u.value) o l u.left r u.next (h.0, word_sound k l h.0 h.1, blob_agrees.sound h.0 u.left u.value u.was)
      | inr h ↦ phrase_at (Maybe (keyword k) IsBlob) None o l l r h.1 refl
    ]

blob_behind_full : (k : Keyword) (l r : List Lexeme) (o : Option (List ℕ)) → Maybe (keyword k) IsBlob o l r → NotWord k r → blob_behind k l ≡ Some (o, r)
unfolding blob_behind
blob_behind_full k l r None h f = choose_other (after_word k l) _ _ _ (ap (after_word k) h ∙ f) (ap (λ (t : List Lexeme). done {A = Option (List ℕ)} None t) h)
blob_behind_full k l r (Some b) h f = choose (after_word k l) _ _ h.0 _ (word_full k l h.0 h.1) (step (blob_at h.0) _ b r _ (blob_agrees.full h.0 r b h.2 tt) refl)

pub blob_behind_agrees : (k : Keyword) → Agrees (blob_behind k) (Maybe (keyword k) IsBlob) (NotWord k)
blob_behind_agrees k = record { sound = blob_behind_sound k; full = blob_behind_full k }

flag_sound : (k : Keyword) (l r : List Lexeme) (b : Bool) → flag_at k l ≡ Some (b, r) → If (keyword k) b l r
unfolding flag_at
flag_sound k l r b e =
    elim (unchoose (after_word k l) _ _ (b, r) e) [
      | inl h ↦ phrase_at (If (keyword k)) true b l h.0 r h.2 (word_sound k l h.0 h.1)
      | inr h ↦ phrase_at (If (keyword k)) false b l l r h.1 refl
    ]

flag_full : (k : Keyword) (l r : List Lexeme) (b : Bool) → If (keyword k) b l r → NotWord k r → flag_at k l ≡ Some (b, r)
unfolding flag_at
flag_full k l r true h f = choose (after_word k l) _ _ r _ (word_full k l r h) refl
flag_full k l r false h f = choose_other (after_word k l) _ _ _ (ap (after_word k) h ∙ f) (ap (λ (t : List Lexeme). done false t) h)

pub flag_agrees : (k : Keyword) → Agrees (flag_at k) (If (keyword k)) (NotWord k)
flag_agrees k = record { sound = flag_sound k; full = flag_full k }

-- ---- where a clause or the end begins

-- one of the words, a semicolon, or nothing
abbrev pub Starts : List Keyword → List Lexeme → Type 0
Starts [] l = (l ≡ []) ⊎ ((m : List Lexeme) × sign mark.Semicolon l m)
Starts (k ∷ ks) l = ((m : List Lexeme) × keyword k l m) ⊎ Starts ks l

abbrev pub no_such : Keyword → List Keyword → Bool
no_such k js = list_all (λ j. not (bytes_eq (spelling j) (spelling k))) js

pub starts_word : (k : Keyword) (js : List Keyword) (l : List Lexeme) → no_such k js ≡ true → Starts js l → after_word k l ≡ None
unfolding after_word
starts_word k [] l e (inl h) = ap (after_word k) h
starts_word k [] l e (inr h) = ap (after_word k) h.1
starts_word k (j ∷ js) l e (inl h) = other_word k j l h.0 (first_false (bytes_eq (spelling j) (spelling k)) (no_such k js) e) h.1 where
  first_false : (b c : Bool) → (not b && c) ≡ true → b ≡ false
  first_false true c e = absurd cc
  first_false false c e = refl
starts_word k (j ∷ js) l e (inr h) = starts_word k js l (later (bytes_eq (spelling j) (spelling k)) (no_such k js) e) h where
  later : (b c : Bool) → (not b && c) ≡ true → c ≡ true
  later true c e = absurd cc
  later false c e = e

pub starts_mark : (m : Mark) (js : List Keyword) (l : List Lexeme) → eqb (place mark.Semicolon) (place m) ≡ false → Starts js l → after_mark m l ≡ None
unfolding after_mark
starts_mark m [] l e (inl h) = ap (after_mark m) h
starts_mark m [] l e (inr h) = ap (after_mark m) h.1 ∙ rw e refl
starts_mark m (j ∷ js) l e (inl h) = ap (after_mark m) h.1
starts_mark m (j ∷ js) l e (inr h) = starts_mark m js l e h

pub starts_behind : {A : Type 0} (k : Keyword) (s : Separator) (P : A → Phrase) (js : List Keyword) (xs : List A) (l r : List Lexeme) → Behind (keyword k) s P xs l r → Starts js r → Starts (k ∷ js) l
starts_behind k s P js [] l r h f = inr (subst (Starts js) (sym h) f)
starts_behind k s P js (x ∷ xs) l r h f = inl (h.0, h.1)

pub starts_maybe : {A : Type 0} (k : Keyword) (P : A → Phrase) (js : List Keyword) (o : Option A) (l r : List Lexeme) → Maybe (keyword k) P o l r → Starts js r → Starts (k ∷ js) l
starts_maybe k P js None l r h f = inr (subst (Starts js) (sym h) f)
starts_maybe k P js (Some x) l r h f = inl (h.0, h.1)
