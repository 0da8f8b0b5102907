-- The types of columns agree with the grammar.
use Rattle.std.proofs.Common.{◌≡◌, ℕ, Bool, true, false, cond, List, [], ◌∷◌, length, Option, None, Some, refl, ap, ◌∙◌, inl, inr, arith}
use Rattle.std.specs.Str.{bytes_eq}
use Rattle.std.proofs.lemmas.Slice.Eq.{bytes_eq-Decides}
use Rattle.cas_types.specs.declared.tag.TypeTag.{TypeTag}
use Rattle.cas_types.specs.declared.tag.TypeTag.TheVariants as tag
use Rattle.cql_phrases.specs.declared.lexeme.Lexeme.{Lexeme}
use Rattle.cql_phrases.specs.declared.lexeme.Lexeme.TheVariants as lexeme
use Rattle.cql_phrases.specs.declared.keyword.Keyword.{Keyword}
use Rattle.cql_phrases.specs.declared.keyword.Keyword.TheVariants as word
use Rattle.cql_lex.specs.declared.token.Mark.TheVariants as mark
use Rattle.cql_tables.specs.declared.syntax.ColumnType.{ColumnType}
use Rattle.cql_tables.specs.declared.syntax.ColumnType.TheVariants as column_type
use Rattle.cql_phrases.specs.Symbols.{spelling}
use Rattle.cql_phrases.specs.Inner.Reading.{done, chosen, after_word, mark_at}
use Rattle.cql_phrases.proofs.Agree.{Anything, Shrinks, unstep, step, unchoose, choose, choose_other, some_is, phrase_at}
use Rattle.cql_phrases.proofs.Tokens.{word_sound, word_full, other_word, mark_at_sound, mark_at_full}
use Rattle.cql_phrases.proofs.ClauseAgree.{NotWord}
use Rattle.cql_tables.specs.Inner.TableReading.{natives, first_type_of, native_at, one_in_angles, two_in_angles, type_at}
use Rattle.cql_phrases.specs.Phrases.{Phrase, keyword, sign}
use Rattle.cql_tables.specs.Tables.{IsNative, IsType}

-- ---- the words of the types

-- each word of the table spells its type
abbrev AllSpell : List (Keyword × TypeTag) → Type 0
AllSpell [] = Unit {0}
AllSpell (n ∷ ns) = ((l r : List Lexeme) → keyword n.0 l r → IsNative n.1 l r) × AllSpell ns

natives_spell : AllSpell natives
natives_spell =
    (λ l r h. h, (λ l r h. h, (λ l r h. h, (λ l r h. h, (λ l r h. h, (λ l r h. h, (λ l r h. h, (λ l r h. inl h, (λ l r h. h, (λ l r h. h, (λ l r h. h, (λ l r h. h, (λ l r h. h, (λ l r h. inr h, tt))))))))))))))

first_sound : (ns : List (Keyword × TypeTag)) (l r : List Lexeme) (x : TypeTag) → AllSpell ns → first_type_of ns l ≡ Some (x, r) → IsNative x l r
unfolding first_type_of
first_sound [] l r x s e = absurd cc
first_sound (n ∷ ns) l r x s e =
    elim (unchoose (after_word n.0 l) _ _ (x, r) e) [
      | inl h ↦ phrase_at IsNative n.1 x l h.0 r h.2 (s.0 l h.0 (word_sound n.0 l h.0 h.1))
      | inr h ↦ first_sound ns l r x s.1 h.1
    ]

-- the type of the first word of the table that is spelt as this one
abbrev type_in : List (Keyword × TypeTag) → Keyword → Option TypeTag
type_in [] k = None
type_in (n ∷ ns) k = cond (bytes_eq (spelling k) (spelling n.0)) (Some n.1) (type_in ns k)

first_or_later : (n : Keyword × TypeTag) (k : Keyword) (x : TypeTag) (l r : List Lexeme) (b : Bool) (later : Option TypeTag) (found : Option (TypeTag × List Lexeme)) → bytes_eq (spelling k) (spelling n.0) ≡ b
    → cond b (Some n.1) later ≡ Some x → keyword k l r → (later ≡ Some x → found ≡ Some (x, r)) → chosen (after_word n.0 l) (done n.1) found ≡ Some (x, r)
first_or_later n k x l r true later found p q h again =
    choose (after_word n.0 l) _ _ r _ (word_full n.0 l r (h ∙ ap (λ (t : List ℕ). lexeme.Word t ∷ r) ((bytes_eq-Decides (spelling k) (spelling n.0)).0 p)))
    (ap (λ (t : TypeTag). Some (t, r)) (some_is n.1 x q))
first_or_later n k x l r false later found p q h again = choose_other (after_word n.0 l) _ _ _ (other_word n.0 k l r p h) (again q)

first_full : (ns : List (Keyword × TypeTag)) (k : Keyword) (x : TypeTag) (l r : List Lexeme) → type_in ns k ≡ Some x → keyword k l r → first_type_of ns l ≡ Some (x, r)
unfolding first_type_of
first_full [] k x l r e h = absurd cc
first_full (n ∷ ns) k x l r e h = first_or_later n k x l r _ _ _ refl e h (λ q. first_full ns k x l r q h)

native_sound : (l r : List Lexeme) (x : TypeTag) → native_at l ≡ Some (x, r) → IsNative x l r
unfolding native_at
native_sound l r x e = first_sound natives l r x natives_spell e

native_full : (l r : List Lexeme) (x : TypeTag) → IsNative x l r → native_at l ≡ Some (x, r)
unfolding native_at spelling
native_full l r tag.Ascii h = first_full natives word.Ascii tag.Ascii l r refl h
native_full l r tag.BigInt h = first_full natives word.BigInt tag.BigInt l r refl h
native_full l r tag.Blob h = first_full natives word.Blob tag.Blob l r refl h
native_full l r tag.Boolean h = first_full natives word.Boolean tag.Boolean l r refl h
native_full l r tag.Date h = first_full natives word.Date tag.Date l r refl h
native_full l r tag.Int h = first_full natives word.Int tag.Int l r refl h
native_full l r tag.SmallInt h = first_full natives word.SmallInt tag.SmallInt l r refl h
native_full l r tag.Text (inl h) = first_full natives word.Text tag.Text l r refl h
native_full l r tag.Text (inr h) = first_full natives word.VarChar tag.Text l r refl h
native_full l r tag.Time h = first_full natives word.Time tag.Time l r refl h
native_full l r tag.Timestamp h = first_full natives word.Timestamp tag.Timestamp l r refl h
native_full l r tag.TimeUuid h = first_full natives word.TimeUuid tag.TimeUuid l r refl h
native_full l r tag.TinyInt h = first_full natives word.TinyInt tag.TinyInt l r refl h
native_full l r tag.Uuid h = first_full natives word.Uuid tag.Uuid l r refl h

native_shrinks : Shrinks IsNative
native_shrinks tag.Ascii l r h = omega (arith, ap length h)
native_shrinks tag.BigInt l r h = omega (arith, ap length h)
native_shrinks tag.Blob l r h = omega (arith, ap length h)
native_shrinks tag.Boolean l r h = omega (arith, ap length h)
native_shrinks tag.Date l r h = omega (arith, ap length h)
native_shrinks tag.Int l r h = omega (arith, ap length h)
native_shrinks tag.SmallInt l r h = omega (arith, ap length h)
native_shrinks tag.Text l r (inl h) = omega (arith, ap length h)
native_shrinks tag.Text l r (inr h) = omega (arith, ap length h)
native_shrinks tag.Time l r h = omega (arith, ap length h)
native_shrinks tag.Timestamp l r h = omega (arith, ap length h)
native_shrinks tag.TimeUuid l r h = omega (arith, ap length h)
native_shrinks tag.TinyInt l r h = omega (arith, ap length h)
native_shrinks tag.Uuid l r h = omega (arith, ap length h)

-- a native type begins no collection
no_collection : (t : TypeTag) (l r : List Lexeme) → IsNative t l r → NotWord word.Set l × NotWord word.List l × NotWord word.Map l
unfolding spelling
no_collection tag.Ascii l r h = (other_word word.Set word.Ascii l r refl h, other_word word.List word.Ascii l r refl h, other_word word.Map word.Ascii l r refl h)
no_collection tag.BigInt l r h = (other_word word.Set word.BigInt l r refl h, other_word word.List word.BigInt l r refl h, other_word word.Map word.BigInt l r refl h)
no_collection tag.Blob l r h = (other_word word.Set word.Blob l r refl h, other_word word.List word.Blob l r refl h, other_word word.Map word.Blob l r refl h)
no_collection tag.Boolean l r h = (other_word word.Set word.Boolean l r refl h, other_word word.List word.Boolean l r refl h, other_word word.Map word.Boolean l r refl h)
no_collection tag.Date l r h = (other_word word.Set word.Date l r refl h, other_word word.List word.Date l r refl h, other_word word.Map word.Date l r refl h)
no_collection tag.Int l r h = (other_word word.Set word.Int l r refl h, other_word word.List word.Int l r refl h, other_word word.Map word.Int l r refl h)
no_collection tag.SmallInt l r h = (other_word word.Set word.SmallInt l r refl h, other_word word.List word.SmallInt l r refl h, other_word word.Map word.SmallInt l r refl h)
no_collection tag.Text l r (inl h) = (other_word word.Set word.Text l r refl h, other_word word.List word.Text l r refl h, other_word word.Map word.Text l r refl h)
no_collection tag.Text l r (inr h) = (other_word word.Set word.VarChar l r refl h, other_word word.List word.VarChar l r refl h, other_word word.Map word.VarChar l r refl h)
no_collection tag.Time l r h = (other_word word.Set word.Time l r refl h, other_word word.List word.Time l r refl h, other_word word.Map word.Time l r refl h)
no_collection tag.Timestamp l r h = (other_word word.Set word.Timestamp l r refl h, other_word word.List word.Timestamp l r refl h, other_word word.Map word.Timestamp l r refl h)
no_collection tag.TimeUuid l r h = (other_word word.Set word.TimeUuid l r refl h, other_word word.List word.TimeUuid l r refl h, other_word word.Map word.TimeUuid l r refl h)
no_collection tag.TinyInt l r h = (other_word word.Set word.TinyInt l r refl h, other_word word.List word.TinyInt l r refl h, other_word word.Map word.TinyInt l r refl h)
no_collection tag.Uuid l r h = (other_word word.Set word.Uuid l r refl h, other_word word.List word.Uuid l r refl h, other_word word.Map word.Uuid l r refl h)

abbrev OneInAngles : TypeTag → Phrase
OneInAngles t l r = (m : List Lexeme) × sign mark.Less l m × ((n : List Lexeme) × IsNative t m n × sign mark.Greater n r)

one_sound : (l r : List Lexeme) (t : TypeTag) → one_in_angles l ≡ Some (t, r) → OneInAngles t l r
unfolding one_in_angles
one_sound l r t e =
    let a = unstep (mark_at mark.Less l) _ t r e in
    let b = unstep (native_at a.left) _ t r a.next in
    let c = unstep (mark_at mark.Greater b.left) _ t r b.next in
    phrase_at OneInAngles b.value t l c.left r c.next (a.left, mark_at_sound mark.Less l a.left a.value a.was, (b.left, native_sound a.left b.left b.value b.was, mark_at_sound mark.Greater b.left c.left c.value c.was))

one_full : (l r : List Lexeme) (t : TypeTag) → OneInAngles t l r → one_in_angles l ≡ Some (t, r)
unfolding one_in_angles
one_full l r t (a, ha, (b, hb, hc)) =
    step (mark_at mark.Less l) _ tt a _ (mark_at_full mark.Less l a ha) (step (native_at a) _ t b _ (native_full a b t hb) (step (mark_at mark.Greater b) _ tt r _ (mark_at_full mark.Greater b r hc) refl))

two_sound : (k l r : List Lexeme) (t : ColumnType) → keyword word.Map k l → two_in_angles l ≡ Some (t, r) → IsType t k r
unfolding two_in_angles
two_sound k l r t i e =
    let a = unstep (mark_at mark.Less l) _ t r e in
    let b = unstep (native_at a.left) _ t r a.next in
    let c = unstep (mark_at mark.Comma b.left) _ t r b.next in
    let d = unstep (native_at c.left) _ t r c.next in
    let f = unstep (mark_at mark.Greater d.left) _ t r d.next in
    phrase_at IsType (column_type.MapOf b.value d.value) t k f.left r f.next
    (l, i, (a.left, mark_at_sound mark.Less l a.left a.value a.was, (b.left, native_sound a.left b.left b.value b.was, (c.left, mark_at_sound mark.Comma b.left c.left c.value c.was, (d.left, native_sound c.left d.left d.value d.was, mark_at_sound mark.Greater d.left f.left f.value f.was)))))

pub type_sound : (l r : List Lexeme) (x : ColumnType) → type_at l ≡ Some (x, r) → IsType x l r
unfolding type_at
type_sound l r x e =
    elim (unchoose (after_word word.Set l) _ _ (x, r) e) [
      | inl h ↦ let u = unstep (one_in_angles h.0) _ x r h.2 in phrase_at IsType (column_type.SetOf u.value) x l u.left r u.next (h.0, word_sound word.Set l h.0 h.1, one_sound h.0 u.left u.value u.was)
      | inr h ↦
          elim (unchoose (after_word word.List l) _ _ (x, r) h.1) [
            | inl k ↦ let u = unstep (one_in_angles k.0) _ x r k.2 in phrase_at IsType (column_type.ListOf u.value) x l u.left r u.next (k.0, word_sound word.List l k.0 k.1, one_sound k.0 u.left u.value u.was)
            | inr k ↦
                elim (unchoose (after_word word.Map l) _ _ (x, r) k.1) [
                  | inl j ↦ two_sound l j.0 r x (word_sound word.Map l j.0 j.1) j.2
                  | inr j ↦ let u = unstep (native_at l) _ x r j.1 in phrase_at IsType (column_type.One u.value) x l u.left r u.next (native_sound l u.left u.value u.was)
                ]
          ]
    ]

pub type_full : (l r : List Lexeme) (x : ColumnType) → IsType x l r → Anything r → type_at l ≡ Some (x, r)
unfolding type_at two_in_angles spelling
type_full l r (column_type.One t) h f =
    let n = no_collection t l r h in
    choose_other (after_word word.Set l) _ _ _ n.0 (choose_other (after_word word.List l) _ _ _ n.1 (choose_other (after_word word.Map l) _ _ _ n.2 (step (native_at l) _ t r _ (native_full l r t h) refl)))
type_full l r (column_type.SetOf t) h f = choose (after_word word.Set l) _ _ h.0 _ (word_full word.Set l h.0 h.1) (step (one_in_angles h.0) _ t r _ (one_full h.0 r t h.2) refl)
type_full l r (column_type.ListOf t) h f =
    choose_other (after_word word.Set l) _ _ _ (other_word word.Set word.List l h.0 refl h.1)
    (choose (after_word word.List l) _ _ h.0 _ (word_full word.List l h.0 h.1) (step (one_in_angles h.0) _ t r _ (one_full h.0 r t h.2) refl))
type_full l r (column_type.MapOf s t) (k, hk, (a, ha, (b, hb, (c, hc, (d, hd, he))))) f =
    choose_other (after_word word.Set l) _ _ _ (other_word word.Set word.Map l k refl hk)
    (choose_other (after_word word.List l) _ _ _ (other_word word.List word.Map l k refl hk)
    (choose (after_word word.Map l) _ _ k _ (word_full word.Map l k hk)
    (step (mark_at mark.Less k) _ tt a _ (mark_at_full mark.Less k a ha)
    (step (native_at a) _ s b _ (native_full a b s hb)
    (step (mark_at mark.Comma b) _ tt c _ (mark_at_full mark.Comma b c hc)
    (step (native_at c) _ t d _ (native_full c d t hd)
    (step (mark_at mark.Greater d) _ tt r _ (mark_at_full mark.Greater d r he) refl)))))))

pub type_shrinks : Shrinks IsType
type_shrinks (column_type.One t) l r h = native_shrinks t l r h
type_shrinks (column_type.SetOf t) l r h = omega (arith, ap length h.1, ap length h.2.1, native_shrinks t h.2.0 h.2.2.0 h.2.2.1, ap length h.2.2.2)
type_shrinks (column_type.ListOf t) l r h = omega (arith, ap length h.1, ap length h.2.1, native_shrinks t h.2.0 h.2.2.0 h.2.2.1, ap length h.2.2.2)
type_shrinks (column_type.MapOf s t) l r (k, hk, (a, ha, (b, hb, (c, hc, (d, hd, he))))) =
    omega (arith, ap length hk, ap length ha, native_shrinks s a b hb, ap length hc, native_shrinks t c d hd, ap length he)
