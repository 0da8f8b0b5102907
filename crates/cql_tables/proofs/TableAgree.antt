-- Tables' names and the orders of columns agree with the grammar.
use Rattle.std.proofs.Common.{◌≡◌, ℕ, Bool, true, false, List, [], ◌∷◌, length, Option, None, Some, refl, ap, ◌∙◌, inl, inr, arith}
use Rattle.cql_phrases.specs.declared.lexeme.Lexeme.{Lexeme}
use Rattle.cql_phrases.specs.declared.keyword.Keyword.{Keyword}
use Rattle.cql_phrases.specs.declared.keyword.Keyword.TheVariants as word
use Rattle.cql_lex.specs.declared.token.Mark.TheVariants as mark
use Rattle.cql_phrases.specs.declared.lists.Separator.TheVariants as separator
use Rattle.cql_tables.specs.declared.syntax.TableName.{TableName}
use Rattle.cql_lex.specs.declared.token.Mark.{Mark}
use Rattle.cql_phrases.specs.Symbols.{spelling}
use Rattle.cql_phrases.specs.Inner.Reading.{done, after_word, after_mark, after_separator, name_at}
use Rattle.cql_phrases.proofs.Agree.{Agrees, Shrinks, unstep, step, unchoose, choose, choose_other, phrase_at, some_is}
use Rattle.cql_phrases.proofs.Tokens.{word_sound, word_full, other_word, mark_sound, mark_full, name_agrees, name_shrinks}
use Rattle.cql_phrases.proofs.ClauseAgree.{MayGoOn, NotWord, Starts}
use Rattle.cql_tables.specs.Inner.TableReading.{table_at, column_order_at, ended}
use Rattle.cql_phrases.specs.Phrases.{IsName}
use Rattle.cql_tables.specs.Tables.{Qualified, IsTable, Direction, IsColumnOrder}
use Rattle.cql_tables.specs.declared.syntax.ColumnOrder.{ColumnOrder}

-- what isn't the mark
abbrev pub NotMark : Mark → List Lexeme → Type 0
NotMark m r = after_mark m r ≡ None

abbrev pub End : List Lexeme → Type 0
End = Starts []

-- what begins with no such word
pub not_and : (js : List Keyword) (l : List Lexeme) → Starts js l → after_word word.And l ≡ None → after_separator separator.And l ≡ None
unfolding after_separator
not_and js l s h = h

pub not_comma : (l : List Lexeme) → after_mark mark.Comma l ≡ None → after_separator separator.Comma l ≡ None
unfolding after_separator
not_comma l h = h

-- ---- tables

table_sound : (l r : List Lexeme) (x : TableName) → table_at l ≡ Some (x, r) → IsTable x l r
unfolding table_at
table_sound l r x e =
    let u = unstep (name_at l) _ x r e in
    elim (unchoose (after_mark mark.Dot u.left) _ _ (x, r) u.next) [
      | inl h ↦
          let v = unstep (name_at h.0) _ x r h.2 in
          phrase_at IsTable (record { keyspace = Some u.value; name = v.value }) x l v.left r v.next
          (u.left, name_agrees.sound l u.left u.value u.was, (h.0, mark_sound mark.Dot u.left h.0 h.1, name_agrees.sound h.0 v.left v.value v.was))
      | inr h ↦ phrase_at IsTable (record { keyspace = None; name = u.value }) x l u.left r h.1 (name_agrees.sound l u.left u.value u.was)
    ]

table_again : (k : Option (List ℕ)) (n : List ℕ) (l r : List Lexeme) → Qualified k n l r → NotMark mark.Dot r → table_at l ≡ Some (record { keyspace = k; name = n }, r)
unfolding table_at
table_again None n l r h f = step (name_at l) _ n r _ (name_agrees.full l r n h tt) (choose_other (after_mark mark.Dot r) _ _ _ f refl)
table_again (Some k) n l r h f =
    step (name_at l) _ k h.0 _ (name_agrees.full l h.0 k h.1 tt)
    (choose (after_mark mark.Dot h.0) _ _ h.2.0 _ (mark_full mark.Dot h.0 h.2.0 h.2.1)
    (step (name_at h.2.0) _ n r _ (name_agrees.full h.2.0 r n h.2.2 tt) refl))

pub table_agrees : Agrees table_at IsTable (NotMark mark.Dot)
table_agrees = record { sound = table_sound; full = λ l r x h f. table_again x.keyspace x.name l r h f }

-- ---- orders

-- what isn't a direction
abbrev pub NoDirection : List Lexeme → Type 0
NoDirection r = NotWord word.Desc r × NotWord word.Asc r

order_sound : (l r : List Lexeme) (x : ColumnOrder) → column_order_at l ≡ Some (x, r) → IsColumnOrder x l r
unfolding column_order_at
order_sound l r x e =
    let u = unstep (name_at l) _ x r e in
    elim (unchoose (after_word word.Desc u.left) _ _ (x, r) u.next) [
      | inl h ↦ phrase_at IsColumnOrder (record { name = u.value; descending = true }) x l h.0 r h.2 (u.left, name_agrees.sound l u.left u.value u.was, word_sound word.Desc u.left h.0 h.1)
      | inr h ↦
          elim (unchoose (after_word word.Asc u.left) _ _ (x, r) h.1) [
            | inl k ↦ phrase_at IsColumnOrder (record { name = u.value; descending = false }) x l k.0 r k.2 (u.left, name_agrees.sound l u.left u.value u.was, inl (word_sound word.Asc u.left k.0 k.1))
            | inr k ↦ phrase_at IsColumnOrder (record { name = u.value; descending = false }) x l u.left r k.1 (u.left, name_agrees.sound l u.left u.value u.was, inr refl)
          ]
    ]

order_again : (n : List ℕ) (b : Bool) (l m r : List Lexeme) → IsName n l m → Direction b m r → NoDirection r → column_order_at l ≡ Some (record { name = n; descending = b }, r)
unfolding column_order_at spelling
order_again n true l m r h d f = step (name_at l) _ n m _ (name_agrees.full l m n h tt) (choose (after_word word.Desc m) _ _ r _ (word_full word.Desc m r d) refl)
order_again n false l m r h (inl d) f =
    step (name_at l) _ n m _ (name_agrees.full l m n h tt)
    (choose_other (after_word word.Desc m) _ _ _ (other_word word.Desc word.Asc m r refl d) (choose (after_word word.Asc m) _ _ r _ (word_full word.Asc m r d) refl))
order_again n false l m r h (inr d) f =
    step (name_at l) _ n m _ (name_agrees.full l m n h tt)
    (choose_other (after_word word.Desc m) _ _ _ (ap (after_word word.Desc) d ∙ f.0)
    (choose_other (after_word word.Asc m) _ _ _ (ap (after_word word.Asc) d ∙ f.1) (ap (λ (t : List Lexeme). done {A = ColumnOrder} (record { name = n; descending = false }) t) d)))

pub order_agrees : Agrees column_order_at IsColumnOrder NoDirection
order_agrees = record { sound = order_sound; full = λ l r x h f. order_again x.name x.descending l h.0 r h.1 h.2 f }

direction_shrinks : Shrinks Direction
direction_shrinks true l r h = omega (arith, ap length h)
direction_shrinks false l r (inl h) = omega (arith, ap length h)
direction_shrinks false l r (inr h) = omega (arith, ap length h)

pub order_shrinks : Shrinks IsColumnOrder
order_shrinks x l r h = omega (arith, name_shrinks x.name l h.0 h.1, direction_shrinks x.descending h.0 r h.2)

pub order_goes_on : MayGoOn separator.Comma NoDirection
unfolding after_word
order_goes_on l r h = (ap (after_word word.Desc) h, ap (after_word word.Asc) h)

-- ---- the end

pub ended_is : {A : Type 0} (o : Option (A × List Lexeme)) (x : A) → ended o ≡ Some x → o ≡ Some (x, [])
ended_is None x e = absurd cc
ended_is (Some (s, [])) x e = ap (λ y. Some (y, [])) (some_is s x e)
ended_is (Some (s, y ∷ l)) x e = absurd cc
