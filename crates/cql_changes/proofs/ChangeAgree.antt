-- Restrictions, INSERT, UPDATE and DELETE agree with the grammar.
use Rattle.std.proofs.Common.{◌≡◌, ℕ, ℤ, ◌≤◌, Bool, true, false, cond, List, [], ◌∷◌, length, Option, None, Some, refl, sym, subst, ap, ◌∙◌, inl, inr, arith}
use Rattle.cql_phrases.specs.declared.lexeme.Lexeme.{Lexeme}
use Rattle.cql_phrases.specs.declared.lexeme.Lexeme.TheVariants as lexeme
use Rattle.cql_phrases.specs.declared.keyword.Keyword.{Keyword}
use Rattle.cql_phrases.specs.declared.keyword.Keyword.TheVariants as word
use Rattle.cql_lex.specs.declared.token.Mark.TheVariants as mark
use Rattle.cql_phrases.specs.declared.lists.Separator.TheVariants as separator
use Rattle.cql_phrases.specs.declared.term.Constant.{Constant}
use Rattle.cql_phrases.specs.declared.term.Term.TheVariants as term
use Rattle.cql_changes.specs.declared.syntax.Insert.{Insert}
use Rattle.cql_changes.specs.declared.syntax.Use.{Use}
use Rattle.cql_changes.specs.declared.syntax.Use.TheVariants as «use»
use Rattle.cql_changes.specs.declared.syntax.Update.{Update}
use Rattle.cql_changes.specs.declared.syntax.Assignment.{Assignment}
use Rattle.cql_changes.specs.declared.syntax.Assigned.{Assigned}
use Rattle.cql_changes.specs.declared.syntax.Assigned.TheVariants as assigned
use Rattle.cql_changes.specs.declared.syntax.Delete.{Delete}
use Rattle.cql_changes.specs.declared.syntax.Target.{Target}
use Rattle.cql_changes.specs.declared.syntax.Relation.{Relation}
use Rattle.cql_changes.specs.declared.syntax.Operator.{Operator}
use Rattle.cql_changes.specs.declared.syntax.Operator.TheVariants as operator
use Rattle.cql_phrases.specs.declared.term.Constant.TheVariants as constant
use Rattle.cql_phrases.specs.Symbols.{spelling, is_reserved}
use Rattle.cql_phrases.specs.Inner.Reading.{done, after_word, after_mark, after_open_bracket, word_at, mark_at, close_bracket_at, name_at, whole_number_at, list_at, in_parens, list_behind, place}
use Rattle.cql_phrases.specs.Inner.TermReading.{constant_at, opens, literal_at, term_at}
use Rattle.cql_phrases.proofs.Agree.{Agrees, Anything, Shrinks, unstep, step, unchoose, choose, choose_other, phrase_at}
use Rattle.cql_phrases.proofs.Tokens.{word_sound, word_full, other_word, mark_sound, mark_full, other_mark, word_at_sound, word_at_full, mark_at_sound, mark_at_full, open_bracket_sound, open_bracket_full, close_bracket_at_sound, close_bracket_at_full, name_agrees, name_shrinks, number_agrees, no_word, word_no_mark}
use Rattle.cql_phrases.proofs.ClauseAgree.{MayGoOn, AfterList, MayClose, AfterClause, NotWord, Starts, list_agrees, parens_agrees, behind_agrees, starts_word, starts_mark, starts_behind}
use Rattle.cql_phrases.proofs.TermAgree.{constant_agrees, constant_shrinks, literal_agrees, literal_shrinks, literal_is_opened, term_agrees, term_shrinks, either}
use Rattle.cql_changes.specs.Inner.ChangeReading.{use_at, insert_at, operator_at, relation_at, name_comes, entry_assigned, literal_assigned, changed, name_assigned, term_assigned, right_side, assigned_at, assignment_at, update_at, target_at, targets_at, timestamp_at, delete_at}
use Rattle.cql_phrases.specs.Phrases.{Phrase, keyword, sign, open_bracket, close_bracket, Some_of, Behind, InParens, Maybe, IsName, IsNumber, IsConstant, IsTerm}
use Rattle.cql_changes.specs.Changes.{IsUse, IsOperator, IsRelation, InBrackets, IsInsert, IsAssigned, IsAssignment, IsUpdate, Keyed, IsTarget, Targets, IsDelete}
use Rattle.cql_tables.specs.Inner.TableReading.{table_at}
use Rattle.cql_tables.proofs.TableAgree.{NotMark, End, table_agrees, not_comma, not_and}

-- ---- USING

use_sound : (l r : List Lexeme) (x : Use) → use_at l ≡ Some (x, r) → IsUse x l r
unfolding use_at
use_sound l r x e =
    elim (unchoose (after_word word.Timestamp l) _ _ (x, r) e) [
      | inl h ↦
          let u = unstep (whole_number_at h.0) _ x r h.2 in
          phrase_at IsUse («use».Timestamp u.value) x l u.left r u.next (h.0, word_sound word.Timestamp l h.0 h.1, number_agrees.sound h.0 u.left u.value u.was)
      | inr h ↦
          let v = unstep (word_at word.Ttl l) _ x r h.1 in
          let u = unstep (whole_number_at v.left) _ x r v.next in
          phrase_at IsUse («use».Ttl u.value) x l u.left r u.next (v.left, word_at_sound word.Ttl l v.left v.value v.was, number_agrees.sound v.left u.left u.value u.was)
    ]

use_full : (l r : List Lexeme) (x : Use) → IsUse x l r → Anything r → use_at l ≡ Some (x, r)
unfolding use_at spelling
use_full l r («use».Timestamp n) h f = choose (after_word word.Timestamp l) _ _ h.0 _ (word_full word.Timestamp l h.0 h.1) (step (whole_number_at h.0) _ n r _ (number_agrees.full h.0 r n h.2 tt) refl)
use_full l r («use».Ttl n) h f =
    choose_other (after_word word.Timestamp l) _ _ _ (other_word word.Timestamp word.Ttl l h.0 refl h.1)
    (step (word_at word.Ttl l) _ tt h.0 _ (word_at_full word.Ttl l h.0 h.1) (step (whole_number_at h.0) _ n r _ (number_agrees.full h.0 r n h.2 tt) refl))

pub use_agrees : Agrees use_at IsUse Anything
use_agrees = record { sound = use_sound; full = use_full }

pub use_shrinks : Shrinks IsUse
use_shrinks («use».Timestamp n) l r h = omega (arith, ap length h.1, ap length h.2)
use_shrinks («use».Ttl n) l r h = omega (arith, ap length h.1, ap length h.2)

and_goes_on : MayGoOn separator.And Anything
and_goes_on l r h = tt

comma_goes_on : MayGoOn separator.Comma Anything
comma_goes_on l r h = tt

anything_closes : MayClose Anything
anything_closes l r h = tt

pub uses_agree : Agrees (list_behind word.Using separator.And use_at) (Behind (keyword word.Using) separator.And IsUse) (AfterClause word.Using separator.And Anything)
uses_agree = behind_agrees word.Using separator.And use_at IsUse Anything use_agrees use_shrinks and_goes_on

-- ---- WHERE

operator_sound : (l r : List Lexeme) (x : Operator) → operator_at l ≡ Some (x, r) → IsOperator x l r
unfolding operator_at
operator_sound [] r x e = absurd cc
operator_sound (lexeme.Mark mark.Equals ∷ l) r x e = phrase_at IsOperator operator.Equal x (lexeme.Mark mark.Equals ∷ l) l r e refl
operator_sound (lexeme.Mark mark.Less ∷ l) r x e = phrase_at IsOperator operator.Less x (lexeme.Mark mark.Less ∷ l) l r e refl
operator_sound (lexeme.Mark mark.AtMost ∷ l) r x e = phrase_at IsOperator operator.AtMost x (lexeme.Mark mark.AtMost ∷ l) l r e refl
operator_sound (lexeme.Mark mark.Greater ∷ l) r x e = phrase_at IsOperator operator.Greater x (lexeme.Mark mark.Greater ∷ l) l r e refl
operator_sound (lexeme.Mark mark.AtLeast ∷ l) r x e = phrase_at IsOperator operator.AtLeast x (lexeme.Mark mark.AtLeast ∷ l) l r e refl
operator_sound (lexeme.Mark mark.OpenParen ∷ l) r x e = absurd cc
operator_sound (lexeme.Mark mark.CloseParen ∷ l) r x e = absurd cc
operator_sound (lexeme.Mark mark.Comma ∷ l) r x e = absurd cc
operator_sound (lexeme.Mark mark.Semicolon ∷ l) r x e = absurd cc
operator_sound (lexeme.Mark mark.Colon ∷ l) r x e = absurd cc
operator_sound (lexeme.Mark mark.Dot ∷ l) r x e = absurd cc
operator_sound (lexeme.Mark mark.OpenBracket ∷ l) r x e = absurd cc
operator_sound (lexeme.Mark mark.CloseBracket ∷ l) r x e = absurd cc
operator_sound (lexeme.Mark mark.OpenBrace ∷ l) r x e = absurd cc
operator_sound (lexeme.Mark mark.CloseBrace ∷ l) r x e = absurd cc
operator_sound (lexeme.Mark mark.Plus ∷ l) r x e = absurd cc
operator_sound (lexeme.Mark mark.Minus ∷ l) r x e = absurd cc
operator_sound (lexeme.Mark mark.Star ∷ l) r x e = absurd cc
operator_sound (lexeme.Word text ∷ l) r x e = absurd cc
operator_sound (lexeme.Quoted text ∷ l) r x e = absurd cc
operator_sound (lexeme.Text text ∷ l) r x e = absurd cc
operator_sound (lexeme.Number n ∷ l) r x e = absurd cc
operator_sound (lexeme.Ratio n ∷ l) r x e = absurd cc
operator_sound (lexeme.Blob b ∷ l) r x e = absurd cc
operator_sound (lexeme.Uuid u ∷ l) r x e = absurd cc
operator_sound (lexeme.OpenBracket at ∷ l) r x e = absurd cc
operator_sound (lexeme.CloseBracket at ∷ l) r x e = absurd cc
operator_sound (lexeme.OpenBrace at ∷ l) r x e = absurd cc
operator_sound (lexeme.CloseBrace at ∷ l) r x e = absurd cc

operator_full : (l r : List Lexeme) (x : Operator) → IsOperator x l r → operator_at l ≡ Some (x, r)
unfolding operator_at
operator_full l r operator.Equal h = ap operator_at h
operator_full l r operator.Less h = ap operator_at h
operator_full l r operator.AtMost h = ap operator_at h
operator_full l r operator.Greater h = ap operator_at h
operator_full l r operator.AtLeast h = ap operator_at h

operator_shrinks : Shrinks IsOperator
operator_shrinks operator.Equal l r h = omega (arith, ap length h)
operator_shrinks operator.Less l r h = omega (arith, ap length h)
operator_shrinks operator.AtMost l r h = omega (arith, ap length h)
operator_shrinks operator.Greater l r h = omega (arith, ap length h)
operator_shrinks operator.AtLeast l r h = omega (arith, ap length h)

relation_sound : (l r : List Lexeme) (x : Relation) → relation_at l ≡ Some (x, r) → IsRelation x l r
unfolding relation_at
relation_sound l r x e =
    let u = unstep (name_at l) _ x r e in
    let v = unstep (operator_at u.left) _ x r u.next in
    let w = unstep (term_at v.left) _ x r v.next in
    phrase_at IsRelation (record { column = u.value; operator = v.value; value = w.value }) x l w.left r w.next
    (u.left, name_agrees.sound l u.left u.value u.was, (v.left, operator_sound u.left v.left v.value v.was, term_agrees.sound v.left w.left w.value w.was))

relation_full : (l r : List Lexeme) (x : Relation) → IsRelation x l r → Anything r → relation_at l ≡ Some (x, r)
unfolding relation_at
relation_full l r x h f =
    step (name_at l) _ x.column h.0 _ (name_agrees.full l h.0 x.column h.1 tt)
    (step (operator_at h.0) _ x.operator h.2.0 _ (operator_full h.0 h.2.0 x.operator h.2.1)
    (step (term_at h.2.0) _ x.value r _ (term_agrees.full h.2.0 r x.value h.2.2 tt) refl))

relation_agrees : Agrees relation_at IsRelation Anything
relation_agrees = record { sound = relation_sound; full = relation_full }

relation_shrinks : Shrinks IsRelation
relation_shrinks x l r h = omega (arith, name_shrinks x.column l h.0 h.1, operator_shrinks x.operator h.0 h.2.0 h.2.1, term_shrinks x.value h.2.0 r h.2.2)

pub relations_agree : Agrees (list_at separator.And relation_at) (Some_of separator.And IsRelation) (AfterList separator.And Anything)
relations_agree = list_agrees separator.And relation_at IsRelation Anything relation_agrees relation_shrinks and_goes_on

pub where_agrees : Agrees (list_behind word.Where separator.And relation_at) (Behind (keyword word.Where) separator.And IsRelation) (AfterClause word.Where separator.And Anything)
where_agrees = behind_agrees word.Where separator.And relation_at IsRelation Anything relation_agrees relation_shrinks and_goes_on

-- ---- INSERT

names_agree : Agrees (in_parens name_at) (InParens IsName) Anything
names_agree = parens_agrees name_at IsName Anything name_agrees name_shrinks comma_goes_on anything_closes

terms_agree : Agrees (in_parens term_at) (InParens IsTerm) Anything
terms_agree = parens_agrees term_at IsTerm Anything term_agrees term_shrinks comma_goes_on anything_closes

pub insert_sound : (k l r : List Lexeme) (x : Insert) → keyword word.Insert k l → insert_at l ≡ Some (x, r) → IsInsert x k r
unfolding insert_at
insert_sound k l r x i e =
    let a = unstep (word_at word.Into l) _ x r e in
    let b = unstep (table_at a.left) _ x r a.next in
    let c = unstep (in_parens name_at b.left) _ x r b.next in
    let d = unstep (word_at word.Values c.left) _ x r c.next in
    let f = unstep (in_parens term_at d.left) _ x r d.next in
    let g = unstep (list_behind word.Using separator.And use_at f.left) _ x r f.next in
    phrase_at IsInsert (record { table = b.value; columns = c.value; values = f.value; uses = g.value }) x k g.left r g.next (
      l,
      i,
      (
        a.left,
        word_at_sound word.Into l a.left a.value a.was,
        (
          b.left,
          table_agrees.sound a.left b.left b.value b.was,
          (
            c.left,
            names_agree.sound b.left c.left c.value c.was,
            (d.left, word_at_sound word.Values c.left d.left d.value d.was, (f.left, terms_agree.sound d.left f.left f.value f.was, uses_agree.sound f.left g.left g.value g.was)),
          ),
        ),
      ),
    )

pub insert_full : (k r : List Lexeme) (x : Insert) (h : IsInsert x k r) → End r → insert_at h.0 ≡ Some (x, r)
unfolding insert_at spelling place
insert_full k r x (l, i, (a, ha, (b, hb, (c, hc, (d, hd, (f, hf, hg)))))) s =
    step (word_at word.Into l) _ tt a _ (word_at_full word.Into l a ha)
    (step (table_at a) _ x.table b _ (table_agrees.full a b x.table hb (other_mark mark.Dot mark.OpenParen b hc.0 refl hc.1))
    (step (in_parens name_at b) _ x.columns c _ (names_agree.full b c x.columns hc tt)
    (step (word_at word.Values c) _ tt d _ (word_at_full word.Values c d hd)
    (step (in_parens term_at d) _ x.values f _ (terms_agree.full d f x.values hf tt)
    (step (list_behind word.Using separator.And use_at f) _ x.uses r _ (uses_agree.full f r x.uses hg ((tt, not_and [] r s (starts_word word.And [] r refl s)), starts_word word.Using [] r refl s)) refl)))))

-- ---- UPDATE

brackets_sound : (c : Constant) (l m n r : List Lexeme) → open_bracket l m → IsConstant c m n → close_bracket n r → InBrackets c l r
brackets_sound c l m n r p h q = (m, p, (n, h, q))

changed_sound : (n : List ℕ) (k l m r : List Lexeme) (x : Assigned) → sign mark.Equals k l → IsName n l m → changed n m ≡ Some (x, r) → IsAssigned x k r
unfolding changed
changed_sound n k l m r x q h e =
    elim (unchoose (after_mark mark.Plus m) _ _ (x, r) e) [
      | inl j ↦
          let u = unstep (literal_at j.0) _ x r j.2 in
          phrase_at IsAssigned (assigned.Append n u.value) x k u.left r u.next (l, q, (m, h, (j.0, mark_sound mark.Plus m j.0 j.1, literal_agrees.sound j.0 u.left u.value u.was)))
      | inr j ↦
          let v = unstep (mark_at mark.Minus m) _ x r j.1 in
          let u = unstep (literal_at v.left) _ x r v.next in
          phrase_at IsAssigned (assigned.Remove n u.value) x k u.left r u.next (l, q, (m, h, (v.left, mark_at_sound mark.Minus m v.left v.value v.was, literal_agrees.sound v.left u.left u.value u.was)))
    ]

literal_assigned_sound : (k l r : List Lexeme) (x : Assigned) → sign mark.Equals k l → literal_assigned l ≡ Some (x, r) → IsAssigned x k r
unfolding literal_assigned
literal_assigned_sound k l r x q e =
    let u = unstep (literal_at l) _ x r e in
    elim (unchoose (after_mark mark.Plus u.left) _ _ (x, r) u.next) [
      | inl j ↦
          let v = unstep (name_at j.0) _ x r j.2 in
          phrase_at IsAssigned (assigned.Prepend u.value v.value) x k v.left r v.next
          (l, q, (u.left, literal_agrees.sound l u.left u.value u.was, (j.0, mark_sound mark.Plus u.left j.0 j.1, name_agrees.sound j.0 v.left v.value v.was)))
      | inr j ↦ phrase_at IsAssigned (assigned.Whole (term.Literal u.value)) x k u.left r j.1 (l, q, literal_agrees.sound l u.left u.value u.was)
    ]

right_sound : (k l r : List Lexeme) (x : Assigned) → sign mark.Equals k l → right_side l ≡ Some (x, r) → IsAssigned x k r
unfolding right_side name_assigned term_assigned
right_sound k l r x q e =
    elim (either (opens l) (literal_assigned l) (cond (name_comes l) (name_assigned l) (term_assigned l)) (Some (x, r)) e) [
      | inl h ↦ literal_assigned_sound k l r x q h.1
      | inr h ↦
          elim (either (name_comes l) (name_assigned l) (term_assigned l) (Some (x, r)) h.1) [
            | inl j ↦ let u = unstep (name_at l) _ x r j.1 in changed_sound u.value k l u.left r x q (name_agrees.sound l u.left u.value u.was) u.next
            | inr j ↦ let u = unstep (term_at l) _ x r j.1 in phrase_at IsAssigned (assigned.Whole u.value) x k u.left r u.next (l, q, term_agrees.sound l u.left u.value u.was)
          ]
    ]

entry_sound : (k l r : List Lexeme) (x : Assigned) → open_bracket k l → entry_assigned l ≡ Some (x, r) → IsAssigned x k r
unfolding entry_assigned
entry_sound k l r x q e =
    let a = unstep (constant_at l) _ x r e in
    let b = unstep (close_bracket_at a.left) _ x r a.next in
    let c = unstep (mark_at mark.Equals b.left) _ x r b.next in
    let d = unstep (term_at c.left) _ x r c.next in
    phrase_at IsAssigned (assigned.Entry a.value d.value) x k d.left r d.next (
      b.left,
      brackets_sound a.value k l a.left b.left q (constant_agrees.sound l a.left a.value a.was) (close_bracket_at_sound a.left b.left b.value b.was),
      (c.left, mark_at_sound mark.Equals b.left c.left c.value c.was, term_agrees.sound c.left d.left d.value d.was),
    )

assigned_sound : (l r : List Lexeme) (x : Assigned) → assigned_at l ≡ Some (x, r) → IsAssigned x l r
unfolding assigned_at
assigned_sound l r x e =
    elim (unchoose (after_open_bracket l) _ _ (x, r) e) [
      | inl h ↦ entry_sound l h.0 r x (open_bracket_sound l h.0 h.1) h.2
      | inr h ↦ let u = unstep (mark_at mark.Equals l) _ x r h.1 in right_sound l u.left r x (mark_at_sound mark.Equals l u.left u.value u.was) u.next
    ]

-- behind the equals sign
right_again : (l m : List Lexeme) (x : Assigned) (r : List Lexeme) → sign mark.Equals l m → right_side m ≡ Some (x, r) → assigned_at l ≡ Some (x, r)
unfolding assigned_at after_open_bracket
right_again l m x r h e =
    choose_other (after_open_bracket l) _ _ _ (ap after_open_bracket h) (step (mark_at mark.Equals l) _ tt m _ (mark_at_full mark.Equals l m h) e)

-- how a name and a term that is no literal begin
name_begins : (n : List ℕ) (l r : List Lexeme) → IsName n l r → (opens l ≡ false) × (name_comes l ≡ true)
unfolding opens name_comes
name_begins n l r (inl h) = (ap opens h.0, ap name_comes h.0 ∙ rw h.1 refl)
name_begins n l r (inr h) = (ap opens h, ap name_comes h)

null_begins : (l r : List Lexeme) → keyword word.Null l r → (opens l ≡ false) × (name_comes l ≡ false)
unfolding opens name_comes is_reserved spelling
null_begins l r h = (ap opens h, ap name_comes h)

constant_begins : (c : Constant) (l r : List Lexeme) → IsConstant c l r → (opens l ≡ false) × (name_comes l ≡ false)
unfolding opens name_comes is_reserved spelling
constant_begins (constant.Text t) l r h = (ap opens h, ap name_comes h)
constant_begins (constant.Number n) l r h = (ap opens h, ap name_comes h)
constant_begins (constant.Blob b) l r h = (ap opens h, ap name_comes h)
constant_begins (constant.Uuid u) l r h = (ap opens h, ap name_comes h)
constant_begins (constant.Boolean true) l r h = (ap opens h, ap name_comes h)
constant_begins (constant.Boolean false) l r h = (ap opens h, ap name_comes h)

by_literal : (l : List Lexeme) (z : Option (Assigned × List Lexeme)) → opens l ≡ true → literal_assigned l ≡ z → right_side l ≡ z
unfolding right_side
by_literal l z o e = ap (λ (b : Bool). cond b (literal_assigned l) (cond (name_comes l) (name_assigned l) (term_assigned l))) o ∙ e

by_name : (l : List Lexeme) (z : Option (Assigned × List Lexeme)) → (opens l ≡ false) × (name_comes l ≡ true) → name_assigned l ≡ z → right_side l ≡ z
unfolding right_side
by_name l z o e =
    ap (λ (b : Bool). cond b (literal_assigned l) (cond (name_comes l) (name_assigned l) (term_assigned l))) o.0 ∙ ap (λ (b : Bool). cond b (name_assigned l) (term_assigned l)) o.1 ∙ e

by_term : (l : List Lexeme) (z : Option (Assigned × List Lexeme)) → (opens l ≡ false) × (name_comes l ≡ false) → term_assigned l ≡ z → right_side l ≡ z
unfolding right_side
by_term l z o e =
    ap (λ (b : Bool). cond b (literal_assigned l) (cond (name_comes l) (name_assigned l) (term_assigned l))) o.0 ∙ ap (λ (b : Bool). cond b (name_assigned l) (term_assigned l)) o.1 ∙ e

assigned_full : (l r : List Lexeme) (x : Assigned) → IsAssigned x l r → NotMark mark.Plus r → assigned_at l ≡ Some (x, r)
unfolding assigned_at entry_assigned literal_assigned name_assigned term_assigned changed place
assigned_full l r (assigned.Whole term.Null) h f =
    right_again l h.0 _ r h.1 (by_term h.0 _ (null_begins h.0 r h.2) (step (term_at h.0) _ term.Null r _ (term_agrees.full h.0 r term.Null h.2 tt) refl))
assigned_full l r (assigned.Whole (term.Constant c)) h f =
    right_again l h.0 _ r h.1 (by_term h.0 _ (constant_begins c h.0 r h.2) (step (term_at h.0) _ (term.Constant c) r _ (term_agrees.full h.0 r (term.Constant c) h.2 tt) refl))
assigned_full l r (assigned.Whole (term.Literal x)) h f =
    right_again l h.0 _ r h.1 (by_literal h.0 _ (literal_is_opened x h.0 r h.2) (step (literal_at h.0) _ x r _ (literal_agrees.full h.0 r x h.2 tt) (choose_other (after_mark mark.Plus r) _ _ _ f refl)))
assigned_full l r (assigned.Append n x) (a, ha, (b, hb, (c, hc, hd))) f =
    right_again l a _ r ha (by_name a _ (name_begins n a b hb) (step (name_at a) _ n b _ (name_agrees.full a b n hb tt)
    (choose (after_mark mark.Plus b) _ _ c _ (mark_full mark.Plus b c hc) (step (literal_at c) _ x r _ (literal_agrees.full c r x hd tt) refl))))
assigned_full l r (assigned.Remove n x) (a, ha, (b, hb, (c, hc, hd))) f =
    right_again l a _ r ha (by_name a _ (name_begins n a b hb) (step (name_at a) _ n b _ (name_agrees.full a b n hb tt)
    (choose_other (after_mark mark.Plus b) _ _ _ (other_mark mark.Plus mark.Minus b c refl hc) (step (mark_at mark.Minus b) _ tt c _ (mark_at_full mark.Minus b c hc) (step (literal_at c) _ x r _ (literal_agrees.full c r x hd tt) refl)))))
assigned_full l r (assigned.Prepend x n) (a, ha, (b, hb, (c, hc, hd))) f =
    right_again l a _ r ha (by_literal a _ (literal_is_opened x a b hb) (step (literal_at a) _ x b _ (literal_agrees.full a b x hb tt)
    (choose (after_mark mark.Plus b) _ _ c _ (mark_full mark.Plus b c hc) (step (name_at c) _ n r _ (name_agrees.full c r n hd tt) refl))))
assigned_full l r (assigned.Entry c t) (b, (m, ho, (n, hc, hq)), (d, hd, ht)) f =
    choose (after_open_bracket l) _ _ m _ (open_bracket_full l m ho)
    (step (constant_at m) _ c n _ (constant_agrees.full m n c hc tt)
    (step (close_bracket_at n) _ tt b _ (close_bracket_at_full n b hq)
    (step (mark_at mark.Equals b) _ tt d _ (mark_at_full mark.Equals b d hd)
    (step (term_at d) _ t r _ (term_agrees.full d r t ht tt) refl))))

brackets_shrink : (c : Constant) (l r : List Lexeme) → InBrackets c l r → length r ≤ length l
brackets_shrink c l r h = omega (arith, ap length h.1.1, constant_shrinks c h.0 h.2.0 h.2.1, ap length h.2.2.1)

assigned_shrinks : Shrinks IsAssigned
assigned_shrinks (assigned.Whole t) l r h = omega (arith, ap length h.1, term_shrinks t h.0 r h.2)
assigned_shrinks (assigned.Append n x) l r h = omega (arith, ap length h.1, name_shrinks n h.0 h.2.0 h.2.1, ap length h.2.2.1, literal_shrinks x h.2.2.0 r h.2.2.2)
assigned_shrinks (assigned.Remove n x) l r h = omega (arith, ap length h.1, name_shrinks n h.0 h.2.0 h.2.1, ap length h.2.2.1, literal_shrinks x h.2.2.0 r h.2.2.2)
assigned_shrinks (assigned.Prepend x n) l r h = omega (arith, ap length h.1, literal_shrinks x h.0 h.2.0 h.2.1, ap length h.2.2.1, name_shrinks n h.2.2.0 r h.2.2.2)
assigned_shrinks (assigned.Entry c t) l r h = omega (arith, brackets_shrink c l h.0 h.1, ap length h.2.1, term_shrinks t h.2.0 r h.2.2)

assignment_sound : (l r : List Lexeme) (x : Assignment) → assignment_at l ≡ Some (x, r) → IsAssignment x l r
unfolding assignment_at
assignment_sound l r x e =
    let u = unstep (name_at l) _ x r e in
    let v = unstep (assigned_at u.left) _ x r u.next in
    phrase_at IsAssignment (record { column = u.value; value = v.value }) x l v.left r v.next (u.left, name_agrees.sound l u.left u.value u.was, assigned_sound u.left v.left v.value v.was)

assignment_full : (l r : List Lexeme) (x : Assignment) → IsAssignment x l r → NotMark mark.Plus r → assignment_at l ≡ Some (x, r)
unfolding assignment_at
assignment_full l r x h f =
    step (name_at l) _ x.column h.0 _ (name_agrees.full l h.0 x.column h.1 tt) (step (assigned_at h.0) _ x.value r _ (assigned_full h.0 r x.value h.2 f) refl)

assignment_shrinks : Shrinks IsAssignment
assignment_shrinks x l r h = omega (arith, name_shrinks x.column l h.0 h.1, assigned_shrinks x.value h.0 r h.2)

plus_goes_on : MayGoOn separator.Comma (NotMark mark.Plus)
unfolding place
plus_goes_on l r h = other_mark mark.Plus mark.Comma l r refl h

assignments_agree : Agrees (list_at separator.Comma assignment_at) (Some_of separator.Comma IsAssignment) (AfterList separator.Comma (NotMark mark.Plus))
assignments_agree = list_agrees separator.Comma assignment_at IsAssignment (NotMark mark.Plus) (record { sound = assignment_sound; full = assignment_full }) assignment_shrinks plus_goes_on

pub update_sound : (k l r : List Lexeme) (x : Update) → keyword word.Update k l → update_at l ≡ Some (x, r) → IsUpdate x k r
unfolding update_at
update_sound k l r x i e =
    let a = unstep (table_at l) _ x r e in
    let b = unstep (list_behind word.Using separator.And use_at a.left) _ x r a.next in
    let c = unstep (word_at word.Set b.left) _ x r b.next in
    let d = unstep (list_at separator.Comma assignment_at c.left) _ x r c.next in
    let f = unstep (word_at word.Where d.left) _ x r d.next in
    let g = unstep (list_at separator.And relation_at f.left) _ x r f.next in
    phrase_at IsUpdate (record { table = a.value; uses = b.value; assignments = d.value; relations = g.value }) x k g.left r g.next (
      l,
      i,
      (
        a.left,
        table_agrees.sound l a.left a.value a.was,
        (
          b.left,
          uses_agree.sound a.left b.left b.value b.was,
          (
            c.left,
            word_at_sound word.Set b.left c.left c.value c.was,
            (d.left, assignments_agree.sound c.left d.left d.value d.was, (f.left, word_at_sound word.Where d.left f.left f.value f.was, relations_agree.sound f.left g.left g.value g.was)),
          ),
        ),
      ),
    )

pub end_of_relations : (r : List Lexeme) → End r → AfterList separator.And Anything r
unfolding spelling
end_of_relations r s = (tt, not_and [] r s (starts_word word.And [] r refl s))

pub update_full : (k r : List Lexeme) (x : Update) (h : IsUpdate x k r) → End r → update_at h.0 ≡ Some (x, r)
unfolding update_at spelling place
update_full k r x (l, i, (a, ha, (b, hb, (c, hc, (d, hd, (f, hf, hg)))))) s =
    let set : Starts (word.Set ∷ []) b = inl (c, hc) in
    let using : Starts (word.Using ∷ word.Set ∷ []) a = starts_behind word.Using separator.And IsUse (word.Set ∷ []) x.uses a b hb set in
    step (table_at l) _ x.table a _ (table_agrees.full l a x.table ha (starts_mark mark.Dot (word.Using ∷ word.Set ∷ []) a refl using))
    (step (list_behind word.Using separator.And use_at a) _ x.uses b _ (uses_agree.full a b x.uses hb ((tt, not_and (word.Set ∷ []) b set (other_word word.And word.Set b c refl hc)), other_word word.Using word.Set b c refl hc))
    (step (word_at word.Set b) _ tt c _ (word_at_full word.Set b c hc)
    (step (list_at separator.Comma assignment_at c) _ x.assignments d _ (assignments_agree.full c d x.assignments hd (word_no_mark mark.Plus word.Where d f hf, not_comma d (word_no_mark mark.Comma word.Where d f hf)))
    (step (word_at word.Where d) _ tt f _ (word_at_full word.Where d f hf)
    (step (list_at separator.And relation_at f) _ x.relations r _ (relations_agree.full f r x.relations hg (end_of_relations r s)) refl)))))

-- ---- DELETE

abbrev NoBracket : List Lexeme → Type 0
NoBracket r = after_open_bracket r ≡ None

target_sound : (l r : List Lexeme) (x : Target) → target_at l ≡ Some (x, r) → IsTarget x l r
unfolding target_at
target_sound l r x e =
    let u = unstep (name_at l) _ x r e in
    elim (unchoose (after_open_bracket u.left) _ _ (x, r) u.next) [
      | inl h ↦
          let v = unstep (constant_at h.0) _ x r h.2 in
          let w = unstep (close_bracket_at v.left) _ x r v.next in
          phrase_at IsTarget (record { column = u.value; key = Some v.value }) x l w.left r w.next
          (u.left, name_agrees.sound l u.left u.value u.was, brackets_sound v.value u.left h.0 v.left w.left (open_bracket_sound u.left h.0 h.1) (constant_agrees.sound h.0 v.left v.value v.was) (close_bracket_at_sound v.left w.left w.value w.was))
      | inr h ↦ phrase_at IsTarget (record { column = u.value; key = None }) x l u.left r h.1 (u.left, name_agrees.sound l u.left u.value u.was, refl)
    ]

target_again : (n : List ℕ) (o : Option Constant) (l m r : List Lexeme) → IsName n l m → Keyed o m r → NoBracket r → target_at l ≡ Some (record { column = n; key = o }, r)
unfolding target_at
target_again n None l m r h k f =
    step (name_at l) _ n m _ (name_agrees.full l m n h tt) (choose_other (after_open_bracket m) _ _ _ (ap after_open_bracket k ∙ f) (ap (λ (t : List Lexeme). done {A = Target} (record { column = n; key = None }) t) k))
target_again n (Some c) l m r h k f =
    step (name_at l) _ n m _ (name_agrees.full l m n h tt)
    (choose (after_open_bracket m) _ _ k.0 _ (open_bracket_full m k.0 k.1)
    (step (constant_at k.0) _ c k.2.0 _ (constant_agrees.full k.0 k.2.0 c k.2.1 tt)
    (step (close_bracket_at k.2.0) _ tt r _ (close_bracket_at_full k.2.0 r k.2.2) refl)))

keyed_shrinks : Shrinks Keyed
keyed_shrinks None l r h = omega (arith, ap length h)
keyed_shrinks (Some c) l r h = brackets_shrink c l r h

target_shrinks : Shrinks IsTarget
target_shrinks x l r h = omega (arith, name_shrinks x.column l h.0 h.1, keyed_shrinks x.key h.0 r h.2)

bracket_goes_on : MayGoOn separator.Comma NoBracket
unfolding after_open_bracket
bracket_goes_on l r h = ap after_open_bracket h

targets_list : Agrees (list_at separator.Comma target_at) (Some_of separator.Comma IsTarget) (AfterList separator.Comma NoBracket)
targets_list = list_agrees separator.Comma target_at IsTarget NoBracket (record { sound = target_sound; full = λ l r x h f. target_again x.column x.key l h.0 r h.1 h.2 f }) target_shrinks bracket_goes_on

targets_sound : (l r : List Lexeme) (xs : List Target) → targets_at l ≡ Some (xs, r) → Targets xs l r
unfolding targets_at
targets_sound l r xs e =
    elim (unchoose (after_word word.From l) _ _ (xs, r) e) [
      | inl h ↦ phrase_at Targets [] xs l l r h.2 refl
      | inr h ↦ not_empty xs (targets_list.sound l r xs h.1)
    ] where
      not_empty : (ys : List Target) → Some_of separator.Comma IsTarget ys l r → Targets ys l r
      not_empty [] h = absurd h
      not_empty (y ∷ ys) h = h

targets_full : (l r m : List Lexeme) (xs : List Target) → Targets xs l r → keyword word.From r m → targets_at l ≡ Some (xs, r)
unfolding targets_at after_open_bracket is_reserved spelling
targets_full l r m [] h f = choose (after_word word.From l) _ _ m _ (word_full word.From l m (h ∙ f)) (ap (λ (t : List Lexeme). done {A = List Target} [] t) h)
targets_full l r m (x ∷ xs) h f =
    choose_other (after_word word.From l) _ _ _ (no_word word.From x.column l h.1.0 refl h.1.1)
    (targets_list.full l r (x ∷ xs) h (ap after_open_bracket f, not_comma r (word_no_mark mark.Comma word.From r m f)))

abbrev IsTimestamp : Option ℤ → Phrase
IsTimestamp o l r = Maybe (λ a b. (m : List Lexeme) × keyword word.Using a m × keyword word.Timestamp m b) IsNumber o l r

timestamp_sound : (l r : List Lexeme) (o : Option ℤ) → timestamp_at l ≡ Some (o, r) → IsTimestamp o l r
unfolding timestamp_at
timestamp_sound l r o e =
    elim (unchoose (after_word word.Using l) _ _ (o, r) e) [
      | inl h ↦
          let u = unstep (word_at word.Timestamp h.0) _ o r h.2 in
          let v = unstep (whole_number_at u.left) _ o r u.next in
          phrase_at IsTimestamp (Some v.value) o l v.left r v.next (u.left, (h.0, word_sound word.Using l h.0 h.1, word_at_sound word.Timestamp h.0 u.left u.value u.was), number_agrees.sound u.left v.left v.value v.was)
      | inr h ↦ phrase_at IsTimestamp None o l l r h.1 refl
    ]

timestamp_full : (l r : List Lexeme) (o : Option ℤ) → IsTimestamp o l r → NotWord word.Using r → timestamp_at l ≡ Some (o, r)
unfolding timestamp_at
timestamp_full l r None h f = choose_other (after_word word.Using l) _ _ _ (ap (after_word word.Using) h ∙ f) (ap (λ (t : List Lexeme). done {A = Option ℤ} None t) h)
timestamp_full l r (Some n) h f =
    choose (after_word word.Using l) _ _ h.1.0 _ (word_full word.Using l h.1.0 h.1.1)
    (step (word_at word.Timestamp h.1.0) _ tt h.0 _ (word_at_full word.Timestamp h.1.0 h.0 h.1.2) (step (whole_number_at h.0) _ n r _ (number_agrees.full h.0 r n h.2 tt) refl))

timestamp_starts : (o : Option ℤ) (js : List Keyword) (l r : List Lexeme) → IsTimestamp o l r → Starts js r → Starts (word.Using ∷ js) l
timestamp_starts None js l r h s = inr (subst (Starts js) (sym h) s)
timestamp_starts (Some n) js l r h s = inl (h.1.0, h.1.1)

pub delete_sound : (k l r : List Lexeme) (x : Delete) → keyword word.Delete k l → delete_at l ≡ Some (x, r) → IsDelete x k r
unfolding delete_at
delete_sound k l r x i e =
    let a = unstep (targets_at l) _ x r e in
    let b = unstep (word_at word.From a.left) _ x r a.next in
    let c = unstep (table_at b.left) _ x r b.next in
    let d = unstep (timestamp_at c.left) _ x r c.next in
    let f = unstep (word_at word.Where d.left) _ x r d.next in
    let g = unstep (list_at separator.And relation_at f.left) _ x r f.next in
    phrase_at IsDelete (record { targets = a.value; table = c.value; timestamp = d.value; relations = g.value }) x k g.left r g.next (
      l,
      i,
      (
        a.left,
        targets_sound l a.left a.value a.was,
        (
          b.left,
          word_at_sound word.From a.left b.left b.value b.was,
          (
            c.left,
            table_agrees.sound b.left c.left c.value c.was,
            (d.left, timestamp_sound c.left d.left d.value d.was, (f.left, word_at_sound word.Where d.left f.left f.value f.was, relations_agree.sound f.left g.left g.value g.was)),
          ),
        ),
      ),
    )

pub delete_full : (k r : List Lexeme) (x : Delete) (h : IsDelete x k r) → End r → delete_at h.0 ≡ Some (x, r)
unfolding delete_at spelling place
delete_full k r x (l, i, (a, ha, (b, hb, (c, hc, (d, hd, (f, hf, hg)))))) s =
    let here : Starts (word.Where ∷ []) d = inl (f, hf) in
    let using : Starts (word.Using ∷ word.Where ∷ []) c = timestamp_starts x.timestamp (word.Where ∷ []) c d hd here in
    step (targets_at l) _ x.targets a _ (targets_full l a b x.targets ha hb)
    (step (word_at word.From a) _ tt b _ (word_at_full word.From a b hb)
    (step (table_at b) _ x.table c _ (table_agrees.full b c x.table hc (starts_mark mark.Dot (word.Using ∷ word.Where ∷ []) c refl using))
    (step (timestamp_at c) _ x.timestamp d _ (timestamp_full c d x.timestamp hd (other_word word.Using word.Where d f refl hf))
    (step (word_at word.Where d) _ tt f _ (word_at_full word.Where d f hf)
    (step (list_at separator.And relation_at f) _ x.relations r _ (relations_agree.full f r x.relations hg (end_of_relations r s)) refl)))))
