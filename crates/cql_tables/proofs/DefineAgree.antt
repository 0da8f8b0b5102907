-- CREATE TABLE and ALTER TABLE agree with the grammar.
use Rattle.std.proofs.Common.{◌≡◌, ℕ, ◌≤◌, Bool, true, false, cond, List, [], ◌∷◌, length, Option, None, Some, refl, sym, subst, ap, ◌∙◌, inl, inr, arith}
use Rattle.std.specs.Str.{bytes_eq}
use Rattle.cql_phrases.specs.declared.lexeme.Lexeme.{Lexeme}
use Rattle.cql_phrases.specs.declared.lexeme.Lexeme.TheVariants as lexeme
use Rattle.cql_phrases.specs.declared.keyword.Keyword.{Keyword}
use Rattle.cql_phrases.specs.declared.keyword.Keyword.TheVariants as word
use Rattle.cql_lex.specs.declared.token.Mark.TheVariants as mark
use Rattle.cql_phrases.specs.declared.lists.Separator.TheVariants as separator
use Rattle.cql_tables.specs.declared.syntax.CreateTable.{CreateTable}
use Rattle.cql_tables.specs.declared.syntax.AlterTable.{AlterTable}
use Rattle.cql_tables.specs.declared.syntax.Item.{Item}
use Rattle.cql_tables.specs.declared.syntax.Item.TheVariants as item
use Rattle.cql_tables.specs.declared.syntax.DefinedColumn.{DefinedColumn}
use Rattle.cql_tables.specs.declared.syntax.AddedColumn.{AddedColumn}
use Rattle.cql_tables.specs.declared.syntax.PrimaryKey.{PrimaryKey}
use Rattle.cql_tables.specs.declared.syntax.TableOption.{TableOption}
use Rattle.cql_tables.specs.declared.syntax.TableOption.TheVariants as table_option
use Rattle.cql_tables.specs.declared.syntax.OptionValue.{OptionValue}
use Rattle.cql_tables.specs.declared.syntax.OptionValue.TheVariants as option_value
use Rattle.cql_tables.specs.declared.syntax.Suboption.{Suboption}
use Rattle.cql_phrases.specs.declared.term.Constant.TheVariants as constant
use Rattle.cql_phrases.specs.Symbols.{spelling, is_reserved}
use Rattle.cql_phrases.specs.Inner.Reading.{done, after_word, after_mark, after_separator, word_at, mark_at, close_brace_at, name_at, from_at, list_at, in_parens, list_behind, flag_at, place}
use Rattle.cql_phrases.specs.Inner.TermReading.{truth_of, constant_at, setting_at}
use Rattle.cql_phrases.proofs.Agree.{Agrees, Anything, Shrinks, unstep, step, unchoose, choose, choose_other, phrase_at}
use Rattle.cql_phrases.proofs.Tokens.{word_sound, word_full, other_word, mark_sound, mark_full, other_mark, word_at_sound, word_at_full, mark_at_sound, mark_at_full, close_brace_at_sound, close_brace_at_full, name_agrees, name_shrinks, no_word, no_mark, word_no_mark}
use Rattle.cql_phrases.proofs.ClauseAgree.{MayGoOn, AfterList, MayClose, AfterClause, NotWord, list_agrees, list_shrinks, more_shrinks, from_sound, from_full, parens_agrees, behind_agrees, flag_agrees, starts_word, starts_mark}
use Rattle.cql_phrases.proofs.TermAgree.{constant_agrees, constant_shrinks, setting_agrees, setting_shrinks}
use Rattle.cql_tables.specs.Inner.TableReading.{table_at, column_order_at, type_at, key_flag, defined_at, added_at, names_closed, partition_at, key_at, item_at, suboption_at, suboptions_closed, constant_value, option_value_at, named_option_at, after_words, clustering_order_at, option_at, create_at, alter_at}
use Rattle.cql_phrases.specs.Phrases.{Phrase, keyword, sign, close_brace, More, Some_of, Behind, InParens, If, IsName}
use Rattle.cql_tables.specs.Tables.{IsColumnOrder, IsDefined, IsAdded, IsPartition, IsPrimaryKey, IsItem, IsSuboption, IsOptionValue, IsOption, IsCreate, IsAlter}
use Rattle.cql_tables.proofs.TableAgree.{End, table_agrees, not_and, not_comma, order_agrees, order_shrinks, order_goes_on, NoDirection}
use Rattle.cql_tables.proofs.TypeAgree.{type_sound, type_full, type_shrinks}

-- ---- columns

abbrev PrimaryKeyWords : Phrase
PrimaryKeyWords l r = (m : List Lexeme) × keyword word.Primary l m × keyword word.Key m r

key_flag_sound : (l r : List Lexeme) (b : Bool) → key_flag l ≡ Some (b, r) → If PrimaryKeyWords b l r
unfolding key_flag
key_flag_sound l r b e =
    elim (unchoose (after_word word.Primary l) _ _ (b, r) e) [
      | inl h ↦ let u = unstep (word_at word.Key h.0) _ b r h.2 in phrase_at (If PrimaryKeyWords) true b l u.left r u.next (h.0, word_sound word.Primary l h.0 h.1, word_at_sound word.Key h.0 u.left u.value u.was)
      | inr h ↦ phrase_at (If PrimaryKeyWords) false b l l r h.1 refl
    ]

key_flag_full : (l r : List Lexeme) (b : Bool) → If PrimaryKeyWords b l r → NotWord word.Primary r → key_flag l ≡ Some (b, r)
unfolding key_flag
key_flag_full l r true h f = choose (after_word word.Primary l) _ _ h.0 _ (word_full word.Primary l h.0 h.1) (step (word_at word.Key h.0) _ tt r _ (word_at_full word.Key h.0 r h.2) refl)
key_flag_full l r false h f = choose_other (after_word word.Primary l) _ _ _ (ap (after_word word.Primary) h ∙ f) (ap (λ (t : List Lexeme). done false t) h)

key_flag_shrinks : (b : Bool) (l r : List Lexeme) → If PrimaryKeyWords b l r → length r ≤ length l
key_flag_shrinks true l r h = omega (arith, ap length h.1, ap length h.2)
key_flag_shrinks false l r h = omega (arith, ap length h)

flag_shrinks : (k : Keyword) (b : Bool) (l r : List Lexeme) → If (keyword k) b l r → length r ≤ length l
flag_shrinks k true l r h = omega (arith, ap length h)
flag_shrinks k false l r h = omega (arith, ap length h)

-- what is neither STATIC nor PRIMARY
abbrev ColumnEnds : List Lexeme → Type 0
ColumnEnds r = NotWord word.Static r × NotWord word.Primary r

not_static : (b : Bool) (l r : List Lexeme) → If PrimaryKeyWords b l r → NotWord word.Static r → NotWord word.Static l
unfolding spelling
not_static true l r h f = other_word word.Static word.Primary l h.0 refl h.1
not_static false l r h f = ap (after_word word.Static) h ∙ f

defined_sound : (l r : List Lexeme) (x : DefinedColumn) → defined_at l ≡ Some (x, r) → IsDefined x l r
unfolding defined_at
defined_sound l r x e =
    let a = unstep (name_at l) _ x r e in
    let b = unstep (type_at a.left) _ x r a.next in
    let c = unstep (flag_at word.Static b.left) _ x r b.next in
    let d = unstep (key_flag c.left) _ x r c.next in
    phrase_at IsDefined (record { name = a.value; column_type = b.value; is_static = c.value; is_key = d.value }) x l d.left r d.next
    (a.left, name_agrees.sound l a.left a.value a.was, (b.left, type_sound a.left b.left b.value b.was, (c.left, (flag_agrees word.Static).sound b.left c.left c.value c.was, key_flag_sound c.left d.left d.value d.was)))

defined_full : (l r : List Lexeme) (x : DefinedColumn) → IsDefined x l r → ColumnEnds r → defined_at l ≡ Some (x, r)
unfolding defined_at
defined_full l r x (a, ha, (b, hb, (c, hc, hd))) f =
    step (name_at l) _ x.name a _ (name_agrees.full l a x.name ha tt)
    (step (type_at a) _ x.column_type b _ (type_full a b x.column_type hb tt)
    (step (flag_at word.Static b) _ x.is_static c _ ((flag_agrees word.Static).full b c x.is_static hc (not_static x.is_key c r hd f.0))
    (step (key_flag c) _ x.is_key r _ (key_flag_full c r x.is_key hd f.1) refl)))

defined_shrinks : Shrinks IsDefined
defined_shrinks x l r (a, ha, (b, hb, (c, hc, hd))) = omega (arith, name_shrinks x.name l a ha, type_shrinks x.column_type a b hb, flag_shrinks word.Static x.is_static b c hc, key_flag_shrinks x.is_key c r hd)

added_sound : (l r : List Lexeme) (x : AddedColumn) → added_at l ≡ Some (x, r) → IsAdded x l r
unfolding added_at
added_sound l r x e =
    let a = unstep (name_at l) _ x r e in
    let b = unstep (type_at a.left) _ x r a.next in
    let c = unstep (flag_at word.Static b.left) _ x r b.next in
    phrase_at IsAdded (record { name = a.value; column_type = b.value; is_static = c.value }) x l c.left r c.next
    (a.left, name_agrees.sound l a.left a.value a.was, (b.left, type_sound a.left b.left b.value b.was, (flag_agrees word.Static).sound b.left c.left c.value c.was))

added_full : (l r : List Lexeme) (x : AddedColumn) → IsAdded x l r → NotWord word.Static r → added_at l ≡ Some (x, r)
unfolding added_at
added_full l r x (a, ha, (b, hb, hc)) f =
    step (name_at l) _ x.name a _ (name_agrees.full l a x.name ha tt)
    (step (type_at a) _ x.column_type b _ (type_full a b x.column_type hb tt)
    (step (flag_at word.Static b) _ x.is_static r _ ((flag_agrees word.Static).full b r x.is_static hc f) refl))

added_shrinks : Shrinks IsAdded
added_shrinks x l r (a, ha, (b, hb, hc)) = omega (arith, name_shrinks x.name l a ha, type_shrinks x.column_type a b hb, flag_shrinks word.Static x.is_static b r hc)

-- ---- PRIMARY KEY

comma_goes_on : MayGoOn separator.Comma Anything
comma_goes_on l r h = tt

names_list : Agrees (list_at separator.Comma name_at) (Some_of separator.Comma IsName) (AfterList separator.Comma Anything)
names_list = list_agrees separator.Comma name_at IsName Anything name_agrees name_shrinks comma_goes_on

paren_ends : (l r : List Lexeme) → sign mark.CloseParen l r → AfterList separator.Comma Anything l
unfolding place
paren_ends l r h = (tt, not_comma l (other_mark mark.Comma mark.CloseParen l r refl h))

partition_sound : (l r : List Lexeme) (xs : List (List ℕ)) → partition_at l ≡ Some (xs, r) → IsPartition xs l r
unfolding partition_at names_closed
partition_sound l r xs e =
    elim (unchoose (after_mark mark.OpenParen l) _ _ (xs, r) e) [
      | inl h ↦
          let a = unstep (list_at separator.Comma name_at h.0) _ xs r h.2 in
          let b = unstep (mark_at mark.CloseParen a.left) _ xs r a.next in
          phrase_at IsPartition a.value xs l b.left r b.next (inr (h.0, mark_sound mark.OpenParen l h.0 h.1, (a.left, names_list.sound h.0 a.left a.value a.was, mark_at_sound mark.CloseParen a.left b.left b.value b.was)))
      | inr h ↦ let a = unstep (name_at l) _ xs r h.1 in phrase_at IsPartition (a.value ∷ []) xs l a.left r a.next (inl (name_agrees.sound l a.left a.value a.was))
    ]

partition_full : (l r : List Lexeme) (xs : List (List ℕ)) → IsPartition xs l r → partition_at l ≡ Some (xs, r)
unfolding partition_at names_closed
partition_full l r [] (inl h) = absurd h
partition_full l r (n ∷ []) (inl h) = choose_other (after_mark mark.OpenParen l) _ _ _ (no_mark mark.OpenParen n l r h) (step (name_at l) _ n r _ (name_agrees.full l r n h tt) refl)
partition_full l r (m ∷ n ∷ ns) (inl h) = absurd h
partition_full l r xs (inr h) =
    choose (after_mark mark.OpenParen l) _ _ h.0 _ (mark_full mark.OpenParen l h.0 h.1)
    (step (list_at separator.Comma name_at h.0) _ xs h.2.0 _ (names_list.full h.0 h.2.0 xs h.2.1 (paren_ends h.2.0 r h.2.2))
    (step (mark_at mark.CloseParen h.2.0) _ tt r _ (mark_at_full mark.CloseParen h.2.0 r h.2.2) refl))

partition_shrinks : Shrinks IsPartition
partition_shrinks [] l r (inl h) = absurd h
partition_shrinks (n ∷ []) l r (inl h) = name_shrinks n l r h
partition_shrinks (m ∷ n ∷ ns) l r (inl h) = absurd h
partition_shrinks xs l r (inr h) = omega (arith, ap length h.1, list_shrinks separator.Comma IsName name_shrinks xs h.0 h.2.0 h.2.1, ap length h.2.2)

key_sound : (k l r : List Lexeme) (x : PrimaryKey) → keyword word.Primary k l → key_at l ≡ Some (x, r) → IsPrimaryKey x k r
unfolding key_at
key_sound k l r x i e =
    let a = unstep (word_at word.Key l) _ x r e in
    let b = unstep (mark_at mark.OpenParen a.left) _ x r a.next in
    let c = unstep (partition_at b.left) _ x r b.next in
    let d = unstep (from_at separator.Comma name_at [] c.left) _ x r c.next in
    let f = unstep (mark_at mark.CloseParen d.left) _ x r d.next in
    let t = from_sound separator.Comma name_at IsName Anything name_agrees [] c.left d.left d.value d.was in
    let more : More separator.Comma IsName d.value c.left d.left = subst (λ (ys : List (List ℕ)). More separator.Comma IsName ys c.left d.left) (sym t.1) t.2 in
    phrase_at IsPrimaryKey (record { partition = c.value; clustering = d.value }) x k f.left r f.next (
      l,
      i,
      (
        a.left,
        word_at_sound word.Key l a.left a.value a.was,
        (
          b.left,
          mark_at_sound mark.OpenParen a.left b.left b.value b.was,
          (
            c.left,
            partition_sound b.left c.left c.value c.was,
            (d.left, more, mark_at_sound mark.CloseParen d.left f.left f.value f.was),
          ),
        ),
      ),
    )

key_full : (k r : List Lexeme) (x : PrimaryKey) (h : IsPrimaryKey x k r) → key_at h.0 ≡ Some (x, r)
unfolding key_at
key_full k r x (l, i, (a, ha, (b, hb, (c, hc, (d, hd, hf))))) =
    step (word_at word.Key l) _ tt a _ (word_at_full word.Key l a ha)
    (step (mark_at mark.OpenParen a) _ tt b _ (mark_at_full mark.OpenParen a b hb)
    (step (partition_at b) _ x.partition c _ (partition_full b c x.partition hc)
    (step (from_at separator.Comma name_at [] c) _ x.clustering d _ (from_full separator.Comma name_at IsName Anything name_agrees name_shrinks comma_goes_on [] c d x.clustering hd (paren_ends d r hf))
    (step (mark_at mark.CloseParen d) _ tt r _ (mark_at_full mark.CloseParen d r hf) refl))))

key_shrinks : Shrinks IsPrimaryKey
key_shrinks x k r (l, i, (a, ha, (b, hb, (c, hc, (d, hd, hf))))) =
    omega (arith, ap length i, ap length ha, ap length hb, partition_shrinks x.partition b c hc, more_shrinks separator.Comma IsName name_shrinks x.clustering c d hd, ap length hf)

item_sound : (l r : List Lexeme) (x : Item) → item_at l ≡ Some (x, r) → IsItem x l r
unfolding item_at
item_sound l r x e =
    elim (unchoose (after_word word.Primary l) _ _ (x, r) e) [
      | inl h ↦ let u = unstep (key_at h.0) _ x r h.2 in phrase_at IsItem (item.PrimaryKey u.value) x l u.left r u.next (key_sound l h.0 u.left u.value (word_sound word.Primary l h.0 h.1) u.was)
      | inr h ↦ let u = unstep (defined_at l) _ x r h.1 in phrase_at IsItem (item.Column u.value) x l u.left r u.next (defined_sound l u.left u.value u.was)
    ]

item_full : (l r : List Lexeme) (x : Item) → IsItem x l r → ColumnEnds r → item_at l ≡ Some (x, r)
unfolding item_at is_reserved spelling
item_full l r (item.PrimaryKey k) h f = choose (after_word word.Primary l) _ _ h.0 _ (word_full word.Primary l h.0 h.1) (step (key_at h.0) _ k r _ (key_full l r k h) refl)
item_full l r (item.Column c) h f = choose_other (after_word word.Primary l) _ _ _ (no_word word.Primary c.name l h.0 refl h.1) (step (defined_at l) _ c r _ (defined_full l r c h f) refl)

item_shrinks : Shrinks IsItem
item_shrinks (item.PrimaryKey k) l r h = key_shrinks k l r h
item_shrinks (item.Column c) l r h = defined_shrinks c l r h

column_goes_on : MayGoOn separator.Comma ColumnEnds
unfolding after_word
column_goes_on l r h = (ap (after_word word.Static) h, ap (after_word word.Primary) h)

column_closes : MayClose ColumnEnds
unfolding after_word
column_closes l r h = (ap (after_word word.Static) h, ap (after_word word.Primary) h)

items_agree : Agrees (in_parens item_at) (InParens IsItem) Anything
items_agree = parens_agrees item_at IsItem ColumnEnds (record { sound = item_sound; full = item_full }) item_shrinks column_goes_on column_closes

-- ---- options

suboption_sound : (l r : List Lexeme) (x : Suboption) → suboption_at l ≡ Some (x, r) → IsSuboption x l r
unfolding suboption_at
suboption_sound l r x e =
    let a = unstep (setting_at l) _ x r e in
    let b = unstep (mark_at mark.Colon a.left) _ x r a.next in
    let c = unstep (setting_at b.left) _ x r b.next in
    phrase_at IsSuboption (record { key = a.value; value = c.value }) x l c.left r c.next (a.left, setting_agrees.sound l a.left a.value a.was, (b.left, mark_at_sound mark.Colon a.left b.left b.value b.was, setting_agrees.sound b.left c.left c.value c.was))

suboption_full : (l r : List Lexeme) (x : Suboption) → IsSuboption x l r → Anything r → suboption_at l ≡ Some (x, r)
unfolding suboption_at
suboption_full l r x (a, ha, (b, hb, hc)) f =
    step (setting_at l) _ x.key a _ (setting_agrees.full l a x.key ha tt)
    (step (mark_at mark.Colon a) _ tt b _ (mark_at_full mark.Colon a b hb) (step (setting_at b) _ x.value r _ (setting_agrees.full b r x.value hc tt) refl))

suboption_shrinks : Shrinks IsSuboption
suboption_shrinks x l r (a, ha, (b, hb, hc)) = omega (arith, setting_shrinks x.key l a ha, ap length hb, setting_shrinks x.value b r hc)

suboptions_list : Agrees (list_at separator.Comma suboption_at) (Some_of separator.Comma IsSuboption) (AfterList separator.Comma Anything)
suboptions_list = list_agrees separator.Comma suboption_at IsSuboption Anything (record { sound = suboption_sound; full = suboption_full }) suboption_shrinks comma_goes_on

brace_ends : (l r : List Lexeme) → close_brace l r → AfterList separator.Comma Anything l
unfolding after_separator after_mark
brace_ends l r h = (tt, ap (after_separator separator.Comma) h.1)

constant_value_sound : (l r : List Lexeme) (x : OptionValue) → constant_value l ≡ Some (x, r) → IsOptionValue x l r
constant_value_sound l r x e = let u = unstep (constant_at l) _ x r e in phrase_at IsOptionValue (option_value.Constant u.value) x l u.left r u.next (constant_agrees.sound l u.left u.value u.was)

option_value_sound : (l r : List Lexeme) (x : OptionValue) → option_value_at l ≡ Some (x, r) → IsOptionValue x l r
unfolding option_value_at suboptions_closed
option_value_sound [] r x e = absurd cc
option_value_sound (lexeme.Ratio n ∷ l) r x e = phrase_at IsOptionValue (option_value.Ratio n) x (lexeme.Ratio n ∷ l) l r e refl
option_value_sound (lexeme.OpenBrace at ∷ l) r x e =
    let a = unstep (list_at separator.Comma suboption_at l) _ x r e in
    let b = unstep (close_brace_at a.left) _ x r a.next in
    phrase_at IsOptionValue (option_value.Suboptions a.value) x (lexeme.OpenBrace at ∷ l) b.left r b.next (l, (at, refl), (a.left, suboptions_list.sound l a.left a.value a.was, close_brace_at_sound a.left b.left b.value b.was))
option_value_sound (lexeme.Word text ∷ l) r x e = constant_value_sound (lexeme.Word text ∷ l) r x e
option_value_sound (lexeme.Quoted text ∷ l) r x e = constant_value_sound (lexeme.Quoted text ∷ l) r x e
option_value_sound (lexeme.Text text ∷ l) r x e = constant_value_sound (lexeme.Text text ∷ l) r x e
option_value_sound (lexeme.Number n ∷ l) r x e = constant_value_sound (lexeme.Number n ∷ l) r x e
option_value_sound (lexeme.Blob b ∷ l) r x e = constant_value_sound (lexeme.Blob b ∷ l) r x e
option_value_sound (lexeme.Uuid u ∷ l) r x e = constant_value_sound (lexeme.Uuid u ∷ l) r x e
option_value_sound (lexeme.Mark m ∷ l) r x e = constant_value_sound (lexeme.Mark m ∷ l) r x e
option_value_sound (lexeme.OpenBracket at ∷ l) r x e = constant_value_sound (lexeme.OpenBracket at ∷ l) r x e
option_value_sound (lexeme.CloseBracket at ∷ l) r x e = constant_value_sound (lexeme.CloseBracket at ∷ l) r x e
option_value_sound (lexeme.CloseBrace at ∷ l) r x e = constant_value_sound (lexeme.CloseBrace at ∷ l) r x e

option_value_full : (l r : List Lexeme) (x : OptionValue) → IsOptionValue x l r → option_value_at l ≡ Some (x, r)
unfolding option_value_at suboptions_closed constant_at truth_of spelling
option_value_full l r (option_value.Ratio n) h = ap option_value_at h
option_value_full l r (option_value.Constant (constant.Text t)) h = ap option_value_at h
option_value_full l r (option_value.Constant (constant.Number n)) h = ap option_value_at h
option_value_full l r (option_value.Constant (constant.Blob b)) h = ap option_value_at h
option_value_full l r (option_value.Constant (constant.Uuid u)) h = ap option_value_at h
option_value_full l r (option_value.Constant (constant.Boolean true)) h = ap option_value_at h
option_value_full l r (option_value.Constant (constant.Boolean false)) h = ap option_value_at h
option_value_full l r (option_value.Suboptions xs) (a, ha, (b, hb, hc)) =
    ap option_value_at ha.1 ∙ step (list_at separator.Comma suboption_at a) _ xs b _ (suboptions_list.full a b xs hb (brace_ends b r hc)) (step (close_brace_at b) _ tt r _ (close_brace_at_full b r hc) refl)

option_value_shrinks : Shrinks IsOptionValue
option_value_shrinks (option_value.Ratio n) l r h = omega (arith, ap length h)
option_value_shrinks (option_value.Constant c) l r h = constant_shrinks c l r h
option_value_shrinks (option_value.Suboptions xs) l r h = omega (arith, ap length h.1.1, list_shrinks separator.Comma IsSuboption suboption_shrinks xs h.0 h.2.0 h.2.1, ap length h.2.2.1)

two_first : (j k : Keyword) (o : Option (List Lexeme)) (l r : List Lexeme) → after_word j l ≡ o → elim o [ None ↦ None | Some m ↦ after_word k m ] ≡ Some r → (m : List Lexeme) × keyword j l m × keyword k m r
two_first j k None l r p e = absurd cc
two_first j k (Some m) l r p e = (m, word_sound j l m p, word_sound k m r e)

words_sound : (j k : Keyword) (l r : List Lexeme) → after_words j k l ≡ Some r → (m : List Lexeme) × keyword j l m × keyword k m r
unfolding after_words
words_sound j k l r e = two_first j k (after_word j l) l r refl e

words_full : (j k : Keyword) (l m r : List Lexeme) → keyword j l m → keyword k m r → after_words j k l ≡ Some r
unfolding after_words
words_full j k l m r h p = ap (λ (o : Option (List Lexeme)). elim o [ None ↦ None | Some m ↦ after_word k m ]) (word_full j l m h) ∙ word_full k m r p

abbrev then_word : Keyword → Option (List Lexeme) → Option (List Lexeme)
then_word k o = elim o [ None ↦ None | Some m ↦ after_word k m ]

by_text : (k : Keyword) (b : Bool) (m r : List Lexeme) → sign mark.Equals m r → then_word k (cond b (Some m) None) ≡ None
unfolding after_word
by_text k true m r h = ap (after_word k) h
by_text k false m r h = refl

-- a name with an equals sign behind it isn't CLUSTERING ORDER
name_no_words : (j k : Keyword) (n : List ℕ) (l m r : List Lexeme) → IsName n l m → sign mark.Equals m r → after_words j k l ≡ None
unfolding after_words after_word
name_no_words j k n l m r (inl h) e = ap (after_words j k) h.0 ∙ by_text k (bytes_eq n (spelling j)) m r e
name_no_words j k n l m r (inr h) e = ap (after_words j k) h

order_closes : MayClose NoDirection
unfolding after_word
order_closes l r h = (ap (after_word word.Desc) h, ap (after_word word.Asc) h)

column_orders : Agrees (in_parens column_order_at) (InParens IsColumnOrder) Anything
column_orders = parens_agrees column_order_at IsColumnOrder NoDirection order_agrees order_shrinks order_goes_on order_closes

option_sound : (l r : List Lexeme) (x : TableOption) → option_at l ≡ Some (x, r) → IsOption x l r
unfolding option_at clustering_order_at named_option_at
option_sound l r x e =
    elim (unchoose (after_words word.Clustering word.Order l) _ _ (x, r) e) [
      | inl h ↦
          let w = words_sound word.Clustering word.Order l h.0 h.1 in
          let a = unstep (word_at word.By h.0) _ x r h.2 in
          let b = unstep (in_parens column_order_at a.left) _ x r a.next in
          phrase_at IsOption (table_option.ClusteringOrder b.value) x l b.left r b.next
          (w.0, w.1, (h.0, w.2, (a.left, word_at_sound word.By h.0 a.left a.value a.was, column_orders.sound a.left b.left b.value b.was)))
      | inr h ↦
          let a = unstep (name_at l) _ x r h.1 in
          let b = unstep (mark_at mark.Equals a.left) _ x r a.next in
          let c = unstep (option_value_at b.left) _ x r b.next in
          phrase_at IsOption (table_option.Named (record { name = a.value; value = c.value })) x l c.left r c.next
          (a.left, name_agrees.sound l a.left a.value a.was, (b.left, mark_at_sound mark.Equals a.left b.left b.value b.was, option_value_sound b.left c.left c.value c.was))
    ]

option_full : (l r : List Lexeme) (x : TableOption) → IsOption x l r → Anything r → option_at l ≡ Some (x, r)
unfolding option_at clustering_order_at named_option_at
option_full l r (table_option.Named o) (a, ha, (b, hb, hc)) f =
    choose_other (after_words word.Clustering word.Order l) _ _ _ (name_no_words word.Clustering word.Order o.name l a b ha hb)
    (step (name_at l) _ o.name a _ (name_agrees.full l a o.name ha tt)
    (step (mark_at mark.Equals a) _ tt b _ (mark_at_full mark.Equals a b hb) (step (option_value_at b) _ o.value r _ (option_value_full b r o.value hc) refl)))
option_full l r (table_option.ClusteringOrder xs) (a, ha, (b, hb, (c, hc, hd))) f =
    choose (after_words word.Clustering word.Order l) _ _ b _ (words_full word.Clustering word.Order l a b ha hb)
    (step (word_at word.By b) _ tt c _ (word_at_full word.By b c hc) (step (in_parens column_order_at c) _ xs r _ (column_orders.full c r xs hd tt) refl))

option_shrinks : Shrinks IsOption
option_shrinks (table_option.Named o) l r (a, ha, (b, hb, hc)) = omega (arith, name_shrinks o.name l a ha, ap length hb, option_value_shrinks o.value b r hc)
option_shrinks (table_option.ClusteringOrder xs) l r (a, ha, (b, hb, (c, hc, (d, hd, (f, hf, hg))))) =
    omega (arith, ap length ha, ap length hb, ap length hc, ap length hd, list_shrinks separator.Comma IsColumnOrder order_shrinks xs d f hf, ap length hg)

and_goes_on : MayGoOn separator.And Anything
and_goes_on l r h = tt

options_agree : Agrees (list_behind word.With separator.And option_at) (Behind (keyword word.With) separator.And IsOption) (AfterClause word.With separator.And Anything)
options_agree = behind_agrees word.With separator.And option_at IsOption Anything (record { sound = option_sound; full = option_full }) option_shrinks and_goes_on

-- ---- the whole

pub create_sound : (k l r : List Lexeme) (x : CreateTable) → keyword word.Create k l → create_at l ≡ Some (x, r) → IsCreate x k r
unfolding create_at
create_sound k l r x i e =
    let a = unstep (word_at word.Table l) _ x r e in
    let b = unstep (table_at a.left) _ x r a.next in
    let c = unstep (in_parens item_at b.left) _ x r b.next in
    let d = unstep (list_behind word.With separator.And option_at c.left) _ x r c.next in
    phrase_at IsCreate (record { table = b.value; items = c.value; options = d.value }) x k d.left r d.next
    (l, i, (a.left, word_at_sound word.Table l a.left a.value a.was, (b.left, table_agrees.sound a.left b.left b.value b.was, (c.left, items_agree.sound b.left c.left c.value c.was, options_agree.sound c.left d.left d.value d.was))))

pub create_full : (k r : List Lexeme) (x : CreateTable) (h : IsCreate x k r) → End r → create_at h.0 ≡ Some (x, r)
unfolding create_at spelling place
create_full k r x (l, i, (a, ha, (b, hb, (c, hc, hd)))) s =
    step (word_at word.Table l) _ tt a _ (word_at_full word.Table l a ha)
    (step (table_at a) _ x.table b _ (table_agrees.full a b x.table hb (other_mark mark.Dot mark.OpenParen b hc.0 refl hc.1))
    (step (in_parens item_at b) _ x.items c _ (items_agree.full b c x.items hc tt)
    (step (list_behind word.With separator.And option_at c) _ x.options r _ (options_agree.full c r x.options hd ((tt, not_and [] r s (starts_word word.And [] r refl s)), starts_word word.With [] r refl s)) refl)))

static_goes_on : MayGoOn separator.Comma (NotWord word.Static)
unfolding after_word
static_goes_on l r h = ap (after_word word.Static) h

added_list : Agrees (list_at separator.Comma added_at) (Some_of separator.Comma IsAdded) (AfterList separator.Comma (NotWord word.Static))
added_list = list_agrees separator.Comma added_at IsAdded (NotWord word.Static) (record { sound = added_sound; full = added_full }) added_shrinks static_goes_on

pub alter_sound : (k l r : List Lexeme) (x : AlterTable) → keyword word.Alter k l → alter_at l ≡ Some (x, r) → IsAlter x k r
unfolding alter_at
alter_sound k l r x i e =
    let a = unstep (word_at word.Table l) _ x r e in
    let b = unstep (table_at a.left) _ x r a.next in
    let c = unstep (word_at word.Add b.left) _ x r b.next in
    let d = unstep (list_at separator.Comma added_at c.left) _ x r c.next in
    phrase_at IsAlter (record { table = b.value; added = d.value }) x k d.left r d.next
    (l, i, (a.left, word_at_sound word.Table l a.left a.value a.was, (b.left, table_agrees.sound a.left b.left b.value b.was, (c.left, word_at_sound word.Add b.left c.left c.value c.was, added_list.sound c.left d.left d.value d.was))))

pub alter_full : (k r : List Lexeme) (x : AlterTable) (h : IsAlter x k r) → End r → alter_at h.0 ≡ Some (x, r)
unfolding alter_at spelling place
alter_full k r x (l, i, (a, ha, (b, hb, (c, hc, hd)))) s =
    step (word_at word.Table l) _ tt a _ (word_at_full word.Table l a ha)
    (step (table_at a) _ x.table b _ (table_agrees.full a b x.table hb (word_no_mark mark.Dot word.Add b c hc))
    (step (word_at word.Add b) _ tt c _ (word_at_full word.Add b c hc)
    (step (list_at separator.Comma added_at c) _ x.added r _ (added_list.full c r x.added hd (starts_word word.Static [] r refl s, not_comma r (starts_mark mark.Comma [] r refl s))) refl)))
