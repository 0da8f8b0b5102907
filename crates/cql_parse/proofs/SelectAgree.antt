-- SELECT agrees with the grammar.
use Rattle.std.proofs.Common.{◌≡◌, ℕ, Bool, true, false, cond, List, [], ◌∷◌, length, Option, None, Some, refl, sym, subst, ap, ◌∙◌, inl, inr, arith}
use Rattle.std.specs.Str.{bytes_eq}
use Rattle.cql_phrases.specs.declared.lexeme.Lexeme.{Lexeme}
use Rattle.cql_phrases.specs.declared.keyword.Keyword.{Keyword}
use Rattle.cql_phrases.specs.declared.keyword.Keyword.TheVariants as word
use Rattle.cql_lex.specs.declared.token.Mark.TheVariants as mark
use Rattle.cql_phrases.specs.declared.lists.Separator.TheVariants as separator
use Rattle.cql_tables.specs.declared.syntax.ColumnOrder.{ColumnOrder}
use Rattle.cql_parse.specs.declared.syntax.Select.{Select}
use Rattle.cql_parse.specs.declared.syntax.Picks.{Picks}
use Rattle.cql_parse.specs.declared.syntax.Picks.TheVariants as picks
use Rattle.cql_parse.specs.declared.syntax.Pick.{Pick}
use Rattle.cql_parse.specs.declared.syntax.Pick.TheVariants as pick
use Rattle.cql_phrases.specs.Symbols.{spelling}
use Rattle.cql_phrases.specs.Inner.Reading.{done, after_word, after_mark, word_at, mark_at, name_at, list_at, list_behind, number_behind, blob_behind, place}
use Rattle.cql_phrases.proofs.Agree.{Agrees, Shrinks, unstep, step, unchoose, choose, choose_other, phrase_at}
use Rattle.cql_phrases.proofs.Tokens.{word_sound, word_full, other_word, mark_sound, mark_full, other_mark, word_at_sound, word_at_full, mark_at_sound, mark_at_full, name_agrees, name_shrinks, no_mark, word_no_mark}
use Rattle.cql_phrases.proofs.ClauseAgree.{MayGoOn, AfterList, NotWord, Starts, list_agrees, number_behind_agrees, blob_behind_agrees, starts_word, starts_mark, starts_behind, starts_maybe}
use Rattle.cql_parse.specs.Inner.StatementReading.{after_call, called, pick_at, picks_at, order_at, select_at}
use Rattle.cql_changes.specs.Inner.ChangeReading.{relation_at}
use Rattle.cql_phrases.specs.Phrases.{Phrase, keyword, sign, Some_of, Behind, IsName, IsNumber, IsBlob}
use Rattle.cql_parse.specs.Grammar.{Called, IsPick, IsPicks, IsSelect}
use Rattle.cql_changes.specs.Changes.{IsRelation}
use Rattle.cql_changes.proofs.ChangeAgree.{where_agrees}
use Rattle.cql_tables.specs.Inner.TableReading.{table_at, column_order_at}
use Rattle.cql_tables.specs.Tables.{IsColumnOrder}
use Rattle.cql_tables.proofs.TableAgree.{NotMark, End, table_agrees, not_and, not_comma, NoDirection, order_agrees, order_shrinks, order_goes_on}

-- ---- ORDER BY

orders_agree : Agrees (list_at separator.Comma column_order_at) (Some_of separator.Comma IsColumnOrder) (AfterList separator.Comma NoDirection)
orders_agree = list_agrees separator.Comma column_order_at IsColumnOrder NoDirection order_agrees order_shrinks order_goes_on

abbrev OrderBy : Phrase
OrderBy l r = (m : List Lexeme) × keyword word.Order l m × keyword word.By m r

clause_sound : (l r : List Lexeme) (xs : List ColumnOrder) → order_at l ≡ Some (xs, r) → Behind OrderBy separator.Comma IsColumnOrder xs l r
unfolding order_at
clause_sound l r xs e =
    elim (unchoose (after_word word.Order l) _ _ (xs, r) e) [
      | inl h ↦
          let u = unstep (word_at word.By h.0) _ xs r h.2 in
          not_empty xs u.left (h.0, word_sound word.Order l h.0 h.1, word_at_sound word.By h.0 u.left u.value u.was) (orders_agree.sound u.left r xs u.next)
      | inr h ↦ phrase_at (Behind OrderBy separator.Comma IsColumnOrder) [] xs l l r h.1 refl
    ] where
      not_empty : (ys : List ColumnOrder) (m : List Lexeme) → OrderBy l m → Some_of separator.Comma IsColumnOrder ys m r → Behind OrderBy separator.Comma IsColumnOrder ys l r
      not_empty [] m o h = absurd h
      not_empty (y ∷ ys) m o h = (m, o, h)

clause_full : (l r : List Lexeme) (xs : List ColumnOrder) → Behind OrderBy separator.Comma IsColumnOrder xs l r → AfterList separator.Comma NoDirection r → NotWord word.Order r → order_at l ≡ Some (xs, r)
unfolding order_at
clause_full l r [] h f g = choose_other (after_word word.Order l) _ _ _ (ap (after_word word.Order) h ∙ g) (ap (λ (t : List Lexeme). done {A = List ColumnOrder} [] t) h)
clause_full l r (x ∷ xs) (m, (a, ha, hb), h) f g =
    choose (after_word word.Order l) _ _ a _ (word_full word.Order l a ha) (step (word_at word.By a) _ tt m _ (word_at_full word.By a m hb) (orders_agree.full m r (x ∷ xs) h f))

clause_starts : (xs : List ColumnOrder) (js : List Keyword) (l r : List Lexeme) → Behind OrderBy separator.Comma IsColumnOrder xs l r → Starts js r → Starts (word.Order ∷ js) l
clause_starts [] js l r h s = inr (subst (Starts js) (sym h) s)
clause_starts (x ∷ xs) js l r h s = inl (h.1.0, h.1.1)

-- ---- what is shown

after_first : (k : Keyword) (o : Option (List Lexeme)) (l r : List Lexeme) → after_word k l ≡ o → elim o [ None ↦ None | Some m ↦ after_mark mark.OpenParen m ] ≡ Some r → (m : List Lexeme) × keyword k l m × sign mark.OpenParen m r
after_first k None l r p e = absurd cc
after_first k (Some m) l r p e = (m, word_sound k l m p, mark_sound mark.OpenParen m r e)

call_sound : (k : Keyword) (l r : List Lexeme) → after_call k l ≡ Some r → (m : List Lexeme) × keyword k l m × sign mark.OpenParen m r
unfolding after_call
call_sound k l r e = after_first k (after_word k l) l r refl e

call_full : (k : Keyword) (l m r : List Lexeme) → keyword k l m → sign mark.OpenParen m r → after_call k l ≡ Some r
unfolding after_call
call_full k l m r h p = ap (λ (o : Option (List Lexeme)). elim o [ None ↦ None | Some m ↦ after_mark mark.OpenParen m ]) (word_full k l m h) ∙ mark_full mark.OpenParen m r p

-- another word calls nothing, and a name without a parenthesis behind it
other_call : (k : Keyword) (l : List Lexeme) → after_word k l ≡ None → after_call k l ≡ None
unfolding after_call
other_call k l h = ap (λ (o : Option (List Lexeme)). elim o [ None ↦ None | Some m ↦ after_mark mark.OpenParen m ]) h

abbrev opens_paren : Option (List Lexeme) → Option (List Lexeme)
opens_paren o = elim o [ None ↦ None | Some m ↦ after_mark mark.OpenParen m ]

by_text : (b : Bool) (r : List Lexeme) → NotMark mark.OpenParen r → opens_paren (cond b (Some r) None) ≡ None
by_text true r f = f
by_text false r f = refl

name_calls_nothing : (k : Keyword) (n : List ℕ) (l r : List Lexeme) → IsName n l r → NotMark mark.OpenParen r → after_call k l ≡ None
unfolding after_call after_word
name_calls_nothing k n l r (inl h) f = ap (after_call k) h.0 ∙ by_text (bytes_eq n (spelling k)) r f
name_calls_nothing k n l r (inr h) f = ap (after_call k) h

called_sound : (k : Keyword) (l m r : List Lexeme) (n : List ℕ) → (j : List Lexeme) × keyword k l j × sign mark.OpenParen j m → called m ≡ Some (n, r) → Called k n l r
unfolding called
called_sound k l m r n c e =
    let u = unstep (name_at m) _ n r e in
    let v = unstep (mark_at mark.CloseParen u.left) _ n r u.next in
    phrase_at (Called k) u.value n l v.left r v.next (c.0, c.1, (m, c.2, (u.left, name_agrees.sound m u.left u.value u.was, mark_at_sound mark.CloseParen u.left v.left v.value v.was)))

called_full : (m n r : List Lexeme) (x : List ℕ) → IsName x m n → sign mark.CloseParen n r → called m ≡ Some (x, r)
unfolding called
called_full m n r x h c = step (name_at m) _ x n _ (name_agrees.full m n x h tt) (step (mark_at mark.CloseParen n) _ tt r _ (mark_at_full mark.CloseParen n r c) refl)

pick_sound : (l r : List Lexeme) (x : Pick) → pick_at l ≡ Some (x, r) → IsPick x l r
unfolding pick_at
pick_sound l r x e =
    elim (unchoose (after_call word.WriteTime l) _ _ (x, r) e) [
      | inl h ↦ let u = unstep (called h.0) _ x r h.2 in phrase_at IsPick (pick.WriteTime u.value) x l u.left r u.next (called_sound word.WriteTime l h.0 u.left u.value (call_sound word.WriteTime l h.0 h.1) u.was)
      | inr h ↦
          elim (unchoose (after_call word.Ttl l) _ _ (x, r) h.1) [
            | inl k ↦ let u = unstep (called k.0) _ x r k.2 in phrase_at IsPick (pick.Ttl u.value) x l u.left r u.next (called_sound word.Ttl l k.0 u.left u.value (call_sound word.Ttl l k.0 k.1) u.was)
            | inr k ↦ let u = unstep (name_at l) _ x r k.1 in phrase_at IsPick (pick.Value u.value) x l u.left r u.next (name_agrees.sound l u.left u.value u.was)
          ]
    ]

pick_full : (l r : List Lexeme) (x : Pick) → IsPick x l r → NotMark mark.OpenParen r → pick_at l ≡ Some (x, r)
unfolding pick_at spelling
pick_full l r (pick.Value n) h f =
    choose_other (after_call word.WriteTime l) _ _ _ (name_calls_nothing word.WriteTime n l r h f)
    (choose_other (after_call word.Ttl l) _ _ _ (name_calls_nothing word.Ttl n l r h f) (step (name_at l) _ n r _ (name_agrees.full l r n h tt) refl))
pick_full l r (pick.WriteTime n) (a, ha, (b, hb, (c, hc, hd))) f =
    choose (after_call word.WriteTime l) _ _ b _ (call_full word.WriteTime l a b ha hb) (step (called b) _ n r _ (called_full b c r n hc hd) refl)
pick_full l r (pick.Ttl n) (a, ha, (b, hb, (c, hc, hd))) f =
    choose_other (after_call word.WriteTime l) _ _ _ (other_call word.WriteTime l (other_word word.WriteTime word.Ttl l a refl ha))
    (choose (after_call word.Ttl l) _ _ b _ (call_full word.Ttl l a b ha hb) (step (called b) _ n r _ (called_full b c r n hc hd) refl))

called_shrinks : (k : Keyword) → Shrinks (Called k)
called_shrinks k n l r h = omega (arith, ap length h.1, ap length h.2.1, name_shrinks n h.2.0 h.2.2.0 h.2.2.1, ap length h.2.2.2)

pick_shrinks : Shrinks IsPick
pick_shrinks (pick.Value n) l r h = name_shrinks n l r h
pick_shrinks (pick.WriteTime n) l r h = called_shrinks word.WriteTime n l r h
pick_shrinks (pick.Ttl n) l r h = called_shrinks word.Ttl n l r h

pick_goes_on : MayGoOn separator.Comma (NotMark mark.OpenParen)
unfolding place
pick_goes_on l r h = other_mark mark.OpenParen mark.Comma l r refl h

picks_list : Agrees (list_at separator.Comma pick_at) (Some_of separator.Comma IsPick) (AfterList separator.Comma (NotMark mark.OpenParen))
picks_list = list_agrees separator.Comma pick_at IsPick (NotMark mark.OpenParen) (record { sound = pick_sound; full = pick_full }) pick_shrinks pick_goes_on

picks_sound : (l r : List Lexeme) (x : Picks) → picks_at l ≡ Some (x, r) → IsPicks x l r
unfolding picks_at
picks_sound l r x e =
    elim (unchoose (after_mark mark.Star l) _ _ (x, r) e) [
      | inl h ↦ phrase_at IsPicks picks.All x l h.0 r h.2 (mark_sound mark.Star l h.0 h.1)
      | inr h ↦ let u = unstep (list_at separator.Comma pick_at l) _ x r h.1 in phrase_at IsPicks (picks.These u.value) x l u.left r u.next (picks_list.sound l u.left u.value u.was)
    ]

pick_is_no_star : (x : Pick) (l r : List Lexeme) → IsPick x l r → after_mark mark.Star l ≡ None
pick_is_no_star (pick.Value n) l r h = no_mark mark.Star n l r h
pick_is_no_star (pick.WriteTime n) l r h = word_no_mark mark.Star word.WriteTime l h.0 h.1
pick_is_no_star (pick.Ttl n) l r h = word_no_mark mark.Star word.Ttl l h.0 h.1

picks_full : (l r m : List Lexeme) (x : Picks) → IsPicks x l r → keyword word.From r m → picks_at l ≡ Some (x, r)
unfolding picks_at
picks_full l r m picks.All h f = choose (after_mark mark.Star l) _ _ r _ (mark_full mark.Star l r h) refl
picks_full l r m (picks.These []) h f = absurd h
picks_full l r m (picks.These (x ∷ xs)) h f =
    choose_other (after_mark mark.Star l) _ _ _ (pick_is_no_star x l h.0 h.1)
    (step (list_at separator.Comma pick_at l) _ (x ∷ xs) r _ (picks_list.full l r (x ∷ xs) h (word_no_mark mark.OpenParen word.From r m f, not_comma r (word_no_mark mark.Comma word.From r m f))) refl)

-- ---- the whole

pub select_sound : (k l r : List Lexeme) (x : Select) → keyword word.Select k l → select_at l ≡ Some (x, r) → IsSelect x k r
unfolding select_at
select_sound k l r x i e =
    let a = unstep (picks_at l) _ x r e in
    let b = unstep (word_at word.From a.left) _ x r a.next in
    let c = unstep (table_at b.left) _ x r b.next in
    let d = unstep (list_behind word.Where separator.And relation_at c.left) _ x r c.next in
    let f = unstep (order_at d.left) _ x r d.next in
    let g = unstep (blob_behind word.After f.left) _ x r f.next in
    let h = unstep (number_behind word.Page g.left) _ x r g.next in
    let j = unstep (number_behind word.Limit h.left) _ x r h.next in
    phrase_at IsSelect (record { picks = a.value; table = c.value; relations = d.value; order = f.value; after = g.value; page = h.value; limit = j.value }) x k j.left r j.next (
      l,
      i,
      (
        a.left,
        picks_sound l a.left a.value a.was,
        (
          b.left,
          word_at_sound word.From a.left b.left b.value b.was,
          (
            c.left,
            table_agrees.sound b.left c.left c.value c.was,
            (
              d.left,
              where_agrees.sound c.left d.left d.value d.was,
              (
                f.left,
                clause_sound d.left f.left f.value f.was,
                (
                  g.left,
                  (blob_behind_agrees word.After).sound f.left g.left g.value g.was,
                  (h.left, (number_behind_agrees word.Page).sound g.left h.left h.value h.was, (number_behind_agrees word.Limit).sound h.left j.left j.value j.was),
                ),
              ),
            ),
          ),
        ),
      ),
    )

-- the clauses that may still come
abbrev from_limit : List Keyword
from_limit = word.Limit ∷ []

abbrev from_page : List Keyword
from_page = word.Page ∷ from_limit

abbrev from_after : List Keyword
from_after = word.After ∷ from_page

abbrev from_order : List Keyword
from_order = word.Order ∷ from_after

abbrev from_where : List Keyword
from_where = word.Where ∷ from_order

pub select_full : (k r : List Lexeme) (x : Select) (h : IsSelect x k r) → End r → select_at h.0 ≡ Some (x, r)
unfolding select_at spelling place
select_full k r x (l, i, (a, ha, (b, hb, (c, hc, (d, hd, (f, hf, (g, hg, (h, hh, hj)))))))) s =
    let s4 : Starts from_limit h = starts_maybe word.Limit IsNumber [] x.limit h r hj s in
    let s3 : Starts from_page g = starts_maybe word.Page IsNumber from_limit x.page g h hh s4 in
    let s2 : Starts from_after f = starts_maybe word.After IsBlob from_page x.after f g hg s3 in
    let s1 : Starts from_order d = clause_starts x.order from_after d f hf s2 in
    let s0 : Starts from_where c = starts_behind word.Where separator.And IsRelation from_order x.relations c d hd s1 in
    step (picks_at l) _ x.picks a _ (picks_full l a b x.picks ha hb)
    (step (word_at word.From a) _ tt b _ (word_at_full word.From a b hb)
    (step (table_at b) _ x.table c _ (table_agrees.full b c x.table hc (starts_mark mark.Dot from_where c refl s0))
    (step (list_behind word.Where separator.And relation_at c) _ x.relations d _ (where_agrees.full c d x.relations hd ((tt, not_and from_order d s1 (starts_word word.And from_order d refl s1)), starts_word word.Where from_order d refl s1))
    (step (order_at d) _ x.order f _ (clause_full d f x.order hf ((starts_word word.Desc from_after f refl s2, starts_word word.Asc from_after f refl s2), not_comma f (starts_mark mark.Comma from_after f refl s2)) (starts_word word.Order from_after f refl s2))
    (step (blob_behind word.After f) _ x.after g _ ((blob_behind_agrees word.After).full f g x.after hg (starts_word word.After from_page g refl s3))
    (step (number_behind word.Page g) _ x.page h _ ((number_behind_agrees word.Page).full g h x.page hh (starts_word word.Page from_limit h refl s4))
    (step (number_behind word.Limit h) _ x.limit r _ ((number_behind_agrees word.Limit).full h r x.limit hj (starts_word word.Limit [] r refl s)) refl)))))))
