-- Rows and marks one after another, and what is left of them.
use Rattle.std.proofs.Common.{◌≡◌, ℕ, ◌+◌, ◌<◌, Bool, true, false, not, Option, None, Some, List, [], ◌∷◌, map, drop, length, refl, sym, ap, ◌∙◌, subst, arith}
use Rattle.std.proofs.lemmas.Bool.{true≢false}
use Rattle.std.proofs.lemmas.Option.{none-some}
use Rattle.std.specs.List.{cons_option}
use Rattle.std.specs.FinMap.Entries.{by_order}
use Rattle.std.specs.Ordering.{is_gt, is_lt, ordering_then}
use Rattle.std.specs.declared.cmp.Ordering.{Ordering}
use Rattle.std.specs.declared.cmp.Ordering.TheVariants.{Less, Equal, Greater}
use Rattle.cas_cell.specs.declared.deletion.Deletion.{Deletion}
use Rattle.cas_bounds.specs.Orders.{first_cmp}
use Rattle.cas_bounds.specs.Points.{ends_cmp, side}
use Rattle.cas_bounds.specs.declared.order.Ordered.{Ordered}
use Rattle.cas_bounds.specs.declared.map_key.End.TheVariants.{Row}
use Rattle.cas_bounds.specs.declared.map_key.MapKey.{MapKey}
use Rattle.cas_streams.specs.Weaving.{woven}
use Rattle.cas_streams.specs.Joined.{by_place, joined_fragment, fragment_cmp, raised, opened}
use Rattle.cas_streams.specs.Settled.{left_of, settled_from}
use Rattle.cas_streams.specs.declared.fragment.Fragment.{Fragment}
use Rattle.cas_partition.specs.Spots.{blank, piece}
use Rattle.cas_partition.specs.Inner.Rows.{Said, RowsOf, has_none}
use Rattle.cas_partition.specs.Inner.Pieces.{fragment_of}
use Rattle.cas_partition.specs.Inner.Slots.{is_after}
use Rattle.cas_partition.specs.Inner.Passing.{OwnMark, own_marker, is_first, is_mark_next, left_in, fragments_of, left_to_come}
use Rattle.cas_partition.specs.declared.spot.Content.{Content}
use Rattle.cas_partition.proofs.Alone.{raised_none}
use Rattle.cas_partition.proofs.RowFragments.{IsRow, base, StandsAt, MayStand, as_base, fragment_stands, something_said, row_stays, row_opens}
use Rattle.cas_partition.proofs.Taking.{both_true}

-- ---- a row and a cut stand apart

then_ties : (o p : Ordering) → ordering_then o p ≡ Equal → p ≡ Equal
then_ties Less p e = absurd (true≢false (ap is_lt e))
then_ties Equal p e = e
then_ties Greater p e = absurd (true≢false (ap is_gt e))

never_ties : (os : List Ordered) (xs : List (List ℕ)) (b : Bool) (ys : List (List ℕ)) → ends_cmp os Row xs (side b) ys ≡ Equal → ⊥
never_ties os [] true [] e = true≢false (ap is_lt e)
never_ties os [] false [] e = true≢false (ap is_gt e)
never_ties os [] b (y ∷ ys) e = true≢false (ap is_lt e)
never_ties os (x ∷ xs) true [] e = true≢false (ap is_lt e)
never_ties os (x ∷ xs) false [] e = true≢false (ap is_gt e)
never_ties os (x ∷ xs) b (y ∷ ys) e = never_ties (drop 1 os) xs b ys (then_ties (first_cmp os x y) (ends_cmp (drop 1 os) Row xs (side b) ys) e)

less_of : (o : Ordering) → is_gt o ≡ false → (o ≡ Equal → ⊥) → o ≡ Less
less_of Less n t = refl
less_of Equal n t = absurd (t refl)
less_of Greater n t = absurd (true≢false n)

greater_of : (o : Ordering) → is_gt o ≡ true → o ≡ Greater
greater_of Less n = absurd (true≢false (sym n))
greater_of Equal n = absurd (true≢false (sym n))
greater_of Greater n = refl

piece_first : (k : Option MapKey) (column : Option ℕ) (path : Option (List ℕ)) (c : Content) (m : OwnMark)
    → is_gt (fragment_cmp (piece k column path c) (own_marker m)) ≡ is_first m.0 k
piece_first None column path c m = refl
piece_first (Some k) column path c m = refl

piece_apart : (k : Option MapKey) (column : Option ℕ) (path : Option (List ℕ)) (c : Content) (m : OwnMark)
    → fragment_cmp (piece k column path c) (own_marker m) ≡ Equal → ⊥
piece_apart None column path c m e = true≢false (ap is_lt e)
piece_apart (Some k) column path c m e = never_ties k.order k.values (is_after m.0.end) m.0.values e

-- ---- woven

abbrev pub by_right : Option Deletion → List Fragment → List Fragment → List Fragment
by_right now = woven by_place (record { left = None; right = now })

mark_comes : (now : Option Deletion) (f m : Fragment) (fs ms : List Fragment) → fragment_cmp f m ≡ Greater
    → by_right now (f ∷ fs) (m ∷ ms) ≡ raised None m ∷ by_right (opened now m) (f ∷ fs) ms
mark_comes now f m fs ms e =
    ap (λ o. by_order o
    (raised now f ∷ woven by_place (record { left = opened None f; right = now }) fs (m ∷ ms))
    (joined_fragment f m ∷ woven by_place (record { left = opened None f; right = opened now m }) fs ms)
    (raised None m ∷ by_right (opened now m) (f ∷ fs) ms)) e

row_comes : (now : Option Deletion) (f m : Fragment) (fs ms : List Fragment) → fragment_cmp f m ≡ Less
    → by_right now (f ∷ fs) (m ∷ ms) ≡ raised now f ∷ woven by_place (record { left = opened None f; right = now }) fs (m ∷ ms)
row_comes now f m fs ms e =
    ap (λ o. by_order o
    (raised now f ∷ woven by_place (record { left = opened None f; right = now }) fs (m ∷ ms))
    (joined_fragment f m ∷ woven by_place (record { left = opened None f; right = opened now m }) fs ms)
    (raised None m ∷ by_right (opened now m) (f ∷ fs) ms)) e

row_is : (now : Option Deletion) (f : Fragment) (fs ms : List Fragment) → IsRow f → raised now f ∷ woven by_place (record { left = opened None f; right = now }) fs ms ≡ f ∷ by_right now fs ms
row_is now f fs ms is = λ i. row_stays now f is i ∷ woven by_place (record { left = row_opens None f is i; right = now }) fs ms

-- ---- one step

not_true : (b : Bool) → not b ≡ true → b ≡ false
not_true true e = absurd (true≢false (sym e))
not_true false e = refl

stands : (row : Option MapKey) (es : Said) (f : Fragment) → fragment_of row es ≡ Some f → StandsAt row f
stands row es f is = subst (MayStand row) is (fragment_stands row es)

-- a mark that comes next is passed
pub mark_left : (top now : Option Deletion) (m : OwnMark) (ms : List OwnMark) (rows : RowsOf) → is_mark_next (m ∷ ms) rows ≡ true
    → left_to_come top now rows (map own_marker (m ∷ ms)) ≡ cons_option (left_of top now (own_marker m)) (left_to_come top m.1 rows (map own_marker ms))
mark_left top now m ms [] is = ap (λ f. settled_from top now (f ∷ by_right m.1 [] (map own_marker ms))) (raised_none (own_marker m))
mark_left top now m ms (r ∷ rows) is =
    let (some, first) = both_true (not (has_none r.1)) (is_first m.0 r.0) is in
    let (f, said) = something_said r.0 r.1 (not_true (has_none r.1) some) in
    let above : fragment_cmp f (own_marker m) ≡ Greater =
    as_base r.0 f (own_marker m) (stands r.0 r.1 f said) ∙ greater_of (fragment_cmp (base r.0) (own_marker m)) (piece_first r.0 None None (blank None) m ∙ first) in
    ap (λ o. settled_from top now (by_right now (cons_option o (fragments_of rows)) (own_marker m ∷ map own_marker ms))) said
    ∙ ap (settled_from top now) (mark_comes now f (own_marker m) (fragments_of rows) (map own_marker ms) above)
    ∙ ap (λ g. settled_from top now (g ∷ by_right m.1 (f ∷ fragments_of rows) (map own_marker ms))) (raised_none (own_marker m))
    ∙ ap (λ o. cons_option (left_of top now (own_marker m)) (settled_from top m.1 (by_right m.1 (cons_option o (fragments_of rows)) (map own_marker ms)))) (sym said)

-- a row, which no mark comes before
row_first : (now : Option Deletion) (row : Option MapKey) (f : Fragment) (fs : List Fragment) (ms : List OwnMark) → StandsAt row f
    → ((m : OwnMark) (later : List OwnMark) → ms ≡ m ∷ later → is_first m.0 row ≡ false) → by_right now (f ∷ fs) (map own_marker ms) ≡ f ∷ by_right now fs (map own_marker ms)
row_first now row f fs [] at none = row_is now f fs [] at.plain
row_first now row f fs (m ∷ ms) at none =
    row_comes now f (own_marker m) fs (map own_marker ms) below ∙ row_is now f fs (map own_marker (m ∷ ms)) at.plain
  where
    below : fragment_cmp f (own_marker m) ≡ Less
    below = as_base row f (own_marker m) at
        ∙ less_of (fragment_cmp (base row) (own_marker m)) (piece_first row None None (blank None) m ∙ none m ms refl) (piece_apart row None None (blank None) m)

none_before : (row : Option MapKey) (es : Said) (f : Fragment) (rows : RowsOf) (ms : List OwnMark) → fragment_of row es ≡ Some f → is_mark_next ms ((row, es) ∷ rows) ≡ false
    → (m : OwnMark) (later : List OwnMark) → ms ≡ m ∷ later → is_first m.0 row ≡ false
none_before row [] f rows ms said next m later e = absurd (none-some f said)
none_before row (x ∷ es) f rows ms said next m later e = subst (λ l. is_mark_next l ((row, x ∷ es) ∷ rows) ≡ false) e next

-- else the next row is
row_passed : (top now : Option Deletion) (row : Option MapKey) (es : Said) (rows : RowsOf) (ms : List OwnMark) → is_mark_next ms ((row, es) ∷ rows) ≡ false
    → left_to_come top now ((row, es) ∷ rows) (map own_marker ms) ≡ cons_option (left_in top now (fragment_of row es)) (left_to_come top now rows (map own_marker ms))
row_passed top now row es rows ms next = go (fragment_of row es) refl
  where
    go : (o : Option Fragment) → fragment_of row es ≡ o
        → left_to_come top now ((row, es) ∷ rows) (map own_marker ms) ≡ cons_option (left_in top now (fragment_of row es)) (left_to_come top now rows (map own_marker ms))
    go None said =
        ap (λ o. settled_from top now (by_right now (cons_option o (fragments_of rows)) (map own_marker ms))) said
        ∙ sym (ap (λ o. cons_option (left_in top now o) (left_to_come top now rows (map own_marker ms))) said)
    go (Some f) said =
        let at : StandsAt row f = stands row es f said in
        ap (λ o. settled_from top now (by_right now (cons_option o (fragments_of rows)) (map own_marker ms))) said
        ∙ ap (settled_from top now) (row_first now row f (fragments_of rows) ms at (none_before row es f rows ms said next))
        ∙ ap (λ o. cons_option (left_of top now f) (settled_from top o (by_right now (fragments_of rows) (map own_marker ms)))) (row_opens now f at.plain)
        ∙ sym (ap (λ o. cons_option (left_in top now o) (left_to_come top now rows (map own_marker ms))) said)

-- so both
pub mark_steps : (top now then : Option Deletion) (rows : RowsOf) (m : OwnMark) (ms later : List OwnMark) (left : Option Fragment)
    → is_mark_next ms rows ≡ true → ms ≡ m ∷ later → left ≡ left_of top now (own_marker m) → then ≡ m.1
    → (left_to_come top now rows (map own_marker ms) ≡ cons_option left (left_to_come top then rows (map own_marker later))) × (length rows + length later < length rows + length ms)
mark_steps top now then rows m ms later left next e l f = (
  ap (λ x. left_to_come top now rows (map own_marker x)) e
      ∙ mark_left top now m later rows (subst (λ x. is_mark_next x rows ≡ true) e next)
      ∙ (λ i. cons_option (sym l i) (left_to_come top (sym f i) rows (map own_marker later))),
  subst (λ x. length rows + length later < length rows + length x) (sym e) (omega arith),
)

pub row_steps : (top now : Option Deletion) (rows later : RowsOf) (row : Option MapKey) (es : Said) (ms : List OwnMark) (left : Option Fragment)
    → is_mark_next ms rows ≡ false → rows ≡ (row, es) ∷ later → left ≡ left_in top now (fragment_of row es)
    → (left_to_come top now rows (map own_marker ms) ≡ cons_option left (left_to_come top now later (map own_marker ms))) × (length later + length ms < length rows + length ms)
row_steps top now rows later row es ms left next e l = (
  ap (λ x. left_to_come top now x (map own_marker ms)) e
      ∙ row_passed top now row es later ms (subst (λ x. is_mark_next ms x ≡ false) e next)
      ∙ (λ i. cons_option (sym l i) (left_to_come top now later (map own_marker ms))),
  subst (λ x. length later + length ms < length x + length ms) (sym e) (omega arith),
)

-- nothing is left where there is neither
pub at_end : (top now : Option Deletion) (rows later : RowsOf) (ms : List OwnMark) → is_mark_next ms rows ≡ false → rows ≡ [] → later ≡ []
    → (left_to_come top now rows (map own_marker ms) ≡ []) × (left_to_come top now later (map own_marker ms) ≡ []) × (length later + length ms ≡ length rows + length ms)
at_end top now rows later ms next e f =
    let none : ms ≡ [] = no_marks ms (subst (λ x. is_mark_next ms x ≡ false) e next) in (
      (λ i. left_to_come top now (e i) (map own_marker (none i))),
      (λ i. left_to_come top now (f i) (map own_marker (none i))),
      ap (λ x. length x + length ms) (f ∙ sym e),
    )
  where
    no_marks : (ms : List OwnMark) → is_mark_next ms [] ≡ false → ms ≡ []
    no_marks [] n = refl
    no_marks (m ∷ ms) n = absurd (true≢false n)
