-- A row as a fragment: where it stands, and that it is put together of pieces in halves.
use Rattle.std.proofs.Common.{◌≡◌, ◌⊎◌, inl, inr, ℕ, zero, suc, ◌/◌, true, false, cond, nat_lt, Option, None, Some, List, [], ◌∷◌, ◌++◌, map, fold, take, drop, length, refl, sym, ap, ◌∙◌, subst}
use Rattle.std.proofs.lemmas.Bool.{true≢false}
use Rattle.std.proofs.lemmas.Cmp.{tied_itself}
use Rattle.std.proofs.lemmas.List.{take-append-drop}
use Rattle.std.proofs.lemmas.Option.{none-some}
use Rattle.std.specs.List.{AllByRecursion, cons_option}
use Rattle.std.specs.List.Sorted.{IsStrictlySortedBy}
use Rattle.std.specs.Map.{keys_of}
use Rattle.std.specs.Ordering.{is_eq, is_lt}
use Rattle.std.specs.declared.cmp.Ordering.TheVariants.{Less, Equal}
use Rattle.cas_bounds.specs.Points.{point_cmp, row_point}
use Rattle.cas_bounds.specs.declared.order.Ordered.{Ordered}
use Rattle.cas_bounds.specs.declared.map_key.MapKey.{MapKey}
use Rattle.cas_streams.specs.Places.{place_cmp, place_of}
use Rattle.cas_streams.specs.Joined.{joined_fragment, fragment_cmp, order_of, raised, opened}
use Rattle.cas_streams.specs.declared.fragment.Fragment.{Fragment}
use Rattle.cas_streams.specs.declared.fragment.Fragment.TheVariants as fragment
use Rattle.cas_streams.proofs.Twins.{same_place}
use Rattle.cas_streams.proofs.Forces.{places_total}
use Rattle.cas_cell.specs.declared.deletion.Deletion.{Deletion}
use Rattle.cas_partition.specs.Spots.{row_cmp, blank, piece}
use Rattle.cas_partition.specs.Partitions.{IsRowOf}
use Rattle.cas_partition.specs.Ranged.{piece_of}
use Rattle.cas_partition.specs.Slices.{grouped_from, meet, few, AreRowsOf}
use Rattle.cas_partition.specs.Inner.Rows.{Said, RowsOf, entry_in, flat, has_none}
use Rattle.cas_partition.specs.Inner.Pieces.{said_in, joined_pieces, joined_both, joined_in, are_plain, fragment_of}
use Rattle.cas_partition.specs.Inner.Passing.{fragments_of}
use Rattle.cas_partition.specs.declared.spot.Content.{Content}
use Rattle.cas_partition.proofs.Saying.{Rows}
use Rattle.cas_partition.proofs.Shown.{in_both}
use Rattle.cas_partition.proofs.Slicing.{key_rows}

-- ---- where it stands

-- a row, or the static row
abbrev pub IsRow : Fragment → Type 0
IsRow (fragment.Static cs) = Unit {0}
IsRow (fragment.Row r) = Unit {0}
IsRow (fragment.Marker cut d) = ⊥

-- a piece of it
abbrev pub base : Option MapKey → Fragment
base row = piece row None None (blank None)

pub record StandsAt (row : Option MapKey) (f : Fragment) : Type 0 where
  pub place : place_of f ≡ place_of (base row)
  pub order : order_of f ≡ order_of (base row)
  pub plain : IsRow f

piece_stands : (row : Option MapKey) (column : Option ℕ) (path : Option (List ℕ)) (c : Content) → StandsAt row (piece row column path c)
piece_stands None column path c = record { place = refl; order = refl; plain = tt }
piece_stands (Some k) column path c = record { place = refl; order = refl; plain = tt }

joined_order : (f g : Fragment) → IsRow f → order_of (joined_fragment f g) ≡ order_of f
joined_order (fragment.Static cs) (fragment.Static ds) is = refl
joined_order (fragment.Static cs) (fragment.Row s) is = refl
joined_order (fragment.Static cs) (fragment.Marker cut d) is = refl
joined_order (fragment.Row r) (fragment.Static ds) is = refl
joined_order (fragment.Row r) (fragment.Row s) is = refl
joined_order (fragment.Row r) (fragment.Marker cut d) is = refl
joined_order (fragment.Marker cut d) g is = absurd is

joined_is_row : (f g : Fragment) → IsRow f → IsRow (joined_fragment f g)
joined_is_row (fragment.Static cs) (fragment.Static ds) is = tt
joined_is_row (fragment.Static cs) (fragment.Row s) is = tt
joined_is_row (fragment.Static cs) (fragment.Marker cut d) is = tt
joined_is_row (fragment.Row r) (fragment.Static ds) is = tt
joined_is_row (fragment.Row r) (fragment.Row s) is = tt
joined_is_row (fragment.Row r) (fragment.Marker cut d) is = tt
joined_is_row (fragment.Marker cut d) g is = absurd is

pub row_stays : (o : Option Deletion) (f : Fragment) → IsRow f → raised o f ≡ f
row_stays o (fragment.Static cs) is = refl
row_stays o (fragment.Row r) is = refl
row_stays o (fragment.Marker cut d) is = absurd is

pub row_opens : (now : Option Deletion) (f : Fragment) → IsRow f → opened now f ≡ now
row_opens now (fragment.Static cs) is = refl
row_opens now (fragment.Row r) is = refl
row_opens now (fragment.Marker cut d) is = absurd is

module _ (row : Option MapKey) where
  pub as_base : (f g : Fragment) → StandsAt row f → fragment_cmp f g ≡ fragment_cmp (base row) g
  as_base f g at = λ i. place_cmp (at.order i) (at.place i) (place_of g)

  joined_stands : (f g : Fragment) → StandsAt row f → StandsAt row (joined_fragment f g)
  joined_stands f g at = record {
    place = same_place f g ∙ at.place;
    order = joined_order f g at.plain ∙ at.order;
    plain = joined_is_row f g at.plain;
  }

  tie : (f g : Fragment) → StandsAt row f → StandsAt row g → fragment_cmp f g ≡ Equal
  tie f g f_at g_at = as_base f g f_at ∙ ap (place_cmp (order_of (base row)) (place_of (base row))) g_at.place ∙ tied_itself (places_total (order_of (base row))) (place_of (base row))

  abbrev AllStand : List Fragment → Type 0
  AllStand fs = AllByRecursion (StandsAt row) fs

  -- if there is one
  abbrev pub MayStand : Option Fragment → Type 0
  MayStand None = Unit {0}
  MayStand (Some f) = StandsAt row f

  fold_stands : (f : Fragment) (fs : List Fragment) → StandsAt row f → StandsAt row (fold joined_fragment f fs)
  fold_stands f [] at = at
  fold_stands f (g ∷ fs) at = fold_stands (joined_fragment f g) fs (joined_stands f g at)

  pieces_stand : (fs : List Fragment) → AllStand fs → MayStand (joined_pieces fs)
  pieces_stand [] all = tt
  pieces_stand (f ∷ fs) all = fold_stands f fs all.0

  both_stand : (a b : Option Fragment) → MayStand a → MayStand b → MayStand (joined_both a b)
  both_stand None b x y = y
  both_stand (Some f) None x y = x
  both_stand (Some f) (Some g) x y = joined_stands f g x

  said_stand : (es : Said) → AllStand (map (said_in row) es)
  said_stand [] = tt
  said_stand (e ∷ es) = (piece_stands row e.0.column e.0.path e.1, said_stand es)

-- a fact of all is one of each part
module _ {X : Type 0} (P : X → Type 0) where
  pub all_taken : (n : ℕ) (xs : List X) → AllByRecursion P xs → AllByRecursion P (take n xs)
  all_taken zero xs all = tt
  all_taken (suc n) [] all = tt
  all_taken (suc n) (x ∷ xs) all = (all.0, all_taken n xs all.1)

  pub all_dropped : (n : ℕ) (xs : List X) → AllByRecursion P xs → AllByRecursion P (drop n xs)
  all_dropped zero xs all = all
  all_dropped (suc n) [] all = tt
  all_dropped (suc n) (x ∷ xs) all = all_dropped n xs all.1

-- a fact of what is put together of pieces that have one
module _ (P : Fragment → Type 0) (Q : Option Fragment → Type 0) (one : (fs : List Fragment) → AllByRecursion P fs → Q (joined_pieces fs))
    (two : (a b : Option Fragment) → Q a → Q b → Q (joined_both a b)) where
  pub in_halves : (n : ℕ) (fs : List Fragment) → AllByRecursion P fs → Q (joined_in n fs)
  unfolding joined_in
  in_halves zero fs all = one fs all
  in_halves (suc n) fs all =
      elim (nat_lt (length fs) 16) as (λ b. Q (cond b (joined_pieces fs) (joined_both (joined_in n (take (length fs / 2) fs)) (joined_in n (drop (length fs / 2) fs))))) [
        | true ↦ one fs all
        | false ↦ two (joined_in n (take (length fs / 2) fs)) (joined_in n (drop (length fs / 2) fs)) (in_halves n (take (length fs / 2) fs) (all_taken P (length fs / 2) fs all))
            (in_halves n (drop (length fs / 2) fs) (all_dropped P (length fs / 2) fs all))
      ]

  pub in_fragment : (row : Option MapKey) (es : Said) → AllByRecursion P (map (said_in row) es) → Q (fragment_of row es)
  in_fragment row es all =
      elim (are_plain es) as (λ b. Q (cond b (joined_pieces (map (said_in row) es)) (joined_in 64 (map (said_in row) es)))) [
        | true ↦ one (map (said_in row) es) all
        | false ↦ in_halves 64 (map (said_in row) es) all
      ]

pub fragment_stands : (row : Option MapKey) (es : Said) → MayStand row (fragment_of row es)
fragment_stands row es = in_fragment (StandsAt row) (MayStand row) (pieces_stand row) (both_stand row) row es (said_stand row es)

-- ---- something is said of a row that has places

abbrev IsSomething : Option Fragment → Type 0
IsSomething None = ⊥
IsSomething (Some f) = Unit {0}

either_something : (a b : Option Fragment) → IsSomething a → IsSomething (joined_both a b)
either_something None b x = absurd x
either_something (Some f) None x = tt
either_something (Some f) (Some g) x = tt

other_something : (a b : Option Fragment) → IsSomething b → IsSomething (joined_both a b)
other_something None b y = y
other_something (Some f) None y = tt
other_something (Some f) (Some g) y = tt

abbrev AreSome : List Fragment → Type 0
AreSome [] = ⊥
AreSome (f ∷ fs) = Unit {0}

some_part : (A B : List Fragment) → AreSome (A ++ B) → (A ≡ []) × AreSome B ⊎ AreSome A
some_part [] B is = inl (refl, is)
some_part (a ∷ A) B is = inr tt

halves_something : (n : ℕ) (fs : List Fragment) → AreSome fs → IsSomething (joined_in n fs)
unfolding joined_in
halves_something zero [] is = absurd is
halves_something zero (f ∷ fs) is = tt
halves_something (suc n) [] is = absurd is
halves_something (suc n) (f ∷ fs) is =
    let k : ℕ = length (f ∷ fs) / 2 in
    elim (nat_lt (length (f ∷ fs)) 16) as (λ b. IsSomething (cond b (joined_pieces (f ∷ fs)) (joined_both (joined_in n (take k (f ∷ fs))) (joined_in n (drop k (f ∷ fs)))))) [
      | true ↦ tt
      | false ↦ elim (some_part (take k (f ∷ fs)) (drop k (f ∷ fs)) (subst AreSome (sym (take-append-drop k (f ∷ fs))) tt)) [
        | inl none ↦ other_something (joined_in n (take k (f ∷ fs))) (joined_in n (drop k (f ∷ fs))) (halves_something n (drop k (f ∷ fs)) none.1)
        | inr some ↦ either_something (joined_in n (take k (f ∷ fs))) (joined_in n (drop k (f ∷ fs))) (halves_something n (take k (f ∷ fs)) some)
      ]
    ]

is_some_fragment : (row : Option MapKey) (es : Said) → has_none es ≡ false → IsSomething (fragment_of row es)
is_some_fragment row [] e = absurd (true≢false e)
is_some_fragment row (e ∷ es) none =
    elim (are_plain (e ∷ es)) as (λ b. IsSomething (cond b (joined_pieces (map (said_in row) (e ∷ es))) (joined_in 64 (map (said_in row) (e ∷ es))))) [
      | true ↦ tt
      | false ↦ halves_something 64 (map (said_in row) (e ∷ es)) tt
    ]

pub something_said : (row : Option MapKey) (es : Said) → has_none es ≡ false → (f : Fragment) × (fragment_of row es ≡ Some f)
something_said row es e = go (fragment_of row es) refl (is_some_fragment row es e)
  where
    go : (o : Option Fragment) → fragment_of row es ≡ o → IsSomething o → (f : Fragment) × (fragment_of row es ≡ Some f)
    go None is some = absurd some
    go (Some f) is some = (f, is)

-- ---- as the rows of all pieces

abbrev listed : Option Fragment → List Fragment
listed None = []
listed (Some f) = f ∷ []

module _ (row : Option MapKey) where
  one_group : (f : Fragment) (fs : List Fragment) → StandsAt row f → AllByRecursion (StandsAt row) fs → grouped_from f fs ≡ fold joined_fragment f fs ∷ []
  one_group f [] at all = refl
  one_group f (g ∷ fs) at all =
      ap (λ r. cond (is_eq r) (grouped_from (joined_fragment f g) fs) (f ∷ grouped_from g fs)) (tie row f g at all.0) ∙ one_group (joined_fragment f g) fs (joined_stands row f g at) all.1

  pieces_laid : (fs : List Fragment) → AllByRecursion (StandsAt row) fs → AreRowsOf fs (listed (joined_pieces fs))
  pieces_laid [] all = (few [], refl, refl)
  pieces_laid (f ∷ fs) all = (few (f ∷ fs), refl, one_group f fs all.0 all.1)

  both_listed : (a b : Option Fragment) → MayStand row a → MayStand row b → meet (listed a) (listed b) ≡ listed (joined_both a b)
  both_listed None b x y = refl
  both_listed (Some f) None x y = refl
  both_listed (Some f) (Some g) x y = ap (λ r. cond (is_eq r) (joined_fragment f g ∷ []) (f ∷ g ∷ []) ++ []) (tie row f g x y)

  halves_laid : (n : ℕ) (fs : List Fragment) → AllByRecursion (StandsAt row) fs → AreRowsOf fs (listed (joined_in n fs))
  unfolding joined_in
  halves_laid zero fs all = pieces_laid fs all
  halves_laid (suc n) fs all =
      let k : ℕ = length fs / 2 in
      let left : AllByRecursion (StandsAt row) (take k fs) = all_taken (StandsAt row) k fs all in
      let right : AllByRecursion (StandsAt row) (drop k fs) = all_dropped (StandsAt row) k fs all in
      let stand : (m : ℕ) (gs : List Fragment) → AllByRecursion (StandsAt row) gs → MayStand row (joined_in m gs) = in_halves (StandsAt row) (MayStand row) (pieces_stand row) (both_stand row) in
      elim (nat_lt (length fs) 16) as (λ b. AreRowsOf fs (listed (cond b (joined_pieces fs) (joined_both (joined_in n (take k fs)) (joined_in n (drop k fs)))))) [
        | true ↦ pieces_laid fs all
        | false ↦ subst (AreRowsOf fs) (both_listed (joined_in n (take k fs)) (joined_in n (drop k fs)) (stand n (take k fs) left) (stand n (drop k fs) right))
            (in_both fs (take k fs) (drop k fs) (listed (joined_in n (take k fs))) (listed (joined_in n (drop k fs))) (take-append-drop k fs) (halves_laid n (take k fs) left) (halves_laid n (drop k fs) right))
      ]

  row_laid : (es : Said) → AreRowsOf (map (said_in row) es) (listed (fragment_of row es))
  row_laid es =
      elim (are_plain es) as (λ b. AreRowsOf (map (said_in row) es) (listed (cond b (joined_pieces (map (said_in row) es)) (joined_in 64 (map (said_in row) es))))) [
        | true ↦ pieces_laid (map (said_in row) es) (said_stand row es)
        | false ↦ halves_laid 64 (map (said_in row) es) (said_stand row es)
      ]

-- ---- rows of one table

module _ (order : List Ordered) where
  apart : (k l : Option MapKey) → IsRowOf order k → IsRowOf order l → row_cmp k l ≡ Less → is_eq (fragment_cmp (base k) (base l)) ≡ false
  apart None None k_of l_of less = absurd (true≢false (sym (ap is_lt less)))
  apart None (Some l) k_of l_of less = refl
  apart (Some k) None k_of l_of less = refl
  apart (Some k) (Some l) k_of l_of less =
      ap is_eq ((λ i. point_cmp (k_of.1 i) (row_point k.values) (row_point l.values)) ∙ sym (key_rows order k l k_of l_of) ∙ less)

  parts : (k : Option MapKey) (b : Said) (rows : RowsOf) → Rows order (map (entry_in k) b ++ flat rows) → (has_none b ≡ false → IsRowOf order k) × Rows order (flat rows)
  parts k [] rows of = ((λ none. absurd (true≢false none)), of)
  parts k (e ∷ b) rows of = ((λ none. of.0), (parts k b rows of.1).1)

  -- of a row of which something is said
  row_of : (k : Option MapKey) (b : Said) (f : Fragment) → (has_none b ≡ false → IsRowOf order k) → fragment_of k b ≡ Some f → IsRowOf order k
  row_of k [] f of is = absurd (none-some f is)
  row_of k (e ∷ b) f of is = of refl

  behind : (k : Option MapKey) (f : Fragment) (rows : RowsOf) → IsRowOf order k → StandsAt k f → AllByRecursion (λ l. row_cmp k l ≡ Less) (keys_of rows) → Rows order (flat rows)
      → AllByRecursion (λ g. is_eq (fragment_cmp f g) ≡ false) (fragments_of rows)
  behind k f [] k_of at all of = tt
  behind k f (r ∷ rows) k_of at all of =
      let (mine, others) = parts r.0 r.1 rows of in
      let later : AllByRecursion (λ g. is_eq (fragment_cmp f g) ≡ false) (fragments_of rows) = behind k f rows k_of at all.1 others in
      go later (fragment_of r.0 r.1) refl mine (fragment_stands r.0 r.1)
    where
      go : AllByRecursion (λ g. is_eq (fragment_cmp f g) ≡ false) (fragments_of rows) → (o : Option Fragment) → fragment_of r.0 r.1 ≡ o → (has_none r.1 ≡ false → IsRowOf order r.0)
          → MayStand r.0 (fragment_of r.0 r.1) → AllByRecursion (λ g. is_eq (fragment_cmp f g) ≡ false) (cons_option (fragment_of r.0 r.1) (fragments_of rows))
      go later None is mine stands = subst (λ o. AllByRecursion (λ g. is_eq (fragment_cmp f g) ≡ false) (cons_option o (fragments_of rows))) (sym is) later
      go later (Some g) is mine stands =
          let g_at : StandsAt r.0 g = subst (MayStand r.0) is stands in
          let differ : is_eq (fragment_cmp f g) ≡ false =
          ap is_eq (as_base k f g at ∙ ap (place_cmp (order_of (base k)) (place_of (base k))) g_at.place) ∙ apart k r.0 k_of (row_of r.0 r.1 g mine is) all.0 in
          subst (λ o. AllByRecursion (λ g. is_eq (fragment_cmp f g) ≡ false) (cons_option o (fragments_of rows))) (sym is) (differ, later)

  first_alone : (f : Fragment) (gs : List Fragment) → AllByRecursion (λ g. is_eq (fragment_cmp f g) ≡ false) gs → meet (f ∷ []) gs ≡ f ∷ gs
  first_alone f [] all = refl
  first_alone f (g ∷ gs) all = ap (λ b. cond b (joined_fragment f g ∷ []) (f ∷ g ∷ []) ++ gs) all.0

  pieces_of_row : (k : Option MapKey) (b : Said) (rows : RowsOf) → map (said_in k) b ++ map piece_of (flat rows) ≡ map piece_of (map (entry_in k) b ++ flat rows)
  pieces_of_row k [] rows = refl
  pieces_of_row k (e ∷ b) rows = ap (λ l. said_in k e ∷ l) (pieces_of_row k b rows)

  pub rows_laid : (rows : RowsOf) → IsStrictlySortedBy row_cmp (keys_of rows) → Rows order (flat rows) → AreRowsOf (map piece_of (flat rows)) (fragments_of rows)
  unfolding IsStrictlySortedBy
  rows_laid [] sorted of = (few [], refl, refl)
  rows_laid (r ∷ rows) sorted of =
      let (mine, others) = parts r.0 r.1 rows of in
      subst (AreRowsOf (map piece_of (flat (r ∷ rows)))) (met (fragment_of r.0 r.1) refl mine others sorted.0)
      (in_both (map piece_of (flat (r ∷ rows))) (map (said_in r.0) r.1) (map piece_of (flat rows)) (listed (fragment_of r.0 r.1)) (fragments_of rows) (pieces_of_row r.0 r.1 rows)
      (row_laid r.0 r.1) (rows_laid rows sorted.1 others))
    where
      met : (o : Option Fragment) → fragment_of r.0 r.1 ≡ o → (has_none r.1 ≡ false → IsRowOf order r.0) → Rows order (flat rows) → AllByRecursion (λ l. row_cmp r.0 l ≡ Less) (keys_of rows)
          → meet (listed (fragment_of r.0 r.1)) (fragments_of rows) ≡ cons_option (fragment_of r.0 r.1) (fragments_of rows)
      met None is mine others above = (λ i. meet (listed (is i)) (fragments_of rows)) ∙ sym (ap (λ o. cons_option o (fragments_of rows)) is)
      met (Some f) is mine others above =
          (λ i. meet (listed (is i)) (fragments_of rows))
          ∙ first_alone f (fragments_of rows) (behind r.0 f rows (row_of r.0 r.1 f mine is) (subst (MayStand r.0) is (fragment_stands r.0 r.1)) above others)
          ∙ sym (ap (λ o. cons_option o (fragments_of rows)) is)
