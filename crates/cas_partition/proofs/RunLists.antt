-- Atoms of one row one after another, in their row and among the entries of all.
use Rattle.std.proofs.Common.{◌≡◌, ℕ, suc, ◌+◌, ◌-◌, ◌<◌, ◌≤◌, inl, inr, length, take, drop, get_or, arith, append_assoc, length-append, Option, None, Some, List, [], ◌∷◌, ◌++◌, true, false, cond, is_some, refl, sym, ap, ◌∙◌, subst}
use Rattle.std.proofs.Math.Seq.{take-length, take-append_seam}
use Rattle.std.proofs.lemmas.List.{append-nil}
use Rattle.std.proofs.lemmas.Option.{none-some}
use Rattle.std.specs.Option.{unwrap_or}
use Rattle.std.specs.List.{AllByRecursion}
use Rattle.std.specs.List.Sorted.{IsStrictlySortedBy}
use Rattle.std.specs.Map.{keys_of, lookup, set_value}
use Rattle.std.specs.BTreeMap.{insert_entry, is_at}
use Rattle.std.specs.Ordering.{is_eq}
use Rattle.cas_types.specs.declared.tag.TypeTag.{TypeTag}
use Rattle.cas_bounds.specs.declared.map_key.MapKey.{MapKey}
use Rattle.cas_atoms.specs.declared.atom.Atom.{Atom}
use Rattle.cas_atoms.specs.declared.atom.Atom.TheVariants.{PartitionDeletion, RangeDeletion, RowDeletion, CollectionDeletion, Live, Write, StaticWrite, StaticCollectionDeletion}
use Rattle.cas_partition.specs.Spots.{row_cmp, place_cmp, spot_cmp, blank, joined_content}
use Rattle.cas_partition.specs.Placed.{wanted, given}
use Rattle.cas_partition.specs.Partitions.{with_spot}
use Rattle.cas_partition.specs.Inner.Rows.{Said, RowsOf, spot_in, flat, AreInOrder, AreRows, place_of, body_of, with_place, joined_place}
use Rattle.cas_partition.specs.Inner.Runs.{room_row, room_place, room_tag, IsInRow, with_places, with_room, with_rooms, IsPart, PartlyMade, RowPartlyMade, RowHasSome, joined_by, joined_places, joined_spot, joined_at, joined_spots, JoinsRun}
use Rattle.cas_partition.specs.declared.spot.Place.{Place}
use Rattle.cas_partition.specs.declared.spot.Spot.{Spot}
use Rattle.cas_partition.specs.declared.spot.Content.{Content}
use Rattle.cas_partition.specs.declared.spot.Room.{Room}
use Rattle.cas_partition.specs.declared.spot.Room.TheVariants.{Whole, Cuts, At}
use Rattle.cas_partition.specs.declared.spot.Addition.{Addition}
use Rattle.cas_partition.specs.declared.spot.Addition.TheVariants as gives
use Rattle.cas_partition.proofs.RowLists.{put_sorted, rows_put, sorted_body, made_in, joined_in_row, as_it_is, set_row, set_keeps_keys, place_total}

some_is : {X : Type 0} (x y : X) → Some x ≡ Some y → x ≡ y
some_is x y e = ap (λ o. unwrap_or o x) e

-- ---- place is made

module _ (k : Option MapKey) (rows : RowsOf) (sorted : IsStrictlySortedBy row_cmp (keys_of rows)) where
  abbrev put : Said → List (Spot × Content)
  put b = flat (insert_entry row_cmp rows k b)

  room_made : (w : Room) (b : Said) → room_row w ≡ Some k → with_room w (put b) ≡ put (with_place (room_place w) (room_tag w) b)
  room_made Whole b e = absurd (none-some k e)
  room_made (Cuts lo hi) b e = absurd (none-some k e)
  room_made (At s tag) b e =
      let of : s.row ≡ k = some_is s.row k e in
      ap (λ r. with_spot (spot_in r (place_of s)) tag (put b)) of ∙ made_in k (place_of s) tag rows b sorted

  rooms_made : (atoms : List Atom) (b : Said) → AllByRecursion (IsInRow k) atoms → with_rooms atoms (put b) ≡ put (with_places atoms b)
  rooms_made [] b all = refl
  rooms_made (a ∷ atoms) b all =
      ap (with_rooms atoms) (room_made (wanted a) b all.0) ∙ rooms_made atoms (with_place (room_place (wanted a)) (room_tag (wanted a)) b) all.1

  first_of : (first later : List Atom) → AllByRecursion (IsInRow k) (first ++ later) → AllByRecursion (IsInRow k) first
  first_of [] later all = tt
  first_of (a ∷ first) later all = (all.0, first_of first later all.1)

-- the row of the spot, with a place there and for the atoms
pub all_made_in : (s : Spot) (tag : Option TypeTag) (atoms : List Atom) (rows new : RowsOf) → AreRows rows → AllByRecursion (IsInRow s.row) atoms
    → new ≡ insert_entry row_cmp rows s.row (with_places atoms (with_place (place_of s) tag (body_of s.row rows)))
    → flat new ≡ with_rooms atoms (with_spot s tag (flat rows))
all_made_in s tag atoms rows new are all e =
    ap flat e ∙ sym (rooms_made s.row rows are.sorted atoms (with_place (place_of s) tag (body_of s.row rows)) all)
    ∙ ap (with_rooms atoms) (sym (made_in s.row (place_of s) tag rows (body_of s.row rows) are.sorted) ∙ ap (with_spot s tag) (as_it_is s.row rows are.sorted))

pub part_made_in : (s : Spot) (tag : Option TypeTag) (atoms : List Atom) (rows new : RowsOf) → AreRows rows → AllByRecursion (IsInRow s.row) atoms
    → RowPartlyMade atoms s tag rows new → PartlyMade with_rooms atoms (flat rows) (with_spot s tag (flat rows)) (flat new)
part_made_in s tag atoms rows new are all (inl same) = inl (ap flat same)
part_made_in s tag atoms rows new are all (inr (es, put, inl same)) = inl (ap flat (put ∙ ap (insert_entry row_cmp rows s.row) same) ∙ as_it_is s.row rows are.sorted)
part_made_in s tag atoms rows new are all (inr (es, put, inr part)) =
    inr (record {
      first = part.first;
      later = part.later;
      are = part.are;
      is = all_made_in s tag part.first rows new are (first_of s.row rows are.sorted part.first part.later (subst (AllByRecursion (IsInRow s.row)) part.are all))
          (put ∙ ap (insert_entry row_cmp rows s.row) part.is);
    })

pub place_sorted : (w : Room) (b : Said) → AreInOrder b → AreInOrder (with_place (room_place w) (room_tag w) b)
place_sorted w b sorted =
    elim (is_some (lookup (is_at (place_cmp (room_place w))) b)) as (λ t. IsStrictlySortedBy place_cmp (keys_of (cond t b (insert_entry place_cmp b (room_place w) (blank (room_tag w)))))) [
      | true ↦ sorted
      | false ↦ put_sorted place_total (room_place w) (blank (room_tag w)) b sorted
    ]

places_sorted : (atoms : List Atom) (b : Said) → AreInOrder b → AreInOrder (with_places atoms b)
places_sorted [] b sorted = sorted
places_sorted (a ∷ atoms) b sorted = places_sorted atoms (with_place (room_place (wanted a)) (room_tag (wanted a)) b) (place_sorted (wanted a) b sorted)

made_sorted : (s : Spot) (tag : Option TypeTag) (atoms : List Atom) (rows : RowsOf) → AreRows rows → AreInOrder (with_places atoms (with_place (place_of s) tag (body_of s.row rows)))
made_sorted s tag atoms rows are =
    places_sorted atoms (with_place (place_of s) tag (body_of s.row rows)) (place_sorted (At s tag) (body_of s.row rows) (sorted_body s.row rows are))

pub made_rows : (s : Spot) (tag : Option TypeTag) (atoms : List Atom) (rows new : RowsOf) → AreRows rows
    → new ≡ insert_entry row_cmp rows s.row (with_places atoms (with_place (place_of s) tag (body_of s.row rows))) → AreRows new
made_rows s tag atoms rows new are e = subst AreRows (sym e) (rows_put s.row (with_places atoms (with_place (place_of s) tag (body_of s.row rows))) rows (made_sorted s tag atoms rows are) are)

pub part_rows : (s : Spot) (tag : Option TypeTag) (atoms : List Atom) (rows new : RowsOf) → AreRows rows → RowPartlyMade atoms s tag rows new → AreRows new
part_rows s tag atoms rows new are (inl same) = subst AreRows (sym same) are
part_rows s tag atoms rows new are (inr (es, put, inl same)) =
    subst AreRows (sym (put ∙ ap (insert_entry row_cmp rows s.row) same)) (rows_put s.row (body_of s.row rows) rows (sorted_body s.row rows are) are)
part_rows s tag atoms rows new are (inr (es, put, inr part)) = made_rows s tag part.first rows new are (put ∙ ap (insert_entry row_cmp rows s.row) part.is)

-- ---- atoms are joined

-- an atom adds where it wants place
abbrev pub given_row : Addition → Option (Option MapKey)
given_row (gives.Whole d) = None
given_row (gives.Range lo hi d) = None
given_row (gives.At s c) = Some s.row

pub same_row : (a : Atom) → given_row (given a) ≡ room_row (wanted a)
same_row (PartitionDeletion d) = refl
same_row (RangeDeletion lo hi d) = refl
same_row (RowDeletion c d) = refl
same_row (CollectionDeletion c ref d) = refl
same_row (Live c l) = refl
same_row (Write c ref p v) = refl
same_row (StaticWrite ref p v) = refl
same_row (StaticCollectionDeletion ref d) = refl

module _ (k : Option MapKey) (rows : RowsOf) (sorted : IsStrictlySortedBy row_cmp (keys_of rows)) where
  room_joined : (g : Addition) (b : Said) → given_row g ≡ Some k → joined_at g (flat (insert_entry row_cmp rows k b)) ≡ flat (insert_entry row_cmp rows k (joined_by g b))
  room_joined (gives.Whole d) b e = absurd (none-some k e)
  room_joined (gives.Range lo hi d) b e = absurd (none-some k e)
  room_joined (gives.At s c) b e =
      ap (λ r. joined_spot (spot_in r (place_of s)) c (flat (insert_entry row_cmp rows k b))) (some_is s.row k e) ∙ joined_in_row k (place_of s) c rows b sorted

  rooms_joined : (atoms : List Atom) (b : Said) → AllByRecursion (IsInRow k) atoms
      → joined_spots atoms (flat (insert_entry row_cmp rows k b)) ≡ flat (insert_entry row_cmp rows k (joined_places atoms b))
  rooms_joined [] b all = refl
  rooms_joined (a ∷ atoms) b all =
      ap (joined_spots atoms) (room_joined (given a) b (same_row a ∙ all.0)) ∙ rooms_joined atoms (joined_by (given a) b) all.1

by_none : (g : Addition) → joined_by g [] ≡ []
by_none (gives.Whole d) = refl
by_none (gives.Range lo hi d) = refl
by_none (gives.At s c) = refl

joined_none : (atoms : List Atom) → joined_places atoms [] ≡ []
joined_none [] = refl
joined_none (a ∷ atoms) = ap (joined_places atoms) (by_none (given a)) ∙ joined_none atoms

pub all_joined_in : (s : Spot) (c : Content) (atoms : List Atom) (rows new : RowsOf) → AreRows rows → AllByRecursion (IsInRow s.row) atoms
    → new ≡ set_value (is_at (row_cmp s.row)) rows (joined_places atoms (joined_place (place_of s) c (body_of s.row rows)))
    → flat new ≡ joined_spots atoms (joined_spot s c (flat rows))
all_joined_in s c atoms rows new are all e =
    ap flat e ∙ set_row s.row (λ b. joined_places atoms (joined_place (place_of s) c b)) rows (joined_none atoms) are.sorted
    ∙ sym (rooms_joined s.row rows are.sorted atoms (joined_place (place_of s) c (body_of s.row rows)) all)
    ∙ ap (joined_spots atoms) (sym (joined_in_row s.row (place_of s) c rows (body_of s.row rows) are.sorted) ∙ ap (joined_spot s c) (as_it_is s.row rows are.sorted))

pub place_keys : (g : Addition) (b : Said) → keys_of (joined_by g b) ≡ keys_of b
place_keys (gives.Whole d) b = refl
place_keys (gives.Range lo hi d) b = refl
place_keys (gives.At s c) [] = refl
place_keys (gives.At s c) (e ∷ b) =
    elim (is_eq (place_cmp (place_of s) e.0)) as (λ t. keys_of (cond t ((e.0, joined_content e.1 c) ∷ b) (e ∷ joined_place (place_of s) c b)) ≡ e.0 ∷ keys_of b) [
      | true ↦ refl
      | false ↦ ap (λ l. e.0 ∷ l) (place_keys (gives.At s c) b)
    ]

joined_keys : (atoms : List Atom) (b : Said) → keys_of (joined_places atoms b) ≡ keys_of b
joined_keys [] b = refl
joined_keys (a ∷ atoms) b = joined_keys atoms (joined_by (given a) b) ∙ place_keys (given a) b

pub joined_rows : (s : Spot) (c : Content) (atoms : List Atom) (rows new : RowsOf) → AreRows rows
    → new ≡ set_value (is_at (row_cmp s.row)) rows (joined_places atoms (joined_place (place_of s) c (body_of s.row rows))) → AreRows new
joined_rows s c atoms rows new are e =
    let b : Said = body_of s.row rows in
    let keys : keys_of (joined_places atoms (joined_place (place_of s) c b)) ≡ keys_of b = joined_keys atoms (joined_place (place_of s) c b) ∙ place_keys (gives.At s c) b in
    subst AreRows (sym e) (set_keeps_keys s.row (joined_places atoms (joined_place (place_of s) c b)) rows are (subst (IsStrictlySortedBy place_cmp) (sym keys) (sorted_body s.row rows are)))

-- ---- both in one row

pub all_inserted : (k : Option MapKey) (atoms : List Atom) (rows new : RowsOf) → AreRows rows → AllByRecursion (IsInRow k) atoms
    → new ≡ insert_entry row_cmp rows k (joined_places atoms (with_places atoms (body_of k rows))) → flat new ≡ joined_spots atoms (with_rooms atoms (flat rows))
all_inserted k atoms rows new are all e =
    ap flat e ∙ sym (rooms_joined k rows are.sorted atoms (with_places atoms (body_of k rows)) all)
    ∙ ap (joined_spots atoms) (sym (rooms_made k rows are.sorted atoms (body_of k rows) all) ∙ ap (with_rooms atoms) (as_it_is k rows are.sorted))

pub some_inserted : (k : Option MapKey) (atoms : List Atom) (rows new : RowsOf) → AreRows rows → AllByRecursion (IsInRow k) atoms → RowHasSome atoms k rows new
    → IsPart atoms (λ first. flat new ≡ with_rooms first (flat rows))
some_inserted k atoms rows new are all (inl same) = record { first = []; later = atoms; are = refl; is = ap flat same }
some_inserted k atoms rows new are all (inr part) = record {
  first = part.first;
  later = part.later;
  are = part.are;
  is =
      ap flat part.is
      ∙ sym (rooms_made k rows are.sorted part.first (body_of k rows) (first_of k rows are.sorted part.first part.later (subst (AllByRecursion (IsInRow k)) part.are all)))
      ∙ ap (with_rooms part.first) (as_it_is k rows are.sorted);
}

pub inserted_rows : (k : Option MapKey) (atoms : List Atom) (rows new : RowsOf) → AreRows rows
    → new ≡ insert_entry row_cmp rows k (joined_places atoms (with_places atoms (body_of k rows))) → AreRows new
inserted_rows k atoms rows new are e =
    let b : Said = with_places atoms (body_of k rows) in
    subst AreRows (sym e)
    (rows_put k (joined_places atoms b) rows (subst (IsStrictlySortedBy place_cmp) (sym (joined_keys atoms b)) (places_sorted atoms (body_of k rows) (sorted_body k rows are))) are)

pub some_rows : (k : Option MapKey) (atoms : List Atom) (rows new : RowsOf) → AreRows rows → RowHasSome atoms k rows new → AreRows new
some_rows k atoms rows new are (inl same) = subst AreRows (sym same) are
some_rows k atoms rows new are (inr part) =
    subst AreRows (sym part.is) (rows_put k (with_places part.first (body_of k rows)) rows (places_sorted part.first (body_of k rows) (sorted_body k rows are)) are)

-- ---- as the code goes

pub rest_is : {X : Type 0} (xs : List X) (d : X) → 1 ≤ length xs → xs ≡ get_or xs 0 d ∷ take (length xs - 1) (drop 1 xs)
rest_is [] d few = absurd (omega arith)
rest_is (x ∷ xs) d few = let n : suc (length xs) - 1 ≡ length xs = omega arith in ap (λ l. x ∷ l) (sym (ap (λ k. take k xs) n ∙ take-length xs))

-- place was made for some first ones
pub record Placing (others rest : List Atom) (start now : Said) : Type 0 where
  pub first : List Atom
  pub are : others ≡ first ++ rest
  pub is : now ≡ with_places first start

with_places_on : (first : List Atom) (a : Atom) (b : Said) → with_places (first ++ a ∷ []) b ≡ with_place (room_place (wanted a)) (room_tag (wanted a)) (with_places first b)
with_places_on [] a b = refl
with_places_on (x ∷ first) a b = with_places_on first a (with_place (room_place (wanted x)) (room_tag (wanted x)) b)

pub one_placed : (others rest : List Atom) (a d : Atom) (p : Place) (tag : Option TypeTag) (start now new : Said) → 1 ≤ length rest → a ≡ get_or rest 0 d → Placing others rest start now
    → p ≡ room_place (wanted a) → tag ≡ room_tag (wanted a) → new ≡ with_place p tag now → Placing others (take (length rest - 1) (drop 1 rest)) start new
one_placed others rest a d p tag start now new few item so_far place its_tag e = record {
  first = so_far.first ++ a ∷ [];
  are = so_far.are ∙ ap (λ l. so_far.first ++ l) (rest_is rest d few ∙ ap (λ x. x ∷ take (length rest - 1) (drop 1 rest)) (sym item))
      ∙ sym (append_assoc so_far.first (a ∷ []) (take (length rest - 1) (drop 1 rest)));
  is = e ∙ (λ i. with_place (place i) (its_tag i) (so_far.is i)) ∙ sym (with_places_on so_far.first a start);
}

pub all_placed : (others rest : List Atom) (start now : Said) → length rest < 1 → Placing others rest start now → now ≡ with_places others start
all_placed others [] start now none so_far = so_far.is ∙ ap (λ l. with_places l start) (sym (so_far.are ∙ append-nil so_far.first))
all_placed others (a ∷ rest) start now none so_far = absurd (omega arith)

-- so many of these are of the row
pub record Counting (row : Option MapKey) (atoms rest : List Atom) (count : ℕ) : Type 0 where
  pub first : List Atom
  pub are : atoms ≡ first ++ rest
  pub many : count ≡ length first
  pub of_row : AllByRecursion (IsInRow row) first

both_in : (row : Option MapKey) (xs : List Atom) (a : Atom) → AllByRecursion (IsInRow row) xs → IsInRow row a → AllByRecursion (IsInRow row) (xs ++ a ∷ [])
both_in row [] a all is = (is, tt)
both_in row (x ∷ xs) a all is = (all.0, both_in row xs a all.1 is)

pub one_counted : (row : Option MapKey) (atoms rest : List Atom) (a d : Atom) (count : ℕ) → 1 ≤ length rest → a ≡ get_or rest 0 d → IsInRow row a → Counting row atoms rest count
    → Counting row atoms (take (length rest - 1) (drop 1 rest)) (count + 1)
one_counted row atoms rest a d count few item is so_far = record {
  first = so_far.first ++ a ∷ [];
  are = so_far.are ∙ ap (λ l. so_far.first ++ l) (rest_is rest d few ∙ ap (λ x. x ∷ take (length rest - 1) (drop 1 rest)) (sym item))
      ∙ sym (append_assoc so_far.first (a ∷ []) (take (length rest - 1) (drop 1 rest)));
  many = let n : length (so_far.first ++ a ∷ []) ≡ length so_far.first + 1 = length-append so_far.first (a ∷ []) in omega (arith, so_far.many, n);
  of_row = both_in row so_far.first a so_far.of_row is;
}

pub counted_most : (row : Option MapKey) (atoms rest : List Atom) (count : ℕ) → Counting row atoms rest count → count ≤ length atoms
counted_most row atoms rest count so_far =
    let n : length atoms ≡ length so_far.first + length rest = ap length so_far.are ∙ length-append so_far.first rest in omega (arith, so_far.many, n)

pub counted_run : (row : Option MapKey) (atoms rest : List Atom) (count : ℕ) → Counting row atoms rest count → AllByRecursion (IsInRow row) (take count atoms)
counted_run row atoms rest count so_far =
    subst (AllByRecursion (IsInRow row)) (sym ((λ i. take (so_far.many i) (so_far.are i)) ∙ take-append_seam so_far.first rest)) so_far.of_row

-- what is joined where something is said
pub place_set : (p : Place) (old c : Content) (es : Said) → lookup (is_at (place_cmp p)) es ≡ Some old → set_value (is_at (place_cmp p)) es (joined_content old c) ≡ joined_place p c es
place_set p old c [] there = absurd (none-some old there)
place_set p old c (e ∷ es) there =
    elim (is_eq (place_cmp p e.0)) as (λ t. cond t (Some e.1) (lookup (is_at (place_cmp p)) es) ≡ Some old
    → cond t ((e.0, joined_content old c) ∷ es) (e ∷ set_value (is_at (place_cmp p)) es (joined_content old c)) ≡ cond t ((e.0, joined_content e.1 c) ∷ es) (e ∷ joined_place p c es)) [
      | true ↦ λ h. ap (λ o. (e.0, joined_content o c) ∷ es) (sym (some_is e.1 old h))
      | false ↦ λ h. ap (λ l. e ∷ l) (place_set p old c es h)
    ] there

pub place_none : (p : Place) (c : Content) (es : Said) → lookup (is_at (place_cmp p)) es ≡ None → es ≡ joined_place p c es
place_none p c [] none = refl
place_none p c (e ∷ es) none =
    elim (is_eq (place_cmp p e.0)) as (λ t. cond t (Some e.1) (lookup (is_at (place_cmp p)) es) ≡ None → e ∷ es ≡ cond t ((e.0, joined_content e.1 c) ∷ es) (e ∷ joined_place p c es)) [
      | true ↦ λ h. absurd (none-some e.1 (sym h))
      | false ↦ λ h. ap (λ l. e ∷ l) (place_none p c es h)
    ] none

-- the same of spots
pub spot_set : (s : Spot) (old c : Content) (es : List (Spot × Content)) → lookup (is_at (spot_cmp s)) es ≡ Some old → joined_spot s c es ≡ set_value (is_at (spot_cmp s)) es (joined_content old c)
spot_set s old c [] there = absurd (none-some old there)
spot_set s old c (e ∷ es) there =
    elim (is_eq (spot_cmp s e.0)) as (λ t. cond t (Some e.1) (lookup (is_at (spot_cmp s)) es) ≡ Some old
    → cond t ((e.0, joined_content e.1 c) ∷ es) (e ∷ joined_spot s c es) ≡ cond t ((e.0, joined_content old c) ∷ es) (e ∷ set_value (is_at (spot_cmp s)) es (joined_content old c))) [
      | true ↦ λ h. ap (λ o. (e.0, joined_content o c) ∷ es) (some_is e.1 old h)
      | false ↦ λ h. ap (λ l. e ∷ l) (spot_set s old c es h)
    ] there

joined_places_on : (run : List Atom) (a : Atom) (b : Said) → joined_places (run ++ a ∷ []) b ≡ joined_by (given a) (joined_places run b)
joined_places_on [] a b = refl
joined_places_on (x ∷ run) a b = joined_places_on run a (joined_by (given x) b)

-- one more atom of the row was joined
pub one_more_joined : (row : Option MapKey) (all before after : List Atom) (a : Atom) (start now new : Said) → before ≡ a ∷ after → IsInRow row a
    → JoinsRun row all before (λ run. now ≡ joined_places run start) → new ≡ joined_by (given a) now → JoinsRun row all after (λ run. new ≡ joined_places run start)
one_more_joined row all before after a start now new e is so_far joins = record {
  run = so_far.run ++ a ∷ [];
  are = so_far.are ∙ ap (λ l. so_far.run ++ l) e ∙ sym (append_assoc so_far.run (a ∷ []) after);
  is = (both_in row so_far.run a so_far.is.0 is, joins ∙ ap (joined_by (given a)) so_far.is.1 ∙ sym (joined_places_on so_far.run a start));
}

pub none_joined_yet : (row : Option MapKey) (all after : List Atom) (start now : Said) → after ≡ all → now ≡ start → JoinsRun row all after (λ run. now ≡ joined_places run start)
none_joined_yet row all after start now e same = record { run = []; are = sym e; is = (tt, same) }

pub body_is : (k : Option MapKey) (b : Said) (rows : RowsOf) → lookup (is_at (row_cmp k)) rows ≡ Some b → body_of k rows ≡ b
body_is k b rows there = ap (λ o. unwrap_or o []) there
