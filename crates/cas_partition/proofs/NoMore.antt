-- A partition says no more than the atoms that were joined to it, and a slice of it no more than the partition.
use Rattle.std.proofs.Common.{◌≡◌, ℕ, Bool, true, false, cond, not, ◌&&◌, Option, None, Some, List, [], ◌∷◌, ◌++◌, map, filter, refl, sym, ap, subst}
use Rattle.std.proofs.lemmas.Option.{none-some}
use Rattle.std.specs.Option.{unwrap_or}
use Rattle.std.specs.Cmp.{Equal-is}
use Rattle.std.specs.List.{AllByRecursion}
use Rattle.std.specs.Map.{lookup, set_value}
use Rattle.std.specs.BTreeMap.{insert_entry, is_at}
use Rattle.std.specs.declared.cmp.Ordering.TheVariants.{Less, Equal, Greater}
use Rattle.std.specs.Ordering.{is_eq, is_lt, is_le, match_ordering}
use Rattle.cas_types.specs.declared.tag.TypeTag.{TypeTag}
use Rattle.cas_cell.specs.Deletions.{deletion_cmp}
use Rattle.cas_cell.specs.declared.deletion.Deletion.{Deletion}
use Rattle.cas_bounds.specs.Keys.{key_cmp}
use Rattle.cas_bounds.specs.declared.cuts.Cut.{Cut}
use Rattle.cas_bounds.specs.declared.cuts.Slice.{Slice}
use Rattle.cas_bounds.specs.declared.map_key.MapKey.{MapKey}
use Rattle.cas_atoms.specs.Greatest.{greater}
use Rattle.cas_atoms.specs.declared.atom.Atom.{Atom}
use Rattle.cas_atoms.specs.declared.atom.Atom.TheVariants.{PartitionDeletion, RangeDeletion}
use Rattle.cas_streams.specs.Flat.{Change, atom_of, own, after, at_end, ranges}
use Rattle.cas_streams.specs.Merged.{merged, flat_of}
use Rattle.cas_streams.specs.NoMore.{SaysNoMore}
use Rattle.cas_streams.specs.declared.fragment.Fragment.{Fragment}
use Rattle.cas_streams.proofs.Weaves.{all_and, all_of, all_filter}
use Rattle.cas_streams.proofs.NoMore.{ByPlace, Force, Says, force_greater, joined_says, all_greater, all_changes, all_ranges, holds_merged, says_no_more}
use Rattle.cas_partition.specs.Ranges.{key_of, raised, has_cut, inserted, with_cut, lies, is_above, is_below, change_at, clipped}
use Rattle.cas_partition.specs.Spots.{spot_cmp, blank, joined_content, piece, said}
use Rattle.cas_partition.specs.Partitions.{said_at, atoms_with, partition_atoms, marker, has_spot, with_spot}
use Rattle.cas_partition.specs.Ranged.{piece_of, statics_of, rows_between, spot_at, below_rows}
use Rattle.cas_partition.specs.Slices.{AreRowsOf, slice_pieces, slice_streams}
use Rattle.cas_partition.specs.declared.spot.Spot.{Spot}
use Rattle.cas_partition.specs.declared.spot.Content.{Content}
use Rattle.cas_partition.specs.declared.partition.Partition.{Partition}
use Rattle.cas_partition.proofs.Saying.{Entries, spot_ties, pieces_join, twin_pieces, nothing}
use Rattle.cas_partition.proofs.Slicing.{halves_each}

module _ (Q : Atom → Type 0) (q : ByPlace Q) where
  abbrev pub All : List Atom → Type 0
  All atoms = AllByRecursion Q atoms

  -- ---- what is said at a spot

  abbrev Entry : Spot × Content → Type 0
  Entry e = Says Q q (piece_of e)

  from_own : (row : Option MapKey) (column : Option ℕ) (path : Option (List ℕ)) (c : Content) → All (own (piece row column path c)) → Says Q q (piece row column path c)
  from_own None column path c a = a
  from_own (Some k) column path c a = a

  to_own : (row : Option MapKey) (column : Option ℕ) (path : Option (List ℕ)) (c : Content) → Says Q q (piece row column path c) → All (own (piece row column path c))
  to_own None column path c a = a
  to_own (Some k) column path c a = a

  from_said : (es : Entries) → All (said_at es) → AllByRecursion Entry es
  from_said [] a = tt
  from_said (e ∷ es) a = let (b, c) = all_of Q (own (piece_of e)) (said_at es) a in (from_own e.0.row e.0.column e.0.path e.1 b, from_said es c)

  to_said : (es : Entries) → AllByRecursion Entry es → All (said_at es)
  to_said [] a = tt
  to_said (e ∷ es) a = all_and Q (own (piece_of e)) (said_at es) (to_own e.0.row e.0.column e.0.path e.1 a.0) (to_said es a.1)

  -- ---- a partition in its parts

  pub record Parts (top : Option Deletion) (ms : List Change) (es : Entries) : Type 0 where
    pub whole : All (atom_of PartitionDeletion top)
    pub forces : AllByRecursion (λ m. Force Q q m.to) ms
    pub spots : AllByRecursion Entry es

  pub in_parts : (top : Option Deletion) (ms : List Change) (es : Entries) → at_end None ms ≡ None → All (atoms_with top ms es) → Parts top ms es
  in_parts top ms es closed a =
      let (b, rest) = all_of Q (atom_of PartitionDeletion top) (ranges ms ++ said_at es) a in
      let (c, d) = all_of Q (ranges ms) (said_at es) rest in
      record { whole = b; forces = all_changes Q q ms closed c; spots = from_said es d }

  pub of_parts : (top : Option Deletion) (ms : List Change) (es : Entries) → Parts top ms es → All (atoms_with top ms es)
  of_parts top ms es p =
      all_and Q (atom_of PartitionDeletion top) (ranges ms ++ said_at es) p.whole (all_and Q (ranges ms) (said_at es) (all_ranges Q q ms p.forces) (to_said es p.spots))

  -- ---- changes

  no_force : Force Q q None
  no_force lo hi = tt

  inserted_forces : (now : Option Deletion) → Force Q q now → (c : Cut) (ms : List Change) → AllByRecursion (λ m. Force Q q m.to) ms → AllByRecursion (λ m. Force Q q m.to) (inserted now c ms)
  inserted_forces now f c [] a = (f, tt)
  inserted_forces now f c (m ∷ ms) a =
      elim (is_lt (key_cmp (key_of c) (key_of m.at))) as (λ b. AllByRecursion (λ m. Force Q q m.to) (cond b (record { at = c; to = now } ∷ m ∷ ms) (m ∷ inserted m.to c ms))) [
        | true ↦ (f, a)
        | false ↦ (a.0, inserted_forces m.to a.0 c ms a.1)
      ]

  pub with_cut_forces : (c : Cut) (ms : List Change) → AllByRecursion (λ m. Force Q q m.to) ms → AllByRecursion (λ m. Force Q q m.to) (with_cut c ms)
  with_cut_forces c ms a =
      elim (has_cut c ms) as (λ b. AllByRecursion (λ m. Force Q q m.to) (cond b ms (inserted None c ms))) [
        | true ↦ a
        | false ↦ inserted_forces None no_force c ms a
      ]

  pub raised_forces : (passes : Cut → Bool) (d : Deletion) → Force Q q (Some d) → (ms : List Change) → AllByRecursion (λ m. Force Q q m.to) ms → AllByRecursion (λ m. Force Q q m.to) (raised passes d ms)
  raised_forces passes d f [] a = tt
  raised_forces passes d f (m ∷ ms) a = (
    elim (passes m.at) as (λ b. Force Q q (cond b (greater deletion_cmp m.to (Some d)) m.to)) [ true ↦ force_greater Q q m.to (Some d) a.0 f | false ↦ a.0 ],
    raised_forces passes d f ms a.1,
  )

  after_force : (passes : Cut → Bool) (now : Option Deletion) → Force Q q now → (ms : List Change) → AllByRecursion (λ m. Force Q q m.to) ms → Force Q q (after passes now ms)
  after_force passes now f [] a = f
  after_force passes now f (m ∷ ms) a =
      after_force passes (cond (passes m.at) m.to now) (elim (passes m.at) as (λ b. Force Q q (cond b m.to now)) [ true ↦ a.0 | false ↦ f ]) ms a.1

  changed_forces : (c : Cut) (here to : Option Deletion) → Force Q q to → AllByRecursion (λ m. Force Q q m.to) (change_at c here to)
  changed_forces c None to f = tt
  changed_forces c (Some d) to f = (f, tt)

  clipped_forces : (s : Slice) (ms : List Change) → AllByRecursion (λ m. Force Q q m.to) ms → AllByRecursion (λ m. Force Q q m.to) (clipped s ms)
  clipped_forces s ms a =
      let first : Option Deletion = after (λ c. not (is_above s.lo c)) None ms in
      let last : Option Deletion = after (is_below s.hi) None ms in
      let amid : List Change = filter (λ m. is_above s.lo m.at && is_below s.hi m.at) ms in
      elim (is_above s.lo s.hi) as (λ b. AllByRecursion (λ m. Force Q q m.to) (cond b (change_at s.lo first first ++ (amid ++ change_at s.hi last None)) [])) [
        | true ↦ all_and (λ m. Force Q q m.to) (change_at s.lo first first) (amid ++ change_at s.hi last None) (changed_forces s.lo first first (after_force (λ c. not (is_above s.lo c)) None no_force ms a))
            (all_and (λ m. Force Q q m.to) amid (change_at s.hi last None) (all_filter (λ m. Force Q q m.to) (λ m. is_above s.lo m.at && is_below s.hi m.at) ms a) (changed_forces s.hi last None no_force))
        | false ↦ tt
      ]

  -- ---- spots

  joined_entry : (t : Spot) (c new : Content) → Entry (t, c) → Entry (t, new) → Entry (t, joined_content c new)
  joined_entry t c new a b =
      subst (Says Q q) (sym (pieces_join t.row t.column t.path c new)) (joined_says Q q (said t c) (said t new) (twin_pieces t.row t.column t.path c new) a b)

  pub set_entries : (s : Spot) (c new : Content) (es : Entries) → lookup (is_at (spot_cmp s)) es ≡ Some c → Entry (s, new) → AllByRecursion Entry es
      → AllByRecursion Entry (set_value (is_at (spot_cmp s)) es (joined_content c new))
  set_entries s c new [] there i all = absurd (none-some c there)
  set_entries s c new (e ∷ es) there i all =
      elim (is_eq (spot_cmp s e.0)) as (λ b. is_eq (spot_cmp s e.0) ≡ b → cond b (Some e.1) (lookup (is_at (spot_cmp s)) es) ≡ Some c
      → AllByRecursion Entry (cond b ((e.0, joined_content c new) ∷ es) (e ∷ set_value (is_at (spot_cmp s)) es (joined_content c new)))) [
        | true ↦ λ hit h. (
          joined_entry e.0 c new (subst (λ d. Entry (e.0, d)) (ap (λ o. unwrap_or o c) h) all.0) (subst (λ t. Entry (t, new)) (spot_ties s e.0 ((Equal-is (spot_cmp s e.0)).0 hit)) i),
          all.1,
        )
        | false ↦ λ hit h. (all.0, set_entries s c new es h i all.1)
      ] refl there

  blank_entry : (s : Spot) (tag : Option TypeTag) → Entry (s, blank tag)
  blank_entry s tag = from_own s.row s.column s.path (blank tag) (subst All (sym (nothing s.row s.column s.path tag)) tt)

  put_entries : (s : Spot) (tag : Option TypeTag) (es : Entries) → AllByRecursion Entry es → AllByRecursion Entry (insert_entry spot_cmp es s (blank tag))
  put_entries s tag [] all = (blank_entry s tag, tt)
  put_entries s tag (f ∷ es) all =
      elim (spot_cmp s f.0) as (λ r. AllByRecursion Entry (match_ordering r ((s, blank tag) ∷ f ∷ es) ((f.0, blank tag) ∷ es) (f ∷ insert_entry spot_cmp es s (blank tag)))) [
        | Less ↦ (blank_entry s tag, all)
        | Equal ↦ (blank_entry f.0 tag, all.1)
        | Greater ↦ (all.0, put_entries s tag es all.1)
      ]

  pub with_spot_entries : (s : Spot) (tag : Option TypeTag) (es : Entries) → AllByRecursion Entry es → AllByRecursion Entry (with_spot s tag es)
  with_spot_entries s tag es all =
      elim (has_spot s es) as (λ b. AllByRecursion Entry (cond b es (insert_entry spot_cmp es s (blank tag)))) [
        | true ↦ all
        | false ↦ put_entries s tag es all
      ]

  -- the addition of an atom that is kept at a spot
  pub added_entry : (s : Spot) (c : Content) → All (own (said s c)) → Entry (s, c)
  added_entry s c a = from_own s.row s.column s.path c a

  -- ---- slices

  pieces_say : (es : Entries) → AllByRecursion Entry es → AllByRecursion (Says Q q) (map piece_of es)
  pieces_say [] all = tt
  pieces_say (e ∷ es) all = (all.0, pieces_say es all.1)

  markers_say : (ms : List Change) → AllByRecursion (λ m. Force Q q m.to) ms → AllByRecursion (Says Q q) (map marker ms)
  markers_say [] all = tt
  markers_say (m ∷ ms) all = (all.0, markers_say ms all.1)

  slice_says : (s : Slice) (p : Partition) (rows : List Fragment) → AreRowsOf (slice_pieces s p) rows → Parts p.top p.ranges p.spots → All (flat_of (merged (slice_streams s p rows)))
  slice_says s p rows are parts =
      let S : Entries = statics_of p.spots in
      let B : Entries = rows_between s.lo s.hi p.spots in
      let pieces : AllByRecursion (Says Q q) (slice_pieces s p) =
      pieces_say (S ++ B) (all_and Entry S B (all_filter Entry (λ e. true && not (is_le (spot_cmp (spot_at below_rows) e.0))) p.spots parts.spots)
      (all_filter Entry (λ e. is_le (spot_cmp (spot_at (key_of s.lo)) e.0) && not (is_le (spot_cmp (spot_at (key_of s.hi)) e.0))) p.spots parts.spots)) in
      holds_merged Q q (slice_streams s p rows) (
        (parts.whole, subst (AllByRecursion (Says Q q)) are.2 (halves_each (Says Q q) (joined_says Q q) are.0 (subst (AllByRecursion (Says Q q)) (sym are.1) pieces))),
        ((tt, markers_say (clipped s p.ranges) (clipped_forces s p.ranges parts.forces)), tt),
      )

-- ---- of partitions

-- where each fact of that kind stays, the partition says no more than it did
pub same_no_more : (p : Partition) (top : Option Deletion) (ms : List Change) (es : Entries) → at_end None p.ranges ≡ None
    → ((Q : Atom → Type 0) (q : ByPlace Q) → Parts Q q p.top p.ranges p.spots → Parts Q q top ms es) → SaysNoMore (atoms_with top ms es) (partition_atoms p)
same_no_more p top ms es closed h =
    says_no_more (atoms_with top ms es) (partition_atoms p) (λ Q q a. of_parts Q q top ms es (h Q q (in_parts Q q p.top p.ranges p.spots closed a)))

-- no more than it did, and an atom
pub joined_no_more : (p : Partition) (A : List Atom) (top : Option Deletion) (ms : List Change) (es : Entries) → at_end None p.ranges ≡ None
    → ((Q : Atom → Type 0) (q : ByPlace Q) → Parts Q q p.top p.ranges p.spots → AllByRecursion Q A → Parts Q q top ms es) → SaysNoMore (atoms_with top ms es) (partition_atoms p ++ A)
joined_no_more p A top ms es closed h =
    says_no_more (atoms_with top ms es) (partition_atoms p ++ A)
    (λ Q q a. let (b, c) = all_of Q (partition_atoms p) A a in of_parts Q q top ms es (h Q q (in_parts Q q p.top p.ranges p.spots closed b) c))

pub one_cut_no_more : (p : Partition) (lo : Cut) → at_end None p.ranges ≡ None → SaysNoMore (atoms_with p.top (with_cut lo p.ranges) p.spots) (partition_atoms p)
one_cut_no_more p lo closed =
    same_no_more p p.top (with_cut lo p.ranges) p.spots closed (λ Q q b. record { whole = b.whole; forces = with_cut_forces Q q lo p.ranges b.forces; spots = b.spots })

pub both_cuts_no_more : (p : Partition) (lo hi : Cut) → at_end None p.ranges ≡ None → SaysNoMore (atoms_with p.top (with_cut hi (with_cut lo p.ranges)) p.spots) (partition_atoms p)
both_cuts_no_more p lo hi closed =
    same_no_more p p.top (with_cut hi (with_cut lo p.ranges)) p.spots closed
    (λ Q q b. record { whole = b.whole; forces = with_cut_forces Q q hi (with_cut lo p.ranges) (with_cut_forces Q q lo p.ranges b.forces); spots = b.spots })

pub one_spot_no_more : (p : Partition) (s : Spot) (tag : Option TypeTag) → at_end None p.ranges ≡ None
    → SaysNoMore (atoms_with p.top p.ranges (with_spot s tag p.spots)) (partition_atoms p)
one_spot_no_more p s tag closed =
    same_no_more p p.top p.ranges (with_spot s tag p.spots) closed (λ Q q b. record { whole = b.whole; forces = b.forces; spots = with_spot_entries Q q s tag p.spots b.spots })

pub whole_no_more : (p : Partition) (d : Deletion) → at_end None p.ranges ≡ None
    → SaysNoMore (atoms_with (greater deletion_cmp p.top (Some d)) p.ranges p.spots) (partition_atoms p ++ PartitionDeletion d ∷ [])
whole_no_more p d closed =
    joined_no_more p (PartitionDeletion d ∷ []) (greater deletion_cmp p.top (Some d)) p.ranges p.spots closed
    (λ Q q b c. record { whole = all_greater Q q deletion_cmp PartitionDeletion p.top (Some d) b.whole c; forces = b.forces; spots = b.spots })

pub range_no_more : (p : Partition) (lo hi : Cut) (d : Deletion) → at_end None p.ranges ≡ None
    → SaysNoMore (atoms_with p.top (raised (lies lo hi) d p.ranges) p.spots) (partition_atoms p ++ RangeDeletion lo hi d ∷ [])
range_no_more p lo hi d closed =
    joined_no_more p (RangeDeletion lo hi d ∷ []) p.top (raised (lies lo hi) d p.ranges) p.spots closed
    (λ Q q b c. record { whole = b.whole; forces = raised_forces Q q (lies lo hi) d (λ k l. (q.ranges lo hi k l d c.0, tt)) p.ranges b.forces; spots = b.spots })

pub spot_no_more : (p : Partition) (s : Spot) (old c : Content) → lookup (is_at (spot_cmp s)) p.spots ≡ Some old → at_end None p.ranges ≡ None
    → SaysNoMore (atoms_with p.top p.ranges (set_value (is_at (spot_cmp s)) p.spots (joined_content old c))) (partition_atoms p ++ own (said s c))
spot_no_more p s old c there closed =
    joined_no_more p (own (said s c)) p.top p.ranges (set_value (is_at (spot_cmp s)) p.spots (joined_content old c)) closed
    (λ Q q b a. record { whole = b.whole; forces = b.forces; spots = set_entries Q q s old c p.spots there (added_entry Q q s c a) b.spots })

pub slice_no_more : (s : Slice) (p : Partition) (rows : List Fragment) → AreRowsOf (slice_pieces s p) rows → at_end None p.ranges ≡ None
    → SaysNoMore (flat_of (merged (slice_streams s p rows))) (partition_atoms p)
slice_no_more s p rows are closed =
    says_no_more (flat_of (merged (slice_streams s p rows))) (partition_atoms p) (λ Q q a. slice_says Q q s p rows are (in_parts Q q p.top p.ranges p.spots closed a))
