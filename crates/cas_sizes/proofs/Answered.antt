-- What says no more than atoms has each atom answered by one of those, at the same spot and as long.
use Rattle.std.proofs.Common.{◌≡◌, inl, inr, ℕ, ◌==◌, ◌&&◌, ◌+◌, ◌≤◌, Bool, true, false, Option, Some, List, [], ◌∷◌, ◌++◌, refl, ap, ◌∙◌, subst, arith}
use Rattle.std.proofs.lemmas.Bool.Decides.{nat_tests}
use Rattle.std.proofs.lemmas.Option.{none-some}
use Rattle.std.specs.Bool.{then_some}
use Rattle.std.specs.List.{AllByRecursion, flat_map, sum_by}
use Rattle.std.specs.Option.{unwrap_or}
use Rattle.cas_types.specs.declared.schema.Column.{Column}
use Rattle.cas_cell.specs.declared.cell.Cell.{Cell}
use Rattle.cas_cell.specs.declared.deletion.Deletion.{Deletion}
use Rattle.cas_cell.specs.declared.liveness.Liveness.{Liveness}
use Rattle.cas_atoms.specs.Coordinates.{Coordinate, RowKey, row, path, clustered, static_row, same_row, same_values, same_bytes, is_at, live_at_row, cell_at_path}
use Rattle.cas_atoms.specs.LogLength.{short_length, values_length, deletion_length, cell_length, live_length, atom_length}
use Rattle.cas_atoms.specs.declared.atom.Atom.{Atom}
use Rattle.cas_atoms.specs.declared.atom.Atom.TheVariants.{PartitionDeletion, RangeDeletion, RowDeletion, CollectionDeletion, Live, Write, StaticWrite, StaticCollectionDeletion}
use Rattle.cas_laws.specs.Given.{Gives, Has}
use Rattle.cas_laws.proofs.ShownProofs.{both_hold, equal_values, equal_bytes, equal_rows}
use Rattle.cas_streams.specs.Flat.{atom_of, own, ranges, changes}
use Rattle.cas_streams.specs.Joined.{Stream}
use Rattle.cas_streams.specs.Merged.{flat_of}
use Rattle.cas_streams.specs.NoMore.{Target, partition, range, one_row, one_column, deletion_of, SaysNoMore}
use Rattle.cas_streams.specs.Streams.{WellFormed}
use Rattle.cas_streams.proofs.Weaves.{all_and, all_of}
use Rattle.cas_flush.proofs.Allowing.{where_true, same_itself, column_itself, at_itself}
use Rattle.cas_sizes.proofs.Counting.{Answered, counted}
use Rattle.cas_sizes.proofs.Spots.{Spot, spot_of, stream_apart}

-- ---- what is there only where a test holds

if_true : {X : Type 0} (b : Bool) (x y : X) → then_some b x ≡ Some y → (b ≡ true) × (x ≡ y)
if_true true x y e = (refl, ap (λ o. unwrap_or o x) e)
if_true false x y e = absurd (none-some y e)

equal_numbers : (m n : ℕ) → (m == n) ≡ true → m ≡ n
equal_numbers m n e = grind (arith, nat_tests, e)

-- ---- lengths by spots

-- how many bytes an atom takes in the log; of a range deletion none are counted
abbrev pub weight : Atom → ℕ
weight (RangeDeletion lo hi d) = 0
weight a = atom_length a

abbrev target_length : Target → ℕ
target_length partition = 1 + deletion_length
target_length range = 0
target_length (one_row c) = 1 + (values_length c + deletion_length)
target_length (one_column (clustered c) n) = 1 + (values_length c + (2 + deletion_length))
target_length (one_column static_row n) = 1 + (2 + deletion_length)

abbrev written_length : Coordinate → Cell → ℕ
written_length (row c) v = 0
written_length (path (clustered c) n p) v = 1 + (values_length c + (2 + (short_length p + cell_length v)))
written_length (path static_row n p) v = 1 + (2 + (short_length p + cell_length v))

-- ---- what an atom gives

abbrev IsAt : Spot → ℕ → Atom → Type 0
IsAt s n b = (spot_of b ≡ s) × (n ≤ atom_length b)

deleted : (t : Target) (b : Atom) (d : Deletion) → deletion_of t b ≡ Some d → IsAt (inl t) (target_length t) b
deleted partition (PartitionDeletion x) d e = (refl, omega arith)
deleted range (RangeDeletion lo hi x) d e = (refl, omega arith)
deleted (one_row r) (RowDeletion c x) d e =
    let same : c.values ≡ r = equal_values c.values r (if_true (same_values c.values r) x d e).0 in
    (ap (λ v. inl (one_row v)) same, subst (λ v. target_length (one_row v) ≤ atom_length (RowDeletion c x)) same (omega arith))
deleted (one_column r n) (CollectionDeletion c ref x) d e =
    let is : Bool = same_row (clustered c.values) r in
    let (rows, numbers) = both_hold is (ref.number == n) (if_true (is && (ref.number == n)) x d e).0 in
    let same : clustered c.values ≡ r = equal_rows (clustered c.values) r rows in (
      λ i. inl (one_column (same i) (equal_numbers ref.number n numbers i)),
      subst (λ q. target_length (one_column q n) ≤ atom_length (CollectionDeletion c ref x)) same (omega arith),
    )
deleted (one_column r n) (StaticCollectionDeletion ref x) d e =
    let (rows, numbers) = both_hold (same_row static_row r) (ref.number == n) (if_true (same_row static_row r && (ref.number == n)) x d e).0 in
    let same : static_row ≡ r = equal_rows static_row r rows in (
      λ i. inl (one_column (same i) (equal_numbers ref.number n numbers i)),
      subst (λ q. target_length (one_column q n) ≤ atom_length (StaticCollectionDeletion ref x)) same (omega arith),
    )
deleted t b d e = absurd (none-some d e)

lived : (r : List (List ℕ)) (b : Atom) (l : Liveness) → live_at_row r b ≡ Some l → IsAt (inr (row r)) (1 + (values_length r + live_length l)) b
lived r (Live c m) l e =
    let (rows, is) = if_true (same_values c.values r) m l e in
    let same : c.values ≡ r = equal_values c.values r rows in (
      ap (λ v. inr (row v)) same,
      subst (λ v. 1 + (values_length v + live_length l) ≤ atom_length (Live c m)) same
          (subst (λ k. 1 + (values_length c.values + live_length k) ≤ atom_length (Live c m)) is (omega arith)),
    )
lived r b l e = absurd (none-some l e)

at_path : (s r : RowKey) (m n : ℕ) (q p : List ℕ) (w v : Cell) (b : Atom) → spot_of b ≡ inr (path s m q) → written_length (path s m q) w ≤ atom_length b
    → then_some (is_at s m q (path r n p)) w ≡ Some v → IsAt (inr (path r n p)) (written_length (path r n p) v) b
at_path s r m n q p w v b spot short e =
    let (all, is) = if_true (is_at s m q (path r n p)) w v e in
    let (rows, rest) = both_hold (same_row s r) ((m == n) && same_bytes q p) all in
    let (numbers, paths) = both_hold (m == n) (same_bytes q p) rest in
    let same : s ≡ r = equal_rows s r rows in
    let bytes : q ≡ p = equal_bytes q p paths in (
      spot ∙ (λ i. inr (path (same i) (equal_numbers m n numbers i) (bytes i))),
      subst (λ k. written_length (path r n p) k ≤ atom_length b) is
          (subst (λ z. written_length (path z n p) w ≤ atom_length b) same
          (subst (λ z. written_length (path s n z) w ≤ atom_length b) bytes
          (subst (λ z. written_length (path s z q) w ≤ atom_length b) (equal_numbers m n numbers) short))),
    )

wrote : (x : Coordinate) (b : Atom) (v : Cell) → cell_at_path x b ≡ Some v → IsAt (inr x) (written_length x v) b
wrote (path r n p) (Write c ref q w) v e =
    at_path (clustered c.values) r ref.number n q p w v (Write c ref q w) refl (omega arith) e
wrote (path r n p) (StaticWrite ref q w) v e = at_path static_row r ref.number n q p w v (StaticWrite ref q w) refl (omega arith) e
wrote (row r) (Write c ref q w) v e = absurd (none-some v e)
wrote (row r) (StaticWrite ref q w) v e = absurd (none-some v e)
wrote x b v e = absurd (none-some v e)

-- ---- lists

module _ (B : List Atom) where
  abbrev pub AnsweredBy : Spot → ℕ → Type 0
  AnsweredBy s n = Answered spot_of atom_length B s n

  given : {K : Type 0} (f : Atom → Option K) (k : K) (s : Spot) (n : ℕ) → ((b : Atom) → f b ≡ Some k → IsAt s n b) → (A : List Atom)
      → ((b : Atom) → Has A b → Has B b) → Gives f A k → AnsweredBy s n
  given f k s n h [] of g = absurd g
  given f k s n h (a ∷ A) of (inl e) = let (same, heavy) = h a e in record { one = a; has = of a (inl refl); same = same; heavy = heavy }
  given f k s n h (a ∷ A) of (inr g) = given f k s n h A (λ b has. of b (inr has)) g

  one_answered : (a : Atom) (A : List Atom) → SaysNoMore (a ∷ A) B → AnsweredBy (spot_of a) (weight a)
  one_answered a A m = of a m
    where
      target : (t : Target) (d : Deletion) → Gives (deletion_of t) B d → AnsweredBy (inl t) (target_length t)
      target t d = given (deletion_of t) d (inl t) (target_length t) (λ b e. deleted t b d e) B (λ b has. has)

      cell : (x : Coordinate) (v : Cell) → Gives (cell_at_path x) B v → AnsweredBy (inr x) (written_length x v)
      cell x v = given (cell_at_path x) v (inr x) (written_length x v) (λ b e. wrote x b v e) B (λ b has. has)

      of : (a : Atom) → SaysNoMore (a ∷ A) B → AnsweredBy (spot_of a) (weight a)
      of (PartitionDeletion d) m = target partition d (m.deletions partition d (inl refl))
      of (RangeDeletion lo hi d) m = target range d (m.deletions range d (inl refl))
      of (RowDeletion c d) m =
          target (one_row c.values) d (m.deletions (one_row c.values) d (inl (where_true (same_values c.values c.values) d (same_itself c.values))))
      of (CollectionDeletion c ref d) m =
          let r : RowKey = clustered c.values in
          target (one_column r ref.number) d
          (m.deletions (one_column r ref.number) d (inl (where_true (same_row r r && (ref.number == ref.number)) d (column_itself r ref.number))))
      of (Live c l) m =
          given (live_at_row c.values) l (inr (row c.values)) (1 + (values_length c.values + live_length l)) (λ b e. lived c.values b l e) B (λ b has. has)
          (m.lives c.values l (inl (where_true (same_values c.values c.values) l (same_itself c.values))))
      of (Write c ref p v) m =
          let r : RowKey = clustered c.values in
          let x : Coordinate = path r ref.number p in
          cell x v (m.cells x v (inl (where_true (is_at r ref.number p x) v (at_itself r ref.number p))))
      of (StaticWrite ref p v) m =
          let x : Coordinate = path static_row ref.number p in
          cell x v (m.cells x v (inl (where_true (is_at static_row ref.number p x) v (at_itself static_row ref.number p))))
      of (StaticCollectionDeletion ref d) m =
          target (one_column static_row ref.number) d
          (m.deletions (one_column static_row ref.number) d
          (inl (where_true (same_row static_row static_row && (ref.number == ref.number)) d (column_itself static_row ref.number))))

  pub all_answered : (A : List Atom) → SaysNoMore A B → AllByRecursion (λ a. AnsweredBy (spot_of a) (weight a)) A
  all_answered [] m = tt
  all_answered (a ∷ A) m = (
    one_answered a A m,
    all_answered A (record { lives = λ r l g. m.lives r l (inr g); cells = λ x v g. m.cells x v (inr g); deletions = λ t d g. m.deletions t d (inr g) }),
  )

-- ---- streams

-- what a stream says but for range deletions takes no more than the atoms of which it says no more
pub own_atoms_counted : (columns : List Column) (s : Stream) (B : List Atom) → WellFormed columns s.fragments → SaysNoMore (flat_of s) B
    → sum_by weight (atom_of PartitionDeletion s.top ++ flat_map own s.fragments) ≤ sum_by atom_length B
own_atoms_counted columns s B formed no_more =
    let covered : List Atom = ranges (changes s.fragments) in
    let (top, rest) = all_of Each (atom_of PartitionDeletion s.top) (covered ++ flat_map own s.fragments) (all_answered B (flat_of s) no_more) in
    let (ranged, owned) = all_of Each covered (flat_map own s.fragments) rest in
    counted spot_of weight spot_of atom_length (atom_of PartitionDeletion s.top ++ flat_map own s.fragments) B (stream_apart columns s.top s.fragments formed)
    (all_and Each (atom_of PartitionDeletion s.top) (flat_map own s.fragments) top owned)
  where
    Each : Atom → Type 0
    Each a = AnsweredBy B (spot_of a) (weight a)
