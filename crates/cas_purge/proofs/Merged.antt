-- What stays of a merged stream is merged.
use Rattle.std.proofs.Common.{◌≡◌, ℕ, ◌==◌, Bool, true, false, ◌&&◌, Option, Some, List, [], ◌∷◌, filter, inl, inr, refl, sym, ap, ◌∙◌, subst, arith}
use Rattle.std.proofs.lemmas.Bool.Decides.{nat_tests}
use Rattle.std.specs.Bool.{then_some}
use Rattle.std.specs.Option.{unwrap_or}
use Rattle.std.specs.Ordering.{is_eq}
use Rattle.std.specs.Cmp.Lexicographic.{lists_total}
use Rattle.std.proofs.lemmas.Bool.{true≢false}
use Rattle.std.proofs.lemmas.Cmp.{tied_itself}
use Rattle.cas_types.proofs.OrderLaws.{bytes_orders}
use Rattle.cas_cell.specs.declared.liveness.Liveness.{Liveness}
use Rattle.cas_cell.specs.declared.cell.Cell.{Cell}
use Rattle.cas_cell.proofs.OrderLaws.{live_laws, cell_laws}
use Rattle.cas_bounds.specs.declared.cuts.Clustering.{Clustering}
use Rattle.cas_atoms.specs.Coordinates.{Coordinate, RowKey, row, path, clustered, static_row, same_values, same_bytes, same_row, is_at, live_at_row, cell_at_path}
use Rattle.cas_atoms.specs.Winners.{live_winner, cell_winner}
use Rattle.cas_atoms.specs.declared.atom.ColumnRef.{ColumnRef}
use Rattle.cas_atoms.specs.declared.atom.Atom.{Atom}
use Rattle.cas_atoms.specs.declared.atom.Atom.TheVariants.{PartitionDeletion, RangeDeletion, RowDeletion, CollectionDeletion, Live, Write, StaticWrite, StaticCollectionDeletion}
use Rattle.cas_laws.specs.Given.{Gives, Has}
use Rattle.cas_laws.proofs.GreatestProofs.{no_none}
use Rattle.cas_laws.proofs.ShownProofs.{equal_values, equal_bytes, equal_rows, both_hold}
use Rattle.cas_laws.proofs.OrderedLists.{left}
use Rattle.cas_streams.specs.Merged.{flat_of}
use Rattle.cas_purge.specs.Droppable.{stays}
use Rattle.cas_purge.specs.Purged.{purged}
use Rattle.cas_purge.specs.Laws.{MergedAllWin, PurgeIsMerged}
use Rattle.cas_purge.proofs.Dropping.{purge_drops_droppable}
use Rattle.cas_purge.proofs.Formed.{purge_is_well_formed}
use Rattle.cas_purge.proofs.Lasting.{still_wins}

-- ---- a coordinate is in its own place

same_itself : (c : List (List ℕ)) → same_values c c ≡ true
same_itself c = ap is_eq (tied_itself (lists_total bytes_orders.total) c)

row_itself : (r : RowKey) → same_row r r ≡ true
row_itself static_row = refl
row_itself (clustered c) = same_itself c

number_itself : (n : ℕ) → (n == n) ≡ true
number_itself n = grind (arith, nat_tests)

at_itself : (r : RowKey) (n : ℕ) (p : List ℕ) → is_at r n p (path r n p) ≡ true
at_itself r n p = λ i. row_itself r i && (number_itself n i && ap is_eq (tied_itself bytes_orders.total p) i)

same_number : (m n : ℕ) → (m == n) ≡ true → m ≡ n
same_number m n e = grind (arith, nat_tests)

at_is : (r : RowKey) (n : ℕ) (p : List ℕ) (x : Coordinate) → is_at r n p x ≡ true → x ≡ path r n p
at_is r n p (row c) e = absurd (true≢false (sym e))
at_is r n p (path s m q) e =
    let (in_row, rest) = both_hold (same_row r s) ((n == m) && same_bytes p q) e in
    let (in_column, there) = both_hold (n == m) (same_bytes p q) rest in
    sym (λ i. path (equal_rows r s in_row i) (same_number n m in_column i) (equal_bytes p q there i))

-- ---- which write gives a value

given : {Y : Type 0} (b : Bool) (x y : Y) → then_some b x ≡ Some y → (b ≡ true) × (x ≡ y)
given true x y e = (refl, ap (λ w. unwrap_or w x) e)
given false x y e = no_none y e

live_made : (r : List (List ℕ)) (l : Liveness) (a : Atom) → live_at_row r a ≡ Some l → (c : Clustering) × (a ≡ Live c l) × (c.values ≡ r)
live_made r l (Live c m) e = let (here, is) = given (same_values c.values r) m l e in (c, ap (Live c) is, equal_values c.values r here)
live_made r l (PartitionDeletion _) e = no_none l e
live_made r l (RangeDeletion _ _ _) e = no_none l e
live_made r l (RowDeletion _ _) e = no_none l e
live_made r l (CollectionDeletion _ _ _) e = no_none l e
live_made r l (Write _ _ _ _) e = no_none l e
live_made r l (StaticWrite _ _ _) e = no_none l e
live_made r l (StaticCollectionDeletion _ _) e = no_none l e

live_from : (r : List (List ℕ)) (l : Liveness) (A : List Atom) → Gives (live_at_row r) A l → (c : Clustering) × Has A (Live c l) × (c.values ≡ r)
live_from r l [] none = absurd none
live_from r l (a ∷ A) (inl e) = let (c, is, there) = live_made r l a e in (c, inl is, there)
live_from r l (a ∷ A) (inr later) = let (c, has, there) = live_from r l A later in (c, inr has, there)

-- a write at the coordinate, in a row or in the static one
data Made (x : Coordinate) (v : Cell) : Atom → Type 0 where
  in_row : (c : Clustering) (column : ColumnRef) (p : List ℕ) → x ≡ path (clustered c.values) column.number p → Made x v (Write c column p v)
  in_static : (column : ColumnRef) (p : List ℕ) → x ≡ path static_row column.number p → Made x v (StaticWrite column p v)

cell_made : (x : Coordinate) (v : Cell) (a : Atom) → cell_at_path x a ≡ Some v → Made x v a
cell_made x v (Write c column p w) e =
    let (here, is) = given (is_at (clustered c.values) column.number p x) w v e in
    subst (λ u. Made x v (Write c column p u)) (sym is) (in_row c column p (at_is (clustered c.values) column.number p x here))
cell_made x v (StaticWrite column p w) e =
    let (here, is) = given (is_at static_row column.number p x) w v e in
    subst (λ u. Made x v (StaticWrite column p u)) (sym is) (in_static column p (at_is static_row column.number p x here))
cell_made x v (PartitionDeletion _) e = no_none v e
cell_made x v (RangeDeletion _ _ _) e = no_none v e
cell_made x v (RowDeletion _ _) e = no_none v e
cell_made x v (CollectionDeletion _ _ _) e = no_none v e
cell_made x v (Live _ _) e = no_none v e
cell_made x v (StaticCollectionDeletion _ _) e = no_none v e

cell_from : (x : Coordinate) (v : Cell) (A : List Atom) → Gives (cell_at_path x) A v → (a : Atom) × Has A a × Made x v a
cell_from x v [] none = absurd none
cell_from x v (a ∷ A) (inl e) = (a, inl refl, cell_made x v a e)
cell_from x v (a ∷ A) (inr later) = let (b, has, made) = cell_from x v A later in (b, inr has, made)

-- ---- merged streams

pub merged_all_win : MergedAllWin
merged_all_win columns s m = record {
  lives = λ r l g. let (c, has, there) = live_from r l (flat_of s) g in ap (live_winner (flat_of s)) (sym there) ∙ m.lives c l has;
  cells = λ x v g. let (a, has, made) = cell_from x v (flat_of s) g in wins x v a has made;
}
  where
    wins : (x : Coordinate) (v : Cell) (a : Atom) → Has (flat_of s) a → Made x v a → cell_winner (flat_of s) x ≡ Some v
    wins x v a has (in_row c column p there) = ap (cell_winner (flat_of s)) there ∙ m.cells c column p v has
    wins x v a has (in_static column p there) = ap (cell_winner (flat_of s)) there ∙ m.statics column p v has

has_gives : {Y : Type 0} (f : Atom → Option Y) (a : Atom) (y : Y) → f a ≡ Some y → (A : List Atom) → Has A a → Gives f A y
has_gives f a y e [] none = none
has_gives f a y e (b ∷ A) (inl same) = inl (ap f same ∙ e)
has_gives f a y e (b ∷ A) (inr later) = inr (has_gives f a y e A later)

pub purge_is_merged : PurgeIsMerged
purge_is_merged before limit columns s m =
    let A : List Atom = flat_of s in
    let t : Atom → Bool = stays before limit in
    let B : List Atom = filter t A in
    let e : flat_of (purged before limit s) ≡ B = purge_drops_droppable before limit s in
    record {
      well_formed = purge_is_well_formed before limit columns s m.well_formed;
      lives = λ c l h.
          let has : Has B (Live c l) = subst (λ L. Has L (Live c l)) e h in
          ap (λ L. live_winner L c.values) e
          ∙ still_wins live_laws.orders live_laws.by_time (live_at_row c.values) (row c.values) t A l (m.lives c l (left t (Live c l) A has).0)
          (has_gives (live_at_row c.values) (Live c l) l (ap (λ b. then_some b l) (same_itself c.values)) B has);
      cells = λ c column p v h.
          let x : Coordinate = path (clustered c.values) column.number p in
          let has : Has B (Write c column p v) = subst (λ L. Has L (Write c column p v)) e h in
          ap (λ L. cell_winner L x) e
          ∙ still_wins cell_laws.orders cell_laws.by_time (cell_at_path x) x t A v (m.cells c column p v (left t (Write c column p v) A has).0)
          (has_gives (cell_at_path x) (Write c column p v) v (ap (λ b. then_some b v) (at_itself (clustered c.values) column.number p)) B has);
      statics = λ column p v h.
          let x : Coordinate = path static_row column.number p in
          let has : Has B (StaticWrite column p v) = subst (λ L. Has L (StaticWrite column p v)) e h in
          ap (λ L. cell_winner L x) e
          ∙ still_wins cell_laws.orders cell_laws.by_time (cell_at_path x) x t A v (m.statics column p v (left t (StaticWrite column p v) A has).0)
          (has_gives (cell_at_path x) (StaticWrite column p v) v (ap (λ b. then_some b v) (at_itself static_row column.number p)) B has);
    }
