-- What is said at the spots of a partition, once more is said at one of them.
use Rattle.std.proofs.Common.{◌≡◌, ℕ, Bool, true, false, cond, Option, None, Some, is_some, List, [], ◌∷◌, ◌++◌, refl, sym, ap, ◌∙◌, subst, append_assoc}
use Rattle.std.proofs.lemmas.Bool.{true≢false}
use Rattle.std.proofs.lemmas.Option.{none-some}
use Rattle.std.proofs.lemmas.Cmp.{tied_itself}
use Rattle.std.specs.Option.{option_cmp, unwrap_or}
use Rattle.std.specs.Cmp.{Equal-is, nat_cmp_total}
use Rattle.std.specs.FinMap.{nat_cmp-IsAntisymmetric}
use Rattle.std.specs.FinMap.Entries.{by_order}
use Rattle.std.specs.List.{AllByRecursion}
use Rattle.std.specs.Map.{lookup, set_value}
use Rattle.std.specs.BTreeMap.{insert_entry, is_at}
use Rattle.std.specs.declared.cmp.Ordering.{Ordering}
use Rattle.std.specs.declared.cmp.Ordering.TheVariants.{Less, Equal, Greater}
use Rattle.std.specs.Ordering.{is_lt, is_gt, is_eq, nat_cmp, ordering_then, match_ordering}
use Rattle.cas_types.specs.Values.{bytes_cmp}
use Rattle.cas_types.specs.declared.tag.TypeTag.{TypeTag}
use Rattle.cas_types.proofs.OrderLaws.{bytes_orders}
use Rattle.cas_cell.specs.Deletions.{deletion_cmp}
use Rattle.cas_cell.specs.Lives.{live_cmp}
use Rattle.cas_cell.specs.Cells.{cell_cmp}
use Rattle.cas_cell.specs.declared.cell.Cell.{Cell}
use Rattle.cas_cell.proofs.OrderLaws.{deletion_laws, live_laws, cell_laws}
use Rattle.cas_bounds.specs.Keys.{key_cmp}
use Rattle.cas_bounds.specs.Inner.KeyLaws.{key_total, key_ties}
use Rattle.cas_bounds.specs.declared.order.Ordered.{Ordered}
use Rattle.cas_bounds.specs.declared.map_key.MapKey.{MapKey}
use Rattle.cas_atoms.specs.Greatest.{greater, greatest}
use Rattle.cas_atoms.specs.Coordinates.{live_at_row, cell_at_path}
use Rattle.cas_atoms.specs.Winners.{cover}
use Rattle.cas_atoms.specs.declared.atom.Atom.{Atom}
use Rattle.cas_atoms.specs.declared.row.RowColumn.{RowColumn}
use Rattle.cas_atoms.specs.declared.row.PathCell.{PathCell}
use Rattle.cas_atoms.proofs.GreatestLemmas.{greater_comm, greatest-append}
use Rattle.cas_laws.proofs.JoinProofs.{cover_joins}
use Rattle.cas_laws.proofs.ShownProofs.{path_orders}
use Rattle.cas_streams.specs.Flat.{own}
use Rattle.cas_streams.specs.Joined.{joined_cell, joined_cells, joined_column, joined_columns, joined_fragment}
use Rattle.cas_streams.specs.declared.fragment.Fragment.{Fragment}
use Rattle.cas_streams.specs.declared.fragment.Fragment.TheVariants as fragment
use Rattle.cas_streams.proofs.Twins.{Twins, twins_delete, twins_live, twins_write}
use Rattle.cas_streams.proofs.Joining.{Alike, alike_then, alike_both}
use Rattle.cas_partition.specs.Spots.{spot_cmp, blank, joined_content, clustering_of, cells_at, columns_at, of_row, piece, said}
use Rattle.cas_partition.specs.Partitions.{said_at, IsRowOf, has_spot, with_spot}
use Rattle.cas_partition.specs.declared.spot.Spot.{Spot}
use Rattle.cas_partition.specs.declared.spot.Content.{Content}

-- ---- lists that are alike

pub alike_itself : (A : List Atom) → Alike A A
alike_itself A = record { covers = λ x. refl; lives = λ c. refl; cells = λ x. refl }

pub alike_is : (A B : List Atom) → A ≡ B → Alike A B
alike_is A B e = subst (Alike A) e (alike_itself A)

swapped : (A B : List Atom) → Alike (A ++ B) (B ++ A)
swapped A B = record {
  covers = λ x. cover_joins A B x ∙ greater_comm deletion_laws.orders (cover A x) (cover B x) ∙ sym (cover_joins B A x);
  lives = λ c. greatest-append live_laws.orders (live_at_row c) A B
      ∙ greater_comm live_laws.orders (greatest live_cmp (live_at_row c) A) (greatest live_cmp (live_at_row c) B) ∙ sym (greatest-append live_laws.orders (live_at_row c) B A);
  cells = λ x. greatest-append cell_laws.orders (cell_at_path x) A B
      ∙ greater_comm cell_laws.orders (greatest cell_cmp (cell_at_path x) A) (greatest cell_cmp (cell_at_path x) B) ∙ sym (greatest-append cell_laws.orders (cell_at_path x) B A);
}

-- the first part took more
pub in_front : (A' A D R : List Atom) → Alike A' (A ++ D) → Alike (A' ++ R) ((A ++ R) ++ D)
in_front A' A D R a =
    alike_then (alike_both a (alike_itself R))
    (alike_then (alike_is ((A ++ D) ++ R) (A ++ (D ++ R)) (append_assoc A D R))
    (alike_then (alike_both (alike_itself A) (swapped D R)) (alike_is (A ++ (R ++ D)) ((A ++ R) ++ D) (sym (append_assoc A R D)))))

-- the last part did
pub at_back : (A C' C D : List Atom) → Alike C' (C ++ D) → Alike (A ++ C') ((A ++ C) ++ D)
at_back A C' C D c = alike_then (alike_both (alike_itself A) c) (alike_is (A ++ (C ++ D)) ((A ++ C) ++ D) (sym (append_assoc A C D)))

-- ---- spots that tie are one

both_equal : (r s : Ordering) → ordering_then r s ≡ Equal → (r ≡ Equal) × (s ≡ Equal)
both_equal Less s e = absurd (true≢false (ap is_lt e))
both_equal Equal s e = (refl, e)
both_equal Greater s e = absurd (true≢false (ap is_gt e))

pub option_ties : {K : Type 0} (R : K → K → Ordering) → ((a b : K) → R a b ≡ Equal → a ≡ b) → (x y : Option K) → option_cmp R x y ≡ Equal → x ≡ y
option_ties R h None None e = refl
option_ties R h None (Some b) e = absurd (true≢false (ap is_lt e))
option_ties R h (Some a) None e = absurd (true≢false (ap is_gt e))
option_ties R h (Some a) (Some b) e = ap Some (h a b e)

pub spot_ties : (s t : Spot) → spot_cmp s t ≡ Equal → s ≡ t
spot_ties s t e =
    let (f, rest) = both_equal _ _ e in
    let (g, h) = both_equal _ _ rest in
    let rows : s.row ≡ t.row = option_ties key_cmp key_ties s.row t.row f in
    let columns : s.column ≡ t.column = option_ties nat_cmp nat_cmp-IsAntisymmetric s.column t.column g in
    let paths : s.path ≡ t.path = option_ties bytes_cmp bytes_orders.ties s.path t.path h in
    λ i. record { row = rows i; column = columns i; path = paths i }

-- ---- pieces of one spot

one_path : (tag : Option TypeTag) (p : List ℕ) (v w : Cell)
    → cells_at (Some p) (greater cell_cmp (Some v) (Some w)) ≡ joined_cells tag (cells_at (Some p) (Some v)) (cells_at (Some p) (Some w))
one_path tag p v w =
    let x : PathCell = record { path = p; cell = v } in
    let y : PathCell = record { path = p; cell = w } in
    ap (λ r. by_order r (x ∷ y ∷ []) (joined_cell x y ∷ []) (y ∷ x ∷ [])) (sym (tied_itself (path_orders tag).total p))

cells_join : (tag : Option TypeTag) (path : Option (List ℕ)) (a b : Option Cell)
    → cells_at path (greater cell_cmp a b) ≡ joined_cells tag (cells_at path a) (cells_at path b)
cells_join tag None a b = refl
cells_join tag (Some p) None None = refl
cells_join tag (Some p) None (Some w) = refl
cells_join tag (Some p) (Some v) None = refl
cells_join tag (Some p) (Some v) (Some w) = one_path tag p v w

columns_join : (column : Option ℕ) (path : Option (List ℕ)) (a b : Content)
    → columns_at column path (joined_content a b) ≡ joined_columns (columns_at column path a) (columns_at column path b)
columns_join None path a b = refl
columns_join (Some n) path a b =
    let c : RowColumn = record { column = record { number = n; path = a.tag }; deletion = a.deletion; cells = cells_at path a.cell } in
    let d : RowColumn = record { column = record { number = n; path = b.tag }; deletion = b.deletion; cells = cells_at path b.cell } in
    (λ i. record { column = c.column; deletion = greater deletion_cmp a.deletion b.deletion; cells = cells_join a.tag path a.cell b.cell i } ∷ [])
    ∙ ap (λ r. by_order r (c ∷ d ∷ []) (joined_column c d ∷ []) (d ∷ c ∷ [])) (sym (tied_itself nat_cmp_total n))

row_join : {X : Type 0} (cmp : X → X → Ordering) (column : Option ℕ) (a b : Option X) → of_row column (greater cmp a b) ≡ greater cmp (of_row column a) (of_row column b)
row_join cmp None a b = refl
row_join cmp (Some n) a b = refl

pub pieces_join : (row : Option MapKey) (column : Option ℕ) (path : Option (List ℕ)) (a b : Content)
    → piece row column path (joined_content a b) ≡ joined_fragment (piece row column path a) (piece row column path b)
pieces_join None column path a b = ap fragment.Static (columns_join column path a b)
pieces_join (Some k) column path a b =
    λ i. fragment.Row (record {
      clustering = clustering_of k;
      deletion = row_join deletion_cmp column a.deletion b.deletion i;
      live = row_join live_cmp column a.live b.live i;
      columns = columns_join column path a b i;
    })

pub twin_pieces : (row : Option MapKey) (column : Option ℕ) (path : Option (List ℕ)) (a b : Content) → Twins (piece row column path a) (piece row column path b)
twin_pieces None column path a b = tt
twin_pieces (Some k) column path a b = refl

pub said_joins : (s : Spot) (a b : Content) → Alike (own (said s (joined_content a b))) (own (said s a) ++ own (said s b))
said_joins s a b =
    let f : Fragment = said s a in
    let g : Fragment = said s b in
    let t : Twins f g = twin_pieces s.row s.column s.path a b in
    let e : said s (joined_content a b) ≡ joined_fragment f g = pieces_join s.row s.column s.path a b in
    record {
      covers = λ x. ap (λ h. cover (own h) x) e ∙ twins_delete x f g t ∙ sym (cover_joins (own f) (own g) x);
      lives = λ c. ap (λ h. greatest live_cmp (live_at_row c) (own h)) e ∙ twins_live c f g t ∙ sym (greatest-append live_laws.orders (live_at_row c) (own f) (own g));
      cells = λ x. ap (λ h. greatest cell_cmp (cell_at_path x) (own h)) e ∙ twins_write x f g t ∙ sym (greatest-append cell_laws.orders (cell_at_path x) (own f) (own g));
    }

pub nothing : (row : Option MapKey) (column : Option ℕ) (path : Option (List ℕ)) (tag : Option TypeTag) → own (piece row column path (blank tag)) ≡ []
nothing None None path tag = refl
nothing None (Some n) None tag = refl
nothing None (Some n) (Some p) tag = refl
nothing (Some k) None path tag = refl
nothing (Some k) (Some n) None tag = refl
nothing (Some k) (Some n) (Some p) tag = refl

-- ---- at the spots of a partition

abbrev pub Entries : Type 0
Entries = List (Spot × Content)

taken : (s k : Spot) (c old new : Content) (R : List Atom) → is_eq (spot_cmp s k) ≡ true → old ≡ c
    → Alike (own (said k (joined_content c new)) ++ R) ((own (said k old) ++ R) ++ own (said s new))
taken s k c old new R hit e =
    let one : k ≡ s = sym (spot_ties s k ((Equal-is (spot_cmp s k)).0 hit)) in
    subst (λ t. Alike (own (said k (joined_content c new)) ++ R) ((own (said k old) ++ R) ++ own (said t new))) one
    (subst (λ d. Alike (own (said k (joined_content c new)) ++ R) ((own (said k d) ++ R) ++ own (said k new))) (sym e)
    (in_front (own (said k (joined_content c new))) (own (said k c)) (own (said k new)) R (said_joins k c new)))

pub set_said : (s : Spot) (c new : Content) (es : Entries) → lookup (is_at (spot_cmp s)) es ≡ Some c
    → Alike (said_at (set_value (is_at (spot_cmp s)) es (joined_content c new))) (said_at es ++ own (said s new))
set_said s c new [] there = absurd (none-some c there)
set_said s c new (e ∷ es) there =
    elim (is_eq (spot_cmp s e.0)) as (λ b. is_eq (spot_cmp s e.0) ≡ b → cond b (Some e.1) (lookup (is_at (spot_cmp s)) es) ≡ Some c
    → Alike (said_at (cond b ((e.0, joined_content c new) ∷ es) (e ∷ set_value (is_at (spot_cmp s)) es (joined_content c new)))) (said_at (e ∷ es) ++ own (said s new))) [
      | true ↦ λ hit h. taken s e.0 c e.1 new (said_at es) hit (ap (λ o. unwrap_or o c) h)
      | false ↦ λ hit h.
          at_back (own (said e.0 e.1)) (said_at (set_value (is_at (spot_cmp s)) es (joined_content c new))) (said_at es) (own (said s new)) (set_said s c new es h)
    ] refl there

put_blank : (s : Spot) (tag : Option TypeTag) (es : Entries) → has_spot s es ≡ false → said_at (insert_entry spot_cmp es s (blank tag)) ≡ said_at es
put_blank s tag [] none = ap (λ l. l ++ []) (nothing s.row s.column s.path tag)
put_blank s tag (e ∷ es) none =
    elim (spot_cmp s e.0) as (λ r. is_some (cond (is_eq r) (Some e.1) (lookup (is_at (spot_cmp s)) es)) ≡ false
    → said_at (match_ordering r ((s, blank tag) ∷ e ∷ es) ((e.0, blank tag) ∷ es) (e ∷ insert_entry spot_cmp es s (blank tag))) ≡ said_at (e ∷ es)) [
      | Less ↦ λ h. ap (λ l. l ++ said_at (e ∷ es)) (nothing s.row s.column s.path tag)
      | Equal ↦ λ h. absurd (true≢false h)
      | Greater ↦ λ h. ap (λ l. own (said e.0 e.1) ++ l) (put_blank s tag es h)
    ] none

pub with_spot_says : (s : Spot) (tag : Option TypeTag) (es : Entries) → said_at (with_spot s tag es) ≡ said_at es
with_spot_says s tag es =
    elim (has_spot s es) as (λ b. has_spot s es ≡ b → said_at (cond b es (insert_entry spot_cmp es s (blank tag))) ≡ said_at es) [
      | true ↦ λ e. refl
      | false ↦ λ e. put_blank s tag es e
    ] refl

-- ---- which spots there are

passed_on : (b : Bool) (v w : Content) (o p : Option Content) → (is_some o ≡ true → is_some p ≡ true) → is_some (cond b (Some v) o) ≡ true → is_some (cond b (Some w) p) ≡ true
passed_on true v w o p h e = refl
passed_on false v w o p h e = h e

put_kept : (t s : Spot) (v : Content) (es : Entries) → has_spot t es ≡ true → has_spot t (insert_entry spot_cmp es s v) ≡ true
put_kept t s v [] e = absurd (true≢false (sym e))
put_kept t s v (f ∷ es) e =
    elim (spot_cmp s f.0) as (λ r. has_spot t (match_ordering r ((s, v) ∷ f ∷ es) ((f.0, v) ∷ es) (f ∷ insert_entry spot_cmp es s v)) ≡ true) [
      | Less ↦ behind (is_eq (spot_cmp t s))
      | Equal ↦ passed_on (is_eq (spot_cmp t f.0)) f.1 v (lookup (is_at (spot_cmp t)) es) (lookup (is_at (spot_cmp t)) es) (λ h. h) e
      | Greater ↦ passed_on (is_eq (spot_cmp t f.0)) f.1 f.1 (lookup (is_at (spot_cmp t)) es) (lookup (is_at (spot_cmp t)) (insert_entry spot_cmp es s v)) (λ h. put_kept t s v es h) e
    ]
  where
    behind : (b : Bool) → is_some (cond b (Some v) (lookup (is_at (spot_cmp t)) (f ∷ es))) ≡ true
    behind true = refl
    behind false = e

spot_itself : (s : Spot) → spot_cmp s s ≡ Equal
spot_itself s =
    (λ i. ordering_then (option_itself key_cmp (tied_itself key_total) s.row i)
    (ordering_then (option_itself nat_cmp (tied_itself nat_cmp_total) s.column i) (option_itself bytes_cmp (tied_itself bytes_orders.total) s.path i)))
  where
    option_itself : {K : Type 0} (R : K → K → Ordering) → ((k : K) → R k k ≡ Equal) → (o : Option K) → option_cmp R o o ≡ Equal
    option_itself R h None = refl
    option_itself R h (Some k) = h k

put_there : (s : Spot) (v : Content) (es : Entries) → has_spot s (insert_entry spot_cmp es s v) ≡ true
put_there s v [] = ap (λ r. is_some (cond (is_eq r) (Some v) None)) (spot_itself s)
put_there s v (f ∷ es) =
    elim (spot_cmp s f.0) as (λ r. spot_cmp s f.0 ≡ r → has_spot s (match_ordering r ((s, v) ∷ f ∷ es) ((f.0, v) ∷ es) (f ∷ insert_entry spot_cmp es s v)) ≡ true) [
      | Less ↦ λ e. ap (λ r. is_some (cond (is_eq r) (Some v) (lookup (is_at (spot_cmp s)) (f ∷ es)))) (spot_itself s)
      | Equal ↦ λ e. ap (λ r. is_some (cond (is_eq r) (Some v) (lookup (is_at (spot_cmp s)) es))) e
      | Greater ↦ λ e. ap (λ r. is_some (cond (is_eq r) (Some f.1) (lookup (is_at (spot_cmp s)) (insert_entry spot_cmp es s v)))) e ∙ put_there s v es
    ] refl

pub with_spot_there : (s : Spot) (tag : Option TypeTag) (es : Entries) → has_spot s (with_spot s tag es) ≡ true
with_spot_there s tag es =
    elim (has_spot s es) as (λ b. has_spot s es ≡ b → has_spot s (cond b es (insert_entry spot_cmp es s (blank tag))) ≡ true) [
      | true ↦ λ e. e
      | false ↦ λ e. put_there s (blank tag) es
    ] refl

pub with_spot_kept : (t s : Spot) (tag : Option TypeTag) (es : Entries) → has_spot t es ≡ true → has_spot t (with_spot s tag es) ≡ true
with_spot_kept t s tag es e =
    elim (has_spot s es) as (λ b. has_spot t (cond b es (insert_entry spot_cmp es s (blank tag))) ≡ true) [
      | true ↦ e
      | false ↦ put_kept t s (blank tag) es e
    ]

pub set_kept : (t : Spot) (test : Spot → Bool) (v : Content) (es : Entries) → has_spot t es ≡ true → has_spot t (set_value test es v) ≡ true
set_kept t test v [] e = e
set_kept t test v (f ∷ es) e =
    elim (test f.0) as (λ b. has_spot t (cond b ((f.0, v) ∷ es) (f ∷ set_value test es v)) ≡ true) [
      | true ↦ passed_on (is_eq (spot_cmp t f.0)) f.1 v (lookup (is_at (spot_cmp t)) es) (lookup (is_at (spot_cmp t)) es) (λ h. h) e
      | false ↦ passed_on (is_eq (spot_cmp t f.0)) f.1 f.1 (lookup (is_at (spot_cmp t)) es) (lookup (is_at (spot_cmp t)) (set_value test es v)) (λ h. set_kept t test v es h) e
    ]

-- ---- rows of the table

abbrev pub Rows : List Ordered → Entries → Type 0
Rows order es = AllByRecursion (λ e. IsRowOf order e.0.row) es

pub set_rows : (order : List Ordered) (test : Spot → Bool) (v : Content) (es : Entries) → Rows order es → Rows order (set_value test es v)
set_rows order test v [] rows = tt
set_rows order test v (f ∷ es) rows =
    elim (test f.0) as (λ b. Rows order (cond b ((f.0, v) ∷ es) (f ∷ set_value test es v))) [
      | true ↦ rows
      | false ↦ (rows.0, set_rows order test v es rows.1)
    ]

put_rows : (order : List Ordered) (s : Spot) (v : Content) (es : Entries) → IsRowOf order s.row → Rows order es → Rows order (insert_entry spot_cmp es s v)
put_rows order s v [] row rows = (row, tt)
put_rows order s v (f ∷ es) row rows =
    elim (spot_cmp s f.0) as (λ r. Rows order (match_ordering r ((s, v) ∷ f ∷ es) ((f.0, v) ∷ es) (f ∷ insert_entry spot_cmp es s v))) [
      | Less ↦ (row, rows)
      | Equal ↦ rows
      | Greater ↦ (rows.0, put_rows order s v es row rows.1)
    ]

pub with_spot_rows : (order : List Ordered) (s : Spot) (tag : Option TypeTag) (es : Entries) → IsRowOf order s.row → Rows order es → Rows order (with_spot s tag es)
with_spot_rows order s tag es row rows =
    elim (has_spot s es) as (λ b. Rows order (cond b es (insert_entry spot_cmp es s (blank tag)))) [
      | true ↦ rows
      | false ↦ put_rows order s (blank tag) es row rows
    ]
