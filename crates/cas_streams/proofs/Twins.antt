-- Fragments at one place are of one kind, and joined they give the greater of what each gives.
use Rattle.std.proofs.Common.{◌≡◌, ℕ, Bool, true, false, cond, Option, None, List, refl, sym, ap, ◌∙◌}
use Rattle.std.proofs.lemmas.Bool.{true≢false}
use Rattle.std.specs.declared.cmp.Ordering.{Ordering}
use Rattle.std.specs.declared.cmp.Ordering.TheVariants.{Equal}
use Rattle.std.specs.Ordering.{is_lt, is_gt}
use Rattle.cas_cell.specs.Deletions.{deletion_cmp}
use Rattle.cas_cell.specs.Lives.{live_cmp}
use Rattle.cas_cell.specs.Cells.{cell_cmp}
use Rattle.cas_cell.specs.declared.deletion.Deletion.{Deletion}
use Rattle.cas_cell.proofs.OrderLaws.{deletion_laws}
use Rattle.cas_bounds.specs.declared.map_key.End.{End}
use Rattle.cas_bounds.specs.declared.map_key.End.TheVariants.{Before, Row, After}
use Rattle.cas_bounds.specs.Points.{row_point, cut_point, side}
use Rattle.cas_bounds.proofs.CutLaws.{point_laws}
use Rattle.cas_atoms.specs.Greatest.{greater, greatest}
use Rattle.cas_atoms.specs.Coordinates.{Coordinate, RowKey, clustered, static_row, row_of, same_row, same_values, live_at_row, cell_at_path}
use Rattle.cas_atoms.specs.Winners.{cover}
use Rattle.cas_streams.specs.Places.{place_of}
use Rattle.cas_streams.specs.Flat.{own}
use Rattle.cas_streams.specs.Joined.{joined_columns, joined_row, joined_fragment, fragment_cmp, raised}
use Rattle.cas_streams.specs.declared.fragment.Fragment.{Fragment}
use Rattle.cas_streams.specs.declared.fragment.Fragment.TheVariants as fragment
use Rattle.cas_streams.proofs.Parts.{columns_delete, columns_live, columns_write, row_deletes, row_lives, row_writes, joined_deletes, joined_writes, deletes_in, cells_in}
use Rattle.cas_streams.proofs.Weaves.{two_by_two}

-- two static rows, one row in both, or two cuts at one point
abbrev pub Twins : Fragment → Fragment → Type 0
Twins (fragment.Static cs) (fragment.Static ds) = Unit {0}
Twins (fragment.Row r) (fragment.Row s) = r.clustering.values ≡ s.clustering.values
Twins (fragment.Marker k d) (fragment.Marker l e) = cut_point k ≡ cut_point l
Twins f g = ⊥

is_row_end : End → Bool
is_row_end Before = false
is_row_end Row = true
is_row_end After = false

no_side : (b : Bool) → is_row_end (side b) ≡ false
unfolding is_row_end
no_side true = refl
no_side false = refl

never : {G : Type 0} (values : List (List ℕ)) (p : List (List ℕ)) (b : Bool) → row_point values ≡ record { end = side b; values = p } → G
unfolding is_row_end
never values p b e = absurd (true≢false (ap (λ q. is_row_end q.end) e ∙ no_side b))

pub twins : (f g : Fragment) → fragment_cmp f g ≡ Equal → Twins f g
twins (fragment.Static cs) (fragment.Static ds) e = tt
twins (fragment.Static cs) (fragment.Row s) e = absurd (true≢false (ap is_lt e))
twins (fragment.Static cs) (fragment.Marker l d) e = absurd (true≢false (ap is_lt e))
twins (fragment.Row r) (fragment.Static ds) e = absurd (true≢false (ap is_gt e))
twins (fragment.Row r) (fragment.Row s) e = ap (λ p. p.values) ((point_laws.orders r.clustering.order).ties (row_point r.clustering.values) (row_point s.clustering.values) e)
twins (fragment.Row r) (fragment.Marker l d) e = never r.clustering.values l.prefix l.after ((point_laws.orders r.clustering.order).ties (row_point r.clustering.values) (cut_point l) e)
twins (fragment.Marker k d) (fragment.Static ds) e = absurd (true≢false (ap is_gt e))
twins (fragment.Marker k d) (fragment.Row s) e = never s.clustering.values k.prefix k.after (sym ((point_laws.orders k.order).ties (cut_point k) (row_point s.clustering.values) e))
twins (fragment.Marker k d) (fragment.Marker l f) e = (point_laws.orders k.order).ties (cut_point k) (cut_point l) e

pub same_place : (f g : Fragment) → place_of (joined_fragment f g) ≡ place_of f
same_place (fragment.Static cs) (fragment.Static ds) = refl
same_place (fragment.Static cs) (fragment.Row s) = refl
same_place (fragment.Static cs) (fragment.Marker l d) = refl
same_place (fragment.Row r) (fragment.Static ds) = refl
same_place (fragment.Row r) (fragment.Row s) = refl
same_place (fragment.Row r) (fragment.Marker l d) = refl
same_place (fragment.Marker k d) (fragment.Static ds) = refl
same_place (fragment.Marker k d) (fragment.Row s) = refl
same_place (fragment.Marker k d) (fragment.Marker l e) = refl

pub raised_place : (other : Option Deletion) (f : Fragment) → place_of (raised other f) ≡ place_of f
raised_place other (fragment.Static cs) = refl
raised_place other (fragment.Row r) = refl
raised_place other (fragment.Marker k d) = refl

pub raised_own : (other : Option Deletion) (f : Fragment) → own (raised other f) ≡ own f
raised_own other (fragment.Static cs) = refl
raised_own other (fragment.Row r) = refl
raised_own other (fragment.Marker k d) = refl

tested : {Y : Type 0} (cmp : Y → Y → Ordering) (b : Bool) (d e : Option Y) → cond b (greater cmp d e) None ≡ greater cmp (cond b d None) (cond b e None)
tested cmp true d e = refl
tested cmp false d e = refl

pub twins_delete : (x : Coordinate) (f g : Fragment) → Twins f g → cover (own (joined_fragment f g)) x ≡ greater deletion_cmp (cover (own f) x) (cover (own g) x)
twins_delete x (fragment.Static cs) (fragment.Static ds) t =
    columns_delete None x (joined_columns cs ds) ∙ joined_deletes static_row x cs ds ∙ (λ i. greater deletion_cmp (sym (columns_delete None x cs) i) (sym (columns_delete None x ds) i))
twins_delete x (fragment.Row r) (fragment.Row s) t =
    let key : RowKey = clustered r.clustering.values in
    let b : Bool = same_row key (row_of x) in
    row_deletes (joined_row r s) x
    ∙ (λ i. greater deletion_cmp (tested deletion_cmp b r.deletion s.deletion i) (joined_deletes key x r.columns s.columns i))
    ∙ two_by_two deletion_laws.orders (cond b r.deletion None) (cond b s.deletion None) (greatest deletion_cmp (deletes_in key x) r.columns) (greatest deletion_cmp (deletes_in key x) s.columns)
    ∙ (λ i. greater deletion_cmp (sym (row_deletes r x) i)
    (greater deletion_cmp (cond (same_row (clustered (t i)) (row_of x)) s.deletion None) (greatest deletion_cmp (deletes_in (clustered (t i)) x) s.columns)))
    ∙ ap (greater deletion_cmp (cover (own (fragment.Row r)) x)) (sym (row_deletes s x))
twins_delete x (fragment.Marker k d) (fragment.Marker l e) t = refl
twins_delete x f g t = absurd t

pub twins_live : (c : List (List ℕ)) (f g : Fragment) → Twins f g → greatest live_cmp (live_at_row c) (own (joined_fragment f g))
    ≡ greater live_cmp (greatest live_cmp (live_at_row c) (own f)) (greatest live_cmp (live_at_row c) (own g))
twins_live c (fragment.Static cs) (fragment.Static ds) t =
    columns_live None c (joined_columns cs ds) ∙ (λ i. greater live_cmp (sym (columns_live None c cs) i) (sym (columns_live None c ds) i))
twins_live c (fragment.Row r) (fragment.Row s) t =
    row_lives (joined_row r s) c ∙ tested live_cmp (same_values r.clustering.values c) r.live s.live
    ∙ (λ i. greater live_cmp (sym (row_lives r c) i) (cond (same_values (t i) c) s.live None)) ∙ ap (greater live_cmp (greatest live_cmp (live_at_row c) (own (fragment.Row r)))) (sym (row_lives s c))
twins_live c (fragment.Marker k d) (fragment.Marker l e) t = refl
twins_live c f g t = absurd t

pub twins_write : (x : Coordinate) (f g : Fragment) → Twins f g → greatest cell_cmp (cell_at_path x) (own (joined_fragment f g))
    ≡ greater cell_cmp (greatest cell_cmp (cell_at_path x) (own f)) (greatest cell_cmp (cell_at_path x) (own g))
twins_write x (fragment.Static cs) (fragment.Static ds) t =
    columns_write None x (joined_columns cs ds) ∙ joined_writes static_row x cs ds ∙ (λ i. greater cell_cmp (sym (columns_write None x cs) i) (sym (columns_write None x ds) i))
twins_write x (fragment.Row r) (fragment.Row s) t =
    row_writes (joined_row r s) x ∙ joined_writes (clustered r.clustering.values) x r.columns s.columns
    ∙ (λ i. greater cell_cmp (sym (row_writes r x) i) (greatest cell_cmp (cells_in (clustered (t i)) x) s.columns))
    ∙ ap (greater cell_cmp (greatest cell_cmp (cell_at_path x) (own (fragment.Row r)))) (sym (row_writes s x))
twins_write x (fragment.Marker k d) (fragment.Marker l e) t = refl
twins_write x f g t = absurd t
