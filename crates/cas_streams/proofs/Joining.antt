-- Two streams joined: ordered as they are, and saying what both say.
use Rattle.std.proofs.Common.{◌≡◌, ℕ, Bool, true, false, Option, None, List, ◌++◌, refl, sym, ap, ◌∙◌}
use Rattle.std.proofs.lemmas.Bool.{true≢false}
use Rattle.std.specs.List.{flat_map}
use Rattle.std.specs.declared.cmp.Ordering.{Ordering}
use Rattle.cas_types.specs.Orders.{Orders}
use Rattle.cas_cell.specs.Deletions.{deletion_cmp}
use Rattle.cas_cell.specs.Lives.{live_at, live_cmp}
use Rattle.cas_cell.specs.Cells.{cell_at, cell_cmp}
use Rattle.cas_cell.specs.declared.deletion.Deletion.{Deletion}
use Rattle.cas_cell.proofs.OrderLaws.{deletion_laws, live_laws, cell_laws}
use Rattle.cas_bounds.specs.Cuts.{is_past}
use Rattle.cas_bounds.specs.Points.{cut_point, side}
use Rattle.cas_bounds.specs.declared.order.Ordered.{Ordered}
use Rattle.cas_bounds.specs.declared.cuts.Cut.{Cut}
use Rattle.cas_bounds.specs.declared.map_key.End.{End}
use Rattle.cas_bounds.specs.declared.map_key.End.TheVariants as end
use Rattle.cas_atoms.specs.Greatest.{greater, greatest}
use Rattle.cas_atoms.specs.Coordinates.{Coordinate, RowKey, row, clustered, static_row, row_of, deletion_at, live_at_row, cell_at_path}
use Rattle.cas_atoms.specs.Winners.{cover, standing, Same}
use Rattle.cas_atoms.specs.declared.atom.Atom.{Atom}
use Rattle.cas_atoms.specs.declared.atom.Atom.TheVariants.{PartitionDeletion, RangeDeletion}
use Rattle.cas_atoms.proofs.GreatestLemmas.{greatest-append}
use Rattle.cas_laws.proofs.JoinProofs.{cover_joins, winner_is}
use Rattle.cas_streams.specs.Places.{place_cmp, place_of}
use Rattle.cas_streams.specs.Flat.{in_force, own}
use Rattle.cas_streams.specs.Streams.{IsOf, IsOrdered}
use Rattle.cas_streams.specs.Joined.{raised, joined_fragment, by_place, Stream, joined}
use Rattle.cas_streams.specs.Merged.{flat_of}
use Rattle.cas_streams.specs.declared.fragment.Fragment.{Fragment}
use Rattle.cas_streams.specs.declared.fragment.Fragment.TheVariants as fragment
use Rattle.cas_streams.proofs.InOrder.{not_past_later}
use Rattle.cas_streams.proofs.Rows.{stream_covers, stream_gives}
use Rattle.cas_streams.proofs.Weaves.{keys_ascend, ascend_by_keys, woven_all, woven_ascend, woven_gives, two_by_two}
use Rattle.cas_streams.proofs.Parts.{greatest_of_each}
use Rattle.cas_streams.proofs.Twins.{Twins, twins, same_place, raised_place, raised_own, twins_delete, twins_live, twins_write}
use Rattle.cas_streams.proofs.Forces.{forces, Falls, AtPoints, InOrder, as_places, places_total, woven_after}

-- ---- lists of which the greatest are the same

pub record Alike (A B : List Atom) : Type 0 where
  pub covers : (x : Coordinate) → cover A x ≡ cover B x
  pub lives : (c : List (List ℕ)) → greatest live_cmp (live_at_row c) A ≡ greatest live_cmp (live_at_row c) B
  pub cells : (x : Coordinate) → greatest cell_cmp (cell_at_path x) A ≡ greatest cell_cmp (cell_at_path x) B

pub alike_then : {A B C : List Atom} → Alike A B → Alike B C → Alike A C
alike_then a b = record { covers = λ x. a.covers x ∙ b.covers x; lives = λ c. a.lives c ∙ b.lives c; cells = λ x. a.cells x ∙ b.cells x }

pub alike_both : {A B C D : List Atom} → Alike A B → Alike C D → Alike (A ++ C) (B ++ D)
alike_both {A = A} {B = B} {C = C} {D = D} a c = record {
  covers = λ x. cover_joins A C x ∙ (λ i. greater deletion_cmp (a.covers x i) (c.covers x i)) ∙ sym (cover_joins B D x);
  lives = λ r. greatest-append live_laws.orders (live_at_row r) A C ∙ (λ i. greater live_cmp (a.lives r i) (c.lives r i)) ∙ sym (greatest-append live_laws.orders (live_at_row r) B D);
  cells = λ x. greatest-append cell_laws.orders (cell_at_path x) A C ∙ (λ i. greater cell_cmp (a.cells x i) (c.cells x i)) ∙ sym (greatest-append cell_laws.orders (cell_at_path x) B D);
}

pub alike_same : {A B : List Atom} → Alike A B → Same A B
alike_same {A = A} {B = B} a = record {
  covers = a.covers;
  lives = λ c. winner_is live_laws.orders live_laws.by_time (live_at_row c) (row c) A ∙ (λ i. standing live_at (a.covers (row c) i) (a.lives c i)) ∙ sym (winner_is live_laws.orders live_laws.by_time (live_at_row c) (row c) B);
  cells = λ x. winner_is cell_laws.orders cell_laws.by_time (cell_at_path x) x A ∙ (λ i. standing cell_at (a.covers x i) (a.cells x i)) ∙ sym (winner_is cell_laws.orders cell_laws.by_time (cell_at_path x) x B);
}

-- ---- tests of cuts

is_after : End → Bool
is_after end.Before = false
is_after end.Row = false
is_after end.After = true

same_end : (p q : Bool) → side p ≡ side q → p ≡ q
unfolding is_after
same_end false false e = refl
same_end true true e = refl
same_end false true e = absurd (true≢false (sym (ap is_after e)))
same_end true false e = absurd (true≢false (ap is_after e))

same_cut : (order : List Ordered) (k l : Cut) → k.order ≡ order → l.order ≡ order → cut_point k ≡ cut_point l → k ≡ l
same_cut order k l e f same =
    let orders : k.order ≡ l.order = e ∙ sym f in
    let sides : k.after ≡ l.after = same_end k.after l.after (ap (λ p. p.end) same) in
    λ i. record { prefix = (same i).values; after = sides i; order = orders i }

pub at_points : (order : List Ordered) (t : Cut → Bool) → AtPoints order t
at_points order t k l e f same = ap t (same_cut order k l e f same)

pub always_falls : (order : List Ordered) → Falls order (λ cut. true)
always_falls order k l e f below none = none

pub past_falls : (order : List Ordered) (c : List (List ℕ)) → Falls order (λ cut. is_past cut c)
past_falls order c k l e f below none = not_past_later order k l c e f below none

-- ---- two streams

pub in_order : {order : List Ordered} {fs : List Fragment} → IsOrdered order fs → InOrder order fs
in_order {order = order} {fs = fs} o = record { ascend = ascend_by_keys (place_cmp order) place_of fs o.places; of = o.of }

raised_of : (order : List Ordered) (other : Option Deletion) (f : Fragment) → IsOf order f → IsOf order (raised other f)
raised_of order other (fragment.Static cs) of = tt
raised_of order other (fragment.Row r) of = of
raised_of order other (fragment.Marker k d) of = of

joined_of : (order : List Ordered) (f g : Fragment) → IsOf order f → IsOf order (joined_fragment f g)
joined_of order (fragment.Static cs) (fragment.Static ds) of = tt
joined_of order (fragment.Static cs) (fragment.Row s) of = tt
joined_of order (fragment.Static cs) (fragment.Marker l d) of = tt
joined_of order (fragment.Row r) (fragment.Static ds) of = of
joined_of order (fragment.Row r) (fragment.Row s) of = of
joined_of order (fragment.Row r) (fragment.Marker l d) of = of
joined_of order (fragment.Marker k d) (fragment.Static ds) of = of
joined_of order (fragment.Marker k d) (fragment.Row s) of = of
joined_of order (fragment.Marker k d) (fragment.Marker l e) of = of

module _ {order : List Ordered} (a b : Stream) (p : IsOrdered order a.fragments) (q : IsOrdered order b.fragments) where
  pub joined_ordered : IsOrdered order (joined a b).fragments
  joined_ordered = record {
    places = keys_ascend (place_cmp order) place_of (joined a b).fragments
        (woven_ascend by_place (place_cmp order) (places_total order) place_of (IsOf order) (λ f g of og. as_places order f g of) (λ s f. raised_place s.right f) (λ s g. raised_place s.left g) (λ s f g. same_place f g)
        (forces None None) a.fragments b.fragments p.of q.of (in_order p).ascend (in_order q).ascend);
    of = woven_all by_place (IsOf order) (λ s f of. raised_of order s.right f of) (λ s g of. raised_of order s.left g of) (λ s f g e of og. joined_of order f g of) (forces None None) a.fragments b.fragments p.of q.of;
    closed = woven_after order (λ cut. true) (always_falls order) (at_points order (λ cut. true)) None None a.fragments b.fragments (in_order p) (in_order q)
        ∙ (λ i. greater deletion_cmp (p.closed i) (q.closed i));
  }

  pub force_joins : (r : RowKey) → in_force (joined a b).fragments r ≡ greater deletion_cmp (in_force a.fragments r) (in_force b.fragments r)
  force_joins static_row = refl
  force_joins (clustered c) = woven_after order (λ cut. is_past cut c) (past_falls order c) (at_points order (λ cut. is_past cut c)) None None a.fragments b.fragments (in_order p) (in_order q)

  own_joins : {Y : Type 0} {cmp : Y → Y → Ordering} (o : Orders cmp) (given : Atom → Option Y)
      → ((f g : Fragment) → Twins f g → greatest cmp given (own (joined_fragment f g)) ≡ greater cmp (greatest cmp given (own f)) (greatest cmp given (own g)))
      → greatest cmp given (flat_map own (joined a b).fragments) ≡ greater cmp (greatest cmp given (flat_map own a.fragments)) (greatest cmp given (flat_map own b.fragments))
  own_joins {cmp = cmp} o given both =
      greatest_of_each o given own (joined a b).fragments
      ∙ woven_gives o by_place (λ f. greatest cmp given (own f)) (λ s f. ap (greatest cmp given) (raised_own s.right f)) (λ s g. ap (greatest cmp given) (raised_own s.left g)) (λ s f g e. both f g (twins f g e)) (forces None None) a.fragments b.fragments
      ∙ (λ i. greater cmp (sym (greatest_of_each o given own a.fragments) i) (sym (greatest_of_each o given own b.fragments) i))

  pub joined_alike : Alike (flat_of (joined a b)) (flat_of a ++ flat_of b)
  joined_alike = record {
    covers = λ x.
        let force : Stream → Option Deletion = λ s. in_force s.fragments (row_of x) in
        let said : Stream → Option Deletion = λ s. cover (flat_map own s.fragments) x in
        stream_covers (joined a b).top joined_ordered x
        ∙ (λ i. greater deletion_cmp (greater deletion_cmp a.top b.top) (greater deletion_cmp (force_joins (row_of x) i) (own_joins deletion_laws.orders (deletion_at x) (twins_delete x) i)))
        ∙ ap (greater deletion_cmp (greater deletion_cmp a.top b.top)) (two_by_two deletion_laws.orders (force a) (force b) (said a) (said b))
        ∙ two_by_two deletion_laws.orders a.top b.top (greater deletion_cmp (force a) (said a)) (greater deletion_cmp (force b) (said b))
        ∙ (λ i. greater deletion_cmp (sym (stream_covers a.top p x) i) (sym (stream_covers b.top q x) i))
        ∙ sym (cover_joins (flat_of a) (flat_of b) x);
    lives = λ c.
        both_write live_laws.orders (live_at_row c) (λ d. refl) (λ lo hi d. refl) (own_joins live_laws.orders (live_at_row c) (twins_live c));
    cells = λ x.
        both_write cell_laws.orders (cell_at_path x) (λ d. refl) (λ lo hi d. refl) (own_joins cell_laws.orders (cell_at_path x) (twins_write x));
  }
    where
      both_write : {Y : Type 0} {cmp : Y → Y → Ordering} (o : Orders cmp) (given : Atom → Option Y) → ((d : Deletion) → given (PartitionDeletion d) ≡ None)
          → ((lo hi : Cut) (d : Deletion) → given (RangeDeletion lo hi d) ≡ None)
          → greatest cmp given (flat_map own (joined a b).fragments) ≡ greater cmp (greatest cmp given (flat_map own a.fragments)) (greatest cmp given (flat_map own b.fragments))
          → greatest cmp given (flat_of (joined a b)) ≡ greatest cmp given (flat_of a ++ flat_of b)
      both_write {cmp = cmp} o given partition range e =
          stream_gives o given partition range (joined a b).top (joined a b).fragments ∙ e
          ∙ (λ i. greater cmp (sym (stream_gives o given partition range a.top a.fragments) i) (sym (stream_gives o given partition range b.top b.fragments) i))
          ∙ sym (greatest-append o given (flat_of a) (flat_of b))
