-- A partition's fragments are a well-formed stream, and are cut into blocks in one way.
use Rattle.std.proofs.Common.{◌≡◌, ◌++◌, Bool, true, false, not, Option, None, List, [], ◌∷◌, map, refl, sym, ap, ◌∙◌}
use Rattle.std.specs.List.{AllByRecursion, flat_map}
use Rattle.std.specs.List.Sorted.{IsStrictlySortedBy}
use Rattle.std.specs.Ordering.{is_lt}
use Rattle.std.specs.declared.cmp.Ordering.TheVariants.{Less}
use Rattle.std.proofs.lemmas.Bool.{and_parts, and_from, not-true, true≢false}
use Rattle.cas_types.specs.Schemas.{is_static, is_regular}
use Rattle.cas_types.specs.declared.schema.Column.{Column}
use Rattle.cas_types.specs.declared.schema.Kind.{Kind}
use Rattle.cas_cell.specs.declared.deletion.Deletion.{Deletion}
use Rattle.cas_bounds.specs.ClusteringOrder.{clustering_order}
use Rattle.cas_bounds.specs.declared.order.Ordered.{Ordered}
use Rattle.cas_atoms.specs.declared.row.RowColumn.{RowColumn}
use Rattle.cas_streams.specs.Places.{Place, place_of, place_cmp}
use Rattle.cas_streams.specs.Flat.{changes, at_end, of_column}
use Rattle.cas_streams.specs.Settled.{same_force}
use Rattle.cas_streams.specs.Streams.{IsOf, IsColumn, AreColumns, IsFragment, Differ, WellFormed}
use Rattle.cas_streams.specs.declared.fragment.Fragment.{Fragment}
use Rattle.cas_streams.specs.declared.fragment.Fragment.TheVariants as fragment
use Rattle.cas_streams.proofs.Forces.{places_total}
use Rattle.cas_streams.proofs.Settling.{same_force_is, same_force_itself}
use Rattle.cas_fragments.specs.Blocks.{Reached, nowhere, past, past_all, is_change, may_follow, Follow}
use Rattle.cas_fragments.specs.Allowed.{FitsColumn, FitColumns, FitsFragment}
use Rattle.cas_fragments.specs.Laws.{static_of, IsWhole, WholesAreStreams}
use Rattle.cas_fragments.proofs.ChainLaws.{is_less}
use Rattle.cas_fragments.proofs.FragmentLaws.{column_there, there_before}

-- ---- fragments that follow are in order

further : (order : List Ordered) (p q : Place) (ps : List Place) → place_cmp order p q ≡ Less → AllByRecursion (λ s. place_cmp order q s ≡ Less) ps
    → AllByRecursion (λ s. place_cmp order p s ≡ Less) ps
further order p q [] e all = tt
further order p q (s ∷ ps) e all = ((places_total order).trans p q s e all.0, further order p q ps e all.1)

behind : (order : List Ordered) (r : Reached) (f : Fragment) → may_follow order r f ≡ true
    → (place_cmp order r.last (place_of f) ≡ Less) × (is_change r.force f ≡ true)
unfolding may_follow
behind order r f e =
    let p = and_parts (is_lt (place_cmp order r.last (place_of f))) (is_change r.force f) e in
    (is_less (place_cmp order r.last (place_of f)) p.0, p.1)

follow_above : (order : List Ordered) (r : Reached) (fs : List Fragment) → Follow order r fs
    → AllByRecursion (λ s. place_cmp order r.last s ≡ Less) (map place_of fs)
follow_above order r [] follow = tt
follow_above order r (f ∷ fs) follow =
    let first = (behind order r f follow.0).0 in
    (first, further order r.last (place_of f) (map place_of fs) first (follow_above order (past r f) fs follow.1))

follow_sorted : (order : List Ordered) (r : Reached) (fs : List Fragment) → Follow order r fs → IsStrictlySortedBy (place_cmp order) (map place_of fs)
unfolding IsStrictlySortedBy
follow_sorted order r [] follow = tt
follow_sorted order r (f ∷ fs) follow = (follow_above order (past r f) fs follow.1, follow_sorted order (past r f) fs follow.1)

changed : (now d : Option Deletion) → not (same_force now d) ≡ true → now ≡ d → ⊥
changed now d e same =
    true≢false (sym (same_force_itself d) ∙ ap (λ (w : Option Deletion). same_force w d) (sym same) ∙ not-true (same_force now d) e)

follow_differ : (order : List Ordered) (r : Reached) (fs : List Fragment) → Follow order r fs → Differ r.force (changes fs)
follow_differ order r [] follow = tt
follow_differ order r (fragment.Static cs ∷ fs) follow = follow_differ order (past r (fragment.Static cs)) fs follow.1
follow_differ order r (fragment.Row row ∷ fs) follow = follow_differ order (past r (fragment.Row row)) fs follow.1
follow_differ order r (fragment.Marker cut d ∷ fs) follow =
    (changed r.force d (behind order r (fragment.Marker cut d) follow.0).1, follow_differ order (past r (fragment.Marker cut d)) fs follow.1)

end_is : (r : Reached) (fs : List Fragment) → at_end r.force (changes fs) ≡ (past_all r fs).force
end_is r [] = refl
end_is r (fragment.Static cs ∷ fs) = end_is (past r (fragment.Static cs)) fs
end_is r (fragment.Row row ∷ fs) = end_is (past r (fragment.Row row)) fs
end_is r (fragment.Marker cut d ∷ fs) = end_is (past r (fragment.Marker cut d)) fs

-- ---- and the other way

different : (now d : Option Deletion) → (now ≡ d → ⊥) → not (same_force now d) ≡ true
different now d ne = elim (same_force now d) as (λ b. same_force now d ≡ b → not b ≡ true) [
  | true ↦ λ e. absurd (ne (same_force_is now d e))
  | false ↦ λ e. refl
] refl

may : (order : List Ordered) (r : Reached) (f : Fragment) → place_cmp order r.last (place_of f) ≡ Less → is_change r.force f ≡ true → may_follow order r f ≡ true
unfolding may_follow
may order r f less change = and_from (is_lt (place_cmp order r.last (place_of f))) (is_change r.force f) (ap is_lt less) change

sorted_follow : (order : List Ordered) (r : Reached) (fs : List Fragment) → AllByRecursion (λ s. place_cmp order r.last s ≡ Less) (map place_of fs)
    → IsStrictlySortedBy (place_cmp order) (map place_of fs) → Differ r.force (changes fs) → Follow order r fs
unfolding IsStrictlySortedBy
sorted_follow order r [] above sorted differ = tt
sorted_follow order r (fragment.Static cs ∷ fs) above sorted differ =
    (may order r (fragment.Static cs) above.0 refl, sorted_follow order (past r (fragment.Static cs)) fs sorted.0 sorted.1 differ)
sorted_follow order r (fragment.Row row ∷ fs) above sorted differ =
    (may order r (fragment.Row row) above.0 refl, sorted_follow order (past r (fragment.Row row)) fs sorted.0 sorted.1 differ)
sorted_follow order r (fragment.Marker cut d ∷ fs) above sorted differ = (
  may order r (fragment.Marker cut d) above.0 (different r.force d differ.0),
  sorted_follow order (past r (fragment.Marker cut d)) fs sorted.0 sorted.1 differ.1,
)

-- ---- streams

column_each : (is_of : Kind → Bool) (columns : List Column) (cs : List RowColumn) → AllByRecursion (FitsColumn is_of columns) cs
    → AllByRecursion (IsColumn is_of columns) cs
column_each is_of columns [] fit = tt
column_each is_of columns (c ∷ cs) fit = (fit.0.of, column_each is_of columns cs fit.1)

fit_columns : (is_of : Kind → Bool) (columns : List Column) (cs : List RowColumn) → FitColumns is_of columns cs → AreColumns is_of columns cs
fit_columns is_of columns cs fit = record { ascend = fit.ascend; each = column_each is_of columns cs fit.each }

fit_fragment : (columns : List Column) (f : Fragment) → FitsFragment columns f → IsFragment columns f
fit_fragment columns (fragment.Static cs) fit = absurd fit
fit_fragment columns (fragment.Row r) fit = (fit_columns is_regular columns r.columns fit.each, fit.said)
fit_fragment columns (fragment.Marker cut d) fit = tt

fit_of : (columns : List Column) (f : Fragment) → FitsFragment columns f → IsOf (clustering_order columns) f
fit_of columns (fragment.Static cs) fit = absurd fit
fit_of columns (fragment.Row r) fit = fit.clustering.0
fit_of columns (fragment.Marker cut d) fit = fit.0.0

each_so : {X : Type 0} (P Q : X → Type 0) → ((x : X) → P x → Q x) → (xs : List X) → AllByRecursion P xs → AllByRecursion Q xs
each_so P Q so [] all = tt
each_so P Q so (x ∷ xs) all = (so x all.0, each_so P Q so xs all.1)

pub whole_stream : (columns : List Column) (cs : List RowColumn) (fs : List Fragment) → FitColumns is_static columns cs → IsWhole columns fs
    → WellFormed columns (static_of cs ++ fs)
unfolding IsStrictlySortedBy
whole_stream columns [] fs statics w = record {
  ordered = record {
    places = follow_sorted (clustering_order columns) nowhere fs w.follow;
    of = each_so (FitsFragment columns) (IsOf (clustering_order columns)) (fit_of columns) fs w.fit;
    closed = end_is nowhere fs ∙ w.closed;
  };
  fragments = each_so (FitsFragment columns) (IsFragment columns) (fit_fragment columns) fs w.fit;
  markers = follow_differ (clustering_order columns) nowhere fs w.follow;
}
whole_stream columns (c ∷ cs) fs statics w = record {
  ordered = record {
    places = (follow_above (clustering_order columns) nowhere fs w.follow, follow_sorted (clustering_order columns) nowhere fs w.follow);
    of = (tt, each_so (FitsFragment columns) (IsOf (clustering_order columns)) (fit_of columns) fs w.fit);
    closed = end_is nowhere fs ∙ w.closed;
  };
  fragments = (
    (fit_columns is_static columns (c ∷ cs) statics, there_before (of_column None c) (flat_map (of_column None) cs) (column_there None c statics.each.0.of.said)),
    each_so (FitsFragment columns) (IsFragment columns) (fit_fragment columns) fs w.fit,
  );
  markers = follow_differ (clustering_order columns) nowhere fs w.follow;
}

all_behind : (columns : List Column) (fs : List Fragment) → AllByRecursion (FitsFragment columns) fs
    → AllByRecursion (λ s. place_cmp (clustering_order columns) None s ≡ Less) (map place_of fs)
all_behind columns [] fit = tt
all_behind columns (fragment.Static cs ∷ fs) fit = absurd (fit.0)
all_behind columns (fragment.Row r ∷ fs) fit = (refl, all_behind columns fs fit.1)
all_behind columns (fragment.Marker cut d ∷ fs) fit = (refl, all_behind columns fs fit.1)

pub stream_whole : (columns : List Column) (cs : List RowColumn) (fs : List Fragment) → AllByRecursion (FitsFragment columns) fs
    → WellFormed columns (static_of cs ++ fs) → IsWhole columns fs
unfolding IsStrictlySortedBy
stream_whole columns [] fs fit w = record {
  fit = fit;
  follow = sorted_follow (clustering_order columns) nowhere fs (all_behind columns fs fit) w.ordered.places w.markers;
  closed = sym (end_is nowhere fs) ∙ w.ordered.closed;
}
stream_whole columns (c ∷ cs) fs fit w = record {
  fit = fit;
  follow = sorted_follow (clustering_order columns) nowhere fs w.ordered.places.0 w.ordered.places.1 w.markers;
  closed = sym (end_is nowhere fs) ∙ w.ordered.closed;
}

pub wholes_are_streams : WholesAreStreams
wholes_are_streams = record { stream = whole_stream; whole = stream_whole }
