-- What a stream shows row by row is what all its atoms answer.
use Rattle.std.proofs.Common.{◌≡◌, ℕ, ℤ, Bool, true, false, cond, ◌&&◌, Option, None, Some, List, [], ◌∷◌, ◌++◌, map, filter, ◌⊎◌, inl, inr, refl, sym, ap, ◌∙◌, subst}
use Rattle.std.proofs.lemmas.List.Kept.{IsStrictlySortedBy-filter}
use Rattle.std.specs.Bool.{then_some}
use Rattle.std.specs.List.{AllByRecursion, cons_option, filter_map, flat_map}
use Rattle.std.specs.List.Sorted.{IsStrictlySortedBy}
use Rattle.std.specs.declared.cmp.Ordering.TheVariants.{Less}
use Rattle.cas_cell.specs.declared.deletion.Deletion.{Deletion}
use Rattle.cas_bounds.specs.Orders.{values_cmp}
use Rattle.cas_bounds.specs.Cuts.{is_inside}
use Rattle.cas_bounds.specs.Points.{row_point}
use Rattle.cas_bounds.specs.ClusteringOrder.{clustering_order}
use Rattle.cas_bounds.specs.declared.order.Ordered.{Ordered}
use Rattle.cas_bounds.proofs.CutLaws.{point_laws}
use Rattle.cas_atoms.specs.Coordinates.{RowKey, clustered, static_row, same_values}
use Rattle.cas_atoms.specs.RowsAndPaths.{written_row}
use Rattle.cas_atoms.specs.Answers.{has_cell, is_shown, is_answered, answered, turned, is_whole, limited, row_shown, answer}
use Rattle.cas_atoms.specs.declared.atom.Atom.{Atom}
use Rattle.cas_atoms.specs.declared.atom.Atom.TheVariants.{PartitionDeletion}
use Rattle.cas_atoms.specs.declared.query.Query.{Query}
use Rattle.cas_atoms.specs.declared.query.LiveRow.{LiveRow}
use Rattle.cas_atoms.specs.declared.row.Row.{Row}
use Rattle.cas_laws.specs.Given.{Gives, Has}
use Rattle.cas_laws.proofs.GreatestProofs.{no_none}
use Rattle.cas_laws.proofs.OrderedLists.{left, stays}
use Rattle.cas_laws.proofs.ShownProofs.{both_hold, equal_values, row_written}
use Rattle.cas_laws.proofs.AliveProofs as alive
use Rattle.cas_streams.specs.Places.{place_of, place_cmp, row_in}
use Rattle.cas_streams.specs.Flat.{atom_of, own, in_force, flat}
use Rattle.cas_streams.specs.Streams.{IsOrdered}
use Rattle.cas_streams.specs.Laws.{is_row, row_says}
use Rattle.cas_streams.specs.declared.fragment.Fragment.{Fragment}
use Rattle.cas_streams.specs.declared.fragment.Fragment.TheVariants as fragment
use Rattle.cas_streams.proofs.Rows.{rows_say_all}
use Rattle.cas_streams.proofs.Single.{has_made}
use Rattle.cas_live.specs.Views.{shared, row_view, live_row, live_rows, or_static, stream_answer}
use Rattle.cas_live.specs.Laws.{StreamsAnswer, ShowsWhatIsWritten}
use Rattle.cas_live.proofs.RowViews.{at_moment, same_itself, same_view}

-- ---- the rows of a stream

abbrev row_values : List Fragment → List (List (List ℕ))
row_values [] = []
row_values (fragment.Static cs ∷ fs) = row_values fs
row_values (fragment.Row r ∷ fs) = r.clustering.values ∷ row_values fs
row_values (fragment.Marker cut d ∷ fs) = row_values fs

rows_behind : (order : List Ordered) (c : List (List ℕ)) (fs : List Fragment) → AllByRecursion (λ p. place_cmp order (Some (row_point c)) p ≡ Less) (map place_of fs)
    → AllByRecursion (λ d. values_cmp order c d ≡ Less) (row_values fs)
rows_behind order c [] a = tt
rows_behind order c (fragment.Static cs ∷ fs) a = rows_behind order c fs a.1
rows_behind order c (fragment.Row r ∷ fs) a = (point_laws.rows order c r.clustering.values ∙ a.0, rows_behind order c fs a.1)
rows_behind order c (fragment.Marker cut d ∷ fs) a = rows_behind order c fs a.1

rows_ascend : (order : List Ordered) (fs : List Fragment) → IsStrictlySortedBy (place_cmp order) (map place_of fs) → IsStrictlySortedBy (values_cmp order) (row_values fs)
unfolding IsStrictlySortedBy
rows_ascend order [] s = tt
rows_ascend order (fragment.Static cs ∷ fs) s = rows_ascend order fs s.1
rows_ascend order (fragment.Row r ∷ fs) s = (rows_behind order r.clustering.values fs s.0, rows_ascend order fs s.1)
rows_ascend order (fragment.Marker cut d ∷ fs) s = rows_ascend order fs s.1

-- a row is one of them, or no fragment is of it
there_or_none : (c : List (List ℕ)) (fs : List Fragment) → Has (row_values fs) c ⊎ (filter (λ f. is_row (clustered c) (row_in f)) fs ≡ [])
there_or_none c [] = inr refl
there_or_none c (fragment.Static cs ∷ fs) = there_or_none c fs
there_or_none c (fragment.Row r ∷ fs) =
    elim (same_values r.clustering.values c) as (λ b. same_values r.clustering.values c ≡ b
    → (Has (r.clustering.values ∷ row_values fs) c) ⊎ (cond b (fragment.Row r ∷ filter (λ f. is_row (clustered c) (row_in f)) fs) (filter (λ f. is_row (clustered c) (row_in f)) fs) ≡ [])) [
      | true ↦ λ e. inl (inl (equal_values r.clustering.values c e))
      | false ↦ λ e. elim (there_or_none c fs) [ inl there ↦ inl (inr there) | inr none ↦ inr none ]
    ] refl
there_or_none c (fragment.Marker cut d ∷ fs) = there_or_none c fs

-- deletions of the whole write no row
no_row : (a b : Option Deletion) (c : List (List ℕ)) → Gives written_row (atom_of PartitionDeletion a ++ (atom_of PartitionDeletion b ++ [])) c → ⊥
no_row None None c none = none
no_row None (Some d) c (inl e) = no_none c e
no_row None (Some d) c (inr none) = none
no_row (Some a) None c (inl e) = no_none c e
no_row (Some a) None c (inr none) = none
no_row (Some a) (Some b) c (inl e) = no_none c e
no_row (Some a) (Some b) c (inr (inl e)) = no_none c e
no_row (Some a) (Some b) c (inr (inr none)) = none

or_static_alike : {X : Type 0} (f : RowKey → X) (b : Bool) → cond b (f static_row ∷ []) [] ≡ map f (cond b (static_row ∷ []) [])
or_static_alike f true = refl
or_static_alike f false = refl

module _ (q : Query) (now : ℤ) (top : Option Deletion) (fs : List Fragment) (ordered : IsOrdered (clustering_order q.columns) fs) where
  abbrev all : List Atom
  all = flat top fs

  shown_there : (c : List (List ℕ)) → is_shown all now q.columns c ≡ true → Has (row_values fs) c
  shown_there c e =
      elim (there_or_none c fs) [
        | inl there ↦ there
        | inr none ↦
            let shown : is_shown (row_says top fs (clustered c)) now q.columns c ≡ true =
            sym (alive.shown_where (at_moment now (rows_say_all (clustering_order q.columns) top fs ordered (clustered c))) q.columns c (same_itself c)) ∙ e in
            let writes : Gives written_row (row_says top fs (clustered c)) c = row_written (row_says top fs (clustered c)) now q.columns c shown in
            absurd (no_row top (in_force fs (clustered c)) c (subst (λ gs. Gives written_row (atom_of PartitionDeletion top ++ (atom_of PartitionDeletion (in_force fs (clustered c)) ++ flat_map own gs)) c) none writes))
      ]

  -- the rows that answer, among the stream's
  answering : filter (is_answered q all now) (row_values fs) ≡ answered q all now
  answering =
      (alive.rows_answer q all now (filter (is_answered q all now) (row_values fs))).1 (
        IsStrictlySortedBy-filter (values_cmp (clustering_order q.columns)) (is_answered q all now) (row_values fs) (rows_ascend (clustering_order q.columns) fs ordered.places),
        λ c. (
          λ has. (left (is_answered q all now) c (row_values fs) has).1,
          λ e. stays (is_answered q all now) c (row_values fs) (shown_there c (both_hold (is_inside q.slice.lo q.slice.hi c) (is_shown all now q.columns c) e).1) e,
        ),
      )

  -- ---- each row shows the same by its view

  abbrev view : Row → List Atom
  view r = row_view (shared top fs) (in_force fs (clustered r.clustering.values)) r

  module _ (r : Row) (has : Has fs (fragment.Row r)) where
    answers_alike : is_answered q all now r.clustering.values ≡ is_answered q (view r) now r.clustering.values
    answers_alike =
        ap (λ b. is_inside q.slice.lo q.slice.hi r.clustering.values && b)
        (alive.shown_where (at_moment now (same_view top fs ordered r has)) q.columns r.clustering.values (same_itself r.clustering.values))

    shows_alike : row_shown q all now (clustered r.clustering.values) ≡ row_shown q (view r) now (clustered r.clustering.values)
    shows_alike = alive.row_shown_where (at_moment now (same_view top fs ordered r has)) refl q (clustered r.clustering.values) (same_itself r.clustering.values)

  shown_first : (b : Bool) (c : List (List ℕ)) (cs : List (List (List ℕ))) → map (λ c. row_shown q all now (clustered c)) (cond b (c ∷ cs) cs)
      ≡ cons_option (then_some b (row_shown q all now (clustered c))) (map (λ c. row_shown q all now (clustered c)) cs)
  shown_first true c cs = refl
  shown_first false c cs = refl

  shown_each : (gs : List Fragment) → ((r : Row) → Has gs (fragment.Row r) → Has fs (fragment.Row r))
      → map (λ c. row_shown q all now (clustered c)) (filter (is_answered q all now) (row_values gs)) ≡ filter_map (live_row q now top fs) gs
  shown_each [] h = refl
  shown_each (fragment.Static cs ∷ gs) h = shown_each gs (λ r has. h r (inr has))
  shown_each (fragment.Row r ∷ gs) h =
      shown_first (is_answered q all now r.clustering.values) r.clustering.values (filter (is_answered q all now) (row_values gs))
      ∙ (λ i. cons_option (then_some (answers_alike r (h r (inl refl)) i) (shows_alike r (h r (inl refl)) i)) (shown_each gs (λ s has. h s (inr has)) i))
  shown_each (fragment.Marker cut d ∷ gs) h = shown_each gs (λ r has. h r (inr has))

  static_alike : (rows : List LiveRow) → alive.or_static q all now rows ≡ or_static q now (shared top fs) rows
  static_alike [] =
      (λ i. cond (is_whole q.slice && alive.has_cell_where (at_moment now (rows_say_all (clustering_order q.columns) top fs ordered static_row)) static_row 0 q.columns refl i)
      (alive.row_shown_where (at_moment now (rows_say_all (clustering_order q.columns) top fs ordered static_row)) refl q static_row refl i ∷ []) [])
      ∙ or_static_alike (row_shown q (shared top fs) now) (is_whole q.slice && has_cell (shared top fs) now static_row 0 q.columns)
  static_alike (r ∷ rs) = refl

  answers : answer q all now ≡ stream_answer q now top fs
  answers =
      alive.answer_is q all now
      ∙ ap (λ cs. limited q.limit (alive.or_static q all now (turned q.reversed (map (λ c. row_shown q all now (clustered c)) cs)))) (sym answering)
      ∙ ap (λ rows. limited q.limit (alive.or_static q all now (turned q.reversed rows))) (shown_each fs (λ r has. has))
      ∙ ap (limited q.limit) (static_alike (turned q.reversed (live_rows q now top fs)))

  -- each row that is shown is one that an atom of the stream writes in
  is_written : (r : LiveRow) → Has (live_rows q now top fs) r → (c : List (List ℕ)) × Gives written_row all c × (r ≡ row_shown q all now (clustered c))
  is_written r has =
      let shows : List (List ℕ) → LiveRow = λ c. row_shown q all now (clustered c) in
      let (c, there, e) = has_made shows (filter (is_answered q all now) (row_values fs)) r (subst (λ rows. Has rows r) (sym (shown_each fs (λ r has. has))) has) in
      let answers : is_answered q all now c ≡ true = (left (is_answered q all now) c (row_values fs) there).1 in
      (c, row_written all now q.columns c (both_hold (is_inside q.slice.lo q.slice.hi c) (is_shown all now q.columns c) answers).1, sym e)

pub shows_what_is_written : ShowsWhatIsWritten
shows_what_is_written q now top fs ordered r has = is_written q now top fs ordered r has

pub streams_answer : StreamsAnswer
streams_answer q now top fs ordered = answers q now top fs ordered
