-- What memtables hold under a key, of which they have all rows.
use Rattle.std.proofs.Common.{◌≡◌, ◌||◌, ℕ, ℤ, Bool, true, false, cond, Option, None, Some, is_some, List, [], ◌∷◌, ◌++◌, refl, sym, ap, ◌∙◌, subst, arith}
use Rattle.std.proofs.lemmas.Bool.{true≢false}
use Rattle.std.specs.List.{AllByRecursion}
use Rattle.cas_types.specs.declared.schema.Column.{Column}
use Rattle.cas_cell.specs.declared.deletion.Deletion.{Deletion}
use Rattle.cas_bounds.specs.ClusteringOrder.{clustering_order}
use Rattle.cas_bounds.specs.Cuts.{is_inside}
use Rattle.cas_bounds.specs.declared.cuts.Cut.{Cut}
use Rattle.cas_bounds.specs.declared.cuts.Slice.{Slice}
use Rattle.cas_bounds.specs.declared.order.Ordered.{Ordered}
use Rattle.cas_atoms.specs.Coordinates.{RowKey, clustered, static_row, row_of, same_bytes}
use Rattle.cas_atoms.specs.Fits.{FitsKey, FitsCut}
use Rattle.cas_atoms.specs.Winners.{Same}
use Rattle.cas_atoms.specs.declared.atom.Atom.{Atom}
use Rattle.cas_atoms.specs.declared.atom.Mutation.{Mutation}
use Rattle.cas_laws.specs.Inside.{SameIn, is_in}
use Rattle.cas_laws.proofs.ShownProofs.{equal_bytes}
use Rattle.cas_streams.specs.Flat.{changes}
use Rattle.cas_streams.specs.Joined.{Stream}
use Rattle.cas_streams.specs.Merged.{draw, joined_all, merged, flat_of, flats}
use Rattle.cas_streams.specs.NoMore.{SaysNoMore}
use Rattle.cas_streams.specs.Streams.{IsThere, WellFormed}
use Rattle.cas_streams.specs.declared.fragment.Fragment.{Fragment}
use Rattle.cas_streams.specs.declared.fragment.Fragment.TheVariants as fragment
use Rattle.cas_streams.proofs.Formed.{merge_is_well_formed}
use Rattle.cas_streams.proofs.Merges.{merge_is_join}
use Rattle.cas_streams.proofs.NoMore.{merge_says_no_more, no_more_then}
use Rattle.cas_streams.proofs.Settling.{settled_differ}
use Rattle.cas_streams.proofs.Something.{merge_says_something}
use Rattle.cas_fragments.specs.Allowed.{HasSpelling}
use Rattle.cas_fragments.specs.Blocks.{behind_statics}
use Rattle.cas_partition.specs.Ends.{AllAtEnds, IsEnd}
use Rattle.cas_partition.specs.Partitions.{AllFit, AreAtCuts}
use Rattle.cas_partition.specs.Slices.{IsAll}
use Rattle.cas_partition.proofs.AtCuts.{merge_at}
use Rattle.cas_partition.proofs.Ends.{all_at, merge_moves}
use Rattle.cas_memtable.specs.Memtables.{least_of, least_with}
use Rattle.cas_memtable.specs.declared.memtable.MemPart.{MemPart}
use Rattle.cas_memtable.specs.Kept.{HoldMutations, MayHold, StandInEach, ShowPartition, all_of, atoms_at, atoms_under, has_key}
use Rattle.cas_merge.specs.Told.{streams_told}
use Rattle.cas_memtable.proofs.Keeping.{more_under}
use Rattle.cas_memtable.proofs.Showing.{nothing_written}
use Rattle.cas_flush.specs.Fitting.{FitsTable}
use Rattle.cas_flush.proofs.Fitted.{stream_fits}
use Rattle.cas_sstwrite.specs.Rooms.{IsHeld, AreHeld}
use Rattle.cas_sstwrite.specs.Writers.{FitsStream}
use Rattle.cas_flush.specs.Inner.Keys.{end_at, IsWhole}

-- ---- all rows of a partition

module _ (columns : List Column) where
  ends_allowed : (after : Bool) → FitsCut (clustering_order columns) (end_at (clustering_order columns) after)
  ends_allowed after = (refl, tt, omega arith, omega arith)

  between_ends : (order : List Ordered) (c : List (List ℕ)) → is_inside (end_at order false) (end_at order true) c ≡ true
  between_ends order c = refl

  module _ (s : Slice) (w : IsWhole columns s) where
    pub low : s.lo.order ≡ clustering_order columns
    low = ap (λ c. c.order) w.lo

    pub high : s.hi.order ≡ clustering_order columns
    high = ap (λ c. c.order) w.hi

    low_allowed : FitsCut (clustering_order columns) s.lo
    low_allowed = subst (FitsCut (clustering_order columns)) (sym w.lo) (ends_allowed false)

    high_allowed : FitsCut (clustering_order columns) s.hi
    high_allowed = subst (FitsCut (clustering_order columns)) (sym w.hi) (ends_allowed true)

    from_end_to_end : IsAll (clustering_order columns) s
    from_end_to_end = (w.lo, w.hi)

    everywhere : (r : RowKey) → is_in s r ≡ true
    everywhere static_row = refl
    everywhere (clustered c) = (λ i. is_inside (w.lo i) (w.hi i) c) ∙ between_ends (clustering_order columns) c

    same_there : (A B : List Atom) → SameIn s A B → Same A B
    same_there A B h = record {
      covers = λ x. h.covers x (everywhere (row_of x));
      lives = λ r. h.lives r (everywhere (clustered r));
      cells = λ x. h.cells x (everywhere (row_of x));
    }

-- ---- what mutations may hold

module _ (columns : List Column) (key : List ℕ) where
  both_fit : (A B : List Atom) → AllFit columns A → AllFit columns B → AllFit columns (A ++ B)
  both_fit [] B a b = b
  both_fit (x ∷ A) B a b = (a.0, both_fit A B a.1 b)

  pub atoms_fit : (ws : List Mutation) → AllByRecursion (MayHold columns) ws → AllFit columns (atoms_under key ws)
  atoms_fit [] may = tt
  atoms_fit (w ∷ ws) may = both_fit (atoms_at key w) (atoms_under key ws) (at (same_bytes w.key key)) (atoms_fit ws may.1)
    where
      at : (b : Bool) → AllFit columns (cond b w.atoms [])
      at true = may.0.1
      at false = tt

  pub key_fits : (ws : List Mutation) → AllByRecursion (MayHold columns) ws → IsThere (atoms_under key ws) → FitsKey key
  key_fits [] may there = absurd there
  key_fits (w ∷ ws) may there =
      elim (same_bytes w.key key) as (λ b. same_bytes w.key key ≡ b → IsThere (cond b w.atoms [] ++ atoms_under key ws) → FitsKey key) [
        | true ↦ λ e t. subst FitsKey (equal_bytes w.key key e) may.0.0
        | false ↦ λ e t. key_fits ws may.1 t
      ] refl there

-- ---- what memtables have under a key

there_front : (A B : List Atom) → IsThere A → IsThere (A ++ B)
there_front [] B t = absurd t
there_front (a ∷ A) B t = tt

there_back : (A B : List Atom) → IsThere B → IsThere (A ++ B)
there_back [] B t = t
there_back (a ∷ A) B t = tt

some_there : (A : List Atom) (o : Option ℤ) → o ≡ least_with None A → is_some o ≡ true → IsThere A
some_there [] o e s = absurd (true≢false (sym s ∙ ap is_some e))
some_there (a ∷ A) o e s = tt

none_there : (A : List Atom) (o : Option ℤ) → o ≡ least_with None A → is_some o ≡ false → A ≡ []
none_there A None e s = nothing_written A (sym e)
none_there A (Some at) e s = absurd (true≢false s)

module _ (order : List Ordered) (key : List ℕ) where
  under_both : (ws vs : List Mutation) → atoms_under key (ws ++ vs) ≡ atoms_under key ws ++ atoms_under key vs
  under_both ws vs = more_under key ws vs

  pub has_there : (ms : List MemPart) (wss : List (List Mutation)) → StandInEach order ms wss → has_key ms key ≡ true → IsThere (atoms_under key (all_of wss))
  has_there [] [] each e = absurd (true≢false (sym e))
  has_there [] (ws ∷ wss) each e = absurd each
  has_there (m ∷ ms) [] each e = absurd each
  has_there (m ∷ ms) (ws ∷ wss) each e =
      subst IsThere (sym (under_both ws (all_of wss))) (go (λ h. has_there ms wss each.1 h) (is_some (least_of m key)) refl e)
    where
      go : (has_key ms key ≡ true → IsThere (atoms_under key (all_of wss))) → (b : Bool) → is_some (least_of m key) ≡ b → (b || has_key ms key) ≡ true → IsThere (atoms_under key ws ++ atoms_under key (all_of wss))
      go rest true s h = there_front (atoms_under key ws) (atoms_under key (all_of wss)) (some_there (atoms_under key ws) (least_of m key) (each.0.least key) s)
      go rest false s h = there_back (atoms_under key ws) (atoms_under key (all_of wss)) (rest h)

  pub has_none : (ms : List MemPart) (wss : List (List Mutation)) → StandInEach order ms wss → has_key ms key ≡ false → atoms_under key (all_of wss) ≡ []
  has_none [] [] each e = refl
  has_none [] (ws ∷ wss) each e = absurd each
  has_none (m ∷ ms) [] each e = absurd each
  has_none (m ∷ ms) (ws ∷ wss) each e = under_both ws (all_of wss) ∙ go (λ h. has_none ms wss each.1 h) (is_some (least_of m key)) refl e
    where
      go : (has_key ms key ≡ false → atoms_under key (all_of wss) ≡ []) → (b : Bool) → is_some (least_of m key) ≡ b → (b || has_key ms key) ≡ false → atoms_under key ws ++ atoms_under key (all_of wss) ≡ []
      go rest true s h = absurd (true≢false h)
      go rest false s h = (λ i. none_there (atoms_under key ws) (least_of m key) (each.0.least key) s i ++ rest h i)

-- ---- the merge of what they have

module _ {M : Type 0} (tells : M → Option (List Fragment)) (tops : M → Option Deletion) (columns : List Column) (s : Slice) (w : IsWhole columns s) (key : List ℕ)
    (ms : List MemPart) (wss : List (List Mutation)) (xs : List M) (shows : ShowPartition tells tops (clustering_order columns) s key ms (all_of wss) xs) where
  pub merge_same : Same (flat_of (merged shows.streams)) (atoms_under key (all_of wss))
  merge_same =
      let joins : Same (flat_of (merged shows.streams)) (flats shows.streams) = merge_is_join (clustering_order columns) shows.streams shows.ordered in
      let here : Same (flats shows.streams) (atoms_under key (all_of wss)) = same_there columns s w (flats shows.streams) (atoms_under key (all_of wss)) shows.same in
      record { covers = λ x. joins.covers x ∙ here.covers x; lives = λ r. joins.lives r ∙ here.lives r; cells = λ x. joins.cells x ∙ here.cells x }

  pub merge_no_more : SaysNoMore (flat_of (merged shows.streams)) (atoms_under key (all_of wss))
  merge_no_more =
      no_more_then (flat_of (merged shows.streams)) (flats shows.streams) (atoms_under key (all_of wss))
      (merge_says_no_more (clustering_order columns) shows.streams shows.ordered) shows.no_more

  merge_some : IsThere (atoms_under key (all_of wss)) → IsThere (flat_of (merged shows.streams))
  merge_some there = merge_says_something (clustering_order columns) shows.streams shows.ordered (shows.said (from_end_to_end columns s w) there)

  merge_ends : AllAtEnds (atoms_under key (all_of wss)) (changes (merged shows.streams).fragments)
  merge_ends =
      let P : Cut → Type 0 = IsEnd (atoms_under key (all_of wss)) in
      let j : Stream = joined_all (draw shows.streams) in
      all_at P None (changes (merged shows.streams).fragments) (settled_differ j.top None j.fragments)
      (merge_moves P (clustering_order columns) shows.streams shows.ordered (shows.ends (from_end_to_end columns s w)))

  -- whichever mutations these are, the sources tell the same streams
  module _ (streams : List Stream) (told : streams_told tells tops xs ≡ Some streams) where
    are_told : shows.streams ≡ streams
    are_told = let both : Some shows.streams ≡ Some streams = sym shows.told ∙ told in cc

    pub told_same : Same (flat_of (merged streams)) (atoms_under key (all_of wss))
    told_same = subst (λ ss. Same (flat_of (merged ss)) (atoms_under key (all_of wss))) are_told merge_same

    pub told_no_more : SaysNoMore (flat_of (merged streams)) (atoms_under key (all_of wss))
    told_no_more = subst (λ ss. SaysNoMore (flat_of (merged ss)) (atoms_under key (all_of wss))) are_told merge_no_more

    pub told_some : IsThere (atoms_under key (all_of wss)) → IsThere (flat_of (merged streams))
    told_some there = subst (λ ss. IsThere (flat_of (merged ss))) are_told (merge_some there)

    pub told_ends : AllAtEnds (atoms_under key (all_of wss)) (changes (merged streams).fragments)
    told_ends = subst (λ ss. AllAtEnds (atoms_under key (all_of wss)) (changes (merged ss).fragments)) are_told merge_ends

  module _ (hold : HoldMutations columns ms wss) where
    pub merge_formed : WellFormed columns (merged shows.streams).fragments
    merge_formed = merge_is_well_formed columns shows.streams (shows.formed columns refl hold.of)

    pub merge_at_cuts : AreAtCuts columns (changes (merged shows.streams).fragments)
    merge_at_cuts =
        merge_at (FitsCut (clustering_order columns)) shows.streams
        (shows.cuts columns refl hold.of (low_allowed columns s w) (high_allowed columns s w))

    spelled : (fs : List Fragment) → AllByRecursion IsHeld fs → AllByRecursion HasSpelling fs
    spelled [] all = tt
    spelled (fragment.Static cs ∷ fs) all = absurd all.0
    spelled (fragment.Row r ∷ fs) all = (all.0, spelled fs all.1)
    spelled (fragment.Marker cut d ∷ fs) all = (all.0, spelled fs all.1)

    pub merge_fits : IsThere (atoms_under key (all_of wss)) → AreHeld (merged shows.streams).fragments
        → FitsStream columns key (merged shows.streams).top (merged shows.streams).fragments
    merge_fits there held =
        let fs : List Fragment = (merged shows.streams).fragments in
        let fit : FitsTable columns (merged shows.streams).top fs =
        stream_fits columns (merged shows.streams).top fs (atoms_under key (all_of wss)) merge_formed merge_at_cuts merge_no_more (atoms_fit columns key (all_of wss) hold.may)
        (held.0, spelled (behind_statics fs) held.1) in
        record {
          key = key_fits columns key (all_of wss) hold.may there;
          top = fit.top;
          well_formed = merge_formed;
          statics = fit.statics;
          rest = fit.rest;
        }
