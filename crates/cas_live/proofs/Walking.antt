-- On the way through an ordered stream, what the markers before a row tell is in force at it, and the static row has come.
use Rattle.std.proofs.Common.{◌≡◌, ℕ, ℤ, cond, Option, None, Some, List, [], ◌∷◌, ◌++◌, append_assoc, filter, inl, inr, refl, sym, ap, ◌∙◌}
use Rattle.std.proofs.lemmas.Bool.{true≢false}
use Rattle.std.proofs.lemmas.List.{append-nil}
use Rattle.std.specs.List.{cons_option, filter_map, flat_map}
use Rattle.std.specs.Ordering.{is_lt}
use Rattle.cas_cell.specs.declared.deletion.Deletion.{Deletion}
use Rattle.cas_bounds.specs.Cuts.{is_past}
use Rattle.cas_bounds.specs.Points.{Point, row_point}
use Rattle.cas_bounds.specs.declared.order.Ordered.{Ordered}
use Rattle.cas_atoms.specs.Coordinates.{clustered, static_row}
use Rattle.cas_atoms.specs.declared.atom.Atom.{Atom}
use Rattle.cas_atoms.specs.declared.atom.Atom.TheVariants.{PartitionDeletion}
use Rattle.cas_atoms.specs.declared.query.Query.{Query}
use Rattle.cas_atoms.specs.declared.row.Row.{Row}
use Rattle.cas_laws.specs.Given.{Has}
use Rattle.cas_streams.specs.Places.{row_in}
use Rattle.cas_streams.specs.Flat.{atom_of, own, changes, after, reaching, in_force}
use Rattle.cas_streams.specs.Laws.{is_row}
use Rattle.cas_streams.specs.declared.fragment.Fragment.{Fragment}
use Rattle.cas_streams.specs.declared.fragment.Fragment.TheVariants as fragment
use Rattle.cas_streams.proofs.Forces.{Behind, InOrder, later, stopped}
use Rattle.cas_streams.proofs.Joining.{in_order}
use Rattle.cas_streams.proofs.Settling.{stopped_by_row, past_cut}
use Rattle.cas_live.specs.Views.{shared, row_view, if_answered, live_row}
use Rattle.cas_live.specs.Laws.{WalksShow}
use Rattle.cas_live.specs.Walks.{walk, shared_after}

-- what is said of the static row
abbrev statics : List Fragment → List Atom
statics fs = flat_map own (filter (λ f. is_row static_row (row_in f)) fs)

-- the static row comes behind no row and no cut
no_static : (order : List Ordered) (p : Point) (fs : List Fragment) → Behind order (Some p) fs → statics fs ≡ []
no_static order p [] b = refl
no_static order p (fragment.Static cs ∷ fs) b = absurd (true≢false (sym (ap is_lt b.0)))
no_static order p (fragment.Row r ∷ fs) b = no_static order p fs b.1
no_static order p (fragment.Marker cut d ∷ fs) b = no_static order p fs b.1

module _ (q : Query) (now : ℤ) (order : List Ordered) (top : Option Deletion) (fs : List Fragment) where
  on_the_way : (all : List Atom) (force : Option Deletion) (gs : List Fragment) → InOrder order gs → all ++ statics gs ≡ shared top fs
      → ((r : Row) → Has gs (fragment.Row r) → reaching force (changes gs) r.clustering.values ≡ in_force fs (clustered r.clustering.values))
      → walk q now all force gs ≡ filter_map (live_row q now top fs) gs
  on_the_way all force [] o said forced = refl
  on_the_way all force (fragment.Static cs ∷ gs) o said forced =
      on_the_way (all ++ own (fragment.Static cs)) force gs (later o) (append_assoc all (own (fragment.Static cs)) (statics gs) ∙ said) (λ r has. forced r (inr has))
  on_the_way all force (fragment.Row r ∷ gs) o said forced =
      let c : List (List ℕ) = r.clustering.values in
      let whole : all ≡ shared top fs = sym (append-nil all) ∙ ap (λ s. all ++ s) (sym (no_static order (row_point c) gs o.ascend.0)) ∙ said in
      let here : force ≡ in_force fs (clustered c) = sym (stopped (λ k. is_past k c) force gs (stopped_by_row order c gs o.of.1 o.ascend.0)) ∙ forced r (inl refl) in
      λ i. cons_option (if_answered q now (row_view (whole i) (here i) r) c) (on_the_way all force gs (later o) said (λ s has. forced s (inr has)) i)
  on_the_way all force (fragment.Marker cut d ∷ gs) o said forced =
      on_the_way all d gs (later o) said
      (λ r has. ap (λ b. after (λ k. is_past k r.clustering.values) (cond b d force) (changes gs)) (sym (past_cut order cut gs r o.of.0 o.ascend.0 has)) ∙ forced r (inr has))

after_all : (all : List Atom) (fs : List Fragment) → shared_after all fs ≡ all ++ statics fs
after_all all [] = sym (append-nil all)
after_all all (fragment.Static cs ∷ fs) = after_all (all ++ own (fragment.Static cs)) fs ∙ append_assoc all (own (fragment.Static cs)) (statics fs)
after_all all (fragment.Row r ∷ fs) = after_all all fs
after_all all (fragment.Marker cut d ∷ fs) = after_all all fs

pub walks_show : WalksShow
walks_show = record {
  rows = λ q now order top fs ordered. on_the_way q now order top fs (atom_of PartitionDeletion top) None fs (in_order ordered) refl (λ r has. refl);
  shared = λ top fs. after_all (atom_of PartitionDeletion top) fs;
}
