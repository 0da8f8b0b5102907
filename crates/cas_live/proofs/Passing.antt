-- Fragments are passed one by one: such that show no row, and at last one that does, or none.
use Rattle.std.proofs.Common.{◌≡◌, ℤ, Option, None, Some, List, [], ◌∷◌, ◌++◌, append_assoc, refl, sym, ap, ◌∙◌}
use Rattle.std.proofs.lemmas.List.{append-nil}
use Rattle.std.specs.List.{cons_option}
use Rattle.cas_bounds.specs.ClusteringOrder.{clustering_order}
use Rattle.cas_cell.specs.declared.deletion.Deletion.{Deletion}
use Rattle.cas_atoms.specs.Answers.{turned, limited, answer}
use Rattle.cas_atoms.specs.declared.atom.Atom.TheVariants.{PartitionDeletion}
use Rattle.cas_atoms.specs.declared.query.LiveRow.{LiveRow}
use Rattle.cas_atoms.specs.declared.query.Query.{Query}
use Rattle.cas_streams.specs.Flat.{atom_of, flat}
use Rattle.cas_streams.specs.Streams.{IsOrdered}
use Rattle.cas_streams.specs.declared.fragment.Fragment.{Fragment}
use Rattle.cas_live.specs.Views.{or_static}
use Rattle.cas_live.specs.Walks.{walk, shared_after}
use Rattle.cas_live.specs.Inner.Coming.{rows_ahead, shared_at_end, rows_to_come, ShowsRow}
use Rattle.cas_live.specs.declared.viewer.Viewer.{Viewer}
use Rattle.cas_live.specs.declared.live_rows.Stage.TheVariants.{Unasked}
use Rattle.std.specs.Option.{option_map}
use Rattle.cas_live.proofs.Answering.{streams_answer}
use Rattle.cas_live.proofs.Walking.{walks_show}

-- the rows of a partition from its beginning are what all its atoms answer
pub from_the_beginning : (q : Query) (now : ℤ) (top : Option Deletion) (fs : List Fragment) (v : Viewer) (told : Option (List Fragment))
    → v.query ≡ q → v.moment ≡ now → v.shared.items ≡ [] → v.in_force ≡ None → told ≡ Some fs → IsOrdered (clustering_order q.columns) fs
    → rows_to_come top q.limit Unasked v told ≡ Some (answer q (flat top fs) now)
from_the_beginning q now top fs v told query moment shared force tells ordered =
    (λ i. option_map (limited q.limit) (option_map (λ gs.
    or_static (query i) (moment i) (shared_after (shared i ++ atom_of PartitionDeletion top) gs)
    (turned (query i).reversed (walk (query i) (moment i) (shared i ++ atom_of PartitionDeletion top) (force i) gs))) (tells i)))
    ∙ (λ i. Some (limited q.limit (or_static q now (walks_show.shared top fs i) (turned q.reversed (walks_show.rows q now (clustering_order q.columns) top fs ordered i)))))
    ∙ ap Some (sym (streams_answer q now top fs ordered))

-- some fragments are behind a viewer, and it shows of the others what the first one did of all
pub record Passed (v : Viewer) (fs : List Fragment) (w : Viewer) (told : Option (List Fragment)) : Type 0 where
  pub front : List Fragment
  pub rest : List Fragment
  pub whole : fs ≡ front ++ rest
  pub left : told ≡ Some rest
  pub rows : (gs : List Fragment) → rows_ahead v (front ++ gs) ≡ rows_ahead w gs
  pub shared : (gs : List Fragment) → shared_at_end v (front ++ gs) ≡ shared_at_end w gs

pub none_passed : (v : Viewer) (fs : List Fragment) (told : Option (List Fragment)) → told ≡ Some fs → Passed v fs v told
none_passed v fs told e = record { front = []; rest = fs; whole = refl; left = e; rows = λ gs. refl; shared = λ gs. refl }

-- a viewer takes a fragment and gives that row of it, or none
pub record Taken (w : Viewer) (f : Fragment) (r : Option LiveRow) (u : Viewer) : Type 0 where
  pub query : u.query ≡ w.query
  pub moment : u.moment ≡ w.moment
  pub rows : (gs : List Fragment) → walk w.query w.moment w.shared.items w.in_force (f ∷ gs) ≡ cons_option r (walk w.query w.moment u.shared.items u.in_force gs)
  pub shared : (gs : List Fragment) → shared_after w.shared.items (f ∷ gs) ≡ shared_after u.shared.items gs

takes_on : (w : Viewer) (f : Fragment) (r : Option LiveRow) (u : Viewer) → Taken w f r u → (gs : List Fragment) → rows_ahead w (f ∷ gs) ≡ cons_option r (rows_ahead u gs)
takes_on w f r u t gs = t.rows gs ∙ (λ i. cons_option r (walk (sym t.query i) (sym t.moment i) u.shared.items u.in_force gs))

module _ (v : Viewer) (fs : List Fragment) (w : Viewer) (told : Option (List Fragment)) (p : Passed v fs w told) (f : Fragment) (u : Viewer) (after : Option (List Fragment)) where
  module _ (rest : List Fragment) (begins : p.rest ≡ f ∷ rest) (left : after ≡ Some rest) where
    pub one_more : Taken w f None u → Passed v fs u after
    one_more t = record {
      front = p.front ++ f ∷ [];
      rest = rest;
      whole = p.whole ∙ ap (λ gs. p.front ++ gs) begins ∙ sym (append_assoc p.front (f ∷ []) rest);
      left = left;
      rows = λ gs. ap (rows_ahead v) (append_assoc p.front (f ∷ []) gs) ∙ p.rows (f ∷ gs) ∙ takes_on w f None u t gs;
      shared = λ gs. ap (shared_at_end v) (append_assoc p.front (f ∷ []) gs) ∙ p.shared (f ∷ gs) ∙ t.shared gs;
    }

    pub one_shown : (r : LiveRow) → Taken w f (Some r) u → ShowsRow v fs u after r
    one_shown r t = record {
      rest = rest;
      left = left;
      read = record {
        silent = p.front;
        last = Some f;
        rest = rest;
        whole = p.whole ∙ ap (λ gs. p.front ++ gs) begins;
        shows_none = ap (rows_ahead v) (sym (append-nil p.front)) ∙ p.rows [];
        left = left;
      };
      rows = ap (rows_ahead v) (p.whole ∙ ap (λ gs. p.front ++ gs) begins) ∙ p.rows (f ∷ rest) ∙ takes_on w f (Some r) u t rest;
      shared = ap (shared_at_end v) (p.whole ∙ ap (λ gs. p.front ++ gs) begins) ∙ p.shared (f ∷ rest) ∙ t.shared rest;
    }

pub none_left : (v : Viewer) (fs : List Fragment) (w : Viewer) (told : Option (List Fragment)) (p : Passed v fs w told) → p.rest ≡ []
    → (rows_ahead v fs ≡ []) × (shared_at_end v fs ≡ w.shared.items)
none_left v fs w told p e = (
  ap (rows_ahead v) (p.whole ∙ ap (λ gs. p.front ++ gs) e) ∙ p.rows [],
  ap (shared_at_end v) (p.whole ∙ ap (λ gs. p.front ++ gs) e) ∙ p.shared [],
)
