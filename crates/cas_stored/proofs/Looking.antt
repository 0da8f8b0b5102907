-- The rows that a query shows of files and memtables are the live view of all that was written under its key.
use Rattle.std.proofs.Common.{◌≡◌, ℤ, Option, Some, List, ◌∙◌}
use Rattle.cas_cell.specs.declared.deletion.Deletion.{Deletion}
use Rattle.cas_bounds.specs.ClusteringOrder.{clustering_order}
use Rattle.cas_bounds.specs.declared.order.Ordered.{Ordered}
use Rattle.cas_bounds.specs.declared.cuts.Slice.{Slice}
use Rattle.cas_atoms.specs.Answers.{answer}
use Rattle.cas_atoms.specs.Winners.{Same}
use Rattle.cas_atoms.specs.declared.atom.Atom.{Atom}
use Rattle.cas_atoms.specs.declared.atom.Mutation.{Mutation}
use Rattle.cas_atoms.specs.declared.query.Query.{Query}
use Rattle.cas_atoms.specs.declared.query.LiveRow.{LiveRow}
use Rattle.cas_laws.specs.Inside.{SameIn}
use Rattle.cas_laws.proofs.AliveProofs.{same_in_answers}
use Rattle.cas_streams.specs.Flat.{flat}
use Rattle.cas_streams.specs.Joined.{Stream}
use Rattle.cas_streams.specs.Merged.{merged, flat_of, flats}
use Rattle.cas_streams.specs.Streams.{IsOrdered}
use Rattle.cas_streams.specs.declared.fragment.Fragment.{Fragment}
use Rattle.cas_streams.proofs.Merges.{merge_is_join, merge_ordered}
use Rattle.cas_merge.specs.Told.{streams_told}
use Rattle.cas_memtable.specs.declared.memtable.MemPart.{MemPart}
use Rattle.cas_memtable.specs.Kept.{all_of, atoms_under}
use Rattle.cas_sstread.specs.Loading.{Held}
use Rattle.cas_view.specs.Views.{File}
use Rattle.cas_stored.specs.Stored.{HoldEach, ShowStored}
use Rattle.cas_stored.specs.Rows.{AreRowsOf}

then_in : (s : Slice) (A B C : List Atom) → Same A B → SameIn s B C → SameIn s A C
then_in s A B C a b = record { covers = λ x i. a.covers x ∙ b.covers x i; lives = λ r i. a.lives r ∙ b.lives r i; cells = λ x i. a.cells x ∙ b.cells x i }

-- what comes of the merge of sources, by what its making ensures
pub rows_shown : {X : Type 0} (fs : List (File Held)) (ms : List MemPart) (q : Query) (now same : ℤ) (tells : X → Option (List Fragment)) (tops : X → Option Deletion) (xs : List X)
    (top : Option Deletion) (told : Option (List Fragment)) (shown : List LiveRow) → same ≡ now
    → ((order : List Ordered) (wss : List (List Mutation)) → HoldEach order fs ms wss → q.slice.lo.order ≡ order → q.slice.hi.order ≡ order → ShowStored tells tops order q.slice q.key fs ms (all_of wss) xs)
    → ((ss : List Stream) → streams_told tells tops xs ≡ Some ss → told ≡ Some (merged ss).fragments)
    → ((ss : List Stream) → streams_told tells tops xs ≡ Some ss → top ≡ (merged ss).top)
    → ((gs : List Fragment) → told ≡ Some gs → IsOrdered (clustering_order q.columns) gs → shown ≡ answer q (flat top gs) same) → AreRowsOf fs ms q now shown
rows_shown fs ms q now same tells tops xs top told shown e shows f g rows wss holds one =
    let order : List Ordered = clustering_order q.columns in
    let from : ShowStored tells tops order q.slice q.key fs ms (all_of wss) xs = shows order wss holds one.0 one.1 in
    let ss : List Stream = from.streams in
    let under : List Atom = atoms_under q.key (all_of wss) in
    rows (merged ss).fragments (f ss from.told) (merge_ordered order ss from.ordered)
    ∙ (λ i. answer q (flat (g ss from.told i) (merged ss).fragments) (e i))
    ∙ same_in_answers (flat_of (merged ss)) under q (then_in q.slice (flat_of (merged ss)) (flats ss) under (merge_is_join order ss from.ordered) from.same) now
