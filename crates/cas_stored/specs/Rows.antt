-- What a query shows of all that a table has stored.
-- CQL documentation, "Data manipulation: SELECT".
use Rattle.std.specs.Prelude.{◌≡◌, ℤ, List}
use Rattle.cas_bounds.specs.ClusteringOrder.{clustering_order}
use Rattle.cas_atoms.specs.Answers.{answer}
use Rattle.cas_atoms.specs.declared.atom.Mutation.{Mutation}
use Rattle.cas_atoms.specs.declared.query.Query.{Query}
use Rattle.cas_atoms.specs.declared.query.LiveRow.{LiveRow}
use Rattle.cas_index.specs.Searches.{IsSliceOf}
use Rattle.cas_memtable.specs.declared.memtable.MemPart.{MemPart}
use Rattle.cas_memtable.specs.Kept.{all_of, atoms_under}
use Rattle.cas_sstread.specs.Loading.{Held}
use Rattle.cas_view.specs.Views.{File}
use Rattle.cas_stored.specs.Stored.{HoldEach}

-- whichever mutations files and memtables hold, these rows are the live view, at that moment, of what all of them wrote under the query's key
abbrev pub AreRowsOf : List (File Held) → List MemPart → Query → ℤ → List LiveRow → Type 0
AreRowsOf fs ms q now rows =
    (wss : List (List Mutation)) → HoldEach (clustering_order q.columns) fs ms wss → IsSliceOf (clustering_order q.columns) q.slice
    → rows ≡ answer q (atoms_under q.key (all_of wss)) now
