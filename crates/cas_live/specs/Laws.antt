-- What streams answer (own).
use Rattle.std.specs.Prelude.{◌≡◌, ℕ, ℤ, Option, None, List}
use Rattle.cas_cell.specs.declared.deletion.Deletion.{Deletion}
use Rattle.cas_bounds.specs.ClusteringOrder.{clustering_order}
use Rattle.cas_bounds.specs.declared.order.Ordered.{Ordered}
use Rattle.cas_atoms.specs.Coordinates.{clustered}
use Rattle.cas_atoms.specs.RowsAndPaths.{written_row}
use Rattle.cas_atoms.specs.Answers.{row_shown, answer}
use Rattle.cas_atoms.specs.declared.atom.Atom.TheVariants.{PartitionDeletion}
use Rattle.cas_atoms.specs.declared.query.Query.{Query}
use Rattle.cas_atoms.specs.declared.query.LiveRow.{LiveRow}
use Rattle.cas_laws.specs.Given.{Gives, Has}
use Rattle.cas_streams.specs.Flat.{atom_of, flat}
use Rattle.cas_streams.specs.Streams.{IsOrdered}
use Rattle.cas_streams.specs.declared.fragment.Fragment.{Fragment}
use Rattle.cas_live.specs.Views.{shared, live_rows, stream_answer}
use Rattle.cas_live.specs.Walks.{walk, shared_after}

-- the live view of an ordered stream of the query's table, taken row by row, is what all its atoms answer
abbrev pub StreamsAnswer : Type 0
StreamsAnswer = (q : Query) (now : ℤ) (top : Option Deletion) (fs : List Fragment) → IsOrdered (clustering_order q.columns) fs →
    answer q (flat top fs) now ≡ stream_answer q now top fs

-- on the way through an ordered stream each row shows as it does in the whole: what is in force at it was told before it, and the static row has come
pub record WalksShow : Type 0 where
  pub rows : (q : Query) (now : ℤ) (order : List Ordered) (top : Option Deletion) (fs : List Fragment) → IsOrdered order fs →
      walk q now (atom_of PartitionDeletion top) None fs ≡ live_rows q now top fs
  pub shared : (top : Option Deletion) (fs : List Fragment) → shared_after (atom_of PartitionDeletion top) fs ≡ shared top fs

-- each live row of an ordered stream is what all its atoms show of a row that one of them writes in
abbrev pub ShowsWhatIsWritten : Type 0
ShowsWhatIsWritten = (q : Query) (now : ℤ) (top : Option Deletion) (fs : List Fragment) → IsOrdered (clustering_order q.columns) fs →
    (r : LiveRow) → Has (live_rows q now top fs) r →
    (c : List (List ℕ)) × Gives written_row (flat top fs) c × (r ≡ row_shown q (flat top fs) now (clustered c))
