-- What a SELECT reads of what a shard has stored of a table (own).
use Rattle.std.specs.Prelude.{◌≡◌, ℤ, Option, List}
use Rattle.cas_bounds.specs.ClusteringOrder.{clustering_order}
use Rattle.cas_atoms.specs.Answers.{answer}
use Rattle.cas_atoms.specs.declared.atom.Mutation.{Mutation}
use Rattle.cas_atoms.specs.declared.query.Query.{Query}
use Rattle.cas_atoms.specs.declared.query.LiveRow.{LiveRow}
use Rattle.cas_index.specs.Searches.{IsSliceOf}
use Rattle.cas_memtable.specs.Kept.{atoms_under}
use Rattle.cas_stored.specs.Stored.{StoredTable}
use Rattle.cas_shard.specs.Stands.{Holds}

-- whichever mutations the table holds, these rows are the live view
abbrev pub Answers : Query → ℤ → Option StoredTable → List LiveRow → Type 0
Answers q now stored shown =
    (ws : List Mutation) → Holds (clustering_order q.columns) stored ws → IsSliceOf (clustering_order q.columns) q.slice
    → shown ≡ answer q (atoms_under q.key ws) now
