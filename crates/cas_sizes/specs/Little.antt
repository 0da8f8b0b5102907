-- What little comes to: mutations whose records in the log are short together, and what says no more than they do.
-- Own.
use Rattle.std.specs.Prelude.{◌≤◌, ◌^◌, ℕ, List, map}
use Rattle.std.specs.List.{AllByRecursion}
use Rattle.std.specs.List.Sorted.{IsStrictlySortedBy}
use Rattle.cas_types.specs.Limits.{IsNarrow}
use Rattle.cas_types.specs.Values.{bytes_cmp}
use Rattle.cas_types.specs.declared.schema.Column.{Column}
use Rattle.cas_atoms.specs.Fits.{FitsKey}
use Rattle.cas_atoms.specs.declared.atom.Mutation.{Mutation}
use Rattle.cas_memtable.specs.Kept.{MayHold, atoms_under, bytes_of}
use Rattle.cas_partition.specs.Ends.{AllAtEnds}
use Rattle.cas_partition.specs.Partitions.{AreAtCuts}
use Rattle.cas_streams.specs.Flat.{changes}
use Rattle.cas_streams.specs.Joined.{Stream}
use Rattle.cas_streams.specs.Merged.{flat_of}
use Rattle.cas_streams.specs.NoMore.{SaysNoMore}
use Rattle.cas_streams.specs.Streams.{WellFormed}
use Rattle.cas_tables.specs.Contents.{Partition}
use Rattle.cas_tables.specs.Fitting.{FitsPartition}

-- mutations that a table with these columns, of which there are few enough, may hold, and of which those with atoms have records of at most 2^28 bytes
pub record AreLittle (columns : List Column) (ws : List Mutation) : Type 0 where
  pub narrow : IsNarrow columns
  pub may : AllByRecursion (MayHold columns) ws
  pub short : bytes_of 0 ws ≤ 2 ^ 28

-- a stream of the table says no more under a key than these mutations do, and each of its markers stands at an end of a range deletion that they wrote there
pub record SaysUnder (columns : List Column) (ws : List Mutation) (key : List ℕ) (s : Stream) : Type 0 where
  pub key_fits : FitsKey key
  pub formed : WellFormed columns s.fragments
  pub cuts : AreAtCuts columns (changes s.fragments)
  pub no_more : SaysNoMore (flat_of s) (atoms_under key ws)
  pub ends : AllAtEnds (atoms_under key ws) (changes s.fragments)

-- partitions that a file of the table may have, by ascending keys, each of which says no more than these mutations do under its key
pub record SayUnder (columns : List Column) (ws : List Mutation) (ps : List Partition) : Type 0 where
  pub each : AllByRecursion (FitsPartition columns) ps
  pub ascend : IsStrictlySortedBy bytes_cmp (map (λ p. p.key) ps)
  pub no_more : AllByRecursion (λ p. SaysNoMore (flat_of p.stream) (atoms_under p.key ws)) ps
  pub ends : AllByRecursion (λ p. AllAtEnds (atoms_under p.key ws) (changes p.stream.fragments)) ps
