-- The files of a table as they are read one after another (own).
use Rattle.std.specs.Prelude.{◌≡◌, ℕ, List, ◌++◌, Some, slice_get}
use Rattle.std.specs.List.{AllByRecursion}
use Rattle.cas_types.specs.Limits.{IsNarrow}
use Rattle.cas_shard.specs.Stands.{ShardState, files_at}
use Rattle.cas_sstread.specs.Loading.{Held}
use Rattle.cas_view.specs.Views.{File}
use Rattle.cas_render.specs.declared.reply.Verdict.{Verdict}
use Rattle.cas_sessions.specs.Verifying.{AreVerdicts}

-- each of the files is of a table with at most 256 columns
abbrev pub AreNarrow : List (File Held) → Type 0
AreNarrow fs = AllByRecursion (λ f. IsNarrow f.table.columns) fs

-- so is each that a table has in a shard
abbrev pub AreNarrowIn : ℕ → List ShardState → Type 0
AreNarrowIn table shards = (n : ℕ) (x : ShardState) → slice_get shards n ≡ Some x → AreNarrow (files_at (slice_get x.stores table))

-- what is said of these files stands behind what was said of others
abbrev pub AddVerdicts : List (File Held) → List Verdict → List Verdict → Type 0
AddVerdicts fs before now = (more : List Verdict) × (now ≡ before ++ more) × AreVerdicts fs more
