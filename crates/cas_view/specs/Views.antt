-- Which table files a table has in a shard at a moment, and which of them may hold a partition.
-- Cassandra documentation, "Storage engine: SSTables"; own.
use Rattle.std.specs.Prelude.{ℕ, ◌==◌, Bool, ◌&&◌, not, List, map, filter}
use Rattle.std.specs.List.{list_any}
use Rattle.std.specs.Arc.{arc_value}
use Rattle.cas_info.specs.Overlaps.{reaches}
use Rattle.cas_info.specs.declared.info.TableInfo.{TableInfo}
use Rattle.cas_view.specs.declared.view.OpenFile.{OpenFile}

-- a file that is open, and what is told of it
pub record File (T : Type 0) : Type 0 where
  pub table : T
  pub info : TableInfo

-- whoever shares a file that is open, reads the same file
abbrev pub file_of : {T : Type 0} → OpenFile T → File T
file_of f = record { table = arc_value f.table; info = f.info }

-- the files of a view, in the order in which they came
abbrev pub files_of : {T : Type 0} → List (OpenFile T) → List (File T)
files_of fs = map file_of fs

-- the number is one of these
abbrev pub is_among : List ℕ → ℕ → Bool
is_among numbers n = list_any (λ m. m == n) numbers

-- the files whose numbers aren't among these
abbrev pub all_but : {T : Type 0} → List ℕ → List (File T) → List (File T)
all_but numbers files = filter (λ f. not (is_among numbers f.info.number)) files

-- the key stands from the file's first one to its last, so that its partition may be there
abbrev pub may_hold : TableInfo → List ℕ → Bool
may_hold info key = reaches info.first key && reaches key info.last
