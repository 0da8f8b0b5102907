-- How a part of a file is filled, and what the parts together are.
use Rattle.std.specs.Prelude.{◌≡◌, ℕ, ◌≤◌, List, length, take, drop}
use Rattle.cas_sstread.specs.declared.loading.Parts.{Parts}
use Rattle.cas_sstread.specs.Reading.{Loaded}

-- so many bytes of the file from that place on stand at the front
pub record IsFront (file : List ℕ) (at count : ℕ) (bytes : List ℕ) : Type 0 where
  pub there : take count bytes ≡ take count (drop at file)
  pub within : count ≤ length (drop at file)

-- all that the file has of a part that is so long stands at the front
abbrev pub IsFilled : List ℕ → ℕ → ℕ → ℕ → List ℕ → Type 0
IsFilled file at long count bytes = take count bytes ≡ take long (drop at file)

-- what is kept of a file
abbrev pub kept_of : Parts → Loaded
kept_of p = record { version = p.version; end = p.end; partitions = p.index.partitions; filter = p.filter }
