-- The least timestamp of several memtables under a key (own).
use Rattle.std.specs.Prelude.{ℕ, ℤ, int_lt, Option, None, Some, List, fold, if◌then◌else◌}
use Rattle.cas_memtable.specs.Memtables.{least_of}
use Rattle.cas_memtable.specs.declared.memtable.MemPart.{MemPart}

-- the earlier of two timestamps, of which there may be none
abbrev pub earlier_of : Option ℤ → Option ℤ → Option ℤ
earlier_of None b = b
earlier_of (Some a) None = Some a
earlier_of (Some a) (Some b) = if int_lt b a then Some b else Some a

-- the least of all
abbrev pub least_in : List ℕ → List MemPart → Option ℤ
least_in key ms = fold (λ least m. earlier_of least (least_of m key)) None ms
