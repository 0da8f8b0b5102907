-- What holds of every open store (own).
use Rattle.std.specs.Prelude.{◌≡◌, ℕ, false, Option, Some, Result, Err, List}
use Rattle.cas_bounds.specs.declared.order.Ordered.{Ordered}
use Rattle.cas_atoms.specs.declared.atom.Mutation.{Mutation}
use Rattle.cas_sessions.specs.declared.answer.Fault.{Fault}
use Rattle.cas_sessions.specs.declared.answer.Fault.TheVariants.{Mem, Stopped}
use Rattle.cas_sessions.specs.Filling.{Settles, is_full}
use Rattle.cas_lasting.specs.History.{History}
use Rattle.cas_sstread.specs.Loading.{Held}
use Rattle.cas_stored.specs.Stored.{StandInFile}
use Rattle.cas_view.specs.Views.{File}
use Rattle.cas_sessions.specs.Verifying.{IsFoundSo}

-- a flush that no earlier fault stopped, and that had the memory for its new memtable
abbrev pub WasTried : Result (Option ℕ) Fault → Type 0
WasTried (Err Mem) = ⊥
WasTried (Err (Stopped first)) = ⊥
WasTried r = Unit {0}

-- behind it the memtable isn't full any more, also where the disk failed: so a memtable is flushed for being full once, and not again at each write
abbrev pub FullNoMore : Type 0
FullNoMore = (h : History) (n table : ℕ) (r : Result (Option ℕ) Fault) (after : History) → Settles h n table r after
    → WasTried r → is_full after n table ≡ false

-- a file in which mutations stand is found bad at no place by a check
abbrev pub FilesAreWhole : Type 0
FilesAreWhole = (order : List Ordered) (f : File Held) (ws : List Mutation) (at : ℕ) → StandInFile order f ws → IsFoundSo f.table (Some at) → ⊥
