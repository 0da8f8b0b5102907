-- What is told of what is read, where the value itself isn't built (own).
use Rattle.std.specs.Prelude.{◌≡◌, Result, Ok, Err}
use Rattle.cas_codec.specs.declared.fault.ReadFault.{ReadFault}
use Rattle.cas_codec.specs.declared.fault.ReadFault.TheVariants.{Short, Bad, Mem}
use Rattle.cas_codec.specs.Reading.{Left, Read}

-- something of the value, and what is left after it
abbrev pub told : {A B : Type 0} → (A → B) → Read A → Read B
told f (Ok x) = Ok (f x.0, x.1)
told f (Err fault) = Err fault

-- nothing of the value
abbrev pub passed : {A : Type 0} → Read A → Read (Unit {0})
passed (Ok x) = Ok (tt, x.1)
passed (Err fault) = Err fault

-- how a call ends that reads, its value seen by view: as the reading does, unless memory ran out
abbrev pub Ends : {X Y : Type 0} → (X → Y) → Result X ReadFault → Read Y → Type 0
Ends view (Ok x) read = (left : Left) × (read ≡ Ok (view x, left))
Ends view (Err (Short at)) read = read ≡ Err (Short at)
Ends view (Err (Bad at)) read = read ≡ Err (Bad at)
Ends view (Err Mem) read = Unit {0}
