-- What the parts of a reader answer, before it is said in the grammar's words.
-- Own.
use Rattle.std.specs.Prelude.{◌≡◌, Result, Ok, Err}
use Rattle.cas_codec.specs.declared.fault.ReadFault.{ReadFault}
use Rattle.cas_codec.specs.Reading.{Left, Read}

-- the answer of a reader that asks for no memory, and then stands at new, is that of the reading
abbrev pub Answers : {X Y : Type 0} → (X → Y) → Result X ReadFault → Left → Read Y → Type 0
Answers view (Ok x) new read = read ≡ Ok (view x, new)
Answers view (Err f) new read = read ≡ Err f
