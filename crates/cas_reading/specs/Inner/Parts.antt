-- What the parts of a reading answer (own).
use Rattle.std.specs.Prelude.{◌≡◌, ℕ, Bool, true, false, List, Option, None, Some, Result, Ok, Err}
use Rattle.cas_types.specs.declared.schema.Column.{Column}
use Rattle.cas_cell.specs.declared.deletion.Deletion.{Deletion}
use Rattle.cas_bounds.specs.declared.cuts.Slice.{Slice}
use Rattle.cas_codec.specs.Reading.{Left}
use Rattle.cas_streams.specs.declared.fragment.Fragment.{Fragment}
use Rattle.cas_fragments.specs.declared.heads.Head.{Head}
use Rattle.cas_fragments.specs.declared.heads.Version.{Version}
use Rattle.cas_index.specs.declared.entries.PartitionEntry.{PartitionEntry}
use Rattle.cas_blocks.specs.declared.fault.TableFault.{TableFault}
use Rattle.cas_blocks.specs.declared.fault.TableFault.TheVariants as table_fault
use Rattle.cas_sstread.specs.Loading.{Held}
use Rattle.cas_reading.specs.Slices.{IsHead, HasNoHead, IsSlice, IsTold, IsBadHead, IsBadBlock}

-- the head that stands there, or that in the file of that number none of the key does
abbrev pub HeadAnswers : Version → List Column → ℕ → Left → List ℕ → Result Head TableFault → Type 0
HeadAnswers version columns number left key (Ok h) = IsHead version columns left key h.top h.columns
HeadAnswers version columns number left key (Err table_fault.Read) = Unit {0}
HeadAnswers version columns number left key (Err (table_fault.BadBlock n at)) = (n ≡ number) × (at ≡ left.at) × HasNoHead version columns left key
HeadAnswers version columns number left key (Err table_fault.Mem) = Unit {0}

-- why the partition of which the index tells this isn't read
abbrev pub IsFault : Held → List ℕ → PartitionEntry → TableFault → Type 0
IsFault t key e table_fault.Read = Unit {0}
IsFault t key e (table_fault.BadBlock n at) = IsBadHead t key e n at
IsFault t key e table_fault.Mem = Unit {0}

-- what is answered of it
abbrev pub EntryAnswers : {X : Type 0} → Held → List ℕ → Slice → (X → Option Deletion) → (X → Option (List Fragment)) → PartitionEntry → Result X TableFault
    → Type 0
EntryAnswers t key s top to_come e (Ok x) = IsSlice t key s e (top x) (to_come x)
EntryAnswers t key s top to_come e (Err fault) = IsFault t key e fault

-- of the partition of which the index tells, that place of the file of that number is bad behind the head
abbrev pub IsBadSlice : Held → List ℕ → Slice → ℕ → ℕ → Type 0
IsBadSlice t key s n at = (e : PartitionEntry) × IsTold t.kept key e × IsBadBlock t s e n at

-- whether there is a slice, answered of what has it then
abbrev pub given : {X : Type 0} → X → Result Bool TableFault → Result (Option X) TableFault
given x (Ok true) = Ok (Some x)
given x (Ok false) = Ok None
given x (Err fault) = Err fault
