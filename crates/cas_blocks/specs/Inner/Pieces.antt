-- What is still to be read of a partition's blocks (own).
use Rattle.std.specs.Prelude.{◌≡◌, ℕ, ◌+◌, ◌-◌, List, length, ◌++◌, Option, None, Some, Result, Ok, Err}
use Rattle.std.specs.Option.{option_map}
use Rattle.cas_types.specs.declared.schema.Column.{Column}
use Rattle.cas_bounds.specs.declared.order.Ordered.{Ordered}
use Rattle.cas_codec.specs.declared.fault.ReadFault.{ReadFault}
use Rattle.cas_streams.specs.declared.fragment.Fragment.{Fragment}
use Rattle.cas_fragments.specs.Reading.{next_block_at}
use Rattle.cas_blocks.specs.Reading.{left_at, fragments_on, BreaksBehind}
use Rattle.cas_blocks.specs.Inner.Steps.{reached}
use Rattle.cas_blocks.specs.declared.fault.TableFault.{TableFault}
use Rattle.cas_blocks.specs.declared.fault.TableFault.TheVariants as table_fault
use Rattle.cas_blocks.specs.declared.steps.Onward.{Onward}
use Rattle.cas_blocks.specs.declared.pieces.Pieces.{Pieces}

-- the rest of the block at hand, and the blocks behind it, where the file tells its bytes
abbrev pub told_on : List Ordered → List Column → ℕ → Option (List ℕ) → Onward → List Fragment → Option (List Fragment)
told_on order columns end None o rest = None
told_on order columns end (Some file) o rest =
    option_map (λ fs. rest ++ fs) (fragments_on order columns o.ends o.goes_on (reached o) (left_at file end o.place))

-- the same; behind the partition's end nothing is read
abbrev pub pieces_left : List Ordered → List Column → ℕ → Option (List ℕ) → Option Onward → List Fragment → Option (List Fragment)
pieces_left order columns end contents None rest = Some rest
pieces_left order columns end contents (Some o) rest = told_on order columns end contents o rest

-- what is left of what a read has
abbrev pub left_of : List Ordered → List Column → ℕ → Option (List ℕ) → Pieces → Option (List Fragment)
left_of order columns end contents p = pieces_left order columns end contents p.onward p.rest

-- at most so many fragments are to come
abbrev pub pieces_room : ℕ → Option Onward → List Fragment → ℕ
pieces_room end None rest = length rest
pieces_room end (Some o) rest = length rest + (end - o.place)

abbrev pub room_of : ℕ → Pieces → ℕ
room_of end p = pieces_room end p.onward p.rest

-- the next block is the bad one: what stands at its place is no block that may stand there
abbrev pub IsBadBlock : List Ordered → List Column → ℕ → ℕ → Option (List ℕ) → Option Onward → ℕ → ℕ → Type 0
IsBadBlock order columns number end contents None n at = ⊥
IsBadBlock order columns number end contents (Some o) n at =
    (file : List ℕ) → contents ≡ Some file
    → (n ≡ number) × (at ≡ o.place) × ((f : ReadFault) × (next_block_at order columns o.ends o.goes_on (reached o) (left_at file end o.place) ≡ Err f))

-- a read that goes on may find that place of the file of that number bad: blocks that may stand there lead to it, and none does there
abbrev pub MayBeBad : List Ordered → List Column → ℕ → ℕ → Option (List ℕ) → Option Onward → ℕ → ℕ → Type 0
MayBeBad order columns number end contents None n at = ⊥
MayBeBad order columns number end contents (Some o) n at =
    (file : List ℕ) → contents ≡ Some file
    → (n ≡ number) × ((bs : List (List Fragment)) × BreaksBehind order columns o.ends o.goes_on (reached o) (left_at file end o.place) bs at)

-- after a call it finds no other place bad than it might before
abbrev pub FindsNoMore : List Ordered → List Column → ℕ → ℕ → Option (List ℕ) → Option Onward → Option Onward → Type 0
FindsNoMore order columns number end contents before after =
    (n at : ℕ) → MayBeBad order columns number end contents after n at → MayBeBad order columns number end contents before n at

abbrev pub IfBad : {A : Type 0} → (ℕ → ℕ → Type 0) → Result A TableFault → Type 0
IfBad P (Ok x) = Unit {0}
IfBad P (Err table_fault.Read) = Unit {0}
IfBad P (Err (table_fault.BadBlock n at)) = P n at
IfBad P (Err table_fault.Mem) = Unit {0}
