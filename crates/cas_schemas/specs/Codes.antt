-- The bytes that stand for kinds, shapes, types, strategies and units. Own format.
use Rattle.std.specs.Prelude.{ℕ, ◌==◌, if◌then◌else◌, Ok}
use Rattle.std.specs.Int.{is_in_range}
use Rattle.cas_types.specs.declared.tag.TypeTag.{TypeTag}
use Rattle.cas_types.specs.declared.tag.TypeTag.TheVariants.{Ascii, BigInt, Blob, Boolean, Date, Int, SmallInt, Text, Time, Timestamp, TimeUuid, TinyInt, Uuid}
use Rattle.cas_types.specs.declared.schema.Kind.{Kind}
use Rattle.cas_types.specs.declared.schema.Kind.TheVariants.{Partition, Ascending, Descending, Static, Regular}
use Rattle.cas_types.specs.declared.schema.Shape.{Shape}
use Rattle.cas_types.specs.declared.schema.Shape.TheVariants as shape
use Rattle.cas_types.specs.declared.schema.Strategy.{Strategy}
use Rattle.cas_types.specs.declared.schema.Strategy.TheVariants.{SizeTiered, Leveled, TimeWindow}
use Rattle.cas_types.specs.declared.schema.Unit.{Unit}
use Rattle.cas_types.specs.declared.schema.Unit.TheVariants.{Minutes, Hours, Days}
use Rattle.cas_codec.specs.Reading.{Left, Read, ◌>>=◌, checked, u8_at}

-- what a column is
abbrev pub kind_code : Kind → ℕ
kind_code Partition = 0
kind_code Ascending = 1
kind_code Descending = 2
kind_code Regular = 3
kind_code Static = 4

-- one value, or a collection
abbrev pub shape_code : Shape → ℕ
shape_code shape.One = 0
shape_code shape.Set = 1
shape_code shape.List = 2
shape_code shape.Map = 3

-- a native type
abbrev pub tag_code : TypeTag → ℕ
tag_code Ascii = 0
tag_code BigInt = 1
tag_code Blob = 2
tag_code Boolean = 3
tag_code Date = 4
tag_code Int = 5
tag_code SmallInt = 6
tag_code Text = 7
tag_code Time = 8
tag_code Timestamp = 9
tag_code TimeUuid = 10
tag_code TinyInt = 11
tag_code Uuid = 12

-- a compaction strategy
abbrev pub strategy_code : Strategy → ℕ
strategy_code SizeTiered = 0
strategy_code Leveled = 1
strategy_code TimeWindow = 2

-- the unit of compaction windows
abbrev pub unit_code : Unit → ℕ
unit_code Minutes = 0
unit_code Hours = 1
unit_code Days = 2

-- the kind of a code
abbrev pub kind_of : ℕ → Kind
kind_of n = if n == 0 then Partition else if n == 1 then Ascending else if n == 2 then Descending else if n == 3 then Regular else Static

-- the shape of a code
abbrev pub shape_of : ℕ → Shape
shape_of n = if n == 0 then shape.One else if n == 1 then shape.Set else if n == 2 then shape.List else shape.Map

-- the type of a code
abbrev pub tag_of : ℕ → TypeTag
tag_of n =
    if n == 0 then Ascii
    else if n == 1 then BigInt
    else if n == 2 then Blob
    else if n == 3 then Boolean
    else if n == 4 then Date
    else if n == 5 then Int
    else if n == 6 then SmallInt
    else if n == 7 then Text
    else if n == 8 then Time
    else if n == 9 then Timestamp
    else if n == 10 then TimeUuid
    else if n == 11 then TinyInt
    else Uuid

-- the strategy of a code
abbrev pub strategy_of : ℕ → Strategy
strategy_of n = if n == 0 then SizeTiered else if n == 1 then Leveled else TimeWindow

-- the unit of a code
abbrev pub unit_of : ℕ → Unit
unit_of n = if n == 0 then Minutes else if n == 1 then Hours else Days

-- what a byte up to the last code stands for; a byte above isn't allowed there
unfoldable pub coded_at : {A : Type 0} → ℕ → (ℕ → A) → Left → Read A
coded_at last of left = do
  code ← checked (is_in_range 0 last) u8_at left
  Ok (of code.0, code.1)
