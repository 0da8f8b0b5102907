-- A number by which most rows of one table are told apart before all else is compared; and that the rows' order is total (own).
use Rattle.std.specs.Prelude.{◌≡◌, ℕ, ◌+◌, ℤ, pos, negsuc, ◌-ℤ◌, Option, None, Some, List, [], ◌∷◌, if◌then◌else◌}
use Rattle.std.specs.Int.{w8, w16, w32, w64}
use Rattle.std.specs.Cmp.{IsTotalOrder}
use Rattle.std.specs.Cmp.Lexicographic.{options_total}
use Rattle.cas_types.specs.Values.{signed_number}
use Rattle.cas_types.specs.declared.tag.TypeTag.{TypeTag}
use Rattle.cas_types.specs.declared.tag.TypeTag.TheVariants.{Ascii, BigInt, Blob, Boolean, Date, Int, SmallInt, Text, Time, Timestamp, TimeUuid, TinyInt, Uuid}
use Rattle.cas_bounds.specs.Inner.KeyLaws.{key_total}
use Rattle.cas_bounds.specs.declared.order.Ordered.{Ordered}
use Rattle.cas_bounds.specs.declared.map_key.End.TheVariants.{Row}
use Rattle.cas_bounds.specs.declared.map_key.MapKey.{MapKey}
use Rattle.cas_partition.specs.Spots.{row_cmp}
use Rattle.cas_partition.specs.declared.front.Front.{Front}

-- the number that a value of the type is, where the type has signed numbers
abbrev pub plain_number : TypeTag → List ℕ → Option ℤ
plain_number Ascii x = None
plain_number BigInt x = signed_number w64 x
plain_number Blob x = None
plain_number Boolean x = None
plain_number Date x = None
plain_number Int x = signed_number w32 x
plain_number SmallInt x = signed_number w16 x
plain_number Text x = None
plain_number Time x = signed_number w64 x
plain_number Timestamp x = signed_number w64 x
plain_number TimeUuid x = None
plain_number TinyInt x = signed_number w8 x
plain_number Uuid x = None

-- each of these types has a number of its own, two apart
abbrev pub tag_kind : TypeTag → ℕ
tag_kind Ascii = 0
tag_kind BigInt = 7
tag_kind Blob = 0
tag_kind Boolean = 0
tag_kind Date = 0
tag_kind Int = 5
tag_kind SmallInt = 3
tag_kind Text = 0
tag_kind Time = 9
tag_kind Timestamp = 11
tag_kind TimeUuid = 0
tag_kind TinyInt = 1
tag_kind Uuid = 0

-- and between them the same type from the greatest down
abbrev pub kind_of : Ordered → ℕ
kind_of o = if o.descending then tag_kind o.tag + 1 else tag_kind o.tag

-- numbers from the greatest down
abbrev pub turned : ℤ → ℤ
turned n = negsuc 0 -ℤ n

-- nothing is known
abbrev pub no_front : Front
no_front = record { kind = 0; number = pos 0 }

-- the number of a value of that column, if it is one
abbrev pub front_by : Ordered → Option ℤ → Front
front_by o None = no_front
front_by o (Some n) = record { kind = kind_of o; number = if o.descending then turned n else n }

-- that of the values of a row, which is the only one's
abbrev pub front_at : List Ordered → List (List ℕ) → Front
front_at (o ∷ []) (x ∷ []) = front_by o (plain_number o.tag x)
front_at _ _ = no_front

-- that of a row; the static row has none
abbrev pub front_of : Option MapKey → Front
front_of None = no_front
front_of (Some k) = front_at k.order k.values

-- both are rows, with the same values
abbrev pub HaveSameValues : Option MapKey → Option MapKey → Type 0
HaveSameValues (Some k) (Some q) = (k.values ≡ q.values) × (k.end ≡ Row) × (q.end ≡ Row)
HaveSameValues _ _ = ⊥

pub row_total : IsTotalOrder row_cmp
row_total = options_total key_total
