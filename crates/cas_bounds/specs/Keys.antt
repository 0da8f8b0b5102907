-- The order of the keys of a map of rows: keys of one table go by its rows' order; tables that order their rows otherwise are kept apart (own).
use Rattle.std.specs.Prelude.{◌≡◌, ℕ, List}
use Rattle.std.specs.declared.cmp.Ordering.{Ordering}
use Rattle.std.specs.Ordering.{nat_cmp, bool_cmp, on, ordering_then, then_cmp}
use Rattle.std.specs.Cmp.Lexicographic.{slice_cmp}
use Rattle.cas_types.specs.declared.tag.TypeTag.{TypeTag}
use Rattle.cas_types.specs.declared.tag.TypeTag.TheVariants as tag
use Rattle.cas_bounds.specs.Points.{Point, point_cmp}
use Rattle.cas_bounds.specs.declared.order.Ordered.{Ordered}
use Rattle.cas_bounds.specs.declared.map_key.MapKey.{MapKey}

-- each type has a number
abbrev pub tag_rank : TypeTag → ℕ
tag_rank tag.Ascii = 0
tag_rank tag.BigInt = 1
tag_rank tag.Blob = 2
tag_rank tag.Boolean = 3
tag_rank tag.Date = 4
tag_rank tag.Int = 5
tag_rank tag.SmallInt = 6
tag_rank tag.Text = 7
tag_rank tag.Time = 8
tag_rank tag.Timestamp = 9
tag_rank tag.TimeUuid = 10
tag_rank tag.TinyInt = 11
tag_rank tag.Uuid = 12

-- clustering columns by their type, then ASC before DESC
abbrev pub ordered_cmp : Ordered → Ordered → Ordering
ordered_cmp = then_cmp (on (λ o. tag_rank o.tag) nat_cmp) (on (λ o. o.descending) bool_cmp)

-- tables by their clustering columns
abbrev pub orders_cmp : List Ordered → List Ordered → Ordering
orders_cmp = slice_cmp ordered_cmp

-- the point that a key stands for
abbrev pub key_point : MapKey → Point
key_point k = record { end = k.end; values = k.values }

-- keys of one table by its order of points, and tables that order their rows otherwise one after another
abbrev pub key_cmp : MapKey → MapKey → Ordering
key_cmp a b = ordering_then (orders_cmp a.order b.order) (point_cmp a.order (key_point a) (key_point b))

-- keys of one table compare as their points do
abbrev pub KeysArePoints : Type 0
KeysArePoints = (a b : MapKey) → a.order ≡ b.order → key_cmp a b ≡ point_cmp a.order (key_point a) (key_point b)
