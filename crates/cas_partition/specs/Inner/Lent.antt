-- Rows that are lent one after another (own).
use Rattle.std.specs.Prelude.{◌≡◌, not, ◌&&◌, Option, None, Some, List, [], ◌∷◌, ◌++◌, filter}
use Rattle.std.specs.Ordering.{is_le}
use denote.Ref.{Bor}
use Rattle.cas_bounds.specs.declared.map_key.MapKey.{MapKey}
use Rattle.cas_partition.specs.Spots.{row_cmp}
use Rattle.cas_partition.specs.Ranged.{below_rows}
use Rattle.cas_partition.specs.Inner.Rows.{Said, RowsOf, flat, AreRows}
use Rattle.cas_partition.specs.declared.lending.LentRows.{LentRows}
use Rattle.cas_partition.specs.declared.spot.Spot.{Spot}
use Rattle.cas_partition.specs.declared.spot.Content.{Content}

-- with the row that was taken out; where there was none, there were no others
abbrev pub with_lent : Option (Bor (Option MapKey) × Bor Said) → RowsOf → RowsOf
with_lent None others = []
with_lent (Some r) others = (r.0.now, r.1.now) ∷ others

-- the rows, the first of which is looked at
abbrev pub rows_in : LentRows → RowsOf
rows_in l = with_lent l.first l.others

-- the next row is given, or none is left
abbrev pub GivesRow : RowsOf → Option (Bor (Option MapKey) × Bor Said) → RowsOf → Type 0
GivesRow rows None later = (rows ≡ []) × (later ≡ [])
GivesRow rows (Some r) later = rows ≡ (r.0.now, r.1.now) ∷ later

-- the static row
abbrev pub static_rows : RowsOf → RowsOf
static_rows rows = filter (λ r. not (is_le (row_cmp (Some below_rows) r.0))) rows

-- the rows from one on, before another
abbrev pub rows_amid : Option MapKey → Option MapKey → RowsOf → RowsOf
rows_amid low high rows = filter (λ r. is_le (row_cmp low r.0) && not (is_le (row_cmp high r.0))) rows

-- of the rows of these entries the static one, and those from one on, before another
pub record LendsRows (low high : Option MapKey) (entries : List (Spot × Content)) (lent : RowsOf) : Type 0 where
  pub rows : RowsOf
  pub whole : AreRows rows
  pub are : flat rows ≡ entries
  pub is : lent ≡ static_rows rows ++ rows_amid low high rows
