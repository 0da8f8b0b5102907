-- The row of a place.
use Rattle.std.specs.Option.{option_copied}
use Rattle.cas_atoms.specs.Coordinates.{RowKey, row_key}
use Rattle.cas_atoms.specs.declared.place.Place.{Place}

-- the row that the column is one of
abbrev pub row_at : Place → RowKey
row_at place = row_key (option_copied place.row)
