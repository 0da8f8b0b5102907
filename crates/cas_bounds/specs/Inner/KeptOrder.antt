-- Where the clustering columns of an order stand.
use Rattle.std.specs.Prelude.{List}
use Rattle.cas_bounds.specs.declared.order.Ordered.{Ordered}
use Rattle.cas_bounds.specs.declared.row_order.Kept.{Kept}
use Rattle.cas_bounds.specs.declared.row_order.Kept.TheVariants.{Here, Apart}

-- the columns that are kept, in place or apart
abbrev pub kept_columns : Kept → List Ordered
kept_columns (Here few) = few
kept_columns (Apart columns) = columns.items
