-- How a table orders the rows of a partition.
-- CQL documentation, "Data definition: CREATE TABLE; the clustering columns; clustering order".
use Rattle.std.specs.Prelude.{List, Option}
use Rattle.std.specs.Bool.{then_some}
use Rattle.std.specs.List.{filter_map}
use Rattle.cas_types.specs.Schemas.{is_clustering, is_descending}
use Rattle.cas_types.specs.declared.schema.Column.{Column}
use Rattle.cas_bounds.specs.declared.order.Ordered.{Ordered}

-- how a clustering column orders rows: by its type, and from the greatest value down where it is DESC; other columns order none
abbrev pub ordered_by : Column → Option Ordered
ordered_by c = then_some (is_clustering c.kind) (record { tag = c.tag; descending = is_descending c.kind })

-- how a table orders its rows: by its clustering columns, one after another
unfoldable pub clustering_order : List Column → List Ordered
clustering_order columns = filter_map ordered_by columns
