-- Where the fragments of a partition stand: first the static row, then rows and cuts as the table orders them.
-- CQL documentation, "Data definition: clustering order; static columns"; own.
use Rattle.std.specs.Prelude.{Option, None, Some, List}
use Rattle.std.specs.Option.{option_cmp}
use Rattle.std.specs.declared.cmp.Ordering.{Ordering}
use Rattle.cas_bounds.specs.Points.{Point, point_cmp, row_point, cut_point}
use Rattle.cas_bounds.specs.declared.order.Ordered.{Ordered}
use Rattle.cas_atoms.specs.Coordinates.{RowKey, clustered, static_row}
use Rattle.cas_streams.specs.declared.fragment.Fragment.{Fragment}
use Rattle.cas_streams.specs.declared.fragment.Fragment.TheVariants as fragment

-- a place: the point of a row or of a cut; none is the static row's
abbrev pub Place : Type 0
Place = Option Point

-- places in order: the static row before all rows and cuts
abbrev pub place_cmp : List Ordered → Place → Place → Ordering
place_cmp order = option_cmp (point_cmp order)

-- where a fragment stands
abbrev pub place_of : Fragment → Place
place_of (fragment.Static columns) = None
place_of (fragment.Row r) = Some (row_point r.clustering.values)
place_of (fragment.Marker cut d) = Some (cut_point cut)

-- the row that a fragment is of; a marker is of none
abbrev pub row_in : Fragment → Option RowKey
row_in (fragment.Static columns) = Some static_row
row_in (fragment.Row r) = Some (clustered r.clustering.values)
row_in (fragment.Marker cut d) = None
