-- The order of values is an order.
use Rattle.cas_types.specs.Orders.{Orders}
use Rattle.cas_types.specs.Values.{value_cmp}
use Rattle.cas_types.specs.declared.tag.TypeTag.{TypeTag}

-- for every type any two byte strings compare, and only equal ones tie
abbrev pub ValueOrders : Type 0
ValueOrders = (tag : TypeTag) → Orders (value_cmp tag)
