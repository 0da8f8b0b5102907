-- Orders whose ties are equal.
use Rattle.std.specs.declared.cmp.Ordering.{Ordering}
use Rattle.std.specs.Cmp.{IsTotalOrder}
use Rattle.std.specs.FinMap.{IsAntisymmetric}

-- any two compare, one way round; what compares is passed on; only equal ones tie
pub record Orders {Y : Type 0} (cmp : Y → Y → Ordering) : Type 0 where
  pub total : IsTotalOrder cmp
  pub ties : IsAntisymmetric cmp
