-- What holds of the three orders.
use Rattle.std.specs.Prelude.{◌≡◌, ℤ, ◌<ℤ◌, ◌≤ℤ◌, true, false}
use Rattle.std.specs.declared.cmp.Ordering.{Ordering}
use Rattle.std.specs.declared.cmp.Ordering.TheVariants.{Less}
use Rattle.std.specs.Ordering.{is_lt}
use Rattle.cas_types.specs.Orders.{Orders}
use Rattle.cas_cell.specs.Deletions.{deletion_cmp, covered}
use Rattle.cas_cell.specs.Lives.{live_cmp, live_at}
use Rattle.cas_cell.specs.Cells.{cell_cmp, cell_at}
use Rattle.cas_cell.specs.declared.deletion.Deletion.{Deletion}

-- the earlier timestamp is below, and so what is below is no later, and what isn't below is no earlier
pub record ByTime {Y : Type 0} (cmp : Y → Y → Ordering) (at : Y → ℤ) : Type 0 where
  pub earlier : (x y : Y) → at x <ℤ at y → cmp x y ≡ Less
  pub below : (x y : Y) → is_lt (cmp x y) ≡ true → at x ≤ℤ at y
  pub above : (x y : Y) → is_lt (cmp x y) ≡ false → at y ≤ℤ at x

-- any two cells have a winner, whatever the order they come in, and only equal ones tie
pub record CellLaws : Type 0 where
  pub orders : Orders cell_cmp
  pub by_time : ByTime cell_cmp cell_at

-- so it is with what INSERTs leave of rows
pub record LiveLaws : Type 0 where
  pub orders : Orders live_cmp
  pub by_time : ByTime live_cmp live_at

-- and with deletions, of which the greater deletes all that the lesser one deletes
pub record DeletionLaws : Type 0 where
  pub orders : Orders deletion_cmp
  pub by_time : ByTime deletion_cmp (λ d. d.at)
  pub covers_more : (lesser greater : Deletion) → is_lt (deletion_cmp lesser greater) ≡ true → (at : ℤ) → covered lesser at ≡ true → covered greater at ≡ true
