-- Counts of faults. Own.
use Rattle.std.specs.Prelude.{ℕ, ◌+◌, ◌-◌, ◌^◌, ◌≤◌, min}
use Rattle.cas_io.specs.Causes.{Rose}

-- the sum of both, and at most the greatest u64
abbrev pub sum_in_range : ℕ → ℕ → ℕ
sum_in_range a b = min (a + b) (2 ^ 64 - 1)

-- a call's count of faults never falls, and rose where the call failed
pub record Counted (before now : ℕ) (failed : Type 0) : Type 0 where
  pub kept : before ≤ now
  pub rose : failed → Rose before now
