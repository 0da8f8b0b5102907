use Rattle.std.proofs.Common.{◌≤◌, ◌<◌, ℕ}
use Rattle.cas_replay.specs.Tops.{number_at, top_at}
use Rattle.cas_replay.proofs.tops.Tops.are_covered.Given as goal

abbrev pub invariant-loop-place : goal.invariant-loop-place
invariant-loop-place l = (at : ℕ) → at < l.place → top_at l.self at ≤ number_at l.frontiers at
