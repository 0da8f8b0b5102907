use Rattle.std.proofs.Common.{◌≡◌, ◌≤◌, ◌+◌, map}
use Rattle.cas_history.specs.Hands.{numbers}
use Rattle.cas_seats.proofs.seats.copies.Given as goal

abbrev pub invariant-loop-place : goal.invariant-loop-place
invariant-loop-place g l = record {
  places : map (λ c. c.shard) l.copies.items ≡ numbers 0 l.place;
  next : l.maker.next ≤ 64 + l.place;
  out : l.maker.out ≡ l.fn.maker.out;
}
