use Rattle.std.proofs.Common.{◌≡◌, ◌≤◌, ◌+◌, map, take}
use Rattle.cas_history.specs.Hands.{numbers}
use Rattle.cas_seats.proofs.seats.fronts.Given as goal

abbrev pub invariant-loop-place : goal.invariant-loop-place
invariant-loop-place g l = record {
  places : map (λ f. f.shard) l.fronts.items ≡ numbers 0 l.place;
  numbers : map (λ f. f.number) l.fronts.items ≡ map (λ x. x.number) (take l.place l.shards);
  next : l.maker.next ≤ 16 + l.place;
  out : l.maker.out ≡ l.fn.maker.out;
}
