use Rattle.std.proofs.Common.{◌∙◌, arith}
use Rattle.cas_seats.proofs.Seating.{more_places}
use Rattle.cas_seats.proofs.seats.changes.Goals as goal

pub loop-place-preserved : goal.loop-place-preserved
loop-place-preserved g c = record {
  places = more_places (λ c. c.shard) c.loop-place.changes.items c.push.new.self.items c.in_ok-change.field-0 c.loop-place.place c.loop-place.invariant.places
      c.in_ok-push.ensures.items c.in_ok-change.ensures.seat;
  next = omega (arith, c.change.ensures.next);
  out = c.change.ensures.out ∙ c.loop-place.invariant.out;
}
