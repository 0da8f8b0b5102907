use Rattle.std.proofs.Common.{◌∙◌, arith}
use Rattle.cas_seats.proofs.Seating.{more_places}
use Rattle.cas_seats.proofs.seats.copies.Goals as goal

pub loop-place-preserved : goal.loop-place-preserved
loop-place-preserved g c = record {
  places = more_places (λ c. c.shard) c.loop-place.copies.items c.push.new.self.items c.in_ok-copy.field-0 c.loop-place.place c.loop-place.invariant.places
      c.in_ok-push.ensures.items c.in_ok-copy.ensures.seat;
  next = omega (arith, c.copy.ensures.next);
  out = c.copy.ensures.out ∙ c.loop-place.invariant.out;
}
