use Rattle.std.proofs.Common.{◌∙◌, arith}
use Rattle.cas_seats.proofs.Seating.{more_numbers, more_places}
use Rattle.cas_seats.proofs.seats.fronts.Goals as goal

pub loop-place-preserved : goal.loop-place-preserved
loop-place-preserved g c = record {
  places = more_places (λ f. f.shard) c.loop-place.fronts.items c.push.new.self.items c.in_ok-front.field-0 c.loop-place.place c.loop-place.invariant.places
      c.in_ok-push.ensures.items c.in_ok-front.ensures.seat.0;
  numbers = more_numbers (λ f. f.number) (λ x. x.number) c.loop-place.fronts.items c.push.new.self.items c.in_ok-front.field-0 c.args.shards.now c.index-shards-place.result
      c.loop-place.place c.loop-place.invariant.numbers c.in_ok-push.ensures.items (c.in_ok-front.ensures.seat.1 ∙ c.number-number.ensures.value) (omega arith) c.index-shards-place.is;
  next = omega (arith, c.front.ensures.next);
  out = c.front.ensures.out ∙ c.loop-place.invariant.out;
}
