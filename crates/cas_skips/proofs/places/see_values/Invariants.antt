use Rattle.std.proofs.Common.{◌≡◌, length}
use Rattle.cas_records.specs.Reading.{values_at}
use Rattle.cas_records.specs.Inner.Values.{after_values}
use Rattle.cas_skips.specs.Inner.Passing.{seen}
use Rattle.cas_skips.proofs.places.see_values.Given as goal

abbrev pub invariant-loop-rest : goal.invariant-loop-rest
invariant-loop-rest l =
    after_values (seen l.values.items) (values_at l.rest l.reader) ≡ after_values (seen l.fn.values.items) (values_at l.order l.fn.reader)

abbrev pub decreases-loop-rest : goal.decreases-loop-rest
decreases-loop-rest l = length l.rest
