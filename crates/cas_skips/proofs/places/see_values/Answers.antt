use Rattle.std.proofs.Common.{ℕ, List, ◌-◌, length, take, drop, sym, ap, ◌∙◌}
use Rattle.cas_records.specs.Reading.{values_at}
use Rattle.cas_records.specs.Inner.Values.{after_values}
use Rattle.cas_records.proofs.BoundLaws.{values_through, values_step}
use Rattle.cas_skips.specs.Inner.Passing.{seen}
use Rattle.cas_skips.proofs.Seen.{seen_pushed}
use Rattle.cas_skips.proofs.places.see_values.Goals as goal

pub loop-rest-preserved : goal.loop-rest-preserved
loop-rest-preserved c =
    let step = values_step c.loop-rest.rest.now _ (seen c.loop-rest.values.items) c.in_ok-value.value.now c.loop-rest.reader
    c.see_value.new.reader c.in-len1-up.len_at_least c.in_ok-value.ensures in
    sym (step ∙ ap (λ (items : List (List ℕ)). after_values items (values_at (take (length c.loop-rest.rest.now - 1) (drop 1 c.loop-rest.rest.now)) c.see_value.new.reader))
    (sym (seen_pushed c.loop-rest.values.items _ _ c.in_ok-push.ensures.items))) ∙ c.loop-rest.invariant

pub returns : goal.returns
returns c = sym c.loop-rest.invariant ∙ values_through c.loop-rest.rest.now (seen c.loop-rest.values.items) c.loop-rest.reader c.in_default.len_below
