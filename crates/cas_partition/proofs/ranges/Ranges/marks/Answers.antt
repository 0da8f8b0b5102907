use Rattle.std.proofs.Common.{◌≡◌, ◌++◌, true, None, map, sym, ap, ◌∙◌}
use Rattle.std.specs.Ordering.{is_lt}
use Rattle.cas_bounds.specs.Keys.{key_cmp}
use Rattle.cas_partition.specs.Ranges.{change_at, clipped}
use Rattle.cas_partition.specs.Partitions.{marker}
use Rattle.cas_partition.specs.Inner.Passing.{lent_marker}
use Rattle.cas_partition.specs.Inner.Slots.{cut_of, changes_of, force_below, force_behind, last_force, amid}
use Rattle.cas_partition.proofs.Slots.{slice_of_slots, empty_slice, is_less, last_amid}
use Rattle.cas_partition.proofs.Clipping.{marks_in_turn, cut_again}
use Rattle.cas_partition.proofs.ranges.Ranges.marks.Goals as goal
use Rattle.cas_partition.proofs.ranges.Ranges.marks.Goals.{then-is_lt+in_ok-add_change+in_ok-ended+in_ok-add_change-2, else-is_lt}

pub returns : goal.returns
returns c s at_low at_high =
    let es = c.self.inside.cuts.entries in
    let fs = c.self.inside.forces.items in
    let low = c.args.low.now in
    let high = c.args.high.now in
    elim c.if-is_lt.branch [
      | then-is_lt+in_ok-add_change+in_ok-ended+in_ok-add_change-2 w ↦
          let below : is_lt (key_cmp low high) ≡ true = sym (c.is_lt.ensures ∙ ap is_lt c.cmp.ensures) ∙ w.if-is_lt.true in
          let begun = w.force_behind-begun.ensures ∙ ap (force_behind low None es) w.deref.ensures.value in
          let first : cut_of low ≡ s.lo = ap cut_of at_low ∙ cut_again s.lo in
          let last : cut_of high ≡ s.hi = ap cut_of at_high ∙ cut_again s.hi in
          let ended : w.in_ok-ended.ended ≡ force_below high None es fs =
          w.in_ok-ended.ensures.behind
          ∙ (λ i. last_force (begun i) (amid low high es) (w.deref-then-is_lt.ensures.value i))
          ∙ last_amid low high (is_less (key_cmp low high) below) None es fs c.self.invariant.sorted in
          ap (λ v. map lent_marker v.items) w.marks-is
          ∙ marks_in_turn (map lent_marker c.new-marks.result.items) (map lent_marker w.add_change.new.marks.items) (map lent_marker w.add_amid.new.marks.items) (map lent_marker w.add_change-then-is_lt.new.marks.items)
          (change_at s.lo (force_behind low None es fs) (force_behind low None es fs)) (changes_of (amid low high es) fs) (change_at s.hi (force_below high None es fs) None) (ap (map lent_marker) c.new-marks.ensures.items)
          (w.in_ok-add_change.ensures ∙ (λ i. map lent_marker c.new-marks.result.items ++ map marker (change_at (first i) (begun i) (begun i))))
          (w.in_ok-ended.ensures.added ∙ (λ i. map lent_marker w.add_change.new.marks.items ++ map marker (changes_of (amid low high es) (w.deref-then-is_lt.ensures.value i))))
          (w.in_ok-add_change-2.ensures ∙ (λ i. map lent_marker w.add_amid.new.marks.items ++ map marker (change_at (last i) (ended i) None)))
          ∙ ap (map marker) (slice_of_slots s low high es fs at_low at_high c.self.invariant.cuts below) ∙ ap (λ ms. map marker (clipped s ms)) c.self.view_is
      | else-is_lt w ↦
          ap (λ v. map lent_marker v.items) w.marks-is ∙ ap (map lent_marker) c.new-marks.ensures.items
          ∙ sym (ap (map marker) (empty_slice s low high c.args.self.now at_low at_high (sym (c.is_lt.ensures ∙ ap is_lt c.cmp.ensures) ∙ w.if-is_lt.false)))
    ]
