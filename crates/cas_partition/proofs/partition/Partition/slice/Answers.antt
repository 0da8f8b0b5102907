use Rattle.std.proofs.Common.{None, Some, map, subst}
use Rattle.cas_partition.specs.Ranges.{key_of}
use Rattle.cas_partition.specs.Inner.Lent.{rows_in, LendsRows}
use Rattle.cas_partition.specs.Inner.Passing.{own_marker, left_to_come, told}
use Rattle.cas_partition.proofs.RowsShown.{slice_shown}
use Rattle.cas_partition.proofs.partition.Partition.slice.Goals as goal

pub returns : goal.returns
unfolding told
returns c =
    let s = c.args.slice.now in
    let p = c.args.self.now in
    let ms = map own_marker c.in_ok-marks.marks.items in
    let lent = rows_in c.lend-rows.result in (
      left_to_come p.top None lent ms,
      c.new.ensures.fragments,
      slice_shown s p lent
          (subst (λ k. LendsRows (Some (key_of s.lo)) k p.spots lent) c.in_ok-high.ensures (subst (λ k. LendsRows k c.in_ok-high.high p.spots lent) c.in_ok-low.ensures c.lend-rows.ensures))
          _ ms c.new.ensures.top c.in_ok-marks.ensures,
    )
