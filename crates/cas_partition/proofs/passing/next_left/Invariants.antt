use Rattle.std.proofs.Common.{◌≡◌, ◌≤◌, map}
use Rattle.cas_partition.specs.Inner.Lent.{rows_in}
use Rattle.cas_partition.specs.Inner.Passing.{own_marker, left_to_come}
use Rattle.cas_partition.specs.Inner.Steps.{marks_in, room_left}
use Rattle.cas_partition.proofs.passing.next_left.Given as goal

abbrev pub invariant-loop-left : goal.invariant-loop-left
invariant-loop-left l = record {
  same : left_to_come l.fn.top l.fn.now (rows_in l.fn.rows) (map own_marker (marks_in l.fn.marks)) ≡ left_to_come l.top l.now (rows_in l.rows) (map own_marker (marks_in l.marks));
  room : room_left (rows_in l.rows) (marks_in l.marks) ≤ room_left (rows_in l.fn.rows) (marks_in l.fn.marks);
}

abbrev pub decreases-loop-left : goal.decreases-loop-left
decreases-loop-left l = room_left (rows_in l.rows) (marks_in l.marks)
