use Rattle.std.proofs.Common.{◌≡◌, ◌-◌, ◌≤◌, ℕ, List, Some, Result, vec_len}
use Rattle.std.specs.List.{All}
use Rattle.cas_bounds.specs.ClusteringOrder.{clustering_order}
use Rattle.cas_index.specs.Allowed.{HasRooms}
use Rattle.cas_info.specs.declared.info.TheConstants.{FILE_LIMIT, PARTITION_LIMIT}
use Rattle.cas_blocks.specs.Reading.{left_at}
use Rattle.cas_sstread.specs.declared.fault.TableFault.{TableFault}
use Rattle.cas_verify.specs.Partitions.{partitions_at}
use Rattle.cas_verify.specs.Checking.{own_partitions_at}
use Rattle.cas_verify.specs.Inner.Ends.{Ends}
use Rattle.cas_verify.specs.Inner.Scans.{key_before, Scanned, IsSeen}
use Rattle.cas_verify.specs.declared.partitions.Scan.{Scan}
use Rattle.cas_verify.proofs.partitions.read_partitions.Given as goal

abbrev pub invariant-loop-done : goal.invariant-loop-done
invariant-loop-done g l = record {
  on : (b : List ℕ) → l.table.contents ≡ Some b → (r : Result (Unit {0}) TableFault) (x : Scan)
      → Ends (λ (u : Unit {0}). Scanned l.table.kept.version l.scan x) l.table.info.number r
      (partitions_at l.table.kept.version (clustering_order l.table.columns) l.table.columns l.table.kept.end (PARTITION_LIMIT - l._done) (key_before l.scan)
      (left_at b l.table.kept.end l.scan.place))
      → Ends (λ (u : Unit {0}). IsSeen l.table.kept.version x) l.table.info.number r (own_partitions_at l.table.columns l.table.kept b);
  rooms : All HasRooms l.scan.entries.items;
  long : vec_len l.scan.entries ≡ l._done;
  within : l.scan.place ≤ FILE_LIMIT;
  faults : g.F.Tally.Count.number l.fn.tally ≤ g.F.Tally.Count.number l.tally;
}
