use Rattle.std.proofs.Common.{◌≡◌, ℕ, suc, ◌+◌, ◌-◌, ◌<◌, List, Ok, Err, refl, sym, subst, arith}
use Rattle.std.specs.List.{All}
use Rattle.std.proofs.lemmas.List.Elements.{All-nil}
use Rattle.std.proofs.lemmas.Result.{err_from_is_err_and}
use Rattle.cas_bounds.specs.ClusteringOrder.{clustering_order}
use Rattle.cas_index.specs.Allowed.{HasRooms}
use Rattle.cas_index.specs.declared.entries.PartitionEntry.{PartitionEntry}
use Rattle.cas_info.specs.declared.info.TheConstants.{PARTITION_LIMIT}
use Rattle.cas_blocks.specs.Reading.{left_at}
use Rattle.cas_tables.specs.declared.header.TheConstants.{HEADER_LENGTH}
use Rattle.cas_sstread.specs.declared.fault.TableFault.TheVariants as table_fault
use Rattle.cas_verify.specs.Partitions.{partitions_at}
use Rattle.cas_verify.specs.Inner.Ends.{IsFault, Ends}
use Rattle.cas_verify.specs.Inner.Scans.{key_before, Scanned}
use Rattle.cas_verify.proofs.Rounds.{ends_there, goes_beyond, round_last, round_more, round_none, round_refused, begins}
use Rattle.cas_verify.proofs.partitions.read_partitions.Goals as goal

one_less : (limit done : ℕ) → done < limit → suc (limit - (done + 1)) ≡ limit - done
one_less limit done less = omega arith

pub loop-done-init : goal.loop-done-init
loop-done-init g c = record {
  on = λ b is r x e.
      let cols = c.args.table.now.columns in
      begins c.args.table.now.kept.version (clustering_order cols) cols c.args.table.now.kept.end b c.args.table.now.info.number PARTITION_LIMIT
      (record { place = HEADER_LENGTH; entries = c.new.result; seen = c.new-2.result }) x r c.new.ensures.items refl c.new-2.ensures e;
  rooms = subst (λ (es : List PartitionEntry). All HasRooms es) (sym c.new.ensures.items) (All-nil HasRooms);
  long = c.new.ensures.len;
  within = omega arith;
  faults = omega arith;
}

pub loop-done-preserved : goal.loop-done-preserved
loop-done-preserved g c =
    let cols = c.args.table.now.columns in
    let order = clustering_order cols in
    let end = c.args.table.now.kept.end in
    let number = c.args.table.now.info.number in
    let done = c.loop-done._done in
    let s = c.loop-done.scan in
    let t = c.read_partition.new.self in
    let left = one_less PARTITION_LIMIT done c.loop-done-test.true in
    record {
      on = λ b is r x e.
          let told = c.in_ok-read_partition.ensures.told b is in
          c.loop-done.invariant.on b is r x
          (subst (λ (m : ℕ). Ends (λ (u : Unit {0}). Scanned c.args.table.now.kept.version s x) number r (partitions_at c.args.table.now.kept.version order cols end m (key_before s) (left_at b end s.place))) left
          (round_more c.args.table.now.kept.version order cols end b number (PARTITION_LIMIT - (done + 1)) s t told.0 told.1 told.2
          (goes_beyond t.place end c.end_at.result c.end_at.ensures c.if-end_at.false) r x e));
      rooms = c.in_ok-read_partition.ensures.rooms;
      long = omega (arith, c.in_ok-read_partition.ensures.long, c.loop-done.invariant.long);
      within = c.in_ok-read_partition.ensures.within;
      faults = omega (arith, c.loop-done.invariant.faults, c.read_partition.ensures.count);
    }

pub returns-then-end_at-clause-told : goal.returns-then-end_at-clause-told
returns-then-end_at-clause-told g c = λ b is.
    let cols = c.args.table.now.columns in
    let order = clustering_order cols in
    let end = c.args.table.now.kept.end in
    let number = c.args.table.now.info.number in
    let done = c.loop-done._done in
    let s = c.loop-done.scan in
    let t = c.read_partition.new.self in
    let left = one_less PARTITION_LIMIT done c.loop-done-test.true in
    let told = c.in_ok-read_partition.ensures.told b is in
    c.loop-done.invariant.on b is (Ok tt) t
    (subst (λ (m : ℕ). Ends (λ (u : Unit {0}). Scanned c.args.table.now.kept.version s t) number (Ok tt) (partitions_at c.args.table.now.kept.version order cols end m (key_before s) (left_at b end s.place))) left
    (round_last c.args.table.now.kept.version order cols end b number (PARTITION_LIMIT - (done + 1)) s t told.0 told.1 told.2 (ends_there t.place end c.end_at.result c.end_at.ensures c.if-end_at.true)))

pub returns-in_err-read_partition-clause-told : goal.returns-in_err-read_partition-clause-told
returns-in_err-read_partition-clause-told g c = λ b is.
    let cols = c.args.table.now.columns in
    let order = clustering_order cols in
    let end = c.args.table.now.kept.end in
    let number = c.args.table.now.info.number in
    let done = c.loop-done._done in
    let s = c.loop-done.scan in
    let f = c.in_err-read_partition.field-0.0 in
    let left = one_less PARTITION_LIMIT done c.loop-done-test.true in
    let p = err_from_is_err_and c.from_residual.result c.from_residual.ensures.1 in
    rw (p.1, p.2) (c.loop-done.invariant.on b is (Err f) s
    (subst (λ (m : ℕ). IsFault number f (partitions_at c.args.table.now.kept.version order cols end m (key_before s) (left_at b end s.place))) left
    (round_refused c.args.table.now.kept.version order cols end b number (PARTITION_LIMIT - (done + 1)) s f (c.in_err-read_partition.ensures.told b is))))

pub returns-clause-told : goal.returns-clause-told
returns-clause-told g c = λ b is.
    let cols = c.args.table.now.columns in
    let order = clustering_order cols in
    let end = c.args.table.now.kept.end in
    let number = c.args.table.now.info.number in
    let s = c.loop-done.scan in
    let none : 0 ≡ PARTITION_LIMIT - c.loop-done._done = omega (arith, c.loop-done-test.false) in
    rw c.bad.ensures
    (c.loop-done.invariant.on b is (Err (table_fault.BadBlock number s.place)) s
    (subst (λ (m : ℕ). IsFault number (table_fault.BadBlock number s.place) (partitions_at c.args.table.now.kept.version order cols end m (key_before s) (left_at b end s.place))) none
    (refl, round_none c.args.table.now.kept.version order cols end b number s)))
