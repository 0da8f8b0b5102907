use Rattle.std.proofs.Common.{◌≡◌, length, Some, arith, refl, sym, ap, ◌∙◌, subst}
use Rattle.std.proofs.lemmas.Option.{slice_get-get_or}
use Rattle.std.specs.Prelude.{slice_get}
use Rattle.cas_disk.proofs.Moments.{no_call, reads_on}
use Rattle.cas_files.proofs.Files.{reads_more, same_more}
use Rattle.cas_recovery.specs.Inner.Filling.{AreGiven}
use Rattle.cas_recovery.proofs.Fills.{bad_in, bad_same, none_given, one_given}
use Rattle.cas_recovery.proofs.filling.fill_tables.Goals as goal

pub loop-table-init : goal.loop-table-init
loop-table-init g c = record {
  given = none_given c.args.said.now (g.F.Folder.disk c.args.folder.now) c.args.shard c.args.filled.now;
  reads = λ image read. (image, read, λ k. refl);
  during = no_call _ (g.F.Folder.disk c.args.folder.now);
  faults = omega arith;
  tally = omega arith;
}

pub returns-in-Err-clause-bad : goal.returns-in-Err-clause-bad
returns-in-Err-clause-bad g c image read =
    let so_far = c.loop-table.invariant in
    let n = c.loop-table.table-index in
    let t = c.table-item.result in
    let (d, now, same) = reads_on (g.F.Folder.disk c.args.folder.now) (g.F.Folder.disk c.loop-table.folder) so_far.during so_far.reads image read in
    bad_in c.args.said.now image t n c.args.shard c.in-Err.fault
    (subst (λ us. slice_get us n ≡ Some t) c.tables-table-items.ensures
    (slice_get-get_or c.tables-table-items.result.now n t c.loop-table-test.true ∙ ap (λ u. Some u) (sym c.table-item.is)))
    (bad_same c.args.said.now image d t c.args.shard c.in-Err.fault same (c.in-Err.ensures.bad d now))

pub loop-table-preserved : goal.loop-table-preserved
loop-table-preserved g c =
    let disk = g.F.Folder.disk in
    let so_far = c.loop-table.invariant in
    let n = c.loop-table.table-index in
    let t = c.table-item.result in
    let there : slice_get c.args.said.now.tables n ≡ Some t = subst (λ us. slice_get us n ≡ Some t) c.tables-table-items.ensures
    (slice_get-get_or c.tables-table-items.result.now n t c.loop-table-test.true ∙ ap (λ u. Some u) (sym c.table-item.is)) in
    record {
      given = one_given c.args.said.now (disk c.args.folder.now) (disk c.loop-table.folder) c.args.shard n t c.args.filled.now c.loop-table.filled c.fill_table.new.filled so_far.during so_far.reads
          there (c.requires.within.numbers n t there) so_far.given c.in_default.ensures.given;
      reads = reads_more (disk c.args.folder.now) (disk c.loop-table.folder) (disk c.fill_table.new.folder) so_far.reads c.fill_table.ensures.reads;
      during = same_more (disk c.args.folder.now) (disk c.loop-table.folder) (disk c.fill_table.new.folder) so_far.during c.fill_table.ensures.during;
      faults = omega (arith, so_far.faults, c.fill_table.ensures.count);
      tally = omega (arith, so_far.tally, c.fill_table.ensures.read);
    }

pub returns-in-Err-clause-reads : goal.returns-in-Err-clause-reads
returns-in-Err-clause-reads g c =
    let disk = g.F.Folder.disk in reads_more (disk c.args.folder.now) (disk c.loop-table.folder) (disk c.fill_table.new.folder) c.loop-table.invariant.reads c.fill_table.ensures.reads

pub returns-in-Err-clause-during : goal.returns-in-Err-clause-during
returns-in-Err-clause-during g c =
    let disk = g.F.Folder.disk in same_more (disk c.args.folder.now) (disk c.loop-table.folder) (disk c.fill_table.new.folder) c.loop-table.invariant.during c.fill_table.ensures.during

pub returns-clause-given : goal.returns-clause-given
returns-clause-given g c =
    let end : c.loop-table.table-index ≡ length c.args.said.now.tables = omega (arith, c.loop-table-test.false, c.loop-table.auto.table-index-end, ap length c.tables-table-items.ensures) in
    subst (λ n. AreGiven c.args.said.now (g.F.Folder.disk c.args.folder.now) c.args.shard n c.args.filled.now c.loop-table.filled) end c.loop-table.invariant.given
