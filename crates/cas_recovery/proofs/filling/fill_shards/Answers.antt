use Rattle.std.proofs.Common.{◌≡◌, ◌<◌, length, Some, arith, refl, sym, ap, ◌∙◌, subst}
use Rattle.std.proofs.lemmas.Option.{slice_get-get_or}
use Rattle.cas_disk.proofs.Moments.{no_call, reads_on}
use Rattle.cas_files.proofs.Files.{reads_more, same_more}
use Rattle.cas_recovery.specs.Inner.Filling.{AreFilled}
use Rattle.cas_recovery.proofs.Fills.{bad_in_same, bad_of_shard, none_filled, one_filled}
use Rattle.cas_recovery.proofs.filling.fill_shards.Goals as goal

pub loop-shard-init : goal.loop-shard-init
loop-shard-init g c = record {
  filled = none_filled c.args.said.now (g.F.Folder.disk c.args.folder.now) c.args.shards.now.items;
  reads = λ image read. (image, read, λ k. refl);
  during = no_call _ (g.F.Folder.disk c.args.folder.now);
  faults = omega arith;
  tally = omega arith;
}

pub returns-in-Err-clause-bad : goal.returns-in-Err-clause-bad
returns-in-Err-clause-bad g c image read =
    let so_far = c.loop-shard.invariant in
    let (d, now, same) = reads_on (g.F.Folder.disk c.args.folder.now) (g.F.Folder.disk c.loop-shard.folder) so_far.during so_far.reads image read in
    bad_of_shard c.args.said.now image c.loop-shard.shard c.in-Err.fault (omega (arith, c.loop-shard-test.true, c.shards-shard-end.ensures))
    (bad_in_same c.args.said.now image d c.loop-shard.shard c.in-Err.fault same (c.in-Err.ensures.bad d now))

pub loop-shard-preserved : goal.loop-shard-preserved
loop-shard-preserved g c =
    let disk = g.F.Folder.disk in
    let so_far = c.loop-shard.invariant in
    let n = c.loop-shard.shard in
    let x = c.index_mut-filled.result.now in
    let within : n < length c.loop-shard.shards.items = omega (arith, c.loop-shard-test.true, c.shards-shard-end.ensures, c.requires.count, so_far.filled.length_is) in
    record {
      filled = one_filled c.args.said.now (disk c.args.folder.now) (disk c.loop-shard.folder) n c.args.shards.now.items c.loop-shard.shards.items x c.fill_shard.new.filled so_far.during so_far.reads
          (slice_get-get_or c.loop-shard.shards.items n x within ∙ ap (λ y. Some y) (sym c.index_mut-filled.ensures.value)) so_far.filled c.in_default.ensures.filled;
      reads = reads_more (disk c.args.folder.now) (disk c.loop-shard.folder) (disk c.fill_shard.new.folder) so_far.reads c.fill_shard.ensures.reads;
      during = same_more (disk c.args.folder.now) (disk c.loop-shard.folder) (disk c.fill_shard.new.folder) so_far.during c.fill_shard.ensures.during;
      faults = omega (arith, so_far.faults, c.fill_shard.ensures.count);
      tally = omega (arith, so_far.tally, c.fill_shard.ensures.read);
    }

pub returns-in-Err-clause-reads : goal.returns-in-Err-clause-reads
returns-in-Err-clause-reads g c =
    let disk = g.F.Folder.disk in reads_more (disk c.args.folder.now) (disk c.loop-shard.folder) (disk c.fill_shard.new.folder) c.loop-shard.invariant.reads c.fill_shard.ensures.reads

pub returns-in-Err-clause-during : goal.returns-in-Err-clause-during
returns-in-Err-clause-during g c =
    let disk = g.F.Folder.disk in same_more (disk c.args.folder.now) (disk c.loop-shard.folder) (disk c.fill_shard.new.folder) c.loop-shard.invariant.during c.fill_shard.ensures.during

pub returns-clause-filled : goal.returns-clause-filled
returns-clause-filled g c =
    let end : c.loop-shard.shard ≡ c.args.said.now.shards = omega (arith, c.loop-shard-test.false, c.loop-shard.auto.shard-end, c.shards-shard-end.ensures) in
    subst (λ n. AreFilled c.args.said.now (g.F.Folder.disk c.args.folder.now) n c.args.shards.now.items c.loop-shard.shards.items) end c.loop-shard.invariant.filled
