use Rattle.std.proofs.Common.{◌≡◌, ◌++◌, ◌∷◌, [], arith}
use Rattle.cas_files.proofs.Files.{reads_more, same_more}
use Rattle.cas_stored.specs.Stored.{IsFileOf}
use Rattle.cas_view.specs.Views.{file_of, files_of}
use Rattle.cas_listed.proofs.Behind.{all_more, bad_behind, bad_before, files_behind, loaded_before, loaded_more, told_more}
use Rattle.cas_listed.proofs.loading.load_each.Goals as goal

pub returns-in-Err-clause-bad : goal.returns-in-Err-clause-bad
returns-in-Err-clause-bad g c number at is image read =
    let disk = g.F.Folder.disk in
    let so_far = c.loop-info.invariant in
    bad_behind c.args.table.now c.args.shard image c.args.listed.now c.loop-info.info-index c.info-item.result (files_of c.loop-info.files.items) number at c.loop-info-test.true
    c.info-item.is (so_far.loaded image read)
    (bad_before (disk c.args.folder.now) (disk c.loop-info.folder) so_far.during so_far.reads c.args.table.now c.args.shard image read c.info-item.result number at
    (c.in-Err.ensures.bad number at (cc)))

pub returns-in-Err-clause-reads : goal.returns-in-Err-clause-reads
returns-in-Err-clause-reads g c = let disk = g.F.Folder.disk in reads_more (disk c.args.folder.now) (disk c.loop-info.folder) (disk c.load_file.new.folder) c.loop-info.invariant.reads c.load_file.ensures.reads

pub returns-in-Err-clause-during : goal.returns-in-Err-clause-during
returns-in-Err-clause-during g c = let disk = g.F.Folder.disk in same_more (disk c.args.folder.now) (disk c.loop-info.folder) (disk c.load_file.new.folder) c.loop-info.invariant.during c.load_file.ensures.during

pub returns-in_err-push-clause-reads : goal.returns-in_err-push-clause-reads
returns-in_err-push-clause-reads g c = let disk = g.F.Folder.disk in reads_more (disk c.args.folder.now) (disk c.loop-info.folder) (disk c.load_file.new.folder) c.loop-info.invariant.reads c.load_file.ensures.reads

pub returns-in_err-push-clause-during : goal.returns-in_err-push-clause-during
returns-in_err-push-clause-during g c = let disk = g.F.Folder.disk in same_more (disk c.args.folder.now) (disk c.loop-info.folder) (disk c.load_file.new.folder) c.loop-info.invariant.during c.load_file.ensures.during

pub loop-info-preserved : goal.loop-info-preserved
loop-info-preserved g c =
    let disk = g.F.Folder.disk in
    let so_far = c.loop-info.invariant in
    let infos = c.args.listed.now in
    let n = c.loop-info.info-index in
    let i = c.info-item.result in
    let few = c.loop-info-test.true in
    let is = c.info-item.is in
    let fs = files_of c.loop-info.files.items in
    let gs = files_of c.push.new.self.items in
    let f = file_of c.in-Ok.file in
    let more : gs ≡ fs ++ f ∷ [] = files_behind c.loop-info.files.items c.push.new.self.items c.in-Ok.file c.in_ok-push.ensures.items in
    record {
      loaded = λ image read.
          loaded_more infos n i few is fs gs f more c.args.table.now c.args.shard image (so_far.loaded image read)
          (loaded_before (disk c.args.folder.now) (disk c.loop-info.folder) so_far.during so_far.reads c.args.table.now c.args.shard image read i f c.in-Ok.ensures.loaded);
      columns = all_more infos n i few is fs gs f more (IsFileOf c.args.table.now.columns) so_far.columns c.in-Ok.ensures.columns;
      infos = told_more infos n i few is fs gs f more (λ x. x.info) so_far.infos c.in-Ok.ensures.infos.0;
      own = told_more infos n i few is fs gs f more (λ x. x.table.info) so_far.own c.in-Ok.ensures.infos.1;
      reads = reads_more (disk c.args.folder.now) (disk c.loop-info.folder) (disk c.load_file.new.folder) so_far.reads c.load_file.ensures.reads;
      during = same_more (disk c.args.folder.now) (disk c.loop-info.folder) (disk c.load_file.new.folder) so_far.during c.load_file.ensures.during;
      faults = omega (arith, so_far.faults, c.load_file.ensures.count);
      tally = omega (arith, so_far.tally, c.load_file.ensures.read);
    }
