use Rattle.std.proofs.Common.{◌∙◌, ap, sym, subst, ℕ, []}
use Rattle.cas_bounds.specs.ClusteringOrder.{clustering_order}
use Rattle.cas_disk.specs.Disk.{bytes_of}
use Rattle.cas_disk.specs.declared.name.Name.TheVariants.{Table as table_name}
use Rattle.cas_sstread.specs.Loading.{IsBadAt}
use Rattle.cas_sstread.specs.Reading.{loaded_at}
use Rattle.cas_listed.proofs.Empty.{empty_is_bad, read_as}
use Rattle.cas_listed.proofs.loading.load_file.Goals as goal

pub returns-in-Ok-load-clause-loaded : goal.returns-in-Ok-load-clause-loaded
returns-in-Ok-load-clause-loaded g c image read =
    let (bytes, told, there) = c.in-Ok.ensures.holds image read in
    record {
      bytes = bytes;
      there = there;
      contents = c.in-Ok-load.ensures.contents ∙ told;
      columns = c.in-Ok-load.ensures.columns;
      info = c.in-Ok-load.ensures.infos.0;
      own_info = c.in-Ok-load.ensures.infos.1;
      kept = c.in-Ok-load.ensures.loaded bytes told;
    }

pub returns-in-Err-load-clause-bad : goal.returns-in-Err-load-clause-bad
returns-in-Err-load-clause-bad g c number at is image read =
    let (bytes, told, there) = c.in-Ok.ensures.holds image read in
    let (of, bad) = c.in-Err-load.ensures.bad number at (cc) bytes told in
    record { number_is = of; bad = read_as _ _ _ _ (image (table_name c.args.info.now.number)) bytes at (ap bytes_of there) bad }

pub returns-in-Err-clause-bad : goal.returns-in-Err-clause-bad
returns-in-Err-clause-bad g c number at is image read =
    let (of, start, none) = c.in-Err.ensures.bad number at (cc) in
    let from : IsBadAt (loaded_at (clustering_order c.args.table.now.columns) c.args.table.now.number c.args.shard c.args.info.now []) at =
    subst (λ (n : ℕ). IsBadAt (loaded_at (clustering_order c.args.table.now.columns) c.args.table.now.number c.args.shard c.args.info.now []) n) (sym start)
    (empty_is_bad (clustering_order c.args.table.now.columns) c.args.table.now.number c.args.shard c.args.info.now) in
    record { number_is = of; bad = read_as _ _ _ _ (image (table_name c.args.info.now.number)) [] at (none image read) from }
