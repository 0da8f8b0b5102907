use Rattle.cas_manifest.proofs.Loads.{begin_news, have_news, news_more}
use Rattle.cas_manifest.proofs.loading.make_store.Goals as goal

pub returns-in_err-manifest-clause-during : goal.returns-in_err-manifest-clause-during
returns-in_err-manifest-clause-during g c =
    let disk = g.F.Folder.disk in
    begin_news c.args.shards (disk c.args.folder.now) (disk c.make_empty.new.folder) c.make_empty.ensures.during

pub returns-clause-during : goal.returns-clause-during
returns-clause-during g c =
    let disk = g.F.Folder.disk in
    news_more c.args.shards (disk c.args.folder.now) (disk c.make_empty.new.folder) (disk c.begin_store.new.folder)
    (begin_news c.args.shards (disk c.args.folder.now) (disk c.make_empty.new.folder) c.make_empty.ensures.during)
    (have_news c.args.shards (disk c.make_empty.new.folder) (disk c.begin_store.new.folder) c.begin_store.ensures.during)
