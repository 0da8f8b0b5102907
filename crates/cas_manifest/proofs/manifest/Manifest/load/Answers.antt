use Rattle.std.proofs.Common.{◌≡◌, List, ℕ, None, Some, sym, ◌∙◌, ap, subst}
use Rattle.cas_disk.specs.declared.name.Name.TheVariants.{Manifest as manifest_name}
use Rattle.cas_disk.specs.declared.name.Entry.{Entry as FileEntry}
use Rattle.cas_disk.specs.Disk.{IsListing}
use Rattle.cas_files.proofs.Files.{same_more, reads_more}
use Rattle.cas_manifest.proofs.Loads.{same_news, news_more, loads, loads_missing, made_unmade, made_either, is_new, others_or_new, not_there, after_list, before_list}
use Rattle.cas_manifest.proofs.manifest.Manifest.load.Goals as goal

pub returns-in_err-file-clause-during : goal.returns-in_err-file-clause-during
returns-in_err-file-clause-during g c =
    let disk = g.F.Folder.disk in
    same_news c.args.shards (disk c.args.folder.now) (disk c.lasting_bytes.new.folder)
    (same_more (disk c.args.folder.now) (disk c.list.new.self) (disk c.lasting_bytes.new.folder) c.list.ensures.during c.lasting_bytes.ensures.during)

pub returns-in_err-file-clause-untouched : goal.returns-in_err-file-clause-untouched
returns-in_err-file-clause-untouched g c image read old =
    let disk = g.F.Folder.disk in
    same_more (disk c.args.folder.now) (disk c.list.new.self) (disk c.lasting_bytes.new.folder) c.list.ensures.during c.lasting_bytes.ensures.during

pub returns-then-has_manifest-clause-loads : goal.returns-then-has_manifest-clause-loads
returns-then-has_manifest-clause-loads g c image read =
    let disk = g.F.Folder.disk in
    let listing : IsListing image c.deref.result.now = subst (λ (l : List FileEntry). IsListing image l) (sym c.deref.ensures.value) (c.in_ok-files.ensures.listed image read) in
    let file = c.deref-then-has_manifest.result.now in
    let is : image manifest_name ≡ Some file =
    before_list (λ f. f ≡ Some c.in_ok-file.file.items) (disk c.args.folder.now) (disk c.list.new.self) c.list.ensures.during c.list.ensures.reads c.in_ok-file.ensures.read image read
    ∙ ap (λ (l : List ℕ). Some l) (sym c.deref-then-has_manifest.ensures.value) in
    loads image c.has_others-others.result (c.has_others-others.ensures.some image listing) (c.has_others-others.ensures.none image listing) (λ m. (m.1, m.2.items)) c.args.shards (Some file)
    c.load_file.result is c.load_file.ensures.loads

pub returns-then-has_manifest-clause-during : goal.returns-then-has_manifest-clause-during
returns-then-has_manifest-clause-during g c =
    let disk = g.F.Folder.disk in
    news_more c.args.shards (disk c.args.folder.now) (disk c.lasting_bytes.new.folder) (disk c.load_file.new.folder)
    (same_news c.args.shards (disk c.args.folder.now) (disk c.lasting_bytes.new.folder)
    (same_more (disk c.args.folder.now) (disk c.list.new.self) (disk c.lasting_bytes.new.folder) c.list.ensures.during c.lasting_bytes.ensures.during))
    c.load_file.ensures.during

pub returns-then-has_manifest-clause-untouched : goal.returns-then-has_manifest-clause-untouched
returns-then-has_manifest-clause-untouched g c image read old =
    let disk = g.F.Folder.disk in
    let listing : IsListing image c.deref.result.now = subst (λ (l : List FileEntry). IsListing image l) (sym c.deref.ensures.value) (c.in_ok-files.ensures.listed image read) in
    let file = c.deref-then-has_manifest.result.now in
    let is : image manifest_name ≡ Some file =
    before_list (λ f. f ≡ Some c.in_ok-file.file.items) (disk c.args.folder.now) (disk c.list.new.self) c.list.ensures.during c.list.ensures.reads c.in_ok-file.ensures.read image read
    ∙ ap (λ (l : List ℕ). Some l) (sym c.deref-then-has_manifest.ensures.value) in
    same_more (disk c.args.folder.now) (disk c.lasting_bytes.new.folder) (disk c.load_file.new.folder)
    (same_more (disk c.args.folder.now) (disk c.list.new.self) (disk c.lasting_bytes.new.folder) c.list.ensures.during c.lasting_bytes.ensures.during)
    (c.load_file.ensures.untouched (λ make.
    old (is_new image c.has_others-others.result (c.has_others-others.ensures.some image listing) (c.has_others-others.ensures.none image listing) (Some file) is make)))

pub make_store-requires-clause-found : goal.make_store-requires-clause-found
make_store-requires-clause-found g c =
    let disk = g.F.Folder.disk in
    after_list (λ f. f ≡ None) (disk c.args.folder.now) (disk c.list.new.self) c.list.ensures.reads (λ image read.
    let listing : IsListing image c.deref-2.result.now = subst (λ (l : List FileEntry). IsListing image l) (sym c.deref-2.ensures.value) (c.in_ok-files.ensures.listed image read) in
    not_there (image manifest_name) (sym (c.has_manifest.ensures image listing) ∙ c.if-has_manifest.false))

pub returns-clause-loads : goal.returns-clause-loads
returns-clause-loads g c image read =
    let listing : IsListing image c.deref.result.now = subst (λ (l : List FileEntry). IsListing image l) (sym c.deref.ensures.value) (c.in_ok-files.ensures.listed image read) in
    let again : IsListing image c.deref-2.result.now = subst (λ (l : List FileEntry). IsListing image l) (sym c.deref-2.ensures.value) (c.in_ok-files.ensures.listed image read) in
    loads_missing image c.has_others-others.result (c.has_others-others.ensures.some image listing) (c.has_others-others.ensures.none image listing) (λ m. (m.1, m.2.items)) c.args.shards
    c.make_store.result (not_there (image manifest_name) (sym (c.has_manifest.ensures image again) ∙ c.if-has_manifest.false)) c.make_store.ensures.loads

pub returns-clause-during : goal.returns-clause-during
returns-clause-during g c =
    let disk = g.F.Folder.disk in
    news_more c.args.shards (disk c.args.folder.now) (disk c.list.new.self) (disk c.make_store.new.folder)
    (same_news c.args.shards (disk c.args.folder.now) (disk c.list.new.self) c.list.ensures.during) c.make_store.ensures.during

pub returns-clause-untouched : goal.returns-clause-untouched
returns-clause-untouched g c image read old =
    let disk = g.F.Folder.disk in
    let listing : IsListing image c.deref.result.now = subst (λ (l : List FileEntry). IsListing image l) (sym c.deref.ensures.value) (c.in_ok-files.ensures.listed image read) in
    let again : IsListing image c.deref-2.result.now = subst (λ (l : List FileEntry). IsListing image l) (sym c.deref-2.ensures.value) (c.in_ok-files.ensures.listed image read) in
    others_or_new image c.has_others-others.result (c.has_others-others.ensures.some image listing) (c.has_others-others.ensures.none image listing)
    (not_there (image manifest_name) (sym (c.has_manifest.ensures image again) ∙ c.if-has_manifest.false)) old
    (λ some. same_more (disk c.args.folder.now) (disk c.list.new.self) (disk c.make_store.new.folder) c.list.ensures.during (c.make_store.ensures.untouched some))

pub returns-in_err-file-clause-reads : goal.returns-in_err-file-clause-reads
returns-in_err-file-clause-reads g c image read old =
    let disk = g.F.Folder.disk in
    reads_more (disk c.args.folder.now) (disk c.list.new.self) (disk c.lasting_bytes.new.folder) c.list.ensures.reads c.lasting_bytes.ensures.reads

pub returns-then-has_manifest-clause-reads : goal.returns-then-has_manifest-clause-reads
returns-then-has_manifest-clause-reads g c image read old =
    let disk = g.F.Folder.disk in
    let listing : IsListing image c.deref.result.now = subst (λ (l : List FileEntry). IsListing image l) (sym c.deref.ensures.value) (c.in_ok-files.ensures.listed image read) in
    let file = c.deref-then-has_manifest.result.now in
    let is : image manifest_name ≡ Some file =
    before_list (λ f. f ≡ Some c.in_ok-file.file.items) (disk c.args.folder.now) (disk c.list.new.self) c.list.ensures.during c.list.ensures.reads c.in_ok-file.ensures.read image read
    ∙ ap (λ (l : List ℕ). Some l) (sym c.deref-then-has_manifest.ensures.value) in
    reads_more (disk c.args.folder.now) (disk c.lasting_bytes.new.folder) (disk c.load_file.new.folder)
    (reads_more (disk c.args.folder.now) (disk c.list.new.self) (disk c.lasting_bytes.new.folder) c.list.ensures.reads c.lasting_bytes.ensures.reads)
    (c.load_file.ensures.reads (λ make.
    old (is_new image c.has_others-others.result (c.has_others-others.ensures.some image listing) (c.has_others-others.ensures.none image listing) (Some file) is make)))

pub returns-clause-reads : goal.returns-clause-reads
returns-clause-reads g c image read old =
    let disk = g.F.Folder.disk in
    let listing : IsListing image c.deref.result.now = subst (λ (l : List FileEntry). IsListing image l) (sym c.deref.ensures.value) (c.in_ok-files.ensures.listed image read) in
    let again : IsListing image c.deref-2.result.now = subst (λ (l : List FileEntry). IsListing image l) (sym c.deref-2.ensures.value) (c.in_ok-files.ensures.listed image read) in
    others_or_new image c.has_others-others.result (c.has_others-others.ensures.some image listing) (c.has_others-others.ensures.none image listing)
    (not_there (image manifest_name) (sym (c.has_manifest.ensures image again) ∙ c.if-has_manifest.false)) old
    (λ some. reads_more (disk c.args.folder.now) (disk c.list.new.self) (disk c.make_store.new.folder) c.list.ensures.reads (c.make_store.ensures.reads some))

pub returns-then-has_manifest-clause-made : goal.returns-then-has_manifest-clause-made
returns-then-has_manifest-clause-made g c =
    made_either (λ m. (m.1, m.2.items)) c.args.shards (Some c.deref-then-has_manifest.result.now) c.has_others-others.result c.load_file.result c.load_file.ensures.loads

pub returns-clause-made : goal.returns-clause-made
returns-clause-made g c = made_unmade (λ m. (m.1, m.2.items)) c.args.shards c.has_others-others.result c.make_store.result c.make_store.ensures.loads
