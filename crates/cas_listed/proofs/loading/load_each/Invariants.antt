use Rattle.std.proofs.Common.{◌≡◌, ◌≤◌, map, take}
use Rattle.std.specs.List.{AllByRecursion}
use Rattle.cas_disk.specs.Disk.{Image, During, Follows, Same}
use Rattle.cas_view.specs.Views.{files_of}
use Rattle.cas_stored.specs.Stored.{IsFileOf}
use Rattle.cas_listed.specs.Listed.{AreLoaded}
use Rattle.cas_listed.proofs.loading.load_each.Given as goal

abbrev pub invariant-loop-info : goal.invariant-loop-info
invariant-loop-info g l =
    let disk = g.F.Folder.disk in
    record {
      loaded : (c : Image) → (disk l.fn.folder).reads c → AreLoaded l.table l.shard c (take l.info-index l.listed) (files_of l.files.items);
      columns : AllByRecursion (IsFileOf l.table.columns) (files_of l.files.items);
      infos : map (λ f. f.info) (files_of l.files.items) ≡ take l.info-index l.listed;
      own : map (λ f. f.table.info) (files_of l.files.items) ≡ take l.info-index l.listed;
      reads : Follows Same (disk l.fn.folder).reads (disk l.folder).reads;
      during : During Same (disk l.fn.folder) (disk l.folder);
      faults : g.F.Folder.faults_of l.fn.folder ≤ g.F.Folder.faults_of l.folder;
      tally : g.F.Tally.Count.number l.fn.tally ≤ g.F.Tally.Count.number l.tally;
    }
