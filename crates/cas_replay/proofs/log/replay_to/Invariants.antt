use Rattle.std.proofs.Common.{◌≡◌, ◌≤◌, ◌++◌, List, [], take, drop}
use Rattle.cas_atoms.specs.declared.atom.Mutation.{Mutation}
use Rattle.cas_disk.specs.Disk.{Image, During, Follows, Same}
use Rattle.cas_replay.specs.Reading.{log_of, segment_in}
use Rattle.cas_replay.specs.Replays.{Last}
use Rattle.cas_replay.specs.Inner.Progress.{Went}
use Rattle.cas_replay.proofs.log.replay_to.Given as goal

abbrev pub invariant-loop-segment : goal.invariant-loop-segment
invariant-loop-segment g l = record {
  went : (first : List Mutation) → g.T.TakesMutations.has_taken first l.fn.taker → Went l.tables l.shards l.frontiers (λ ms. g.T.TakesMutations.has_taken (first ++ ms) l.taker) l.lasts []
      (λ after. (c : Image) → (g.F.Folder.disk l.fn.folder).reads c
      → log_of l.tables l.shards (segment_in c) (drop l.segment-index l.segments) after ≡ log_of l.tables l.shards (segment_in c) l.segments []);
  lasts : Last (take l.segment-index l.segments) (g.F.Folder.disk l.folder);
  reads : Follows Same (g.F.Folder.disk l.fn.folder).reads (g.F.Folder.disk l.folder).reads;
  during : During Same (g.F.Folder.disk l.fn.folder) (g.F.Folder.disk l.folder);
  faults : g.F.Folder.faults_of l.fn.folder ≤ g.F.Folder.faults_of l.folder;
}
