use Rattle.std.proofs.Common.{List, Result, sym, subst}
use Rattle.cas_atoms.specs.declared.atom.Mutation.{Mutation}
use Rattle.cas_codec.specs.declared.fault.ReadFault.{ReadFault}
use Rattle.cas_files.proofs.Files.{same_more, reads_more}
use Rattle.cas_replay.specs.Replays.{IsFront}
use Rattle.cas_replay.proofs.Fronts.{itself}
use Rattle.cas_replay.proofs.file.replay_segment.Goals as goal

pub returns-in-Ok-clause-reads : goal.returns-in-Ok-clause-reads
returns-in-Ok-clause-reads g c = let disk = g.F.Folder.disk in reads_more (disk c.args.folder.now) (disk c.read_segment.new.folder) (disk c.sync.new.self) c.read_segment.ensures.reads c.sync.ensures.reads

pub returns-in-Ok-clause-during : goal.returns-in-Ok-clause-during
returns-in-Ok-clause-during g c = let disk = g.F.Folder.disk in same_more (disk c.args.folder.now) (disk c.read_segment.new.folder) (disk c.sync.new.self) c.read_segment.ensures.during c.sync.ensures.during

pub returns-in-Err-sync-clause-reads : goal.returns-in-Err-sync-clause-reads
returns-in-Err-sync-clause-reads g c = let disk = g.F.Folder.disk in reads_more (disk c.args.folder.now) (disk c.read_segment.new.folder) (disk c.sync.new.self) c.read_segment.ensures.reads c.sync.ensures.reads

pub returns-in-Err-sync-clause-during : goal.returns-in-Err-sync-clause-during
returns-in-Err-sync-clause-during g c = let disk = g.F.Folder.disk in same_more (disk c.args.folder.now) (disk c.read_segment.new.folder) (disk c.sync.new.self) c.read_segment.ensures.during c.sync.ensures.during

pub returns-in-Err-sync-clause-went : goal.returns-in-Err-sync-clause-went
returns-in-Err-sync-clause-went g c first before stands =
    let went = c.in_default.ensures.went first before stands in
    record {
      after = went.after;
      stands = went.stands;
      stay = went.stay;
      so = λ image read. subst (λ (r : Result (List Mutation) ReadFault). IsFront (λ ms. ms) went.after r) (sym (went.so image read)) (itself went.after);
    }
