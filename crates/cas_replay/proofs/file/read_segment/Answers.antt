use Rattle.std.proofs.Common.{ℕ, List, length, drop, ap, sym, subst, ◌∙◌, Result, Ok, Err}
use Rattle.cas_codec.specs.declared.fault.ReadFault.{ReadFault}
use Rattle.cas_atoms.specs.declared.atom.Mutation.{Mutation}
use Rattle.cas_disk.specs.Disk.{bytes_of}
use Rattle.cas_disk.specs.declared.name.Name.TheVariants.{Log}
use Rattle.cas_files.specs.Ahead.{Ahead, AreNext}
use Rattle.cas_files.proofs.Files.{same_more, reads_more}
use Rattle.cas_replay.specs.Reading.{header_at, blocks_at, segment_of, segment_in}
use Rattle.cas_replay.specs.Inner.Steps.{left_of, values_of, ReadsOn}
use Rattle.cas_replay.specs.Inner.Progress.{GoesThrough}
use Rattle.cas_replay.proofs.Whole.{at_start, none_next, segment_blocks, segment_fault}
use Rattle.cas_replay.proofs.Answering.{header_refused}
use Rattle.cas_replay.proofs.Fronts.{segment_front}
use Rattle.cas_replay.proofs.file.read_segment.Goals as goal

pub returns-in-Ok-clause-went : goal.returns-in-Ok-clause-went
returns-in-Ok-clause-went g c first before stands =
    let disk = g.F.Folder.disk in
    let went = c.take_blocks.ensures.went first before stands in
    record {
      after = went.after;
      stands = went.stands;
      stay = went.stay;
      so = λ image read.
          let file = segment_in image c.args.of.now.number in
          let header = subst (λ (a : Ahead). AreNext a.at (bytes_of (image a.name)) a.bytes
          → ReadsOn (λ (n : ℕ). n) c.args.of.now.number (bytes_of (image a.name)) c.take_header.new.file (Ok c.in-Ok.size) (header_at c.args.of.now.number (left_of (bytes_of (image a.name)) a.at)))
          c.new-file.ensures (c.in-Ok.ensures.exact image read) (none_next file) in
          let name = c.take_header.ensures.name ∙ ap (λ (a : Ahead). a.name) c.new-file.ensures in
          let blocks = at_start (disk c.args.folder.now) (disk c.take_header.new.folder) c.take_header.ensures.during c.take_header.ensures.reads (Log c.args.of.now.number) c.take_header.new.file.name name
          (λ f. AreNext c.take_header.new.file.at f c.take_header.new.file.bytes → GoesThrough went.after c.args.of.now.number c.take_blocks.result
          (values_of (blocks_at c.args.of.now.tables.now c.args.of.now.shards (length (drop c.take_header.new.file.at f)) c.in-Ok.size before (left_of f c.take_header.new.file.at))))
          went.so image read header.1 in
          subst (λ (r : Result (List Mutation) ReadFault). GoesThrough went.after c.args.of.now.number c.take_blocks.result r)
          (sym (segment_blocks c.args.of.now.tables.now c.args.of.now.shards c.args.of.now.number before file c.in-Ok.size (left_of file c.take_header.new.file.at) header.0)) blocks;
    }

pub returns-in-Ok-clause-reads : goal.returns-in-Ok-clause-reads
returns-in-Ok-clause-reads g c = let disk = g.F.Folder.disk in reads_more (disk c.args.folder.now) (disk c.take_header.new.folder) (disk c.take_blocks.new.folder) c.take_header.ensures.reads c.take_blocks.ensures.reads

pub returns-in-Ok-clause-during : goal.returns-in-Ok-clause-during
returns-in-Ok-clause-during g c = let disk = g.F.Folder.disk in same_more (disk c.args.folder.now) (disk c.take_header.new.folder) (disk c.take_blocks.new.folder) c.take_header.ensures.during c.take_blocks.ensures.during

pub returns-clause-went : goal.returns-clause-went
returns-clause-went g c first before stands = record {
  after = before;
  stands = stands;
  stay = λ are some so. so;
  so = λ image read.
      let file = segment_in image c.args.of.now.number in
      let header = subst (λ (a : Ahead). AreNext a.at (bytes_of (image a.name)) a.bytes
      → ReadsOn (λ (n : ℕ). n) c.args.of.now.number (bytes_of (image a.name)) c.take_header.new.file (Err c.in-Err.fault) (header_at c.args.of.now.number (left_of (bytes_of (image a.name)) a.at)))
      c.new-file.ensures (c.in-Err.ensures.exact image read) (none_next file) in
      header_refused (Unit {0}) before c.args.of.now.number file c.take_header.new.file c.in-Err.fault (header_at c.args.of.now.number (left_of file 0))
      (segment_of c.args.of.now.tables.now c.args.of.now.shards c.args.of.now.number before file) header
      (λ f e. segment_fault c.args.of.now.tables.now c.args.of.now.shards c.args.of.now.number before file f e)
      (segment_front c.args.of.now.tables.now c.args.of.now.shards c.args.of.now.number before file);
}
