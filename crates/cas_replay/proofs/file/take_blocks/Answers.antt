use Rattle.std.proofs.Common.{Bool, ap, subst, ◌∙◌, Ok, Err, arith}
use Rattle.cas_disk.specs.Disk.{bytes_of}
use Rattle.cas_files.specs.Ahead.{AreNext}
use Rattle.cas_files.proofs.Files.{same_more, reads_more}
use Rattle.cas_replay.specs.Inner.Steps.{gated_at, left_of, values_of, StepsOn}
use Rattle.cas_replay.proofs.Steps.{no_more, refused}
use Rattle.cas_replay.proofs.Whole.{at_start, comes_more}
use Rattle.cas_replay.proofs.Answering.{blocks_refused}
use Rattle.cas_replay.proofs.Fronts.{comes_front}
use Rattle.cas_replay.proofs.file.take_blocks.Goals as goal

pub turns-preserved : goal.turns-preserved
turns-preserved g c =
    let disk = g.F.Folder.disk in
    let on = c.in-Ok-true.ensures.on c.in-Ok-true.field-0-test in
    record {
      name = c.take_block.ensures.name ∙ c.turns.invariant.name;
      place = omega (arith, on.1);
      went = λ first before stands.
          let went = c.turns.invariant.went first before stands in
          let more = c.in-Ok-true.ensures.went first went.after went.stands in
          record {
            after = more.after;
            stands = more.stands;
            stay = λ are some so. more.stay are some (went.stay are some so);
            so = λ image read next.
                let file = bytes_of (image c.args.file.now.name) in
                let (here, comes) = went.so image read next in
                let step = at_start (disk c.args.folder.now) (disk c.turns.folder) c.turns.invariant.during c.turns.invariant.reads c.args.file.now.name c.turns.file.name c.turns.invariant.name
                (λ f. AreNext c.turns.file.at f c.turns.file.bytes → StepsOn c.args.of.now.number f c.take_block.new.file more.after (Ok c.in-Ok-true.field-0)
                (gated_at c.args.of.now.tables.now c.args.of.now.shards c.args.size went.after (left_of f c.turns.file.at))) more.so image read here in
                let done = subst (λ (b : Bool). StepsOn c.args.of.now.number file c.take_block.new.file more.after (Ok b)
                (gated_at c.args.of.now.tables.now c.args.of.now.shards c.args.size went.after (left_of file c.turns.file.at))) c.in-Ok-true.field-0-test step in
                (done.1, comes_more c.args.of.now.tables.now c.args.of.now.shards c.args.size went.after more.after c.turns.file.at c.take_block.new.file.at file _ comes done.0);
          };
      reads = reads_more (disk c.args.folder.now) (disk c.turns.folder) (disk c.take_block.new.folder) c.turns.invariant.reads c.take_block.ensures.reads;
      during = same_more (disk c.args.folder.now) (disk c.turns.folder) (disk c.take_block.new.folder) c.turns.invariant.during c.take_block.ensures.during;
      faults = omega (arith, c.turns.invariant.faults, c.take_block.ensures.count);
    }

pub returns-in-Ok-false-clause-went : goal.returns-in-Ok-false-clause-went
returns-in-Ok-false-clause-went g c first before stands =
    let disk = g.F.Folder.disk in
    let went = c.turns.invariant.went first before stands in
    let more = c.in-Ok-false.ensures.went first went.after went.stands in
    record {
      after = more.after;
      stands = more.stands;
      stay = λ are some so. more.stay are some (went.stay are some so);
      so = λ image read next.
          let file = bytes_of (image c.args.file.now.name) in
          let (here, comes) = went.so image read next in
          let step = at_start (disk c.args.folder.now) (disk c.turns.folder) c.turns.invariant.during c.turns.invariant.reads c.args.file.now.name c.turns.file.name c.turns.invariant.name
          (λ f. AreNext c.turns.file.at f c.turns.file.bytes → StepsOn c.args.of.now.number f c.take_block.new.file more.after (Ok c.in-Ok-false.field-0)
          (gated_at c.args.of.now.tables.now c.args.of.now.shards c.args.size went.after (left_of f c.turns.file.at))) more.so image read here in
          let last = subst (λ (b : Bool). StepsOn c.args.of.now.number file c.take_block.new.file more.after (Ok b)
          (gated_at c.args.of.now.tables.now c.args.of.now.shards c.args.size went.after (left_of file c.turns.file.at))) c.in-Ok-false.field-0-test step in
          ap values_of (no_more c.args.of.now.tables.now c.args.of.now.shards c.args.size went.after more.after (left_of file c.turns.file.at) last.0 _ comes last.1);
    }

pub returns-in-Ok-false-clause-reads : goal.returns-in-Ok-false-clause-reads
returns-in-Ok-false-clause-reads g c = let disk = g.F.Folder.disk in reads_more (disk c.args.folder.now) (disk c.turns.folder) (disk c.take_block.new.folder) c.turns.invariant.reads c.take_block.ensures.reads

pub returns-in-Ok-false-clause-during : goal.returns-in-Ok-false-clause-during
returns-in-Ok-false-clause-during g c = let disk = g.F.Folder.disk in same_more (disk c.args.folder.now) (disk c.turns.folder) (disk c.take_block.new.folder) c.turns.invariant.during c.take_block.ensures.during

pub returns-in-Err-clause-went : goal.returns-in-Err-clause-went
returns-in-Err-clause-went g c first before stands =
    let disk = g.F.Folder.disk in
    let went = c.turns.invariant.went first before stands in
    let more = c.in-Err.ensures.went first went.after went.stands in
    record {
      after = more.after;
      stands = more.stands;
      stay = λ are some so. more.stay are some (went.stay are some so);
      so = λ image read next.
          let file = bytes_of (image c.args.file.now.name) in
          let (here, comes) = went.so image read next in
          let step = at_start (disk c.args.folder.now) (disk c.turns.folder) c.turns.invariant.during c.turns.invariant.reads c.args.file.now.name c.turns.file.name c.turns.invariant.name
          (λ f. AreNext c.turns.file.at f c.turns.file.bytes → StepsOn c.args.of.now.number f c.take_block.new.file more.after (Err c.in-Err.fault)
          (gated_at c.args.of.now.tables.now c.args.of.now.shards c.args.size went.after (left_of f c.turns.file.at))) more.so image read here in
          blocks_refused (Unit {0}) c.args.of.now.number file c.take_block.new.file more.after c.in-Err.fault _ _ step
          (λ f e. refused c.args.of.now.tables.now c.args.of.now.shards c.args.size went.after (left_of file c.turns.file.at) f _ comes e)
          (λ front. comes_front c.args.of.now.tables.now c.args.of.now.shards c.args.size went.after more.after (left_of file c.turns.file.at) _ comes front);
    }

pub returns-in-Err-clause-reads : goal.returns-in-Err-clause-reads
returns-in-Err-clause-reads g c = let disk = g.F.Folder.disk in reads_more (disk c.args.folder.now) (disk c.turns.folder) (disk c.take_block.new.folder) c.turns.invariant.reads c.take_block.ensures.reads

pub returns-in-Err-clause-during : goal.returns-in-Err-clause-during
returns-in-Err-clause-during g c = let disk = g.F.Folder.disk in same_more (disk c.args.folder.now) (disk c.turns.folder) (disk c.take_block.new.folder) c.turns.invariant.during c.take_block.ensures.during
