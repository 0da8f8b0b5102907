use Rattle.std.proofs.Common.{ℕ, Bool, subst, Ok}
use Rattle.cas_disk.specs.Disk.{bytes_of}
use Rattle.cas_files.specs.Ahead.{AreNext}
use Rattle.cas_replay.specs.Inner.Steps.{gated_at, left_of, HasBlock, Reaches, StepsOn}
use Rattle.cas_replay.proofs.Steps.{gated_shut, gated_refused}
use Rattle.cas_replay.proofs.Answering.{step_refused}
use Rattle.cas_replay.proofs.Fronts.{gated_front}
use Rattle.cas_replay.proofs.file.take_block.Goals as goal

pub returns-in-Ok-true-clause-went : goal.returns-in-Ok-true-clause-went
returns-in-Ok-true-clause-went g c first before stands =
    let went = c.take_at_hand.ensures.went first before stands in
    record {
      after = went.after;
      stands = went.stands;
      stay = went.stay;
      so = λ image read next.
          let file = bytes_of (image c.args.file.now.name) in
          let has = subst (λ (b : Bool). Reaches c.args.of.now.number c.args.size c.args.file.now.at file c.reach_block.new.file (Ok b)) c.in-Ok-true.field-0-test (c.in-Ok-true.ensures.exact image read next) in
          subst (λ (at : ℕ). AreNext at file c.reach_block.new.file.bytes → HasBlock c.args.size at file c.reach_block.new.file.bytes
          → StepsOn c.args.of.now.number file c.take_at_hand.new.file went.after c.take_at_hand.result (gated_at c.args.of.now.tables.now c.args.of.now.shards c.args.size before (left_of file at)))
          c.reach_block.ensures.at (went.so file) has.0 has.1;
    }

pub returns-in-Ok-false-clause-went : goal.returns-in-Ok-false-clause-went
returns-in-Ok-false-clause-went g c first before stands = record {
  after = before;
  stands = stands;
  stay = λ are some so. so;
  so = λ image read next.
      let file = bytes_of (image c.args.file.now.name) in
      let shut = subst (λ (b : Bool). Reaches c.args.of.now.number c.args.size c.args.file.now.at file c.reach_block.new.file (Ok b)) c.in-Ok-false.field-0-test (c.in-Ok-false.ensures.exact image read next) in
      gated_shut c.args.of.now.tables.now c.args.of.now.shards c.args.size before (left_of file c.args.file.now.at) shut.0 shut.1;
}

pub returns-in-Err-clause-went : goal.returns-in-Err-clause-went
returns-in-Err-clause-went g c first before stands = record {
  after = before;
  stands = stands;
  stay = λ are some so. so;
  so = λ image read next.
      let file = bytes_of (image c.args.file.now.name) in
      step_refused c.args.of.now.number c.args.size c.args.file.now.at file c.reach_block.new.file c.reach_block.new.file before c.in-Err.fault
      (gated_at c.args.of.now.tables.now c.args.of.now.shards c.args.size before (left_of file c.args.file.now.at)) (c.in-Err.ensures.exact image read next)
      (λ f e. gated_refused c.args.of.now.tables.now c.args.of.now.shards c.args.size before (left_of file c.args.file.now.at) f e)
      (gated_front c.args.of.now.tables.now c.args.of.now.shards c.args.size before (left_of file c.args.file.now.at));
}
