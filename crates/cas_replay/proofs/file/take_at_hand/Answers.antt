use Rattle.std.proofs.Common.{◌≡◌, ◌-◌, ℕ, true, length, Option, Ok, ap, subst, arith}
use Rattle.cas_codec.specs.Reading.{Left}
use Rattle.cas_replay.specs.Inner.Steps.{part_at, filled_at, gated_at, left_of}
use Rattle.cas_replay.proofs.AtHand.{is_reader, part_less, part_on, block_taken, block_fault, filled_whole, filled_fault, part_fault, shut_whole, front_whole}
use Rattle.cas_replay.proofs.Answering.{steps_refused, part_refused}
use Rattle.cas_replay.proofs.Fronts.{gated_front}
use Rattle.cas_replay.proofs.file.take_at_hand.Goals as goal

pub overflow_sub-taken : goal.overflow_sub-taken
overflow_sub-taken g c =
    let e = subst (λ n. part_at c.args.size c.new-reader.result ≡ Ok (n, c.read_part.new.reader)) c.in-Ok-Some.field-0-is c.in-Ok-Some.ensures in
    let less = part_less c.args.size c.new-reader.result c.read_part.new.reader c.in-Ok-Some.part e in
    omega (arith, less, ap length c.left-before.ensures.left, ap length c.left.ensures.left)

pub returns-in-Ok-clause-on : goal.returns-in-Ok-clause-on
returns-in-Ok-clause-on g c _ =
    let is = is_reader c.new-reader.result c.args.file.now _ _ c.new-reader.ensures.bytes c.ahead.ensures c.new-reader.ensures.at c.at.ensures in
    let e = subst (λ n. part_at c.args.size c.new-reader.result ≡ Ok (n, c.read_part.new.reader)) c.in-Ok-Some.field-0-is c.in-Ok-Some.ensures in
    part_on c.args.size c.new-reader.result c.read_part.new.reader c.in-Ok-Some.part e c.args.file.now c.pass.new.self is _
    (λ i. length (c.left-before.ensures.left i) - length (c.left.ensures.left i)) c.pass.ensures

pub returns-in-Ok-clause-went : goal.returns-in-Ok-clause-went
returns-in-Ok-clause-went g c first before stands =
    let is = is_reader c.new-reader.result c.args.file.now _ _ c.new-reader.ensures.bytes c.ahead.ensures c.new-reader.ensures.at c.at.ensures in
    let e = subst (λ n. part_at c.args.size c.new-reader.result ≡ Ok (n, c.read_part.new.reader)) c.in-Ok-Some.field-0-is c.in-Ok-Some.ensures in
    let went = c.in-Ok.ensures first before stands in
    let whole = filled_whole c.args.of.now.tables.now c.args.of.now.shards c.args.size before c.new-reader.result c.read_part.new.reader c.take_body.new.body c.in-Ok-Some.part went.after e went.so in
    record {
      after = went.after;
      stands = went.stands;
      stay = went.stay;
      so = λ file next has.
          block_taken c.args.of.now.tables.now c.args.of.now.shards c.args.size before c.args.file.now c.pass.new.self c.new-reader.result c.read_part.new.reader is true went.after whole _
          (λ i. length (c.left-before.ensures.left i) - length (c.left.ensures.left i)) c.pass.ensures c.args.of.now.number file next has;
    }

pub returns-in-Err-take_body-clause-went : goal.returns-in-Err-take_body-clause-went
returns-in-Err-take_body-clause-went g c first before stands =
    let is = is_reader c.new-reader.result c.args.file.now _ _ c.new-reader.ensures.bytes c.ahead.ensures c.new-reader.ensures.at c.at.ensures in
    let e = subst (λ n. part_at c.args.size c.new-reader.result ≡ Ok (n, c.read_part.new.reader)) c.in-Ok-Some.field-0-is c.in-Ok-Some.ensures in
    let went = c.in-Err-take_body.ensures first before stands in
    record {
      after = went.after;
      stands = went.stands;
      stay = went.stay;
      so = λ file next has.
          steps_refused {Z = Unit {0}} (λ _. went.after) c.args.of.now.number file c.args.file.now (λ ms. ms) went.after c.in-Err-take_body.fault c.take_body.new.body
          (filled_at c.args.of.now.tables.now c.args.of.now.shards c.in-Ok-Some.part.1 before c.in-Ok-Some.part.0)
          (gated_at c.args.of.now.tables.now c.args.of.now.shards c.args.size before (left_of file c.args.file.now.at)) c.of_field.result c.of_field.ensures went.so
          (λ f so. block_fault c.args.of.now.tables.now c.args.of.now.shards c.args.size before c.args.file.now.at file c.args.file.now.bytes c.new-reader.result is next has f
          (filled_fault c.args.of.now.tables.now c.args.of.now.shards c.args.size before c.new-reader.result c.read_part.new.reader c.in-Ok-Some.part f e so))
          (λ front. front_whole c.args.of.now.tables.now c.args.of.now.shards c.args.size before c.args.file.now.at file c.args.file.now.bytes c.new-reader.result c.read_part.new.reader c.in-Ok-Some.part went.after is next has e front);
    }

pub returns-in-Ok-None-clause-went : goal.returns-in-Ok-None-clause-went
returns-in-Ok-None-clause-went g c first before stands =
    let is = is_reader c.new-reader.result c.args.file.now _ _ c.new-reader.ensures.bytes c.ahead.ensures c.new-reader.ensures.at c.at.ensures in
    let shut = subst (λ n. part_at c.args.size c.new-reader.result ≡ Ok (n, c.read_part.new.reader)) c.in-Ok-None.field-0-is c.in-Ok-None.ensures in
    record {
      after = before;
      stands = stands;
      stay = λ are some so. so;
      so = λ file next has. shut_whole c.args.of.now.tables.now c.args.of.now.shards c.args.size before c.args.file.now.at file c.args.file.now.bytes c.new-reader.result c.read_part.new.reader is next has shut;
    }

pub returns-in-Err-clause-went : goal.returns-in-Err-clause-went
returns-in-Err-clause-went g c first before stands =
    let is = is_reader c.new-reader.result c.args.file.now _ _ c.new-reader.ensures.bytes c.ahead.ensures c.new-reader.ensures.at c.at.ensures in
    record {
      after = before;
      stands = stands;
      stay = λ are some so. so;
      so = λ file next has.
          part_refused (λ (p : Option (Left × ℕ)). p) c.args.of.now.number file c.args.file.now before c.in-Err.fault c.read_part.new.reader (part_at c.args.size c.new-reader.result)
          (gated_at c.args.of.now.tables.now c.args.of.now.shards c.args.size before (left_of file c.args.file.now.at)) c.of_field-in-Err.result c.of_field-in-Err.ensures c.in-Err.ensures
          (λ f so. block_fault c.args.of.now.tables.now c.args.of.now.shards c.args.size before c.args.file.now.at file c.args.file.now.bytes c.new-reader.result is next has f (part_fault c.args.of.now.tables.now c.args.of.now.shards c.args.size before c.new-reader.result f so))
          (gated_front c.args.of.now.tables.now c.args.of.now.shards c.args.size before (left_of file c.args.file.now.at));
    }
