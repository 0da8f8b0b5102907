use Rattle.std.proofs.Common.{true, sym, ◌∙◌}
use Rattle.cas_replay.specs.Reading.{records_at}
use Rattle.cas_replay.specs.Inner.Steps.{filled_at}
use Rattle.cas_replay.proofs.Answering.{told_fault}
use Rattle.cas_replay.proofs.Fronts.{filled_front, filled_refused, filled_is, not_filled}
use Rattle.cas_replay.proofs.reading.take_body.Goals as goal

pub returns-then-is_empty : goal.returns-then-is_empty
returns-then-is_empty g c first before stands =
    let went = c.in-Ok.ensures first before stands in
    record {
      after = went.after;
      stands = went.stands;
      stay = went.stay;
      so = filled_is c.args.of.now.tables.now c.args.of.now.shards c.args.count before went.after c.args.body.now c.take_records.new.reader true (sym c.is_empty.ensures ∙ c.if-is_empty.true) went.so;
    }

pub returns-else-is_empty : goal.returns-else-is_empty
returns-else-is_empty g c first before stands =
    let went = c.in-Ok.ensures first before stands in
    record {
      after = went.after;
      stands = went.stands;
      stay = went.stay;
      so = not_filled c.args.of.now.tables.now c.args.of.now.shards c.args.count before went.after c.args.body.now c.take_records.new.reader c.at.result (sym c.is_empty.ensures ∙ c.if-is_empty.false) c.at.ensures went.so;
    }

pub returns-in-Err : goal.returns-in-Err
returns-in-Err g c first before stands =
    let went = c.in-Err.ensures first before stands in
    record {
      after = went.after;
      stands = went.stands;
      stay = went.stay;
      so = told_fault {X = Unit {0}} {Y = Unit {0}} (λ _. went.after) (λ _. went.after) (λ ms. ms) went.after (λ ms. ms) c.in-Err.fault c.take_records.new.reader c.take_records.new.reader
          (records_at c.args.of.now.tables.now c.args.of.now.shards c.args.count before c.args.body.now)
          (filled_at c.args.of.now.tables.now c.args.of.now.shards c.args.count before c.args.body.now) went.so
          (λ f e. filled_refused c.args.of.now.tables.now c.args.of.now.shards c.args.count before c.args.body.now f e)
          (λ front. filled_front c.args.of.now.tables.now c.args.of.now.shards c.args.count before went.after c.args.body.now front);
    }
