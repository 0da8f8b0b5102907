use Rattle.std.proofs.Common.{◌-◌, List, [], ◌∷◌, ◌++◌, subst}
use Rattle.cas_atoms.specs.declared.atom.Mutation.{Mutation}
use Rattle.cas_codec.specs.Reading.{Left, Read}
use Rattle.cas_replay.specs.Reading.{records_at, next_at}
use Rattle.cas_replay.specs.Replays.{IsFront}
use Rattle.cas_replay.proofs.Answering.{tells_fault}
use Rattle.cas_replay.proofs.Fronts.{records_front}
use Rattle.cas_replay.proofs.Loops.{record_more, record_fault, records_all}
use Rattle.cas_replay.proofs.Progress.{stay_more}
use Rattle.cas_replay.proofs.reading.take_records.Goals as goal

pub returns-in-Err-hand_on : goal.returns-in-Err-hand_on
returns-in-Err-hand_on g c first before stands =
    let went = c.loop-done.invariant first before stands in
    record {
      after = went.after;
      stands = c.in-Err-hand_on.ensures.kept first went.after went.stands;
      stay = went.stay;
      so = subst (λ (r : Read (List Mutation)). IsFront (λ (x : List Mutation × Left). x.0) went.after r) went.so
          (records_front c.args.of.now.tables.now c.args.of.now.shards (c.args.count - c.loop-done._done) went.after c.loop-done.reader);
    }

pub returns-in-Err : goal.returns-in-Err
returns-in-Err g c first before stands =
    let went = c.loop-done.invariant first before stands in
    record {
      after = went.after;
      stands = went.stands;
      stay = went.stay;
      so = tells_fault {X = Unit {0}} (λ (m : Mutation). m) (λ _. went.after) (λ ms. ms) went.after c.in-Err.fault c.read_next.new.reader c.read_next.new.reader
          (next_at c.args.of.now.tables.now c.args.of.now.shards went.after c.loop-done.reader)
          (records_at c.args.of.now.tables.now c.args.of.now.shards c.args.count before c.args.reader.now) (c.in-Err.ensures.exact went.after went.stands.last)
          (λ f e. record_fault _ _ _ _ _ _ _ went.so c.loop-done-test.true f e)
          (subst (λ (r : Read (List Mutation)). IsFront (λ (x : List Mutation × Left). x.0) went.after r) went.so
          (records_front c.args.of.now.tables.now c.args.of.now.shards (c.args.count - c.loop-done._done) went.after c.loop-done.reader));
    }

pub loop-done-preserved : goal.loop-done-preserved
loop-done-preserved g c first before stands =
    let went = c.loop-done.invariant first before stands in
    let e = c.in-Ok.ensures.exact went.after went.stands.last in
    record {
      after = went.after ++ c.in-Ok.mutation ∷ [];
      stands = c.in-Ok-hand_on.ensures.handed first went.after went.stands;
      stay = λ are some so.
          stay_more c.args.of.now.tables.now c.args.of.now.shards went.after c.loop-done.reader c.read_next.new.reader c.in-Ok.mutation c.in-Ok.ensures.fits e are some (went.stay are some so);
      so = record_more _ _ _ _ _ _ _ went.so c.loop-done-test.true c.in-Ok.mutation c.read_next.new.reader e;
    }

pub returns : goal.returns
returns g c first before stands =
    let went = c.loop-done.invariant first before stands in
    record { after = went.after; stands = went.stands; stay = went.stay; so = records_all _ _ _ _ _ _ _ went.so c.loop-done-test.false }
