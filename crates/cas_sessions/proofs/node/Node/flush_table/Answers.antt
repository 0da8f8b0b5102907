use Rattle.std.proofs.Common.{◌≡◌, ◌∙◌, ◌++◌, ℕ, List, Some, ap, arith}
use Rattle.std.specs.Prelude.{slice_get}
use Rattle.cas_sessions.specs.Filling.{listed_of}
use Rattle.cas_sessions.proofs.FlushAll.{all_first, first_more_as, first_none_as, no_further, none_of_memory}
use Rattle.cas_sessions.proofs.node.Node.flush_table.Goals as goal

pub loop-place-init : goal.loop-place-init
loop-place-init g c = record {
  first = λ clock t at_t. first_none_as t _ _ _ c.new-numbers.ensures.items;
  going = c.requires.going;
  limits = λ i. c.args.self.now.limits;
  tables = λ i. c.args.self.now.tables;
  sessions = λ i. c.args.self.now.maker.out;
}

pub returns-in-Err-clause-failed : goal.returns-in-Err-clause-failed
returns-in-Err-clause-failed g c = λ clock t at_t.
    none_of_memory t c.loop-place.place _ _ _ _ _ (c.loop-place.invariant.first clock t at_t) (omega (arith, c.loop-place-test.true, c.len-place-end.ensures)) c.loop-place.invariant.going

pub returns-in-Err-flush_shard-clause-failed : goal.returns-in-Err-flush_shard-clause-failed
returns-in-Err-flush_shard-clause-failed g c = λ clock t at_t.
    let now_t : slice_get c.loop-place.self.tables.items c.args.table ≡ Some t = ap (λ ts. slice_get ts.items c.args.table) c.loop-place.invariant.tables ∙ at_t in
    no_further t c.loop-place.place _ c.in-Err-flush_shard.fault _ _ _ _ _ _ (c.loop-place.invariant.first clock t at_t) (c.in-Err-flush_shard.ensures.flushes clock t now_t)
    (omega (arith, c.loop-place-test.true, c.len-place-end.ensures))

pub loop-place-preserved : goal.loop-place-preserved
loop-place-preserved g c = record {
  first = λ clock t at_t.
      let now_t : slice_get c.loop-place.self.tables.items c.args.table ≡ Some t = ap (λ ts. slice_get ts.items c.args.table) c.loop-place.invariant.tables ∙ at_t in
      first_more_as t c.loop-place.place c.loop-place.numbers.items c.note.new.numbers.items c.in-Ok.number _ _ _ _ _ _
      (c.note.ensures ∙ ap (λ (ns : List ℕ). ns ++ listed_of c.in-Ok.number) c.reserve.ensures.items) (c.loop-place.invariant.first clock t at_t) (c.in-Ok.ensures.flushes clock t now_t);
  going = c.in-Ok.ensures.going;
  limits = c.flush_shard.ensures.same.0 ∙ c.loop-place.invariant.limits;
  tables = c.flush_shard.ensures.same.1 ∙ c.loop-place.invariant.tables;
  sessions = c.flush_shard.ensures.sessions ∙ c.loop-place.invariant.sessions;
}

pub returns-clause-flushed : goal.returns-clause-flushed
returns-clause-flushed g c = λ clock t at_t.
    all_first t c.loop-place.place _ _ _ _ _ _ (omega (arith, c.loop-place-test.false, c.len-place-end.ensures, c.loop-place.auto.place-end)) (c.loop-place.invariant.first clock t at_t)
