use Rattle.std.proofs.Common.{rules, arith, subst, sym, ◌∙◌}
use Rattle.cas_disk.proofs.Moments.{no_call}
use Rattle.cas_node.specs.Inner.Turns.{IsToldSo}
use Rattle.cas_node.proofs.SessionLemmas.{all_so_far_none, all_so_far_more, all_ran_cut, all_ran_whole, lists_more, none_left, tells_on, worse_told}
use Rattle.cas_lasting.proofs.Listing.{up_to_twice}
use Rattle.cas_lasting.specs.Listing.{SameUpTo}
use Rattle.cas_node.proofs.script.run_lines.Goals as goal

pub loop-rest-init : goal.loop-rest-init
loop-rest-init g c = record {
  so_far = all_so_far_none c.args.ask.now.kind (g.C.Clock.may_give c.args.ask.now.clock.now) _ _ _ _;
  tables = no_call (SameUpTo _) _;
  last = omega arith;
  told = tt;
  few = omega (arith, c.requires.begun.0);
  accepted = omega (arith, c.requires.begun.1);
  small = search rules;
  faults = omega arith;
  stalls = omega arith;
}

pub returns-in-Some-clause-ran : goal.returns-in-Some-clause-ran
returns-in-Some-clause-ran g c =
    all_ran_cut c.args.ask.now.kind (g.C.Clock.may_give c.args.ask.now.clock.now) _ _ _ _ _ _ _ _ c.next_line.result.1.now _ _ _ _ _ _ _ _ _ _
    c.loop-rest.invariant.so_far c.next_line.ensures.lines (tells_on _ _ _ c.loop-rest.invariant.tables) c.take_turn-turn.ensures.turned c.in-Some.is c.worse-cause.ensures c.cut_short.ensures.cause

pub returns-in-Some-clause-tables : goal.returns-in-Some-clause-tables
returns-in-Some-clause-tables g c = up_to_twice _ _ _ _ _ c.loop-rest.invariant.last c.loop-rest.invariant.tables c.take_turn-turn.ensures.tables

pub returns-in-Some-clause-lists : goal.returns-in-Some-clause-lists
returns-in-Some-clause-lists g c =
    lists_more c.args.ask.now.kind (g.C.Clock.may_give c.args.ask.now.clock.now) _ _ _ _ _ _ _ c.next_line.result.1.now _ _ _ _ c.loop-rest.invariant.so_far c.next_line.ensures.lines
    c.take_turn-turn.ensures.lists

pub returns-clause-lists : goal.returns-clause-lists
returns-clause-lists g c = c.loop-rest.invariant.so_far.lists

pub loop-rest-preserved : goal.loop-rest-preserved
loop-rest-preserved g c = record {
  so_far =
      all_so_far_more c.args.ask.now.kind (g.C.Clock.may_give c.args.ask.now.clock.now) _ _ _ _ _ _ _ _ _ _ _ _ _ _ _ _ _
      c.loop-rest.invariant.so_far c.next_line.ensures.lines (tells_on _ _ _ c.loop-rest.invariant.tables) c.take_turn-turn.ensures.turned c.take_turn-turn.ensures.lists c.in_default.is
      c.worse-cause.ensures;
  tables = up_to_twice _ _ _ _ _ c.loop-rest.invariant.last c.loop-rest.invariant.tables c.take_turn-turn.ensures.tables;
  last = omega (arith, c.loop-rest.invariant.last, c.take_turn-turn.ensures.counts.2);
  told = subst IsToldSo (sym c.worse-cause.ensures) (worse_told _ _ c.loop-rest.invariant.told c.take_turn-turn.ensures.told);
  few = omega (arith, c.loop-rest.invariant.few, c.next_line.ensures.shorter, c.take_turn-turn.ensures.counts.0);
  accepted = omega (arith, c.loop-rest.invariant.accepted, c.next_line.ensures.shorter, c.take_turn-turn.ensures.counts.1);
  small = c.loop-rest.invariant.small;
  faults = omega (arith, c.loop-rest.invariant.faults, c.take_turn-turn.ensures.faults);
  stalls = omega (arith, c.loop-rest.invariant.stalls, c.take_turn-turn.ensures.stalls);
}

pub returns-clause-ran : goal.returns-clause-ran
returns-clause-ran g c =
    all_ran_whole c.args.ask.now.kind (g.C.Clock.may_give c.args.ask.now.clock.now) _ _ _ _ _ _ _ _ _ c.loop-rest.invariant.so_far
    (none_left c.args.ask.now.kind (g.C.Clock.may_give c.args.ask.now.clock.now) c.loop-rest.rest.now (sym c.is_empty.ensures ∙ c.loop-rest-test.false))
