use Rattle.std.proofs.Common.{length}
use Rattle.std.specs.Option.{option_copied}
use Rattle.cas_codec.proofs.Times.{gives_fault}
use Rattle.cas_fragments.specs.Blocks.{Reached, last_place}
use Rattle.cas_fragments.specs.declared.blocks.Block.{Block}
use Rattle.cas_fragments.proofs.BlockLoop.{reached_is, force_pushed, body_more, body_last, body_fault, body_short}
use Rattle.cas_fragments.proofs.blocks.read_block.Goals as goal

pub returns-in-Err : goal.returns-in-Err
returns-in-Err c =
    let start : Reached = record { last = last_place (option_copied c.args.last); force = c.args.force } in
    let there = reached_is (option_copied c.args.last) (option_copied c.last_of-behind.result) c.args.force c.loop-done.now c.loop-done.fragments.items c.deref.result.now
    c.deref.ensures.value c.last_of-behind.ensures c.loop-done.invariant.now in record {
      exact =
          gives_fault (λ (b : Block). b.fragments.items) (λ f. f) c.in-Err.fault _ _ _ c.in-Err.ensures
          (λ g e. body_fault c.args.order.now c.args.columns.now start (length c.left-long.result.now) c.args.reader.now c.loop-done._done
          c.loop-done.fragments.items _ c.loop-done.reader g c.loop-done.invariant.long c.loop-done-test.true there e c.loop-done.invariant.read);
      force = tt;
    }

pub returns : goal.returns
returns c =
    let start : Reached = record { last = last_place (option_copied c.args.last); force = c.args.force } in record {
      exact =
          body_short c.args.order.now c.args.columns.now start (length c.left-long.result.now) c.args.reader.now c.loop-done._done c.at.result
          c.loop-done.fragments.items c.loop-done.reader c.loop-done.invariant.long c.loop-done-test.false c.at.ensures c.loop-done.invariant.read;
      force = tt;
    }

pub loop-done-preserved : goal.loop-done-preserved
loop-done-preserved c =
    let start : Reached = record { last = last_place (option_copied c.args.last); force = c.args.force } in
    let there = reached_is (option_copied c.args.last) (option_copied c.last_of-behind.result) c.args.force c.loop-done.now c.loop-done.fragments.items c.deref.result.now
    c.deref.ensures.value c.last_of-behind.ensures c.loop-done.invariant.now in record {
      read =
          body_more c.args.order.now c.args.columns.now start (length c.left-long.result.now) c.args.reader.now c.loop-done._done c.loop-done.fragments.items
          c.push.new.self.items _ c.in-Ok.fragment c.loop-done.reader c.read_early.new.reader c.is_empty.result c.loop-done-test.true there c.in-Ok.ensures
          c.is_empty.ensures c.if-is_empty.false c.in_ok-push-in-Ok.ensures.items c.loop-done.invariant.read;
      now =
          force_pushed start c.loop-done.fragments.items c.push.new.self.items c.in-Ok.fragment c.loop-done.now c.opened-now.result c.loop-done.invariant.now
          c.opened-now.ensures c.in_ok-push-in-Ok.ensures.items;
      long = c.loop-done.invariant.long;
    }

pub returns-then-is_empty : goal.returns-then-is_empty
returns-then-is_empty c =
    let start : Reached = record { last = last_place (option_copied c.args.last); force = c.args.force } in
    let there = reached_is (option_copied c.args.last) (option_copied c.last_of-behind.result) c.args.force c.loop-done.now c.loop-done.fragments.items c.deref.result.now
    c.deref.ensures.value c.last_of-behind.ensures c.loop-done.invariant.now in record {
      exact =
          body_last c.args.order.now c.args.columns.now start (length c.left-long.result.now) c.args.reader.now c.loop-done._done c.loop-done.fragments.items
          c.push.new.self.items _ c.in-Ok.fragment c.loop-done.reader c.read_early.new.reader c.is_empty.result c.loop-done.invariant.long
          c.loop-done-test.true there c.in-Ok.ensures c.is_empty.ensures c.if-is_empty.true c.in_ok-push-in-Ok.ensures.items c.loop-done.invariant.read;
      force =
          force_pushed start c.loop-done.fragments.items c.push.new.self.items c.in-Ok.fragment c.loop-done.now c.opened-now.result c.loop-done.invariant.now
          c.opened-now.ensures c.in_ok-push-in-Ok.ensures.items;
    }
