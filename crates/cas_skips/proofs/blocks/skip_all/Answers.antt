use Rattle.std.proofs.Common.{◌≡◌, ℕ, ◌+◌, ◌-◌, Vec, Global, List, length, Some, Ok, Err, sym, ap, subst, ◌∙◌, arith}
use Rattle.std.specs.Option.{option_copied}
use Rattle.std.specs.Borrow.{Bor}
use Rattle.cas_codec.specs.declared.fault.ReadFault.TheVariants.{Short}
use Rattle.cas_codec.specs.Reading.{Read}
use Rattle.cas_codec.proofs.Times.{gives_fault}
use Rattle.cas_streams.specs.Places.{Place}
use Rattle.cas_fragments.specs.Blocks.{Reached, last_place}
use Rattle.cas_fragments.specs.Reading.{early_fragment_at, fragments_at}
use Rattle.cas_skips.specs.Told.{told}
use Rattle.cas_skips.specs.Marks.{mark_of}
use Rattle.cas_skips.specs.declared.blocks.Ended.{Ended}
use Rattle.cas_skips.specs.declared.fragments.Passed.{Passed}
use Rattle.cas_skips.specs.Inner.Passing.{seen, mark_at, place_at, counted}
use Rattle.cas_skips.specs.Inner.Notes.{found}
use Rattle.cas_skips.proofs.BlockLoop.{HasCounted, loop_more, loop_last, loop_fault, loop_short, body_is, behind_is, no_bytes, some_bytes}
use Rattle.cas_skips.proofs.Noting.{sought_next, sought_none}
use Rattle.cas_skips.proofs.Passing.{read_ok}
use Rattle.cas_skips.proofs.blocks.skip_all.Goals as goal

pub returns-then-is_empty-clause-exact : goal.returns-then-is_empty-clause-exact
returns-then-is_empty-clause-exact c =
    let start : Reached = record { last = last_place (option_copied c.args.last); force = c.args.force } in
    let r : Reached = record { last = place_at c.loop-done.end (seen c.loop-done.before.items); force = c.loop-done.now } in
    let long : ℕ = length c.left-long.result.now in
    let m = mark_at c.in-Ok.passed.end c.in-Ok.passed.opens (seen c.skip_early.new.values.items) in
    let e = subst (λ (ws : List (Bor (List ℕ))). told mark_of (early_fragment_at c.args.order.now c.args.columns.now long
    (record { last = place_at c.loop-done.end (seen ws); force = c.loop-done.now }) c.loop-done.reader) ≡ Ok (m, c.skip_early.new.reader)) c.deref.ensures.value c.in-Ok.ensures in
    let there = behind_is r.last c.loop-done.now c.force_behind-now.result c.in-Ok.passed.end c.in-Ok.passed.opens c.skip_early.new.values.items c.swap.new.x.items
    (ap (λ (v : Vec (Bor (List ℕ)) Global). v.items) c.swap.ensures.x_after) c.force_behind-now.ensures in
    body_is c.args.order.now c.args.columns.now long (counted 0 start) start c.args.reader.now c.loop-done.invariant.long
    ∙ loop_last c.args.order.now c.args.columns.now long long c.loop-done.done r m c.loop-done.reader c.skip_early.new.reader _ c.loop-done-test.true e
    (no_bytes (length c.skip_early.new.reader.bytes) c.is_empty.result c.is_empty.ensures c.if-is_empty.true) c.loop-done.invariant.counts
    ∙ ap (λ (q : Reached). read_ok (c.loop-done.done + 1, q) c.skip_early.new.reader) (sym there)

pub loop-done-preserved : goal.loop-done-preserved
loop-done-preserved c =
    let start : Reached = record { last = last_place (option_copied c.args.last); force = c.args.force } in
    let r : Reached = record { last = place_at c.loop-done.end (seen c.loop-done.before.items); force = c.loop-done.now } in
    let long : ℕ = length c.left-long.result.now in
    let m = mark_at c.in-Ok.passed.end c.in-Ok.passed.opens (seen c.skip_early.new.values.items) in
    let e = subst (λ (ws : List (Bor (List ℕ))). told mark_of (early_fragment_at c.args.order.now c.args.columns.now long
    (record { last = place_at c.loop-done.end (seen ws); force = c.loop-done.now }) c.loop-done.reader) ≡ Ok (m, c.skip_early.new.reader)) c.deref.ensures.value c.in-Ok.ensures in
    let there = behind_is r.last c.loop-done.now c.force_behind-now.result c.in-Ok.passed.end c.in-Ok.passed.opens c.skip_early.new.values.items c.swap.new.x.items
    (ap (λ (v : Vec (Bor (List ℕ)) Global). v.items) c.swap.ensures.x_after) c.force_behind-now.ensures in record {
      counts =
          subst (λ (q : Reached). HasCounted c.args.order.now c.args.columns.now long long (told (counted 0 start)
          (fragments_at c.args.order.now c.args.columns.now long long start c.args.reader.now)) (c.loop-done.done + 1) q c.skip_early.new.reader) (sym there)
          (loop_more c.args.order.now c.args.columns.now long long c.loop-done.done r m c.loop-done.reader c.skip_early.new.reader _ c.loop-done-test.true e
          (some_bytes (length c.skip_early.new.reader.bytes) c.is_empty.result c.is_empty.ensures c.if-is_empty.false) c.loop-done.invariant.counts);
      long = c.loop-done.invariant.long;
      sought =
          sought_next c.args.order.now c.args.columns.now c.requires.narrow c.requires.ordered (option_copied c.args.low) c.args.force c.args.reader.now c.loop-done.done
          c.loop-done.now c.loop-done.reader c.loop-done.spot long r m c.skip_early.new.reader c.force_behind-now.result c.spot_at-here.result c.found-spot.result
          c.spot_at-here.ensures.are_bytes e c.force_behind-now.ensures c.spot_at-here.ensures.spot
          (c.found-spot.ensures ∙ ap (λ (ws : List (Bor (List ℕ))). found c.args.order.now (option_copied c.args.low) c.loop-done.spot c.spot_at-here.result
          (place_at (Some c.in-Ok.passed.end) (seen ws))) c.deref-in-Ok.ensures.value) c.loop-done.invariant.sought;
    }

pub returns-clause-exact : goal.returns-clause-exact
returns-clause-exact c =
    let start : Reached = record { last = last_place (option_copied c.args.last); force = c.args.force } in
    let r : Reached = record { last = place_at c.loop-done.end (seen c.loop-done.before.items); force = c.loop-done.now } in
    let long : ℕ = length c.left-long.result.now in
    body_is c.args.order.now c.args.columns.now long (counted 0 start) start c.args.reader.now c.loop-done.invariant.long
    ∙ loop_short c.args.order.now c.args.columns.now long long c.loop-done.done r c.loop-done.reader _ c.loop-done-test.false c.loop-done.invariant.counts
    ∙ ap (λ (at : ℕ). let fault : Read (ℕ × Reached) = Err (Short at) in fault) (sym c.at.ensures)

pub returns-in-Err-clause-exact : goal.returns-in-Err-clause-exact
returns-in-Err-clause-exact c =
    let start : Reached = record { last = last_place (option_copied c.args.last); force = c.args.force } in
    let r : Reached = record { last = place_at c.loop-done.end (seen c.loop-done.before.items); force = c.loop-done.now } in
    let long : ℕ = length c.left-long.result.now in
    gives_fault (λ (e : Ended). (e.count, let r : Reached = record { last = place_at (Some e.end) (seen e.values.items); force = e.force } in r))
    (λ (p : Passed). mark_at p.end p.opens (seen c.skip_early.new.values.items)) c.in-Err.fault _ _ _ c.in-Err.ensures
    (λ g e. body_is c.args.order.now c.args.columns.now long (counted 0 start) start c.args.reader.now c.loop-done.invariant.long
    ∙ loop_fault c.args.order.now c.args.columns.now long long c.loop-done.done r c.loop-done.reader g _ c.loop-done-test.true
    (ap (λ (ws : List (Bor (List ℕ))). told mark_of (early_fragment_at c.args.order.now c.args.columns.now long
    (record { last = place_at c.loop-done.end (seen ws); force = c.loop-done.now }) c.loop-done.reader)) (sym c.deref.ensures.value) ∙ e) c.loop-done.invariant.counts)

pub returns-then-is_empty-clause-sought : goal.returns-then-is_empty-clause-sought
returns-then-is_empty-clause-sought c =
    let r : Reached = record { last = place_at c.loop-done.end (seen c.loop-done.before.items); force = c.loop-done.now } in
    let long : ℕ = length c.left-long.result.now in
    let m = mark_at c.in-Ok.passed.end c.in-Ok.passed.opens (seen c.skip_early.new.values.items) in
    let e = subst (λ (ws : List (Bor (List ℕ))). told mark_of (early_fragment_at c.args.order.now c.args.columns.now long
    (record { last = place_at c.loop-done.end (seen ws); force = c.loop-done.now }) c.loop-done.reader) ≡ Ok (m, c.skip_early.new.reader)) c.deref.ensures.value c.in-Ok.ensures in
    sought_next c.args.order.now c.args.columns.now c.requires.narrow c.requires.ordered (option_copied c.args.low) c.args.force c.args.reader.now c.loop-done.done
    c.loop-done.now c.loop-done.reader c.loop-done.spot long r m c.skip_early.new.reader c.force_behind-now.result c.spot_at-here.result c.found-spot.result
    c.spot_at-here.ensures.are_bytes e c.force_behind-now.ensures c.spot_at-here.ensures.spot
    (c.found-spot.ensures ∙ ap (λ (ws : List (Bor (List ℕ))). found c.args.order.now (option_copied c.args.low) c.loop-done.spot c.spot_at-here.result
    (place_at (Some c.in-Ok.passed.end) (seen ws))) c.deref-in-Ok.ensures.value) c.loop-done.invariant.sought

pub loop-done-init : goal.loop-done-init
loop-done-init c =
    let start : Reached = record { last = last_place (option_copied c.args.last); force = c.args.force } in
    let long : ℕ = length c.left-long.result.now in
    let all : long - 0 ≡ long = omega arith in record {
      counts =
          ap (λ (p : Place). let r : Reached = record { last = p; force = c.args.force } in
          told (counted 0 r) (fragments_at c.args.order.now c.args.columns.now long (long - 0) r c.args.reader.now)) c.in_ok-end.ensures
          ∙ ap (λ (n : ℕ). told (counted 0 start) (fragments_at c.args.order.now c.args.columns.now long n start c.args.reader.now)) all;
      long = ap length c.left-long.ensures.left;
      sought = sought_none c.args.order.now c.args.columns.now (option_copied c.args.low) c.args.force c.args.reader.now;
    }
