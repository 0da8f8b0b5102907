use Rattle.std.proofs.Common.{ℕ, List, sym, ap, subst, ◌∙◌}
use Rattle.std.specs.Option.{option_copied}
use Rattle.cas_codec.specs.Exact.{AreBytes}
use Rattle.cas_codec.proofs.Exactness.{read_left}
use Rattle.cas_streams.specs.Places.{place_of}
use Rattle.cas_streams.specs.declared.fragment.Fragment.{Fragment}
use Rattle.cas_fragments.specs.Blocks.{Reached, last_place, past_all}
use Rattle.cas_fragments.specs.Reading.{body_at}
use Rattle.cas_skips.specs.Told.{told}
use Rattle.cas_skips.specs.Inner.Passing.{counted}
use Rattle.cas_skips.proofs.Passing.{read_ok}
use Rattle.cas_skips.proofs.Spelling.{checked_is}
use Rattle.cas_skips.proofs.blocks.check_block.Goals as goal

pub returns-in-Ok-clause-exact : goal.returns-in-Ok-clause-exact
returns-in-Ok-clause-exact c =
    let start : Reached = record { last = last_place (option_copied c.args.last); force = c.args.force } in
    let reached : Reached = record { last = place_of c.in-Ok.reaching.last; force = c.in-Ok.reaching.force } in
    let p = checked_is c.args.columns.now c.requires.narrow c.args.order.now c.requires.ordered start reached c.in-Ok.reaching.count
    (read_left c.args.bytes.items c.args.place) c.in-Ok.ensures.exact.0
    (subst (λ (bs : List ℕ). AreBytes bs) c.deref.ensures.value c.check_bytes.ensures.are_bytes)
    (ap (λ (bs : List ℕ). told (counted 0 start) (body_at c.args.order.now c.args.columns.now start (read_left bs c.args.place))) (sym c.deref.ensures.value)
    ∙ c.in-Ok.ensures.exact.1) in
    (c.in-Ok.ensures.exact.0, p.0 ∙ ap (λ (fs : List Fragment). read_ok fs c.in-Ok.ensures.exact.0) (sym c.new.ensures))

pub returns-in-Ok-clause-reached : goal.returns-in-Ok-clause-reached
returns-in-Ok-clause-reached c =
    let start : Reached = record { last = last_place (option_copied c.args.last); force = c.args.force } in
    let reached : Reached = record { last = place_of c.in-Ok.reaching.last; force = c.in-Ok.reaching.force } in
    let p = checked_is c.args.columns.now c.requires.narrow c.args.order.now c.requires.ordered start reached c.in-Ok.reaching.count
    (read_left c.args.bytes.items c.args.place) c.in-Ok.ensures.exact.0
    (subst (λ (bs : List ℕ). AreBytes bs) c.deref.ensures.value c.check_bytes.ensures.are_bytes)
    (ap (λ (bs : List ℕ). told (counted 0 start) (body_at c.args.order.now c.args.columns.now start (read_left bs c.args.place))) (sym c.deref.ensures.value)
    ∙ c.in-Ok.ensures.exact.1) in
    p.1 ∙ ap (past_all start) (sym c.new.ensures)
