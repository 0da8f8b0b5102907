use Rattle.std.proofs.Common.{◌≡◌, ℕ, ◌+◌, leb, Option, List, length, sym, ap, subst, ◌∙◌, arith}
use Rattle.std.specs.Option.{option_copied}
use Rattle.cas_codec.proofs.Exactness.{read_left}
use Rattle.cas_streams.specs.declared.fragment.Fragment.{Fragment}
use Rattle.cas_fragments.specs.Blocks.{Reached, last_place, past_all}
use Rattle.cas_fragments.specs.Reading.{body_at}
use Rattle.cas_fragments.specs.declared.blocks.TheConstants.{BLOCK_LEAST}
use Rattle.cas_skips.proofs.Passing.{read_ok}
use Rattle.cas_blocks.specs.Inner.Steps.{IsStep}
use Rattle.cas_blocks.proofs.NextBlock.{body_is}
use Rattle.cas_blocks.proofs.steps.parse_block.Goals as goal

pub behind-requires-clause-some : goal.behind-requires-clause-some
behind-requires-clause-some g c =
    let r : Reached = record { last = last_place (option_copied c.mark_before-last.result); force = c.args.at.now.force } in
    (body_is c.args.file.now.order.now c.args.file.now.columns.now c.args.file.now.ordered c.args.file.now.narrow r
    (read_left c.args.body.items _) c.in-Ok.ensures.exact.0 c.in-Ok.block.fragments c.in-Ok.ensures.are_bytes c.in-Ok.ensures.exact.1).some

pub behind-requires-clause-few : goal.behind-requires-clause-few
behind-requires-clause-few g c =
    let r : Reached = record { last = last_place (option_copied c.mark_before-last.result); force = c.args.at.now.force } in
    let p = body_is c.args.file.now.order.now c.args.file.now.columns.now c.args.file.now.ordered c.args.file.now.narrow r
    (read_left c.args.body.items _) c.in-Ok.ensures.exact.0 c.in-Ok.block.fragments c.in-Ok.ensures.are_bytes c.in-Ok.ensures.exact.1 in
    omega (arith, p.few, c.len-long.ensures)

pub behind-requires-clause-full : goal.behind-requires-clause-full
behind-requires-clause-full g c =
    let r : Reached = record { last = last_place (option_copied c.mark_before-last.result); force = c.args.at.now.force } in
    let p = body_is c.args.file.now.order.now c.args.file.now.columns.now c.args.file.now.ordered c.args.file.now.narrow r
    (read_left c.args.body.items _) c.in-Ok.ensures.exact.0 c.in-Ok.block.fragments c.in-Ok.ensures.are_bytes c.in-Ok.ensures.exact.1 in
    let long : length c.args.body.items ≡ c.len-long.result = omega (arith, c.len-long.ensures) in
    p.full ∙ ap (leb BLOCK_LEAST) long

pub behind-requires-clause-reached : goal.behind-requires-clause-reached
behind-requires-clause-reached g c =
    c.in-Ok.ensures.reached
    ∙ ap (λ (l : Option Fragment). past_all (record { last = last_place l; force = c.args.at.now.force }) c.in-Ok.block.fragments) c.mark_before-last.ensures

pub returns-in-Ok : goal.returns-in-Ok
returns-in-Ok g c =
    let long : c.len-long.result ≡ length c.args.body.items = omega (arith, c.len-long.ensures) in (
      (
        c.in-Ok.ensures.exact.0,
        ap (λ (l : Option Fragment). body_at c.args.file.now.order.now c.args.file.now.columns.now (record { last = last_place l; force = c.args.at.now.force })
            (read_left c.args.body.items (c.args.at.now.place + 4))) (sym c.mark_before-last.ensures)
            ∙ c.in-Ok.ensures.exact.1 ∙ ap (λ (fs : List Fragment). read_ok fs c.in-Ok.ensures.exact.0) (sym c.behind.ensures.same),
      ),
      subst (λ (n : ℕ). IsStep c.args.at.now n c.behind.result) long c.behind.ensures.step,
    )
