use Rattle.std.proofs.Common.{◌≡◌, ℕ, List, Some, sym, ap, subst, ◌∙◌}
use Rattle.std.specs.Borrow.{Bor}
use Rattle.std.specs.Option.{option_copied}
use Rattle.cas_codec.specs.Reading.{Left}
use Rattle.cas_codec.proofs.Exactness.{read_left}
use Rattle.cas_streams.specs.Places.{Place}
use Rattle.cas_fragments.specs.Blocks.{Reached, last_place}
use Rattle.cas_fragments.specs.Reading.{body_at}
use Rattle.cas_skips.specs.Told.{told}
use Rattle.cas_skips.specs.Inner.Passing.{seen, place_at, counted}
use Rattle.cas_skips.specs.Inner.Notes.{IsSought}
use Rattle.cas_skips.proofs.Passing.{read_ok}
use Rattle.cas_skips.proofs.blocks.check_bytes.Goals as goal

pub returns-clause-exact : goal.returns-clause-exact
returns-clause-exact c =
    let start : Reached = record { last = last_place (option_copied c.args.last); force = c.args.force } in
    let here : read_left c.args.bytes.now c.args.place ≡ c.new-reader.result =
    λ i. record { bytes = sym c.new-reader.ensures.bytes i; at = sym c.new-reader.ensures.at i } in (
      c.skip_all.new.reader,
      ap (λ (l : Left). told (counted 0 start) (body_at c.args.order.now c.args.columns.now start l)) here ∙ c.in_ok-ended.ensures.exact
          ∙ ap (λ (p : Place). read_ok (c.in_ok-ended.ended.count, let r : Reached = record { last = p; force = c.in_ok-ended.ended.force } in r) c.skip_all.new.reader)
          (ap (λ (ws : List (Bor (List ℕ))). place_at (Some c.in_ok-ended.ended.end) (seen ws)) (sym c.deref-2.ensures.value) ∙ sym c.in_ok-last.ensures),
    )

pub returns-clause-sought : goal.returns-clause-sought
returns-clause-sought c =
    let here : c.new-reader.result ≡ read_left c.args.bytes.now c.args.place =
    λ i. record { bytes = c.new-reader.ensures.bytes i; at = c.new-reader.ensures.at i } in (
      c.skip_all.new.reader,
      subst (λ (l : Left). IsSought c.args.order.now c.args.columns.now (option_copied c.args.low) c.args.force l c.in_ok-ended.ended.count c.in_ok-ended.ended.force
          c.skip_all.new.reader c.in_ok-ended.ended.spot) here c.in_ok-ended.ensures.sought,
    )
