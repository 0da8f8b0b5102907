use Rattle.std.proofs.Common.{◌≡◌, ◌-◌, ◌≤◌, List, ℕ, Option, drop, length, sym, ap, subst, ◌∙◌, arith}
use Rattle.cas_cell.specs.declared.deletion.Deletion.{Deletion}
use Rattle.cas_codec.specs.Reading.{Left}
use Rattle.cas_codec.proofs.Exactness.{read_left}
use Rattle.cas_streams.specs.declared.fragment.Fragment.{Fragment}
use Rattle.cas_skips.specs.Blocks.{spelled, skipped}
use Rattle.cas_skips.specs.Inner.Stops.{left_from, IsFurther}
use Rattle.cas_skips.proofs.Noting.{noted_skip}
use Rattle.cas_skips.proofs.Spelling.{left_is}
use Rattle.cas_skips.proofs.spelled.Spelled.skip.Goals as goal

pub overflow_sub-self : goal.overflow_sub-self
overflow_sub-self c =
    let s = c.self.inside in
    let reached = noted_skip s.order.now s.columns.now s.bytes.items s.place s.taken s.count c.self.invariant.kept s.note c.args.order.now c.args.cut.now c.args.force
    c.in-Some.spot c.self.invariant.noted c.in-Some.ensures in
    let within : c.in-Some.spot.left ≤ length s.bytes.items = reached.2 in omega (arith, c.len.ensures)

pub returns-in-Some-clause-passed : goal.returns-in-Some-clause-passed
returns-in-Some-clause-passed c =
    let s = c.self.inside in
    let long : c.len.result ≡ length s.bytes.items = omega (arith, c.len.ensures) in
    let reached = noted_skip s.order.now s.columns.now s.bytes.items s.place s.taken s.count c.self.invariant.kept s.note c.args.order.now c.args.cut.now c.args.force
    c.in-Some.spot c.self.invariant.noted c.in-Some.ensures in
    ap (skipped c.args.order.now c.args.cut.now c.args.force) (sym c.self.view_is) ∙ reached.0
    ∙ ap (λ (n : ℕ). let p : Option Deletion × List Fragment =
    (c.in-Some.spot.force, spelled s.order.now s.columns.now (s.count - c.in-Some.spot.before) (left_from s.bytes.items s.place (n - c.in-Some.spot.left))) in p) (sym long)

pub returns-clause-passed : goal.returns-clause-passed
returns-clause-passed c =
    let s = c.self.inside in
    let long : c.len-2.result ≡ length s.bytes.items = omega (arith, c.len-2.ensures) in
    let rest = read_left c.in_ok-stop.stop.rest.now c.in_ok-stop.stop.at in
    let bytes : c.new-reader.result.bytes ≡ drop s.taken s.bytes.items =
    c.new-reader.ensures.bytes ∙ c.behind.ensures ∙ ap (drop s.taken) c.deref.ensures.value in
    let here : left_from s.bytes.items s.place s.taken ≡ c.new-reader.result = λ i. record { bytes = sym bytes i; at = sym c.new-reader.ensures.at i } in
    let further = subst (λ (l : Left). IsFurther l rest) (sym here) c.in_ok-stop.ensures.further in
    ap (skipped c.args.order.now c.args.cut.now c.args.force) (sym c.self.view_is ∙ ap (spelled s.order.now s.columns.now s.count) here)
    ∙ c.in_ok-stop.ensures.passed
    ∙ ap (λ (l : Left). let p : Option Deletion × List Fragment = (c.in_ok-stop.stop.force, spelled s.order.now s.columns.now c.in_ok-stop.stop.count l) in p)
    (sym (left_is s.bytes.items s.place s.taken c.self.invariant.kept.some rest further)
    ∙ ap (λ (n : ℕ). left_from s.bytes.items s.place (n - length c.in_ok-stop.stop.rest.now)) (sym long))
