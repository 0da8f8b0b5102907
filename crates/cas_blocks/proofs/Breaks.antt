-- Where the blocks of a partition break, as a reading goes on.
use Rattle.std.proofs.Common.{◌≡◌, ℕ, Bool, List, ◌∷◌, Option, Some, Ok, subst}
use Rattle.std.specs.Prelude.{is_none}
use Rattle.cas_types.specs.declared.schema.Column.{Column}
use Rattle.cas_bounds.specs.declared.order.Ordered.{Ordered}
use Rattle.cas_streams.specs.declared.fragment.Fragment.{Fragment}
use Rattle.cas_fragments.specs.Blocks.{Reached, past_all, is_full}
use Rattle.cas_blocks.specs.Reading.{left_at, BreaksBehind}
use Rattle.cas_blocks.specs.Inner.Steps.{reached, Answers}
use Rattle.cas_blocks.specs.Inner.Pieces.{FindsNoMore}
use Rattle.cas_blocks.specs.declared.steps.Onward.{Onward}
use Rattle.cas_blocks.specs.declared.steps.Step.{Step}

module _ (order : List Ordered) (columns : List Column) (number end : ℕ) (contents : Option (List ℕ)) where
  -- what breaks behind a block breaks before it
  pub before_block : (o : Onward) (step : Step) → ((file : List ℕ) → contents ≡ Some file → Answers order columns number end file o (Ok (Some step)))
      → FindsNoMore order columns number end contents (Some o) (Some step.onward)
  before_block o step answers n at may file is =
      let a = answers file is in
      let m = may file is in
      let b : List Fragment = step.fragments in
      let left = left_at file end step.onward.place in
      let behind : BreaksBehind order columns (is_none (past_all (reached o) b).force) (is_full b) (past_all (reached o) b) left m.1.0 at =
      subst (λ (e : Bool). BreaksBehind order columns e (is_full b) (past_all (reached o) b) left m.1.0 at) a.1.ends
      (subst (λ (g : Bool). BreaksBehind order columns step.onward.ends g (past_all (reached o) b) left m.1.0 at) a.1.goes_on
      (subst (λ (r : Reached). BreaksBehind order columns step.onward.ends step.onward.goes_on r left m.1.0 at) a.1.reached_is m.1.1)) in
      (m.0, (b ∷ m.1.0, (left, a.0, behind)))
