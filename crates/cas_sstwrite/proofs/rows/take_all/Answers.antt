use Rattle.std.proofs.Common.{◌≡◌, ◌+◌, ◌++◌, ◌∷◌, [], ℕ, List, length, Option, Some}
use Rattle.std.proofs.lemmas.Result.{on_ok_weaker, IfErr-weaker}
use Rattle.cas_streams.specs.Streams.{IsThere}
use Rattle.cas_fragments.specs.Blocks.{behind_statics}
use Rattle.cas_cell.specs.declared.deletion.Deletion.{Deletion}
use Rattle.cas_streams.specs.declared.fragment.Fragment.{Fragment}
use Rattle.cas_facts.specs.declared.facts.Facts.{Facts}
use Rattle.cas_sstwrite.specs.declared.fault.PartitionFault.{PartitionFault}
use Rattle.cas_sstwrite.specs.declared.fault.PartitionFault.TheVariants.{Write}
use Rattle.cas_sstwrite.specs.declared.held.Part.{Part}
use Rattle.cas_sstwrite.specs.Inner.Parts.{Taken, RowsFault}
use Rattle.cas_sstwrite.proofs.Results.{passed_on}
use Rattle.cas_sstwrite.proofs.Rowing.{place_then}
use Rattle.cas_sstwrite.proofs.Ending.{goes_then}
use Rattle.cas_sstwrite.proofs.rows.take_all.Goals as goal

Before : {E : Type 0} → Part → ℕ → Option (List Fragment) → PartitionFault E → Type 0
Before p place told e =
    (start : ℕ) (before : Option Facts) (top : Option Deletion) (gs : List Fragment) (text : List ℕ) → IsThere gs → Taken start before top gs p text
    → place ≡ start + length text → (fs : List Fragment) → told ≡ Some fs → RowsFault start (behind_statics (gs ++ fs)) e

Why : {E : Type 0} → Part → ℕ → Fragment → Option (List Fragment) → PartitionFault E → Type 0
Why p place f told e =
    (start : ℕ) (before : Option Facts) (top : Option Deletion) (text : List ℕ) → Taken start before top [] p text
    → place ≡ start + length text → (fs : List Fragment) → told ≡ Some fs → RowsFault start (behind_statics (f ∷ fs)) e

pub returns-in_err-taken-clause-why : goal.returns-in_err-taken-clause-why
unfolding Why
returns-in_err-taken-clause-why g c =
    passed_on c.from_residual.result (Write c.in_err-taken.field-0.0) (Why c.args.part.now c.args.sink.now.place c.args.first (g.S.FragmentSource.to_come c.args.source.now))
    c.from_residual.ensures.1
    (λ start before top text taken at fs told. c.in_err-taken.ensures.why start before top text taken at fs)

pub returns-clause-taken : goal.returns-clause-taken
returns-clause-taken g c =
    on_ok_weaker c.take_rest.result (λ on start before top text taken at.
    goes_then g.D.Draft.number g.D.Draft.written start before top c.args.first c.args.sink.now c.take_first-taken.new.sink c.take_rest.new.sink c.take_first-taken.new.self
    c.take_rest.new.part text (g.S.FragmentSource.to_come c.args.source.now) at (c.in_ok-taken.ensures.taken start before top text taken at) on)
    c.take_rest.ensures.taken

pub returns-clause-why : goal.returns-clause-why
unfolding Before Why
returns-clause-why g c =
    IfErr-weaker c.take_rest.result (Before c.take_first-taken.new.self c.take_first-taken.new.sink.place (g.S.FragmentSource.to_come c.args.source.now))
    (Why c.args.part.now c.args.sink.now.place c.args.first (g.S.FragmentSource.to_come c.args.source.now))
    (λ e why start before top text taken at fs told.
    let goes = c.in_ok-taken.ensures.taken start before top text taken at in
    why start before top (c.args.first ∷ []) (text ++ goes.more) tt goes.taken
    (place_then g.D.Draft.number g.D.Draft.written start goes.more text c.args.sink.now c.take_first-taken.new.sink at goes.took) fs told)
    c.take_rest.ensures.why
