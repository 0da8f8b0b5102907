use Rattle.std.proofs.Common.{◌≡◌, ◌+◌, ◌++◌, ◌∷◌, [], ℕ, List, length, Option, refl, subst}
use Rattle.std.proofs.lemmas.Result.{on_ok_weaker, IfErr-weaker}
use Rattle.cas_fragments.specs.Blocks.{behind_statics}
use Rattle.cas_cell.specs.declared.deletion.Deletion.{Deletion}
use Rattle.cas_streams.specs.declared.fragment.Fragment.{Fragment}
use Rattle.cas_facts.specs.declared.facts.Facts.{Facts}
use Rattle.cas_sstwrite.specs.declared.fault.WriteFault.{WriteFault}
use Rattle.cas_sstwrite.specs.declared.held.Part.{Part}
use Rattle.cas_sstwrite.specs.Inner.Parts.{Taken, Hinders}
use Rattle.cas_sstwrite.proofs.Ending.{static_first, row_behind, marker_behind}
use Rattle.cas_sstwrite.proofs.held.Part.take_first.Goals as goal

Before : Part → ℕ → Fragment → WriteFault → Type 0
Before p place f e =
    (start : ℕ) (before : Option Facts) (top : Option Deletion) (gs : List Fragment) (text : List ℕ) → Taken start before top gs p text
    → place ≡ start + length text → (rest : List Fragment) → Hinders start (behind_statics gs ++ f ∷ rest) e

Why : Part → ℕ → Fragment → WriteFault → Type 0
Why p place f e =
    (start : ℕ) (before : Option Facts) (top : Option Deletion) (text : List ℕ) → Taken start before top [] p text
    → place ≡ start + length text → (rest : List Fragment) → Hinders start (behind_statics (f ∷ rest)) e

pub returns-in-Static-clause-taken : goal.returns-in-Static-clause-taken
returns-in-Static-clause-taken g c start before top text taken at =
    static_first g.D.Draft.number g.D.Draft.written start before top c.args.sink.now c.args.self.now _ text c.args.fragment.now c.in-Static.field-0 c.in-Static.is taken
    refl refl refl c.see.ensures

pub returns-in-Row-clause-taken : goal.returns-in-Row-clause-taken
returns-in-Row-clause-taken g c = on_ok_weaker c.take.result (λ taken start before top text. taken start before top [] text) c.take.ensures.taken

pub returns-in-Row-clause-why : goal.returns-in-Row-clause-why
unfolding Before Why
returns-in-Row-clause-why g c =
    IfErr-weaker c.take.result (Before c.args.self.now c.args.sink.now.place c.args.fragment.now) (Why c.args.self.now c.args.sink.now.place c.args.fragment.now)
    (λ e why start before top text taken at rest.
    subst (λ (xs : List Fragment). Hinders start xs e) (row_behind c.args.fragment.now c.in-Row.field-0 rest c.in-Row.is) (why start before top [] text taken at rest))
    c.take.ensures.why

pub returns-in-Marker-clause-taken : goal.returns-in-Marker-clause-taken
returns-in-Marker-clause-taken g c = on_ok_weaker c.take-in-Marker.result (λ taken start before top text. taken start before top [] text) c.take-in-Marker.ensures.taken

pub returns-in-Marker-clause-why : goal.returns-in-Marker-clause-why
unfolding Before Why
returns-in-Marker-clause-why g c =
    IfErr-weaker c.take-in-Marker.result (Before c.args.self.now c.args.sink.now.place c.args.fragment.now) (Why c.args.self.now c.args.sink.now.place c.args.fragment.now)
    (λ e why start before top text taken at rest.
    subst (λ (xs : List Fragment). Hinders start xs e) (marker_behind c.args.fragment.now c.in-Marker.field-0 c.in-Marker.field-1 rest c.in-Marker.is)
    (why start before top [] text taken at rest))
    c.take-in-Marker.ensures.why
