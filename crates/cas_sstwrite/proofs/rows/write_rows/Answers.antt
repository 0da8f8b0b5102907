use Rattle.std.proofs.Common.{◌≡◌, ◌+◌, [], ℕ, List, length, Option, sym, subst}
use Rattle.cas_fragments.specs.Blocks.{behind_statics}
use Rattle.cas_cell.specs.declared.deletion.Deletion.{Deletion}
use Rattle.cas_streams.specs.declared.fragment.Fragment.{Fragment}
use Rattle.cas_facts.specs.declared.facts.Facts.{Facts}
use Rattle.cas_sstwrite.specs.declared.fault.PartitionFault.{PartitionFault}
use Rattle.cas_sstwrite.specs.declared.fault.PartitionFault.TheVariants.{Write}
use Rattle.cas_sstwrite.specs.declared.held.Part.{Part}
use Rattle.cas_sstwrite.specs.Inner.Parts.{Taken, RowsFault, Hinders, Says, WroteRows}
use Rattle.cas_sstwrite.proofs.Results.{passed_on}
use Rattle.cas_sstwrite.proofs.Ending.{some_ends, end_wrong, says_none, says_some}
use Rattle.cas_sstwrite.proofs.rows.write_rows.Goals as goal

Why : {E : Type 0} → Part → ℕ → Option Fragment → Option (List Fragment) → PartitionFault E → Type 0
Why p place first told e =
    (start : ℕ) (before : Option Facts) (top : Option Deletion) (text : List ℕ) → Taken start before top [] p text
    → place ≡ start + length text → (fs : List Fragment) → Says first told fs → RowsFault start (behind_statics fs) e

pub returns-in_err-end-clause-why : goal.returns-in_err-end-clause-why
unfolding Why
returns-in_err-end-clause-why g c =
    let told = g.S.FragmentSource.to_come c.args.source.now in
    passed_on c.from_residual.result (Write c.in_err-end.field-0.0) (Why c.args.part.now c.args.sink.now.place c.args.first told) c.from_residual.ensures.1
    (λ start before top text taken at fs says.
    subst (λ (xs : List Fragment). Hinders start (behind_statics xs) c.in_err-end.field-0.0) (sym (says_none c.args.first told fs c.in_default.is says))
    (c.in_err-end.ensures.why start before top [] text taken at))

pub returns-in_err-take_all-clause-why : goal.returns-in_err-take_all-clause-why
unfolding Why
returns-in_err-take_all-clause-why g c =
    let told = g.S.FragmentSource.to_come c.args.source.now in
    passed_on c.from_residual-in_err-take_all.result c.in_err-take_all.field-0.0 (Why c.args.part.now c.args.sink.now.place c.args.first told)
    c.from_residual-in_err-take_all.ensures.1
    (λ start before top text taken at fs says.
    let some = says_some c.args.first told fs c.in-Some.first c.in-Some.is says in
    subst (λ (xs : List Fragment). RowsFault start (behind_statics xs) c.in_err-take_all.field-0.0) (sym some.2)
    (c.in_err-take_all.ensures.why start before top text taken at some.0 some.1))

pub returns-in_err-end-2-clause-why : goal.returns-in_err-end-2-clause-why
unfolding Why
returns-in_err-end-2-clause-why g c =
    let told = g.S.FragmentSource.to_come c.args.source.now in
    passed_on c.from_residual-in_err-end-2.result (Write c.in_err-end-2.field-0.0) (Why c.args.part.now c.args.sink.now.place c.args.first told)
    c.from_residual-in_err-end-2.ensures.1
    (λ start before top text taken at fs says.
    end_wrong g.D.Draft.number g.D.Draft.written start before top c.in-Some.first c.args.sink.now c.take_all.new.sink c.take_all.new.part text told c.in_err-end-2.field-0.0 at
    (c.in_ok-take_all.ensures.taken start before top text taken at)
    (λ start before top gs text taken at. c.in_err-end-2.ensures.why start before top gs text taken at)
    fs (says_some c.args.first told fs c.in-Some.first c.in-Some.is says))

pub returns-clause-wrote : goal.returns-clause-wrote
returns-clause-wrote g c start before top text taken at =
    let told = g.S.FragmentSource.to_come c.args.source.now in
    subst (λ (x : Option Fragment). WroteRows g.D.Draft.number g.D.Draft.written start before top x c.args.sink.now c.end-2.new.sink c.end-2.new.self text told)
    (sym c.in-Some.is)
    (some_ends g.D.Draft.number g.D.Draft.written start before top c.in-Some.first c.args.sink.now c.take_all.new.sink c.end-2.new.sink c.take_all.new.part c.end-2.new.self text
    told at (c.in_ok-take_all.ensures.taken start before top text taken at) c.in_ok-end-2.ensures.ended)
