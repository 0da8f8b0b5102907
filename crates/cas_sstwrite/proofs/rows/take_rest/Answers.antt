use Rattle.std.proofs.Common.{◌≡◌, ◌+◌, ◌++◌, ℕ, List, length, Option, Some, arith}
use Rattle.cas_cell.specs.declared.deletion.Deletion.{Deletion}
use Rattle.cas_streams.specs.Streams.{IsThere}
use Rattle.cas_streams.specs.declared.fragment.Fragment.{Fragment}
use Rattle.cas_facts.specs.declared.facts.Facts.{Facts}
use Rattle.cas_fragments.specs.Blocks.{behind_statics}
use Rattle.cas_sstwrite.specs.declared.fault.PartitionFault.{PartitionFault}
use Rattle.cas_sstwrite.specs.declared.fault.PartitionFault.TheVariants.{Write}
use Rattle.cas_sstwrite.specs.declared.held.Part.{Part}
use Rattle.cas_sstwrite.specs.Inner.Parts.{Taken, RowsFault}
use Rattle.cas_sstwrite.proofs.Results.{passed_on}
use Rattle.cas_sstwrite.proofs.Rowing.{gone_none, gone_more, gone_all, gone_wrong, first_some, first_none}
use Rattle.cas_sstwrite.proofs.rows.take_rest.Goals as goal

pub loop-fragment-init : goal.loop-fragment-init
loop-fragment-init g c = record {
  gone = λ start before top gs text taken at.
      gone_none g.D.Draft.number g.D.Draft.written start before top gs c.args.sink.now c.args.part.now text (g.S.FragmentSource.to_come c.args.source.now) taken;
  count = record { kept = omega arith; rose = λ never. absurd never };
}

pub loop-fragment-preserved : goal.loop-fragment-preserved
loop-fragment-preserved g c = record {
  gone = λ start before top gs text taken at.
      gone_more g.D.Draft.number g.D.Draft.written start before top gs c.args.sink.now c.loop-fragment.sink c.take-taken.new.sink c.loop-fragment.part c.take-taken.new.self text
      (g.S.FragmentSource.to_come c.args.source.now) (g.S.FragmentSource.to_come c.loop-fragment.source) (g.S.FragmentSource.to_come c.next_of.new.source) c.in-Some.fragment at
      (c.loop-fragment.invariant.gone start before top gs text taken at) c.in_ok-taken.ensures.taken
      (λ fs told. first_some (PartitionFault g.row.S-Fault.Denot) fs (g.S.FragmentSource.to_come c.next_of.new.source) c.in_ok-fragment.field-0 c.in-Some.fragment
      (c.in_ok-fragment.ensures.first fs told) c.in-Some.is);
  count = record { kept = omega (arith, c.loop-fragment.invariant.count.kept, c.take-taken.ensures.count.kept); rose = λ never. absurd never };
}

Why : {E : Type 0} → Part → ℕ → Option (List Fragment) → PartitionFault E → Type 0
Why p place told e =
    (start : ℕ) (before : Option Facts) (top : Option Deletion) (gs : List Fragment) (text : List ℕ) → IsThere gs → Taken start before top gs p text
    → place ≡ start + length text → (fs : List Fragment) → told ≡ Some fs → RowsFault start (behind_statics (gs ++ fs)) e

pub returns-in_err-taken-clause-why : goal.returns-in_err-taken-clause-why
unfolding Why
returns-in_err-taken-clause-why g c =
    passed_on c.from_residual-in_err-taken.result (Write c.in_err-taken.field-0.0) (Why c.args.part.now c.args.sink.now.place (g.S.FragmentSource.to_come c.args.source.now))
    c.from_residual-in_err-taken.ensures.1
    (λ start before top gs text there taken at fs told.
    gone_wrong g.D.Draft.number g.D.Draft.written start before top gs c.args.sink.now c.loop-fragment.sink c.loop-fragment.part text
    (g.S.FragmentSource.to_come c.args.source.now) (g.S.FragmentSource.to_come c.loop-fragment.source) c.in-Some.fragment c.in_err-taken.field-0.0 at there
    (c.loop-fragment.invariant.gone start before top gs text taken at) c.in_err-taken.ensures.why
    (λ xs k. let n = first_some (PartitionFault g.row.S-Fault.Denot) xs (g.S.FragmentSource.to_come c.next_of.new.source) c.in_ok-fragment.field-0 c.in-Some.fragment
    (c.in_ok-fragment.ensures.first xs k) c.in-Some.is in (n.0, n.1)) fs told)

pub returns-clause-taken : goal.returns-clause-taken
returns-clause-taken g c start before top gs text taken at =
    gone_all g.D.Draft.number g.D.Draft.written start before top gs c.args.sink.now c.loop-fragment.sink c.loop-fragment.part text
    (g.S.FragmentSource.to_come c.args.source.now) (g.S.FragmentSource.to_come c.loop-fragment.source)
    (c.loop-fragment.invariant.gone start before top gs text taken at)
    (λ fs told. first_none (PartitionFault g.row.S-Fault.Denot) fs (g.S.FragmentSource.to_come c.next_of.new.source) c.in_ok-fragment.field-0
    (c.in_ok-fragment.ensures.first fs told) c.in_default.is)
