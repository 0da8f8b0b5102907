use Rattle.std.proofs.Common.{◌≡◌, ◌+◌, ℕ, List, length, Option}
use Rattle.cas_cell.specs.declared.deletion.Deletion.{Deletion}
use Rattle.cas_streams.specs.declared.fragment.Fragment.{Fragment}
use Rattle.cas_facts.specs.declared.facts.Facts.{Facts}
use Rattle.cas_disk.specs.Counts.{Counted}
use Rattle.cas_sstwrite.specs.Inner.Parts.{Taken, GoneOn}
use Rattle.cas_sstwrite.proofs.rows.take_rest.Given as goal

abbrev pub invariant-loop-fragment : goal.invariant-loop-fragment
invariant-loop-fragment g l = record {
  gone : (start : ℕ) (before : Option Facts) (top : Option Deletion) (gs : List Fragment) (text : List ℕ)
      → Taken start before top gs l.initial.part text → l.initial.sink.place ≡ start + length text
      → GoneOn g.D.Draft.number g.D.Draft.written start before top gs l.initial.sink l.sink l.part text
      (g.S.FragmentSource.to_come l.initial.source) (g.S.FragmentSource.to_come l.source);
  count : Counted (g.D.Tally.Count.number l.initial.tally) (g.D.Tally.Count.number l.tally) ⊥;
}

abbrev pub decreases-loop-fragment : goal.decreases-loop-fragment
decreases-loop-fragment g l = g.S.FragmentSource.at_most l.source
