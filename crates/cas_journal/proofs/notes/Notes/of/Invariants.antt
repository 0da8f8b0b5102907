use Rattle.std.proofs.Common.{◌≡◌, ℕ, map, take}
use Rattle.cas_replay.specs.Tops.{top_at}
use Rattle.cas_journal.specs.declared.notes.Note.{Note}
use Rattle.cas_journal.proofs.Noting.{AreSame}
use Rattle.cas_journal.proofs.notes.Notes.of.Given as goal

abbrev pub invariant-loop-segment : goal.invariant-loop-segment
invariant-loop-segment l = record {
  shards : l.notes.shards ≡ l.shards;
  numbers : map (λ (n : Note). n.segment) l.notes.list.items ≡ take l.segment-index l.segments;
  same : AreSame l.tops l.notes.list.items;
  next : (place : ℕ) → top_at l.notes.next place ≡ 0;
}
