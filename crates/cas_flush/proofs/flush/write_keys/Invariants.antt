use Rattle.std.proofs.Common.{◌≡◌, List, [], None, map}
use Rattle.std.specs.Arc.{arc_value}
use Rattle.std.specs.Option.{option_copied}
use Rattle.cas_types.specs.declared.schema.Column.{Column}
use Rattle.cas_atoms.specs.declared.atom.Mutation.{Mutation}
use Rattle.cas_disk.specs.Counts.{Counted}
use Rattle.cas_memtable.specs.Kept.{HoldMutations}
use Rattle.cas_tables.specs.Contents.{Partition}
use Rattle.cas_sstwrite.specs.Writers.{Writes, fault_of}
use Rattle.cas_flush.specs.Flushed.{SayWhatIsHeld}
use Rattle.cas_flush.specs.Inner.Keys.{IsWhole, is_reached}
use Rattle.cas_flush.proofs.Counting.{left_above}
use Rattle.cas_flush.proofs.flush.write_keys.Given as goal

abbrev pub invariant-loop-key : goal.invariant-loop-key
invariant-loop-key g l = record {
  sound : fault_of l.writer ≡ None;
  kept : (l.writer.header ≡ l.initial.writer.header) × (l.writer.level ≡ l.initial.writer.level);
  written : (columns : List Column) (wss : List (List Mutation)) → HoldMutations columns (map arc_value l.memtables) wss → IsWhole columns l.slice
      → Writes g.D.Draft.number g.D.Draft.written columns l.initial.writer []
      → (ps : List Partition) × SayWhatIsHeld columns (map arc_value l.memtables) (is_reached (option_copied l.last)) ps × Writes g.D.Draft.number g.D.Draft.written columns l.writer ps;
  count : Counted (g.D.Tally.Count.number l.initial.tally) (g.D.Tally.Count.number l.tally) ⊥;
}

abbrev pub decreases-loop-key : goal.decreases-loop-key
decreases-loop-key g l = left_above (map arc_value l.memtables) (option_copied l.last)
