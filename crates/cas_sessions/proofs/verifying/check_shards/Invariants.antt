use Rattle.std.proofs.Common.{◌≤◌}
use Rattle.cas_lasting.specs.Nodes.{files_in}
use Rattle.cas_sessions.specs.Verifying.{AreVerdicts, table_files}
use Rattle.cas_sessions.proofs.verifying.check_shards.Given as goal

abbrev pub invariant-loop-place : goal.invariant-loop-place
invariant-loop-place g l = record {
  said : AreVerdicts (table_files (files_in l.shards) l.place l.table) l.verdicts.items;
  count : g.S.Tally.Count.number l.initial.tally ≤ g.S.Tally.Count.number l.tally;
}
