use Rattle.std.proofs.Common.{◌≤◌, take}
use Rattle.cas_view.specs.Views.{files_of}
use Rattle.cas_sessions.specs.Inner.Verifying.{AddVerdicts}
use Rattle.cas_sessions.proofs.verifying.check_files.Given as goal

abbrev pub invariant-loop-file : goal.invariant-loop-file
invariant-loop-file g l = record {
  said : AddVerdicts (files_of (take l.file-index l.files)) l.initial.verdicts.items l.verdicts.items;
  count : g.S.Tally.Count.number l.initial.tally ≤ g.S.Tally.Count.number l.tally;
}
