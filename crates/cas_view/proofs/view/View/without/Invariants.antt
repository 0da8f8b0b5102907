use Rattle.std.proofs.Common.{◌≡◌, take}
use Rattle.cas_view.specs.Views.{files_of, all_but}
use Rattle.cas_view.proofs.view.View.without.Given as goal

abbrev pub invariant-loop-file : goal.invariant-loop-file
invariant-loop-file g l = files_of l.files.items ≡ all_but l.numbers (files_of (take l.file-index l.file-items))
