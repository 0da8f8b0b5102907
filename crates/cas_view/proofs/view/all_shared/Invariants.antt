use Rattle.std.proofs.Common.{◌≡◌, take}
use Rattle.cas_view.specs.Views.{files_of}
use Rattle.cas_view.proofs.view.all_shared.Given as goal

abbrev pub invariant-loop-file : goal.invariant-loop-file
invariant-loop-file g l = files_of l.files.items ≡ files_of (take l.file-index l.from)
