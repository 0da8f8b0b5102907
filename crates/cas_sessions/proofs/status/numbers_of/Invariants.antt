use Rattle.std.proofs.Common.{◌≡◌, map, take}
use Rattle.cas_view.specs.Views.{files_of}
use Rattle.cas_sessions.proofs.status.numbers_of.Given as goal

abbrev pub invariant-loop-file : goal.invariant-loop-file
invariant-loop-file g l = l.numbers.items ≡ map (λ f. f.info.number) (files_of (take l.file-index l.files))
