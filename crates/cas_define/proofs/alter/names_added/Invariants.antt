use Rattle.std.proofs.Common.{◌≡◌, take, map}
use Rattle.cas_define.proofs.alter.names_added.Given as goal

abbrev pub invariant-loop-column : goal.invariant-loop-column
invariant-loop-column l = l.names.items ≡ map (λ d. d.name) (take l.column-index l.added)
