use Rattle.std.proofs.Common.{◌≡◌, ◌++◌, take}
use Rattle.std.specs.Prelude.{codes}
use Rattle.std.specs.List.{flat_map}
use Rattle.cas_render.specs.Text.{entry_text}
use Rattle.cas_render.proofs.collections.append_further_entries.Given as goal

abbrev pub invariant-loop-entry : goal.invariant-loop-entry
invariant-loop-entry l = l.out.items ≡ l.initial.out.items ++ flat_map (λ e. codes ", " ++ entry_text l.types.keys l.types.values e) (take l.entry-index l.entries)
