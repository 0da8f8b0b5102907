use Rattle.std.proofs.Common.{◌≡◌, take}
use Rattle.std.specs.List.{filter_map}
use Rattle.cas_terms.specs.Terms.{entry_value}
use Rattle.cas_terms.proofs.elements.entry_values.Given as goal

abbrev pub invariant-loop-entry : goal.invariant-loop-entry
invariant-loop-entry l = l.found.items ≡ filter_map (entry_value l.keys l.values) (take l.entry-index l.entries)
