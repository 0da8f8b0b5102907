use Rattle.std.proofs.Common.{◌≡◌, take}
use Rattle.cas_terms.specs.Terms.{literal_values}
use Rattle.cas_terms.proofs.elements.literal_values.Given as goal

abbrev pub invariant-loop-element : goal.invariant-loop-element
invariant-loop-element l = l.values.items ≡ literal_values l.tag (take l.element-index l.elements)
