use Rattle.std.proofs.Common.{◌≡◌, length, take}
use Rattle.cas_keys.proofs.key_terms.builder.Given as goal

abbrev pub invariant-loop-value : goal.invariant-loop-value
invariant-loop-value l = (l.builder.parts ≡ length l.values) × (l.builder.values ≡ take l.value-index l.values)
