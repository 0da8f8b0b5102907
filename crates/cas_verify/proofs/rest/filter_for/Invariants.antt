use Rattle.std.proofs.Common.{◌≡◌, ◌*◌, map, take, length}
use Rattle.cas_filter.specs.Filters.{bits_for, filter_of}
use Rattle.cas_verify.proofs.rest.filter_for.Given as goal

abbrev pub invariant-loop-entry : goal.invariant-loop-entry
invariant-loop-entry l = record {
  keys : l.filter ≡ filter_of (bits_for (length l.entries)) (map (λ e. e.key) (take l.entry-index l.entries));
  long : 8 * length l.filter ≡ bits_for (length l.entries);
}
