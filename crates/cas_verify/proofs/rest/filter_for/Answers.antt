use Rattle.std.proofs.Common.{◌≡◌, ◌*◌, ℕ, ◌/◌, [], ap, length, arith, ◌∙◌}
use Rattle.cas_filter.specs.Filters.{bits_for}
use Rattle.cas_filter.proofs.FilterLaws.{length_of}
use Rattle.cas_verify.proofs.rest.filter_for.Goals as goal

whole : (n : ℕ) → 8 * (bits_for n / 8) ≡ bits_for n
whole n = omega arith

pub loop-entry-init : goal.loop-entry-init
loop-entry-init c = record {
  keys = c.in_ok-filter.ensures;
  long = ap (λ f. 8 * length f) c.in_ok-filter.ensures ∙ ap (λ n. 8 * n) (length_of (bits_for (length c.args.entries.now)) []) ∙ whole (length c.args.entries.now);
}
