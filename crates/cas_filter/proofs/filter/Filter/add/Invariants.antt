use Rattle.std.proofs.Common.{◌≡◌, ◌==◌, ◌||◌, ℕ, length}
use Rattle.std.specs.List.{list_any}
use Rattle.cas_filter.specs.Filters.{is_set}
use Rattle.cas_filter.proofs.FilterLaws.{first_probes}
use Rattle.cas_filter.proofs.filter.Filter.add.Given as goal

abbrev pub invariant-loop-number : goal.invariant-loop-number
invariant-loop-number l = record {
  long : length l.self ≡ length l.fn.self;
  bits : (p : ℕ) → is_set l.self p ≡ (is_set l.fn.self p || list_any (λ q. q == p) (first_probes l.bits l.hash l.number));
}
