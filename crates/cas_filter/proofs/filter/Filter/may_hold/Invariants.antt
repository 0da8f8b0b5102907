use Rattle.std.proofs.Common.{◌≡◌, true}
use Rattle.std.specs.List.{list_all}
use Rattle.cas_filter.specs.Filters.{is_set}
use Rattle.cas_filter.proofs.FilterLaws.{first_probes}
use Rattle.cas_filter.proofs.filter.Filter.may_hold.Given as goal

abbrev pub invariant-loop-number : goal.invariant-loop-number
invariant-loop-number l = list_all (is_set l.self) (first_probes l.bits l.hash l.number) ≡ true
