use Rattle.std.proofs.Common.{◌≡◌, [], fold}
use Rattle.cas_terms.specs.Terms.{with_entry}
use Rattle.cas_terms.proofs.elements.by_path.Given as goal

abbrev pub invariant-loop-path : goal.invariant-loop-path
invariant-loop-path l = l.placed.entries ≡ fold with_entry [] l.yielded
