use Rattle.std.proofs.Common.{ℕ, List, ap, sym, ◌∙◌, ◌≡◌, subst}
use Rattle.std.specs.Prelude.{IfOk, option_copied}
use Rattle.cas_reading.proofs.cache.find.Goals as goal

pub returns-clause-found : goal.returns-clause-found
returns-clause-found c = (
  c.in-Some.block.now,
  sym c.peek.ensures ∙ ap option_copied c.in-Some.is,
  subst (λ (xs : List ℕ). IfOk c.from_slice-copy.result (λ copy. copy.items ≡ xs)) c.deref.ensures.value c.from_slice-copy.ensures.items,
)
