use Rattle.std.proofs.Common.{ℕ, ap, ◌∙◌}
use Rattle.cas_recovery.proofs.recovering.brought_back.Goals as goal

pub returns-clause-back : goal.returns-clause-back
returns-clause-back g c given has = record {
  same = c.with_shards.ensures ∙ ap (λ (n : ℕ). record c.args.limits.now { shards = n }) c.shards-2.ensures;
  tables_are = c.in_ok-tables.ensures ∙ c.tables.ensures;
  count = c.in_default.ensures.filled.length_is ∙ c.in_ok-shards.ensures.count ∙ c.shards.ensures;
  before = c.in_ok-shards.shards.items;
  restored = c.in_ok-shards.ensures.restored given has;
  filled = c.in_default.ensures.filled;
}
