use Rattle.std.proofs.Common.{◌≡◌, ◌∙◌, List, Option, Some, sym, subst}
use Rattle.cas_shard.specs.Stands.{ShardState}
use Rattle.cas_recovery.specs.Restored.{AreFilledBy, RememberAll}
use Rattle.cas_recovery.specs.Inner.Restoring.{AreRestored, HasRestored, HaveNoFiles, HaveRestored}
use Rattle.cas_recovery.proofs.Restoring.{first_filled, first_memory, first_no_files, first_restored}
use Rattle.cas_recovery.proofs.memory.restored.Goals as goal

pub returns-clause-restored : goal.returns-clause-restored
returns-clause-restored g c mutations has =
    let found = c.in-Some.is in
    let is : c.args.restoring.shards ≡ Some c.in-Some.all = cc in
    let were : HaveRestored mutations c.in-Some.all = subst (λ (o : Option (List ShardState)). HasRestored mutations o) is has in
    let same = c.all.view_is ∙ c.in-Some.all-is in (
      subst HaveNoFiles (sym c.truncate.ensures.items) (first_no_files c.args.count _ (subst HaveNoFiles (sym same) were.0)),
      λ tables count log.
          subst (λ (l : List ShardState). AreRestored tables mutations l) (sym c.truncate.ensures.items)
          (first_restored tables mutations c.args.count _ (subst (λ (a : List ShardState). AreRestored tables mutations a) (sym same) (were.1 tables count log))),
      λ tables count log.
          subst (λ (l : List ShardState). RememberAll tables mutations l) (sym c.truncate.ensures.items)
          (first_memory tables mutations c.args.count _ (subst (λ (a : List ShardState). RememberAll tables mutations a) (sym same) (were.2 tables count log))),
      subst (AreFilledBy mutations) (sym c.truncate.ensures.items) (first_filled mutations c.args.count _ (subst (AreFilledBy mutations) (sym same) were.3)),
    )
