use Rattle.std.proofs.Common.{◌≡◌, ◌<◌, [], ◌∷◌, ◌++◌, length, Some, refl, sym, ap, ◌∙◌, arith, subst}
use Rattle.std.proofs.lemmas.Option.{slice_get-get_or}
use Rattle.std.specs.Prelude.{slice_get}
use Rattle.cas_recovery.specs.Found.{found_in}
use Rattle.cas_recovery.specs.Inner.Restoring.{HaveRestored}
use Rattle.cas_recovery.proofs.Restoring.{above_here, belongs_here, belongs_too, front_given, more_filled, more_remembered, more_restored, one_keeps_none}
use Rattle.cas_recovery.proofs.all_shards.AllShards.restore.Goals as goal

pub returns : goal.returns
returns g c before has =
    let m = c.args.mutation in
    let xs = c.self.inside.shards.items in
    let x = c.index_mut.result.now in
    let within : m.shard < length xs = omega (arith, c.self.invariant) in
    let there : slice_get xs m.shard ≡ Some x = slice_get-get_or xs m.shard x within ∙ ap (λ y. Some y) (sym c.index_mut.ensures.value) in
    let had : HaveRestored before xs = subst (HaveRestored before) (sym c.self.view_is) has in (
      one_keeps_none xs m.shard x c.restore.new.self had.0 there c.restore.ensures.files,
      λ tables count given.
          let were = had.1 tables count (front_given tables count before m [] (before ++ m ∷ []) refl given) in
          more_restored tables before m xs x c.restore.new.self were there
          (c.in_ok-restore.ensures.stands tables count (found_in m.shard before) (were m.shard x there) (belongs_here tables count before m [] (before ++ m ∷ []) refl given)
          (above_here tables count before m [] (before ++ m ∷ []) refl given)),
      λ tables count given.
          let were = had.2 tables count (front_given tables count before m [] (before ++ m ∷ []) refl given) in
          more_remembered tables before m xs x c.restore.new.self were there
          (λ table ws k more. c.in_ok-restore.ensures.memory (tables ++ more) count table ws
          (belongs_too tables more count m (belongs_here tables count before m [] (before ++ m ∷ []) refl given)) (k more)),
      more_filled before m xs x c.restore.new.self had.3 there c.in_ok-restore.ensures.bytes,
    )
