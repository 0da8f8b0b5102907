use Rattle.std.proofs.Common.{◌≡◌, Some, arith, refl, sym, subst}
use Rattle.std.specs.Prelude.{slice_get}
use Rattle.std.proofs.lemmas.Option.{slice_get_read}
use Rattle.cas_sessions.specs.Inner.Verifying.{AreNarrow}
use Rattle.cas_sessions.proofs.Verdicts.{later_unread, shard_added}
use Rattle.cas_sessions.proofs.verifying.check_shards.Goals as goal

pub check_files-requires : goal.check_files-requires
check_files-requires g c =
    let x = c.index-shards-place.result in
    let at : slice_get c.args.shards.now c.loop-place.place ≡ Some x =
    slice_get_read c.args.shards.now _ c.loop-place.place x refl c.loop-place-test.true c.index-shards-place.is in
    record { narrow = subst AreNarrow (sym c.files-files.ensures) (c.requires.narrow c.loop-place.place x at) }

pub returns-in-Err-clause-why : goal.returns-in-Err-clause-why
returns-in-Err-clause-why g c = later_unread _ _ _ c.in-Err.fault c.loop-place.invariant.count c.in-Err.ensures.why

pub loop-place-preserved : goal.loop-place-preserved
loop-place-preserved g c =
    let x = c.index-shards-place.result in
    let at : slice_get c.args.shards.now c.loop-place.place ≡ Some x =
    slice_get_read c.args.shards.now _ c.loop-place.place x refl c.loop-place-test.true c.index-shards-place.is in
    record {
      said =
          shard_added c.args.shards.now c.loop-place.place c.args.table x _ c.loop-place.verdicts.items c.check_files.new.verdicts.items at
          c.files-files.ensures c.loop-place.invariant.said c.in-Ok.ensures.checked;
      count = omega (arith, c.loop-place.invariant.count, c.check_files.ensures.count);
    }
