use Rattle.std.proofs.Common.{◌≡◌, ◌∙◌, ◌++◌, Some, length, sym, ap}
use Rattle.std.specs.Prelude.{slice_get}
use Rattle.std.proofs.lemmas.List.{length-map}
use Rattle.std.proofs.lemmas.Option.{same_Some, slice_get_read}
use Rattle.std.specs.Arc.{arc_value}
use Rattle.cas_disk.proofs.Moments.{no_call}
use Rattle.cas_shard.specs.Flushing.{bytes_at, frozen_at}
use Rattle.cas_shard.specs.Stands.{ShardState}
use Rattle.cas_recovery.proofs.Places.{get_here}
use Rattle.cas_lasting.specs.Listing.{SameUpTo}
use Rattle.cas_lasting.proofs.Filled.{filled_new, filled_still}
use Rattle.cas_lasting.proofs.Filing.{still_readable, still_unmade}
use Rattle.cas_sessions.proofs.FlushShard.{quiet_one}
use Rattle.cas_sessions.proofs.FlushSound.{still_remembers}
use Rattle.cas_lasting.proofs.Sounding.{sound_looked}
use Rattle.cas_sessions.proofs.node.Node.freeze.Goals as goal

pub invariant_of-self : goal.invariant_of-self
invariant_of-self g c =
    let xs = c.args.self.now.shards.items in
    let x = c.index_mut-shard.result.now in
    let y = c.freeze.new.self in
    let at_x : slice_get xs c.args.place ≡ Some x = slice_get_read xs c.args.self.now.limits.shards c.args.place x (sym c.args.self.now.sound.count) c.requires.within c.index_mut-shard.ensures.value in
    record {
      sound = sound_looked _ _ _ _ _ _ c.args.place x y c.args.self.now.sound at_x c.freeze.ensures.number;
      readable = still_readable _ xs c.args.place x y c.args.self.now.readable at_x c.freeze.ensures.files;
      unmade = still_unmade _ xs c.args.place x y c.args.self.now.unmade at_x c.freeze.ensures.files;
      kept = still_remembers c.args.self.now.tables.items xs c.args.place x y c.args.self.now.kept at_x
          (λ table has. (has.0, λ more. c.freeze.ensures.memory (c.args.self.now.tables.items ++ more) table has.0 (has.1 more)));
      seated = c.args.self.now.seated;
      unlisted = c.args.self.now.unlisted;
    }

pub invariant_of-self-in-Err : goal.invariant_of-self-in-Err
invariant_of-self-in-Err g c =
    let xs = c.args.self.now.shards.items in
    let x = c.index_mut-shard.result.now in
    let y = c.freeze.new.self in
    let at_x : slice_get xs c.args.place ≡ Some x = slice_get_read xs c.args.self.now.limits.shards c.args.place x (sym c.args.self.now.sound.count) c.requires.within c.index_mut-shard.ensures.value in
    record {
      sound = sound_looked _ _ _ _ _ _ c.args.place x y c.args.self.now.sound at_x c.freeze.ensures.number;
      readable = still_readable _ xs c.args.place x y c.args.self.now.readable at_x c.freeze.ensures.files;
      unmade = still_unmade _ xs c.args.place x y c.args.self.now.unmade at_x c.freeze.ensures.files;
      kept = still_remembers c.args.self.now.tables.items xs c.args.place x y c.args.self.now.kept at_x
          (λ table has. (has.0, λ more. c.freeze.ensures.memory (c.args.self.now.tables.items ++ more) table has.0 (has.1 more)));
      seated = c.args.self.now.seated;
      unlisted = c.args.self.now.unlisted;
    }

pub returns-in-Ok-clause-quiet : goal.returns-in-Ok-clause-quiet
returns-in-Ok-clause-quiet g c = λ session calls clock.
    let xs = c.args.self.now.shards.items in
    let x = c.index_mut-shard.result.now in
    let at_x : slice_get xs c.args.place ≡ Some x = slice_get_read xs c.args.self.now.limits.shards c.args.place x (sym c.args.self.now.sound.count) c.requires.within c.index_mut-shard.ensures.value in
    quiet_one _ _ c.args.place x c.freeze.new.self at_x
    (record { number = c.freeze.ensures.number; files = c.freeze.ensures.files; stands = c.freeze.ensures.stands; memory = c.freeze.ensures.memory })

pub returns-in-Err-clause-quiet : goal.returns-in-Err-clause-quiet
returns-in-Err-clause-quiet g c = λ session calls clock.
    let xs = c.args.self.now.shards.items in
    let x = c.index_mut-shard.result.now in
    let at_x : slice_get xs c.args.place ≡ Some x = slice_get_read xs c.args.self.now.limits.shards c.args.place x (sym c.args.self.now.sound.count) c.requires.within c.index_mut-shard.ensures.value in
    quiet_one _ _ c.args.place x c.freeze.new.self at_x
    (record { number = c.freeze.ensures.number; files = c.freeze.ensures.files; stands = c.freeze.ensures.stands; memory = c.freeze.ensures.memory })

pub returns-in-Ok-clause-frozen : goal.returns-in-Ok-clause-frozen
returns-in-Ok-clause-frozen g c = λ z there.
    let xs = c.args.self.now.shards.items in
    let x = c.index_mut-shard.result.now in
    let y = c.freeze.new.self in
    let at_x : slice_get xs c.args.place ≡ Some x = slice_get_read xs c.args.self.now.limits.shards c.args.place x (sym c.args.self.now.sound.count) c.requires.within c.index_mut-shard.ensures.value in
    let same : y ≡ z = same_Some y z (sym (get_here xs c.args.place x y at_x) ∙ there) in (
      sym (length-map c.frozen.result.now arc_value) ∙ ap length c.frozen.ensures ∙ ap (λ (w : ShardState). length (frozen_at (slice_get w.stores c.args.table))) same,
      ap (λ (w : ShardState). bytes_at (slice_get w.stores c.args.table)) (sym same) ∙ c.in-Ok.ensures.begun,
    )

pub returns-in-Ok-clause-tables : goal.returns-in-Ok-clause-tables
returns-in-Ok-clause-tables g c = no_call (SameUpTo c.args.self.now.room.numbers.last) _

pub returns-in-Err-clause-tables : goal.returns-in-Err-clause-tables
returns-in-Err-clause-tables g c = no_call (SameUpTo c.args.self.now.room.numbers.last) _

pub returns-in-Ok-clause-begun : goal.returns-in-Ok-clause-begun
returns-in-Ok-clause-begun g c = λ filled full.
    let xs = c.args.self.now.shards.items in
    let x = c.index_mut-shard.result.now in
    let at_x : slice_get xs c.args.place ≡ Some x = slice_get_read xs c.args.self.now.limits.shards c.args.place x (sym c.args.self.now.sound.count) c.requires.within c.index_mut-shard.ensures.value in
    filled_new filled xs c.args.place x c.freeze.new.self at_x full c.args.table c.in-Ok.ensures.begun c.freeze.ensures.others

pub returns-in-Err-clause-stays : goal.returns-in-Err-clause-stays
returns-in-Err-clause-stays g c = λ filled full.
    let xs = c.args.self.now.shards.items in
    let x = c.index_mut-shard.result.now in
    let at_x : slice_get xs c.args.place ≡ Some x = slice_get_read xs c.args.self.now.limits.shards c.args.place x (sym c.args.self.now.sound.count) c.requires.within c.index_mut-shard.ensures.value in
    filled_still filled xs c.args.place x c.freeze.new.self at_x full c.in-Err.ensures.stays
