use Rattle.std.proofs.Common.{◌≡◌, ◌∙◌, ℤ, Err, rules, of_z, to_z, w64, refl, sym, ap, subst}
use Rattle.std.proofs.lemmas.Int.{to_z-of_z}
use Rattle.std.proofs.lemmas.Option.{slice_get_read}
use Rattle.std.specs.Prelude.{slice_get}
use Rattle.cas_render.specs.declared.reply.Reply.TheVariants.{Rows}
use Rattle.cas_shard.specs.Shards.{look_at, raised}
use Rattle.cas_shard.specs.Stands.{Stands, files_at}
use Rattle.cas_lasting.proofs.Filing.{query_reads, still_readable, still_unmade}
use Rattle.cas_lasting.proofs.Remembering.{same_stores}
use Rattle.cas_lasting.proofs.Moving.{moves_look, shows_rows}
use Rattle.cas_sessions.proofs.Showing.{rose_by, shows_fault}
use Rattle.cas_lasting.proofs.Sounding.{sound_looked}
use Rattle.cas_sessions.specs.Calls.{reply_of}
use Rattle.cas_sessions.proofs.Telling.{true_of_read}
use Rattle.cas_disk.proofs.Moments.{no_call}
use Rattle.cas_journal.specs.Stores.{SameTables}
use Rattle.cas_lasting.proofs.Listing.{lists_nothing}
use Rattle.cas_lasting.proofs.Going.{numbers_raised}
use Rattle.cas_sessions.proofs.node.Node.read.Goals as goal

pub returns-in-Ok-clause-shows : goal.returns-in-Ok-clause-shows
returns-in-Ok-clause-shows g c = λ session calls clock.
    let n = c.args.self.now in
    let x = c.index_mut.result.now in
    let at = to_z-of_z w64 c.args.reading c.ranges.reading in
    let now : to_z w64 (of_z w64 c.in-Ok.look.now) ≡ c.in-Ok.look.now = search rules in
    moves_look _ _ c.args.read x c.look.new.self c.args.reading _ (Rows c.in-Ok.look.rows c.args.read.shard c.in-Ok.look.front (to_z w64 (of_z w64 c.in-Ok.look.now)))
    (slice_get_read n.shards.items n.limits.shards c.args.read.shard x (sym c.args.self.now.sound.count) c.requires.within.0 c.index_mut.ensures.value) c.look.ensures.number
    c.look.ensures.files c.look.ensures.count.kept (λ ts z stands. subst (λ (k : ℤ). Stands ts (raised k z) c.look.new.self) at (c.look.ensures.stands ts z stands))
    (λ z stands.
    shows_rows z c.args.reading (to_z w64 (of_z w64 c.in-Ok.look.now)) c.args.read c.in-Ok.look now
    (c.in-Ok.ensures.shows n.tables.items z stands c.requires.fits ∙ ap (λ (k : ℤ). look_at k z c.args.read.query) at))
    c.look.ensures.stores

pub returns-in-Err-clause-shows : goal.returns-in-Err-clause-shows
returns-in-Err-clause-shows g c = λ session calls clock.
    let n = c.args.self.now in
    let x = c.index_mut.result.now in
    let at = to_z-of_z w64 c.args.reading c.ranges.reading in
    moves_look _ _ c.args.read x c.look.new.self c.args.reading _ (reply_of (Err c.fault_of_table.result))
    (slice_get_read n.shards.items n.limits.shards c.args.read.shard x (sym c.args.self.now.sound.count) c.requires.within.0 c.index_mut.ensures.value) c.look.ensures.number
    c.look.ensures.files c.look.ensures.count.kept (λ ts z stands. subst (λ (k : ℤ). Stands ts (raised k z) c.look.new.self) at (c.look.ensures.stands ts z stands))
    (λ z stands.
    shows_fault (files_at (slice_get x.stores c.args.read.query.table)) _ _ z c.args.reading c.args.read c.in-Err.fault c.fault_of_table.result c.fault_of_table.ensures c.in-Err.ensures.why
    (rose_by c.look.result c.in-Err.fault _ _ c.in-Err.is c.look.ensures.count.rose) c.in-Err.ensures.memory)
    c.look.ensures.stores

pub returns-in-Err-clause-told : goal.returns-in-Err-clause-told
returns-in-Err-clause-told g c = λ s t. true_of_read c.in-Err.fault c.fault_of_table.result s t c.fault_of_table.ensures

-- each slice of its table may be read in the shard's files
pub look-requires-clause-reads : goal.look-requires-clause-reads
look-requires-clause-reads g c =
    let n = c.args.self.now in
    let x = c.index_mut.result.now in
    query_reads n.tables.items n.shards.items c.args.read.shard x c.args.read.query n.readable
    (slice_get_read n.shards.items n.limits.shards c.args.read.shard x (sym c.args.self.now.sound.count) c.requires.within.0 c.index_mut.ensures.value) c.requires.fits

pub invariant_of-self : goal.invariant_of-self
invariant_of-self g c =
    let n = c.args.self.now in
    let x = c.index_mut.result.now in
    let there = slice_get_read n.shards.items n.limits.shards c.args.read.shard x (sym c.args.self.now.sound.count) c.requires.within.0 c.index_mut.ensures.value in
    record {
      sound = sound_looked _ _ _ _ _ _ c.args.read.shard x c.look.new.self c.args.self.now.sound there c.look.ensures.number;
      readable = still_readable _ n.shards.items c.args.read.shard x c.look.new.self n.readable there c.look.ensures.files;
      unmade = still_unmade _ n.shards.items c.args.read.shard x c.look.new.self n.unmade there c.look.ensures.files;
      kept = same_stores _ n.shards.items c.args.read.shard x c.look.new.self n.kept there c.look.ensures.stores;
      seated = n.seated;
      unlisted = n.unlisted;
    }

pub returns-in-Ok-clause-tables : goal.returns-in-Ok-clause-tables
returns-in-Ok-clause-tables g c = no_call SameTables _

pub returns-in-Err-clause-tables : goal.returns-in-Err-clause-tables
returns-in-Err-clause-tables g c = no_call SameTables _

pub returns-in-Ok-clause-lists : goal.returns-in-Ok-clause-lists
returns-in-Ok-clause-lists g c = λ session calls clock. lists_nothing _ _

pub returns-in-Err-clause-lists : goal.returns-in-Err-clause-lists
returns-in-Err-clause-lists g c = λ session calls clock. lists_nothing _ _

pub returns-in-Ok-clause-numbers : goal.returns-in-Ok-clause-numbers
returns-in-Ok-clause-numbers g c = λ session calls clock.
    numbers_raised _ _ c.args.read.shard c.index_mut.result.now c.look.new.self
    (slice_get_read c.args.self.now.shards.items c.args.self.now.limits.shards c.args.read.shard c.index_mut.result.now (sym c.args.self.now.sound.count) c.requires.within.0 c.index_mut.ensures.value)
    refl refl c.look.ensures.number

pub returns-in-Err-clause-numbers : goal.returns-in-Err-clause-numbers
returns-in-Err-clause-numbers g c = λ session calls clock.
    numbers_raised _ _ c.args.read.shard c.index_mut.result.now c.look.new.self
    (slice_get_read c.args.self.now.shards.items c.args.self.now.limits.shards c.args.read.shard c.index_mut.result.now (sym c.args.self.now.sound.count) c.requires.within.0 c.index_mut.ensures.value)
    refl refl c.look.ensures.number
