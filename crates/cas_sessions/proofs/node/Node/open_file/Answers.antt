use Rattle.std.proofs.Common.{◌≡◌, ◌∙◌, ℕ, length, Some, Err, refl, sym, ap, subst, arith}
use Rattle.std.specs.Prelude.{slice_get}
use Rattle.std.proofs.lemmas.Option.{same_Some, slice_get_read}
use Rattle.cas_disk.specs.Disk.{MayBeAnything}
use Rattle.cas_disk.specs.declared.name.Name.TheVariants.{Table as table_name}
use Rattle.cas_sessions.proofs.FlushMaking.{one_more, why_not_loaded_as}
use Rattle.cas_lasting.proofs.Listing.{up_to_below}
use Rattle.cas_sessions.proofs.node.Node.open_file.Goals as goal

pub returns-in-Ok-view_of_flush-clause-view : goal.returns-in-Ok-view_of_flush-clause-view
returns-in-Ok-view_of_flush-clause-view g c = λ t x at_t at_x.
    let n = c.args.self.now in
    let sch = c.index-schema.result.now in
    let sh = c.index-shard.result.now in
    let at_sch : slice_get n.tables.items c.args.table ≡ Some sch = slice_get_read n.tables.items (length n.tables.items) c.args.table sch refl c.requires.within.0 c.index-schema.ensures in
    let at_sh : slice_get n.shards.items c.args.place ≡ Some sh = slice_get_read n.shards.items n.limits.shards c.args.place sh (sym n.sound.count) c.requires.within.1 c.index-shard.ensures in
    one_more n.tables.items n.shards.items t sch x sh c.args.table c.args.place at_t at_sch at_x at_sh n.sound.tables.numbered c.args.info.now
    (g.F.Sealed.Sealed.contents c.in-Ok.file) (g.F.Draft.Draft.written c.args.draft) _ _ c.in-Ok-view_of_flush.ensures.view c.in-Ok.ensures.holds
    (λ tells. c.in-Ok.ensures.told tells.0 tells.1)

pub returns-in-Err-view_of_flush-clause-why : goal.returns-in-Err-view_of_flush-clause-why
returns-in-Err-view_of_flush-clause-why g c = λ t at_t.
    let n = c.args.self.now in
    let sch = c.index-schema.result.now in
    let sh = c.index-shard.result.now in
    let at_sch : slice_get n.tables.items c.args.table ≡ Some sch = slice_get_read n.tables.items (length n.tables.items) c.args.table sch refl c.requires.within.0 c.index-schema.ensures in
    let at_sh : slice_get n.shards.items c.args.place ≡ Some sh = slice_get_read n.shards.items n.limits.shards c.args.place sh (sym n.sound.count) c.requires.within.1 c.index-shard.ensures in
    why_not_loaded_as t c.args.place c.args.info.now (g.F.Draft.Draft.written c.args.draft) _ _ _ _ _ c.in-Err-view_of_flush.fault c.fault_of_load.result sch
    (g.F.Sealed.Sealed.contents c.in-Ok.file) c.fault_of_load.ensures (same_Some sch t (sym at_sch ∙ at_t)) c.in-Ok.ensures.holds (λ tells. c.in-Ok.ensures.told tells.0 tells.1)
    c.in-Err-view_of_flush.ensures.why (λ e. c.view_of_flush.ensures.count.rose (c.in-Err-view_of_flush.is ∙ ap Err e))

pub returns-in-Err-clause-tables : goal.returns-in-Err-clause-tables
returns-in-Err-clause-tables g c = λ last above.
    up_to_below last (g.F.Draft.Draft.number c.args.draft) MayBeAnything _ _ (omega (arith, above, c.requires.fits.1)) c.admit.ensures.during

pub returns-in-Ok-view_of_flush-clause-tables : goal.returns-in-Ok-view_of_flush-clause-tables
returns-in-Ok-view_of_flush-clause-tables g c = λ last above.
    up_to_below last (g.F.Draft.Draft.number c.args.draft) MayBeAnything _ _ (omega (arith, above, c.requires.fits.1)) c.admit.ensures.during

pub returns-in-Err-view_of_flush-clause-tables : goal.returns-in-Err-view_of_flush-clause-tables
returns-in-Err-view_of_flush-clause-tables g c = λ last above.
    up_to_below last (g.F.Draft.Draft.number c.args.draft) MayBeAnything _ _ (omega (arith, above, c.requires.fits.1)) c.admit.ensures.during

pub returns-in-Ok-view_of_flush-clause-left : goal.returns-in-Ok-view_of_flush-clause-left
returns-in-Ok-view_of_flush-clause-left g c = λ i leaves.
    let (b, written, there) = c.in-Ok.ensures.stands i leaves in
    (b, written, subst (λ (k : ℕ). i (table_name k) ≡ Some b) c.requires.fits.1 there)

pub returns-in-Ok-view_of_flush-clause-stands : goal.returns-in-Ok-view_of_flush-clause-stands
returns-in-Ok-view_of_flush-clause-stands g c = λ i leaves.
    let (b, written, there) = c.in-Ok.ensures.stands i leaves in
    ((b, subst (λ (k : ℕ). i (table_name k) ≡ Some b) c.requires.fits.1 there), tt)
