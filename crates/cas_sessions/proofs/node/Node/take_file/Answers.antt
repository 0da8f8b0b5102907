use Rattle.std.proofs.Common.{◌≡◌, ◌<◌, ◌∙◌, ℕ, pos, length, Some, refl, sym, ap, subst, arith}
use Rattle.std.specs.Arc.{arc_value}
use Rattle.std.specs.Prelude.{slice_get}
use Rattle.std.proofs.lemmas.Option.{same_Some, slice_get_read}
use Rattle.cas_types.specs.Limits.{IsNarrow}
use Rattle.cas_shard.specs.Stands.{ShardState}
use Rattle.cas_lasting.specs.Inner.Going.{AddsFile}
use Rattle.cas_sessions.specs.Inner.Flushing.{NewFile}
use Rattle.cas_sessions.proofs.FlushShard.{Swapped, ok_goes, swapped_has, takes_file_at, takes_none_as}
use Rattle.cas_sessions.proofs.FlushSound.{all_at, numbered, readable_flushed, still_remembers, unmade_flushed}
use Rattle.cas_lasting.proofs.Parts.{there_at}
use Rattle.cas_lasting.proofs.Sounding.{sound_looked}
use Rattle.cas_sessions.proofs.node.Node.take_file.Goals as goal

pub install_change-requires-clause-adds : goal.install_change-requires-clause-adds
install_change-requires-clause-adds g c =
    let n = c.args.self.now in
    let sh = c.index.result.now in
    let at_sh : slice_get n.shards.items c.args.place ≡ Some sh = slice_get_read n.shards.items n.limits.shards c.args.place sh (sym n.sound.count) c.requires.within.1 c.index.ensures in
    let here = there_at n.tables.items c.args.table c.requires.within.0 in
    let is = c.in-Ok.ensures in
    let adds : AddsFile n.tables.items n.shards.items c.args.place c.args.info.number c.in-Ok.change = record {
      told = c.args.info;
      x = sh;
      there = at_sh;
      is = record { of_table = refl; of_shard = is.of_shard; moment = is.moment; frontier = is.frontier; drawn = is.drawn; removed = is.removed; added = is.added };
      table = subst (λ (k : ℕ). k < length n.tables.items) (sym is.of_table) c.requires.within.0;
      fits = (c.requires.new here.0 sh here.1 at_sh).fits;
      numbered = refl;
    } in
    (c.in-Ok.change, refl, adds)

pub returns-in-Err-install_change-clause-takes : goal.returns-in-Err-install_change-clause-takes
returns-in-Err-install_change-clause-takes g c = λ clock t x at_t at_x new.
    let n = c.args.self.now in
    let sh = c.index.result.now in
    let at_sh : slice_get n.shards.items c.args.place ≡ Some sh = slice_get_read n.shards.items n.limits.shards c.args.place sh (sym n.sound.count) c.requires.within.1 c.index.ensures in
    let here = there_at n.tables.items c.args.table c.requires.within.0 in
    let is = c.in-Ok.ensures in
    let adds : AddsFile n.tables.items n.shards.items c.args.place c.args.info.number c.in-Ok.change = record {
      told = c.args.info;
      x = sh;
      there = at_sh;
      is = record { of_table = refl; of_shard = is.of_shard; moment = is.moment; frontier = is.frontier; drawn = is.drawn; removed = is.removed; added = is.added };
      table = subst (λ (k : ℕ). k < length n.tables.items) (sym is.of_table) c.requires.within.0;
      fits = (c.requires.new here.0 sh here.1 at_sh).fits;
      numbered = refl;
    } in
    let number : t.number ≡ c.args.table = numbered 0 n.tables.items c.args.table t n.sound.tables.numbered at_t ∙ omega arith in
    takes_none_as t c.args.place c.args.info.number c.args.table _ _ _ _ c.in-Ok.change x c.args.info (arc_value c.args.view) _ c.in-Err-install_change.fault c.fault_for.result number
    at_t n.sound.count c.requires.going at_x adds (same_Some sh x (sym at_sh ∙ at_x)) refl is.of_table new (c.requires.frozen x at_x).2 c.requires.room.1 c.requires.room.0
    (c.in-Err-install_change.ensures.lists clock c.in-Ok.change refl) c.fault_for.ensures

pub swap-requires-clause-some : goal.swap-requires-clause-some
swap-requires-clause-some g c =
    let m = c.install_change.new.self in
    let y = c.index_mut-shard.result.now in
    let low : c.args.place < m.limits.shards = subst (λ l. c.args.place < l.shards) (sym c.install_change.ensures.same.1) c.requires.within.1 in
    let at_y : slice_get m.shards.items c.args.place ≡ Some y = slice_get_read m.shards.items m.limits.shards c.args.place y (sym m.sound.count) low c.index_mut-shard.ensures.value in
    let was_y : slice_get c.args.self.now.shards.items c.args.place ≡ Some y = ap (λ xs. slice_get xs.items c.args.place) (sym c.install_change.ensures.same.0) ∙ at_y in
    let frozen = c.requires.frozen y was_y in
    frozen.0

pub swap-requires-clause-there : goal.swap-requires-clause-there
swap-requires-clause-there g c =
    let m = c.install_change.new.self in
    let y = c.index_mut-shard.result.now in
    let low : c.args.place < m.limits.shards = subst (λ l. c.args.place < l.shards) (sym c.install_change.ensures.same.1) c.requires.within.1 in
    let at_y : slice_get m.shards.items c.args.place ≡ Some y = slice_get_read m.shards.items m.limits.shards c.args.place y (sym m.sound.count) low c.index_mut-shard.ensures.value in
    let was_y : slice_get c.args.self.now.shards.items c.args.place ≡ Some y = ap (λ xs. slice_get xs.items c.args.place) (sym c.install_change.ensures.same.0) ∙ at_y in
    let frozen = c.requires.frozen y was_y in
    omega (arith, frozen.1)

pub invariant_of-self : goal.invariant_of-self
invariant_of-self g c =
    let m = c.install_change.new.self in
    let y = c.index_mut-shard.result.now in
    let low : c.args.place < m.limits.shards = subst (λ l. c.args.place < l.shards) (sym c.install_change.ensures.same.1) c.requires.within.1 in
    let at_y : slice_get m.shards.items c.args.place ≡ Some y = slice_get_read m.shards.items m.limits.shards c.args.place y (sym m.sound.count) low c.index_mut-shard.ensures.value in
    let was_y : slice_get c.args.self.now.shards.items c.args.place ≡ Some y = ap (λ xs. slice_get xs.items c.args.place) (sym c.install_change.ensures.same.0) ∙ at_y in
    let frozen = c.requires.frozen y was_y in
    let swapped : Swapped c.args.table c.args.count (arc_value c.args.view) y c.swap.new.self = record {
      stands = c.swap.ensures.stands;
      files_are = c.swap.ensures.files;
      memory = c.swap.ensures.memory;
      emptied = c.swap.ensures.emptied;
      others = c.swap.ensures.others;
      bytes = c.swap.ensures.bytes;
      number = c.swap.ensures.number;
    } in
    let low_t : c.args.table < length m.tables.items = subst (λ ts. c.args.table < length ts.items) (sym c.install_change.ensures.same.2) c.requires.within.0 in
    let here = there_at m.tables.items c.args.table low_t in
    let t = here.0 in
    let was_t : slice_get c.args.self.now.tables.items c.args.table ≡ Some t = ap (λ ts. slice_get ts.items c.args.table) (sym c.install_change.ensures.same.2) ∙ here.1 in
    let number : t.number ≡ c.args.table = numbered 0 m.tables.items c.args.table t m.sound.tables.numbered here.1 ∙ omega arith in
    let new : NewFile t (slice_get y.stores t.number) c.args.info (arc_value c.args.view) =
    subst (λ (k : ℕ). NewFile t (slice_get y.stores k) c.args.info (arc_value c.args.view)) (sym number) (c.requires.new t y was_t was_y) in
    let its : Swapped t.number c.args.count (arc_value c.args.view) y c.swap.new.self = subst (λ (k : ℕ). Swapped k c.args.count (arc_value c.args.view) y c.swap.new.self) (sym number) swapped in
    let at_t : slice_get m.tables.items t.number ≡ Some t = subst (λ (k : ℕ). slice_get m.tables.items k ≡ Some t) (sym number) here.1 in
    let narrow : IsNarrow t.columns = all_at (λ v. IsNarrow v.columns) m.tables.items c.args.table t m.sound.tables.narrow here.1 in
    record {
      sound = sound_looked _ _ _ _ _ _ c.args.place y c.swap.new.self m.sound at_y c.swap.ensures.number;
      readable = readable_flushed m.tables.items m.shards.items c.args.place c.args.count y c.swap.new.self t (arc_value c.args.view) c.args.info at_t narrow at_y new its m.readable;
      unmade =
          unmade_flushed m.tables.items m.shards.items c.args.place c.args.count y c.swap.new.self t (arc_value c.args.view) c.args.info at_t narrow at_y new its
          (subst (λ (k : ℕ). k < length m.tables.items) (sym number) low_t) m.unmade;
      kept =
          still_remembers m.tables.items m.shards.items c.args.place y c.swap.new.self m.kept at_y
          (λ k has. swapped_has m.tables.items c.args.table c.args.count (arc_value c.args.view) y c.swap.new.self swapped frozen.1 frozen.2 k has);
      seated = m.seated;
      unlisted = m.unlisted;
    }

pub returns-clause-takes : goal.returns-clause-takes
returns-clause-takes g c = λ clock t x at_t at_x new.
    let n = c.args.self.now in
    let sh = c.index.result.now in
    let at_sh : slice_get n.shards.items c.args.place ≡ Some sh = slice_get_read n.shards.items n.limits.shards c.args.place sh (sym n.sound.count) c.requires.within.1 c.index.ensures in
    let here = there_at n.tables.items c.args.table c.requires.within.0 in
    let is = c.in-Ok.ensures in
    let adds : AddsFile n.tables.items n.shards.items c.args.place c.args.info.number c.in-Ok.change = record {
      told = c.args.info;
      x = sh;
      there = at_sh;
      is = record { of_table = refl; of_shard = is.of_shard; moment = is.moment; frontier = is.frontier; drawn = is.drawn; removed = is.removed; added = is.added };
      table = subst (λ (k : ℕ). k < length n.tables.items) (sym is.of_table) c.requires.within.0;
      fits = (c.requires.new here.0 sh here.1 at_sh).fits;
      numbered = refl;
    } in
    let m = c.install_change.new.self in
    let y = c.index_mut-shard.result.now in
    let low : c.args.place < m.limits.shards = subst (λ l. c.args.place < l.shards) (sym c.install_change.ensures.same.1) c.requires.within.1 in
    let at_y : slice_get m.shards.items c.args.place ≡ Some y = slice_get_read m.shards.items m.limits.shards c.args.place y (sym m.sound.count) low c.index_mut-shard.ensures.value in
    let was_y : slice_get c.args.self.now.shards.items c.args.place ≡ Some y = ap (λ xs. slice_get xs.items c.args.place) (sym c.install_change.ensures.same.0) ∙ at_y in
    let frozen = c.requires.frozen y was_y in
    let swapped : Swapped c.args.table c.args.count (arc_value c.args.view) y c.swap.new.self = record {
      stands = c.swap.ensures.stands;
      files_are = c.swap.ensures.files;
      memory = c.swap.ensures.memory;
      emptied = c.swap.ensures.emptied;
      others = c.swap.ensures.others;
      bytes = c.swap.ensures.bytes;
      number = c.swap.ensures.number;
    } in
    let same : y ≡ x = same_Some y x (sym was_y ∙ at_x) in
    let number : t.number ≡ c.args.table = numbered 0 n.tables.items c.args.table t n.sound.tables.numbered at_t ∙ omega arith in
    takes_file_at t c.args.place c.args.info.number c.args.count c.args.table _ _ _ _ c.in-Ok.change x c.swap.new.self c.args.info (arc_value c.args.view) _ number at_t n.sound.count at_x
    c.requires.going adds (same_Some sh x (sym at_sh ∙ at_x)) refl is.of_table c.requires.room.1 new (c.in_default.ensures.lists clock c.in-Ok.change refl)
    (subst (λ (w : ShardState). Swapped c.args.table c.args.count (arc_value c.args.view) w c.swap.new.self) same swapped) (c.requires.frozen x at_x).1 (c.requires.frozen x at_x).2

pub returns-clause-going : goal.returns-clause-going
returns-clause-going g c = ok_goes _ _ _ _ _ (c.in_default.ensures.lists (pos 0) c.in-Ok.change refl).outcome c.requires.going
