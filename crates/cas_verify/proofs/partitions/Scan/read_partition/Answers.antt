use Rattle.std.proofs.Common.{◌≡◌, ℕ, ◌≤◌, List, [], ◌∷◌, ◌++◌, length, refl, sym, ap, subst, ◌∙◌, arith}
use Rattle.std.specs.Option.{option_copied}
use Rattle.std.specs.List.{All}
use Rattle.std.proofs.lemmas.Result.{err_from_is_err_and}
use Rattle.std.proofs.lemmas.List.Elements.{All-same, All-push}
use Rattle.cas_bounds.specs.ClusteringOrder.{clustering_order}
use Rattle.cas_facts.specs.Told.{all_told}
use Rattle.cas_facts.specs.declared.facts.Tally.{Tally}
use Rattle.cas_fragments.specs.Inner.Lasts.{last_key}
use Rattle.cas_fragments.specs.Laws.{static_of}
use Rattle.cas_index.specs.Allowed.{HasRoom, HasRooms}
use Rattle.cas_index.specs.declared.entries.BlockEntry.{BlockEntry}
use Rattle.cas_index.specs.declared.entries.PartitionEntry.{PartitionEntry}
use Rattle.cas_blocks.specs.Reading.{left_at}
use Rattle.cas_verify.specs.Inner.Walks.{Sees, IsBegun}
use Rattle.cas_verify.specs.Inner.Scans.{next_head_at, key_before}
use Rattle.cas_verify.specs.declared.blocks.Walk.{Walk}
use Rattle.cas_verify.specs.declared.partitions.Scan.{Scan}
use Rattle.cas_verify.proofs.Rounds.{head_refused, part_refused, part_read}
use Rattle.cas_verify.proofs.partitions.Scan.read_partition.Goals as goal

pub returns-in_err-head-clause-told : goal.returns-in_err-head-clause-told
returns-in_err-head-clause-told g c = λ b is.
    let cols = c.args.table.now.columns in
    let s = c.args.self.now in
    let same : option_copied c.last_key-before.result ≡ key_before s = c.last_key-before.ensures ∙ ap (last_key (λ (e : PartitionEntry). e.key)) c.deref.ensures.value in
    let p = err_from_is_err_and c.from_residual.result c.from_residual.ensures.1 in
    rw (p.1, p.2) (head_refused c.args.table.now.kept.version (clustering_order cols) cols c.args.table.now.kept.end b c.args.table.now.info.number s (option_copied c.last_key-before.result)
    c.in_err-head.field-0.0 same (c.in_err-head.ensures.told b is))

pub returns-in-Err-clause-told : goal.returns-in-Err-clause-told
returns-in-Err-clause-told g c = λ b is.
    let cols = c.args.table.now.columns in
    let end = c.args.table.now.kept.end in
    let s = c.args.self.now in
    let h = c.in_ok-head.head in
    let behind = c.in_ok-head.behind in
    let same : option_copied c.last_key-before.result ≡ key_before s = c.last_key-before.ensures ∙ ap (last_key (λ (e : PartitionEntry). e.key)) c.deref.ensures.value in
    let begun = c.behind_head-walk.ensures.begun in
    let w0 = c.behind_head-walk.result in
    let w : Walk =
    record { place = w0.place; ends = w0.ends; goes_on = w0.goes_on; last = w0.last; force = w0.force; entries = w0.entries; seen = c.see_head.new.seen } in
    let now : IsBegun h behind w.seen w =
    record { place_is = begun.place_is; ends = begun.ends; goes_on = begun.goes_on; reached_is = begun.reached_is; entries = begun.entries; seen_is = refl } in
    let t = c.in_ok-head.ensures.told b is in
    let n : ℕ = length (left_at b end behind).bytes in
    let few : length (left_at b end w.place).bytes ≤ n = omega (arith, ap (λ (place : ℕ). length (left_at b end place).bytes) begun.place_is) in
    part_refused c.args.table.now.kept.version (clustering_order cols) cols end b c.args.table.now.info.number s h behind w t.0
    (ap (λ k. next_head_at c.args.table.now.kept.version cols k (left_at b end s.place)) (sym same) ∙ t.1) t.2 now c.in-Err.fault
    (c.in-Err.ensures.told b is n few)

pub returns-clause-told : goal.returns-clause-told
returns-clause-told g c = λ b is.
    let cols = c.args.table.now.columns in
    let end = c.args.table.now.kept.end in
    let s = c.args.self.now in
    let h = c.in_ok-head.head in
    let behind = c.in_ok-head.behind in
    let same : option_copied c.last_key-before.result ≡ key_before s = c.last_key-before.ensures ∙ ap (last_key (λ (e : PartitionEntry). e.key)) c.deref.ensures.value in
    let begun = c.behind_head-walk.ensures.begun in
    let w0 = c.behind_head-walk.result in
    let w : Walk =
    record { place = w0.place; ends = w0.ends; goes_on = w0.goes_on; last = w0.last; force = w0.force; entries = w0.entries; seen = c.see_head.new.seen } in
    let now : IsBegun h behind w.seen w =
    record { place_is = begun.place_is; ends = begun.ends; goes_on = begun.goes_on; reached_is = begun.reached_is; entries = begun.entries; seen_is = refl } in
    let x = c.read_blocks.new.self in
    let u : Scan = record { place = x.place; entries = c.push.new.self; seen = x.seen } in
    let t = c.in_ok-head.ensures.told b is in
    let n : ℕ = length (left_at b end behind).bytes in
    let few : length (left_at b end w.place).bytes ≤ n = omega (arith, ap (λ (place : ℕ). length (left_at b end place).bytes) begun.place_is) in
    let went = c.in-Ok.ensures.told b is n few in
    let sees : Sees s.seen (all_told h.top (static_of h.columns)) w.seen =
    subst (λ (y : Tally). Sees y (all_told h.top (static_of h.columns)) w.seen) begun.seen_is c.see_head.ensures in
    part_read c.args.table.now.kept.version (clustering_order cols) cols end b c.args.table.now.info.number s h behind w t.0
    (ap (λ k. next_head_at c.args.table.now.kept.version cols k (left_at b end s.place)) (sym same) ∙ t.1) t.2 now x u went.0 went.1 went.2 sees refl refl
    (subst (λ (es : List BlockEntry). u.entries.items ≡ s.entries.items ++ record { key = h.key; place = s.place; blocks = es } ∷ []) c.from_vec.ensures
    c.in_ok-push.ensures.items)

pub returns-clause-rooms : goal.returns-clause-rooms
returns-clause-rooms g c =
    let s = c.args.self.now in
    let x = c.read_blocks.new.self in
    let sound = c.in-Ok.ensures.sound in
    let e : PartitionEntry = record { key = c.in_ok-head.head.key; place = s.place; blocks = c.from_vec.result } in
    let has : HasRooms e = record {
      key = c.in_ok-head.ensures.key;
      few = omega (arith, sound.few, c.in-Ok.ensures.within, ap length c.from_vec.ensures);
      blocks = subst (λ (es : List BlockEntry). All HasRoom es) (sym c.from_vec.ensures) sound.rooms;
    } in
    All-same HasRooms c.push.new.self.items (s.entries.items ++ e ∷ []) c.in_ok-push.ensures.items (All-push HasRooms s.entries.items e c.requires.rooms has)
