use Rattle.std.proofs.Common.{sym, ap, ◌∙◌}
use Rattle.std.specs.BTreeMap.{is_at}
use Rattle.std.specs.Map.{set_value}
use Rattle.cas_partition.specs.Spots.{place_cmp}
use Rattle.cas_partition.proofs.RunLists.{place_set, place_none}
use Rattle.cas_partition.proofs.body.join_at.Goals as goal

pub returns-in-Some : goal.returns-in-Some
returns-in-Some c =
    (c.get_mut.follows.holds c.join.new.self).0 ∙ ap (set_value (is_at (place_cmp c.args.place.now)) c.args.places.now.entries) c.join.ensures
    ∙ place_set c.args.place.now c.in-Some.there.now c.args.content c.args.places.now.entries (sym c.in-Some.ensures.value)

pub returns-in_default : goal.returns-in_default
returns-in_default c =
    ap (λ m. m.entries) c.get_mut.follows.holds-at-none ∙ place_none c.args.place.now c.args.content c.args.places.now.entries (sym c.in_default.ensures.value)
