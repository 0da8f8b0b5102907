use Rattle.std.proofs.Common.{◌∙◌, sym, subst}
use Rattle.cas_history.specs.Hands.{Owns}
use Rattle.cas_history.proofs.Parts.{owned}
use Rattle.cas_history.specs.Items.{items, changes_list, room_changes}
use Rattle.cas_history.proofs.Shares.{room_copies}
use Rattle.cas_lifecycle.proofs.laws.room_stands.Goals as goal

pub returns-clause-law : goal.returns-clause-law
returns-clause-law g c =
    let changes = c.args.changes.now in
    let room = c.args.room.now in
    let shown = c.look.ensures in
    let list = shown.known.0.1 (changes_list changes.shard) (owned items changes.pass (changes_list changes.shard) changes.owns.1) in
    let copy = shown.known.1.0.1 (room_changes changes.shard) (owned items room.pass (room_changes changes.shard) (subst (λ s. Owns room.pass (room_changes s)) c.requires room.owns.1)) in
    list ∙ (room_copies changes.shard changes.owns.0 _ shown.legal ∙ sym copy)
