use Rattle.std.proofs.Common.{ℕ, ◌≤◌, ◌∙◌, ap, sym, subst}
use Rattle.cas_history.proofs.Parts.{owned}
use Rattle.cas_history.specs.Items.{items, listed, front_list, changes_list}
use Rattle.cas_history.specs.Last.{frontier_of, last_number}
use Rattle.cas_lifecycle.proofs.Listed.{frontier_below}
use Rattle.cas_lifecycle.proofs.changes.frontiers_stand.Goals as goal

pub returns-clause-law : goal.returns-clause-law
returns-clause-law g c table =
    let changes = c.args.changes.now in
    let front = c.args.front.now in
    let r = changes_list changes.shard in
    let shown = c.look.ensures in
    let mine = shown.known.0.1 r (owned items changes.pass r changes.owns.1) in
    let last = front.last ∙ ap last_number (shown.known.1.0.1 (front_list front.shard) (owned items front.pass (front_list front.shard) front.owns.1)) in
    let below = frontier_below changes.shard table changes.owns.0 _ shown.legal in
    subst (λ l. frontier_of table l ≤ front.number) (sym mine)
    (subst (λ (n : ℕ). frontier_of table (listed r c.look.new.one.saw) ≤ n) (sym last) (subst (λ (s : ℕ). frontier_of table (listed r c.look.new.one.saw) ≤ last_number (listed (front_list s) c.look.new.one.saw)) (sym c.requires) below))
