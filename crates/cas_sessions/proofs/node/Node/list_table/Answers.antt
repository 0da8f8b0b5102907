use Rattle.std.proofs.Common.{ap, map, sym, ◌∙◌}
use Rattle.std.proofs.lemmas.Option.{slice_get_read}
use Rattle.cas_render.specs.Listing.{listed_of}
use Rattle.cas_render.proofs.Shards.{one_more}
use Rattle.cas_lasting.specs.Nodes.{files_in}
use Rattle.cas_lasting.specs.Status.{file_numbers}
use Rattle.cas_sessions.proofs.Statuses.{listed_there}
use Rattle.cas_sessions.proofs.node.Node.list_table.Goals as goal

pub loop-place-preserved : goal.loop-place-preserved
loop-place-preserved g c =
    let n = c.args.self.now in
    let x = c.index.result.now in
    let at = c.loop-place.place in
    one_more (λ k. listed_of c.args.table.now k (file_numbers (files_in n.shards.items) k c.args.table.now.number)) c.args.listed.now.items c.loop-place.listed.items
    c.push.new.self.items at c.in_ok-listed_of.field-0 c.loop-place.invariant c.in_ok-push.ensures.items
    (listed_there n.shards.items at x c.args.table.now c.in_ok-numbers.numbers.items c.in_ok-listed_of.field-0
    (slice_get_read n.shards.items n.limits.shards at x (sym n.sound.count) c.loop-place-test.true c.index.ensures)
    (c.in_ok-numbers.ensures ∙ ap (map (λ f. f.info.number)) c.files-files.ensures) c.in_ok-listed_of.ensures)
