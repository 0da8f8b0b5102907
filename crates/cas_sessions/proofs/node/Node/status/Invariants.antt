use Rattle.std.proofs.Common.{◌≡◌, take, flat_map}
use Rattle.cas_render.specs.Listing.{in_shards}
use Rattle.cas_lasting.specs.Nodes.{files_in}
use Rattle.cas_lasting.specs.Status.{file_numbers}
use Rattle.cas_sessions.proofs.node.Node.status.Given as goal

abbrev pub invariant-loop-table : goal.invariant-loop-table
invariant-loop-table g l =
    l.listed.items ≡ flat_map (in_shards l.self.limits.shards (file_numbers (files_in l.self.shards.items))) (take l.table-index l.self.tables.items)
