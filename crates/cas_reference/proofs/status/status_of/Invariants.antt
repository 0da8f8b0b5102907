use Rattle.std.proofs.Common.{◌≡◌, take, flat_map}
use Rattle.cas_render.specs.Listing.{in_shards}
use Rattle.cas_reference.specs.Replies.{no_files}
use Rattle.cas_reference.proofs.status.status_of.Given as goal

abbrev pub invariant-loop-table : goal.invariant-loop-table
invariant-loop-table l = l.listed.items ≡ flat_map (in_shards l.shards no_files) (take l.table-index l.tables)
