use Rattle.std.proofs.Common.{◌≡◌, ◌++◌, map}
use Rattle.std.specs.List.{range_with_len}
use Rattle.cas_render.specs.Listing.{listed_of}
use Rattle.cas_lasting.specs.Nodes.{files_in}
use Rattle.cas_lasting.specs.Status.{file_numbers}
use Rattle.cas_sessions.proofs.node.Node.list_table.Given as goal

abbrev pub invariant-loop-place : goal.invariant-loop-place
invariant-loop-place g l =
    l.listed.items
    ≡ l.initial.listed.items ++ map (λ n. listed_of l.table n (file_numbers (files_in l.self.shards.items) n l.table.number)) (range_with_len 0 l.place)
