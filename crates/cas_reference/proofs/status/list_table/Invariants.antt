use Rattle.std.proofs.Common.{◌≡◌, ◌++◌, [], map}
use Rattle.std.specs.List.{range_with_len}
use Rattle.cas_render.specs.Listing.{listed_of}
use Rattle.cas_reference.proofs.status.list_table.Given as goal

abbrev pub invariant-loop-shard : goal.invariant-loop-shard
invariant-loop-shard l = l.listed.items ≡ l.initial.listed.items ++ map (λ n. listed_of l.table n []) (range_with_len 0 l.shard)
