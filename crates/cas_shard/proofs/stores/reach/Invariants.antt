use Rattle.std.proofs.Common.{ℕ, ◌<◌, ◌≤◌, ◌+◌, ◌-◌, length}
use Rattle.cas_shard.specs.Inner.Stores.{AllStay, KeepBytes, KeepFiles, MemoryStays}
use Rattle.cas_shard.proofs.stores.reach.Given as goal

abbrev pub invariant-loop-alloc : goal.invariant-loop-alloc
invariant-loop-alloc g l =
    AllStay l.fn.stores.items l.stores.items
    × ((n : ℕ) → length l.fn.stores.items ≤ n → l.table < n → length l.stores.items ≤ n)
    × KeepFiles l.fn.stores.items l.stores.items
    × MemoryStays l.fn.stores.items l.stores.items
    × KeepBytes l.fn.stores.items l.stores.items

abbrev pub decreases-loop-alloc : goal.decreases-loop-alloc
decreases-loop-alloc g l = l.table + 1 - length l.stores.items
