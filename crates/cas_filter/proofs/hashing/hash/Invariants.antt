use Rattle.std.proofs.Common.{◌≡◌, take}
use Rattle.std.specs.List.{fold}
use Rattle.cas_filter.specs.Hashing.{hash_step}
use Rattle.cas_filter.specs.declared.hashing.TheConstants.{FNV_START}
use Rattle.cas_filter.proofs.hashing.hash.Given as goal

abbrev pub invariant-loop-byte : goal.invariant-loop-byte
invariant-loop-byte l = l.hash ≡ fold hash_step FNV_START (take l.byte-index l.key)
