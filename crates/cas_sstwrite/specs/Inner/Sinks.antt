-- What a draft took.
use Rattle.std.specs.Prelude.{◌≡◌, ◌<◌, ◌+◌, ℕ, List, length}
use Rattle.cas_disk.specs.Disk.{Appends}
use Rattle.cas_info.specs.declared.info.TheConstants.{FILE_LIMIT}
use Rattle.cas_sstwrite.specs.declared.fault.Measure.TheVariants.{FileBytes, BlockBytes, Partitions}
use Rattle.cas_sstwrite.specs.declared.fault.WriteFault.{WriteFault}
use Rattle.cas_sstwrite.specs.declared.fault.WriteFault.TheVariants.{Failed, Order, TooMany, Unfit, Mem}
use Rattle.cas_sstwrite.specs.declared.held.Sink.{Sink}

-- the draft took these bytes, and that is counted
pub record Took {D : Type 0} (number_of : D → ℕ) (written : D → List ℕ → Type 0) (bytes : List ℕ) (old new : Sink D) : Type 0 where
  pub text : Appends bytes (written old.draft) (written new.draft)
  pub place : new.place ≡ old.place + length bytes
  pub number : number_of new.draft ≡ number_of old.draft

-- why a draft that has so many bytes doesn't take so many more: the disk failed, memory ran out, or the file would be too long
abbrev pub LongFault : ℕ → ℕ → WriteFault → Type 0
LongFault place more Failed = Unit {0}
LongFault place more Order = ⊥
LongFault place more (TooMany FileBytes limit) = (limit ≡ FILE_LIMIT) × (FILE_LIMIT < place + more)
LongFault place more (TooMany BlockBytes limit) = ⊥
LongFault place more (TooMany Partitions limit) = ⊥
LongFault place more Unfit = ⊥
LongFault place more Mem = Unit {0}
