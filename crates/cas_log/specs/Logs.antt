-- What a log stands for, and what its calls leave. Own.
use Rattle.std.specs.Prelude.{◌≡◌, ◌⊎◌, ℕ, ◌+◌, ◌-◌, ◌/◌, ◌^◌, ◌≤◌, min, vec_len, List, [], ◌∷◌, ◌++◌, length, Option, None, Some, Result, Ok, Err}
use Rattle.std.specs.Vec.{vec_capacity}
use Rattle.cas_io.specs.Causes.{Rose}
use Rattle.cas_types.specs.declared.schema.TableSchema.{TableSchema}
use Rattle.cas_disk.specs.declared.name.Name.TheVariants.{Log as log_name}
use Rattle.cas_disk.specs.Disk.{Disk, IsKept}
use Rattle.cas_gates.specs.declared.first.First.{First}
use Rattle.cas_atoms.specs.declared.atom.Mutation.{Mutation}
use Rattle.cas_atoms.specs.Fits.{FitsMutation}
use Rattle.cas_atoms.specs.LogLength.{record_length}
use Rattle.cas_log.specs.Segment.{body, written, front, joined, IsSegment}
use Rattle.cas_log.specs.declared.fault.LogFault.{LogFault}
use Rattle.cas_log.specs.declared.fault.LogFault.TheVariants.{TooLarge, Failed, Stopped, Mem}
use Rattle.cas_log.specs.declared.log.Log.{Log}

-- which segment a log writes, how long it may be, and where its closed gate stands
pub record Place : Type 0 where
  pub number : ℕ
  pub size : ℕ
  pub end : ℕ

-- where the log stands on the disk: its segment, that one's size, and where the next block begins
abbrev pub place_of : Log → Place
place_of log = record { number = log.number; size = log.size; end = log.end }

-- the same segment, with the gate so much further
abbrev pub moved : ℕ → Place → Place
moved more place = record { number = place.number; size = place.size; end = place.end + more }

-- whatever a crash leaves, the segment is there with these mutations, and ends with its closed gate
pub record Stands (place : Place) (disk : Disk) (committed : List Mutation) : Type 0 where
  pub blocks : List (List Mutation)
  pub all : joined blocks ≡ committed
  pub kept : IsKept (log_name place.number) (front place.number place.size blocks ++ 0 ∷ []) disk
  pub end : length (front place.number place.size blocks) ≡ place.end

-- these mutations are pushed and not committed
pub record HasPushed (log : Log) (pushed : List Mutation) : Type 0 where
  pub count : length pushed ≡ log.count
  pub bytes : log.block.items ≡ written (body pushed) log.count

-- how long the block of what is pushed is, its gate and the next one with it
abbrev pub block_length : Log → ℕ
block_length log = vec_len log.block + 1

-- a mutation that some table of some store allows
abbrev pub IsOfATable : Mutation → Type 0
IsOfATable m = (table : TableSchema) × (shards : ℕ) × FitsMutation table shards m

-- there is memory for a record of so many bytes
abbrev pub HasMemoryFor : Log → ℕ → Type 0
HasMemoryFor log bytes = vec_len log.block + bytes ≤ vec_capacity log.block

-- there is memory for its record
abbrev pub IsReserved : Log → Mutation → Type 0
IsReserved log m = HasMemoryFor log (record_length m)

-- the longest record: half of a segment
abbrev pub half : ℕ → ℕ
half size = size / 2

-- the file has the committed mutations, with those that were pushed or without
abbrev pub MayHave : ℕ → List Mutation → List Mutation → Option (List ℕ) → Type 0
MayHave number committed pushed found =
    (file : List ℕ) × (found ≡ Some file) × (IsSegment number committed file ⊎ IsSegment number (committed ++ pushed) file)

-- How a call ends that writes: what fault was kept before and is kept now, the folder's count of faults before and now. One
-- that was kept stops it; where the folder fails that is kept, by the count.
abbrev pub Ends : {T : Type 0} → Option First → Option First → ℕ → ℕ → Result T LogFault → Type 0
Ends (Some first) kept before now result = (result ≡ Err (Stopped first)) × (kept ≡ Some first) × (now ≡ before)
Ends None kept before now (Ok x) = kept ≡ None
Ends None kept before now (Err Failed) = Rose before now × (kept ≡ Some (record { number = now }))
Ends None kept before now (Err Mem) = kept ≡ None
Ends None kept before now (Err (TooLarge length limit)) = ⊥
Ends None kept before now (Err (Stopped first)) = ⊥

-- why no room was made for a record: it is longer than half a segment, of which its length is told where it is below 2^64; or memory ran out
abbrev pub WhyNotReserved : LogFault → ℕ → ℕ → Type 0
WhyNotReserved (TooLarge length limit) long most = (most + 1 ≤ long) × (length ≡ min long (2 ^ 64 - 1)) × (limit ≡ most)
WhyNotReserved Mem long most = Unit {0}
WhyNotReserved Failed long most = ⊥
WhyNotReserved (Stopped first) long most = ⊥
