-- A segment's reading, block by block. Own.
use Rattle.std.specs.Prelude.{◌≡◌, ◌⊎◌, ◌+◌, ◌≤◌, ◌==◌, length, Bool, true, false, ℕ, List, drop, Option, None, Some, Result, Ok, Err, if◌then◌else◌}
use Rattle.cas_types.specs.Limits.{IsShardCount}
use Rattle.cas_types.specs.declared.schema.TableSchema.{TableSchema}
use Rattle.cas_codec.specs.Reading.{Left, Read, ◌>>=◌, bytes_at, u8_at, u32_at}
use Rattle.cas_files.specs.Ahead.{Ahead, AreNext}
use Rattle.cas_codec.specs.declared.fault.ReadFault.{ReadFault}
use Rattle.cas_codec.specs.declared.fault.ReadFault.TheVariants.{Bad as BadField}
use Rattle.cas_atoms.specs.declared.atom.Mutation.{Mutation}
use Rattle.cas_mutations.specs.Allowed.{AreTables}
use Rattle.cas_replay.specs.Grammar.{AreOfALog}
use Rattle.cas_replay.specs.declared.fault.ReplayFault.{ReplayFault}
use Rattle.cas_replay.specs.declared.fault.ReplayFault.TheVariants.{Failed, Bad, Mem}
use Rattle.cas_replay.specs.Reading.{length_at, records_at, block_at}
use Rattle.cas_replay.specs.Replays.{IsRefusedAt, IsFront}

-- the length of the body behind the next gate, where that is open
unfoldable pub opened_at : ℕ → Left → Read (Option ℕ)
opened_at size left = do
  gate ← u8_at left
  if gate.0 == 1 then (length_at size gate.1 >>= λ long. Ok (Some long.0, long.1)) else Ok (None, gate.1)

-- the body of a block, behind its lengths, and how many records it has
unfoldable pub body_at : ℕ → Left → Read (Left × ℕ)
body_at size left = do
  long ← length_at size left
  count ← u32_at long.1
  body ← bytes_at left.at long.0 count.1
  Ok ((record { bytes = body.0; at = count.1.at }, count.0), body.1)

-- the same behind the next gate, where that is open
unfoldable pub part_at : ℕ → Left → Read (Option (Left × ℕ))
part_at size left = do
  gate ← u8_at left
  if gate.0 == 1 then (body_at size gate.1 >>= λ body. Ok (Some body.0, body.1)) else Ok (None, gate.1)

-- these mutations, and behind them those of so many records, which fill the body
unfoldable pub filled_at : List TableSchema → ℕ → ℕ → List Mutation → Left → Read (List Mutation)
filled_at tables shards count before body = do
  found ← records_at tables shards count before body
  if length found.1.bytes == 0 then Ok found else Err (BadField found.1.at)

-- whether the next gate is open, and the mutations, with those of the block behind it
unfoldable pub gated_at : List TableSchema → ℕ → ℕ → List Mutation → Left → Read (Bool × List Mutation)
gated_at tables shards size before left = do
  gate ← u8_at left
  if gate.0 == 1 then (block_at tables shards size before gate.1 >>= λ block. Ok ((true, block.0), block.1)) else Ok ((false, before), gate.1)

-- what a file has from a place on
abbrev pub left_of : List ℕ → ℕ → Left
left_of file at = record { bytes = drop at file; at = at }

-- What a step answers that reads on in the file of a segment, its value seen by view, and where the reader stands then: what the reading gives, and
-- what is at hand comes next; unless the folder failed or memory ran out.
abbrev pub ReadsOn : {X Y : Type 0} → (X → Y) → ℕ → List ℕ → Ahead → Result X ReplayFault → Read Y → Type 0
ReadsOn view segment file new (Ok x) read = (read ≡ Ok (view x, left_of file new.at)) × AreNext new.at file new.bytes
ReadsOn view segment file new (Err (Bad of at)) read = (of ≡ segment) × IsRefusedAt at read
ReadsOn view segment file new (Err Failed) read = Unit {0}
ReadsOn view segment file new (Err Mem) read = Unit {0}

-- What stands at a gate is at hand: all that the file has, or the gate and the whole block behind it.
abbrev pub HasBlock : ℕ → ℕ → List ℕ → List ℕ → Type 0
HasBlock size at file bytes =
    (bytes ≡ drop at file) ⊎ ((long : ℕ) × (after : Left) × (opened_at size (record { bytes = bytes; at = at }) ≡ Ok (Some long, after))
    × (9 + long ≤ length bytes))

-- What is answered of whether the next block is there, in the file of a segment: it is at hand; its gate isn't open; or it is refused.
abbrev pub Reaches : ℕ → ℕ → ℕ → List ℕ → Ahead → Result Bool ReplayFault → Type 0
Reaches segment size at file new (Ok true) = AreNext at file new.bytes × HasBlock size at file new.bytes
Reaches segment size at file new (Ok false) = (after : Left) × (opened_at size (left_of file at) ≡ Ok (None, after))
Reaches segment size at file new (Err (Bad of place)) = (of ≡ segment) × IsRefusedAt place (opened_at size (left_of file at))
Reaches segment size at file new (Err Failed) = Unit {0}
Reaches segment size at file new (Err Mem) = Unit {0}

-- What is answered of the next block in the file of a segment, and where the reader stands then: its mutations, behind those before it; its gate
-- isn't open; or it is refused; where the folder failed or memory ran out, a front of them.
abbrev pub StepsOn : ℕ → List ℕ → Ahead → List Mutation → Result Bool ReplayFault → Read (Bool × List Mutation) → Type 0
StepsOn segment file new found (Ok true) read = (read ≡ Ok ((true, found), left_of file new.at)) × AreNext new.at file new.bytes
StepsOn segment file new found (Ok false) read = (after : Left) × (read ≡ Ok ((false, found), after))
StepsOn segment file new found (Err (Bad of place)) read = (of ≡ segment) × IsRefusedAt place read
StepsOn segment file new found (Err Failed) read = IsFront (λ x. x.0.1) found read
StepsOn segment file new found (Err Mem) read = IsFront (λ x. x.0.1) found read

-- the mutations behind which a segment's blocks end, whatever is left
abbrev pub values_of : {A : Type 0} → Read A → Result A ReadFault
values_of (Ok x) = Ok x.0
values_of (Err f) = Err f

-- mutations that a log may have, by what is added to them, stay such
abbrev pub StayALog : List TableSchema → ℕ → List Mutation → List Mutation → Type 0
StayALog tables shards before after = AreTables tables → IsShardCount shards → AreOfALog tables shards before → AreOfALog tables shards after
