-- What a store says that keeps all accepted mutations in one list: what a write adds to it, and what a SELECT shows of it.
-- CQL documentation, "Data manipulation"; numbers, timestamps and moments are own.
use Rattle.std.specs.Prelude.{◌≡◌, ℕ, ◌+◌, ◌/◌, ◌==◌, ◌≤◌, nat_lt, ℤ, pos, neg_ℤ, ◌≤ℤ◌, ◌+ℤ◌, int_lt, int_div}
use Rattle.std.specs.Prelude.{Bool, false, ◌&&◌, ◌||◌, if◌then◌else◌, Option, None, Some, List, [], ◌∷◌, ◌++◌, length, replicate, slice_index_or, slice_set}
use Rattle.std.specs.Int.{int_max}
use Rattle.std.specs.List.{flat_map, fold}
use Rattle.cas_types.specs.Limits.{IsMoment}
use Rattle.cas_types.specs.declared.limits.TheConstants.{LAST_DRAWN, LAST_MICROSECOND, MUTATION_LIMIT}
use Rattle.cas_atoms.specs.declared.atom.Atom.{Atom}
use Rattle.cas_atoms.specs.declared.atom.Mutation.{Mutation}
use Rattle.cas_atoms.specs.Answers.{answer}
use Rattle.cas_atoms.specs.Coordinates.{same_bytes}
use Rattle.cas_atoms.specs.LogLength.{record_length}
use Rattle.cas_effects.specs.declared.effect.BoundWrite.{BoundWrite}
use Rattle.cas_effects.specs.declared.refusal.TheConstants.{TOO_LARGE, TOO_MANY}
use Rattle.cas_effects.specs.AtomsOf.{mutation_of}
use Rattle.cas_bind.specs.declared.bound.BoundRead.{BoundRead}
use Rattle.cas_render.specs.declared.reply.Reply.{Reply}
use Rattle.cas_render.specs.declared.reply.Reply.TheVariants as reply
use Rattle.cas_reference.specs.declared.tail.Tail.{Tail}

-- All mutations that were accepted, in order; and of each shard the last moment that a reading of this run gave it, 0 where none did.
pub record Kept : Type 0 where
  pub mutations : List Mutation
  pub met : List ℤ

-- nothing, of so many shards
abbrev pub nothing_kept : ℕ → Kept
nothing_kept shards = record { mutations = []; met = replicate shards (pos 0) }

-- what a further run begins with: the mutations
abbrev pub reopened : Kept → Kept
reopened k = record k { met = replicate (length k.met) (pos 0) }

-- ---- numbers, timestamps, moments

-- a shard without a mutation: its last number, its last drawn timestamp, and its last mutation's moment
abbrev pub no_tail : Tail
no_tail = record { number = 0; drawn = neg_ℤ (pos 2); moment = pos 0 }

-- the same of a shard after a mutation, which may be another shard's; one with USING TIMESTAMP draws none
abbrev pub tail_after : ℕ → Tail → Mutation → Tail
tail_after shard t m =
    if m.shard == shard then record { number = m.number; drawn = if m.drawn then m.at else t.drawn; moment = m.moment } else t

-- the same of a shard after all these
unfoldable pub tail_of : ℕ → List Mutation → Tail
tail_of shard mutations = fold (tail_after shard) no_tail mutations

-- a shard's moment: its last mutation's, or the last that a reading gave it in this run, where that is later
abbrev pub moment_of : ℕ → Kept → ℤ
moment_of shard k = int_max (tail_of shard k.mutations).moment (slice_index_or k.met shard (pos 0))

-- a shard meets a reading: its whole seconds are the shard's moment, unless it has a later one
abbrev pub met_at : ℤ → ℕ → Kept → Kept
met_at reading shard k = record k { met = slice_set k.met shard (int_max (slice_index_or k.met shard (pos 0)) (int_div reading (pos 1000000))) }

-- ---- a write

-- The mutation of a write, whose shard has met the reading. Its number is the next one; what is drawn for it is the reading, or the last drawn timestamp
-- plus 2 where that is greater; its moment is the shard's.
unfoldable pub mutation_at : ℤ → BoundWrite → Kept → Mutation
mutation_at reading w k =
    mutation_of w (int_max reading ((tail_of w.shard k.mutations).drawn +ℤ pos 2)) (moment_of w.shard k) ((tail_of w.shard k.mutations).number + 1)

-- the shard has all the mutations that it may have, or has drawn its last timestamp
abbrev pub is_past : Mutation → Bool
is_past m = nat_lt MUTATION_LIMIT m.number || (m.drawn && int_lt LAST_DRAWN m.at)

-- why a mutation is refused: its record is longer than half a segment, or it is past the last one
unfoldable pub refusal_of : ℕ → Mutation → Option ℕ
refusal_of segment m = if nat_lt (segment / 2) (record_length m) then Some TOO_LARGE else if is_past m then Some TOO_MANY else None

-- what is answered: the mutation's number, unless it is refused
abbrev pub answered : Option ℕ → Mutation → Reply
answered None m = reply.Wrote m.number
answered (Some why) m = reply.Refused why

-- what is kept then: the mutation behind all others, unless it is refused
abbrev pub added : Option ℕ → Mutation → Kept → Kept
added None m k = record k { mutations = k.mutations ++ m ∷ [] }
added (Some why) m k = k

-- this mutation, in a log of such segments, is answered so, and this is kept then
abbrev pub Adds : ℕ → Mutation → Kept → Reply → Kept → Type 0
Adds segment m k r after = (r ≡ answered (refusal_of segment m) m) × (after ≡ added (refusal_of segment m) m k)

-- A write at a reading is answered so, and this is kept then. Its shard meets the reading also where the write is refused.
abbrev pub Writes : ℕ → ℤ → BoundWrite → Kept → Reply → Kept → Type 0
Writes segment reading w k r after = Adds segment (mutation_at reading w (met_at reading w.shard k)) (met_at reading w.shard k) r after

-- ---- a SELECT

-- the mutation is of the table's partition with this key
abbrev pub is_of : ℕ → List ℕ → Mutation → Bool
is_of table key m = (m.table == table) && same_bytes m.key key

-- the mutation's atoms, where it is of that partition
abbrev pub atoms_if : ℕ → List ℕ → Mutation → List Atom
atoms_if table key m = if is_of table key m then m.atoms else []

-- all atoms of a partition
unfoldable pub atoms_in : ℕ → List ℕ → List Mutation → List Atom
atoms_in table key mutations = flat_map (atoms_if table key) mutations

-- what a SELECT shows: at the shard's moment, the live view of all atoms of its partition; the front is the number of the shard's last mutation
abbrev pub shown : BoundRead → Kept → Reply
shown q k =
    reply.Rows (answer q.query (atoms_in q.query.table q.query.key k.mutations) (moment_of q.shard k)) q.shard (tail_of q.shard k.mutations).number
    (moment_of q.shard k)

-- a SELECT at a reading, which its shard meets, is answered so, and this is kept then
abbrev pub Reads : ℤ → BoundRead → Kept → Reply → Kept → Type 0
Reads reading q k r after = (r ≡ shown q (met_at reading q.shard k)) × (after ≡ met_at reading q.shard k)

-- ---- limits

-- a microsecond between the start of 1970 and the end of the year 9999
abbrev pub IsTime : ℤ → Type 0
IsTime micros = (pos 0 ≤ℤ micros) × (micros ≤ℤ LAST_MICROSECOND)

-- a mutation as a shard keeps it
abbrev pub IsKept : Mutation → Type 0
IsKept m = (is_past m ≡ false) × IsMoment m.moment

-- what a shard's mutations may say of it
abbrev pub IsTail : Tail → Type 0
IsTail t = (t.number ≤ MUTATION_LIMIT) × (t.drawn ≤ℤ LAST_DRAWN) × IsMoment t.moment
