-- What a write and a SELECT are answered by the shard that their partition lies in, and what a write enters into its history; with which history a
-- shard is opened.
-- CQL documentation, "Data manipulation"; numbers, timestamps and moments are own.
use Rattle.std.specs.Prelude.{◌≡◌, ℕ, ◌+◌, ◌/◌, max, nat_lt, ℤ, pos, neg_ℤ, ◌≤ℤ◌, ◌+ℤ◌, int_lt, int_div}
use Rattle.std.specs.Prelude.{Bool, true, false, ◌&&◌, ◌||◌, if◌then◌else◌, Option, None, Some, Result, Ok, Err, IfOk, List, [], ◌∷◌, ◌++◌}
use Rattle.std.specs.Int.{int_max}
use Rattle.cas_types.specs.declared.limits.TheConstants.{LAST_DRAWN, LAST_MICROSECOND, MUTATION_LIMIT}
use Rattle.cas_atoms.specs.declared.atom.Mutation.{Mutation}
use Rattle.cas_atoms.specs.declared.query.Query.{Query}
use Rattle.cas_atoms.specs.Answers.{answer}
use Rattle.cas_atoms.specs.LogLength.{record_length}
use Rattle.cas_effects.specs.declared.effect.BoundWrite.{BoundWrite}
use Rattle.cas_effects.specs.declared.refusal.TheConstants.{TOO_LARGE, TOO_MANY}
use Rattle.cas_effects.specs.AtomsOf.{mutation_of}
use Rattle.cas_shard.specs.declared.entry.Entry.{Entry}
use Rattle.cas_shard.specs.declared.entry.Entry.TheVariants.{Wrote}
use Rattle.cas_shard.specs.declared.entry.ShardOpening.{ShardOpening}
use Rattle.cas_shard.specs.Entries.{first, last_drawn, last_number}
use Rattle.cas_shard.specs.declared.answers.Look.{Look}
use Rattle.cas_shard.specs.declared.answers.TakeFault.{TakeFault}
use Rattle.cas_shard.specs.declared.answers.TakeFault.TheVariants as fault

-- ---- a shard

-- one shard: as the run found it, what has been entered since, and its last moment
pub record ShardHistory : Type 0 where
  pub found : ShardOpening
  pub entries : List Entry
  pub moment : ℤ

-- a shard of which no mutation is in memory: its last number, its last drawn timestamp and its moment are told
abbrev pub told_shard : ℕ → ℤ → ℤ → ShardOpening
told_shard number drawn moment = record { entries = []; number = number; drawn = drawn; moment = moment }

-- a shard into which nothing has been entered since it was found
abbrev pub found_shard : ShardOpening → ShardHistory
found_shard o = record { found = o; entries = []; moment = o.moment }

-- a shard without a mutation
abbrev pub empty_shard : ShardOpening
empty_shard = told_shard 0 (neg_ℤ (pos 2)) (pos 0)

-- ---- moments, timestamps, numbers

-- a microsecond between the start of 1970 and the end of the year 9999
abbrev pub IsTime : ℤ → Type 0
IsTime micros = (pos 0 ≤ℤ micros) × (micros ≤ℤ LAST_MICROSECOND)

-- a moment is the greater of the reading's whole seconds and the shard's last moment
abbrev pub later_moment : ℤ → ℤ → ℤ
later_moment reading moment = int_max (int_div reading (pos 1000000)) moment

-- the shard's moment once it has met this reading
abbrev pub moment_at : ℤ → ShardHistory → ℤ
moment_at reading s = later_moment reading s.moment

-- all entries of a shard, those from before the run first
abbrev pub all_entries : ShardHistory → List Entry
all_entries s = s.found.entries ++ s.entries

-- the number of a shard's last mutation; before the first it is 0
abbrev pub number_of : ShardHistory → ℕ
number_of s = last_number s.found.number s.entries

-- the last timestamp that a shard drew; before the first it is -2
abbrev pub drawn_of : ShardHistory → ℤ
drawn_of s = last_drawn s.found.drawn s.entries

-- the timestamp of a write without USING TIMESTAMP: the reading, or the shard's last drawn timestamp plus 2 where that is greater
abbrev pub later_drawn : ℤ → ℤ → ℤ
later_drawn reading drawn = int_max reading (drawn +ℤ pos 2)

-- what the shard draws at this reading
abbrev pub drawn_at : ℤ → ShardHistory → ℤ
drawn_at reading s = later_drawn reading (drawn_of s)

-- the number of a shard's next mutation
abbrev pub next_number : ShardHistory → ℕ
next_number s = number_of s + 1

-- ---- a mutation

-- the mutation that a write makes
unfoldable pub mutation_at : ℤ → ShardHistory → BoundWrite → Mutation
mutation_at reading s w = mutation_of w (drawn_at reading s) (moment_at reading s) (next_number s)

-- why a shard refuses a mutation: its record is longer than half a segment; or the shard has all the mutations that it may have, or
-- has drawn its last timestamp
unfoldable pub take_refusal : ℕ → Mutation → Option ℕ
take_refusal segment m =
    if nat_lt (segment / 2) (record_length m) then Some TOO_LARGE
    else if nat_lt MUTATION_LIMIT m.number || (m.drawn && int_lt LAST_DRAWN m.at) then Some TOO_MANY
    else None

-- a mutation's entry, unless it was refused
abbrev pub entry_unless : Option ℕ → ℕ → ℕ → Mutation → List Entry
entry_unless None session call m = Wrote session call m ∷ []
entry_unless (Some refused) session call m = []

-- what a write enters: its mutation, unless that is refused
unfoldable pub write_entries : ℕ → ℤ → ShardHistory → ℕ → ℕ → BoundWrite → List Entry
write_entries segment reading s session call w = entry_unless (take_refusal segment (mutation_at reading s w)) session call (mutation_at reading s w)

-- an answer, unless the mutation was refused
abbrev pub taken_unless : {T : Type 0} → Option ℕ → T → Result T TakeFault
taken_unless None answer = Ok answer
taken_unless (Some refused) answer = Err (fault.Refused refused)

-- what a write is answered before it is entered: its mutation
unfoldable pub prepare_answer : ℕ → ℤ → ShardHistory → BoundWrite → Result Mutation TakeFault
prepare_answer segment reading s w = taken_unless (take_refusal segment (mutation_at reading s w)) (mutation_at reading s w)

-- what a write is answered: its mutation's number
unfoldable pub write_answer : ℕ → ℤ → ShardHistory → BoundWrite → Result ℕ TakeFault
write_answer segment reading s w = taken_unless (take_refusal segment (mutation_at reading s w)) (next_number s)

-- What a SELECT shows: at the moment, the live view of its partition's mutations up to the front, which is the number of the shard's last one.
unfoldable pub look_at : ℤ → ShardHistory → Query → Look
look_at reading s q = record {
  rows = answer q (first (number_of s) q.table q.key (all_entries s)) (moment_at reading s);
  front = number_of s;
  now = moment_at reading s;
}

-- ---- what becomes of a shard

-- the shard once it has met a reading, which raises its moment also where nothing is entered
abbrev pub raised : ℤ → ShardHistory → ShardHistory
raised reading s = record s { moment = moment_at reading s }

-- the shard with these entered
abbrev pub entered : List Entry → ShardHistory → ShardHistory
entered entries s = record s { entries = s.entries ++ entries }

-- the last drawn timestamp with a mutation that was read back: where that one's was drawn, the greater of the two
abbrev pub drawn_with : ℤ → Mutation → ℤ
drawn_with drawn m = if m.drawn then int_max drawn m.at else drawn

-- What a shard is opened with, and a mutation more, read back from the log. No call of this run wrote it, so it tells session 0 and call 0; calls are
-- numbered from 1. The shard's number, its drawn timestamp and its moment become the mutation's where that is greater.
abbrev pub restored : Mutation → ShardOpening → ShardOpening
restored m o =
    record {
      entries = o.entries ++ Wrote 0 0 m ∷ [];
      number = max o.number m.number;
      drawn = drawn_with o.drawn m;
      moment = int_max o.moment m.moment;
    }

-- the same where memory ran out, and nothing was restored
abbrev pub after_restore : {T E : Type 0} → Result T E → Mutation → ShardOpening → ShardOpening
after_restore (Ok x) m o = restored m o
after_restore (Err e) m o = o

-- ---- where memory runs out

-- memory ran out
abbrev pub wants : {T : Type 0} → Result T TakeFault → Bool
wants (Ok x) = false
wants (Err (fault.Refused refused)) = false
wants (Err fault.Mem) = true

-- a write is prepared so: its answer is its mutation, or why it is refused; or memory runs out
abbrev pub Prepares : ℕ → ShardHistory → ℤ → BoundWrite → Result Mutation TakeFault → Type 0
Prepares segment s reading w r = wants r ≡ false → r ≡ prepare_answer segment reading s w

-- A write takes these entries: its mutation, and it is answered that one's number; or none, where it is refused or memory runs out.
-- It is the call of this number of this session.
pub record Takes (segment : ℕ) (s : ShardHistory) (reading : ℤ) (session call : ℕ) (w : BoundWrite) (entries : List Entry)
    (r : Result ℕ TakeFault) : Type 0 where
  pub answered : wants r ≡ false → r ≡ write_answer segment reading s w
  pub entered : entries ≡ (if wants r then [] else write_entries segment reading s session call w)

-- a SELECT shows this, or memory runs out
abbrev pub Shows : {E : Type 0} → ShardHistory → ℤ → Query → Result Look E → Type 0
Shows s reading q r = IfOk r (λ l. l ≡ look_at reading s q)
