-- What a source and a sink in memory have had to do with so far, and by which plan they go. Own.
use Rattle.std.specs.Prelude.{ℕ, List, Option, drop}
use Rattle.cas_io.specs.declared.memory.MemSource.{MemSource}
use Rattle.cas_io.specs.declared.memory.MemSink.{MemSink}

-- the bytes that a source has left
abbrev pub source_left : MemSource → List ℕ
source_left s = drop s.given s.bytes.items

-- how many bytes it has given
abbrev pub source_given : MemSource → ℕ
source_given s = s.given

-- by its plan: after how many bytes it fails
abbrev pub source_fails_after : MemSource → Option ℕ
source_fails_after s = s.fails_after

-- by its plan: how many bytes it gives at once, at most
abbrev pub source_at_most : MemSource → ℕ
source_at_most s = s.at_most

-- how often it has failed
abbrev pub source_faults : MemSource → ℕ
source_faults s = s.faults

-- the bytes that a sink took
abbrev pub sink_taken : MemSink → List ℕ
sink_taken s = s.taken.items

-- by its plan: which of its calls fail, counted from 1
abbrev pub sink_failing : MemSink → List ℕ
sink_failing s = s.failing.items

-- by its plan: how many bytes of a piece it takes, at most
abbrev pub sink_at_most : MemSink → ℕ
sink_at_most s = s.at_most

-- how often it was called
abbrev pub sink_calls : MemSink → ℕ
sink_calls s = s.calls

-- how often it has failed
abbrev pub sink_faults : MemSink → ℕ
sink_faults s = s.faults

-- how often it took nothing of a piece that isn't empty
abbrev pub sink_stalls : MemSink → ℕ
sink_stalls s = s.stalls
