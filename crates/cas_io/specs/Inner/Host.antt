-- The counts of a source and of a sink over the system's streams. Own.
use Rattle.std.specs.Prelude.{ℕ}
use Rattle.cas_io.specs.declared.host.StdSource.{StdSource}
use Rattle.cas_io.specs.declared.host.StdSink.{StdSink}

-- how often the reader has failed
abbrev pub reader_faults : {R : Type 0} → StdSource R → ℕ
reader_faults s = s.faults

-- how often the writer has failed
abbrev pub writer_faults : {W : Type 0} → StdSink W → ℕ
writer_faults s = s.faults

-- how often the writer took nothing of a piece that isn't empty
abbrev pub writer_stalls : {W : Type 0} → StdSink W → ℕ
writer_stalls s = s.stalls
