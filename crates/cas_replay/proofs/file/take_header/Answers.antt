use Rattle.std.proofs.Common.{◌≡◌, ℕ, ◌≤◌, length, sym, subst, ◌∙◌, Ok, Err}
use Rattle.cas_codec.specs.Exact.{AreBytes}
use Rattle.cas_disk.specs.Disk.{bytes_of}
use Rattle.cas_files.specs.Ahead.{AreNext, AreEnough}
use Rattle.cas_replay.specs.Reading.{header_at}
use Rattle.cas_replay.specs.Inner.Steps.{left_of, ReadsOn}
use Rattle.cas_replay.proofs.AtHand.{header_within, header_taken, header_fault, is_reader}
use Rattle.cas_replay.proofs.Answering.{reads_refused}
use Rattle.cas_replay.proofs.SegmentLaws.{header_found}
use Rattle.cas_replay.proofs.file.take_header.Goals as goal

pub pass-requires-clause-within : goal.pass-requires-clause-within
pass-requires-clause-within g c =
    subst (λ l. 24 ≤ length l) (c.new-reader.ensures.bytes ∙ c.ahead.ensures) (header_within c.args.segment c.in-Ok-read_header.size c.new-reader.result c.read_header.new.reader c.in-Ok-read_header.ensures)

pub returns-in-Ok-read_header-clause-size : goal.returns-in-Ok-read_header-clause-size
returns-in-Ok-read_header-clause-size g c =
    (header_found c.args.segment c.in-Ok-read_header.size c.new-reader.result c.read_header.new.reader
    (subst AreBytes (sym c.new-reader.ensures.bytes) c.new-reader.ensures.are_bytes) c.in-Ok-read_header.ensures).0

pub returns-in-Ok-read_header-clause-exact : goal.returns-in-Ok-read_header-clause-exact
returns-in-Ok-read_header-clause-exact g c image read next =
    let file = bytes_of (image c.args.file.now.name) in
    let (later, enough) = c.in-Ok.ensures.next image read next in
    let is = is_reader c.new-reader.result c.reach.new.self _ _ c.new-reader.ensures.bytes c.ahead.ensures c.new-reader.ensures.at c.at.ensures in
    let at = c.reach.ensures.at in
    subst (λ (place : ℕ). ReadsOn (λ (n : ℕ). n) c.args.segment file c.pass.new.self (Ok c.in-Ok-read_header.size) (header_at c.args.segment (left_of file place))) at
    (header_taken c.args.segment file c.reach.new.self c.pass.new.self c.new-reader.result c.read_header.new.reader is
    (subst (λ (place : ℕ). AreNext place file c.reach.new.self.bytes) (sym at) later) c.in-Ok-read_header.size
    (subst (λ (place : ℕ). AreEnough 24 place file c.reach.new.self.bytes) (sym at) enough) c.in-Ok-read_header.ensures c.pass.ensures)

pub returns-in-Err-clause-exact : goal.returns-in-Err-clause-exact
returns-in-Err-clause-exact g c image read next =
    let file = bytes_of (image c.args.file.now.name) in
    let (later, enough) = c.in-Ok.ensures.next image read next in
    let is = is_reader c.new-reader.result c.reach.new.self _ _ c.new-reader.ensures.bytes c.ahead.ensures c.new-reader.ensures.at c.at.ensures in
    let at = c.reach.ensures.at in
    reads_refused (λ (n : ℕ). n) c.args.segment file c.reach.new.self (λ (n : ℕ). n) c.in-Err.fault c.read_header.new.reader (header_at c.args.segment c.new-reader.result)
    (header_at c.args.segment (left_of file c.args.file.now.at)) c.of_field.result c.of_field.ensures c.in-Err.ensures
    (λ f e. subst (λ (place : ℕ). header_at c.args.segment (left_of file place) ≡ Err f) at
    (header_fault c.args.segment file c.reach.new.self c.reach.new.self c.new-reader.result c.read_header.new.reader is
    (subst (λ (place : ℕ). AreNext place file c.reach.new.self.bytes) (sym at) later)
    (subst (λ (place : ℕ). AreEnough 24 place file c.reach.new.self.bytes) (sym at) enough) f e))
