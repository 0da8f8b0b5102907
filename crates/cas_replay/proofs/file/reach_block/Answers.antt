use Rattle.std.proofs.Common.{◌≡◌, ◌+◌, ℕ, subst, Ok}
use Rattle.cas_codec.proofs.Exactness.{read_left}
use Rattle.cas_disk.specs.Disk.{bytes_of}
use Rattle.cas_files.specs.Ahead.{AreNext, AreEnough}
use Rattle.cas_files.proofs.Files.{same_more, reads_more}
use Rattle.cas_replay.specs.Inner.Steps.{opened_at}
use Rattle.cas_replay.proofs.AtHand.{is_reader, opened_fault, opened_shut, has_block}
use Rattle.cas_replay.proofs.Answering.{reach_refused}
use Rattle.cas_replay.proofs.Whole.{at_start}
use Rattle.cas_replay.proofs.file.reach_block.Goals as goal

pub returns-in-Ok-None-clause-exact : goal.returns-in-Ok-None-clause-exact
returns-in-Ok-None-clause-exact g c image read next =
    let file = bytes_of (image c.args.file.now.name) in
    let (later, enough) = c.in-Ok.ensures.next image read next in
    let is = is_reader c.new-reader.result c.reach.new.self _ _ c.new-reader.ensures.bytes c.ahead.ensures c.new-reader.ensures.at c.at.ensures in
    let here = subst (λ (place : ℕ). c.new-reader.result ≡ read_left c.reach.new.self.bytes place) c.reach.ensures.at is in
    opened_shut c.args.size c.args.file.now.at file c.reach.new.self.bytes c.new-reader.result here later enough c.read_opened.new.reader
    (subst (λ n. opened_at c.args.size c.new-reader.result ≡ Ok (n, c.read_opened.new.reader)) c.in-Ok-None.field-0-is c.in-Ok-None.ensures)

pub returns-in-Err-clause-exact : goal.returns-in-Err-clause-exact
returns-in-Err-clause-exact g c image read next =
    let file = bytes_of (image c.args.file.now.name) in
    let (later, enough) = c.in-Ok.ensures.next image read next in
    let is = is_reader c.new-reader.result c.reach.new.self _ _ c.new-reader.ensures.bytes c.ahead.ensures c.new-reader.ensures.at c.at.ensures in
    let here = subst (λ (place : ℕ). c.new-reader.result ≡ read_left c.reach.new.self.bytes place) c.reach.ensures.at is in
    reach_refused (λ n. n) c.args.segment file c.reach.new.self c.args.size c.args.file.now.at c.in-Err.fault c.read_opened.new.reader
    (opened_at c.args.size c.new-reader.result) c.of_field.result c.of_field.ensures c.in-Err.ensures
    (λ f e. opened_fault c.args.size c.args.file.now.at file c.reach.new.self.bytes c.new-reader.result here later enough f e)

pub returns-in-Ok-reach-clause-exact : goal.returns-in-Ok-reach-clause-exact
returns-in-Ok-reach-clause-exact g c image read next =
    let disk = g.F.Folder.disk in
    let file = bytes_of (image c.args.file.now.name) in
    let (later, enough) = c.in-Ok.ensures.next image read next in
    let is = is_reader c.new-reader.result c.reach.new.self _ _ c.new-reader.ensures.bytes c.ahead.ensures c.new-reader.ensures.at c.at.ensures in
    let here = subst (λ (place : ℕ). c.new-reader.result ≡ read_left c.reach.new.self.bytes place) c.reach.ensures.at is in
    let opens = subst (λ n. opened_at c.args.size c.new-reader.result ≡ Ok (n, c.read_opened.new.reader)) c.in-Ok-Some.field-0-is c.in-Ok-Some.ensures in
    let again = at_start (disk c.args.folder.now) (disk c.reach.new.folder) c.reach.ensures.during c.reach.ensures.reads c.args.file.now.name c.reach.new.self.name c.reach.ensures.name
    (λ f. AreNext c.reach.new.self.at f c.reach.new.self.bytes → AreNext c.reach.new.self.at f c.reach-2.new.self.bytes × AreEnough (9 + c.in-Ok-Some.long) c.reach.new.self.at f c.reach-2.new.self.bytes)
    c.in-Ok-reach.ensures.next image read in
    let both = subst (λ (place : ℕ). AreNext place file c.reach.new.self.bytes → AreNext place file c.reach-2.new.self.bytes × AreEnough (9 + c.in-Ok-Some.long) place file c.reach-2.new.self.bytes)
    c.reach.ensures.at again later in
    (both.0, has_block c.args.size c.args.file.now.at file c.reach.new.self.bytes c.new-reader.result here later enough c.in-Ok-Some.long c.read_opened.new.reader c.reach-2.new.self.bytes opens both.0 both.1)

pub returns-in-Ok-reach-clause-reads : goal.returns-in-Ok-reach-clause-reads
returns-in-Ok-reach-clause-reads g c = let disk = g.F.Folder.disk in reads_more (disk c.args.folder.now) (disk c.reach.new.folder) (disk c.reach-2.new.folder) c.reach.ensures.reads c.reach-2.ensures.reads

pub returns-in-Ok-reach-clause-during : goal.returns-in-Ok-reach-clause-during
returns-in-Ok-reach-clause-during g c = let disk = g.F.Folder.disk in same_more (disk c.args.folder.now) (disk c.reach.new.folder) (disk c.reach-2.new.folder) c.reach.ensures.during c.reach-2.ensures.during

pub returns-in-Err-Failed-reach-clause-reads : goal.returns-in-Err-Failed-reach-clause-reads
returns-in-Err-Failed-reach-clause-reads g c = let disk = g.F.Folder.disk in reads_more (disk c.args.folder.now) (disk c.reach.new.folder) (disk c.reach-2.new.folder) c.reach.ensures.reads c.reach-2.ensures.reads

pub returns-in-Err-Failed-reach-clause-during : goal.returns-in-Err-Failed-reach-clause-during
returns-in-Err-Failed-reach-clause-during g c = let disk = g.F.Folder.disk in same_more (disk c.args.folder.now) (disk c.reach.new.folder) (disk c.reach-2.new.folder) c.reach.ensures.during c.reach-2.ensures.during

pub returns-in-Err-Mem-reach-clause-reads : goal.returns-in-Err-Mem-reach-clause-reads
returns-in-Err-Mem-reach-clause-reads g c = let disk = g.F.Folder.disk in reads_more (disk c.args.folder.now) (disk c.reach.new.folder) (disk c.reach-2.new.folder) c.reach.ensures.reads c.reach-2.ensures.reads

pub returns-in-Err-Mem-reach-clause-during : goal.returns-in-Err-Mem-reach-clause-during
returns-in-Err-Mem-reach-clause-during g c = let disk = g.F.Folder.disk in same_more (disk c.args.folder.now) (disk c.reach.new.folder) (disk c.reach-2.new.folder) c.reach.ensures.during c.reach-2.ensures.during
