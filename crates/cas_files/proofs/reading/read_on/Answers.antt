use Rattle.std.proofs.Common.{◌≡◌, ◌+◌, ◌<◌, length, length-take, inr, subst, sym, arith}
use Rattle.cas_disk.specs.Disk.{bytes_of}
use Rattle.cas_files.specs.Ahead.{AreNext}
use Rattle.cas_files.proofs.Files.{same_more, reads_more, piece_more, piece_last, given_at_start}
use Rattle.cas_files.proofs.reading.read_on.Goals as goal

pub returns-in-Err-clause-reads : goal.returns-in-Err-clause-reads
returns-in-Err-clause-reads g c = let disk = g.F.Folder.disk in reads_more (disk c.args.folder.now) (disk c.loop-n.folder) (disk c.read_at.new.self) c.loop-n.invariant.reads c.read_at.ensures.reads

pub returns-in-Err-clause-during : goal.returns-in-Err-clause-during
returns-in-Err-clause-during g c = let disk = g.F.Folder.disk in same_more (disk c.args.folder.now) (disk c.loop-n.folder) (disk c.read_at.new.self) c.loop-n.invariant.during c.read_at.ensures.during

pub returns-then-given-eq0-clause-next : goal.returns-then-given-eq0-clause-next
returns-then-given-eq0-clause-next g c image read was =
    let disk = g.F.Folder.disk in
    let is : c.len-in-loop-n.result ≡ length c.loop-n.bytes.items = omega arith in
    let some : 0 < length c.read_at.new.into = omega arith in
    let given = given_at_start (disk c.args.folder.now) (disk c.loop-n.folder) c.loop-n.invariant.during c.loop-n.invariant.reads c.args.n _ _ _ c.in-Ok.ensures.given image read in
    let next = c.loop-n.invariant.next image read was in
    (next, inr (piece_last c.args.at c.in-Ok.given _ (bytes_of (image c.args.n)) c.loop-n.bytes.items c.read_at.new.into next (omega (arith, is)) given c.if-given-eq0.true some))

pub returns-then-given-eq0-clause-reads : goal.returns-then-given-eq0-clause-reads
returns-then-given-eq0-clause-reads g c = let disk = g.F.Folder.disk in reads_more (disk c.args.folder.now) (disk c.loop-n.folder) (disk c.read_at.new.self) c.loop-n.invariant.reads c.read_at.ensures.reads

pub returns-then-given-eq0-clause-during : goal.returns-then-given-eq0-clause-during
returns-then-given-eq0-clause-during g c = let disk = g.F.Folder.disk in same_more (disk c.args.folder.now) (disk c.loop-n.folder) (disk c.read_at.new.self) c.loop-n.invariant.during c.read_at.ensures.during

pub returns-in_err-extend_from_slice-clause-reads : goal.returns-in_err-extend_from_slice-clause-reads
returns-in_err-extend_from_slice-clause-reads g c = let disk = g.F.Folder.disk in reads_more (disk c.args.folder.now) (disk c.loop-n.folder) (disk c.read_at.new.self) c.loop-n.invariant.reads c.read_at.ensures.reads

pub returns-in_err-extend_from_slice-clause-during : goal.returns-in_err-extend_from_slice-clause-during
returns-in_err-extend_from_slice-clause-during g c = let disk = g.F.Folder.disk in same_more (disk c.args.folder.now) (disk c.loop-n.folder) (disk c.read_at.new.self) c.loop-n.invariant.during c.read_at.ensures.during

pub loop-n-preserved : goal.loop-n-preserved
loop-n-preserved g c =
    let disk = g.F.Folder.disk in
    let is : c.len-in-loop-n.result ≡ length c.loop-n.bytes.items = omega arith in
    record {
      next = λ image read was.
          let given = given_at_start (disk c.args.folder.now) (disk c.loop-n.folder) c.loop-n.invariant.during c.loop-n.invariant.reads c.args.n _ _ _ c.in-Ok.ensures.given image read in
          let more = piece_more c.args.at c.in-Ok.given _ (bytes_of (image c.args.n)) c.loop-n.bytes.items c.read_at.new.into (c.loop-n.invariant.next image read was) (omega (arith, is)) given in
          subst (λ l. AreNext c.args.at (bytes_of (image c.args.n)) l) (sym c.in_ok-extend_from_slice.ensures.items) more;
      bounded = omega (arith, c.in_ok-extend_from_slice.ensures.len, length-take c.in-Ok.given c.read_at.new.into, c.in-Ok.ensures.bound, c.read_at.auto.into, c.loop-n-test.true);
      reads = reads_more (disk c.args.folder.now) (disk c.loop-n.folder) (disk c.read_at.new.self) c.loop-n.invariant.reads c.read_at.ensures.reads;
      during = same_more (disk c.args.folder.now) (disk c.loop-n.folder) (disk c.read_at.new.self) c.loop-n.invariant.during c.read_at.ensures.during;
      faults = omega (arith, c.loop-n.invariant.faults, c.read_at.ensures.count);
    }
