-- Segments that are dropped, one after another.
use Rattle.std.proofs.Common.{◌∙◌, ◌≤◌, refl, ap, length, arith}
use Rattle.std.proofs.lemmas.List.{length-drop}
use Rattle.cas_disk.proofs.Moments.{no_call}
use Rattle.cas_changes.specs.Saying.{said_by}
use Rattle.cas_journal.specs.Reach.{reach_of}
use Rattle.cas_journal.proofs.Moving.{no_first}
use Rattle.cas_journal.proofs.Reaching.{none_dropped, one_more_dropped}
use Rattle.cas_journal.proofs.Tables.{tables_more}
use Rattle.cas_journal.proofs.Shrinking.{lowest_of, some_first, still_going, none_yet, next_turn, more_leaves, fault_dropped}
use Rattle.cas_journal.proofs.Staying.{lowest_needed}
use Rattle.cas_journal.proofs.journal.Journal.drop_covered.Goals as goal

pub turns-init : goal.turns-init
turns-init g c = record {
  free = c.requires.free;
  going = no_first c.args.self.now.first c.in_default.not-Some;
  lasts = λ t lasts. none_yet c.args.self.now.notes.shards c.args.frontiers.now t c.args.self.now (g.F.Folder.disk c.args.folder.now) lasts;
  during = λ t lasts. no_call _ (g.F.Folder.disk c.args.folder.now);
  tables = no_call _ (g.F.Folder.disk c.args.folder.now);
  faults = omega arith;
  few = omega arith;
  shards = refl;
  log = refl;
  spare = refl;
  last = refl;
  reach = none_dropped (reach_of c.args.self.now);
  size = refl;
}

pub turns-preserved : goal.turns-preserved
turns-preserved g c =
    let disk = g.F.Folder.disk in
    let j = c.turns.self in
    let k = c.drop_segment.new.self in
    let inv = c.turns.invariant in
    let shards = c.args.self.now.notes.shards in
    let frontiers = c.args.frontiers.now in
    let number = c.in-Some-first_covered.number in
    let first = c.in-Some-first_covered.ensures.covered in
    let some : 1 ≤ length j.notes.list.items = some_first j.notes.list.items frontiers number first in
    record {
      free = c.drop_segment.ensures.free;
      going = still_going j.first k.first _ _ _ inv.going c.in_default-drop_segment.ensures.outcome;
      lasts = λ t was.
          let (u, dropped, count, now) = inv.lasts t was in
          next_turn shards frontiers t u dropped j number inv.shards first (disk c.turns.folder) c.turns.dropped count k (disk c.drop_segment.new.folder)
          (c.in_default-drop_segment.ensures.lasts u now
          (lowest_of j.notes.list.items frontiers number (said_by u.entries).segments (now.goes inv.going).noted.1.numbers first));
      during = λ t was.
          let (u, dropped, count, now) = inv.lasts t was in
          more_leaves shards frontiers t u dropped j number inv.shards first (disk c.turns.folder) (disk c.args.folder.now) (disk c.drop_segment.new.folder) (inv.during t was)
          (c.drop_segment.ensures.during u now
          (lowest_of j.notes.list.items frontiers number (said_by u.entries).segments (now.goes inv.going).noted.1.numbers first));
      tables = tables_more (disk c.args.folder.now) (disk c.turns.folder) (disk c.drop_segment.new.folder) inv.tables c.drop_segment.ensures.tables;
      faults = omega (arith, inv.faults, c.drop_segment.ensures.count);
      few = omega (arith, inv.few, some, j.notes.list.ok.0, k.notes.list.ok.0, ap length c.in_default-drop_segment.ensures.notes.1, length-drop 1 j.notes.list.items);
      shards = c.drop_segment.ensures.notes.0 ∙ inv.shards;
      log = c.drop_segment.ensures.log ∙ inv.log;
      spare = c.drop_segment.ensures.spare ∙ inv.spare;
      last = c.drop_segment.ensures.last ∙ inv.last;
      reach = one_more_dropped c.turns.dropped number (reach_of c.args.self.now) (reach_of j) (reach_of k) inv.reach c.in_default-drop_segment.ensures.reach;
      size = c.drop_segment.ensures.size ∙ inv.size;
    }

pub returns-in-Err-clause-lasts : goal.returns-in-Err-clause-lasts
returns-in-Err-clause-lasts g c t was =
    let disk = g.F.Folder.disk in
    let j = c.turns.self in
    let inv = c.turns.invariant in
    let number = c.in-Some-first_covered.number in
    let first = c.in-Some-first_covered.ensures.covered in
    let (u, dropped, count, now) = inv.lasts t was in
    fault_dropped c.args.self.now.notes.shards c.args.frontiers.now t u dropped j number inv.shards first (disk c.turns.folder) c.in-Err.fault c.drop_segment.new.self
    (disk c.drop_segment.new.folder)
    (c.in-Err.ensures.lasts u now
    (lowest_of j.notes.list.items c.args.frontiers.now number (said_by u.entries).segments (now.goes inv.going).noted.1.numbers first))

pub returns-in-Err-clause-during : goal.returns-in-Err-clause-during
returns-in-Err-clause-during g c t was =
    let disk = g.F.Folder.disk in
    let j = c.turns.self in
    let inv = c.turns.invariant in
    let number = c.in-Some-first_covered.number in
    let first = c.in-Some-first_covered.ensures.covered in
    let (u, dropped, count, now) = inv.lasts t was in
    more_leaves c.args.self.now.notes.shards c.args.frontiers.now t u dropped j number inv.shards first (disk c.turns.folder) (disk c.args.folder.now) (disk c.drop_segment.new.folder)
    (inv.during t was)
    (c.drop_segment.ensures.during u now
    (lowest_of j.notes.list.items c.args.frontiers.now number (said_by u.entries).segments (now.goes inv.going).noted.1.numbers first))

pub returns-in-Err-clause-tables : goal.returns-in-Err-clause-tables
returns-in-Err-clause-tables g c =
    let disk = g.F.Folder.disk in
    tables_more (disk c.args.folder.now) (disk c.turns.folder) (disk c.drop_segment.new.folder) c.turns.invariant.tables c.drop_segment.ensures.tables

pub returns-clause-stays : goal.returns-clause-stays
returns-clause-stays g c t lasts =
    let inv = c.turns.invariant in
    lowest_needed c.args.self.now.notes.shards c.args.frontiers.now c.turns.self (g.F.Folder.disk c.turns.folder) t (lasts.goes inv.going) inv.shards
    (c.first_covered.ensures.stays (no_first c.first_covered.result c.in_default-first_covered.not-Some)) (said_by t.entries).segments refl
