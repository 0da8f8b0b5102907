use Rattle.std.proofs.Common.{◌≡◌, ◌<◌, ◌∙◌, ℕ, length, Some, refl, sym, ap, subst, arith}
use Rattle.std.specs.Prelude.{◌+◌, ◌*◌, slice_get, slice_set}
use Rattle.cas_disk.specs.Disk.{Leaves}
use Rattle.cas_changes.specs.Allowed.{FitsEntry}
use Rattle.cas_changes.specs.Saying.{said_by}
use Rattle.cas_changes.specs.Spelling.{entry_bytes}
use Rattle.cas_changes.specs.declared.entry.Change.{Change}
use Rattle.cas_history.specs.Items.{changes_list, listed, log_list}
use Rattle.cas_history.specs.Last.{frontier_of}
use Rattle.cas_journal.specs.Reach.{IsOver, reach_of}
use Rattle.cas_lasting.specs.History.{reach_with}
use Rattle.cas_journal.specs.Stores.{appended, committed_all}
use Rattle.cas_refs.specs.Counts.{at}
use Rattle.cas_room.specs.Changing.{MayBeTold, StandsAmid}
use Rattle.cas_room.specs.Keeping.{Keeps}
use Rattle.cas_room.specs.Rooms.{accepted_in}
use Rattle.cas_shard.specs.Stands.{ShardState}
use Rattle.cas_lasting.proofs.Entering.{number_is, place_is, seated}
use Rattle.cas_lasting.proofs.FlushChange.{change_short}
use Rattle.cas_sessions.proofs.FlushSound.{same_change, seated_again, sound_listed}
use Rattle.cas_sessions.proofs.node.Node.install_change.Goals as goal

pub frontiers_stand-requires : goal.frontiers_stand-requires
frontiers_stand-requires g c =
    let n = c.args.self.now in
    let f = c.index_mut-front.result.now in
    let ch = c.index_mut-changes.result.now in
    let co = c.index_mut-copy.result.now in
    let at_f : slice_get n.fronts.items c.args.place ≡ Some f = seated (λ q. q.shard) n.fronts.items n.limits.shards c.args.place f n.sound.places c.requires.within c.index_mut-front.ensures.value in
    let at_c : slice_get n.changes.items c.args.place ≡ Some ch = seated (λ q. q.shard) n.changes.items n.limits.shards c.args.place ch n.seated.0 c.requires.within c.index_mut-changes.ensures.value in
    let at_o : slice_get n.copies.items c.args.place ≡ Some co = seated (λ q. q.shard) n.copies.items n.limits.shards c.args.place co n.seated.1 c.requires.within c.index_mut-copy.ensures.value in
    let is_f : f.shard ≡ c.args.place = place_is (λ q. q.shard) n.fronts.items n.limits.shards c.args.place f n.sound.places c.requires.within at_f in
    let is_c : ch.shard ≡ c.args.place = place_is (λ q. q.shard) n.changes.items n.limits.shards c.args.place ch n.seated.0 c.requires.within at_c in
    let is_o : co.shard ≡ c.args.place = place_is (λ q. q.shard) n.copies.items n.limits.shards c.args.place co n.seated.1 c.requires.within at_o in
    is_f ∙ sym is_c

pub install-requires-clause-short : goal.install-requires-clause-short
install-requires-clause-short g c =
    subst (λ e. length (entry_bytes e) < 4294967296) (sym c.requires.adds.1)
    (change_short c.args.place c.args.number c.args.self.now.tables.items c.args.self.now.shards.items c.requires.adds.0 c.requires.adds.2)

pub install-requires-clause-shard : goal.install-requires-clause-shard
install-requires-clause-shard g c =
    let n = c.args.self.now in
    let f = c.index_mut-front.result.now in
    let ch = c.index_mut-changes.result.now in
    let co = c.index_mut-copy.result.now in
    let at_f : slice_get n.fronts.items c.args.place ≡ Some f = seated (λ q. q.shard) n.fronts.items n.limits.shards c.args.place f n.sound.places c.requires.within c.index_mut-front.ensures.value in
    let at_c : slice_get n.changes.items c.args.place ≡ Some ch = seated (λ q. q.shard) n.changes.items n.limits.shards c.args.place ch n.seated.0 c.requires.within c.index_mut-changes.ensures.value in
    let at_o : slice_get n.copies.items c.args.place ≡ Some co = seated (λ q. q.shard) n.copies.items n.limits.shards c.args.place co n.seated.1 c.requires.within c.index_mut-copy.ensures.value in
    let is_f : f.shard ≡ c.args.place = place_is (λ q. q.shard) n.fronts.items n.limits.shards c.args.place f n.sound.places c.requires.within at_f in
    let is_c : ch.shard ≡ c.args.place = place_is (λ q. q.shard) n.changes.items n.limits.shards c.args.place ch n.seated.0 c.requires.within at_c in
    let is_o : co.shard ≡ c.args.place = place_is (λ q. q.shard) n.copies.items n.limits.shards c.args.place co n.seated.1 c.requires.within at_o in
    let same : c.change_in-change.result.now ≡ c.requires.adds.0 = same_change c.change_in-change.result.now c.requires.adds.0 (sym c.change_in-change.ensures ∙ c.requires.adds.1) in (
      ap (λ (q : Change). q.shard) same ∙ c.requires.adds.2.is.of_shard ∙ sym is_c ∙ sym c.frontiers_stand.ensures.same.0,
      is_o ∙ sym is_c ∙ sym c.frontiers_stand.ensures.same.0,
      c.frontiers_stand.ensures.same.1 ∙ is_f ∙ sym is_c ∙ sym c.frontiers_stand.ensures.same.0,
    )

pub install-requires-clause-frontier : goal.install-requires-clause-frontier
install-requires-clause-frontier g c =
    let n = c.args.self.now in
    let f = c.index_mut-front.result.now in
    let ch = c.index_mut-changes.result.now in
    let co = c.index_mut-copy.result.now in
    let at_f : slice_get n.fronts.items c.args.place ≡ Some f = seated (λ q. q.shard) n.fronts.items n.limits.shards c.args.place f n.sound.places c.requires.within c.index_mut-front.ensures.value in
    let at_c : slice_get n.changes.items c.args.place ≡ Some ch = seated (λ q. q.shard) n.changes.items n.limits.shards c.args.place ch n.seated.0 c.requires.within c.index_mut-changes.ensures.value in
    let at_o : slice_get n.copies.items c.args.place ≡ Some co = seated (λ q. q.shard) n.copies.items n.limits.shards c.args.place co n.seated.1 c.requires.within c.index_mut-copy.ensures.value in
    let is_f : f.shard ≡ c.args.place = place_is (λ q. q.shard) n.fronts.items n.limits.shards c.args.place f n.sound.places c.requires.within at_f in
    let is_c : ch.shard ≡ c.args.place = place_is (λ q. q.shard) n.changes.items n.limits.shards c.args.place ch n.seated.0 c.requires.within at_c in
    let is_o : co.shard ≡ c.args.place = place_is (λ q. q.shard) n.copies.items n.limits.shards c.args.place co n.seated.1 c.requires.within at_o in
    let adds = c.requires.adds.2 in
    let same : c.change_in-change.result.now ≡ c.requires.adds.0 = same_change c.change_in-change.result.now c.requires.adds.0 (sym c.change_in-change.ensures ∙ c.requires.adds.1) in
    let number : f.number ≡ adds.x.number = number_is (λ q. q.number) (λ (q : ShardState). q.number) n.fronts.items n.shards.items c.args.place f adds.x n.sound.numbers at_f adds.there in
    let frontier : c.change_in-change.result.now.frontier ≡ adds.x.number = ap (λ (q : Change). q.frontier) same ∙ adds.is.frontier.0 in
    let list : frontier_of c.change_in-change.result.now.table (listed (changes_list c.frontiers_stand.new.changes.shard) c.frontiers_stand.new.changes.pass.saw)
    ≡ frontier_of c.change_in-change.result.now.table (listed (changes_list ch.shard) ch.pass.saw) =
    ap (λ (k : ℕ). frontier_of c.change_in-change.result.now.table (listed (changes_list k) c.frontiers_stand.new.changes.pass.saw)) c.frontiers_stand.ensures.same.0
    ∙ ap (frontier_of c.change_in-change.result.now.table) c.frontiers_stand.ensures.same.3 in
    let law = c.frontiers_stand.ensures.law c.change_in-change.result.now.table in
    (omega (arith, list, law, number, frontier), omega (arith, frontier, number, c.frontiers_stand.ensures.same.2))

pub invariant_of-self : goal.invariant_of-self
invariant_of-self g c =
    let n = c.args.self.now in
    let f = c.index_mut-front.result.now in
    let ch = c.index_mut-changes.result.now in
    let co = c.index_mut-copy.result.now in
    let at_f : slice_get n.fronts.items c.args.place ≡ Some f = seated (λ q. q.shard) n.fronts.items n.limits.shards c.args.place f n.sound.places c.requires.within c.index_mut-front.ensures.value in
    let at_c : slice_get n.changes.items c.args.place ≡ Some ch = seated (λ q. q.shard) n.changes.items n.limits.shards c.args.place ch n.seated.0 c.requires.within c.index_mut-changes.ensures.value in
    let at_o : slice_get n.copies.items c.args.place ≡ Some co = seated (λ q. q.shard) n.copies.items n.limits.shards c.args.place co n.seated.1 c.requires.within c.index_mut-copy.ensures.value in
    let is_f : f.shard ≡ c.args.place = place_is (λ q. q.shard) n.fronts.items n.limits.shards c.args.place f n.sound.places c.requires.within at_f in
    let is_c : ch.shard ≡ c.args.place = place_is (λ q. q.shard) n.changes.items n.limits.shards c.args.place ch n.seated.0 c.requires.within at_c in
    let is_o : co.shard ≡ c.args.place = place_is (λ q. q.shard) n.copies.items n.limits.shards c.args.place co n.seated.1 c.requires.within at_o in
    record {
      sound =
          sound_listed (λ q. q.shard) (λ q. q.number) _ _ _ _ _ c.args.place n.fronts.items f c.install.new.front n.sound at_f
          (c.install.ensures.seats.2 ∙ c.frontiers_stand.ensures.same.0 ∙ is_c ∙ sym is_f) (c.install.ensures.seats.3 ∙ c.frontiers_stand.ensures.same.2) c.install.ensures.size;
      readable = n.readable;
      unmade = n.unmade;
      kept = n.kept;
      seated = (
        seated_again (λ q. q.shard) n.changes.items c.args.place ch c.install.new.changes _ at_c (c.install.ensures.seats.0 ∙ c.frontiers_stand.ensures.same.0) n.seated.0,
        seated_again (λ q. q.shard) n.copies.items c.args.place co c.install.new.copy _ at_o
            (c.install.ensures.seats.1 ∙ c.frontiers_stand.ensures.same.0 ∙ is_c ∙ sym is_o) n.seated.1,
      );
      unlisted = λ k lt.
          ap (λ r. at r k) c.install.ensures.seats.5 ∙ n.unlisted k (subst (λ (j : ℕ). j < k) (ap (λ q. q.last) c.install.ensures.numbers) lt);
    }

pub invariant_of-self-in-Err-1 : goal.invariant_of-self-in-Err-1
invariant_of-self-in-Err-1 g c =
    let n = c.args.self.now in
    let f = c.index_mut-front.result.now in
    let ch = c.index_mut-changes.result.now in
    let co = c.index_mut-copy.result.now in
    let at_f : slice_get n.fronts.items c.args.place ≡ Some f = seated (λ q. q.shard) n.fronts.items n.limits.shards c.args.place f n.sound.places c.requires.within c.index_mut-front.ensures.value in
    let at_c : slice_get n.changes.items c.args.place ≡ Some ch = seated (λ q. q.shard) n.changes.items n.limits.shards c.args.place ch n.seated.0 c.requires.within c.index_mut-changes.ensures.value in
    let at_o : slice_get n.copies.items c.args.place ≡ Some co = seated (λ q. q.shard) n.copies.items n.limits.shards c.args.place co n.seated.1 c.requires.within c.index_mut-copy.ensures.value in
    let is_f : f.shard ≡ c.args.place = place_is (λ q. q.shard) n.fronts.items n.limits.shards c.args.place f n.sound.places c.requires.within at_f in
    let is_c : ch.shard ≡ c.args.place = place_is (λ q. q.shard) n.changes.items n.limits.shards c.args.place ch n.seated.0 c.requires.within at_c in
    let is_o : co.shard ≡ c.args.place = place_is (λ q. q.shard) n.copies.items n.limits.shards c.args.place co n.seated.1 c.requires.within at_o in
    record {
      sound =
          sound_listed (λ q. q.shard) (λ q. q.number) _ _ _ _ _ c.args.place n.fronts.items f c.install.new.front n.sound at_f
          (c.install.ensures.seats.2 ∙ c.frontiers_stand.ensures.same.0 ∙ is_c ∙ sym is_f) (c.install.ensures.seats.3 ∙ c.frontiers_stand.ensures.same.2) c.install.ensures.size;
      readable = n.readable;
      unmade = n.unmade;
      kept = n.kept;
      seated = (
        seated_again (λ q. q.shard) n.changes.items c.args.place ch c.install.new.changes _ at_c (c.install.ensures.seats.0 ∙ c.frontiers_stand.ensures.same.0) n.seated.0,
        seated_again (λ q. q.shard) n.copies.items c.args.place co c.install.new.copy _ at_o
            (c.install.ensures.seats.1 ∙ c.frontiers_stand.ensures.same.0 ∙ is_c ∙ sym is_o) n.seated.1,
      );
      unlisted = λ k lt.
          ap (λ r. at r k) c.install.ensures.seats.5 ∙ n.unlisted k (subst (λ (j : ℕ). j < k) (ap (λ q. q.last) c.install.ensures.numbers) lt);
    }

pub returns-in-Ok-clause-lists : goal.returns-in-Ok-clause-lists
returns-in-Ok-clause-lists g c = λ clock change is. record {
  limits = refl;
  tables = refl;
  shards = refl;
  clock = refl;
  list = ap (λ log. listed log_list log.pass.saw) c.install.ensures.log;
  session = c.install.ensures.session.0;
  calls = c.install.ensures.session.1;
  accepted = c.install.ensures.accepted;
  rises = c.install.ensures.rises;
  last = ap (λ q. q.last) c.install.ensures.numbers;
  reads = refl;
  faults = c.install.ensures.count;
  live = refl;
  frontiers = c.raise.ensures ∙ ap (λ (x : Change). slice_set c.args.self.now.frontiers.items (x.table * c.args.self.now.limits.shards + x.shard) x.frontier)
      (same_change c.change_in-change.result.now change (sym c.change_in-change.ensures ∙ is));
  all = c.in-Ok.ensures.all;
  keeps = λ found told keeps fits.
      subst (λ e. Keeps c.install.new.self.journal (g.F.Folder.disk c.install.new.self.folder) (listed log_list c.install.new.self.log.pass.saw) c.install.new.self.faults.committed found
      (appended e (committed_all told))) is
      (c.in-Ok.ensures.kept found told keeps (subst (λ e. FitsEntry (said_by told.entries) e) (sym is) fits));
  front = λ found told keeps fits.
      subst (λ e. Leaves (λ i. StandsAmid told e found (accepted_in (listed log_list c.args.self.now.room.log.pass.saw)) c.args.self.now.room.faults.committed i)
      (g.F.Folder.disk c.args.self.now.room.folder) (g.F.Folder.disk c.install.new.self.folder)) is
      (c.install.ensures.front found told keeps (subst (λ e. FitsEntry (said_by told.entries) e) (sym is) fits));
  during = c.install.ensures.tables;
  outcome = c.in-Ok.ensures.outcome;
  full = λ what most told. absurd cc;
  reach = subst (λ e. reach_of c.install.new.self.journal ≡ reach_with e (reach_of c.args.self.now.room.journal)) is c.in-Ok.ensures.reach;
  tells = c.install.ensures.tables.tells;
}

pub returns-in-Err-clause-lists : goal.returns-in-Err-clause-lists
returns-in-Err-clause-lists g c = λ clock change is. record {
  limits = refl;
  tables = refl;
  shards = refl;
  clock = refl;
  list = ap (λ log. listed log_list log.pass.saw) c.install.ensures.log;
  session = c.install.ensures.session.0;
  calls = c.install.ensures.session.1;
  accepted = c.install.ensures.accepted;
  rises = c.install.ensures.rises;
  last = ap (λ q. q.last) c.install.ensures.numbers;
  reads = refl;
  faults = c.install.ensures.count;
  live = refl;
  frontiers = refl;
  all = tt;
  keeps = λ found told keeps fits.
      let (u, may, kept) = c.in-Err.ensures.kept found told keeps (subst (λ e. FitsEntry (said_by told.entries) e) (sym is) fits) in
      (u, subst (λ e. MayBeTold c.in-Err.fault e told u) is may, kept);
  front = λ found told keeps fits.
      subst (λ e. Leaves (λ i. StandsAmid told e found (accepted_in (listed log_list c.args.self.now.room.log.pass.saw)) c.args.self.now.room.faults.committed i)
      (g.F.Folder.disk c.args.self.now.room.folder) (g.F.Folder.disk c.install.new.self.folder)) is
      (c.install.ensures.front found told keeps (subst (λ e. FitsEntry (said_by told.entries) e) (sym is) fits));
  during = c.install.ensures.tables;
  outcome = c.in-Err.ensures.outcome;
  full = λ what most told. subst (λ e. IsOver what e c.args.self.now.room.journal) is (c.in-Err.ensures.full what most told);
  reach = c.in-Err.ensures.reach;
  tells = c.install.ensures.tables.tells;
}
