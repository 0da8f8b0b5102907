use Rattle.std.proofs.Common.{◌≡◌, ◌+◌, Some, inl, inr, w64, ℤ, ℕ, pos, map, Err, ap, sym, subst, ◌∙◌, refl, arith}
use Rattle.std.proofs.lemmas.Int.{to_z-of_z}
use Rattle.cas_shard.specs.Shards.{prepare_answer, raised}
use Rattle.cas_shard.specs.Stands.{ShardState, Stands}
use Rattle.std.specs.Prelude.{slice_get, slice_set}
use Rattle.std.proofs.lemmas.Option.{slice_get_read, slice_get_within}
use Rattle.cas_history.specs.Items.{listed, log_list}
use Rattle.cas_journal.specs.Stores.{took, committed_all, SameTables}
use Rattle.cas_recovery.proofs.Places.{length_set}
use Rattle.cas_sessions.specs.Calls.{reply_of}
use Rattle.cas_sessions.specs.declared.answer.Fault.{Fault}
use Rattle.cas_lasting.proofs.Entering.{may_take, refused_at_once, starved_at_once, of_a_table, seated, place_is, number_is, not_taken, taken_and_committed, taken_and_failed, set_twice}
use Rattle.cas_lasting.proofs.Filing.{still_readable, still_unmade}
use Rattle.cas_lasting.proofs.Remembering.{entered_just, memory_entered, memory_prepared, prepared_just}
use Rattle.cas_lasting.proofs.Sounding.{sound_looked, sound_with}
use Rattle.cas_sessions.proofs.Telling.{printed, true_of_accepted, true_of_prepare, true_of_wrote}
use Rattle.cas_sessions.proofs.Idling.{idle_taken}
use Rattle.cas_lasting.proofs.Crashing.{amid_nothing, amid_room, amid_taken}
use Rattle.cas_disk.proofs.Moments.{no_call}
use Rattle.cas_room.proofs.Settling.{tables_twice}
use Rattle.cas_lasting.proofs.Listing.{going_on, lists_held, lists_nothing, lists_room, lists_untaken, listing_twice}
use Rattle.cas_lasting.proofs.Going.{numbers_raised, numbers_taken}
use Rattle.cas_sessions.proofs.node.Node.write.Goals as goal

-- src/writing.rt:56:49
pub returns-in-Err-Refused-clause-writes : goal.returns-in-Err-Refused-clause-writes
returns-in-Err-Refused-clause-writes g c = λ clock.
    let at = to_z-of_z w64 c.args.reading c.ranges.reading in
    refused_at_once _ c.args.write c.args.reading _ c.prepare.new.self c.prepare.result
    (record { sound = c.args.self.now.sound; within = c.requires.within.0; fits = c.requires.fits; seat = c.index_mut.ensures.value; files = c.prepare.ensures.files; answered = λ ts q stands quiet. c.prepare.ensures.answered ts q stands quiet ∙ ap (λ (k : ℤ). prepare_answer c.args.self.now.limits.segment k q c.args.write) at; stands = λ ts n q stands suits. subst (λ (k : ℤ). Stands ts (raised k q) c.prepare.new.self) at (c.prepare.ensures.stands ts n q stands suits); number = c.prepare.ensures.number; memory = prepared_just c.args.self.now.tables.items c.index_mut.result.now c.prepare.new.self c.args.write c.args.self.now.limits.shards c.requires.fits c.prepare.ensures.memory; bytes = c.prepare.ensures.bytes })
    _ _ _ c.in-Err-Refused.refused-is (c.in-Err-Refused.is ∙ ap Err c.in-Err-Refused.field-0-is)

pub returns-in-Err-Mem-clause-writes : goal.returns-in-Err-Mem-clause-writes
returns-in-Err-Mem-clause-writes g c = λ clock.
    let at = to_z-of_z w64 c.args.reading c.ranges.reading in
    starved_at_once _ c.args.write c.args.reading _ c.prepare.new.self c.prepare.result
    (record { sound = c.args.self.now.sound; within = c.requires.within.0; fits = c.requires.fits; seat = c.index_mut.ensures.value; files = c.prepare.ensures.files; answered = λ ts q stands quiet. c.prepare.ensures.answered ts q stands quiet ∙ ap (λ (k : ℤ). prepare_answer c.args.self.now.limits.segment k q c.args.write) at; stands = λ ts n q stands suits. subst (λ (k : ℤ). Stands ts (raised k q) c.prepare.new.self) at (c.prepare.ensures.stands ts n q stands suits); number = c.prepare.ensures.number; memory = prepared_just c.args.self.now.tables.items c.index_mut.result.now c.prepare.new.self c.args.write c.args.self.now.limits.shards c.requires.fits c.prepare.ensures.memory; bytes = c.prepare.ensures.bytes }) _

-- src/writing.rt:60:28
pub accept-requires-clause-of : goal.accept-requires-clause-of
accept-requires-clause-of g c =
    let at = to_z-of_z w64 c.args.reading c.ranges.reading in
    of_a_table
    (record {
      limits = c.args.self.now.limits;
      tables = c.args.self.now.tables.items;
      shards = c.args.self.now.shards.items;
      places = map (λ f. f.shard) c.args.self.now.fronts.items;
      numbers = map (λ f. f.number) c.args.self.now.fronts.items;
      clock = pos 0;
      list = listed log_list c.args.self.now.room.log.pass.saw;
      session = c.args.session.now.seat.list;
      calls = c.args.session.now.seat.calls;
      accepted = c.args.self.now.room.accepted;
      committed = c.args.self.now.room.faults.committed;
      journal = c.args.self.now.room.journal;
      faults = g.F.Folder.faults_of c.args.self.now.room.folder;
      reads = g.F.Tally.Count.number c.args.self.now.tally;
      last_file = c.args.self.now.room.numbers.last;
      live = c.args.self.now.live;
      frontiers = c.args.self.now.frontiers.items;
    }) c.args.write c.args.reading c.index_mut.result.now c.prepare.new.self c.prepare.result
    (record { sound = c.args.self.now.sound; within = c.requires.within.0; fits = c.requires.fits; seat = c.index_mut.ensures.value; files = c.prepare.ensures.files; answered = λ ts q stands quiet. c.prepare.ensures.answered ts q stands quiet ∙ ap (λ (k : ℤ). prepare_answer c.args.self.now.limits.segment k q c.args.write) at; stands = λ ts n q stands suits. subst (λ (k : ℤ). Stands ts (raised k q) c.prepare.new.self) at (c.prepare.ensures.stands ts n q stands suits); number = c.prepare.ensures.number; memory = prepared_just c.args.self.now.tables.items c.index_mut.result.now c.prepare.new.self c.args.write c.args.self.now.limits.shards c.requires.fits c.prepare.ensures.memory; bytes = c.prepare.ensures.bytes })
    c.in-Ok.mutation c.in-Ok.is c.in-Ok.ensures.prepared c.in-Ok.ensures.ready

-- src/writing.rt:60:28
pub accept-requires-clause-number : goal.accept-requires-clause-number
accept-requires-clause-number g c =
    let fs = c.args.self.now.fronts.items in
    let f = c.index_mut-front.result.now in
    let at_f : slice_get fs c.args.write.shard ≡ Some f = seated (λ q. q.shard) fs c.args.self.now.limits.shards c.args.write.shard f c.args.self.now.sound.places c.requires.within.0 c.index_mut-front.ensures.value in
    let at_x : slice_get c.args.self.now.shards.items c.args.write.shard ≡ Some c.index_mut.result.now = slice_get_read c.args.self.now.shards.items c.args.self.now.limits.shards c.args.write.shard c.index_mut.result.now (sym c.args.self.now.sound.count) c.requires.within.0 c.index_mut.ensures.value in
    let same = number_is (λ q. q.number) (λ (q : ShardState). q.number) fs c.args.self.now.shards.items c.args.write.shard f c.index_mut.result.now c.args.self.now.sound.numbers at_f at_x in (
      c.in-Ok.ensures.ready.shard ∙ sym (place_is (λ q. q.shard) fs c.args.self.now.limits.shards c.args.write.shard f c.args.self.now.sound.places c.requires.within.0 at_f),
      c.in-Ok.ensures.prepared.next ∙ ap (λ k. k + 1) (c.prepare.ensures.number ∙ sym same),
    )

-- src/writing.rt:60:28
pub accept-requires-clause-few : goal.accept-requires-clause-few
accept-requires-clause-few g c =
    let fs = c.args.self.now.fronts.items in
    let f = c.index_mut-front.result.now in
    let at_f : slice_get fs c.args.write.shard ≡ Some f = seated (λ q. q.shard) fs c.args.self.now.limits.shards c.args.write.shard f c.args.self.now.sound.places c.requires.within.0 c.index_mut-front.ensures.value in
    let at_x : slice_get c.args.self.now.shards.items c.args.write.shard ≡ Some c.index_mut.result.now = slice_get_read c.args.self.now.shards.items c.args.self.now.limits.shards c.args.write.shard c.index_mut.result.now (sym c.args.self.now.sound.count) c.requires.within.0 c.index_mut.ensures.value in
    let same = number_is (λ q. q.number) (λ (q : ShardState). q.number) fs c.args.self.now.shards.items c.args.write.shard f c.index_mut.result.now c.args.self.now.sound.numbers at_f at_x in
    (omega (arith, same, c.prepare.ensures.number, c.in-Ok.ensures.prepared.next, c.in-Ok.ensures.prepared.few), c.requires.few.0)

-- src/writing.rt:62:27
pub returns-in-Err-clause-writes : goal.returns-in-Err-clause-writes
returns-in-Err-clause-writes g c = λ clock.
    let at = to_z-of_z w64 c.args.reading c.ranges.reading in
    not_taken _ c.args.write c.args.reading c.index_mut.result.now c.prepare.new.self c.prepare.result
    (record { sound = c.args.self.now.sound; within = c.requires.within.0; fits = c.requires.fits; seat = c.index_mut.ensures.value; files = c.prepare.ensures.files; answered = λ ts q stands quiet. c.prepare.ensures.answered ts q stands quiet ∙ ap (λ (k : ℤ). prepare_answer c.args.self.now.limits.segment k q c.args.write) at; stands = λ ts n q stands suits. subst (λ (k : ℤ). Stands ts (raised k q) c.prepare.new.self) at (c.prepare.ensures.stands ts n q stands suits); number = c.prepare.ensures.number; memory = prepared_just c.args.self.now.tables.items c.index_mut.result.now c.prepare.new.self c.args.write c.args.self.now.limits.shards c.requires.fits c.prepare.ensures.memory; bytes = c.prepare.ensures.bytes })
    c.in-Ok.mutation c.in-Ok.is c.in-Ok.ensures.prepared c.in-Ok.ensures.ready
    _ _ _ c.in-Err.fault (reply_of (Err c.fault_for.result)) (ap (λ (x : Fault). reply_of (Err x)) c.fault_for.ensures ∙ printed c.in-Err.fault)
    (record {
      shards = refl;
      limits = refl;
      tables = refl;
      clock = refl;
      session = c.accept.ensures.seats.0;
      calls = c.in-Err.ensures.unentered.2;
      list = c.in-Err.ensures.unentered.0;
      accepted = c.in-Err.ensures.unaccepted;
      committed = c.accept.ensures.committed;
      keeps = c.in-Err.ensures.kept;
      ends = c.in-Err.ensures.outcome;
      reach = c.accept.ensures.reach;
      full = λ what most is. c.accept.ensures.full what most (c.in-Err.is ∙ ap Err is);
      count = c.accept.ensures.count;
      reads = refl;
      last_file = ap (λ q. q.last) c.accept.ensures.numbers;
      live = refl;
      frontiers = refl;
      during = c.accept.ensures.tables;
    })

-- src/writing.rt:39:5
pub returns-in-Ok-commit-clause-writes : goal.returns-in-Ok-commit-clause-writes
returns-in-Ok-commit-clause-writes g c = λ clock.
    let at = to_z-of_z w64 c.args.reading c.ranges.reading in
    taken_and_committed _ c.args.write c.args.reading c.index_mut.result.now c.prepare.new.self c.prepare.result
    (record { sound = c.args.self.now.sound; within = c.requires.within.0; fits = c.requires.fits; seat = c.index_mut.ensures.value; files = c.prepare.ensures.files; answered = λ ts q stands quiet. c.prepare.ensures.answered ts q stands quiet ∙ ap (λ (k : ℤ). prepare_answer c.args.self.now.limits.segment k q c.args.write) at; stands = λ ts n q stands suits. subst (λ (k : ℤ). Stands ts (raised k q) c.prepare.new.self) at (c.prepare.ensures.stands ts n q stands suits); number = c.prepare.ensures.number; memory = prepared_just c.args.self.now.tables.items c.index_mut.result.now c.prepare.new.self c.args.write c.args.self.now.limits.shards c.requires.fits c.prepare.ensures.memory; bytes = c.prepare.ensures.bytes })
    c.in-Ok.mutation c.in-Ok.is c.in-Ok.ensures.prepared c.in-Ok.ensures.ready
    _ _ _ c.index_mut-2.result.now c.enter.new.self
    (record {
      shards = refl;
      seat = c.index_mut-2.ensures.value;
      limits = refl;
      tables = refl;
      clock = refl;
      session = c.commit.ensures.session.0 ∙ c.accept.ensures.seats.0;
      calls = c.commit.ensures.session.1 ∙ c.in-Ok-accept.ensures.calls;
      few = c.requires.few.1;
      list = ap (λ l. listed log_list l.pass.saw) c.commit.ensures.log ∙ c.in-Ok-accept.ensures.entered.0;
      accepted = c.commit.ensures.accepted ∙ c.in-Ok-accept.ensures.accepted;
      stands = c.enter.ensures.stands;
      number = c.enter.ensures.number;
      memory = entered_just c.args.self.now.tables.items c.index_mut-2.result.now c.enter.new.self c.args.write c.in-Ok.mutation c.args.self.now.limits.segment c.args.self.now.limits.shards c.requires.fits c.in-Ok.ensures.ready c.enter.ensures.memory;
      bytes = c.enter.ensures.bytes;
      keeps = λ found told keeps may. let got = c.in-Ok-accept.ensures.kept found told keeps may in (got.0, committed_all (took c.in-Ok.mutation got.0), got.1, refl, refl, refl, inr refl, c.in-Ok-commit.ensures.kept found _ got.2);
      first = _;
      faults = _;
      ended = c.in-Ok-accept.ensures.outcome.1;
      reach = (_, c.accept.ensures.reach, c.commit.ensures.reach);
      rises = (c.accept.ensures.count, c.commit.ensures.count);
      files = c.enter.ensures.files;
      reads = refl;
      last_file = ap (λ q. q.last) (c.commit.ensures.numbers ∙ c.accept.ensures.numbers);
      live = refl;
      frontiers = refl;
      during = tables_twice _ _ _ c.accept.ensures.tables c.commit.ensures.tables;
    })
    _ c.in-Ok-accept.ensures.number
    c.in-Ok-commit.field-0 c.in-Ok-commit.ensures.outcome (c.in-Ok-commit.ensures.all ∙ sym c.commit.ensures.accepted)

-- src/writing.rt:39:5
pub returns-in-Err-commit-clause-writes : goal.returns-in-Err-commit-clause-writes
returns-in-Err-commit-clause-writes g c = λ clock.
    let at = to_z-of_z w64 c.args.reading c.ranges.reading in
    taken_and_failed _ c.args.write c.args.reading c.index_mut.result.now c.prepare.new.self c.prepare.result
    (record { sound = c.args.self.now.sound; within = c.requires.within.0; fits = c.requires.fits; seat = c.index_mut.ensures.value; files = c.prepare.ensures.files; answered = λ ts q stands quiet. c.prepare.ensures.answered ts q stands quiet ∙ ap (λ (k : ℤ). prepare_answer c.args.self.now.limits.segment k q c.args.write) at; stands = λ ts n q stands suits. subst (λ (k : ℤ). Stands ts (raised k q) c.prepare.new.self) at (c.prepare.ensures.stands ts n q stands suits); number = c.prepare.ensures.number; memory = prepared_just c.args.self.now.tables.items c.index_mut.result.now c.prepare.new.self c.args.write c.args.self.now.limits.shards c.requires.fits c.prepare.ensures.memory; bytes = c.prepare.ensures.bytes })
    c.in-Ok.mutation c.in-Ok.is c.in-Ok.ensures.prepared c.in-Ok.ensures.ready
    _ _ _ c.index_mut-2.result.now c.enter.new.self
    (record {
      shards = refl;
      seat = c.index_mut-2.ensures.value;
      limits = refl;
      tables = refl;
      clock = refl;
      session = c.commit.ensures.session.0 ∙ c.accept.ensures.seats.0;
      calls = c.commit.ensures.session.1 ∙ c.in-Ok-accept.ensures.calls;
      few = c.requires.few.1;
      list = ap (λ l. listed log_list l.pass.saw) c.commit.ensures.log ∙ c.in-Ok-accept.ensures.entered.0;
      accepted = c.commit.ensures.accepted ∙ c.in-Ok-accept.ensures.accepted;
      stands = c.enter.ensures.stands;
      number = c.enter.ensures.number;
      memory = entered_just c.args.self.now.tables.items c.index_mut-2.result.now c.enter.new.self c.args.write c.in-Ok.mutation c.args.self.now.limits.segment c.args.self.now.limits.shards c.requires.fits c.in-Ok.ensures.ready c.enter.ensures.memory;
      bytes = c.enter.ensures.bytes;
      keeps = λ found told keeps may. let got = c.in-Ok-accept.ensures.kept found told keeps may in (got.0, took c.in-Ok.mutation got.0, got.1, refl, refl, refl, inl (omega arith), c.in-Err-commit.ensures.kept found _ got.2);
      first = _;
      faults = _;
      ended = c.in-Ok-accept.ensures.outcome.1;
      reach = (_, c.accept.ensures.reach, c.commit.ensures.reach);
      rises = (c.accept.ensures.count, c.commit.ensures.count);
      files = c.enter.ensures.files;
      reads = refl;
      last_file = ap (λ q. q.last) (c.commit.ensures.numbers ∙ c.accept.ensures.numbers);
      live = refl;
      frontiers = refl;
      during = tables_twice _ _ _ c.accept.ensures.tables c.commit.ensures.tables;
    })
    (Unit {0}) c.in-Err-commit.field-0 c.in-Err-commit.ensures.outcome c.in-Err-commit.ensures.why (omega (arith, c.accept.ensures.committed, c.commit.ensures.rises))

-- src/writing.rt:39:5
pub returns-in-Err-clause-told : goal.returns-in-Err-clause-told
returns-in-Err-clause-told g c =
    true_of_prepare ℕ c.in-Err.fault c.fault_for.result _ _ _ _ _ _ c.fault_for.ensures c.in-Err.ensures.outcome c.in-Err.ensures.unentered.0

pub returns-in-Ok-commit-clause-told : goal.returns-in-Ok-commit-clause-told
returns-in-Ok-commit-clause-told g c = (
  slice_get_within c.args.self.now.tables.items c.args.write.table c.requires.fits.0 c.requires.fits.1,
  c.requires.within.0,
  true_of_wrote _ _ c.in-Ok.mutation _ _ _ _ _ _ c.in-Ok.ensures.ready.table c.in-Ok.ensures.ready.shard
      (ap (λ l. listed log_list l.pass.saw) c.commit.ensures.log ∙ c.in-Ok-accept.ensures.entered.0)
      (c.commit.ensures.session.1 ∙ c.in-Ok-accept.ensures.calls) c.in-Ok-accept.ensures.number,
)

pub returns-in-Err-commit-clause-told : goal.returns-in-Err-commit-clause-told
returns-in-Err-commit-clause-told g c =
    true_of_accepted _ _ c.in-Ok.mutation _ _ _ _ (ap (λ l. listed log_list l.pass.saw) c.commit.ensures.log ∙ c.in-Ok-accept.ensures.entered.0)
    (c.commit.ensures.session.1 ∙ c.in-Ok-accept.ensures.calls) c.in-Ok-accept.ensures.number

pub returns-in-Err-Refused-clause-crash : goal.returns-in-Err-Refused-clause-crash
returns-in-Err-Refused-clause-crash g c = λ clock h found told stands lasts. amid_nothing h found _ _ told stands lasts _

pub returns-in-Err-Mem-clause-crash : goal.returns-in-Err-Mem-clause-crash
returns-in-Err-Mem-clause-crash g c = λ clock h found told stands lasts. amid_nothing h found _ _ told stands lasts _

pub returns-in-Err-clause-crash : goal.returns-in-Err-clause-crash
returns-in-Err-clause-crash g c = λ clock h found told stands lasts.
    amid_room h found _ _ told stands lasts _ _ c.in-Err.ensures.unentered.0 (c.accept.ensures.crash told lasts.keeps.lasts)

pub returns-in-Ok-commit-clause-crash : goal.returns-in-Ok-commit-clause-crash
returns-in-Ok-commit-clause-crash g c = λ clock h found told stands lasts.
    let at = to_z-of_z w64 c.args.reading c.ranges.reading in
    let got = c.in-Ok-accept.ensures.kept found told lasts.keeps
    (may_take _ c.args.write c.args.reading c.index_mut.result.now c.prepare.new.self c.prepare.result
    (record { sound = c.args.self.now.sound; within = c.requires.within.0; fits = c.requires.fits; seat = c.index_mut.ensures.value; files = c.prepare.ensures.files; answered = λ ts q stands quiet. c.prepare.ensures.answered ts q stands quiet ∙ ap (λ (k : ℤ). prepare_answer c.args.self.now.limits.segment k q c.args.write) at; stands = λ ts n q stands suits. subst (λ (k : ℤ). Stands ts (raised k q) c.prepare.new.self) at (c.prepare.ensures.stands ts n q stands suits); number = c.prepare.ensures.number; memory = prepared_just c.args.self.now.tables.items c.index_mut.result.now c.prepare.new.self c.args.write c.args.self.now.limits.shards c.requires.fits c.prepare.ensures.memory; bytes = c.prepare.ensures.bytes })
    c.in-Ok.mutation c.in-Ok.is c.in-Ok.ensures.prepared c.in-Ok.ensures.ready h found _ told lasts) in
    amid_taken h found _ _ told stands lasts _ c.in-Ok.mutation _ _ got.0 _ _
    (ap (λ l. listed log_list l.pass.saw) c.commit.ensures.log ∙ c.in-Ok-accept.ensures.entered.0) got.1
    (c.accept.ensures.crash told lasts.keeps.lasts) (c.commit.ensures.crash _ got.2.lasts)

pub returns-in-Err-commit-clause-crash : goal.returns-in-Err-commit-clause-crash
returns-in-Err-commit-clause-crash g c = λ clock h found told stands lasts.
    let at = to_z-of_z w64 c.args.reading c.ranges.reading in
    let got = c.in-Ok-accept.ensures.kept found told lasts.keeps
    (may_take _ c.args.write c.args.reading c.index_mut.result.now c.prepare.new.self c.prepare.result
    (record { sound = c.args.self.now.sound; within = c.requires.within.0; fits = c.requires.fits; seat = c.index_mut.ensures.value; files = c.prepare.ensures.files; answered = λ ts q stands quiet. c.prepare.ensures.answered ts q stands quiet ∙ ap (λ (k : ℤ). prepare_answer c.args.self.now.limits.segment k q c.args.write) at; stands = λ ts n q stands suits. subst (λ (k : ℤ). Stands ts (raised k q) c.prepare.new.self) at (c.prepare.ensures.stands ts n q stands suits); number = c.prepare.ensures.number; memory = prepared_just c.args.self.now.tables.items c.index_mut.result.now c.prepare.new.self c.args.write c.args.self.now.limits.shards c.requires.fits c.prepare.ensures.memory; bytes = c.prepare.ensures.bytes })
    c.in-Ok.mutation c.in-Ok.is c.in-Ok.ensures.prepared c.in-Ok.ensures.ready h found _ told lasts) in
    amid_taken h found _ _ told stands lasts _ c.in-Ok.mutation _ _ got.0 _ _
    (ap (λ l. listed log_list l.pass.saw) c.commit.ensures.log ∙ c.in-Ok-accept.ensures.entered.0) got.1
    (c.accept.ensures.crash told lasts.keeps.lasts) (c.commit.ensures.crash _ got.2.lasts)

pub invariant_of-self : goal.invariant_of-self
invariant_of-self g c =
    let at_x : slice_get c.args.self.now.shards.items c.args.write.shard ≡ Some c.index_mut.result.now = slice_get_read c.args.self.now.shards.items c.args.self.now.limits.shards c.args.write.shard c.index_mut.result.now (sym c.args.self.now.sound.count) c.requires.within.0 c.index_mut.ensures.value in
    record {
      sound =
          sound_looked _ _ _ _ _ _ c.args.write.shard c.index_mut.result.now c.prepare.new.self c.args.self.now.sound at_x c.prepare.ensures.number;
      readable = still_readable _ c.args.self.now.shards.items c.args.write.shard c.index_mut.result.now c.prepare.new.self c.args.self.now.readable at_x c.prepare.ensures.files;
      unmade = still_unmade _ c.args.self.now.shards.items c.args.write.shard c.index_mut.result.now c.prepare.new.self c.args.self.now.unmade at_x c.prepare.ensures.files;
      kept = memory_prepared _ c.args.self.now.shards.items c.args.write.shard c.index_mut.result.now c.prepare.new.self c.args.self.now.kept at_x c.args.write c.args.self.now.limits.shards c.requires.fits c.prepare.ensures.memory;
      seated = c.args.self.now.seated;
      unlisted = c.args.self.now.unlisted;
    }

pub invariant_of-self-in-Err-accept : goal.invariant_of-self-in-Err-accept
invariant_of-self-in-Err-accept g c =
    let fs = c.args.self.now.fronts.items in
    let f = c.index_mut-front.result.now in
    let at_f : slice_get fs c.args.write.shard ≡ Some f = seated (λ q. q.shard) fs c.args.self.now.limits.shards c.args.write.shard f c.args.self.now.sound.places c.requires.within.0 c.index_mut-front.ensures.value in
    let at_x : slice_get c.args.self.now.shards.items c.args.write.shard ≡ Some c.index_mut.result.now = slice_get_read c.args.self.now.shards.items c.args.self.now.limits.shards c.args.write.shard c.index_mut.result.now (sym c.args.self.now.sound.count) c.requires.within.0 c.index_mut.ensures.value in
    let same = number_is (λ q. q.number) (λ (q : ShardState). q.number) fs c.args.self.now.shards.items c.args.write.shard f c.index_mut.result.now c.args.self.now.sound.numbers at_f at_x in
    record {
      sound =
          sound_with (λ q. q.shard) (λ q. q.number) _ _ _ _ _ _ c.args.write.shard fs f c.accept.new.front c.prepare.new.self c.args.self.now.sound at_f c.accept.ensures.seats.1
          (ap (λ q. q.number) c.in-Err.ensures.unentered.1 ∙ same ∙ sym c.prepare.ensures.number) refl c.accept.ensures.size;
      readable = still_readable _ c.args.self.now.shards.items c.args.write.shard c.index_mut.result.now c.prepare.new.self c.args.self.now.readable at_x c.prepare.ensures.files;
      unmade = still_unmade _ c.args.self.now.shards.items c.args.write.shard c.index_mut.result.now c.prepare.new.self c.args.self.now.unmade at_x c.prepare.ensures.files;
      kept = memory_prepared _ c.args.self.now.shards.items c.args.write.shard c.index_mut.result.now c.prepare.new.self c.args.self.now.kept at_x c.args.write c.args.self.now.limits.shards c.requires.fits c.prepare.ensures.memory;
      seated = c.args.self.now.seated;
      unlisted = λ k past. c.args.self.now.unlisted k (omega (arith, past, ap (λ q. q.last) c.accept.ensures.numbers));
    }

pub invariant_of-self-2 : goal.invariant_of-self-2
invariant_of-self-2 g c =
    let fs = c.args.self.now.fronts.items in
    let f = c.index_mut-front.result.now in
    let at_f : slice_get fs c.args.write.shard ≡ Some f = seated (λ q. q.shard) fs c.args.self.now.limits.shards c.args.write.shard f c.args.self.now.sound.places c.requires.within.0 c.index_mut-front.ensures.value in
    let xs = c.args.self.now.shards.items in
    let n = c.args.write.shard in
    let x = c.index_mut.result.now in
    let y = c.index_mut-2.result.now in
    let at_x : slice_get xs n ≡ Some x = slice_get_read xs c.args.self.now.limits.shards n x (sym c.args.self.now.sound.count) c.requires.within.0 c.index_mut.ensures.value in
    let ys = slice_set xs n c.prepare.new.self in
    let at_y : slice_get ys n ≡ Some y =
    slice_get_read ys c.args.self.now.limits.shards n y (sym (length_set xs n c.prepare.new.self ∙ c.args.self.now.sound.count)) c.requires.within.0 c.index_mut-2.ensures.value in
    record {
      sound =
          sound_with (λ q. q.shard) (λ q. q.number) _ _ _ _ _ _ c.args.write.shard fs f c.accept.new.front c.enter.new.self c.args.self.now.sound at_f c.accept.ensures.seats.1
          (c.in-Ok-accept.ensures.front ∙ sym c.enter.ensures.number) (set_twice c.args.self.now.shards.items c.args.write.shard c.prepare.new.self c.enter.new.self)
          (c.commit.ensures.size ∙ c.accept.ensures.size);
      readable = still_readable _ ys n y c.enter.new.self (still_readable _ xs n x c.prepare.new.self c.args.self.now.readable at_x c.prepare.ensures.files) at_y c.enter.ensures.files;
      unmade = still_unmade _ ys n y c.enter.new.self (still_unmade _ xs n x c.prepare.new.self c.args.self.now.unmade at_x c.prepare.ensures.files) at_y c.enter.ensures.files;
      kept = memory_entered _ ys n y c.enter.new.self
          (memory_prepared _ xs n x c.prepare.new.self c.args.self.now.kept at_x c.args.write c.args.self.now.limits.shards c.requires.fits c.prepare.ensures.memory)
          at_y c.args.write c.in-Ok.mutation c.args.self.now.limits.segment c.args.self.now.limits.shards c.requires.fits c.in-Ok.ensures.ready c.enter.ensures.memory;
      seated = c.args.self.now.seated;
      unlisted = λ k past. c.args.self.now.unlisted k (omega (arith, past, ap (λ q. q.last) (c.commit.ensures.numbers ∙ c.accept.ensures.numbers)));
    }

pub invariant_of-session-2 : goal.invariant_of-session-2
invariant_of-session-2 g c = record {
  idle = idle_taken _ _ c.in-Ok.mutation _ _ c.args.session.now.idle
      (ap (λ (k : ℕ). listed k c.commit.new.session.pass.saw) c.commit.ensures.session.0 ∙ c.commit.ensures.session.2
      ∙ ap (λ (k : ℕ). listed k c.accept.new.session.pass.saw) c.accept.ensures.seats.0 ∙ c.in-Ok-accept.ensures.entered.2);
}

pub returns-in-Err-Refused-clause-tables : goal.returns-in-Err-Refused-clause-tables
returns-in-Err-Refused-clause-tables g c = no_call SameTables _

pub returns-in-Err-Mem-clause-tables : goal.returns-in-Err-Mem-clause-tables
returns-in-Err-Mem-clause-tables g c = no_call SameTables _

pub returns-in-Err-clause-tables : goal.returns-in-Err-clause-tables
returns-in-Err-clause-tables g c = c.accept.ensures.tables

pub returns-in-Ok-commit-clause-tables : goal.returns-in-Ok-commit-clause-tables
returns-in-Ok-commit-clause-tables g c = tables_twice _ _ _ c.accept.ensures.tables c.commit.ensures.tables

pub returns-in-Err-commit-clause-tables : goal.returns-in-Err-commit-clause-tables
returns-in-Err-commit-clause-tables g c = tables_twice _ _ _ c.accept.ensures.tables c.commit.ensures.tables

pub returns-in-Err-Refused-clause-lists : goal.returns-in-Err-Refused-clause-lists
returns-in-Err-Refused-clause-lists g c = λ clock. lists_nothing _ _

pub returns-in-Err-Mem-clause-lists : goal.returns-in-Err-Mem-clause-lists
returns-in-Err-Mem-clause-lists g c = λ clock. lists_nothing _ _

pub returns-in-Err-clause-lists : goal.returns-in-Err-clause-lists
returns-in-Err-clause-lists g c = λ clock h found told stands lasts.
    lists_untaken _ _ _ told lasts.keeps.lasts _ _ _ _ _ c.in-Err.fault c.in-Err.ensures.outcome c.in-Err.ensures.untouched (c.accept.ensures.crash told lasts.keeps.lasts)

pub returns-in-Ok-commit-clause-lists : goal.returns-in-Ok-commit-clause-lists
returns-in-Ok-commit-clause-lists g c = λ clock h found told stands lasts.
    let at = to_z-of_z w64 c.args.reading c.ranges.reading in
    let got = c.in-Ok-accept.ensures.kept found told lasts.keeps
    (may_take _ c.args.write c.args.reading c.index_mut.result.now c.prepare.new.self c.prepare.result
    (record { sound = c.args.self.now.sound; within = c.requires.within.0; fits = c.requires.fits; seat = c.index_mut.ensures.value; files = c.prepare.ensures.files; answered = λ ts q stands quiet. c.prepare.ensures.answered ts q stands quiet ∙ ap (λ (k : ℤ). prepare_answer c.args.self.now.limits.segment k q c.args.write) at; stands = λ ts n q stands suits. subst (λ (k : ℤ). Stands ts (raised k q) c.prepare.new.self) at (c.prepare.ensures.stands ts n q stands suits); number = c.prepare.ensures.number; memory = prepared_just c.args.self.now.tables.items c.index_mut.result.now c.prepare.new.self c.args.write c.args.self.now.limits.shards c.requires.fits c.prepare.ensures.memory; bytes = c.prepare.ensures.bytes })
    c.in-Ok.mutation c.in-Ok.is c.in-Ok.ensures.prepared c.in-Ok.ensures.ready h found _ told lasts) in
    let going = going_on _ _ _ _ _ c.in-Ok-accept.ensures.outcome.1 in
    listing_twice _ _ _ (lists_room _ _ _ told lasts.keeps.lasts going.0 (c.accept.ensures.crash told lasts.keeps.lasts))
    (lists_held _ _ _ (took c.in-Ok.mutation got.0) got.2.lasts going.1 (c.commit.ensures.crash _ got.2.lasts))

pub returns-in-Err-commit-clause-lists : goal.returns-in-Err-commit-clause-lists
returns-in-Err-commit-clause-lists g c = λ clock h found told stands lasts.
    let at = to_z-of_z w64 c.args.reading c.ranges.reading in
    let got = c.in-Ok-accept.ensures.kept found told lasts.keeps
    (may_take _ c.args.write c.args.reading c.index_mut.result.now c.prepare.new.self c.prepare.result
    (record { sound = c.args.self.now.sound; within = c.requires.within.0; fits = c.requires.fits; seat = c.index_mut.ensures.value; files = c.prepare.ensures.files; answered = λ ts q stands quiet. c.prepare.ensures.answered ts q stands quiet ∙ ap (λ (k : ℤ). prepare_answer c.args.self.now.limits.segment k q c.args.write) at; stands = λ ts n q stands suits. subst (λ (k : ℤ). Stands ts (raised k q) c.prepare.new.self) at (c.prepare.ensures.stands ts n q stands suits); number = c.prepare.ensures.number; memory = prepared_just c.args.self.now.tables.items c.index_mut.result.now c.prepare.new.self c.args.write c.args.self.now.limits.shards c.requires.fits c.prepare.ensures.memory; bytes = c.prepare.ensures.bytes })
    c.in-Ok.mutation c.in-Ok.is c.in-Ok.ensures.prepared c.in-Ok.ensures.ready h found _ told lasts) in
    let going = going_on _ _ _ _ _ c.in-Ok-accept.ensures.outcome.1 in
    listing_twice _ _ _ (lists_room _ _ _ told lasts.keeps.lasts going.0 (c.accept.ensures.crash told lasts.keeps.lasts))
    (lists_held _ _ _ (took c.in-Ok.mutation got.0) got.2.lasts going.1 (c.commit.ensures.crash _ got.2.lasts))

pub returns-in-Err-Refused-clause-numbers : goal.returns-in-Err-Refused-clause-numbers
returns-in-Err-Refused-clause-numbers g c = λ clock.
    numbers_raised _ _ c.args.write.shard c.index_mut.result.now c.prepare.new.self
    (slice_get_read c.args.self.now.shards.items c.args.self.now.limits.shards c.args.write.shard c.index_mut.result.now (sym c.args.self.now.sound.count) c.requires.within.0 c.index_mut.ensures.value)
    refl refl c.prepare.ensures.number

pub returns-in-Err-Mem-clause-numbers : goal.returns-in-Err-Mem-clause-numbers
returns-in-Err-Mem-clause-numbers g c = λ clock.
    numbers_raised _ _ c.args.write.shard c.index_mut.result.now c.prepare.new.self
    (slice_get_read c.args.self.now.shards.items c.args.self.now.limits.shards c.args.write.shard c.index_mut.result.now (sym c.args.self.now.sound.count) c.requires.within.0 c.index_mut.ensures.value)
    refl refl c.prepare.ensures.number

pub returns-in-Err-clause-numbers : goal.returns-in-Err-clause-numbers
returns-in-Err-clause-numbers g c = λ clock.
    numbers_raised _ _ c.args.write.shard c.index_mut.result.now c.prepare.new.self
    (slice_get_read c.args.self.now.shards.items c.args.self.now.limits.shards c.args.write.shard c.index_mut.result.now (sym c.args.self.now.sound.count) c.requires.within.0 c.index_mut.ensures.value)
    refl c.in-Err.ensures.unentered.0 c.prepare.ensures.number

pub returns-in-Ok-commit-clause-numbers : goal.returns-in-Ok-commit-clause-numbers
returns-in-Ok-commit-clause-numbers g c = λ clock.
    numbers_taken _ _ c.args.write.shard c.index_mut.result.now c.enter.new.self
    (slice_get_read c.args.self.now.shards.items c.args.self.now.limits.shards c.args.write.shard c.index_mut.result.now (sym c.args.self.now.sound.count) c.requires.within.0 c.index_mut.ensures.value)
    (set_twice c.args.self.now.shards.items c.args.write.shard c.prepare.new.self c.enter.new.self) c.in-Ok.mutation _ _
    (ap (λ l. listed log_list l.pass.saw) c.commit.ensures.log ∙ c.in-Ok-accept.ensures.entered.0) c.in-Ok.ensures.ready.shard
    (c.in-Ok.ensures.prepared.next ∙ ap (λ k. k + 1) c.prepare.ensures.number) c.enter.ensures.number

pub returns-in-Err-commit-clause-numbers : goal.returns-in-Err-commit-clause-numbers
returns-in-Err-commit-clause-numbers g c = λ clock.
    numbers_taken _ _ c.args.write.shard c.index_mut.result.now c.enter.new.self
    (slice_get_read c.args.self.now.shards.items c.args.self.now.limits.shards c.args.write.shard c.index_mut.result.now (sym c.args.self.now.sound.count) c.requires.within.0 c.index_mut.ensures.value)
    (set_twice c.args.self.now.shards.items c.args.write.shard c.prepare.new.self c.enter.new.self) c.in-Ok.mutation _ _
    (ap (λ l. listed log_list l.pass.saw) c.commit.ensures.log ∙ c.in-Ok-accept.ensures.entered.0) c.in-Ok.ensures.ready.shard
    (c.in-Ok.ensures.prepared.next ∙ ap (λ k. k + 1) c.prepare.ensures.number) c.enter.ensures.number

pub returns-in-Err-clause-counts : goal.returns-in-Err-clause-counts
returns-in-Err-clause-counts g c = (
  omega (arith, c.in-Err.ensures.unentered.2),
  omega (arith, c.in-Err.ensures.unaccepted),
  omega (arith, ap (λ q. q.last) c.accept.ensures.numbers),
)

pub returns-in-Ok-commit-clause-counts : goal.returns-in-Ok-commit-clause-counts
returns-in-Ok-commit-clause-counts g c = (
  omega (arith, c.in-Ok-accept.ensures.calls, c.commit.ensures.session.1),
  omega (arith, c.in-Ok-accept.ensures.accepted, c.commit.ensures.accepted),
  omega (arith, ap (λ q. q.last) (c.commit.ensures.numbers ∙ c.accept.ensures.numbers)),
)

pub returns-in-Err-commit-clause-counts : goal.returns-in-Err-commit-clause-counts
returns-in-Err-commit-clause-counts g c = (
  omega (arith, c.in-Ok-accept.ensures.calls, c.commit.ensures.session.1),
  omega (arith, c.in-Ok-accept.ensures.accepted, c.commit.ensures.accepted),
  omega (arith, ap (λ q. q.last) (c.commit.ensures.numbers ∙ c.accept.ensures.numbers)),
)
