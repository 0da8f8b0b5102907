use Rattle.std.proofs.Common.{◌≡◌, ℤ, map, None, Some}
use Rattle.std.specs.Prelude.{slice_get}
use Rattle.cas_history.specs.Items.{listed, log_list}
use Rattle.cas_types.specs.declared.schema.TableSchema.{TableSchema}
use Rattle.cas_sessions.specs.Inner.Flushing.{FlushesFirst}
use Rattle.cas_sessions.proofs.node.Node.flush_table.Given as goal

abbrev pub invariant-loop-place : goal.invariant-loop-place
invariant-loop-place g l = record {
  first : (clock : ℤ) (t : TableSchema) → slice_get l.fn.self.tables.items l.table ≡ Some t → FlushesFirst t l.place l.numbers.items
      (record {
        limits = l.fn.self.limits;
        tables = l.fn.self.tables.items;
        shards = l.fn.self.shards.items;
        places = map (λ f. f.shard) l.fn.self.fronts.items;
        numbers = map (λ f. f.number) l.fn.self.fronts.items;
        clock = clock;
        list = listed log_list l.fn.self.room.log.pass.saw;
        session = l.fn.session.seat.list;
        calls = l.fn.session.seat.calls;
        accepted = l.fn.self.room.accepted;
        committed = l.fn.self.room.faults.committed;
        journal = l.fn.self.room.journal;
        faults = g.F.Folder.faults_of l.fn.self.room.folder;
        reads = g.F.Tally.Count.number l.fn.self.tally;
        last_file = l.fn.self.room.numbers.last;
        live = l.fn.self.live;
        frontiers = l.fn.self.frontiers.items;
      })
      (record {
        limits = l.self.limits;
        tables = l.self.tables.items;
        shards = l.self.shards.items;
        places = map (λ f. f.shard) l.self.fronts.items;
        numbers = map (λ f. f.number) l.self.fronts.items;
        clock = clock;
        list = listed log_list l.self.room.log.pass.saw;
        session = l.session.seat.list;
        calls = l.session.seat.calls;
        accepted = l.self.room.accepted;
        committed = l.self.room.faults.committed;
        journal = l.self.room.journal;
        faults = g.F.Folder.faults_of l.self.room.folder;
        reads = g.F.Tally.Count.number l.self.tally;
        last_file = l.self.room.numbers.last;
        live = l.self.live;
        frontiers = l.self.frontiers.items;
      })
      (g.F.Folder.disk l.fn.self.room.folder) (g.F.Folder.disk l.self.room.folder);
  going : l.self.room.journal.first ≡ None;
  limits : l.self.limits ≡ l.fn.self.limits;
  tables : l.self.tables ≡ l.fn.self.tables;
  sessions : l.self.maker.out ≡ l.fn.self.maker.out;
}
