use Rattle.std.proofs.Common.{◌≤◌, ◌<◌, ◌+◌, ◌^◌, length, map}
use Rattle.cas_disk.specs.Disk.{During}
use Rattle.cas_history.specs.Items.{listed, log_list}
use Rattle.cas_lasting.specs.Listing.{SameUpTo}
use Rattle.cas_node.specs.Inner.Turns.{IsToldSo}
use Rattle.cas_node.proofs.SessionLemmas.{AllSoFar}
use Rattle.cas_node.proofs.script.run_lines.Given as goal

abbrev pub invariant-loop-rest : goal.invariant-loop-rest
invariant-loop-rest g l = record {
  so_far : AllSoFar l.fn.ask.kind (g.C.Clock.may_give l.fn.ask.clock.now)
      (record {
        limits = l.initial.runner.node.limits;
        tables = l.initial.runner.node.tables.items;
        shards = l.initial.runner.node.shards.items;
        places = map (λ f. f.shard) l.initial.runner.node.fronts.items;
        numbers = map (λ f. f.number) l.initial.runner.node.fronts.items;
        clock = l.initial.runner.seconds;
        list = listed log_list l.initial.runner.node.room.log.pass.saw;
        session = l.initial.runner.session.seat.list;
        calls = l.initial.runner.session.seat.calls;
        accepted = l.initial.runner.node.room.accepted;
        committed = l.initial.runner.node.room.faults.committed;
        journal = l.initial.runner.node.room.journal;
        faults = g.F.Folder.faults_of l.initial.runner.node.room.folder;
        reads = g.F.Tally.Count.number l.initial.runner.node.tally;
        last_file = l.initial.runner.node.room.numbers.last;
        live = l.initial.runner.node.live;
        frontiers = l.initial.runner.node.frontiers.items;
      })
      (record {
        limits = l.runner.node.limits;
        tables = l.runner.node.tables.items;
        shards = l.runner.node.shards.items;
        places = map (λ f. f.shard) l.runner.node.fronts.items;
        numbers = map (λ f. f.number) l.runner.node.fronts.items;
        clock = l.runner.seconds;
        list = listed log_list l.runner.node.room.log.pass.saw;
        session = l.runner.session.seat.list;
        calls = l.runner.session.seat.calls;
        accepted = l.runner.node.room.accepted;
        committed = l.runner.node.room.faults.committed;
        journal = l.runner.node.room.journal;
        faults = g.F.Folder.faults_of l.runner.node.room.folder;
        reads = g.F.Tally.Count.number l.runner.node.tally;
        last_file = l.runner.node.room.numbers.last;
        live = l.runner.node.live;
        frontiers = l.runner.node.frontiers.items;
      })
      (g.F.Folder.disk l.initial.runner.node.room.folder) (g.F.Folder.disk l.runner.node.room.folder)
      l.fn.script l.rest (g.K.Sink.took l.initial.sink) (g.K.Sink.took l.sink) l.cause;
  tables : During (SameUpTo l.initial.runner.node.room.numbers.last) (g.F.Folder.disk l.initial.runner.node.room.folder) (g.F.Folder.disk l.runner.node.room.folder);
  last : l.initial.runner.node.room.numbers.last ≤ l.runner.node.room.numbers.last;
  told : IsToldSo l.cause;
  few : l.runner.session.seat.calls + length l.rest ≤ length l.fn.script;
  accepted : l.runner.node.room.accepted + length l.rest ≤ length l.fn.script;
  small : length l.fn.script < 2 ^ 64;
  faults : g.K.Sink.faults l.initial.sink ≤ g.K.Sink.faults l.sink;
  stalls : g.K.Sink.stalls l.initial.sink ≤ g.K.Sink.stalls l.sink;
}

abbrev pub decreases-loop-rest : goal.decreases-loop-rest
decreases-loop-rest g l = length l.rest
