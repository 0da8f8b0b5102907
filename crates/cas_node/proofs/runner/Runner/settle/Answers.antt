use Rattle.std.proofs.Common.{◌<◌, ◌∙◌, length, map, ap, arith, subst}
use Rattle.std.specs.Prelude.{◌||◌, IfSome}
use Rattle.cas_history.specs.Items.{listed, log_list}
use Rattle.cas_lasting.proofs.Listing.{up_to_twice}
use Rattle.cas_node.proofs.Carrying.{settled_at, settles}
use Rattle.cas_node.proofs.runner.Runner.settle.Goals as goal

pub returns-in-Some-clause-settles : goal.returns-in-Some-clause-settles
returns-in-Some-clause-settles g c =
    let n = c.args.self.now.node in
    let within = subst (λ o. IfSome o (λ p. (p.0 < length n.tables.items) × (p.1 < n.limits.shards))) c.in-Some.is c.requires.within in
    settled_at c.args.place c.in-Some.table c.in-Some.shard _ _ _ _ _ c.in-Some.is
    (settles _ _ _ _ c.in-Some.shard c.in-Some.table c.flush_full-told.result (omega (arith, n.sound.count, within.1))
    (λ few.
    let (none, same, session) = c.flush_full-told.ensures.idle few in (
      none,
      (λ i. record {
        limits = (same i).limits;
        tables = (same i).tables.items;
        shards = (same i).shards.items;
        places = map (λ f. f.shard) (same i).fronts.items;
        numbers = map (λ f. f.number) (same i).fronts.items;
        clock = c.args.self.now.seconds;
        list = listed log_list (same i).room.log.pass.saw;
        session = (session i).seat.list;
        calls = (session i).seat.calls;
        accepted = (same i).room.accepted;
        committed = (same i).room.faults.committed;
        journal = (same i).room.journal;
        faults = g.F.Folder.faults_of (same i).room.folder;
        reads = g.F.Tally.Count.number (same i).tally;
        last_file = (same i).room.numbers.last;
        live = (same i).live;
        frontiers = (same i).frontiers.items;
      }),
      ap (λ k. g.F.Folder.disk k.room.folder) same,
    ))
    _ _ c.lists_one.result c.drop_behind-starved.result c.lists_one.ensures
    _ (c.either.ensures ∙ ap (λ b. b || c.drop_behind-starved.result) c.is_want.ensures) (λ known. c.flush_full-told.ensures.settles c.args.self.now.seconds known.0.0 known.0.1 known.1)
    c.drop_behind-starved.ensures.drops)

pub returns-in-Some-clause-tables : goal.returns-in-Some-clause-tables
returns-in-Some-clause-tables g c =
    up_to_twice _ _ _ _ _ c.flush_full-told.ensures.last c.flush_full-told.ensures.tables c.drop_behind-starved.ensures.tables
