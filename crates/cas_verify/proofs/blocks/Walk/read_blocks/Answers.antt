use Rattle.std.proofs.Common.{Ok, Err, arith}
use Rattle.cas_bounds.specs.ClusteringOrder.{clustering_order}
use Rattle.cas_verify.proofs.Turns.{turn_refused, turn_stops, turn_goes}
use Rattle.cas_verify.proofs.blocks.Walk.read_blocks.Goals as goal

pub turns-init : goal.turns-init
turns-init g c = record { on = λ b is n few. (n, few, λ r x e. e); sound = c.requires.sound; faults = omega arith }

pub turns-preserved : goal.turns-preserved
turns-preserved g c =
    let cols = c.args.table.now.columns in
    let end = c.args.table.now.kept.end in
    let number = c.args.table.now.info.number in
    let w = c.turns.self in
    let v = c.step.new.self in
    record {
      on = λ b is n few.
          let on = c.turns.invariant.on b is n few in
          let more = turn_goes (clustering_order cols) cols end b on.0 number w v c.in-Ok-true.field-0 c.in-Ok-true.field-0-test on.1 c.in-Ok-true.ensures.within.0
          (c.in-Ok-true.ensures.told b is) in
          (more.0, more.1, λ r x e. on.2 r x (more.2 number r x e));
      sound = c.in-Ok-true.ensures.sound;
      faults = omega (arith, c.turns.invariant.faults, c.step.ensures.count);
    }

pub returns-in-Ok-false-clause-told : goal.returns-in-Ok-false-clause-told
returns-in-Ok-false-clause-told g c = λ b is n few.
    let cols = c.args.table.now.columns in
    let end = c.args.table.now.kept.end in
    let on = c.turns.invariant.on b is n few in
    on.2 (Ok tt) c.step.new.self (turn_stops (clustering_order cols) cols end b on.0 c.args.table.now.info.number c.turns.self c.step.new.self c.in-Ok-false.field-0
    c.in-Ok-false.field-0-test on.1 (c.in-Ok-false.ensures.told b is))

pub returns-in-Err-clause-told : goal.returns-in-Err-clause-told
returns-in-Err-clause-told g c = λ b is n few.
    let cols = c.args.table.now.columns in
    let end = c.args.table.now.kept.end in
    let v = c.step.new.self in
    let on = c.turns.invariant.on b is n few in
    on.2 (Err c.in-Err.fault) v (turn_refused (clustering_order cols) cols end b on.0 c.args.table.now.info.number c.turns.self c.in-Err.fault on.1
    (c.in-Err.ensures.told b is))
