use Rattle.std.proofs.Common.{◌≡◌, ◌<◌, length, arith}
use Rattle.std.specs.Vec.{vec_len}
use Rattle.cas_blocks.proofs.NextBlock.{ended, not_ended, no_more, went_on, went_bad, no_bytes, some_bytes, told_bad}
use Rattle.cas_blocks.proofs.steps.judge.Goals as goal

pub returns-then-at-clause-told : goal.returns-then-at-clause-told
returns-then-at-clause-told g c = λ b there.
    let fact = no_bytes (vec_len c.args.body) c.is_empty.result c.is_empty.ensures c.if-is_empty.true in
    let none : length c.args.body.items ≡ 0 = omega arith in
    ended c.args.file.now.order.now c.args.file.now.columns.now c.args.file.now.number c.args.file.now.end b c.args.at.now c.args.body.items there
    none c.if-at.true

pub returns-then-is_empty-clause-told : goal.returns-then-is_empty-clause-told
returns-then-is_empty-clause-told g c = λ b there.
    let fact = no_bytes (vec_len c.args.body) c.is_empty.result c.is_empty.ensures c.if-is_empty.true in
    let none : length c.args.body.items ≡ 0 = omega arith in
    told_bad c.args.file.now.order.now c.args.file.now.columns.now c.args.file.now.number c.args.file.now.end b c.args.at.now c.bad_block.result c.bad_block.ensures
    (not_ended c.args.file.now.order.now c.args.file.now.columns.now c.args.file.now.number c.args.file.now.end b c.args.at.now c.args.body.items there
    none c.if-at.false)

pub returns-then-not-at-clause-told : goal.returns-then-not-at-clause-told
returns-then-not-at-clause-told g c = λ b there.
    let fact = some_bytes (vec_len c.args.body) c.is_empty.result c.is_empty.ensures c.if-is_empty.false in
    let some : 0 < length c.args.body.items = omega arith in
    told_bad c.args.file.now.order.now c.args.file.now.columns.now c.args.file.now.number c.args.file.now.end b c.args.at.now c.bad_block-then-not-at.result
    c.bad_block-then-not-at.ensures
    (no_more c.args.file.now.order.now c.args.file.now.columns.now c.args.file.now.number c.args.file.now.end b c.args.at.now c.args.body.items there
    some c.if-not-at.true)

pub returns-in-Ok-clause-told : goal.returns-in-Ok-clause-told
returns-in-Ok-clause-told g c = λ b there.
    let fact = some_bytes (vec_len c.args.body) c.is_empty.result c.is_empty.ensures c.if-is_empty.false in
    let some : 0 < length c.args.body.items = omega arith in
    went_on c.args.file.now.order.now c.args.file.now.columns.now c.args.file.now.number c.args.file.now.end b c.args.at.now c.args.body.items there
    some c.if-not-at.false (omega (arith, c.requires)) c.in-Ok.step c.in-Ok.ensures

pub returns-in-Err-clause-told : goal.returns-in-Err-clause-told
returns-in-Err-clause-told g c = λ b there.
    let fact = some_bytes (vec_len c.args.body) c.is_empty.result c.is_empty.ensures c.if-is_empty.false in
    let some : 0 < length c.args.body.items = omega arith in
    went_bad c.args.file.now.order.now c.args.file.now.columns.now c.args.file.now.number c.args.file.now.end b c.args.at.now c.args.body.items there
    some c.if-not-at.false c.in-Err.fault c.in-Err.ensures
