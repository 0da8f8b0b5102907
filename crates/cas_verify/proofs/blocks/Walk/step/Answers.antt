use Rattle.std.proofs.Common.{◌≡◌, ◌+◌, ◌<◌, ℕ, List, None, Some, inr, refl, sym, ap, ◌∙◌, length, vec_len, arith}
use Rattle.std.proofs.lemmas.Result.{err_from_is_err_and}
use Rattle.cas_bounds.specs.ClusteringOrder.{clustering_order}
use Rattle.cas_blocks.specs.Reading.{left_at}
use Rattle.cas_blocks.proofs.NextBlock.{next_end, next_no_end, next_no_more, no_bytes, some_bytes}
use Rattle.cas_verify.specs.Inner.Walks.{reached}
use Rattle.cas_codec.specs.Reading.{bytes32_at}
use Rattle.cas_facts.specs.declared.facts.Tally.{Tally}
use Rattle.cas_fragments.specs.Reading.{body_at, next_block_at}
use Rattle.cas_index.specs.declared.entries.BlockEntry.{BlockEntry}
use Rattle.cas_verify.proofs.BodyLaws.{fault_then}
use Rattle.cas_verify.proofs.Steps.{body_bad, block_bad, block_read, first_of, block_long}
use Rattle.cas_verify.proofs.blocks.Walk.step.Goals as goal

pub returns-then-not-self-clause-told : goal.returns-then-not-self-clause-told
returns-then-not-self-clause-told g c = λ b is.
    let w = c.args.self.now in
    let t = c.in_ok-body.ensures.told b is in
    let empty : vec_len c.in_ok-body.body ≡ 0 = no_bytes (vec_len c.in_ok-body.body) c.is_empty.result c.is_empty.ensures c.if-is_empty.true in
    let none : length t.0.0 ≡ 0 = omega (arith, ap length t.2.0, empty) in
    rw c.bad.ensures (
      refl,
      inr (next_no_end (clustering_order c.args.table.now.columns) c.args.table.now.columns w.ends w.goes_on (reached w)
          (left_at b c.args.table.now.kept.end w.place) t.0.0 t.0.1 t.1 none c.if-not-self.true),
    )

pub returns-then-is_empty-clause-told : goal.returns-then-is_empty-clause-told
returns-then-is_empty-clause-told g c = λ b is.
    let w = c.args.self.now in
    let t = c.in_ok-body.ensures.told b is in
    let empty : vec_len c.in_ok-body.body ≡ 0 = no_bytes (vec_len c.in_ok-body.body) c.is_empty.result c.is_empty.ensures c.if-is_empty.true in
    let none : length t.0.0 ≡ 0 = omega (arith, ap length t.2.0, empty) in
    let place : w.place + 4 + vec_len c.in_ok-body.body ≡ w.place + 4 = omega (arith, empty) in (
      (None, t.0.1),
      next_end (clustering_order c.args.table.now.columns) c.args.table.now.columns w.ends w.goes_on (reached w)
          (left_at b c.args.table.now.kept.end w.place) t.0.0 t.0.1 t.1 none c.if-not-self.false,
      record {
        left = t.2.1 ∙ ap (left_at b c.args.table.now.kept.end) place;
        step = record { closed = c.requires.sound.closed c.if-not-self.false; place = refl {A = ℕ}; entries = refl {A = List BlockEntry}; seen = refl {A = Tally} };
      },
    )

pub returns-then-not-self-2-clause-told : goal.returns-then-not-self-2-clause-told
returns-then-not-self-2-clause-told g c = λ b is.
    let w = c.args.self.now in
    let t = c.in_ok-body.ensures.told b is in
    let full : 0 < vec_len c.in_ok-body.body = some_bytes (vec_len c.in_ok-body.body) c.is_empty.result c.is_empty.ensures c.if-is_empty.false in
    let some : 0 < length t.0.0 = omega (arith, ap length t.2.0, full) in
    rw c.bad-then-not-self-2.ensures (
      refl,
      inr (next_no_more (clustering_order c.args.table.now.columns) c.args.table.now.columns w.ends w.goes_on (reached w)
          (left_at b c.args.table.now.kept.end w.place) t.0.0 t.0.1 t.1 some c.if-not-self-2.true),
    )

pub pass-requires-clause-first : goal.pass-requires-clause-first
pass-requires-clause-first g c =
    first_of c.args.table.now.columns (reached c.args.self.now) c.in_ok-block.block.fragments.items c.in_ok-block.ensures.block.0

pub returns-clause-within : goal.returns-clause-within
returns-clause-within g c =
    let n = c.in_ok-body.ensures.within in
    let long : c.pass.new.self.place ≡ c.args.self.now.place + 4 + vec_len c.in_ok-body.body =
    omega (arith, c.in_ok-pass.ensures.goes.place, block_long c.in_ok-block.block.fragments.items, ap length c.in_ok-block.ensures.block.1, ap length c.deref.ensures.value) in
    (omega (arith, long), omega (arith, long, n.0), omega (arith, long, n.1))

pub returns-in_err-body-clause-told : goal.returns-in_err-body-clause-told
returns-in_err-body-clause-told g c = λ b is.
    let cols = c.args.table.now.columns in
    let w = c.args.self.now in
    let left = left_at b c.args.table.now.kept.end w.place in
    let p = err_from_is_err_and c.from_residual.result c.from_residual.ensures.1 in
    rw (p.1, p.2) (fault_then c.args.table.now.info.number c.in_err-body.field-0.0 (bytes32_at left)
    (next_block_at (clustering_order cols) cols w.ends w.goes_on (reached w) left)
    (body_bad (clustering_order cols) cols w.ends w.goes_on (reached w) left) (c.in_err-body.ensures.told b is))

pub returns-in_err-block-clause-told : goal.returns-in_err-block-clause-told
returns-in_err-block-clause-told g c = λ b is.
    let cols = c.args.table.now.columns in
    let w = c.args.self.now in
    let left = left_at b c.args.table.now.kept.end w.place in
    let t = c.in_ok-body.ensures.told b is in
    let bytes = c.deref.result.now in
    let same = c.deref.ensures.value in
    let full : 0 < vec_len c.in_ok-body.body = some_bytes (vec_len c.in_ok-body.body) c.is_empty.result c.is_empty.ensures c.if-is_empty.false in
    let some : 0 < length bytes = omega (arith, ap length same, full) in
    let r = c.from_residual-in_err-block in
    let p = err_from_is_err_and r.result r.ensures.1 in
    rw (p.1, p.2) (fault_then c.args.table.now.info.number c.in_err-block.field-0.0
    (body_at (clustering_order cols) cols (reached w) (record { bytes = bytes; at = w.place + 4 }))
    (next_block_at (clustering_order cols) cols w.ends w.goes_on (reached w) left)
    (block_bad (clustering_order cols) cols w.ends w.goes_on (reached w) left t.0.0 bytes t.0.1 t.1 (t.2.0 ∙ sym same) some c.if-not-self-2.false)
    c.in_err-block.ensures.parsed)

pub returns-clause-told : goal.returns-clause-told
returns-clause-told g c = λ b is.
    let cols = c.args.table.now.columns in
    let end = c.args.table.now.kept.end in
    let w = c.args.self.now in
    let v = c.pass.new.self in
    let fs = c.in_ok-block.block.fragments.items in
    let t = c.in_ok-body.ensures.told b is in
    let u = c.in_ok-block.ensures.parsed in
    let bytes = c.deref.result.now in
    let same = c.deref.ensures.value in
    let full : 0 < vec_len c.in_ok-body.body = some_bytes (vec_len c.in_ok-body.body) c.is_empty.result c.is_empty.ensures c.if-is_empty.false in
    let some : 0 < length bytes = omega (arith, ap length same, full) in
    let long : w.place + 4 + vec_len c.in_ok-body.body ≡ v.place =
    omega (arith, c.in_ok-pass.ensures.goes.place, block_long fs, ap length c.in_ok-block.ensures.block.1, ap length same) in (
      (Some fs, left_at b end v.place),
      block_read (clustering_order cols) cols w.ends w.goes_on (reached w) (left_at b end w.place) t.0.0 bytes t.0.1 (left_at b end v.place) fs u.0
          t.1 (t.2.0 ∙ sym same) some c.if-not-self-2.false u.1 u.2 (t.2.1 ∙ ap (left_at b end) long),
      record { left = refl; step = c.in_ok-pass.ensures.goes },
    )
