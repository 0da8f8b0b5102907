use Rattle.std.proofs.Common.{◌≡◌, ◌+◌, ◌≤◌, subst, refl, ap, List, Option, ℕ, Some, IfSome, length, vec_len, arith}
use Rattle.cas_blocks.specs.Reading.{left_at}
use Rattle.cas_blocks.specs.Inner.Bodies.{TellsLength}
use Rattle.cas_blocks.proofs.Bodies.{no_length, too_long, cut_short, body_read}
use Rattle.cas_verify.proofs.BodyLaws.{no_body, body_then}
use Rattle.cas_verify.proofs.bodies.read_body.Goals as goal

pub returns-in_default-clause-told : goal.returns-in_default-clause-told
returns-in_default-clause-told g c = λ b is.
    let left = left_at b c.args.table.now.kept.end c.args.place in
    rw c.bad.ensures (refl, no_body left (no_length left (subst (λ (n : Option ℕ). TellsLength n left) c.in_default.is (c.in_ok-long.ensures.told b is))))

pub returns-then-from-end-clause-told : goal.returns-then-from-end-clause-told
returns-then-from-end-clause-told g c = λ b is.
    let left = left_at b c.args.table.now.kept.end c.args.place in
    let told : TellsLength (Some c.in-Some.long) left = subst (λ (n : Option ℕ). TellsLength n left) c.in-Some.is (c.in_ok-long.ensures.told b is) in
    rw c.bad-then-from-end.ensures (refl, no_body left (too_long b c.args.table.now.kept.end c.args.place c.in-Some.long told (omega arith)))

pub returns-then-len-long-clause-told : goal.returns-then-len-long-clause-told
returns-then-len-long-clause-told g c = λ b is.
    let left = left_at b c.args.table.now.kept.end c.args.place in
    let told : TellsLength (Some c.in-Some.long) left = subst (λ (n : Option ℕ). TellsLength n left) c.in-Some.is (c.in_ok-long.ensures.told b is) in
    rw c.bad-then-len-long.ensures
    (refl, no_body left (cut_short b c.in_ok-body.body.items c.args.table.now.kept.end c.args.place c.in-Some.long told (c.in_ok-body.ensures.bytes b is) (omega arith)))

pub returns-clause-told : goal.returns-clause-told
returns-clause-told g c = λ b is.
    let end = c.args.table.now.kept.end in
    let left = left_at b end c.args.place in
    let items = c.in_ok-body.body.items in
    let told : TellsLength (Some c.in-Some.long) left = subst (λ (n : Option ℕ). TellsLength n left) c.in-Some.is (c.in_ok-long.ensures.told b is) in
    let room : c.args.place + 4 ≤ end = subst (λ (n : Option ℕ). IfSome n (λ long. c.args.place + 4 ≤ end)) c.in-Some.is c.in_ok-long.ensures.within in
    let body =
    body_read b items end c.args.place c.in-Some.long told (c.in_ok-body.ensures.bytes b is) (omega arith) (omega arith)
    (omega (arith, c.in_ok-body.ensures.long)) (omega (arith, c.in_ok-body.ensures.long)) in
    let same : length items ≡ vec_len c.in_ok-body.body = omega arith in (
      (items, left_at b end (c.args.place + 4 + length items)),
      body_then b items end c.args.place (omega (arith, c.in_ok-body.ensures.long)) body,
      (refl {A = List ℕ}, ap (λ n. left_at b end (c.args.place + 4 + n)) same),
    )
