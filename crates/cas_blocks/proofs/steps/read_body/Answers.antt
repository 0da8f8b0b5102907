use Rattle.std.proofs.Common.{◌+◌, ◌≤◌, subst, Option, ℕ, Some, IfSome, arith}
use Rattle.cas_blocks.specs.Reading.{left_at}
use Rattle.cas_blocks.specs.Inner.Bodies.{TellsLength}
use Rattle.cas_blocks.proofs.Bodies.{no_length, too_long, cut_short, body_read}
use Rattle.cas_blocks.proofs.steps.read_body.Goals as goal

pub returns-in_default-clause-told : goal.returns-in_default-clause-told
returns-in_default-clause-told g c = λ b is.
    no_length (left_at b c.args.file.now.end c.args.place)
    (subst (λ (n : Option ℕ). TellsLength n (left_at b c.args.file.now.end c.args.place)) c.in_default.is (c.in_ok-long.ensures.told b is))

pub returns-then-from-file-clause-told : goal.returns-then-from-file-clause-told
returns-then-from-file-clause-told g c = λ b is.
    let told : TellsLength (Some c.in-Some.long) (left_at b c.args.file.now.end c.args.place) =
    subst (λ (n : Option ℕ). TellsLength n (left_at b c.args.file.now.end c.args.place)) c.in-Some.is (c.in_ok-long.ensures.told b is) in
    too_long b c.args.file.now.end c.args.place c.in-Some.long told (omega arith)

pub returns-then-len-long-clause-told : goal.returns-then-len-long-clause-told
returns-then-len-long-clause-told g c = λ b is.
    let told : TellsLength (Some c.in-Some.long) (left_at b c.args.file.now.end c.args.place) =
    subst (λ (n : Option ℕ). TellsLength n (left_at b c.args.file.now.end c.args.place)) c.in-Some.is (c.in_ok-long.ensures.told b is) in
    cut_short b c.in_ok-body.body.items c.args.file.now.end c.args.place c.in-Some.long told (c.in_ok-body.ensures.bytes b is) (omega arith)

pub returns-clause-told : goal.returns-clause-told
returns-clause-told g c = λ b is.
    let told : TellsLength (Some c.in-Some.long) (left_at b c.args.file.now.end c.args.place) =
    subst (λ (n : Option ℕ). TellsLength n (left_at b c.args.file.now.end c.args.place)) c.in-Some.is (c.in_ok-long.ensures.told b is) in
    let room : c.args.place + 4 ≤ c.args.file.now.end =
    subst (λ (n : Option ℕ). IfSome n (λ long. c.args.place + 4 ≤ c.args.file.now.end)) c.in-Some.is c.in_ok-long.ensures.within in
    body_read b c.in_ok-body.body.items c.args.file.now.end c.args.place c.in-Some.long told (c.in_ok-body.ensures.bytes b is) (omega arith) (omega arith)
    (omega (arith, c.in_ok-body.ensures.bound)) (omega (arith, c.in_ok-body.ensures.bound))
