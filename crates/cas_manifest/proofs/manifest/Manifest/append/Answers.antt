use Rattle.std.proofs.Common.{length, refl, sym, ◌∙◌, ap, arith}
use Rattle.cas_changes.specs.Saying.{listed_after}
use Rattle.cas_manifest.proofs.Appends.{append_during, append_done, told_few, block_long, none_passed, bytes_passed, ends_ok, ends_many, ends_failed}
use Rattle.cas_manifest.proofs.manifest.Manifest.append.Goals as goal

pub returns-then-end-gt-FILE_LIMIT-clause-outcome : goal.returns-then-end-gt-FILE_LIMIT-clause-outcome
returns-then-end-gt-FILE_LIMIT-clause-outcome g c =
    let told = told_few (listed_after c.args.self.now.listed c.args.entry.now) c.in-Some-listed_after.listed (sym c.listed_after.ensures ∙ c.in-Some-listed_after.is) in
    let long = ap length c.in_ok-block.ensures.bytes ∙ block_long c.args.entry.now in
    ends_many _ c.args.first.now _ _ _ c.in_default.is (bytes_passed _ c.args.entry.now told.0 (omega (arith, long, c.len.ensures, c.if-end-gt-FILE_LIMIT.true, c.in_ok-block.block.ok.0)))

pub returns-in-Ok-clause-appended : goal.returns-in-Ok-clause-appended
returns-in-Ok-clause-appended g c entries stands fits =
    let told = told_few (listed_after c.args.self.now.listed c.args.entry.now) c.in-Some-listed_after.listed (sym c.listed_after.ensures ∙ c.in-Some-listed_after.is) in
    append_done _ _ entries c.args.entry.now stands fits told.0 c.deref.result.now (c.deref.ensures.value ∙ c.in_ok-block.ensures.bytes) _ _
    (omega (arith, c.len.ensures, c.deref.ensures.len)) told.1 _ c.in-Ok.ensures.opened_over

pub returns-in-Ok-clause-during : goal.returns-in-Ok-clause-during
returns-in-Ok-clause-during g c entries stands fits =
    let told = told_few (listed_after c.args.self.now.listed c.args.entry.now) c.in-Some-listed_after.listed (sym c.listed_after.ensures ∙ c.in-Some-listed_after.is) in
    append_during _ _ entries c.args.entry.now stands fits told.0 c.deref.result.now (c.deref.ensures.value ∙ c.in_ok-block.ensures.bytes) c.args.self.now.within
    (omega (arith, c.len.ensures, c.deref.ensures.len, c.if-end-gt-FILE_LIMIT.false)) _ c.in-Ok.ensures.during_over

pub returns-in-Ok-clause-end : goal.returns-in-Ok-clause-end
returns-in-Ok-clause-end g c =
    let long = ap length c.in_ok-block.ensures.bytes ∙ block_long c.args.entry.now in
    omega (arith, long, c.len.ensures, c.deref.ensures.len, c.in_ok-block.block.ok.0)

pub returns-in-Ok-clause-outcome : goal.returns-in-Ok-clause-outcome
returns-in-Ok-clause-outcome g c =
    let told = told_few (listed_after c.args.self.now.listed c.args.entry.now) c.in-Some-listed_after.listed (sym c.listed_after.ensures ∙ c.in-Some-listed_after.is) in
    let long = ap length c.in_ok-block.ensures.bytes ∙ block_long c.args.entry.now in
    ends_ok _ c.args.first.now _ _ c.in_default.is (none_passed _ c.args.entry.now told.0 (omega (arith, long, c.len.ensures, c.if-end-gt-FILE_LIMIT.false, c.in_ok-block.block.ok.0)))

pub returns-clause-during : goal.returns-clause-during
returns-clause-during g c entries stands fits =
    let told = told_few (listed_after c.args.self.now.listed c.args.entry.now) c.in-Some-listed_after.listed (sym c.listed_after.ensures ∙ c.in-Some-listed_after.is) in
    append_during _ _ entries c.args.entry.now stands fits told.0 c.deref.result.now (c.deref.ensures.value ∙ c.in_ok-block.ensures.bytes) c.args.self.now.within
    (omega (arith, c.len.ensures, c.deref.ensures.len, c.if-end-gt-FILE_LIMIT.false)) _ c.in-Err.ensures.during_over

pub returns-clause-outcome : goal.returns-clause-outcome
returns-clause-outcome g c =
    let told = told_few (listed_after c.args.self.now.listed c.args.entry.now) c.in-Some-listed_after.listed (sym c.listed_after.ensures ∙ c.in-Some-listed_after.is) in
    let long = ap length c.in_ok-block.ensures.bytes ∙ block_long c.args.entry.now in
    ends_failed _ c.args.first.now _ _ _ c.in_default.is (c.in-Err.ensures.count.rose refl) c.faults.ensures.number
    (none_passed _ c.args.entry.now told.0 (omega (arith, long, c.len.ensures, c.if-end-gt-FILE_LIMIT.false, c.in_ok-block.block.ok.0)))
