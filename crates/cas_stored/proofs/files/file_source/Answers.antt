use Rattle.std.proofs.Common.{◌≡◌, ℕ, None, true, arith, rules}
use Rattle.std.proofs.lemmas.Grind.{common_steps, merely}
use Rattle.cas_view.specs.Views.{file_of, may_hold}
use Rattle.cas_stored.proofs.WhyNot.{bad_behind}
use Rattle.cas_stored.proofs.Gathering.{none_answers, why_one}
use Rattle.cas_stored.proofs.files.file_source.Goals as goal

pub returns-in-Ok-None-clause-answers : goal.returns-in-Ok-None-clause-answers
returns-in-Ok-None-clause-answers g c =
    none_answers (file_of c.args.file.now) c.deref.result.now c.args.key.now c.args.slice.now _ _ _ _ c.in-Ok-None.field-0 c.deref.ensures c.in-Ok-None.field-0-is c.in-Ok-None.ensures.told
    c.in-Ok-None.ensures.contents

pub returns-in-Err-clause-why : goal.returns-in-Err-clause-why
returns-in-Err-clause-why g c =
    let held : may_hold c.args.file.now.info c.args.key.now ≡ true = first_of (search rules, grind (arith, common_steps)) in
    why_one {Y = ℕ} (file_of c.args.file.now) c.deref.result.now c.args.key.now c.args.slice.now (λ n. None) (λ n. None) c.in-Err.fault c.deref.ensures held c.in-Err.ensures.told

pub new-requires-clause-finds : goal.new-requires-clause-finds
new-requires-clause-finds g c n at may =
    let held : may_hold c.args.file.now.info c.args.key.now ≡ true = first_of (search rules, grind (arith, common_steps)) in
    let finds = rw c.in-Ok-Some.field-0-is at c.in-Ok-Some.ensures.finds in
    merely (c.requires.told n at (bad_behind c.args.key.now c.args.slice.now n at (file_of c.args.file.now) c.deref.result.now c.requires.reads c.deref.ensures held (finds n at may)))
