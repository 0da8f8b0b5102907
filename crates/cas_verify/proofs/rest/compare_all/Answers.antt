use Rattle.std.proofs.Common.{◌++◌, ℕ, List, Err, subst}
use Rattle.std.proofs.lemmas.Result.{err_from_is_err_and}
use Rattle.cas_codec.specs.Reading.{Gives}
use Rattle.cas_verify.specs.Fields.{fields_at, index_fields, filter_fields, info_fields}
use Rattle.cas_verify.proofs.Comparing.{then_gives, then_fault}
use Rattle.cas_verify.proofs.rest.compare_all.Goals as goal

pub returns-in_err-index : goal.returns-in_err-index
returns-in_err-index c =
    let p = err_from_is_err_and c.from_residual.result c.from_residual.ensures.1 in
    let new = c.index.new.self.left in
    rw (p.1, p.2) (then_fault (index_fields c.args.entries.now) _ c.args.fields.now.left new new c.in_err-index.field-0.0 c.in_err-index.ensures)

pub returns-in_err-filter : goal.returns-in_err-filter
returns-in_err-filter c =
    let r = c.from_residual-in_err-filter in
    let p = err_from_is_err_and r.result r.ensures.1 in
    let start = c.args.fields.now.left in
    let mid = c.index.new.self.left in
    let new = c.filter.new.self.left in
    let e = c.in_err-filter.field-0.0 in
    let index = index_fields c.args.entries.now in
    let info = info_fields c.args.info.now in
    rw (p.1, p.2) (subst (λ (f : List ℕ). Gives (λ (u : Unit {0}). u) (Err e) new (fields_at (index ++ (filter_fields f ++ info)) start)) c.requires.filter
    (then_gives index (filter_fields c.args.filter.now ++ info) start mid new (Err e) c.in_ok-index.ensures
    (then_fault (filter_fields c.args.filter.now) info mid new new e c.in_err-filter.ensures)))

pub returns : goal.returns
returns c =
    let start = c.args.fields.now.left in
    let mid = c.index.new.self.left in
    let last = c.filter.new.self.left in
    let new = c.info.new.self.left in
    let r = c.info.result in
    let index = index_fields c.args.entries.now in
    let info = info_fields c.args.info.now in
    subst (λ (f : List ℕ). Gives (λ (u : Unit {0}). u) r new (fields_at (index ++ (filter_fields f ++ info)) start)) c.requires.filter
    (then_gives index (filter_fields c.args.filter.now ++ info) start mid new r c.in_ok-index.ensures
    (then_gives (filter_fields c.args.filter.now) info mid last new r c.in_ok-filter.ensures c.info.ensures))
