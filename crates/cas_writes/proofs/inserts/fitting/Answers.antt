use Rattle.std.proofs.Common.{◌≡◌, true, Some, rules}
use Rattle.cas_terms.specs.Columns.{located}
use Rattle.cas_terms.specs.Terms.{term_fits}
use Rattle.cas_writes.proofs.PlainLemmas.{fits_there}
use Rattle.cas_writes.proofs.inserts.fitting.Goals as goal

pub returns-then-term_fits-clause-fits : goal.returns-then-term_fits-clause-fits
returns-then-term_fits-clause-fits c =
    let there : located c.args.columns.now c.args.name.now ≡ Some (c.in-Some.number, c.in-Some.column.now) = search rules in
    let fits : term_fits c.in-Some.column.now c.args.term.now ≡ true = search rules in
    fits_there c.args.columns.now c.args.name.now c.args.term.now (c.in-Some.number, c.in-Some.column.now) there fits
