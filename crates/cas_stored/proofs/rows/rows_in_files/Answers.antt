use Rattle.std.proofs.Common.{arith, of_z, to_z, w64}
use Rattle.std.proofs.lemmas.Int.{ints}
use Rattle.cas_memtable.specs.Kept.{memtables_of}
use Rattle.cas_memtable.proofs.Showing.{if_ok_too}
use Rattle.cas_stored.proofs.Looking.{rows_shown}
use Rattle.cas_stored.proofs.WhyNot.{not_given, not_merged}
use Rattle.cas_stored.proofs.Tallying.{fault_counts}
use Rattle.cas_stored.proofs.rows.rows_in_files.Goals as goal

pub returns-in-Ok-clause-rows : goal.returns-in-Ok-clause-rows
returns-in-Ok-clause-rows g c =
    if_ok_too c.all_rows_and_source-shown.result.0 _ _
    (λ v rows. rows_shown c.args.store.now.files (memtables_of c.args.store.now.parts) c.args.query c.args.now (to_z w64 (of_z w64 c.args.now)) _ _ c.in-Ok.sources.items c.new-merger.result.top _
    v.items (omega (arith, ints)) c.in-Ok.ensures.shows c.new-merger.ensures.fragments c.new-merger.ensures.top rows) c.all_rows_and_source-shown.ensures.rows

pub returns-in-Ok-clause-count : goal.returns-in-Ok-clause-count
returns-in-Ok-clause-count g c =
    fault_counts c.all_rows_and_source-shown.result.0 _ _ _ _ _ c.sources.ensures.count.kept c.add_tallies.ensures.count c.all_rows_and_source-shown.ensures.causes c.end.ensures.causes

pub returns-in-Ok-clause-why : goal.returns-in-Ok-clause-why
returns-in-Ok-clause-why g c =
    not_merged g.B.BadPlaces.told c.all_rows_and_source-shown.result.0 _ _ c.add_tallies.ensures.found c.all_rows_and_source-shown.ensures.causes c.end.ensures.causes

pub returns-in-Err-clause-why : goal.returns-in-Err-clause-why
returns-in-Err-clause-why g c =
    not_given g.B.BadPlaces.told c.args.store.now.files c.args.query.key c.args.query.slice c.in-Err.fault c.requires.reads c.requires.told c.in-Err.ensures.why
