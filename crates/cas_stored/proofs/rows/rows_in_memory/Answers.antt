use Rattle.std.proofs.Common.{arith, of_z, to_z, w64, []}
use Rattle.std.proofs.lemmas.Int.{ints}
use Rattle.cas_memtable.specs.Kept.{all_of, memtables_of}
use Rattle.cas_memtable.proofs.Showing.{if_ok_too}
use Rattle.cas_stored.proofs.Looking.{rows_shown}
use Rattle.cas_stored.proofs.Showing.{memory_alone}
use Rattle.cas_stored.proofs.rows.rows_in_memory.Goals as goal

pub returns-in-Ok : goal.returns-in-Ok
returns-in-Ok c =
    let ms = memtables_of c.args.parts.now in
    let q = c.args.query in
    let xs = c.in-Ok.sources.items in
    if_ok_too c.all_rows_of.result _ _
    (λ v rows. rows_shown [] ms q c.args.now (to_z w64 (of_z w64 c.args.now)) _ _ xs c.new.result.top _ v.items (omega (arith, ints))
    (λ order wss holds low high. memory_alone _ _ order q.slice q.key ms (all_of wss) xs (c.in-Ok.ensures order wss holds low high))
    c.new.ensures.fragments c.new.ensures.top rows) c.all_rows_of.ensures.rows
