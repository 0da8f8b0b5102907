use Rattle.std.proofs.Common.{◌≡◌, [], arith}
use Rattle.cas_manifest.specs.Loading.{IsEmpty}
use Rattle.cas_manifest.proofs.Loads.{begun_loads, is_empty, no_items}
use Rattle.cas_manifest.proofs.loading.load_made.Goals as goal

pub returns-clause-loads : goal.returns-clause-loads
returns-clause-loads g c =
    let none : c.in-Ok.read.2.items ≡ [] = no_items c.in-Ok.read.2.items c.in-Ok.read.2.len c.is_empty.result (omega (arith, c.in-Ok.read.2.ok.0)) c.is_empty.ensures c.if-not-is_empty.false in
    let empty : IsEmpty c.args.file.now =
    is_empty c.args.file.now (c.in-Ok.read.1, c.in-Ok.read.2.items) c.in-Ok.read.0.end c.in-Ok.ensures.exact c.in-Ok.ensures.found.said none in
    begun_loads (λ m. m.1) (λ m. m.2.items) c.args.shards c.args.file.now c.begin_store.result empty c.begin_store.ensures.first c.begin_store.ensures.why

pub returns-clause-untouched : goal.returns-clause-untouched
returns-clause-untouched g c full =
    let none : c.in-Ok.read.2.items ≡ [] = no_items c.in-Ok.read.2.items c.in-Ok.read.2.len c.is_empty.result (omega (arith, c.in-Ok.read.2.ok.0)) c.is_empty.ensures c.if-not-is_empty.false in
    absurd (full (is_empty c.args.file.now (c.in-Ok.read.1, c.in-Ok.read.2.items) c.in-Ok.read.0.end c.in-Ok.ensures.exact c.in-Ok.ensures.found.said none))

pub returns-clause-reads : goal.returns-clause-reads
returns-clause-reads g c full =
    let none : c.in-Ok.read.2.items ≡ [] = no_items c.in-Ok.read.2.items c.in-Ok.read.2.len c.is_empty.result (omega (arith, c.in-Ok.read.2.ok.0)) c.is_empty.ensures c.if-not-is_empty.false in
    absurd (full (is_empty c.args.file.now (c.in-Ok.read.1, c.in-Ok.read.2.items) c.in-Ok.read.0.end c.in-Ok.ensures.exact c.in-Ok.ensures.found.said none))
