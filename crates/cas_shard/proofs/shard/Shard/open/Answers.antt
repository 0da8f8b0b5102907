use Rattle.std.proofs.Common.{◌≡◌, List, [], of_z, to_z, w64, refl, sym, ap, subst, arith}
use Rattle.std.proofs.lemmas.Int.{ints}
use Rattle.std.specs.Prelude.{slice_get}
use Rattle.cas_memtable.specs.Kept.{HoldJust}
use Rattle.cas_stored.specs.Stored.{StoredTable}
use Rattle.cas_shard.specs.Flushing.{bytes_at, memtables_at}
use Rattle.cas_shard.proofs.InMemory.{nothing_in_memory}
use Rattle.cas_shard.proofs.Standing.{as_opened}
use Rattle.cas_shard.proofs.shard.Shard.open.Goals as goal

pub returns-clause-stands : goal.returns-clause-stands
returns-clause-stands g c tables =
    let drawn : to_z w64 (of_z w64 c.args.drawn) ≡ c.args.drawn = omega (arith, ints) in
    let moment : to_z w64 (of_z w64 c.args.moment) ≡ c.args.moment = omega (arith, ints) in
    as_opened tables c.args.number c.args.drawn c.args.moment _ c.new.ensures.items refl drawn moment

pub returns-clause-memory : goal.returns-clause-memory
returns-clause-memory g c tables n t at = subst (λ (ps : List StoredTable). HoldJust t.columns (memtables_at (slice_get ps n)) []) (sym c.new.ensures.items) (nothing_in_memory t.columns)

pub returns-clause-bytes : goal.returns-clause-bytes
returns-clause-bytes g c n = ap (λ (ps : List StoredTable). bytes_at (slice_get ps n)) c.new.ensures.items
