use Rattle.std.proofs.Common.{◌≡◌, ◌∙◌, List, Ok, Err, Some, length, sym, ap, subst}
use Rattle.std.specs.Prelude.{slice_get}
use Rattle.cas_shard.specs.Stands.{ShardState}
use Rattle.cas_terms.specs.Columns.{table_named}
use Rattle.cas_lasting.specs.Nodes.{files_in}
use Rattle.cas_sessions.specs.Verifying.{AreVerdicts, table_files}
use Rattle.cas_sessions.specs.Inner.Verifying.{AreNarrowIn}
use Rattle.cas_sessions.proofs.FlushAll.{named_there}
use Rattle.cas_sessions.proofs.Verdicts.{narrow_in, verifies_table}
use Rattle.cas_sessions.proofs.node.Node.verify.Goals as goal

pub check_shards-requires : goal.check_shards-requires
check_shards-requires g c =
    let n = c.args.self.now in
    let t = c.in-Some.table.now in
    let is : table_named n.tables.items c.args.name.now ≡ Some t =
    ap (λ ts. table_named ts c.args.name.now) (sym c.deref.ensures.value) ∙ sym c.in-Some.ensures in
    let at_t : slice_get n.tables.items t.number ≡ Some t = named_there n.tables.items c.args.name.now t n.sound.tables.numbered is in
    record { narrow = subst (AreNarrowIn t.number) (sym c.deref-2.ensures.value) (narrow_in n.tables.items n.shards.items t n.readable at_t) }

pub returns-in-Ok-clause-verifies : goal.returns-in-Ok-clause-verifies
returns-in-Ok-clause-verifies g c = λ session calls clock.
    let n = c.args.self.now in
    let t = c.in-Some.table.now in
    let is : table_named n.tables.items c.args.name.now ≡ Some t =
    ap (λ ts. table_named ts c.args.name.now) (sym c.deref.ensures.value) ∙ sym c.in-Some.ensures in
    let said : AreVerdicts (table_files (files_in n.shards.items) (length n.shards.items) t.number) c.in-Ok.verdicts.items =
    subst (λ (xs : List ShardState). AreVerdicts (table_files (files_in xs) (length xs) t.number) c.in-Ok.verdicts.items) c.deref-2.ensures.value
    c.in-Ok.ensures.checked in
    verifies_table c.args.name.now t _ _ _ (Ok c.from_vec.result) is c.check_shards.ensures.count
    (subst (λ vs. AreVerdicts (table_files (files_in n.shards.items) (length n.shards.items) t.number) vs) (sym c.from_vec.ensures) said)

pub returns-in-Err-clause-verifies : goal.returns-in-Err-clause-verifies
returns-in-Err-clause-verifies g c = λ session calls clock.
    let n = c.args.self.now in
    let t = c.in-Some.table.now in
    let is : table_named n.tables.items c.args.name.now ≡ Some t =
    ap (λ ts. table_named ts c.args.name.now) (sym c.deref.ensures.value) ∙ sym c.in-Some.ensures in
    verifies_table c.args.name.now t _ _ _ (Err c.in-Err.fault) is c.check_shards.ensures.count c.in-Err.ensures.why
