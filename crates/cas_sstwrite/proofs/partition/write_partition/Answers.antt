use Rattle.std.proofs.Common.{◌≡◌, ◌+◌, ℕ, List, [], Option, subst, arith}
use Rattle.cas_atoms.specs.declared.row.RowColumn.{RowColumn}
use Rattle.cas_cell.specs.declared.deletion.Deletion.{Deletion}
use Rattle.cas_streams.specs.declared.fragment.Fragment.{Fragment}
use Rattle.cas_fragments.specs.Allowed.{HaveRoom}
use Rattle.cas_fragments.specs.Blocks.{head_bytes}
use Rattle.cas_fragments.specs.declared.heads.Version.TheVariants.{Second}
use Rattle.cas_sstwrite.specs.declared.fault.PartitionFault.{PartitionFault}
use Rattle.cas_sstwrite.specs.Inner.Sinks.{Took}
use Rattle.cas_sstwrite.specs.Inner.Parts.{Says}
use Rattle.cas_sstwrite.specs.Inner.Whole.{PartFault}
use Rattle.cas_sstwrite.proofs.Results.{passed_on}
use Rattle.cas_sstwrite.proofs.Partitions.{partition_written, rows_stop, head_place}
use Rattle.cas_sstwrite.proofs.partition.write_partition.Goals as goal

Why : {E : Type 0} → ℕ → List ℕ → Option Deletion → Option Fragment → Option (List Fragment) → PartitionFault E → Type 0
Why place key top first told e = (fs : List Fragment) → Says first told fs → PartFault place key top fs e

pub returns-in_err-write_rows-clause-why : goal.returns-in_err-write_rows-clause-why
unfolding Why
returns-in_err-write_rows-clause-why g c =
    let told = g.S.FragmentSource.to_come c.args.source.now in
    let s = c.args.sink.now in
    let t = c.write_head.new.sink in
    passed_on c.from_residual-in_err-write_rows.result c.in_err-write_rows.field-0.0 (Why s.place c.args.key.now c.args.top c.args.first told)
    c.from_residual-in_err-write_rows.ensures.1
    (λ fs says.
    rows_stop g.row.S-Fault.Denot s.place t.place c.args.key.now c.args.top fs c.in_err-write_rows.field-0.0
    (head_place g.D.Draft.number g.D.Draft.written c.args.key.now c.args.top c.args.first told fs s t says
    (subst (λ (cs : List RowColumn). Took g.D.Draft.number g.D.Draft.written (head_bytes Second c.args.key.now c.args.top cs) s t) c.statics_of.ensures c.in_ok-write_head.ensures.took))
    (c.in_err-write_rows.ensures.why t.place c.args.seen.facts c.args.top [] (c.begun-part.ensures t.place) (let e : t.place ≡ t.place + 0 = omega arith in e) fs says))

pub returns-clause-wrote : goal.returns-clause-wrote
returns-clause-wrote g c =
    let s = c.args.sink.now in
    let t = c.write_head.new.sink in
    partition_written g.D.Draft.number g.D.Draft.written c.args.key.now c.args.top c.args.first c.args.seen.facts s t c.write_rows.new.sink c.begun-part.result
    c.write_rows.new.part (g.S.FragmentSource.to_come c.args.source.now) c.in_ok-write_head.ensures.key
    (subst HaveRoom c.statics_of.ensures c.in_ok-write_head.ensures.room)
    (subst (λ (cs : List RowColumn). Took g.D.Draft.number g.D.Draft.written (head_bytes Second c.args.key.now c.args.top cs) s t) c.statics_of.ensures c.in_ok-write_head.ensures.took)
    c.begun-part.ensures c.in_ok-write_rows.ensures.wrote
