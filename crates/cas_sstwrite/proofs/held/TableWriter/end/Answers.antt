use Rattle.std.proofs.Common.{◌≡◌, ◌+◌, List, length, Option, subst, arith}
use Rattle.cas_types.specs.declared.schema.Column.{Column}
use Rattle.cas_info.specs.declared.info.TableInfo.{TableInfo}
use Rattle.cas_index.specs.declared.entries.PartitionEntry.{PartitionEntry}
use Rattle.cas_tables.specs.Contents.{Partition}
use Rattle.cas_sstwrite.specs.Writers.{Writes, contents_of}
use Rattle.cas_sstwrite.specs.Inner.Sinks.{Took}
use Rattle.cas_sstwrite.specs.Inner.Ends.{tail_at, filter_at, with_bytes, IsTold, TailFault, EndFault}
use Rattle.cas_sstwrite.proofs.Results.{passed_on}
use Rattle.cas_sstwrite.proofs.Finishing.{none_told, finished, not_finished}
use Rattle.cas_sstwrite.proofs.held.TableWriter.end.Goals as goal

pub returns-in_default-clause-ended : goal.returns-in_default-clause-ended
returns-in_default-clause-ended g c columns ps writes =
    let w = c.args.self.now in
    none_told g.D.Draft.number g.D.Draft.written columns w ps writes
    (subst (λ (r : Option TableInfo). IsTold w.header.number w.level w.entries.items w.seen.facts r) c.in_default.is c.in_ok-info.ensures.told)

pub returns-in_err-info-2-clause-why : goal.returns-in_err-info-2-clause-why
returns-in_err-info-2-clause-why g c =
    let w = c.args.self.now in
    let e = c.in_err-info-2.field-0.0 in
    passed_on c.from_residual-in_err-info-2.result e
    (λ e. (columns : List Column) (ps : List Partition) → Writes g.D.Draft.number g.D.Draft.written columns w ps → EndFault (contents_of w ps) e)
    c.from_residual-in_err-info-2.ensures.1
    (λ columns ps writes.
    not_finished (Unit {0}) g.D.Draft.number g.D.Draft.written columns w ps c.in-Some.info e writes
    (subst (λ (r : Option TableInfo). IsTold w.header.number w.level w.entries.items w.seen.facts r) c.in-Some.is c.in_ok-info.ensures.told)
    (subst (λ (es : List PartitionEntry). TailFault w.sink.place es c.in-Some.info e) c.deref.ensures.value c.in_err-info-2.ensures.why))

pub returns-clause-ended : goal.returns-clause-ended
returns-clause-ended g c columns ps writes =
    let w = c.args.self.now in
    let i = c.in-Some.info in
    let j = c.in_ok-info-2.info in
    finished g.D.Draft.number g.D.Draft.written columns w ps c.write_tail.new.sink i j writes
    (subst (λ (r : Option TableInfo). IsTold w.header.number w.level w.entries.items w.seen.facts r) c.in-Some.is c.in_ok-info.ensures.told)
    (subst (λ (es : List PartitionEntry). j ≡ with_bytes i (w.sink.place + length (tail_at w.sink.place es (filter_at es) i))) c.deref.ensures.value c.in_ok-info-2.ensures.info)
    (subst (λ (es : List PartitionEntry). Took g.D.Draft.number g.D.Draft.written (tail_at w.sink.place es (filter_at es) j) w.sink c.write_tail.new.sink)
    c.deref.ensures.value c.in_ok-info-2.ensures.took)
    (omega (arith, w.few, w.entries.ok.0)) (omega (arith, c.write_tail.new.sink.short))
