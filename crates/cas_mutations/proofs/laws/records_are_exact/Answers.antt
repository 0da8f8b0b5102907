use Rattle.cas_mutations.proofs.RecordLaws.{record_exact, record_long, has_record}
use Rattle.cas_mutations.proofs.laws.records_are_exact.Goals as goal

pub returns : goal.returns
returns c = record {
  exact = record_exact;
  length = record_long;
  recorded = has_record;
}
