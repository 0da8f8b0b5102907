use Rattle.cas_schemas.proofs.SchemaLaws.{columns_exact, schema_exact, columns_spelled, spelled}
use Rattle.cas_schemas.proofs.laws.schemas_are_exact.Goals as goal

pub returns : goal.returns
returns c = record {
  columns = columns_exact;
  table = schema_exact;
  columns_spelled = columns_spelled;
  spelled = spelled;
}
