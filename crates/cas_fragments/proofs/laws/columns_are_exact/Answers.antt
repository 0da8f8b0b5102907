use Rattle.std.proofs.Common.{refl}
use Rattle.cas_types.specs.Schemas.{is_regular, is_static}
use Rattle.cas_records.specs.declared.columns.Wanted.TheVariants.{Regular, Static}
use Rattle.cas_fragments.proofs.ColumnLaws.{columns_exact}
use Rattle.cas_fragments.proofs.laws.columns_are_exact.Goals as goal

pub returns : goal.returns
returns c = record {
  in_rows = columns_exact is_regular Regular (λ column. refl);
  in_static_row = columns_exact is_static Static (λ column. refl);
}
