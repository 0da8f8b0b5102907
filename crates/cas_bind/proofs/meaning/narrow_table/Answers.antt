use Rattle.std.proofs.Common.{sym, subst}
use Rattle.std.specs.Option.{IfSome}
use Rattle.cas_types.specs.Limits.{IsNarrow}
use Rattle.cas_bind.proofs.TableLemmas.{named_holds}
use Rattle.cas_bind.proofs.meaning.narrow_table.Goals as goal

pub returns-clause-narrow : goal.returns-clause-narrow
returns-clause-narrow c = subst (λ o. IfSome o (λ t. IsNarrow t.columns)) (sym c.table_named.ensures) (named_holds (λ t. IsNarrow t.columns) c.args.tables.now c.args.name.now c.requires)
