use Rattle.std.proofs.Common.{[], ◌∷◌, refl, ◌∙◌, sym, subst}
use Rattle.std.specs.List.{AllByRecursion}
use Rattle.cas_bounds.specs.ClusteringOrder.{clustering_order}
use Rattle.cas_stored.specs.Stored.{IsFileOf}
use Rattle.cas_stored.proofs.table.TableStore.new.Goals as goal

pub returns-clause-columns : goal.returns-clause-columns
returns-clause-columns g c columns = record {
  files = subst (AllByRecursion (IsFileOf columns)) (sym (c.in_ok-new.ensures.ok ∙ c.new-2.ensures)) tt;
  memtables = c.new.ensures.columns columns;
}

pub returns-clause-memory : goal.returns-clause-memory
returns-clause-memory g c columns = record {
  places = [] ∷ [];
  held = record { stand = c.new.ensures.keeps (clustering_order columns); of = c.new.ensures.columns columns; may = tt };
  all = refl;
}
