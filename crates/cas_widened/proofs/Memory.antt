-- Partitions in memory, and memtables.
use Rattle.std.proofs.Common.{ℕ, List, ◌++◌, Option, None, Some}
use Rattle.cas_types.specs.declared.schema.Column.{Column}
use Rattle.cas_bounds.specs.declared.map_key.MapKey.{MapKey}
use Rattle.cas_partition.specs.Partitions.{IsIn, IsOf, IsOfTable, AreIn, AreAtCuts}
use Rattle.cas_partition.specs.declared.spot.Content.{Content}
use Rattle.cas_partition.specs.declared.spot.Spot.{Spot}
use Rattle.cas_partition.specs.declared.partition.Partition.{Partition}
use Rattle.cas_streams.proofs.Weaves.{all_so}
use Rattle.cas_streams.specs.Flat.{Change}
use Rattle.cas_widened.specs.Laws.{AreAdded, MemtablesStay}
use Rattle.cas_widened.proofs.Columns.{ordered_still, cut_fits, names_still}

module _ (columns more : List Column) (added : AreAdded more) where
  abbrev wide : List Column
  wide = columns ++ more

  is_in : (row : Option MapKey) (column : Option ℕ) (path : Option (List ℕ)) (c : Content) → IsIn columns row column path c
      → IsIn wide row column path c
  is_in row None path c is = tt
  is_in row (Some n) path c is =
      record { column = is.column; named = names_still columns more _ is.column is.named; kind = is.kind; at = is.at }

  are_in : (es : List (Spot × Content)) → AreIn columns es → AreIn wide es
  are_in es all = all_so _ _ (λ e is. is_in e.0.row e.0.column e.0.path e.1 is) es all

  at_cuts : (ms : List Change) → AreAtCuts columns ms → AreAtCuts wide ms
  at_cuts ms all = all_so _ _ (λ m fits. cut_fits columns more added m.at fits) ms all

  pub partition_stays : (p : Partition) → IsOfTable columns p → IsOfTable wide p
  partition_stays p is = record {
    of = ordered_still columns more added (λ o. IsOf o p) is.of;
    cuts = at_cuts p.ranges is.cuts;
    entries = are_in p.spots is.entries;
  }

pub memtables_stay : MemtablesStay
memtables_stay columns more m added of key h held = partition_stays columns more added h.partition (of key h held)
