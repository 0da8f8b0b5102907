-- The keys of a file lie from the first to the last that is told of it.
use Rattle.std.proofs.Common.{◌≡◌, ℕ, ◌&&◌, true, not, List, [], ◌∷◌, map, refl, sym, ap, subst}
use Rattle.std.specs.List.{AllByRecursion, Contains}
use Rattle.std.specs.Ordering.{is_gt}
use Rattle.std.specs.declared.cmp.Ordering.TheVariants.{Less}
use Rattle.std.proofs.lemmas.Cmp.{tied_itself}
use Rattle.cas_types.specs.Values.{bytes_cmp}
use Rattle.cas_types.proofs.OrderLaws.{bytes_orders}
use Rattle.cas_info.specs.Overlaps.{reaches}
use Rattle.cas_info.specs.declared.info.TableInfo.{TableInfo}
use Rattle.cas_streams.proofs.Weaves.{Ascend, all_so, ascend_by_keys}
use Rattle.cas_tables.specs.Contents.{Partition, keys}
use Rattle.cas_tables.specs.Files.{first_key, last_key}
use Rattle.cas_view.specs.Views.{may_hold}
use Rattle.cas_stored.specs.Laws.{LoadedStands}
use Rattle.cas_stored.proofs.Lists.{each_one}

itself : (k : List ℕ) → reaches k k ≡ true
itself k = ap (λ o. not (is_gt o)) (tied_itself bytes_orders.total k)

above : (p : Partition) (ps : List Partition) → AllByRecursion (λ q. bytes_cmp p.key q.key ≡ Less) ps → AllByRecursion (λ q. reaches p.key q.key ≡ true) ps
above p ps a = all_so (λ q. bytes_cmp p.key q.key ≡ Less) (λ q. reaches p.key q.key ≡ true) (λ q e. ap (λ o. not (is_gt o)) e) ps a

abbrev own_keys : List Partition → List (List ℕ)
own_keys ps = map (λ p. p.key) ps

from_first : (ps : List Partition) → Ascend bytes_cmp (λ p. p.key) ps → AllByRecursion (λ p. reaches (first_key (own_keys ps)) p.key ≡ true) ps
from_first [] a = tt
from_first (p ∷ ps) a = (itself p.key, above p ps a.0)

at_last : (P : List ℕ → Type 0) (p : Partition) (ps : List Partition) → AllByRecursion (λ q. P q.key) (p ∷ ps) → P (last_key (own_keys (p ∷ ps)))
at_last P p [] a = a.0
at_last P p (q ∷ ps) a = at_last P q ps a.1

to_last : (ps : List Partition) → Ascend bytes_cmp (λ p. p.key) ps → AllByRecursion (λ p. reaches p.key (last_key (own_keys ps)) ≡ true) ps
to_last [] a = tt
to_last (p ∷ []) a = (itself p.key, tt)
to_last (p ∷ q ∷ ps) a = (at_last (λ k. reaches p.key k ≡ true) q ps (above p (q ∷ ps) a.0), to_last (q ∷ ps) a.1)

pub loaded_stands : LoadedStands
loaded_stands f c facts ws of of_atoms told listed says none = record {
  contents = c;
  facts = facts;
  of = of;
  of_atoms = of_atoms;
  told = told;
  ordered = refl;
  says = says;
  none = none;
  range = λ p there. subst (λ (i : TableInfo). may_hold i p.key ≡ true) (sym listed) (λ i. first p there i && last p there i);
}
  where
    ascend : Ascend bytes_cmp (λ p. p.key) c.partitions
    ascend = ascend_by_keys bytes_cmp (λ p. p.key) c.partitions of.fits.ascend

    first : (p : Partition) → Contains c.partitions p → reaches (first_key (keys c)) p.key ≡ true
    first p there = each_one (λ q. reaches (first_key (keys c)) q.key ≡ true) c.partitions p (from_first c.partitions ascend) there

    last : (p : Partition) → Contains c.partitions p → reaches p.key (last_key (keys c)) ≡ true
    last p there = each_one (λ q. reaches q.key (last_key (keys c)) ≡ true) c.partitions p (to_last c.partitions ascend) there
