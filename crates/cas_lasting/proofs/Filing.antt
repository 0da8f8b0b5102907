-- The table files of a store, where its shards and its tables change.
use Rattle.std.proofs.Common.{◌≡◌, ◌≢◌, ◌⊎◌, inl, inr, ◌≤◌, ℕ, zero, suc, List, [], ◌∷◌, ◌++◌, length, map, Some, sym, ap, ◌∙◌, subst, arith, length-append}
use Rattle.std.specs.Prelude.{slice_get, slice_set}
use Rattle.cas_types.specs.declared.schema.TableSchema.{TableSchema}
use Rattle.cas_bounds.specs.ClusteringOrder.{clustering_order}
use Rattle.cas_bounds.specs.declared.cuts.Slice.{Slice}
use Rattle.cas_atoms.specs.Fits.{FitsQuery}
use Rattle.cas_atoms.specs.declared.query.Query.{Query}
use Rattle.cas_bind.specs.Tables.{with_added}
use Rattle.cas_define.specs.declared.addition.Addition.{Addition}
use Rattle.cas_index.specs.Searches.{IsSliceOf}
use Rattle.cas_journal.proofs.Fitting.{NoKeys}
use Rattle.cas_sstread.specs.Loading.{Held}
use Rattle.cas_stored.specs.Reading.{AreReadIn}
use Rattle.cas_view.specs.Views.{File}
use Rattle.cas_shard.specs.Stands.{KeepsFiles, ShardState, files_at, order_of}
use Rattle.cas_recovery.specs.Restored.{HaveNoMore, MayBeRead}
use Rattle.cas_recovery.proofs.Places.{get_here, get_other, same_place}
use Rattle.cas_recovery.proofs.Restoring.{one_keeps}
use Rattle.cas_lasting.specs.Nodes.{files_in, files_of}
use Rattle.cas_lasting.proofs.Tables.{each_order, many}

-- ---- a shard in another state, with the same files

pub files_still : (xs : List ShardState) (n : ℕ) (x y : ShardState) → slice_get xs n ≡ Some x → KeepsFiles x y → files_in (slice_set xs n y) ≡ files_in xs
files_still xs n x y there keeps = λ i k table. one k table (same_place k n) i
  where
    one : (k table : ℕ) → (k ≡ n) ⊎ (k ≢ n) → files_in (slice_set xs n y) k table ≡ files_in xs k table
    one k table (inl here) =
        ap (λ (j : ℕ). files_in (slice_set xs n y) j table) here ∙ ap (λ o. files_of o table) (get_here xs n x y there) ∙ keeps table
        ∙ ap (λ o. files_of o table) (sym there) ∙ ap (λ (j : ℕ). files_in xs j table) (sym here)
    one k table (inr other) = ap (λ o. files_of o table) (get_other xs n k y other)

-- what may be read of these files
abbrev readable : List TableSchema → ℕ → List (File Held) → Type 0
readable ts table fs = (t : TableSchema) → slice_get ts table ≡ Some t → (s : Slice) → IsSliceOf (clustering_order t.columns) s → AreReadIn s fs

pub still_readable : (ts : List TableSchema) (xs : List ShardState) (n : ℕ) (x y : ShardState) → MayBeRead ts xs → slice_get xs n ≡ Some x → KeepsFiles x y
    → MayBeRead ts (slice_set xs n y)
still_readable ts xs n x y are there keeps = one_keeps (readable ts) xs n x y are there keeps

pub still_unmade : (ts : List TableSchema) (xs : List ShardState) (n : ℕ) (x y : ShardState) → HaveNoMore ts xs → slice_get xs n ≡ Some x → KeepsFiles x y
    → HaveNoMore ts (slice_set xs n y)
still_unmade ts xs n x y none there keeps = one_keeps (λ table fs. length ts ≤ table → length fs ≡ 0) xs n x y none there keeps

-- ---- other tables

-- where there is no file every slice may be read
read_in_none : (s : Slice) (fs : List (File Held)) → length fs ≡ 0 → AreReadIn s fs
read_in_none s [] e = tt
read_in_none s (f ∷ fs) e = cc

get_more : {X : Type 0} (xs : List X) (y z : X) (n : ℕ) → slice_get (xs ++ y ∷ []) n ≡ Some z → (slice_get xs n ≡ Some z) ⊎ (length xs ≤ n)
get_more [] y z n is = inr (omega arith)
get_more (x ∷ xs) y z zero is = inl is
get_more (x ∷ xs) y z (suc n) is = elim (get_more xs y z n is) [ inl old ↦ inl old | inr past ↦ inr (omega (arith, past)) ]

module _ (ts : List TableSchema) (xs : List ShardState) (none : HaveNoMore ts xs) (are : MayBeRead ts xs) where
  pub readable_created : (t : TableSchema) → MayBeRead (ts ++ t ∷ []) xs
  readable_created t n x there table u is s slice =
      elim (get_more ts t u table is) [
        | inl old ↦ are n x there table u old s slice
        | inr past ↦ read_in_none s (files_at (slice_get x.stores table)) (none n x there table past)
      ]

  pub unmade_created : (t : TableSchema) → HaveNoMore (ts ++ t ∷ []) xs
  unmade_created t n x there table high = none n x there table (omega (arith, high, length-append ts (t ∷ [])))

  module _ (a : Addition) (bare : NoKeys a.columns) where
    get_mapped : (us : List TableSchema) (n : ℕ) (u : TableSchema) → slice_get (map (with_added a) us) n ≡ Some u → (t : TableSchema) × (slice_get us n ≡ Some t)
    get_mapped [] n u is = cc
    get_mapped (t ∷ us) zero u is = (t, λ i. Some t)
    get_mapped (t ∷ us) (suc n) u is = get_mapped us n u is

    pub readable_altered : MayBeRead (map (with_added a) ts) xs
    readable_altered n x there table u is s slice =
        let (t, was) = get_mapped ts table u is in
        let order : clustering_order u.columns ≡ clustering_order t.columns = ap order_of (sym is) ∙ each_order a bare ts table ∙ ap order_of was in
        are n x there table t was s (subst (λ o. IsSliceOf o s) order slice)

    pub unmade_altered : HaveNoMore (map (with_added a) ts) xs
    unmade_altered n x there table high = none n x there table (omega (arith, high, many a bare ts))

-- ---- a query

-- it may be read in the files of its table
pub query_reads : (ts : List TableSchema) (xs : List ShardState) (n : ℕ) (x : ShardState) (q : Query) → MayBeRead ts xs → slice_get xs n ≡ Some x
    → (t : TableSchema) × (slice_get ts q.table ≡ Some t) × FitsQuery t q → AreReadIn q.slice (files_at (slice_get x.stores q.table))
query_reads ts xs n x q are there (t, is, fits) = are n x there q.table t is q.slice (fits.low.0, fits.high.0)
