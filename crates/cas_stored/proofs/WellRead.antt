-- A file in which mutations stand is read without a fault: its blocks don't break.
use Rattle.std.proofs.Common.{◌≡◌, ◌⊎◌, inl, inr, ℕ, zero, suc, Bool, true, false, Option, None, Some, Ok, Err, List, [], ◌∷◌, ◌++◌, refl, sym, ap, ◌∙◌, subst, is_none}
use Rattle.std.specs.Option.{option_map}
use Rattle.cas_types.specs.Limits.{IsNarrow}
use Rattle.cas_types.specs.declared.schema.Column.{Column}
use Rattle.cas_cell.specs.declared.deletion.Deletion.{Deletion}
use Rattle.cas_bounds.specs.ClusteringOrder.{clustering_order}
use Rattle.cas_bounds.specs.declared.cuts.Slice.{Slice}
use Rattle.cas_bounds.specs.declared.order.Ordered.{Ordered}
use Rattle.cas_codec.specs.Reading.{Left, Read, ◌>>=◌}
use Rattle.cas_streams.specs.declared.fragment.Fragment.{Fragment}
use Rattle.cas_facts.specs.declared.facts.Facts.{Facts}
use Rattle.cas_fragments.specs.Blocks.{Reached, past_all, is_full, statics_in}
use Rattle.cas_fragments.specs.Laws.{static_of}
use Rattle.cas_fragments.specs.Reading.{blocks_at, either_way}
use Rattle.cas_index.specs.Searches.{IsBlockFor, IsSliceOf}
use Rattle.cas_index.specs.declared.entries.BlockAt.{BlockAt}
use Rattle.cas_index.specs.declared.entries.PartitionEntry.{PartitionEntry}
use Rattle.cas_tables.specs.Contents.{Contents}
use Rattle.cas_tables.specs.Files.{index_place, table_bytes}
use Rattle.cas_blocks.specs.Cutting.{cut_from}
use Rattle.cas_blocks.specs.Reading.{left_at, at_block, fragments_in, fragments_on, from_block, BreaksBehind, IsBadBehind}
use Rattle.cas_blocks.proofs.Middle.{tables_are_read}
use Rattle.cas_reading.specs.Slices.{IsTold, IsBadBlock, IsBadHead}
use Rattle.cas_sstread.specs.Loading.{Held}
use Rattle.cas_stored.specs.Contents.{IsOf}
use Rattle.cas_stored.specs.Laws.{FilesAreRead}
use Rattle.cas_stored.proofs.ContentsRead.{bad, end_is, is, own}

-- ---- blocks that break

no_more : (b : List Fragment) (r : Read (List (List Fragment))) → fragments_in r ≡ None → fragments_in (r >>= λ others. Ok (b ∷ others.0, others.1)) ≡ None
no_more b (Ok p) none = absurd cc
no_more b (Err f) none = refl

breaks : (order : List Ordered) (columns : List Column) (n : ℕ) (ends goes_on : Bool) (r : Reached) (left : Left) (bs : List (List Fragment)) (at : ℕ)
    → BreaksBehind order columns ends goes_on r left bs at → fragments_in (blocks_at order columns n ends goes_on r left) ≡ None
unfolding blocks_at
breaks order columns zero ends goes_on r left bs at b = refl
breaks order columns (suc n) ends goes_on r left [] at b =
    ap (λ (x : Read (Option (List Fragment))). fragments_in (x >>= λ next. either_way next.0
    (λ b. blocks_at order columns n (is_none (past_all r b).force) (is_full b) (past_all r b) next.1 >>= λ others. Ok (b ∷ others.0, others.1)) (Ok ([], next.1)))) b.1.1
breaks order columns (suc n) ends goes_on r left (c ∷ bs) at b =
    ap (λ (x : Read (Option (List Fragment))). fragments_in (x >>= λ next. either_way next.0
    (λ b. blocks_at order columns n (is_none (past_all r b).force) (is_full b) (past_all r b) next.1 >>= λ others. Ok (b ∷ others.0, others.1)) (Ok ([], next.1)))) b.1
    ∙ no_more c (blocks_at order columns n (is_none (past_all r c).force) (is_full c) (past_all r c) b.0)
    (breaks order columns n (is_none (past_all r c).force) (is_full c) (past_all r c) b.0 bs at b.2)

-- so what is read from them isn't there
nothing_from : (order : List Ordered) (columns : List Column) (file : List ℕ) (end place : ℕ) (in_force : Option Deletion) (bs : List (List Fragment)) (at : ℕ)
    → BreaksBehind order columns false true (at_block in_force) (left_at file end place) bs at → from_block order columns file end place in_force ≡ None
unfolding fragments_on
nothing_from order columns file end place in_force bs at b = breaks order columns _ false true (at_block in_force) (left_at file end place) bs at b

-- ---- in the file of contents

module _ (t : Held) (narrow : IsNarrow t.columns) (c : Contents) (f : Facts) (of : IsOf t c f) (key : List ℕ) (e : PartitionEntry) (told : IsTold t.kept key e)
    (s : Slice) (one : IsSliceOf (clustering_order t.columns) s) where
  not_behind : (block : Option BlockAt) → IsBlockFor s e.blocks block → (n at : ℕ) → IsBadBehind (clustering_order t.columns) t.columns t.info.number t.kept.end t.contents block n at → ⊥
  not_behind None first n at b = b
  not_behind (Some b) first n at bad =
      let broken = (bad (table_bytes c f) of.contents).1 in
      let at_end = subst (λ (end : ℕ). BreaksBehind (clustering_order t.columns) t.columns false true (at_block b.in_force) (left_at (table_bytes c f) end b.place) broken.0 at)
      (end_is t narrow c f of key) broken.1 in
      let read = tables_are_read.slice t.columns narrow c f of.fits told.number (own t narrow c f of key e told) e (is t narrow c f of key e told) s
      (record { lo = one.0; hi = one.1 }) (Some b) first in
      let none = nothing_from (clustering_order t.columns) t.columns (table_bytes c f) (index_place c) b.place b.in_force broken.0 at at_end in
      not_there (sym (ap (option_map (λ fs. static_of (statics_in (own t narrow c f of key e told).stream.fragments) ++ cut_from (clustering_order t.columns) s b.in_force fs)) none) ∙ read)
    where
      not_there : {X : Type 0} {x : X} → (let o : Option X = None in o) ≡ Some x → ⊥
      not_there e = absurd cc

  block_bad : (n at : ℕ) → IsBadBlock t s e n at → ⊥
  block_bad n at b = not_behind b.block b.first n at b.bad

pub files_are_read : FilesAreRead
files_are_read order f ws key s n at stand b = go b.bad
  where
    go : IsBadHead f.table key b.entry n at ⊎ IsBadBlock f.table s b.entry n at → ⊥
    go (inl h) = bad f.table b.reads.narrow stand.contents stand.facts stand.of key b.entry b.told n at h
    go (inr k) = block_bad f.table b.reads.narrow stand.contents stand.facts stand.of key b.entry b.told s b.reads.slice n at k
