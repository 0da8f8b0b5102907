-- A partition that a table may have: its static columns, and its rows and markers as blocks.
use Rattle.std.proofs.Common.{◌≡◌, ℕ, ◌<◌, ◌≤◌, Bool, true, false, ◌||◌, Option, None, Some, List, [], ◌∷◌, ◌++◌, length, filter, refl, sym, ap, subst, append_assoc, length-append, arith}
use Rattle.std.specs.Prelude.{is_some, is_none}
use Rattle.std.specs.List.{AllByRecursion, flat_map}
use Rattle.std.proofs.lemmas.Bool.{true≢false, and_parts, ltb-false}
use Rattle.std.specs.Ordering.{is_lt}
use Rattle.cas_types.specs.declared.schema.Column.{Column}
use Rattle.cas_cell.specs.declared.deletion.Deletion.{Deletion}
use Rattle.cas_bounds.specs.ClusteringOrder.{clustering_order}
use Rattle.cas_bounds.specs.declared.order.Ordered.{Ordered}
use Rattle.cas_bounds.specs.declared.cuts.Slice.{Slice}
use Rattle.cas_codec.specs.Fields.{u32}
use Rattle.cas_codec.proofs.FieldLengths.{u32_long, bytes32_long}
use Rattle.cas_streams.specs.Flat.{changes, at_end}
use Rattle.cas_streams.specs.Merged.{flat_of}
use Rattle.cas_streams.specs.Places.{place_of, place_cmp}
use Rattle.cas_streams.specs.Streams.{IsThere, WellFormed}
use Rattle.cas_streams.specs.Slices.{is_static}
use Rattle.cas_streams.specs.declared.fragment.Fragment.{Fragment}
use Rattle.cas_streams.specs.declared.fragment.Fragment.TheVariants as fragment
use Rattle.cas_streams.proofs.Weaves.{Ascend}
use Rattle.cas_fragments.specs.Allowed.{FitsFragment, FitsHead}
use Rattle.cas_fragments.specs.Spelling.{body_bytes, block_bytes}
use Rattle.cas_fragments.specs.Blocks.{Reached, past, past_all, is_change, may_follow, is_full, statics_in, behind_statics, blocks_bytes, says_head}
use Rattle.cas_fragments.specs.declared.heads.Version.{Version}
use Rattle.cas_fragments.specs.declared.heads.Version.TheVariants.{First, Second}
use Rattle.cas_fragments.specs.Laws.{static_of, IsBlock, joined, Stand, IsPartition}
use Rattle.cas_fragments.proofs.WholeLaws.{partitions_are_exact}
use Rattle.cas_tables.specs.Contents.{Partition}
use Rattle.cas_tables.specs.Fitting.{FitsPartition}
use Rattle.cas_tables.specs.Places.{blocks}
use Rattle.cas_blocks.specs.Cutting.{cut_from}
use Rattle.cas_blocks.specs.Reading.{at_block}
use Rattle.cas_blocks.proofs.Finding.{IsRow}

-- ---- static columns

pub parts_joined : (columns : List Column) (fs : List Fragment) → WellFormed columns fs → static_of (statics_in fs) ++ behind_statics fs ≡ fs
parts_joined columns [] w = refl
parts_joined columns (fragment.Static [] ∷ fs) w = absurd (w.fragments.0.1)
parts_joined columns (fragment.Static (c ∷ cs) ∷ fs) w = refl
parts_joined columns (fragment.Row r ∷ fs) w = refl
parts_joined columns (fragment.Marker k d ∷ fs) w = refl

no_static : (columns : List Column) (fs : List Fragment) → AllByRecursion (FitsFragment columns) fs → filter is_static fs ≡ []
no_static columns [] fit = refl
no_static columns (fragment.Static cs ∷ fs) fit = absurd fit.0
no_static columns (fragment.Row r ∷ fs) fit = no_static columns fs fit.1
no_static columns (fragment.Marker k d ∷ fs) fit = no_static columns fs fit.1

pub statics_are : (columns : List Column) (fs : List Fragment) → WellFormed columns fs → AllByRecursion (FitsFragment columns) (behind_statics fs)
    → filter is_static fs ≡ static_of (statics_in fs)
statics_are columns [] w fit = refl
statics_are columns (fragment.Static [] ∷ fs) w fit = absurd (w.fragments.0.1)
statics_are columns (fragment.Static (c ∷ cs) ∷ fs) w fit = ap (λ gs. fragment.Static (c ∷ cs) ∷ gs) (no_static columns fs fit)
statics_are columns (fragment.Row r ∷ fs) w fit = no_static columns fs fit.1
statics_are columns (fragment.Marker k d ∷ fs) w fit = no_static columns fs fit.1

pub cut_behind_statics : (order : List Ordered) (s : Slice) (fs : List Fragment) → cut_from order s None fs ≡ cut_from order s None (behind_statics fs)
cut_behind_statics order s [] = refl
cut_behind_statics order s (fragment.Static cs ∷ fs) = refl
cut_behind_statics order s (fragment.Row r ∷ fs) = refl
cut_behind_statics order s (fragment.Marker k d ∷ fs) = refl

pub rest_ascends : (order : List Ordered) (fs : List Fragment) → Ascend (place_cmp order) place_of fs → Ascend (place_cmp order) place_of (behind_statics fs)
rest_ascends order [] up = up
rest_ascends order (fragment.Static cs ∷ fs) up = up.1
rest_ascends order (fragment.Row r ∷ fs) up = up
rest_ascends order (fragment.Marker k d ∷ fs) up = up

pub are_rows : (columns : List Column) (fs : List Fragment) → AllByRecursion (FitsFragment columns) fs → AllByRecursion (IsRow (clustering_order columns)) fs
are_rows columns [] fit = tt
are_rows columns (fragment.Static cs ∷ fs) fit = absurd fit.0
are_rows columns (fragment.Row r ∷ fs) fit = ((fit.0.clustering.0, refl), are_rows columns fs fit.1)
are_rows columns (fragment.Marker k d ∷ fs) fit = ((fit.0.0.0, refl), are_rows columns fs fit.1)

-- ---- a partition

some_head : (top : Option Deletion) (n : Bool) → is_some top || n ≡ false → top ≡ None
some_head None n e = refl
some_head (Some d) n e = absurd (true≢false e)

pub says_rest : (columns : List Column) (key : List ℕ) (top : Option Deletion) (fs : List Fragment) → WellFormed columns fs
    → IsThere (flat_of (record { top = top; fragments = fs })) → says_head (key, top, statics_in fs) ≡ false → IsThere (behind_statics fs)
says_rest columns key None [] w there e = absurd there
says_rest columns key (Some d) [] w there e = absurd (true≢false e)
says_rest columns key top (fragment.Static [] ∷ fs) w there e = absurd (w.fragments.0.1)
says_rest columns key None (fragment.Static (c ∷ cs) ∷ fs) w there e = absurd (let none : length (c ∷ cs) ≤ 0 = ltb-false 0 (length (c ∷ cs)) e in omega arith)
says_rest columns key (Some d) (fragment.Static (c ∷ cs) ∷ fs) w there e = absurd (true≢false e)
says_rest columns key top (fragment.Row r ∷ fs) w there e = tt
says_rest columns key top (fragment.Marker k d ∷ fs) w there e = tt

pub head_of_fits : (version : Version) (columns : List Column) (p : Partition) → FitsPartition columns p → (version ≡ First → statics_in p.stream.fragments ≡ [])
    → FitsHead version columns (p.key, p.stream.top, statics_in p.stream.fragments)
head_of_fits First columns p fit none = (fit.key, fit.top, none refl)
head_of_fits Second columns p fit none = (fit.key, fit.top, fit.statics)

pub is_partition : (version : Version) (columns : List Column) (p : Partition) → FitsPartition columns p → (version ≡ First → statics_in p.stream.fragments ≡ [])
    → IsPartition version columns ((p.key, p.stream.top, statics_in p.stream.fragments), blocks p)
is_partition version columns p fit none =
    partitions_are_exact.whole version columns (p.key, p.stream.top, statics_in p.stream.fragments) (behind_statics p.stream.fragments)
    (head_of_fits version columns p fit none) fit.rest
    (subst (WellFormed columns) (sym (parts_joined columns p.stream.fragments fit.well_formed)) fit.well_formed)
    (says_rest columns p.key p.stream.top p.stream.fragments fit.well_formed fit.said) fit.room

-- ---- blocks behind others

pub stand_there : (columns : List Column) (ends goes_on : Bool) (r : Reached) (bs : List (List Fragment)) → Stand columns ends goes_on r bs → AllByRecursion IsThere bs
stand_there columns ends goes_on r [] stand = tt
stand_there columns ends goes_on r (b ∷ bs) stand = (stand.0.1.some, stand_there columns (is_none (past_all r b).force) (is_full b) (past_all r b) bs stand.1)

past_both : (r : Reached) (xs ys : List Fragment) → past_all r (xs ++ ys) ≡ past_all (past_all r xs) ys
past_both r [] ys = refl
past_both r (x ∷ xs) ys = past_both (past r x) xs ys

pub end_is : (r : Reached) (fs : List Fragment) → at_end r.force (changes fs) ≡ (past_all r fs).force
end_is r [] = refl
end_is r (fragment.Static cs ∷ fs) = end_is (past r (fragment.Static cs)) fs
end_is r (fragment.Row row ∷ fs) = end_is (past r (fragment.Row row)) fs
end_is r (fragment.Marker cut d ∷ fs) = end_is (past r (fragment.Marker cut d)) fs

-- what may stand behind others may stand behind a beginning of which only the deletion in force is known
first_follows : (order : List Ordered) (columns : List Column) (r : Reached) (f : Fragment) → FitsFragment columns f → may_follow order r f ≡ true
    → may_follow order (at_block r.force) f ≡ true
unfolding may_follow
first_follows order columns r (fragment.Static cs) fit e = absurd fit
first_follows order columns r (fragment.Row row) fit e = refl
first_follows order columns r (fragment.Marker k d) fit e =
    (and_parts (is_lt (place_cmp order r.last (place_of (fragment.Marker k d)))) (is_change r.force (fragment.Marker k d)) e).1

block_follows : (columns : List Column) (r : Reached) (f : Fragment) (fs : List Fragment) → IsBlock columns r (f ∷ fs)
    → IsBlock columns (at_block r.force) (f ∷ fs)
block_follows columns r f fs block = record {
  some = tt;
  fit = block.fit;
  follow = (first_follows (clustering_order columns) columns r f block.fit.0 block.follow.0, block.follow.1);
  early = block.early;
}

-- blocks from the middle of a partition on stand so too
pub stand_from : (columns : List Column) (front : List (List Fragment)) (f : Fragment) (fs : List Fragment) (rest : List (List Fragment)) (ends goes_on : Bool)
    (r : Reached) → Stand columns ends goes_on r (front ++ (f ∷ fs) ∷ rest)
    → Stand columns false true (at_block (past_all r (joined front)).force) ((f ∷ fs) ∷ rest)
stand_from columns [] f fs rest ends goes_on r stand = ((refl, block_follows columns r f fs stand.0.1, stand.0.2), stand.1)
stand_from columns (b ∷ front) f fs rest ends goes_on r stand =
    subst (λ (q : Reached). Stand columns false true (at_block q.force) ((f ∷ fs) ∷ rest)) (sym (past_both r b (joined front)))
    (stand_from columns front f fs rest (is_none (past_all r b).force) (is_full b) (past_all r b) stand.1)

-- fewer blocks than bytes
pub blocks_few : (bs : List (List Fragment)) → length bs < length (blocks_bytes bs)
blocks_few [] = omega (arith, u32_long 0)
blocks_few (b ∷ bs) =
    omega (
      arith,
      ap length (append_assoc (block_bytes b) (flat_map block_bytes bs) (u32 0)),
      length-append (block_bytes b) (blocks_bytes bs),
      bytes32_long (body_bytes b),
      blocks_few bs,
    )
