-- What is read of the file of contents is what these have.
use Rattle.std.proofs.Common.{◌≡◌, ℕ, Option, None, Some, Result, Ok, Err, List, sym, ap, subst, ◌∙◌}
use Rattle.std.specs.Prelude.{slice_get}
use Rattle.cas_types.specs.Limits.{IsNarrow}
use Rattle.cas_cell.specs.declared.deletion.Deletion.{Deletion}
use Rattle.cas_bounds.specs.ClusteringOrder.{clustering_order}
use Rattle.cas_bounds.specs.declared.cuts.Slice.{Slice}
use Rattle.cas_atoms.specs.declared.row.RowColumn.{RowColumn}
use Rattle.cas_streams.specs.declared.fragment.Fragment.{Fragment}
use Rattle.cas_facts.specs.declared.facts.Facts.{Facts}
use Rattle.cas_fragments.specs.Blocks.{statics_in}
use Rattle.cas_fragments.specs.declared.heads.Version.{Version}
use Rattle.cas_index.specs.Searches.{IsSliceOf}
use Rattle.cas_index.specs.declared.entries.PartitionEntry.{PartitionEntry}
use Rattle.cas_tables.specs.Contents.{Partition, Contents}
use Rattle.cas_tables.specs.Files.{index_of, index_place, table_bytes}
use Rattle.cas_blocks.specs.Reading.{left_at, slice_of}
use Rattle.cas_blocks.specs.Laws.{IsEntry}
use Rattle.cas_blocks.proofs.Middle.{tables_are_read}
use Rattle.cas_blocks.specs.declared.fault.TableFault.{TableFault}
use Rattle.cas_blocks.specs.declared.fault.TableFault.TheVariants as table_fault
use Rattle.cas_sstread.specs.Reading.{Loaded}
use Rattle.cas_sstread.specs.Loading.{Held}
use Rattle.cas_sstread.specs.Laws.{kept_for, StandsThere}
use Rattle.cas_sstread.specs.Searches.{IsFound}
use Rattle.cas_sstread.proofs.ContentsLoad.{tables_load}
use Rattle.cas_sstread.proofs.PartitionsFound.{partitions_are_found}
use Rattle.cas_reading.specs.Slices.{IsTold, IsHead, IsSlice, IsBadHead, Answers}
use Rattle.cas_stored.specs.Contents.{IsOf, HasNone, IsCut, AnswersOf}
use Rattle.cas_stored.proofs.Told.{is_among, has_none}
use Rattle.cas_reading.proofs.Heads.{Found, one_head}

module _ (t : Held) (narrow : IsNarrow t.columns) (c : Contents) (f : Facts) (of : IsOf t c f) (key : List ℕ) where
  abbrev pub file : List ℕ
  file = table_bytes c f

  pub end_is : t.kept.end ≡ index_place c
  end_is = ap (λ (k : Loaded). k.end) of.kept

  version_is : t.kept.version ≡ c.header.version
  version_is = ap (λ (k : Loaded). k.version) of.kept

  -- ---- none

  none : IsFound t.kept key None → HasNone c key
  none found = partitions_are_found.none c key (has_none (kept_for c) key (tables_load.filter c) (subst (λ (k : Loaded). IsFound k key None) of.kept found))

  -- ---- the partition of which the index tells

  module _ (e : PartitionEntry) (told : IsTold t.kept key e) where
    there : slice_get (index_of c) told.number ≡ Some e
    there = sym (ap (λ (k : Loaded). slice_get k.partitions told.number) of.kept) ∙ told.there

    pub stands : StandsThere c f key told.number
    stands = partitions_are_found.found c f key told.number (e, there, told.key_is)

    abbrev pub own : Partition
    own = stands.partition

    pub is : IsEntry c told.number own e
    is = record { partition = stands.one; entry = there }

    abbrev statics-own : List RowColumn
    statics-own = statics_in own.stream.fragments

    head : IsHead t.kept.version t.columns (left_at file t.kept.end e.place) key own.stream.top statics-own
    head =
        let stood = tables_are_read.head t.columns narrow c f of.fits told.number own e is in
        subst (λ (k : List ℕ). IsHead t.kept.version t.columns (left_at file t.kept.end e.place) k own.stream.top statics-own) stands.key_is
        (subst (λ (n : ℕ). IsHead t.kept.version t.columns (left_at file n e.place) own.key own.stream.top statics-own) (sym end_is)
        (subst (λ (v : Version). IsHead v t.columns (left_at file (index_place c) e.place) own.key own.stream.top statics-own) (sym version_is)
        (record { rest = stood.left; read = stood.read })))

    pub bad : (n at : ℕ) → IsBadHead t key e n at → ⊥
    bad n at b = (b file of.contents).2 own.stream.top statics-own head

    module _ (s : Slice) (one : IsSliceOf (clustering_order t.columns) s) (top : Option Deletion) (to_come : Option (List Fragment))
        (slice : IsSlice t key s e top to_come) where
      read : IsHead t.kept.version t.columns (left_at file t.kept.end e.place) key top slice.statics
      read = slice.head file of.contents

      same : ◌≡◌ {A = Found} ((key, top, slice.statics), read.rest) ((key, own.stream.top, statics-own), head.rest)
      same = one_head t.kept.version t.columns (left_at file t.kept.end e.place) ((key, top, slice.statics), read.rest) ((key, own.stream.top, statics-own), head.rest)
          read.read head.read

      cut : IsCut c key s top to_come
      cut = record {
        partition = own;
        there = is_among c.partitions told.number own stands.one;
        key_is = stands.key_is;
        top_is = ap (λ (x : Found). x.0.1) same;
        comes = slice.comes
            ∙ ap (λ (b : Option (List ℕ)). slice_of (clustering_order t.columns) t.columns b t.kept.end slice.statics s slice.block) of.contents
            ∙ ap (λ (n : ℕ). slice_of (clustering_order t.columns) t.columns (Some file) n slice.statics s slice.block) end_is
            ∙ ap (λ (cs : List RowColumn). slice_of (clustering_order t.columns) t.columns (Some file) (index_place c) cs s slice.block) (ap (λ (x : Found). x.0.2) same)
            ∙ tables_are_read.slice t.columns narrow c f of.fits told.number own e is s (record { lo = one.0; hi = one.1 }) slice.block slice.first;
      }

pub answers_of : {X : Type 0} (t : Held) → IsNarrow t.columns → (c : Contents) (f : Facts) → IsOf t c f → (key : List ℕ) (s : Slice)
    → IsSliceOf (clustering_order t.columns) s → (top : X → Option Deletion) (to_come : X → Option (List Fragment)) (r : Result (Option X) TableFault)
    → Answers t key s top to_come r → AnswersOf c key s top to_come r
answers_of t narrow c f of key s one top to_come (Ok None) a = none t narrow c f of key a
answers_of t narrow c f of key s one top to_come (Ok (Some x)) a = cut t narrow c f of key a.0 a.1 s one (top x) (to_come x) a.2
answers_of t narrow c f of key s one top to_come (Err table_fault.Read) a = tt
answers_of t narrow c f of key s one top to_come (Err (table_fault.BadBlock n at)) a = bad t narrow c f of key a.0 a.1 n at a.2
answers_of t narrow c f of key s one top to_come (Err table_fault.Mem) a = tt
