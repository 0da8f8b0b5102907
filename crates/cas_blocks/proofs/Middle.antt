-- A partition is read from the middle on as from its beginning.
use Rattle.std.proofs.Common.{◌≡◌, ℕ, zero, suc, ◌+◌, ◌-◌, ◌<◌, Bool, true, false, cond, Option, None, Some, List, [], ◌∷◌, ◌++◌, length, take, drop, filter, refl, sym, ap, subst, ◌∙◌, append_assoc, length-append, arith}
use Rattle.std.specs.Prelude.{slice_get}
use Rattle.std.specs.List.{AllByRecursion, flat_map}
use Rattle.std.specs.Option.{option_map}
use Rattle.std.specs.Ordering.{is_lt}
use Rattle.std.proofs.lemmas.Bool.{and_parts}
use Rattle.std.proofs.lemmas.List.{append-nil, take_at, drop_at}
use Rattle.std.proofs.lemmas.Grind.{flat_map-append}
use Rattle.cas_types.specs.Limits.{IsNarrow}
use Rattle.cas_types.specs.declared.schema.Column.{Column}
use Rattle.cas_cell.specs.declared.deletion.Deletion.{Deletion}
use Rattle.cas_bounds.specs.ClusteringOrder.{clustering_order}
use Rattle.cas_bounds.specs.Cuts.{cut_cmp}
use Rattle.cas_bounds.specs.declared.order.Ordered.{Ordered}
use Rattle.cas_bounds.specs.declared.cuts.Slice.{Slice}
use Rattle.cas_codec.specs.Fields.{u32}
use Rattle.cas_codec.proofs.Exactness.{read_left}
use Rattle.cas_streams.specs.Places.{place_of, place_cmp}
use Rattle.cas_streams.specs.Slices.{IsSliceOf, stands_before, is_static, between_cuts, cut_to}
use Rattle.cas_streams.specs.declared.fragment.Fragment.{Fragment}
use Rattle.cas_streams.proofs.Weaves.{Ascend, ascend_by_keys}
use Rattle.cas_facts.specs.declared.facts.Facts.{Facts}
use Rattle.cas_fragments.specs.Spelling.{block_bytes}
use Rattle.cas_fragments.specs.Blocks.{nowhere, past_all, statics_in, behind_statics, blocks_bytes, says_head}
use Rattle.cas_fragments.specs.Reading.{head_at}
use Rattle.cas_fragments.specs.declared.heads.Version.{Version}
use Rattle.cas_fragments.specs.declared.heads.Version.TheVariants.{Second}
use Rattle.cas_streams.specs.Streams.{IsThere}
use Rattle.cas_fragments.specs.Laws.{static_of, joined, Stand}
use Rattle.cas_fragments.proofs.FragmentLaws.{head_exact}
use Rattle.cas_fragments.proofs.WholeLaws.{blocks_are}
use Rattle.cas_fragments.proofs.CutLaws.{blocks_are_partitions}
use Rattle.cas_index.specs.Searches.{IsBlockFor}
use Rattle.cas_index.specs.declared.entries.BlockAt.{BlockAt}
use Rattle.cas_index.specs.declared.entries.BlockEntry.{BlockEntry}
use Rattle.cas_index.specs.declared.entries.PartitionEntry.{PartitionEntry}
use Rattle.cas_info.specs.Spelling.{info_bytes}
use Rattle.cas_filter.specs.Spelling.{filter_bytes}
use Rattle.cas_index.specs.Spelling.{index_bytes, footer_bytes}
use Rattle.cas_tables.specs.Contents.{Partition, Contents}
use Rattle.cas_tables.specs.Files.{front_bytes, index_of, index_place, key_filter, footer_of, info_of, table_bytes}
use Rattle.cas_tables.specs.Fitting.{FitsPartition, FitsContents}
use Rattle.cas_tables.specs.Places.{head_of, blocks, text_of, block_entries, entries}
use Rattle.cas_tables.specs.Spelling.{header_bytes}
use Rattle.cas_blocks.specs.Cutting.{cut_from}
use Rattle.cas_blocks.specs.Reading.{left_at, fragments_in, fragments_on, at_block, from_block, slice_of}
use Rattle.cas_blocks.specs.Laws.{IsEntry, HeadStands, TablesAreRead}
use Rattle.cas_blocks.proofs.CutLaws.{cuts_are_one}
use Rattle.cas_blocks.proofs.Finding.{IsRow, Found, find, cut_skips, begins_late}
use Rattle.cas_blocks.proofs.Parts.{statics_are, cut_behind_statics, rest_ascends, are_rows, head_of_fits, is_partition, stand_there, end_is, stand_from, blocks_few}

-- what is read from that block on, with the deletion in force there, and cut to the slice, is all that the partition has between the slice's cuts
record BlockServes (columns : List Column) (file : List ℕ) (end : ℕ) (p : Partition) (s : Slice) (at : BlockAt) : Type 0 where
  pub fragments : List Fragment
  pub read : from_block (clustering_order columns) columns file end at.place at.in_force ≡ Some fragments
  pub same : cut_to s p.stream.fragments ≡ static_of (statics_in p.stream.fragments) ++ cut_from (clustering_order columns) s at.in_force fragments

-- the block that serves a slice; where none can meet it, the partition has the static row alone there
abbrev Serves : List Column → List ℕ → ℕ → Partition → Slice → Option BlockAt → Type 0
Serves columns file end p s None = cut_to s p.stream.fragments ≡ static_of (statics_in p.stream.fragments)
Serves columns file end p s (Some at) = BlockServes columns file end p s at

-- ---- where a partition stands

-- a partition among others, and its entry
record Standing (version : Version) (place : ℕ) (ps : List Partition) (p : Partition) (e : PartitionEntry) : Type 0 where
  pub before : List ℕ
  pub after : List ℕ
  pub there : flat_map (text_of version) ps ≡ before ++ (text_of version p ++ after)
  pub place_is : e.place ≡ place + length before
  pub blocks_are : e.blocks ≡ block_entries (e.place + length (head_of version p)) None (blocks p)
  pub key : e.key ≡ p.key

entry_for : Version → ℕ → Partition → PartitionEntry
entry_for version place p = record { key = p.key; place = place; blocks = block_entries (place + length (head_of version p)) None (blocks p) }

first_stands : (version : Version) (place : ℕ) (q : Partition) (ps : List Partition) → Standing version place (q ∷ ps) q (entry_for version place q)
unfolding entry_for
first_stands version place q ps = record { before = []; after = flat_map (text_of version) ps; there = refl; place_is = omega arith; blocks_are = refl; key = refl }

later_stands : (version : Version) (place : ℕ) (q : Partition) (ps : List Partition) (p : Partition) (e : PartitionEntry) → Standing version (place + length (text_of version q)) ps p e
    → Standing version place (q ∷ ps) p e
later_stands version place q ps p e s = record {
  before = text_of version q ++ s.before;
  after = s.after;
  there = ap (λ (t : List ℕ). text_of version q ++ t) s.there ∙ sym (append_assoc (text_of version q) s.before (text_of version p ++ s.after));
  place_is = omega (arith, s.place_is, length-append (text_of version q) s.before);
  blocks_are = s.blocks_are;
  key = s.key;
}

some_same : {X : Type 0} (o : Option X) (x y : X) → o ≡ Some x → o ≡ Some y → x ≡ y
some_same o x y a b = cc

standing : (version : Version) (place : ℕ) (ps : List Partition) (i : ℕ) (p : Partition) (e : PartitionEntry) → slice_get ps i ≡ Some p → slice_get (entries version place ps) i ≡ Some e
    → Standing version place ps p e
unfolding entry_for
standing version place [] i p e is at = absurd cc
standing version place (q ∷ ps) zero p e is at =
    let same : q ≡ p = some_same (Some q) q p refl is in
    let told : entry_for version place q ≡ e = some_same (Some (entry_for version place q)) (entry_for version place q) e refl at in
    subst (λ (x : PartitionEntry). Standing version place (q ∷ ps) p x) told (subst (λ (x : Partition). Standing version place (q ∷ ps) x (entry_for version place q)) same (first_stands version place q ps))
standing version place (q ∷ ps) (suc i) p e is at = later_stands version place q ps p e (standing version (place + length (text_of version q)) ps i p e is at)

fits_at : (P : Partition → Type 0) (ps : List Partition) (i : ℕ) (p : Partition) → slice_get ps i ≡ Some p → AllByRecursion P ps → P p
fits_at P [] i p is all = absurd cc
fits_at P (q ∷ ps) zero p is all = subst P (some_same (Some q) q p refl is) all.0
fits_at P (q ∷ ps) (suc i) p is all = fits_at P ps i p is all.1

-- what stands behind some bytes of what is in front
cut_left : (xs ys tail file front : List ℕ) (place : ℕ) → file ≡ front ++ tail → front ≡ xs ++ ys → place ≡ length xs
    → left_at file (length front) place ≡ read_left ys place
cut_left xs ys tail file front place is whole at =
    ap (λ (t : List ℕ). read_left (take (length front - place) t) place)
    (ap (drop place) (is ∙ ap (λ (t : List ℕ). t ++ tail) whole ∙ append_assoc xs ys tail) ∙ drop_at xs (ys ++ tail) place (sym at))
    ∙ ap (λ (t : List ℕ). read_left t place) (take_at ys tail (length front - place) (omega (arith, ap length whole, length-append xs ys)))

-- ---- blocks that are read

read_from : (columns : List Column) → IsNarrow columns → (in_force : Option Deletion) (bs : List (List Fragment)) (rest : List ℕ) (place : ℕ)
    → Stand columns false true (at_block in_force) bs
    → fragments_on (clustering_order columns) columns false true (at_block in_force) (read_left (blocks_bytes bs ++ rest) place) ≡ Some (joined bs)
unfolding fragments_on
read_from columns narrow in_force bs rest place stand =
    let long = length-append (blocks_bytes bs) rest in
    let few : length bs < length (blocks_bytes bs ++ rest) = omega (arith, blocks_few bs) in
    ap fragments_in ((blocks_are columns narrow (length (blocks_bytes bs ++ rest)) false true (at_block in_force)).again bs rest place (stand, few))

module _ (columns : List Column) (narrow : IsNarrow columns) (p : Partition) (fit : FitsPartition columns p) where
  abbrev order : List Ordered
  order = clustering_order columns

  abbrev rest : List Fragment
  rest = behind_statics p.stream.fragments

  stand : Stand columns (says_head (p.key, p.stream.top, statics_in p.stream.fragments)) true nowhere (blocks p)
  stand = (is_partition Second columns p fit (λ first. absurd cc)).1

  whole : joined (blocks p) ≡ rest
  whole = blocks_are_partitions.whole rest

  there : AllByRecursion IsThere (blocks p)
  there = stand_there columns (says_head (p.key, p.stream.top, statics_in p.stream.fragments)) true nowhere (blocks p) stand

  rows : AllByRecursion (IsRow order) (joined (blocks p))
  rows = subst (AllByRecursion (IsRow order)) (sym whole) (are_rows columns rest fit.rest)

  up : Ascend (place_cmp order) place_of (joined (blocks p))
  up = subst (Ascend (place_cmp order) place_of) (sym whole)
      (rest_ascends order p.stream.fragments (ascend_by_keys (place_cmp order) place_of p.stream.fragments fit.well_formed.ordered.places))

  module _ (s : Slice) (slice : IsSliceOf order s) where
    cut_is : stands_before s.lo s.hi ≡ true → cut_to s p.stream.fragments ≡ static_of (statics_in p.stream.fragments) ++ cut_from order s None (joined (blocks p))
    cut_is some =
        cuts_are_one order s p.stream.fragments slice some fit.well_formed.ordered
        ∙ ap (λ (gs : List Fragment). gs ++ cut_from order s None p.stream.fragments) (statics_are columns p.stream.fragments fit.well_formed fit.rest)
        ∙ ap (λ (gs : List Fragment). static_of (statics_in p.stream.fragments) ++ gs)
        (cut_behind_statics order s p.stream.fragments ∙ ap (cut_from order s None) (sym whole))

    nothing_meets : (place : ℕ) → IsBlockFor s (block_entries place None (blocks p)) None → cut_to s p.stream.fragments ≡ static_of (statics_in p.stream.fragments)
    nothing_meets place none = by_test (stands_before s.lo s.hi) refl
      where
        by_test : (b : Bool) → stands_before s.lo s.hi ≡ b → cut_to s p.stream.fragments ≡ static_of (statics_in p.stream.fragments)
        by_test true e =
            cut_is e
            ∙ ap (λ (gs : List Fragment). static_of (statics_in p.stream.fragments) ++ gs) (begins_late order s slice e (blocks p) place there rows none)
            ∙ append-nil (static_of (statics_in p.stream.fragments))
        by_test false e =
            ap (λ b. filter is_static p.stream.fragments ++ cond b (between_cuts s p.stream.fragments) []) e
            ∙ append-nil (filter is_static p.stream.fragments) ∙ statics_are columns p.stream.fragments fit.well_formed fit.rest

    module _ (place : ℕ) (at : BlockAt) (found : Found order s place None (blocks p) at) where
      abbrev on : List (List Fragment)
      on = (found.first ∷ found.others) ∷ found.rest

      joined_is : joined (blocks p) ≡ joined found.front ++ joined on
      joined_is = ap joined found.split ∙ flat_map-append (λ b. b) found.front on

      force_is : (past_all nowhere (joined found.front)).force ≡ at.in_force
      force_is = sym (end_is nowhere (joined found.front)) ∙ sym found.force

      stand_on : Stand columns false true (at_block at.in_force) on
      stand_on =
          subst (λ (d : Option Deletion). Stand columns false true (at_block d) on) force_is
          (stand_from columns found.front found.first found.others found.rest (says_head (p.key, p.stream.top, statics_in p.stream.fragments)) true nowhere
          (subst (Stand columns (says_head (p.key, p.stream.top, statics_in p.stream.fragments)) true nowhere) found.split stand))

      cut_on : cut_from order s None (joined (blocks p)) ≡ cut_from order s at.in_force (joined on)
      cut_on =
          ap (cut_from order s None) joined_is ∙ cut_skips order s None (joined found.front) (joined on) found.low
          ∙ ap (λ d. cut_from order s d (joined on)) (sym found.force)

      spelled : blocks_bytes (blocks p) ≡ flat_map block_bytes found.front ++ blocks_bytes on
      spelled =
          ap blocks_bytes found.split
          ∙ ap (λ (t : List ℕ). t ++ u32 0) (flat_map-append block_bytes found.front on)
          ∙ append_assoc (flat_map block_bytes found.front) (flat_map block_bytes on) (u32 0)

-- ---- in a file

module _ (columns : List Column) (narrow : IsNarrow columns) (c : Contents) (f : Facts) (fits : FitsContents columns c)
    (i : ℕ) (p : Partition) (e : PartitionEntry) (is : IsEntry c i p e) where
  abbrev tail : List ℕ
  tail = index_bytes (index_of c) ++ (filter_bytes (key_filter c) ++ (info_bytes (info_of c f) ++ footer_bytes (footer_of c)))

  stands : Standing c.header.version (length (header_bytes c.header)) c.partitions p e
  stands = standing c.header.version (length (header_bytes c.header)) c.partitions i p e is.partition is.entry

  fit-p : FitsPartition columns p
  fit-p = fits_at (FitsPartition columns) c.partitions i p is.partition fits.each

  front_is : front_bytes c ≡ (header_bytes c.header ++ stands.before) ++ (text_of c.header.version p ++ stands.after)
  front_is =
      ap (λ (t : List ℕ). header_bytes c.header ++ t) stands.there
      ∙ sym (append_assoc (header_bytes c.header) stands.before (text_of c.header.version p ++ stands.after))

  place_is : e.place ≡ length (header_bytes c.header ++ stands.before)
  place_is = stands.place_is ∙ sym (length-append (header_bytes c.header) stands.before)

  head_stands : HeadStands c.header.version columns (table_bytes c f) (index_place c) p e
  head_stands =
      let head : List ℕ = head_of c.header.version p in
      let more : List ℕ = blocks_bytes (blocks p) ++ stands.after in
      let at = cut_left (header_bytes c.header ++ stands.before) (text_of c.header.version p ++ stands.after) tail (table_bytes c f) (front_bytes c) e.place refl front_is place_is in
      record {
        key = stands.key;
        left = read_left more (e.place + length head);
        read = ap (head_at c.header.version columns) (at ∙ ap (λ (t : List ℕ). read_left t e.place) (append_assoc head (blocks_bytes (blocks p)) stands.after))
            ∙ (head_exact c.header.version columns narrow).again (p.key, p.stream.top, statics_in p.stream.fragments) more e.place (head_of_fits c.header.version columns p fit-p
            (λ first. fits_at (λ q. statics_in q.stream.fragments ≡ []) c.partitions i p is.partition (fits.statics first)));
      }

  module _ (s : Slice) (slice : IsSliceOf (clustering_order columns) s) where
    found_serves : (at : BlockAt) → Found (clustering_order columns) s (e.place + length (head_of c.header.version p)) None (blocks p) at → stands_before s.lo s.hi ≡ true
        → BlockServes columns (table_bytes c f) (index_place c) p s at
    found_serves at found some =
        let front : List ℕ = flat_map block_bytes found.front in
        let blocks-on : List (List Fragment) = (found.first ∷ found.others) ∷ found.rest in
        let base : List ℕ = header_bytes c.header ++ stands.before in
        let xs : List ℕ = (base ++ head_of c.header.version p) ++ front in
        let ys : List ℕ = blocks_bytes blocks-on ++ stands.after in
        let text : text_of c.header.version p ++ stands.after ≡ head_of c.header.version p ++ (front ++ ys) =
        append_assoc (head_of c.header.version p) (blocks_bytes (blocks p)) stands.after
        ∙ ap (λ (t : List ℕ). head_of c.header.version p ++ t) (ap (λ (t : List ℕ). t ++ stands.after) (spelled columns narrow p fit-p s slice (e.place + length (head_of c.header.version p)) at found)
        ∙ append_assoc front (blocks_bytes blocks-on) stands.after) in
        let whole : front_bytes c ≡ xs ++ ys =
        front_is ∙ ap (λ (t : List ℕ). base ++ t) text
        ∙ sym (append_assoc base (head_of c.header.version p) (front ++ ys)) ∙ sym (append_assoc (base ++ head_of c.header.version p) front ys) in
        let place : at.place ≡ length xs =
        omega (arith, found.place_is, place_is, length-append (base ++ head_of c.header.version p) front, length-append base (head_of c.header.version p)) in
        record {
          fragments = joined blocks-on;
          read =
              ap (fragments_on (clustering_order columns) columns false true (at_block at.in_force)) (cut_left xs ys tail (table_bytes c f) (front_bytes c) at.place refl whole place)
              ∙ read_from columns narrow at.in_force blocks-on stands.after at.place
              (stand_on columns narrow p fit-p s slice (e.place + length (head_of c.header.version p)) at found);
          same =
              cut_is columns narrow p fit-p s slice some
              ∙ ap (λ (gs : List Fragment). static_of (statics_in p.stream.fragments) ++ gs)
              (cut_on columns narrow p fit-p s slice (e.place + length (head_of c.header.version p)) at found);
        }

    serves : (answer : Option BlockAt) → IsBlockFor s (block_entries (e.place + length (head_of c.header.version p)) None (blocks p)) answer
        → Serves columns (table_bytes c f) (index_place c) p s answer
    serves None first = nothing_meets columns narrow p fit-p s slice (e.place + length (head_of c.header.version p)) first
    serves (Some at) first =
        let some : stands_before s.lo s.hi ≡ true = (and_parts (is_lt (cut_cmp s.lo s.hi)) _ first.0.1).0 in
        found_serves at (find (clustering_order columns) s slice some (blocks p) (e.place + length (head_of c.header.version p)) None at.number at refl
        (there columns narrow p fit-p) (rows columns narrow p fit-p) (up columns narrow p fit-p) first.0 first.1).0 some

-- what serves a slice is what is read of it
is_slice : (columns : List Column) (file : List ℕ) (end : ℕ) (p : Partition) (s : Slice) (answer : Option BlockAt) → Serves columns file end p s answer
    → slice_of (clustering_order columns) columns (Some file) end (statics_in p.stream.fragments) s answer ≡ Some (cut_to s p.stream.fragments)
is_slice columns file end p s None serves = ap (λ (fs : List Fragment). Some fs) (sym serves)
is_slice columns file end p s (Some at) serves =
    ap (option_map (λ fs. static_of (statics_in p.stream.fragments) ++ cut_from (clustering_order columns) s at.in_force fs)) serves.read
    ∙ ap (λ (fs : List Fragment). Some fs) (sym serves.same)

pub tables_are_read : TablesAreRead
tables_are_read = record {
  head = head_stands;
  slice = λ columns narrow c f fits i p e is s slice answer first.
      is_slice columns (table_bytes c f) (index_place c) p s answer (serves columns narrow c f fits i p e is s slice answer
      (subst (λ (bs : List BlockEntry). IsBlockFor s bs answer) (stands columns narrow c f fits i p e is).blocks_are first));
}
