-- The parts of a table file stand where its index and its footer tell.
use Rattle.std.proofs.Common.{◌≡◌, ℕ, ◌+◌, Bool, true, false, cond, List, [], ◌∷◌, ◌++◌, length, Option, None, refl, sym, ap, ◌∙◌, append_assoc}
use Rattle.std.specs.List.{AllByRecursion, flat_map}
use Rattle.std.proofs.lemmas.List.{length-append}
use Rattle.cas_cell.specs.declared.deletion.Deletion.{Deletion}
use Rattle.cas_codec.specs.Fields.{u32}
use Rattle.cas_streams.specs.Flat.{changes, at_end}
use Rattle.cas_streams.specs.Streams.{IsThere}
use Rattle.cas_streams.specs.declared.fragment.Fragment.{Fragment}
use Rattle.cas_info.specs.Spelling.{info_bytes}
use Rattle.cas_filter.specs.Spelling.{filter_bytes}
use Rattle.cas_fragments.specs.Spelling.{block_bytes}
use Rattle.cas_fragments.specs.declared.heads.Version.{Version}
use Rattle.cas_fragments.specs.Blocks.{is_full, last_block, blocks_from, behind_statics}
use Rattle.cas_index.specs.Spelling.{index_bytes, footer_bytes}
use Rattle.cas_tables.specs.Spelling.{header_bytes}
use Rattle.cas_tables.specs.Contents.{Partition}
use Rattle.cas_tables.specs.Places.{head_of, blocks, text_of, block_entries, entries}
use Rattle.cas_tables.specs.Files.{front_bytes, index_of, key_filter, footer_of, info_of, table_bytes}
use Rattle.cas_tables.specs.Laws.{BlocksStand, PartitionsStand, PlacesAreRight}

-- ---- no block is empty

some_there : (fs : List Fragment) (f : Fragment) → IsThere (fs ++ f ∷ [])
some_there [] f = tt
some_there (g ∷ fs) f = tt

last_there : (begun : List Fragment) → AllByRecursion IsThere (last_block begun)
last_there [] = tt
last_there (f ∷ fs) = (tt, tt)

ended_or_not : (b : Bool) (block : List Fragment) (others more : List (List Fragment)) → IsThere block → AllByRecursion IsThere others → AllByRecursion IsThere more
    → AllByRecursion IsThere (cond b (block ∷ others) more)
ended_or_not true block others more there all rest = (there, all)
ended_or_not false block others more there all rest = rest

pub blocks_there : (begun fs : List Fragment) → AllByRecursion IsThere (blocks_from begun fs)
blocks_there begun [] = last_there begun
blocks_there begun (f ∷ fs) =
    ended_or_not (is_full (begun ++ f ∷ [])) (begun ++ f ∷ []) (blocks_from [] fs) (blocks_from (begun ++ f ∷ []) fs)
    (some_there begun f) (blocks_there [] fs) (blocks_there (begun ++ f ∷ []) fs)

-- ---- what stands behind what

later : (file a x r : List ℕ) → file ≡ a ++ (x ++ r) → file ≡ (a ++ x) ++ r
later file a x r e = e ∙ sym (append_assoc a x r)

further : (a x : List ℕ) (place : ℕ) → length a ≡ place → length (a ++ x) ≡ place + length x
further a x place e = length-append a x ∙ ap (λ n. n + length x) e

blocks_stand : (file before rest : List ℕ) (place : ℕ) (now : Option Deletion) (bs : List (List Fragment)) → AllByRecursion IsThere bs
    → file ≡ before ++ (flat_map block_bytes bs ++ rest) → length before ≡ place → BlocksStand file bs (block_entries place now bs)
blocks_stand file before rest place now [] there e long = tt
blocks_stand file before rest place now ([] ∷ bs) there e long = absurd there.0
blocks_stand file before rest place now ((f ∷ fs) ∷ bs) there e long =
    let block : List ℕ = block_bytes (f ∷ fs) in
    let others : List ℕ = flat_map block_bytes bs in
    let here : file ≡ before ++ (block ++ (others ++ rest)) = e ∙ ap (λ t. before ++ t) (append_assoc block others rest) in (
      record { before = before; after = others ++ rest; there = here; behind = long },
      blocks_stand file (before ++ block) rest (place + length block) (at_end now (changes (f ∷ fs))) bs there.1
          (later file before block (others ++ rest) here) (further before block place long),
    )

partitions_stand : (version : Version) (file before rest : List ℕ) (place : ℕ) (ps : List Partition)
    → file ≡ before ++ (flat_map (text_of version) ps ++ rest) → length before ≡ place → PartitionsStand version file ps (entries version place ps)
partitions_stand version file before rest place [] e long = tt
partitions_stand version file before rest place (p ∷ ps) e long =
    let whole : List ℕ = text_of version p in
    let body : List ℕ = flat_map block_bytes (blocks p) in
    let others : List ℕ = flat_map (text_of version) ps in
    let here : file ≡ before ++ (whole ++ (others ++ rest)) = e ∙ ap (λ t. before ++ t) (append_assoc whole others rest) in
    let headed : file ≡ before ++ (head_of version p ++ ((body ++ u32 0) ++ (others ++ rest))) =
    here ∙ ap (λ t. before ++ t) (append_assoc (head_of version p) (body ++ u32 0) (others ++ rest)) in
    let in_body : file ≡ (before ++ head_of version p) ++ (body ++ (u32 0 ++ (others ++ rest))) =
    later file before (head_of version p) ((body ++ u32 0) ++ (others ++ rest)) headed
    ∙ ap (λ t. (before ++ head_of version p) ++ t) (append_assoc body (u32 0) (others ++ rest)) in (
      refl,
      record { before = before; after = others ++ rest; there = here; behind = long },
      blocks_stand file (before ++ head_of version p) (u32 0 ++ (others ++ rest)) (place + length (head_of version p)) None (blocks p)
          (blocks_there [] (behind_statics p.stream.fragments)) in_body (further before (head_of version p) place long),
      partitions_stand version file (before ++ whole) rest (place + length whole) ps (later file before whole (others ++ rest) here) (further before whole place long),
    )

pub places_are_right : PlacesAreRight
places_are_right c f =
    let file : List ℕ = table_bytes c f in
    let front : List ℕ = front_bytes c in
    let index : List ℕ = index_bytes (index_of c) in
    let filter : List ℕ = filter_bytes (key_filter c) in
    let info : List ℕ = info_bytes (info_of c f) in
    let footer : List ℕ = footer_bytes (footer_of c) in
    let body : List ℕ = flat_map (text_of c.header.version) c.partitions in
    let at_index : file ≡ front ++ (index ++ (filter ++ (info ++ footer))) = refl in
    let at_filter : file ≡ (front ++ index) ++ (filter ++ (info ++ footer)) = later file front index (filter ++ (info ++ footer)) at_index in
    let at_info : file ≡ ((front ++ index) ++ filter) ++ (info ++ footer) = later file (front ++ index) filter (info ++ footer) at_filter in
    let at_footer : file ≡ (((front ++ index) ++ filter) ++ info) ++ footer = later file ((front ++ index) ++ filter) info footer at_info in
    let filter_long : length (front ++ index) ≡ (footer_of c).filter = length-append front index in
    record {
      partitions = partitions_stand c.header.version file (header_bytes c.header) (index ++ (filter ++ (info ++ footer))) (length (header_bytes c.header)) c.partitions
          (append_assoc (header_bytes c.header) body (index ++ (filter ++ (info ++ footer)))) refl;
      index = record { before = front; after = filter ++ (info ++ footer); there = at_index; behind = refl };
      filter = record { before = front ++ index; after = info ++ footer; there = at_filter; behind = filter_long };
      info = record { before = (front ++ index) ++ filter; after = footer; there = at_info; behind = further (front ++ index) filter (footer_of c).filter filter_long };
      footer = (((front ++ index) ++ filter) ++ info, at_footer);
    }
