-- The file of contents that a table may have is loaded, with its own index and filter.
use Rattle.std.proofs.Common.{◌≡◌, ℕ, ◌+◌, ◌*◌, ◌≤◌, List, [], ◌∷◌, ◌++◌, map, length, Option, None, Some, refl, sym, ap, ◌∙◌, append_assoc, arith, length-append}
use Rattle.std.specs.Prelude.{slice_get}
use Rattle.std.specs.List.{last_or, flat_map}
use Rattle.cas_types.specs.declared.schema.Column.{Column}
use Rattle.cas_bounds.specs.ClusteringOrder.{clustering_order}
use Rattle.cas_info.specs.Spelling.{info_bytes}
use Rattle.cas_facts.specs.declared.facts.Facts.{Facts}
use Rattle.cas_facts.specs.Facts.{AreFacts}
use Rattle.cas_filter.specs.Filters.{bits_for, filter_of}
use Rattle.cas_filter.specs.Spelling.{filter_bytes}
use Rattle.cas_filter.proofs.FilterLaws.{length_of}
use Rattle.cas_index.specs.Spelling.{index_bytes, footer_bytes}
use Rattle.cas_index.specs.declared.entries.PartitionEntry.{PartitionEntry}
use Rattle.cas_fragments.specs.declared.heads.Version.TheVariants.{Second}
use Rattle.cas_fragments.specs.declared.heads.Version.{Version}
use Rattle.cas_tables.specs.Allowed.{FitsHeader}
use Rattle.cas_tables.specs.Spelling.{header_bytes}
use Rattle.cas_tables.specs.Contents.{Partition, Contents, keys, atoms_of}
use Rattle.cas_tables.specs.Places.{head_of, blocks, text_of, block_entries, entries}
use Rattle.cas_tables.specs.Files.{index_of, key_filter, footer_of, first_key, last_key, info_of, table_bytes}
use Rattle.cas_tables.specs.Fitting.{FitsContents}
use Rattle.cas_tables.proofs.Lengths.{header_long, length_is_told}
use Rattle.cas_tables.proofs.IndexFits.{index_fits, last_within, entries_long}
use Rattle.cas_tables.proofs.InfoFits.{filter_fits, info_fits}
use Rattle.cas_sstread.specs.Reading.{own_place, loaded_at}
use Rattle.cas_sstread.specs.Searches.{HasOwnFilter}
use Rattle.cas_sstread.specs.Laws.{head_for, kept_for, LoadsAs, TablesLoad}
use Rattle.cas_sstread.proofs.LoadLaws.{loads_again}

-- ---- the keys of the index

entries_keys : (version : Version) (place : ℕ) (ps : List Partition) → map (λ p. p.key) (entries version place ps) ≡ map (λ p. p.key) ps
entries_keys version place [] = refl
entries_keys version place (p ∷ ps) = ap (λ (ks : List (List ℕ)). p.key ∷ ks) (entries_keys version (place + length (text_of version p)) ps)

first_of : (version : Version) (place : ℕ) (ps : List Partition) → 1 ≤ length ps
    → (e : PartitionEntry) × (slice_get (entries version place ps) 0 ≡ Some e) × (e.key ≡ first_key (map (λ p. p.key) ps))
first_of version place [] some = absurd (omega arith)
first_of version place (p ∷ ps) some = (_, refl, refl)

last_of : (version : Version) (place : ℕ) (last : Option PartitionEntry) (ps : List Partition) → 1 ≤ length ps
    → (e : PartitionEntry) × (last_or last (entries version place ps) ≡ Some e) × (e.key ≡ last_key (map (λ p. p.key) ps))
last_of version place last [] some = absurd (omega arith)
last_of version place last (p ∷ []) some = (_, refl, refl)
last_of version place last (p ∷ q ∷ ps) some = last_of version (place + length (text_of version p)) (Some (record { key = p.key; place = place; blocks = block_entries (place + length (head_of version p)) None (blocks p) })) (q ∷ ps) (omega arith)

first_at : (version : Version) (place : ℕ) (ps : List Partition) → 1 ≤ length ps → own_place (slice_get (entries version place ps) 0) ≡ place
first_at version place [] some = absurd (omega arith)
first_at version place (p ∷ ps) some = refl

-- ---- the file

contents_load : (columns : List Column) (c : Contents) (f : Facts) → FitsContents columns c → AreFacts (atoms_of c) f
    → LoadsAs (clustering_order columns) c.header.table c.header.shard (info_of c f) (table_bytes c f) (kept_for c)
contents_load columns c f fit are =
    let head : List ℕ = header_bytes c.header in
    let body : List ℕ = flat_map (text_of c.header.version) c.partitions in
    let rest : List ℕ = index_bytes (index_of c) ++ (filter_bytes (key_filter c) ++ (info_bytes (info_of c f) ++ footer_bytes (footer_of c))) in
    let long : length (index_of c) ≡ length c.partitions = entries_long c.header.version (length head) c.partitions in
    record {
      body = body;
      spelled = append_assoc head body rest;
      end = omega (arith, length-append head body, header_long c.header);
      long = length_is_told c f;
      index = index_fits columns c fit;
      start = first_at c.header.version (length head) c.partitions fit.few.0 ∙ header_long c.header;
      within = last_within c;
      keys = record {
        count = long;
        first = first_of c.header.version (length head) c.partitions fit.few.0;
        last = last_of c.header.version (length head) None c.partitions fit.few.0;
      };
      filter = filter_fits columns c fit;
      bits = bits_are columns c fit;
    }
  where
    bits_are : (columns : List Column) (c : Contents) → FitsContents columns c → 8 * length (key_filter c) ≡ bits_for (length (index_of c))
    bits_are columns c fit =
        let own : 8 * length (key_filter c) ≡ bits_for (length c.partitions) = omega (arith, length_of (bits_for (length c.partitions)) (keys c)) in
        own ∙ ap bits_for (sym (entries_long c.header.version (length (header_bytes c.header)) c.partitions))

head_fits : (columns : List Column) (c : Contents) → FitsContents columns c → FitsHeader (head_for c.header.table c.header.shard c.header.number Second)
head_fits columns c fit = record { table = fit.header.table; shard = fit.header.shard; number = fit.header.number }

own_filter : (c : Contents) → HasOwnFilter (kept_for c)
own_filter c =
    λ i. filter_of (bits_for (sym (entries_long c.header.version (length (header_bytes c.header)) c.partitions) i)) (sym (entries_keys c.header.version (length (header_bytes c.header)) c.partitions) i)

pub tables_load : TablesLoad
tables_load = record {
  loads = λ columns c bytes fit t.
      ap (λ (b : List ℕ). loaded_at (clustering_order columns) c.header.table c.header.shard (info_of c t.facts) b) t.spelled
      ∙ loads_again (clustering_order columns) c.header.table c.header.shard (info_of c t.facts) (table_bytes c t.facts) (kept_for c) (head_fits columns c fit)
      (info_fits columns c t.facts fit t.of_atoms) (contents_load columns c t.facts fit t.of_atoms);
  filter = own_filter;
  keys = λ c. entries_keys c.header.version (length (header_bytes c.header)) c.partitions;
}
