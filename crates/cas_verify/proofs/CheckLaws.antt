-- A file in which nothing is found is that of contents that the table may have; and in such a file nothing is found.
use Rattle.std.proofs.Common.{◌≡◌, ℕ, suc, ◌+◌, ◌-◌, ◌<◌, ◌≤◌, List, [], ◌∷◌, ◌++◌, length, map, take, drop, Option, None, Some, Result, Ok, Err, refl, sym, ap, subst, ◌∙◌, append_assoc, arith, length-append}
use Rattle.std.specs.Prelude.{pos}
use Rattle.std.proofs.lemmas.Cmp.{nat_list_cmp_total}
use Rattle.std.specs.List.{AllByRecursion, flat_map}
use Rattle.std.specs.List.Sorted.{IsStrictlySortedBy}
use Rattle.std.proofs.lemmas.List.{take_at, drop_at}
use Rattle.std.proofs.lemmas.List.Elements.{All-drop, All-take}
use Rattle.cas_types.specs.Limits.{IsNarrow}
use Rattle.cas_types.specs.Values.{bytes_cmp}
use Rattle.cas_types.specs.declared.schema.Column.{Column}
use Rattle.cas_bounds.specs.ClusteringOrder.{clustering_order}
use Rattle.cas_atoms.specs.declared.atom.Atom.{Atom}
use Rattle.cas_codec.specs.Exact.{AreBytes}
use Rattle.cas_codec.specs.Reading.{◌>>=◌}
use Rattle.cas_codec.specs.declared.fault.ReadFault.{ReadFault}
use Rattle.cas_codec.proofs.Exactness.{bind_ok, ok_is, exact_alone, read_left}
use Rattle.cas_codec.specs.Fields.{u64}
use Rattle.cas_codec.proofs.FieldLengths.{u64_long}
use Rattle.cas_info.specs.Allowed.{FitsInfo}
use Rattle.cas_info.specs.Spelling.{info_bytes}
use Rattle.cas_info.specs.declared.info.TableInfo.{TableInfo}
use Rattle.cas_info.specs.declared.info.TheConstants.{PARTITION_LIMIT}
use Rattle.cas_info.specs.Reading.{info_at}
use Rattle.cas_info.proofs.InfoLaws.{info_exact}
use Rattle.cas_streams.specs.Merged.{flat_of, flats}
use Rattle.cas_streams.specs.Streams.{IsThere}
use Rattle.cas_facts.specs.Facts.{AreFacts, AreFactsSoFar}
use Rattle.cas_facts.specs.declared.facts.Facts.{Facts}
use Rattle.cas_facts.proofs.Joining.{facts_are_one}
use Rattle.cas_filter.specs.Allowed.{FitsFilter}
use Rattle.cas_filter.specs.Reading.{filter_at}
use Rattle.cas_filter.specs.Spelling.{filter_bytes}
use Rattle.cas_filter.proofs.Exact.{filter_exact}
use Rattle.cas_fragments.specs.Blocks.{statics_in, behind_statics}
use Rattle.cas_fragments.specs.Laws.{static_of, joined, IsPartition, part_bytes}
use Rattle.cas_fragments.proofs.CutLaws.{blocks_are_partitions}
use Rattle.cas_fragments.proofs.ChainLaws.{AreChained, chain_sorted, sorted_chain}
use Rattle.cas_fragments.proofs.FragmentLaws.{there_before}
use Rattle.cas_index.specs.Allowed.{FitsIndex}
use Rattle.cas_index.specs.Reading.{index_at}
use Rattle.cas_index.specs.Spelling.{index_bytes, footer_bytes}
use Rattle.cas_index.specs.declared.entries.PartitionEntry.{PartitionEntry}
use Rattle.cas_index.specs.declared.footer.TheConstants.{FOOTER_LENGTH}
use Rattle.cas_index.proofs.IndexLaws.{index_exact}
use Rattle.cas_tables.specs.declared.header.TheConstants.{HEADER_LENGTH}
use Rattle.cas_fragments.specs.declared.heads.Version.{Version}
use Rattle.cas_fragments.specs.declared.heads.Version.TheVariants.{First, Second}
use Rattle.cas_tables.specs.Allowed.{FitsHeader}
use Rattle.cas_tables.specs.Contents.{Partition, Contents, keys, atoms_of}
use Rattle.cas_tables.specs.Files.{index_of, key_filter, index_place, footer_of, with_info, told_of, info_of, table_bytes, IsTable, first_key, last_key}
use Rattle.cas_tables.specs.Fitting.{FitsPartition, FitsContents}
use Rattle.cas_tables.specs.Places.{blocks, text_of, entries}
use Rattle.cas_tables.specs.Spelling.{header_bytes}
use Rattle.cas_tables.proofs.IndexFits.{index_fits, entries_long}
use Rattle.cas_tables.proofs.InfoFits.{info_fits, filter_fits}
use Rattle.cas_tables.proofs.Lengths.{header_long, footer_long, length_is_told, parts_long}
use Rattle.cas_blocks.specs.Reading.{left_at}
use Rattle.cas_blocks.proofs.Parts.{parts_joined, is_partition}
use Rattle.cas_sstread.specs.Laws.{head_for, footer_for, kept_for, LoadsAs}
use Rattle.cas_sstread.specs.Reading.{part, Loaded, loaded_at}
use Rattle.cas_sstread.proofs.LoadLaws.{loads_found}
use Rattle.cas_sstread.proofs.ContentsLoad.{tables_load}
use Rattle.cas_verify.specs.Partitions.{Part, partitions_at, stream_of, as_partition, atoms_in, entries_for}
use Rattle.cas_verify.specs.Checking.{own_partitions_at, own_rest_at, filter_for, info_for, fields_for, whole_at, AreFactsOf}
use Rattle.cas_verify.specs.Laws.{IsFileOf, CheckingIsExact, ThereAreFacts}
use Rattle.cas_verify.proofs.FieldsLaws.{filled_found, filled_again, spelled}
use Rattle.cas_verify.proofs.Parts.{Ascend, AreParts, part_fits, all_fit, none_static, entries_are, texts_are, parts_found, parts_again}

-- ---- lists of partitions

abbrev key_in : Part → List ℕ
key_in p = p.0.0

chain_of : (version : Version) (columns : List Column) (before : Option (List ℕ)) (ps : List Part) → AllByRecursion (IsPartition version columns) ps → Ascend before ps
    → AreChained key_in bytes_cmp (IsPartition version columns) before ps
chain_of version columns before [] fit up = tt
chain_of version columns before (p ∷ ps) fit up = ((fit.0, up.0), chain_of version columns (Some p.0.0) ps fit.1 up.1)

ascend_of : (version : Version) (columns : List Column) (before : Option (List ℕ)) (ps : List Part) → AreChained key_in bytes_cmp (IsPartition version columns) before ps → Ascend before ps
ascend_of version columns before [] chain = tt
ascend_of version columns before (p ∷ ps) chain = (chain.0.1, ascend_of version columns (Some p.0.0) ps chain.1)

keys_are : (ps : List Part) → map (λ (p : Partition). p.key) (map as_partition ps) ≡ map key_in ps
keys_are [] = refl
keys_are (p ∷ ps) = ap (λ (ks : List (List ℕ)). p.0.0 ∷ ks) (keys_are ps)

atoms_are : (ps : List Part) → flats (map (λ (p : Partition). p.stream) (map as_partition ps)) ≡ atoms_in ps
atoms_are [] = refl
atoms_are (p ∷ ps) = ap (λ (xs : List Atom). flat_of (stream_of p) ++ xs) (atoms_are ps)

parts_count : (ps : List Part) → length (map as_partition ps) ≡ length ps
parts_count [] = refl
parts_count (p ∷ ps) = ap (λ n. suc n) (parts_count ps)

there_long : {X : Type 0} (xs : List X) → IsThere xs → 1 ≤ length xs
there_long [] there = absurd there
there_long (x ∷ xs) there = omega arith

info_long : (c : Contents) (f : Facts) (m n : ℕ) → length (info_bytes (told_of c f m)) ≡ length (info_bytes (told_of c f n))
info_long c f m n = go (u64 c.header.number) _
  where
    go : (number rest : List ℕ) → length ((number ++ u64 m) ++ rest) ≡ length ((number ++ u64 n) ++ rest)
    go number rest =
        omega (arith, length-append (number ++ u64 m) rest, length-append (number ++ u64 n) rest, length-append number (u64 m), length-append number (u64 n), u64_long m, u64_long n)

are_piece : (at count : ℕ) (file : List ℕ) → AreBytes file → AreBytes (take count (drop at file))
are_piece at count file are = record { each = All-take (λ b. b < 256) count (drop at file) (All-drop (λ b. b < 256) at file are.each) }

piece : (before x after file : List ℕ) (at count : ℕ) → file ≡ before ++ (x ++ after) → length before ≡ at → length x ≡ count → take count (drop at file) ≡ x
piece before x after file at count is long own =
    ap (λ (l : List ℕ). take count (drop at l)) is ∙ ap (take count) (drop_at before (x ++ after) at long) ∙ take_at x after count own

told_is : (ps : List PartitionEntry) (c : Contents) (info : TableInfo) (f : Facts) → ps ≡ index_of c → c.header.number ≡ info.number → c.level ≡ info.level
    → info_for ps info f ≡ told_of c f info.bytes
told_is ps c info f is number level =
    let ks : map (λ (p : PartitionEntry). p.key) ps ≡ keys c = ap (map (λ (p : PartitionEntry). p.key)) is ∙ tables_load.keys c in
    let long : length ps ≡ length c.partitions = ap length is ∙ entries_long c.header.version (length (header_bytes c.header)) c.partitions in
    λ i. record {
      number = sym number i;
      bytes = info.bytes;
      first = first_key (ks i);
      last = last_key (ks i);
      least = f.least;
      greatest = f.greatest;
      dead = f.dead;
      level = sym level i;
      keys = long i;
    }

filter_is : (ps : List PartitionEntry) (c : Contents) → ps ≡ index_of c → filter_for ps ≡ key_filter c
filter_is ps c is = ap filter_for is ∙ sym (tables_load.filter c)

-- what stands between partitions and footer
tail_is : (index filter info footer : List ℕ) → index ++ (filter ++ (info ++ footer)) ≡ (index ++ (filter ++ info)) ++ footer
tail_is index filter info footer = sym (append_assoc index (filter ++ info) footer ∙ ap (λ t. index ++ t) (append_assoc filter info footer))

-- ---- nothing is found

module _ (columns : List Column) (narrow : IsNarrow columns) (table shard : ℕ) (info : TableInfo) (file : List ℕ) (k : Loaded)
    (head : FitsHeader (head_for table shard info.number Second)) (fit : FitsInfo info) (are : AreBytes file)
    (l : LoadsAs (clustering_order columns) table shard info file k) where
  abbrev header_text : List ℕ
  header_text = header_bytes (head_for table shard info.number k.version)

  abbrev tail : List ℕ
  tail = index_bytes k.partitions ++ (filter_bytes k.filter ++ info_bytes info)

  in_two : file ≡ (header_text ++ l.body) ++ (tail ++ footer_bytes (footer_for k))
  in_two =
      l.spelled ∙ sym (append_assoc header_text l.body _)
      ∙ ap (λ t. (header_text ++ l.body) ++ t) (tail_is (index_bytes k.partitions) (filter_bytes k.filter) (info_bytes info) (footer_bytes (footer_for k)))

  front_long : length (header_text ++ l.body) ≡ k.end
  front_long = omega (arith, length-append header_text l.body, header_long (head_for table shard info.number k.version), l.end)

  whole_long : info.bytes ≡ k.end + length tail + FOOTER_LENGTH
  whole_long =
      omega (
        arith,
        l.long,
        ap length in_two,
        front_long,
        length-append (header_text ++ l.body) (tail ++ footer_bytes (footer_for k)),
        length-append tail (footer_bytes (footer_for k)),
        footer_long (footer_for k),
      )

  body_is : take (k.end - HEADER_LENGTH) (drop HEADER_LENGTH file) ≡ l.body
  body_is =
      piece header_text l.body _ file HEADER_LENGTH (k.end - HEADER_LENGTH) l.spelled (header_long (head_for table shard info.number k.version)) (omega (arith, l.end))

  rest_is : take (info.bytes - FOOTER_LENGTH - k.end) (drop k.end file) ≡ tail
  rest_is = piece (header_text ++ l.body) tail (footer_bytes (footer_for k)) file k.end (info.bytes - FOOTER_LENGTH - k.end) in_two front_long (omega (arith, whole_long))

  parts_are : (ps : List Part) → own_partitions_at columns k file ≡ Ok ps → AreParts k.version columns PARTITION_LIMIT None l.body ps
  parts_are ps e =
      subst (λ (t : List ℕ). AreParts k.version columns PARTITION_LIMIT None t ps) body_is
      (parts_found k.version columns narrow k.end PARTITION_LIMIT None (left_at file k.end HEADER_LENGTH) ps (are_piece HEADER_LENGTH (k.end - HEADER_LENGTH) file are)
      (omega (arith, ap length body_is, l.end)) e)

  facts_there : (r : Result (List Part) ReadFault) → own_partitions_at columns k file ≡ r → (f : Facts) × AreFactsOf columns k file f
  facts_there (Err e) is = (record { least = pos 0; greatest = pos 0; dead = None }, λ ps there. absurd (let no = sym is ∙ there in cc))
  facts_there (Ok ps) is = of_facts (facts_are_one.some (atoms_in ps)).0 (facts_are_one.some (atoms_in ps)).1
    where
      some_atoms : (qs : List Part) → IsThere qs → AllByRecursion (IsPartition k.version columns) qs → IsThere (atoms_in qs)
      some_atoms [] there fits = absurd there
      some_atoms (q ∷ qs) there fits = there_before (flat_of (stream_of q)) (atoms_in qs) (part_fits k.version columns q fits.0).said

      ok_same : (xs ys : List Part) → (let r : Result (List Part) ReadFault = Ok xs in r) ≡ Ok ys → xs ≡ ys
      ok_same xs ys e = ok_is xs ys e

      of_facts : (o : Option Facts) → AreFactsSoFar (atoms_in ps) o → (f : Facts) × AreFactsOf columns k file f
      of_facts None e = absurd (subst IsThere e (some_atoms ps (parts_are ps is).some (parts_are ps is).fit))
      of_facts (Some f) h = (f, λ qs there. subst (λ (xs : List Part). AreFacts (atoms_in xs) f) (ok_same ps qs (sym is ∙ there)) h)

  module _ (f : Facts) (ps : List Part) (found : own_partitions_at columns k file ≡ Ok ps) (facts : AreFacts (atoms_in ps) f)
      (rest : own_rest_at (entries_for k.version HEADER_LENGTH ps) info f k.end file ≡ Ok tt) where
    abbrev contents : Contents
    contents = record { header = head_for table shard info.number k.version; level = info.level; partitions = map as_partition ps }

    abbrev own : List PartitionEntry
    own = entries_for k.version HEADER_LENGTH ps

    abbrev told : TableInfo
    told = info_for own info f

    are_parts : AreParts k.version columns PARTITION_LIMIT None l.body ps
    are_parts = parts_are ps found

    own_is : own ≡ index_of contents
    own_is =
        entries_are k.version columns HEADER_LENGTH ps are_parts.fit
        ∙ ap (λ n. entries k.version n (map as_partition ps)) (sym (header_long (head_for table shard info.number k.version)))

    text : flat_map (text_of k.version) contents.partitions ≡ l.body
    text = texts_are k.version columns ps are_parts.fit ∙ sym are_parts.spelled

    told_as : told ≡ told_of contents f info.bytes
    told_as = told_is own contents info f own_is refl refl

    tails : tail ≡ index_bytes own ++ (filter_bytes (filter_for own) ++ info_bytes told)
    tails =
        sym rest_is
        ∙ filled_found (fields_for own told) (part file k.end (info.bytes - FOOTER_LENGTH - k.end)) (are_piece k.end (info.bytes - FOOTER_LENGTH - k.end) file are) rest
        ∙ spelled own told

    of_atoms : AreFacts (atoms_of contents) f
    of_atoms = subst (λ (xs : List Atom). AreFacts xs f) (sym (atoms_are ps)) facts

    place : index_place contents ≡ k.end
    place =
        omega (
          arith,
          length-append (header_bytes contents.header) (flat_map (text_of k.version) contents.partitions),
          header_long contents.header,
          ap length text,
          l.end,
        )

    table_long : length (table_bytes contents f) ≡ info.bytes
    table_long =
        omega (
          arith,
          parts_long contents f,
          place,
          whole_long,
          ap length tails,
          length-append (index_bytes own) (filter_bytes (filter_for own) ++ info_bytes told),
          length-append (filter_bytes (filter_for own)) (info_bytes told),
          ap (λ es. length (index_bytes es)) own_is,
          ap (λ t. length (filter_bytes t)) (filter_is own contents own_is),
          ap (λ i. length (info_bytes i)) told_as,
          info_long contents f info.bytes (length (with_info contents (told_of contents f 0))),
        )

    fits : FitsContents columns contents
    fits = record {
      header = record { table = head.table; shard = head.shard; number = head.number };
      level = fit.level;
      few = (omega (arith, parts_count ps, there_long ps are_parts.some), omega (arith, parts_count ps, are_parts.few));
      ascend = subst (IsStrictlySortedBy bytes_cmp) (sym (keys_are ps))
          (chain_sorted key_in bytes_cmp (IsPartition k.version columns) nat_list_cmp_total None ps (chain_of k.version columns None ps are_parts.fit are_parts.ascend));
      each = all_fit k.version columns ps are_parts.fit;
      statics = none_static k.version columns ps are_parts.fit;
      short = λ g of. let same : f ≡ g = one_fact f g of_atoms of in omega (arith, ap (λ h. length (table_bytes contents h)) same, table_long, fit.bytes);
    }
      where
        some_same : (a g : Facts) → Some a ≡ Some g → a ≡ g
        some_same a g e = cc

        one_fact : (a g : Facts) → AreFacts (atoms_of contents) a → AreFacts (atoms_of contents) g → a ≡ g
        one_fact a g of-a of-g = some_same a g (facts_are_one.one (atoms_of contents) (Some a) (Some g) of-a of-g)

    info_as : info_of contents f ≡ told
    info_as = ap (told_of contents f) (sym (length_is_told contents f) ∙ table_long) ∙ sym told_as

    index_same : (k.partitions ≡ index_of contents) × (filter_bytes k.filter ++ info_bytes info ≡ filter_bytes (key_filter contents) ++ info_bytes told)
    index_same =
        exact_alone (FitsIndex (clustering_order columns)) index_bytes (index_at (clustering_order columns)) (index_exact (clustering_order columns))
        k.partitions (index_of contents) (filter_bytes k.filter ++ info_bytes info) (filter_bytes (key_filter contents) ++ info_bytes told) l.index (index_fits columns contents fits)
        (tails ∙ λ i. index_bytes (own_is i) ++ (filter_bytes (filter_is own contents own_is i) ++ info_bytes told))

    filter_same : (k.filter ≡ key_filter contents) × (info_bytes info ≡ info_bytes told)
    filter_same =
        exact_alone FitsFilter filter_bytes filter_at filter_exact k.filter (key_filter contents) (info_bytes info) (info_bytes told) l.filter (filter_fits columns contents fits) index_same.1

    info_same : info ≡ info_of contents f
    info_same =
        (exact_alone FitsInfo info_bytes info_at info_exact info (info_of contents f) [] [] fit (info_fits columns contents f fits of_atoms)
        (ap (λ t. t ++ []) (filter_same.1 ∙ ap info_bytes (sym info_as)))).0

    footer_same : footer_for k ≡ footer_of contents
    footer_same = λ i. record {
      index = sym place i;
      filter = sym place i + length (index_bytes (index_same.0 i));
      info = sym place i + length (index_bytes (index_same.0 i)) + length (filter_bytes (filter_same.0 i));
    }

    is_table : file ≡ table_bytes contents f
    is_table =
        l.spelled ∙ sym (append_assoc header_text l.body _)
        ∙ λ i. (header_text ++ sym text i)
        ++ (index_bytes (index_same.0 i) ++ (filter_bytes (filter_same.0 i) ++ (info_bytes (info_same i) ++ footer_bytes (footer_same i))))

    nothing_found : (c : Contents) × IsFileOf columns table shard k.version info file c
    nothing_found = (
      contents,
      record {
        fits = fits;
        header = refl;
        is = record { facts = f; of_atoms = of_atoms; spelled = is_table };
        told = sym info_same;
      },
    )

check_found : (columns : List Column) → IsNarrow columns → (table shard : ℕ) (info : TableInfo) (file : List ℕ) (k : Loaded) (f : Facts)
    → FitsHeader (head_for table shard info.number Second) → FitsInfo info → AreBytes file
    → loaded_at (clustering_order columns) table shard info file ≡ Ok k → AreFactsOf columns k file f → whole_at columns info k f file ≡ Ok tt
    → (c : Contents) × IsFileOf columns table shard k.version info file c
unfolding whole_at
check_found columns narrow table shard info file k f head fit are loaded facts e =
    let l = loads_found (clustering_order columns) table shard info file k head fit are loaded in
    let two = bind_ok (own_partitions_at columns k file) (λ ps. own_rest_at (entries_for k.version HEADER_LENGTH ps) info f k.end file) tt e in
    nothing_found columns narrow table shard info file k head fit are l f two.0 two.1 (facts two.0 two.1) two.2

-- ---- contents

abbrev part_of : Partition → Part
part_of p = ((p.key, p.stream.top, statics_in p.stream.fragments), blocks p)

back : (columns : List Column) (p : Partition) → FitsPartition columns p → as_partition (part_of p) ≡ p
back columns p fit =
    let fs : static_of (statics_in p.stream.fragments) ++ joined (blocks p) ≡ p.stream.fragments =
    ap (λ xs. static_of (statics_in p.stream.fragments) ++ xs) (blocks_are_partitions.whole (behind_statics p.stream.fragments))
    ∙ parts_joined columns p.stream.fragments fit.well_formed in
    λ i. record { key = p.key; stream = record { top = p.stream.top; fragments = fs i } }

all_back : (columns : List Column) (ps : List Partition) → AllByRecursion (FitsPartition columns) ps → map as_partition (map part_of ps) ≡ ps
all_back columns [] fit = refl
all_back columns (p ∷ ps) fit = λ i. back columns p fit.0 i ∷ all_back columns ps fit.1 i

all_are : (version : Version) (columns : List Column) (ps : List Partition) → AllByRecursion (FitsPartition columns) ps
    → (version ≡ First → AllByRecursion (λ p. statics_in p.stream.fragments ≡ []) ps) → AllByRecursion (IsPartition version columns) (map part_of ps)
all_are version columns [] fit none = tt
all_are version columns (p ∷ ps) fit none =
    (is_partition version columns p fit.0 (λ first. (none first).0), all_are version columns ps fit.1 (λ first. (none first).1))

texts_back : (version : Version) (ps : List Partition) → flat_map (part_bytes version) (map part_of ps) ≡ flat_map (text_of version) ps
texts_back version [] = refl
texts_back version (p ∷ ps) = ap (λ t. text_of version p ++ t) (texts_back version ps)

keys_back : (ps : List Partition) → map key_in (map part_of ps) ≡ map (λ (p : Partition). p.key) ps
keys_back [] = refl
keys_back (p ∷ ps) = ap (λ (ks : List (List ℕ)). p.key ∷ ks) (keys_back ps)

count_back : (ps : List Partition) → length (map part_of ps) ≡ length ps
count_back [] = refl
count_back (p ∷ ps) = ap (λ n. suc n) (count_back ps)

there_back : (ps : List Partition) → 1 ≤ length ps → IsThere (map part_of ps)
there_back [] some = absurd (omega arith)
there_back (p ∷ ps) some = tt

module _ (columns : List Column) (narrow : IsNarrow columns) (c : Contents) (f : Facts) (fit : FitsContents columns c) (of : AreFacts (atoms_of c) f) where
  abbrev parts : List Part
  parts = map part_of c.partitions

  abbrev head_text : List ℕ
  head_text = header_bytes c.header

  abbrev body : List ℕ
  body = flat_map (part_bytes c.header.version) parts

  abbrev middle : List ℕ
  middle = index_bytes (index_of c) ++ (filter_bytes (key_filter c) ++ info_bytes (info_of c f))

  place_long : index_place c ≡ HEADER_LENGTH + length body
  place_long = omega (arith, length-append head_text (flat_map (text_of c.header.version) c.partitions), header_long c.header, ap length (texts_back c.header.version c.partitions))

  table_is : table_bytes c f ≡ head_text ++ (body ++ (middle ++ footer_bytes (footer_of c)))
  table_is =
      append_assoc head_text (flat_map (text_of c.header.version) c.partitions) _
      ∙ λ i. head_text ++ (sym (texts_back c.header.version c.partitions) i
      ++ tail_is (index_bytes (index_of c)) (filter_bytes (key_filter c)) (info_bytes (info_of c f)) (footer_bytes (footer_of c)) i)

  body_there : take (index_place c - HEADER_LENGTH) (drop HEADER_LENGTH (table_bytes c f)) ≡ body
  body_there = piece head_text body _ (table_bytes c f) HEADER_LENGTH (index_place c - HEADER_LENGTH) table_is (header_long c.header) (omega (arith, place_long))

  bytes_long : (info_of c f).bytes ≡ index_place c + length middle + FOOTER_LENGTH
  bytes_long =
      omega (
        arith,
        length_is_told c f,
        parts_long c f,
        length-append (index_bytes (index_of c)) (filter_bytes (key_filter c) ++ info_bytes (info_of c f)),
        length-append (filter_bytes (key_filter c)) (info_bytes (info_of c f)),
      )

  middle_there : take ((info_of c f).bytes - FOOTER_LENGTH - index_place c) (drop (index_place c) (table_bytes c f)) ≡ middle
  middle_there =
      piece (head_text ++ body) middle (footer_bytes (footer_of c)) (table_bytes c f) (index_place c) ((info_of c f).bytes - FOOTER_LENGTH - index_place c)
      (table_is ∙ sym (append_assoc head_text body (middle ++ footer_bytes (footer_of c))))
      (omega (arith, length-append head_text body, header_long c.header, place_long)) (omega (arith, bytes_long))

  partitions_there : own_partitions_at columns (kept_for c) (table_bytes c f) ≡ Ok parts
  partitions_there =
      ap (λ (t : List ℕ). partitions_at c.header.version (clustering_order columns) columns (index_place c) PARTITION_LIMIT None (read_left t HEADER_LENGTH)) body_there
      ∙ parts_again c.header.version columns narrow (index_place c) PARTITION_LIMIT HEADER_LENGTH None parts (sym place_long) (there_back c.partitions fit.few.0)
      (omega (arith, count_back c.partitions, fit.few.1)) (all_are c.header.version columns c.partitions fit.each fit.statics)
      (ascend_of c.header.version columns None parts (sorted_chain key_in bytes_cmp (IsPartition c.header.version columns) nat_list_cmp_total parts (all_are c.header.version columns c.partitions fit.each fit.statics)
      (subst (IsStrictlySortedBy bytes_cmp) (sym (keys_back c.partitions)) fit.ascend)))

  own_there : entries_for c.header.version HEADER_LENGTH parts ≡ index_of c
  own_there =
      entries_are c.header.version columns HEADER_LENGTH parts (all_are c.header.version columns c.partitions fit.each fit.statics)
      ∙ λ i. entries c.header.version (sym (header_long c.header) i) (all_back columns c.partitions fit.each i)

  rest_there : own_rest_at (entries_for c.header.version HEADER_LENGTH parts) (info_of c f) f (index_place c) (table_bytes c f) ≡ Ok tt
  rest_there =
      let own : List PartitionEntry = entries_for c.header.version HEADER_LENGTH parts in
      let told : TableInfo = info_for own (info_of c f) f in
      let same : told ≡ info_of c f = told_is own c (info_of c f) f own_there refl refl in
      filled_again (fields_for own told) (take ((info_of c f).bytes - FOOTER_LENGTH - index_place c) (drop (index_place c) (table_bytes c f))) (index_place c)
      (middle_there ∙ sym (spelled own told ∙ λ i. index_bytes (own_there i) ++ (filter_bytes (filter_is own c own_there i) ++ info_bytes (same i))))

  facts_of : AreFactsOf columns (kept_for c) (table_bytes c f) f
  facts_of ps there =
      subst (λ (xs : List Part). AreFacts (atoms_in xs) f) (ok_is parts ps (sym partitions_there ∙ there))
      (subst (λ (xs : List Atom). AreFacts xs f) (ap (λ (qs : List Partition). flats (map (λ (p : Partition). p.stream) qs)) (sym (all_back columns c.partitions fit.each)) ∙ atoms_are parts) of)

  whole_there : whole_at columns (info_of c f) (kept_for c) f (table_bytes c f) ≡ Ok tt
  unfolding whole_at
  whole_there =
      ap (λ (r : Result (List Part) ReadFault). r >>= λ (ps : List Part). own_rest_at (entries_for c.header.version HEADER_LENGTH ps) (info_of c f) f (index_place c) (table_bytes c f)) partitions_there
      ∙ rest_there

check_again : (columns : List Column) → IsNarrow columns → (c : Contents) (file : List ℕ) → FitsContents columns c → (t : IsTable c file)
    → AreFactsOf columns (kept_for c) file t.facts × (whole_at columns (info_of c t.facts) (kept_for c) t.facts file ≡ Ok tt)
check_again columns narrow c file fit t =
    subst (λ (b : List ℕ). AreFactsOf columns (kept_for c) b t.facts × (whole_at columns (info_of c t.facts) (kept_for c) t.facts b ≡ Ok tt)) (sym t.spelled)
    (facts_of columns narrow c t.facts fit t.of_atoms, whole_there columns narrow c t.facts fit t.of_atoms)

-- ---- the laws

pub checking_is_exact : CheckingIsExact
checking_is_exact = record { found = check_found; again = check_again }

pub there_are_facts : ThereAreFacts
there_are_facts columns narrow table shard info file k head fit are loaded =
    facts_there columns narrow table shard info file k head fit are (loads_found (clustering_order columns) table shard info file k head fit are loaded)
    (own_partitions_at columns k file) refl
