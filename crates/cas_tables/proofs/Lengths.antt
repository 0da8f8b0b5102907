-- How long table files are, and that of the same contents there is one.
use Rattle.std.proofs.Common.{◌≡◌, ℕ, ◌+◌, ◌≤◌, List, [], ◌∷◌, ◌++◌, map, length, Option, None, Some, refl, sym, ap, ◌∙◌, subst, arith}
use Rattle.std.specs.List.{AllByRecursion}
use Rattle.std.proofs.lemmas.List.{length-append}
use Rattle.cas_types.specs.declared.schema.Column.{Column}
use Rattle.cas_atoms.specs.declared.atom.Atom.{Atom}
use Rattle.cas_codec.specs.Fields.{u8, u16, u64}
use Rattle.cas_codec.proofs.FieldLengths.{u8_long, u16_long, u64_long}
use Rattle.cas_info.specs.Spelling.{sizes_bytes, range_bytes, times_bytes, rest_bytes, info_bytes}
use Rattle.cas_streams.specs.Streams.{IsThere}
use Rattle.cas_streams.specs.Merged.{flat_of, flats}
use Rattle.cas_facts.specs.Facts.{AreFactsSoFar}
use Rattle.cas_facts.specs.declared.facts.Facts.{Facts}
use Rattle.cas_facts.proofs.Joining.{facts_are_one}
use Rattle.cas_filter.specs.Spelling.{filter_bytes}
use Rattle.cas_index.specs.declared.footer.TheConstants.{FOOTER_LENGTH}
use Rattle.cas_index.specs.declared.footer.Footer.{Footer}
use Rattle.cas_index.specs.Spelling.{index_bytes, footer_bytes}
use Rattle.cas_tables.specs.declared.header.TheConstants.{START_WORD, HEADER_LENGTH}
use Rattle.cas_tables.specs.declared.header.Header.{Header}
use Rattle.cas_tables.specs.Versions.{version_number}
use Rattle.cas_tables.specs.Spelling.{start_bytes, header_bytes}
use Rattle.cas_tables.specs.Contents.{Partition, Contents, keys, atoms_of}
use Rattle.cas_tables.specs.Files.{front_bytes, index_of, key_filter, footer_of, index_place, with_info, first_key, last_key, told_of, info_of, table_bytes, IsTable}
use Rattle.cas_tables.specs.Fitting.{FitsPartition, FitsContents}
use Rattle.cas_tables.specs.Laws.{TablesAreOne, LengthIsTold}

-- ---- lengths

behind : (a x y : List ℕ) → length x ≡ length y → length (a ++ x) ≡ length (a ++ y)
behind a x y e = length-append a x ∙ ap (λ n. length a + n) e ∙ sym (length-append a y)

before : (x y d : List ℕ) → length x ≡ length y → length (x ++ d) ≡ length (y ++ d)
before x y d e = length-append x d ∙ ap (λ n. n + length d) e ∙ sym (length-append y d)

-- the length is spelled in eight bytes whatever it is
info_long : (c : Contents) (f : Facts) (m n : ℕ) → length (info_bytes (told_of c f m)) ≡ length (info_bytes (told_of c f n))
info_long c f m n =
    let rest : List ℕ = range_bytes (first_key (keys c)) (last_key (keys c)) ++ (times_bytes f.least f.greatest f.dead ++ rest_bytes c.level (length c.partitions)) in
    before (sizes_bytes c.header.number m) (sizes_bytes c.header.number n) rest (behind (u64 c.header.number) (u64 m) (u64 n) (u64_long m ∙ sym (u64_long n)))

four_long : (a b c d : ℕ) → length (u64 a ++ (u64 b ++ (u64 c ++ u64 d))) ≡ 32
four_long a b c d =
    omega (
      arith,
      length-append (u64 a) (u64 b ++ (u64 c ++ u64 d)),
      length-append (u64 b) (u64 c ++ u64 d),
      length-append (u64 c) (u64 d),
      u64_long a,
      u64_long b,
      u64_long c,
      u64_long d,
    )

pub footer_long : (f : Footer) → length (footer_bytes f) ≡ FOOTER_LENGTH
footer_long f = four_long f.index f.filter f.info _

pub header_long : (h : Header) → length (header_bytes h) ≡ HEADER_LENGTH
header_long h =
    omega (
      arith,
      length-append (start_bytes h.version) (u16 h.table ++ (u8 h.shard ++ u64 h.number)),
      length-append (u64 START_WORD) (u16 (version_number h.version)),
      length-append (u16 h.table) (u8 h.shard ++ u64 h.number),
      length-append (u8 h.shard) (u64 h.number),
      u64_long START_WORD,
      u16_long (version_number h.version),
      u16_long h.table,
      u8_long h.shard,
      u64_long h.number,
    )

-- a file is as long as its parts
pub parts_long : (c : Contents) (f : Facts) → length (table_bytes c f)
    ≡ index_place c + (length (index_bytes (index_of c)) + (length (filter_bytes (key_filter c)) + (length (info_bytes (info_of c f)) + FOOTER_LENGTH)))
parts_long c f =
    let index : List ℕ = index_bytes (index_of c) in
    let filter : List ℕ = filter_bytes (key_filter c) in
    let info : List ℕ = info_bytes (info_of c f) in
    let footer : List ℕ = footer_bytes (footer_of c) in
    omega (
      arith,
      length-append (front_bytes c) (index ++ (filter ++ (info ++ footer))),
      length-append index (filter ++ (info ++ footer)),
      length-append filter (info ++ footer),
      length-append info footer,
      footer_long (footer_of c),
    )

pub length_is_told : LengthIsTold
length_is_told c f =
    let bytes : ℕ = length (with_info c (told_of c f 0)) in
    let index : List ℕ = index_bytes (index_of c) in
    let filter : List ℕ = filter_bytes (key_filter c) in
    let footer : List ℕ = footer_bytes (footer_of c) in
    let new : List ℕ = info_bytes (told_of c f bytes) in
    let draft : List ℕ = info_bytes (told_of c f 0) in
    behind (front_bytes c) (index ++ (filter ++ (new ++ footer))) (index ++ (filter ++ (draft ++ footer)))
    (behind index (filter ++ (new ++ footer)) (filter ++ (draft ++ footer))
    (behind filter (new ++ footer) (draft ++ footer)
    (before new draft footer (info_long c f bytes 0))))

-- ---- one file

same_facts : (f g : Facts) → Some f ≡ Some g → f ≡ g
same_facts f g e = cc

one_table : (c : Contents) (a b : List ℕ) → IsTable c a → IsTable c b → a ≡ b
one_table c a b p q =
    let same : p.facts ≡ q.facts = same_facts p.facts q.facts (facts_are_one.one (atoms_of c) (Some p.facts) (Some q.facts) p.of_atoms q.of_atoms) in
    p.spelled ∙ ap (table_bytes c) same ∙ sym q.spelled

front_there : (A B : List Atom) → IsThere A → IsThere (A ++ B)
front_there [] B none = absurd none
front_there (a ∷ A) B there = tt

atoms_there : (columns : List Column) (ps : List Partition) → 1 ≤ length ps → AllByRecursion (FitsPartition columns) ps → IsThere (flats (map (λ p. p.stream) ps))
atoms_there columns [] some fit = absurd (omega arith)
atoms_there columns (p ∷ ps) some fit = front_there (flat_of p.stream) (flats (map (λ p. p.stream) ps)) fit.0.said

some_table : (columns : List Column) (c : Contents) → FitsContents columns c → (bytes : List ℕ) × IsTable c bytes
some_table columns c fit = of_facts (facts_are_one.some (atoms_of c)).0 (facts_are_one.some (atoms_of c)).1
  where
    of_facts : (f : Option Facts) → AreFactsSoFar (atoms_of c) f → (bytes : List ℕ) × IsTable c bytes
    of_facts None e = absurd (subst IsThere e (atoms_there columns c.partitions fit.few.0 fit.each))
    of_facts (Some f) h = (table_bytes c f, record { facts = f; of_atoms = h; spelled = refl })

pub tables_are_one : TablesAreOne
tables_are_one = record { some = some_table; one = one_table }
