-- What was never written isn't too much for a file.
use Rattle.std.proofs.Common.{◌≡◌, ◌⊎◌, inl, inr, ◌<◌, ◌≤◌, ◌+◌, ℕ, ◌==◌, ◌&&◌, List, [], ◌∷◌, ◌++◌, length, Option, None, Some, refl, sym, ap, ◌∙◌, subst, arith, length-append}
use Rattle.std.specs.List.{AllByRecursion, flat_map}
use Rattle.cas_types.specs.declared.limits.TheConstants.{KEY_LIMIT}
use Rattle.cas_types.specs.declared.schema.Column.{Column}
use Rattle.cas_types.specs.declared.schema.TableSchema.{TableSchema}
use Rattle.cas_cell.specs.declared.deletion.Deletion.{Deletion}
use Rattle.cas_atoms.specs.Coordinates.{RowKey, clustered, static_row, path, is_at, same_row, same_values}
use Rattle.cas_atoms.specs.declared.atom.Atom.{Atom}
use Rattle.cas_atoms.specs.declared.atom.Atom.TheVariants.{PartitionDeletion, RangeDeletion, RowDeletion, CollectionDeletion, Live, Write, StaticWrite, StaticCollectionDeletion}
use Rattle.cas_codec.proofs.FieldLengths.{bytes16_long, u16_long, u32_long}
use Rattle.cas_codec.specs.Fields.{bytes16, maybe, u8, u16}
use Rattle.cas_facts.specs.Facts.{AreFacts}
use Rattle.cas_flush.proofs.Allowing.{at_itself, column_itself, same_itself, where_true}
use Rattle.cas_flush.specs.Flushed.{at_level_0}
use Rattle.cas_flushing.specs.Flushed.{head_of}
use Rattle.cas_fragments.specs.Blocks.{blocks_bytes, head_bytes, partition_bytes}
use Rattle.cas_fragments.specs.Spelling.{columns_bytes}
use Rattle.cas_fragments.specs.declared.heads.Version.TheVariants.{Second}
use Rattle.cas_info.specs.declared.info.TheConstants.{FILE_LIMIT, PARTITION_LIMIT}
use Rattle.cas_records.specs.Spelling.{deletion_bytes}
use Rattle.cas_sstwrite.specs.Causes.{IsUnfit, TooMuch}
use Rattle.cas_sstwrite.specs.declared.fault.Measure.{Measure}
use Rattle.cas_sstwrite.specs.declared.fault.Measure.TheVariants.{FileBytes, BlockBytes, Partitions}
use Rattle.cas_streams.specs.Flat.{Change, at_end, atom_of, changes, flat, own, ranges, ranges_after}
use Rattle.cas_streams.specs.Merged.{flat_of}
use Rattle.cas_streams.specs.NoMore.{SaysNoMore, partition, range, one_row, one_column}
use Rattle.cas_streams.specs.Streams.{Differ, IsThere, WellFormed}
use Rattle.cas_streams.specs.declared.fragment.Fragment.{Fragment}
use Rattle.cas_streams.specs.declared.fragment.Fragment.TheVariants as fragment
use Rattle.cas_tables.specs.Contents.{Partition, atoms_of}
use Rattle.cas_tables.specs.Files.{front_bytes}
use Rattle.cas_tables.specs.Fitting.{FitsPartition}
use Rattle.cas_tables.specs.Spelling.{header_bytes}
use Rattle.cas_tables.specs.declared.header.Header.{Header}
use Rattle.cas_tables.specs.declared.header.TheConstants.{HEADER_LENGTH}
use Rattle.cas_tables.proofs.Lengths.{header_long}
use Rattle.cas_lasting.specs.Laws.{NothingIsTooMuch}
use Rattle.cas_lasting.specs.TooMuch.{AllIsTooMuch, OneIsTooMuch}

-- ---- atoms

-- each atom says something
pub says_something : (a : Atom) (A : List Atom) → SaysNoMore (a ∷ A) [] → ⊥
says_something (PartitionDeletion d) A none = none.deletions partition d (inl refl)
says_something (RangeDeletion lo hi d) A none = none.deletions range d (inl refl)
says_something (RowDeletion c d) A none = none.deletions (one_row c.values) d (inl (where_true (same_values c.values c.values) d (same_itself c.values)))
says_something (CollectionDeletion c ref d) A none =
    let r : RowKey = clustered c.values in
    none.deletions (one_column r ref.number) d (inl (where_true (same_row r r && (ref.number == ref.number)) d (column_itself r ref.number)))
says_something (Live c l) A none = none.lives c.values l (inl (where_true (same_values c.values c.values) l (same_itself c.values)))
says_something (Write c ref p v) A none =
    let r : RowKey = clustered c.values in
    none.cells (path r ref.number p) v (inl (where_true (is_at r ref.number p (path r ref.number p)) v (at_itself r ref.number p)))
says_something (StaticWrite ref p v) A none =
    none.cells (path static_row ref.number p) v (inl (where_true (is_at static_row ref.number p (path static_row ref.number p)) v (at_itself static_row ref.number p)))
says_something (StaticCollectionDeletion ref d) A none =
    none.deletions (one_column static_row ref.number) d (inl (where_true (same_row static_row static_row && (ref.number == ref.number)) d (column_itself static_row ref.number)))

nothing_said : (A : List Atom) → SaysNoMore A [] → A ≡ []
nothing_said [] none = refl
nothing_said (a ∷ A) none = absurd (says_something a A none)

-- ---- a stream

middle_none : {X : Type 0} (L M R : List X) → L ++ (M ++ R) ≡ [] → M ≡ []
middle_none [] [] R none = refl
middle_none [] (x ∷ M) R none = absurd cc
middle_none (x ∷ L) M R none = absurd cc

not_there : {X : Type 0} (A : List X) → A ≡ [] → IsThere A → ⊥
not_there A none there = subst IsThere none there

-- what a marker begins is told as a range
range_told : (m : Change) (ms : List Change) → Differ None (m ∷ ms) → at_end None (m ∷ ms) ≡ None → ranges (m ∷ ms) ≡ [] → ⊥
range_told m ms differ closed none = by m.to refl ms closed none
  where
    by : (d : Option Deletion) → m.to ≡ d → (ms : List Change) → at_end None (m ∷ ms) ≡ None → ranges_after m ms ≡ [] → ⊥
    by None is ms closed none = differ.0 (sym is)
    by (Some d) is [] closed none = absurd (cc (sym is ∙ closed))
    by (Some d) is (n ∷ ms) closed none =
        absurd (cc (sym (ap (λ (o : Option Deletion). atom_of (RangeDeletion m.at n.at) o ++ ranges_after n ms) is) ∙ none))

no_fragments : (columns : List Column) (top : Option Deletion) (fs : List Fragment) → WellFormed columns fs → flat top fs ≡ [] → fs ≡ []
no_fragments columns top [] formed none = refl
no_fragments columns top (fragment.Static cs ∷ fs) formed none =
    absurd (not_there (own (fragment.Static cs)) (middle_none [] (own (fragment.Static cs)) (flat_map own fs)
    (rest_none (atom_of PartitionDeletion top) (ranges (changes fs)) (own (fragment.Static cs) ++ flat_map own fs) none)) formed.fragments.0.1)
  where
    rest_none : (A B C : List Atom) → A ++ (B ++ C) ≡ [] → C ≡ []
    rest_none [] [] C none = none
    rest_none [] (b ∷ B) C none = absurd cc
    rest_none (a ∷ A) B C none = absurd cc
no_fragments columns top (fragment.Row r ∷ fs) formed none =
    absurd (not_there (own (fragment.Row r)) (middle_none [] (own (fragment.Row r)) (flat_map own fs)
    (rest_none (atom_of PartitionDeletion top) (ranges (changes fs)) (own (fragment.Row r) ++ flat_map own fs) none)) formed.fragments.0.1)
  where
    rest_none : (A B C : List Atom) → A ++ (B ++ C) ≡ [] → C ≡ []
    rest_none [] [] C none = none
    rest_none [] (b ∷ B) C none = absurd cc
    rest_none (a ∷ A) B C none = absurd cc
no_fragments columns top (fragment.Marker cut d ∷ fs) formed none =
    absurd (range_told (record { at = cut; to = d }) (changes fs) formed.markers formed.ordered.closed
    (middle_none (atom_of PartitionDeletion top) (ranges (changes (fragment.Marker cut d ∷ fs))) (flat_map own fs) none))

no_top : (top : Option Deletion) (fs : List Fragment) → flat top fs ≡ [] → top ≡ None
no_top None fs none = refl
no_top (Some d) fs none = absurd cc

-- ---- a file

none_stand : (columns : List Column) (ps : List Partition) → AllByRecursion (FitsPartition columns) ps → AllByRecursion (λ p. SaysNoMore (flat_of p.stream) []) ps → ps ≡ []
none_stand columns [] fit none = refl
none_stand columns (p ∷ ps) fit none = absurd (not_there (flat_of p.stream) (nothing_said (flat_of p.stream) none.0) fit.0.said)

no_deletion : length (maybe deletion_bytes None) ≡ 1
unfolding u8
no_deletion = refl

head_short : (key : List ℕ) → length (partition_bytes Second key None []) ≡ length key + 9
head_short key =
    let whole : length (partition_bytes Second key None []) ≡ length (head_bytes Second key None []) + length (blocks_bytes []) = length-append (head_bytes Second key None []) (blocks_bytes []) in
    let head : length (head_bytes Second key None []) ≡ length (bytes16 key) + length (maybe deletion_bytes None ++ columns_bytes []) =
    length-append (bytes16 key) (maybe deletion_bytes None ++ columns_bytes []) in
    let rest : length (maybe deletion_bytes None ++ columns_bytes []) ≡ length (maybe deletion_bytes None) + length (columns_bytes []) =
    length-append (maybe deletion_bytes None) (columns_bytes []) in
    let columns : length (columns_bytes []) ≡ length (u16 0) + 0 = length-append (u16 0) [] in
    let blocks : length (blocks_bytes []) ≡ 4 = u32_long 0 in
    omega (arith, whole, head, rest, columns, blocks, no_deletion, bytes16_long key, u16_long 0)

front_short : (h : Header) → length (front_bytes (at_level_0 h [])) ≡ HEADER_LENGTH
front_short h = let both : length (header_bytes h ++ []) ≡ length (header_bytes h) + 0 = length-append (header_bytes h) [] in omega (arith, both, header_long h)

fits : (key : List ℕ) → length key ≤ KEY_LIMIT → FILE_LIMIT < HEADER_LENGTH + (length key + 9) → ⊥
fits key low long =
    let key_limit : KEY_LIMIT ≡ 65535 = refl in
    let file_limit : FILE_LIMIT ≡ 1099511627776 = refl in
    let head : HEADER_LENGTH ≡ 21 = refl in
    omega (arith, low, long, key_limit, file_limit, head)

one_isnt : (t : TableSchema) (shard : ℕ) → OneIsTooMuch t shard [] → ⊥
one_isnt t shard m = by m.why
  where
    none : m.before ≡ []
    none = none_stand t.columns m.before m.say.each m.say.no_more

    silent : flat_of m.stream ≡ []
    silent = nothing_said (flat_of m.stream) m.says.no_more

    top : m.stream.top ≡ None
    top = no_top m.stream.top m.stream.fragments silent

    fragments : m.stream.fragments ≡ []
    fragments = no_fragments t.columns m.stream.top m.stream.fragments m.says.formed silent

    of : (what : Measure) → TooMuch what 0 (length (front_bytes (at_level_0 (head_of t shard m.number) []))) m.key None [] → ⊥
    of FileBytes long = fits m.key m.says.key_fits.1 (omega (arith, long, front_short (head_of t shard m.number), head_short m.key))
    of BlockBytes long = long tt
    of Partitions many = let limit : PARTITION_LIMIT ≡ 268435456 = refl in omega (arith, many, limit)

    by : ((what : Measure)
        × TooMuch what (length m.before) (length (front_bytes (at_level_0 (head_of t shard m.number) m.before))) m.key m.stream.top m.stream.fragments)
        ⊎ IsUnfit m.key m.stream.fragments → ⊥
    by (inl (what, much)) =
        of what (subst (λ (fs : List Fragment). TooMuch what 0 (length (front_bytes (at_level_0 (head_of t shard m.number) []))) m.key None fs) fragments
        (subst (λ (o : Option Deletion). TooMuch what 0 (length (front_bytes (at_level_0 (head_of t shard m.number) []))) m.key o m.stream.fragments) top
        (subst (λ (ps : List Partition). TooMuch what (length ps) (length (front_bytes (at_level_0 (head_of t shard m.number) ps))) m.key m.stream.top m.stream.fragments) none
        much)))
    by (inr unfit) =
        let key_limit : KEY_LIMIT ≡ 65535 = refl in
        (subst (IsUnfit m.key) fragments unfit) (omega (arith, m.says.key_fits.1, key_limit), (omega arith, tt), tt)

all_isnt : (t : TableSchema) (shard : ℕ) → AllIsTooMuch t shard [] → ⊥
all_isnt t shard m =
    let none : m.partitions ≡ [] = none_stand t.columns m.partitions m.say.each m.say.no_more in
    let facts : AreFacts [] m.facts = subst (λ (ps : List Partition). AreFacts (atoms_of (at_level_0 (head_of t shard m.number) ps)) m.facts) none m.of_atoms in
    facts.least.one

pub nothing_is_too_much : NothingIsTooMuch
nothing_is_too_much t shard (inl one) = one_isnt t shard one
nothing_is_too_much t shard (inr all) = all_isnt t shard all
