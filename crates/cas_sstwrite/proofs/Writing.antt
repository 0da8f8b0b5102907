-- A partition stands behind those that were written.
use Rattle.std.proofs.Common.{◌≡◌, ℕ, ◌+◌, ◌≤◌, true, List, [], ◌∷◌, ◌++◌, map, length, Option, None, Some, refl, sym, ap, subst, ◌∙◌, append_assoc, arith}
use Rattle.std.specs.List.{AllByRecursion, flat_map, last_or}
use Rattle.std.specs.List.Sorted.{IsStrictlySortedBy}
use Rattle.std.specs.Ordering.{is_lt}
use Rattle.std.specs.declared.cmp.Ordering.{Ordering}
use Rattle.std.specs.declared.cmp.Ordering.TheVariants.{Less, Equal, Greater}
use Rattle.std.proofs.lemmas.Cmp.{nat_list_cmp_total}
use Rattle.std.proofs.lemmas.Grind.{flat_map-append}
use Rattle.std.proofs.lemmas.List.{append-nil, length-append, map-append}
use Rattle.cas_types.specs.Values.{bytes_cmp}
use Rattle.cas_types.specs.declared.schema.Column.{Column}
use Rattle.cas_atoms.specs.declared.atom.Atom.{Atom}
use Rattle.cas_cell.specs.declared.deletion.Deletion.{Deletion}
use Rattle.cas_bounds.specs.declared.cuts.Cut.{Cut}
use Rattle.cas_info.specs.declared.info.TheConstants.{LAST_LEVEL}
use Rattle.cas_streams.specs.Flat.{Change, changes, at_end, own, ranges, flat}
use Rattle.cas_streams.specs.Streams.{IsThere, WellFormed}
use Rattle.cas_streams.specs.Merged.{flat_of, flats}
use Rattle.cas_streams.specs.declared.fragment.Fragment.{Fragment}
use Rattle.cas_streams.specs.declared.fragment.Fragment.TheVariants as fragment
use Rattle.cas_facts.specs.Facts.{AreFactsSoFar}
use Rattle.cas_facts.proofs.Streams.{streams_tell_their_facts}
use Rattle.cas_fragments.specs.Blocks.{partition_bytes}
use Rattle.cas_index.specs.Entries.{is_next_key}
use Rattle.cas_index.specs.declared.entries.PartitionEntry.{PartitionEntry}
use Rattle.cas_tables.specs.declared.header.Header.{Header}
use Rattle.cas_fragments.specs.declared.heads.Version.TheVariants.{First, Second}
use Rattle.cas_fragments.specs.declared.heads.Version.{Version}
use Rattle.cas_tables.specs.Allowed.{FitsHeader}
use Rattle.cas_tables.specs.Spelling.{header_bytes}
use Rattle.cas_tables.specs.Contents.{Partition}
use Rattle.cas_tables.specs.Places.{head_of, text_of, blocks, block_entries, entries}
use Rattle.cas_tables.specs.Fitting.{FitsPartition}
use Rattle.cas_sstwrite.specs.declared.held.Sink.{Sink}
use Rattle.cas_sstwrite.specs.declared.held.TableWriter.{TableWriter}
use Rattle.cas_sstwrite.specs.Writers.{Writes, FitsStream, partition_of}
use Rattle.cas_sstwrite.specs.Inner.Sinks.{Took}
use Rattle.cas_sstwrite.specs.Inner.Adding.{partition_entry, AddsOne, Adds}

abbrev made : List ℕ → Option Deletion → List Fragment → Partition
made key top fs = record { key = key; stream = record { top = top; fragments = fs } }

-- ---- nothing yet

nothing_sorted : IsStrictlySortedBy bytes_cmp []
unfolding IsStrictlySortedBy
nothing_sorted = tt

-- the header alone was written
pub nothing_written : {D E : Type 0} (number_of : D → ℕ) (written : D → List ℕ → Type 0) (columns : List Column) (draft : D) (s t : Sink D) (w : TableWriter D E)
    → FitsHeader w.header → w.header.version ≡ Second → w.level ≤ LAST_LEVEL → number_of draft ≡ w.header.number → ((bytes : List ℕ) → written draft bytes → bytes ≡ [])
    → (s.draft ≡ draft) × (s.place ≡ 0) → Took number_of written (header_bytes w.header) s t → w.sink ≡ t → w.entries.items ≡ [] → AreFactsSoFar [] w.seen.facts
    → Writes number_of written columns w []
nothing_written number_of written columns draft s t w fits second level number empty fresh took is none facts = record {
  header = fits;
  version = second;
  level = level;
  number = ap (λ x. number_of x.draft) is ∙ took.number ∙ ap number_of fresh.0 ∙ number;
  text = λ bytes h. texts bytes (subst (λ x. written x.draft bytes) is h);
  place = ap (λ x. x.place) is ∙ took.place ∙ (let e : s.place + length (header_bytes w.header) ≡ length (header_bytes w.header) = omega (arith, fresh.1) in e)
      ∙ ap length (sym (append-nil (header_bytes w.header)));
  entries = none;
  facts = facts;
  ascend = nothing_sorted;
  each = tt;
}
  where
    texts : (bytes : List ℕ) → written t.draft bytes → bytes ≡ header_bytes w.header ++ []
    texts bytes h =
        let a = took.text bytes h in
        a.2 ∙ ap (λ (x : List ℕ). x ++ header_bytes w.header) (empty a.0 (subst (λ d. written d a.0) fresh.0 a.1)) ∙ sym (append-nil (header_bytes w.header))

-- ---- what is said

there_front : {X : Type 0} (xs ys : List X) → IsThere xs → IsThere (xs ++ ys)
there_front [] ys there = absurd there
there_front (x ∷ xs) ys there = tt

there_back : {X : Type 0} (xs ys : List X) → IsThere ys → IsThere (xs ++ ys)
there_back [] ys there = there
there_back (x ∷ xs) ys there = tt

-- of a range deletion that ends something is said
range_said : (cut : Cut) (d : Option Deletion) (ms : List Change) → (None ≡ d → ⊥) → at_end d ms ≡ None → IsThere (ranges (record { at = cut; to = d } ∷ ms))
range_said cut None ms opens closed = absurd (opens refl)
range_said cut (Some d) [] opens closed = absurd (cc)
range_said cut (Some d) (m ∷ ms) opens closed = tt

pub said_there : (columns : List Column) (top : Option Deletion) (f : Fragment) (fs : List Fragment) → WellFormed columns (f ∷ fs) → IsThere (flat top (f ∷ fs))
said_there columns (Some d) f fs fit = tt
said_there columns None (fragment.Static cs) fs fit =
    there_back (ranges (changes fs)) (own (fragment.Static cs) ++ flat_map own fs) (there_front (own (fragment.Static cs)) (flat_map own fs) fit.fragments.0.1)
said_there columns None (fragment.Row r) fs fit =
    there_back (ranges (changes fs)) (own (fragment.Row r) ++ flat_map own fs) (there_front (own (fragment.Row r)) (flat_map own fs) fit.fragments.0.1)
said_there columns None (fragment.Marker cut d) fs fit =
    there_front (ranges (record { at = cut; to = d } ∷ changes fs)) (flat_map own (fragment.Marker cut d ∷ fs)) (range_said cut d (changes fs) fit.markers.0 fit.ordered.closed)

-- ---- lists

lt_less : (o : Ordering) → is_lt o ≡ true → o ≡ Less
lt_less Less e = refl
lt_less Equal e = absurd (cc)
lt_less Greater e = absurd (cc)

all_further : (k j : List ℕ) (ks : List (List ℕ)) → bytes_cmp k j ≡ Less → AllByRecursion (λ i. bytes_cmp j i ≡ Less) ks → AllByRecursion (λ i. bytes_cmp k i ≡ Less) ks
all_further k j [] e all = tt
all_further k j (i ∷ ks) e all = (nat_list_cmp_total.trans k j i e all.0, all_further k j ks e all.1)

next_sorted : (version : Version) (before : PartitionEntry) (place : ℕ) (ps : List Partition) (key : List ℕ) → IsStrictlySortedBy bytes_cmp (before.key ∷ map (λ p. p.key) ps)
    → is_next_key (last_or (Some before) (entries version place ps)) key ≡ true → IsStrictlySortedBy bytes_cmp (before.key ∷ (map (λ p. p.key) ps ++ key ∷ []))
unfolding IsStrictlySortedBy
next_sorted version before place [] key sorted next = ((lt_less (bytes_cmp before.key key) next, tt), (tt, tt))
next_sorted version before place (p ∷ ps) key sorted next =
    let entry : PartitionEntry = record { key = p.key; place = place; blocks = block_entries (place + length (head_of version p)) None (blocks p) } in
    let rest = next_sorted version entry (place + length (text_of version p)) ps key sorted.1 next in
    ((sorted.0.0, all_further before.key p.key (map (λ p. p.key) ps ++ key ∷ []) sorted.0.0 rest.0), rest)

sorted_next : (version : Version) (place : ℕ) (ps : List Partition) (key : List ℕ) → IsStrictlySortedBy bytes_cmp (map (λ p. p.key) ps)
    → is_next_key (last_or None (entries version place ps)) key ≡ true → IsStrictlySortedBy bytes_cmp (map (λ p. p.key) ps ++ key ∷ [])
unfolding IsStrictlySortedBy
sorted_next version place [] key sorted next = (tt, tt)
sorted_next version place (p ∷ ps) key sorted next =
    next_sorted version (record { key = p.key; place = place; blocks = block_entries (place + length (head_of version p)) None (blocks p) })
    (place + length (text_of version p)) ps key sorted next

entries_snoc : (version : Version) (place : ℕ) (ps : List Partition) (key : List ℕ) (top : Option Deletion) (fs : List Fragment) → version ≡ Second
    → entries version place (ps ++ made key top fs ∷ []) ≡ entries version place ps ++ partition_entry key top fs (place + length (flat_map (text_of version) ps)) ∷ []
entries_snoc First place ps key top fs second = absurd cc
entries_snoc Second place [] key top fs second = ap (λ n. partition_entry key top fs n ∷ []) (let e : place ≡ place + 0 = omega arith in e)
entries_snoc Second place (p ∷ ps) key top fs second =
    let long : (place + length (text_of Second p)) + length (flat_map (text_of Second) ps) ≡ place + length (text_of Second p ++ flat_map (text_of Second) ps) =
    omega (arith, length-append (text_of Second p) (flat_map (text_of Second) ps)) in
    ap (λ (es : List PartitionEntry). record { key = p.key; place = place; blocks = block_entries (place + length (head_of Second p)) None (blocks p) } ∷ es)
    (entries_snoc Second (place + length (text_of Second p)) ps key top fs refl
    ∙ ap (λ n. entries Second (place + length (text_of Second p)) ps ++ partition_entry key top fs n ∷ []) long)

all_snoc : {X : Type 0} (P : X → Type 0) (xs : List X) (x : X) → AllByRecursion P xs → P x → AllByRecursion P (xs ++ x ∷ [])
all_snoc P [] x all one = (one, tt)
all_snoc P (y ∷ xs) x all one = (all.0, all_snoc P xs x all.1 one)

-- ---- one more

front_more : (version : Version) (front : List ℕ) (ps : List Partition) (key : List ℕ) (top : Option Deletion) (fs : List Fragment) → version ≡ Second
    → (front ++ flat_map (text_of version) ps) ++ partition_bytes Second key top fs ≡ front ++ flat_map (text_of version) (ps ++ made key top fs ∷ [])
front_more First front ps key top fs second = absurd cc
front_more Second front ps key top fs second =
    append_assoc front (flat_map (text_of Second) ps) (partition_bytes Second key top fs)
    ∙ ap (λ (t : List ℕ). front ++ t)
    (ap (λ (t : List ℕ). flat_map (text_of Second) ps ++ t) (sym (append-nil (partition_bytes Second key top fs)))
    ∙ sym (flat_map-append (text_of Second) ps (made key top fs ∷ [])))

atoms_more : (ps : List Partition) (key : List ℕ) (top : Option Deletion) (fs : List Fragment)
    → flats (map (λ p. p.stream) ps) ++ flat top fs ≡ flats (map (λ p. p.stream) (ps ++ made key top fs ∷ []))
atoms_more ps key top fs =
    ap (λ (t : List Atom). flats (map (λ p. p.stream) ps) ++ t) (sym (append-nil (flat top fs)))
    ∙ sym (flat_map-append flat_of (map (λ p. p.stream) ps) (record { top = top; fragments = fs } ∷ []))
    ∙ ap flats (sym (map-append (λ p. p.stream) ps (made key top fs ∷ [])))

pub writes_more : {D E : Type 0} (number_of : D → ℕ) (written : D → List ℕ → Type 0) (columns : List Column) (old new : TableWriter D E) (ps : List Partition)
    (key : List ℕ) (top : Option Deletion) (fs : List Fragment) → Writes number_of written columns old ps → AddsOne number_of written key top fs old new
    → FitsStream columns key top fs → IsThere (flat top fs) → is_next_key (last_or None old.entries.items) key ≡ true
    → Writes number_of written columns new (ps ++ made key top fs ∷ [])
writes_more number_of written columns old new ps key top fs w a fit said next = record {
  header = subst FitsHeader (sym a.header) w.header;
  version = ap (λ h. h.version) a.header ∙ w.version;
  level = subst (λ n. n ≤ LAST_LEVEL) (sym a.level) w.level;
  number = a.took.number ∙ w.number ∙ ap (λ h. h.number) (sym a.header);
  text = λ bytes h. texts bytes (a.took.text bytes h);
  place = a.took.place
      ∙ (let e : old.sink.place + length (partition_bytes Second key top fs) ≡ length ((header_bytes old.header ++ flat_map (text_of old.header.version) ps) ++ partition_bytes Second key top fs) =
      omega (arith, w.place, length-append (header_bytes old.header ++ flat_map (text_of old.header.version) ps) (partition_bytes Second key top fs)) in e)
      ∙ ap length (front_more old.header.version (header_bytes old.header) ps key top fs w.version)
      ∙ ap (λ (h : Header). length (header_bytes h ++ flat_map (text_of h.version) (ps ++ made key top fs ∷ []))) (sym a.header);
  entries = a.entries
      ∙ ap (λ (es : List PartitionEntry). es ++ partition_entry key top fs old.sink.place ∷ []) w.entries
      ∙ ap (λ n. entries old.header.version (length (header_bytes old.header)) ps ++ partition_entry key top fs n ∷ [])
      (w.place ∙ length-append (header_bytes old.header) (flat_map (text_of old.header.version) ps))
      ∙ sym (entries_snoc old.header.version (length (header_bytes old.header)) ps key top fs w.version)
      ∙ ap (λ (h : Header). entries h.version (length (header_bytes h)) (ps ++ made key top fs ∷ [])) (sym a.header);
  facts = subst (λ (xs : List Atom). AreFactsSoFar xs new.seen.facts) (atoms_more ps key top fs)
      ((streams_tell_their_facts (flats (map (λ p. p.stream) ps)) new.seen.facts top fs fit.well_formed.ordered.closed).0
      (a.facts (flats (map (λ p. p.stream) ps)) w.facts));
  ascend = subst (IsStrictlySortedBy bytes_cmp) (sym (map-append (λ p. p.key) ps (made key top fs ∷ [])))
      (sorted_next old.header.version (length (header_bytes old.header)) ps key w.ascend (ap (λ es. is_next_key (last_or None es) key) (sym w.entries) ∙ next));
  each = all_snoc (FitsPartition columns) ps (made key top fs) w.each (record {
    key = fit.key;
    top = fit.top;
    well_formed = fit.well_formed;
    statics = fit.statics;
    rest = fit.rest;
    room = a.short;
    said = said;
  });
}
  where
    texts : (bytes : List ℕ) → (b : List ℕ) × written old.sink.draft b × (bytes ≡ b ++ partition_bytes Second key top fs)
        → bytes ≡ header_bytes new.header ++ flat_map (text_of new.header.version) (ps ++ made key top fs ∷ [])
    texts bytes b =
        b.2 ∙ ap (λ (t : List ℕ). t ++ partition_bytes Second key top fs) (w.text b.0 b.1) ∙ front_more old.header.version (header_bytes old.header) ps key top fs w.version
        ∙ ap (λ (h : Header). header_bytes h ++ flat_map (text_of h.version) (ps ++ made key top fs ∷ [])) (sym a.header)

-- one more, or none, where nothing is said
pub writes_on : {D E : Type 0} (number_of : D → ℕ) (written : D → List ℕ → Type 0) (columns : List Column) (old new : TableWriter D E) (ps : List Partition)
    (key : List ℕ) (top : Option Deletion) (fs : List Fragment) → Writes number_of written columns old ps → Adds number_of written key top fs old new
    → FitsStream columns key top fs → is_next_key (last_or None old.entries.items) key ≡ true
    → Writes number_of written columns new (ps ++ partition_of key top fs)
writes_on number_of written columns old new ps key None [] w a fit next =
    subst (λ (qs : List Partition). Writes number_of written columns new qs) (sym (append-nil ps)) (subst (λ x. Writes number_of written columns x ps) (sym a) w)
writes_on number_of written columns old new ps key None (f ∷ fs) w a fit next =
    writes_more number_of written columns old new ps key None (f ∷ fs) w a fit (said_there columns None f fs fit.well_formed) next
writes_on number_of written columns old new ps key (Some d) fs w a fit next =
    writes_more number_of written columns old new ps key (Some d) fs w a fit tt next
