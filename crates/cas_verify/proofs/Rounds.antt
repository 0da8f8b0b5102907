-- The partitions of a file, one after another.
use Rattle.std.proofs.Common.{◌≡◌, ℕ, suc, ◌+◌, eqb, Bool, true, false, List, [], ◌∷◌, ◌++◌, length, cond, Option, None, Some, Result, Ok, Err, inr, refl, sym, ap, subst, ◌∙◌, append_assoc, arith, length-append}
use Rattle.std.specs.List.{flat_map}
use Rattle.std.proofs.lemmas.Bool.{eq-eqb, ne_eqb, eqb-true, eqb-false}
use Rattle.std.proofs.lemmas.List.{append-nil}
use Rattle.cas_types.specs.Values.{bytes_cmp}
use Rattle.cas_types.specs.declared.schema.Column.{Column}
use Rattle.cas_cell.specs.declared.deletion.Deletion.{Deletion}
use Rattle.cas_bounds.specs.declared.order.Ordered.{Ordered}
use Rattle.cas_atoms.specs.declared.atom.Atom.{Atom}
use Rattle.cas_atoms.specs.declared.row.RowColumn.{RowColumn}
use Rattle.cas_codec.specs.Reading.{Left, Read, ◌>>=◌, checked}
use Rattle.cas_codec.specs.declared.fault.ReadFault.{ReadFault}
use Rattle.cas_codec.proofs.Exactness.{bind_ok}
use Rattle.cas_records.specs.Reading.{key_at}
use Rattle.cas_streams.specs.Flat.{changes, at_end}
use Rattle.cas_streams.specs.Merged.{flat_of}
use Rattle.cas_streams.specs.declared.fragment.Fragment.{Fragment}
use Rattle.cas_streams.specs.declared.fragment.Fragment.TheVariants as fragment
use Rattle.cas_facts.specs.Facts.{AreFactsSoFar}
use Rattle.cas_facts.specs.Told.{told, top_told, all_told}
use Rattle.cas_facts.specs.declared.facts.Tally.{Tally}
use Rattle.cas_facts.proofs.Streams.{streams_tell_their_facts}
use Rattle.cas_fragments.specs.Blocks.{Reached, nowhere, past_all, says_head, head_bytes, blocks_bytes}
use Rattle.cas_fragments.specs.Inner.Lasts.{last_key}
use Rattle.cas_fragments.specs.Laws.{static_of, joined, part_bytes}
use Rattle.cas_fragments.specs.Reading.{is_above, head_at, blocks_at, partition_at}
use Rattle.cas_fragments.specs.declared.heads.Head.{Head}
use Rattle.cas_fragments.proofs.ChainLaws.{last_pushed}
use Rattle.cas_fragments.specs.declared.heads.Version.{Version}
use Rattle.cas_index.specs.declared.entries.BlockEntry.{BlockEntry}
use Rattle.cas_index.specs.declared.entries.PartitionEntry.{PartitionEntry}
use Rattle.cas_tables.specs.Places.{block_entries}
use Rattle.cas_tables.specs.declared.header.TheConstants.{HEADER_LENGTH}
use Rattle.cas_blocks.specs.Reading.{left_at}
use Rattle.cas_blocks.proofs.Parts.{end_is}
use Rattle.cas_sstread.specs.Loading.{IsBadAt}
use Rattle.cas_sstread.specs.declared.fault.TableFault.{TableFault}
use Rattle.cas_sstread.specs.declared.fault.TableFault.TheVariants as table_fault
use Rattle.cas_verify.specs.Partitions.{Part, next_partition_at, partitions_at, stream_of, atoms_in, entry_for, entries_for}
use Rattle.cas_verify.specs.Inner.Ends.{IsFault, Ends}
use Rattle.cas_verify.specs.Inner.Walks.{reached, Sees, IsBegun, Went}
use Rattle.cas_verify.specs.Inner.Scans.{next_head_at, IsHead, key_before, Adds, Scanned, IsSeen}
use Rattle.cas_verify.specs.declared.blocks.Walk.{Walk}
use Rattle.cas_verify.specs.declared.partitions.Scan.{Scan}
use Rattle.cas_verify.proofs.BodyLaws.{fault_then}
use Rattle.cas_verify.proofs.Turns.{bad_then, bad_is, sees_both, flat_both}

abbrev HeadOf : Type 0
HeadOf = List ℕ × Option Deletion × List RowColumn

-- ---- what is seen of a partition

static_closed : (cs : List RowColumn) (fs : List Fragment) → changes (static_of cs ++ fs) ≡ changes fs
static_closed [] fs = refl
static_closed (c ∷ cs) fs = refl

static_told : (cs : List RowColumn) → told (fragment.Static cs) ≡ flat_map told (static_of cs)
static_told [] = refl
static_told (c ∷ cs) = sym (append-nil (told (fragment.Static (c ∷ cs))))

pub sees_head : (s t u : Tally) (top : Option Deletion) (cs : List RowColumn) → Sees s (top_told top) t → Sees t (told (fragment.Static cs)) u → Sees s (all_told top (static_of cs)) u
sees_head s t u top cs a b =
    subst (λ (atoms : List Atom). Sees s (top_told top ++ atoms) u) (static_told cs) (sees_both s t u (top_told top) (told (fragment.Static cs)) a b)

told_all : (top : Option Deletion) (xs ys : List Fragment) → all_told top xs ++ flat_map told ys ≡ all_told top (xs ++ ys)
told_all top xs ys = append_assoc (top_told top) (flat_map told xs) (flat_map told ys) ∙ ap (λ t. top_told top ++ t) (sym (flat_both told xs ys))

sees_stream : (s t u : Tally) (h : HeadOf) (bs : List (List Fragment)) → Sees s (all_told h.1 (static_of h.2)) t → Sees t (flat_map told (joined bs)) u
    → (past_all nowhere (joined bs)).force ≡ None → Sees s (flat_of (stream_of (h, bs))) u
sees_stream s t u h bs a b closed A is =
    let fs : List Fragment = static_of h.2 ++ joined bs in
    let end : at_end None (changes fs) ≡ None = ap (at_end None) (static_closed h.2 (joined bs)) ∙ end_is nowhere (joined bs) ∙ closed in
    let all : AreFactsSoFar (A ++ all_told h.1 fs) u.facts =
    subst (λ (atoms : List Atom). AreFactsSoFar (A ++ atoms) u.facts) (told_all h.1 (static_of h.2) (joined bs))
    (sees_both s t u (all_told h.1 (static_of h.2)) (flat_map told (joined bs)) a b A is) in
    (streams_tell_their_facts A u.facts h.1 fs end).0 all

-- ---- a partition

module _ (version : Version) (order : List Ordered) (columns : List Column) (before : Option (List ℕ)) (left : Left) where
  abbrev KeyOf : Read (List ℕ)
  KeyOf = checked (is_above bytes_cmp before) key_at left

  -- what stands behind the key, and the blocks behind the head
  abbrev PartFrom : HeadOf × Left → Read Part
  PartFrom head = blocks_at order columns (length head.1.bytes) (says_head head.0) true nowhere head.1 >>= λ blocks. Ok ((head.0, blocks.0), blocks.1)

  pub head_bad : (at : ℕ) → IsBadAt (next_head_at version columns before left) at → IsBadAt (next_partition_at version order columns before left) at
  unfolding next_head_at next_partition_at partition_at
  head_bad at bad = go KeyOf bad
    where
      go : (r : Read (List ℕ)) → IsBadAt (r >>= λ (key : List ℕ × Left). head_at version columns left) at → IsBadAt (r >>= λ (key : List ℕ × Left). (head_at version columns left >>= PartFrom)) at
      go (Ok p) is = bad_then (head_at version columns left) PartFrom at is
      go (Err f) is = bad_then (let r : Read HeadOf = Err f in r) PartFrom at is

  part_is : (h : HeadOf) (new : Left) → next_head_at version columns before left ≡ Ok (h, new) → next_partition_at version order columns before left ≡ PartFrom (h, new)
  unfolding next_head_at next_partition_at partition_at
  part_is h new e =
      let one = bind_ok KeyOf (λ (key : List ℕ × Left). head_at version columns left) (h, new) e in
      ap (λ r. r >>= λ (key : List ℕ × Left). (head_at version columns left >>= PartFrom)) one.1 ∙ ap (λ r. r >>= PartFrom) one.2

-- a partition that was read, or its blocks weren't
module _ (version : Version) (order : List Ordered) (columns : List Column) (end : ℕ) (file : List ℕ) (number : ℕ) where
  abbrev NextOf : Scan → Read Part
  NextOf s = next_partition_at version order columns (key_before s) (left_at file end s.place)

  module _ (s : Scan) (h : Head) (behind : ℕ) (w : Walk) (p : HeadOf × Left) (next : next_head_at version columns (key_before s) (left_at file end s.place) ≡ Ok p)
      (head : IsHead version end file s.place h behind p) (begun : IsBegun h behind w.seen w) where
    abbrev key_of : HeadOf
    key_of = (h.key, h.top, h.columns)

    part_of : NextOf s ≡ PartFrom version order columns (key_before s) (left_at file end s.place) (key_of, left_at file end behind)
    part_of =
        part_is version order columns (key_before s) (left_at file end s.place) key_of (left_at file end behind)
        (next ∙ λ i. Ok (head.head i, head.left i))

    blocks_is : (n : ℕ) → n ≡ length (left_at file end behind).bytes
        → blocks_at order columns n w.ends w.goes_on (reached w) (left_at file end w.place)
        ≡ blocks_at order columns (length (left_at file end behind).bytes) (says_head key_of) true nowhere (left_at file end behind)
    blocks_is n e = λ i. blocks_at order columns (e i) (begun.ends i) (begun.goes_on i) (begun.reached_is i) (left_at file end (begun.place_is i))

    pub part_bad : (at : ℕ) → IsBadAt (blocks_at order columns (length (left_at file end behind).bytes) w.ends w.goes_on (reached w) (left_at file end w.place)) at
        → IsBadAt (NextOf s) at
    part_bad at bad =
        bad_is (PartFrom version order columns (key_before s) (left_at file end s.place) (key_of, left_at file end behind)) (NextOf s) at (sym part_of)
        (bad_then (blocks_at order columns (length (left_at file end behind).bytes) (says_head key_of) true nowhere (left_at file end behind))
        (λ blocks. Ok ((key_of, blocks.0), blocks.1)) at
        (bad_is (blocks_at order columns (length (left_at file end behind).bytes) w.ends w.goes_on (reached w) (left_at file end w.place)) _ at
        (blocks_is (length (left_at file end behind).bytes) refl) bad))

    pub part_read : (x : Walk) (t : Scan) (blocks : List (List Fragment) × Left)
        → blocks_at order columns (length (left_at file end behind).bytes) w.ends w.goes_on (reached w) (left_at file end w.place) ≡ Ok blocks
        → Went end file w x blocks → Sees s.seen (all_told h.top (static_of h.columns)) w.seen
        → t.place ≡ x.place → t.seen ≡ x.seen
        → t.entries.items ≡ s.entries.items ++ record { key = h.key; place = s.place; blocks = x.entries.items } ∷ []
        → (q : Part × Left) × (NextOf s ≡ Ok q) × Adds version end file s t q
    part_read x t blocks e went seen place same entries = (
      ((key_of, blocks.0), blocks.1),
      part_of ∙ ap (λ r. r >>= λ (b : List (List Fragment) × Left). Ok ((key_of, b.0), b.1)) (sym (blocks_is (length (left_at file end behind).bytes) refl) ∙ e),
      record {
        left = went.left ∙ ap (left_at file end) (sym place);
        place = omega (
          arith,
          place,
          went.place,
          begun.place_is,
          head.long,
          length-append (head_bytes version h.key h.top h.columns) (blocks_bytes blocks.0),
        );
        entries = entries ∙ ap (λ (es : List BlockEntry). s.entries.items ++ record { key = h.key; place = s.place; blocks = es } ∷ []) all_entries;
        seen = subst (λ (y : Tally). Sees s.seen (flat_of (stream_of (key_of, blocks.0))) y) (sym same)
            (sees_stream s.seen w.seen x.seen key_of blocks.0 seen went.seen closed);
      },
    )
      where
        all_entries : x.entries.items ≡ block_entries (s.place + length (head_bytes version h.key h.top h.columns)) None blocks.0
        all_entries =
            went.entries ∙ (λ i. begun.entries i ++ block_entries ((begun.place_is ∙ head.long) i) (ap (λ (r : Reached). r.force) begun.reached_is i) blocks.0)

        closed : (past_all nowhere (joined blocks.0)).force ≡ None
        closed = ap (λ (r : Reached). (past_all r (joined blocks.0)).force) (sym begun.reached_is) ∙ went.closed

    pub part_refused : (f : TableFault)
        → IsFault number f (blocks_at order columns (length (left_at file end behind).bytes) w.ends w.goes_on (reached w) (left_at file end w.place))
        → IsFault number f (NextOf s)
    part_refused f is =
        fault_then number f (blocks_at order columns (length (left_at file end behind).bytes) w.ends w.goes_on (reached w) (left_at file end w.place)) (NextOf s) part_bad is

  pub head_refused : (s : Scan) (before : Option (List ℕ)) (f : TableFault) → before ≡ key_before s
      → IsFault number f (next_head_at version columns before (left_at file end s.place)) → IsFault number f (NextOf s)
  head_refused s before f same is =
      fault_then number f (next_head_at version columns before (left_at file end s.place)) (NextOf s)
      (λ at bad. head_bad version order columns (key_before s) (left_at file end s.place) at
      (bad_is (next_head_at version columns before (left_at file end s.place)) (next_head_at version columns (key_before s) (left_at file end s.place)) at
      (λ i. next_head_at version columns (same i) (left_at file end s.place)) bad)) is

  -- ---- all partitions

  abbrev AllOf : ℕ → Scan → Result (List Part) ReadFault
  AllOf n s = partitions_at version order columns end n (key_before s) (left_at file end s.place)

  scanned_then : (s t x : Scan) (p : Part × Left) (ps : List Part) → Adds version end file s t p → Scanned version t x ps → Scanned version s x (p.0 ∷ ps)
  scanned_then s t x p ps adds is = record {
    entries = is.entries ∙ (λ i. adds.entries i ++ entries_for version (adds.place i) ps)
        ∙ append_assoc s.entries.items (entry_for version s.place p.0 ∷ []) (entries_for version (s.place + length (part_bytes version p.0)) ps);
    seen = sees_both s.seen t.seen x.seen (flat_of (stream_of p.0)) (atoms_in ps) adds.seen is.seen;
  }

  scanned_one : (s t : Scan) (p : Part × Left) → Adds version end file s t p → Scanned version s t (p.0 ∷ [])
  scanned_one s t p adds = record {
    entries = adds.entries;
    seen = subst (λ (atoms : List Atom). Sees s.seen atoms t.seen) (sym (append-nil (flat_of (stream_of p.0)))) adds.seen;
  }

  key_then : (s t : Scan) (p : Part × Left) → Adds version end file s t p → key_before t ≡ Some p.0.0.0
  key_then s t p adds =
      ap (λ (es : List PartitionEntry). last_key (λ (e : PartitionEntry). e.key) es) adds.entries
      ∙ last_pushed (λ (e : PartitionEntry). e.key) s.entries.items (entry_for version s.place p.0)

  module _ (n : ℕ) (s t : Scan) (p : Part × Left) (next : NextOf s ≡ Ok p) (adds : Adds version end file s t p) where
    at_is : p.1.at ≡ t.place
    at_is = ap (λ (l : Left). l.at) adds.left

    -- the last one
    pub round_last : t.place ≡ end → (ps : List Part) × (AllOf (suc n) s ≡ Ok ps) × Scanned version s t ps
    unfolding partitions_at
    round_last there = (p.0 ∷ [], rw (next, eq-eqb p.1.at end (at_is ∙ there)) refl, scanned_one s t p adds)

    -- one more
    more_is : (t.place ≡ end → ⊥) → AllOf (suc n) s ≡ (AllOf n t >>= λ others. Ok (p.0 ∷ others))
    unfolding partitions_at
    more_is not_there =
        rw (next, ne_eqb p.1.at end (λ e. not_there (sym at_is ∙ e)))
        (λ i. partitions_at version order columns end n (sym (key_then s t p adds) i) (adds.left i) >>= λ others. Ok (p.0 ∷ others))

    pub round_more : (t.place ≡ end → ⊥) → (r : Result (Unit {0}) TableFault) (x : Scan)
        → Ends (λ (u : Unit {0}). Scanned version t x) number r (AllOf n t) → Ends (λ (u : Unit {0}). Scanned version s x) number r (AllOf (suc n) s)
    round_more not_there (Ok u) x is = (
      p.0 ∷ is.0,
      more_is not_there ∙ ap (λ r. r >>= λ (others : List Part). Ok (p.0 ∷ others)) is.1,
      scanned_then s t x p is.0 adds is.2,
    )
    round_more not_there (Err table_fault.ReadFault) x is = tt
    round_more not_there (Err (table_fault.BadBlock k at)) x is =
        (is.0, bad_is (AllOf n t >>= λ (others : List Part). Ok (p.0 ∷ others)) (AllOf (suc n) s) at (sym (more_is not_there)) (bad_then (AllOf n t) (λ (others : List Part). Ok (p.0 ∷ others)) at is.1))
    round_more not_there (Err table_fault.Mem) x is = tt

  pub round_bad : (n at : ℕ) (s : Scan) → IsBadAt (NextOf s) at → IsBadAt (AllOf (suc n) s) at
  unfolding partitions_at
  round_bad n at s bad =
      bad_then (NextOf s)
      (λ (first : Part × Left). cond (eqb first.1.at end) (Ok (first.0 ∷ [])) (partitions_at version order columns end n (Some first.0.0.0) first.1 >>= λ (others : List Part). Ok (first.0 ∷ others)))
      at bad

  pub round_none : (s : Scan) → IsBadAt (AllOf 0 s) s.place
  unfolding partitions_at
  round_none s = inr refl

  pub round_refused : (n : ℕ) (s : Scan) (f : TableFault) → IsFault number f (NextOf s) → IsFault number f (AllOf (suc n) s)
  round_refused n s f is = fault_then number f (NextOf s) (AllOf (suc n) s) (λ at bad. round_bad n at s bad) is

-- ---- whether the partitions end there

pub ends_there : (place end : ℕ) (b : Bool) → b ≡ eqb place end → b ≡ true → place ≡ end
ends_there place end b is e = eqb-true place end (sym is ∙ e)

pub goes_beyond : (place end : ℕ) (b : Bool) → b ≡ eqb place end → b ≡ false → place ≡ end → ⊥
goes_beyond place end b is e = eqb-false place end (sym is ∙ e)

-- ---- from the beginning

pub seen_all : (version : Version) (s t : Scan) (ps : List Part) → s.entries.items ≡ [] → s.place ≡ HEADER_LENGTH → AreFactsSoFar [] s.seen.facts → Scanned version s t ps → IsSeen version t ps
seen_all version s t ps none place facts is = record {
  entries = is.entries ∙ (λ i. none i ++ entries_for version (place i) ps);
  facts = is.seen [] facts;
}

pub begins : (version : Version) (order : List Ordered) (columns : List Column) (end : ℕ) (file : List ℕ) (number n : ℕ) (s x : Scan) (r : Result (Unit {0}) TableFault)
    → s.entries.items ≡ [] → s.place ≡ HEADER_LENGTH → AreFactsSoFar [] s.seen.facts
    → Ends (λ (u : Unit {0}). Scanned version s x) number r (partitions_at version order columns end n (key_before s) (left_at file end s.place))
    → Ends (λ (u : Unit {0}). IsSeen version x) number r (partitions_at version order columns end n None (left_at file end HEADER_LENGTH))
begins version order columns end file number n s x r none place facts is = go r is
  where
    same : partitions_at version order columns end n (key_before s) (left_at file end s.place) ≡ partitions_at version order columns end n None (left_at file end HEADER_LENGTH)
    same = λ i. partitions_at version order columns end n (last_key (λ (e : PartitionEntry). e.key) (none i)) (left_at file end (place i))

    go : (r : Result (Unit {0}) TableFault)
        → Ends (λ (u : Unit {0}). Scanned version s x) number r (partitions_at version order columns end n (key_before s) (left_at file end s.place))
        → Ends (λ (u : Unit {0}). IsSeen version x) number r (partitions_at version order columns end n None (left_at file end HEADER_LENGTH))
    go (Ok u) is = (is.0, sym same ∙ is.1, seen_all version s x is.0 none place facts is.2)
    go (Err table_fault.ReadFault) is = tt
    go (Err (table_fault.BadBlock k at)) is = (
      is.0,
      bad_is (partitions_at version order columns end n (key_before s) (left_at file end s.place)) (partitions_at version order columns end n None (left_at file end HEADER_LENGTH)) at same is.1,
    )
    go (Err table_fault.Mem) is = tt
