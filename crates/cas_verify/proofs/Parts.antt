-- Partitions that are read one after another are those of contents that a table may have.
use Rattle.std.proofs.Common.{◌≡◌, ℕ, zero, suc, ◌+◌, ◌<◌, ◌≤◌, ◌^◌, eqb, cond, Bool, true, false, List, [], ◌∷◌, ◌++◌, length, map, Option, None, Some, Ok, Err, refl, sym, ap, subst, ◌∙◌, append_assoc, arith, length-append}
use Rattle.std.specs.Prelude.{is_none}
use Rattle.std.specs.List.{AllByRecursion, flat_map}
use Rattle.std.proofs.lemmas.Bool.{true≢false, eqb-true, eq-eqb, ne_eqb}
use Rattle.std.proofs.lemmas.List.{append-nil}
use Rattle.cas_types.specs.Limits.{IsNarrow}
use Rattle.cas_types.specs.Schemas.{is_static}
use Rattle.cas_types.specs.Values.{bytes_cmp}
use Rattle.cas_types.specs.declared.schema.Column.{Column}
use Rattle.cas_cell.specs.declared.deletion.Deletion.{Deletion}
use Rattle.cas_bounds.specs.ClusteringOrder.{clustering_order}
use Rattle.cas_bounds.specs.declared.order.Ordered.{Ordered}
use Rattle.cas_atoms.specs.Fits.{FitsKey}
use Rattle.cas_atoms.specs.declared.atom.Atom.{Atom}
use Rattle.cas_atoms.specs.declared.atom.Atom.TheVariants.{RangeDeletion}
use Rattle.cas_atoms.specs.declared.row.RowColumn.{RowColumn}
use Rattle.cas_codec.specs.Fields.{bytes16, maybe}
use Rattle.cas_codec.specs.Exact.{AreBytes, Begins}
use Rattle.cas_codec.specs.Reading.{Left, Read, ◌>>=◌, checked, maybe_at}
use Rattle.cas_codec.specs.declared.fault.ReadFault.TheVariants.{Bad}
use Rattle.cas_codec.proofs.Exactness.{bind_ok, test_ok, ok_is, exact_checked, AreBytes-rest, read_left}
use Rattle.cas_codec.proofs.FieldLengths.{bytes16_long}
use Rattle.cas_records.specs.Reading.{key_at, deletion_at}
use Rattle.cas_records.specs.Spelling.{deletion_bytes}
use Rattle.cas_records.proofs.CellLaws.{key_exact}
use Rattle.cas_streams.specs.Flat.{Change, changes, at_end, ranges, own, atom_of}
use Rattle.cas_streams.specs.Merged.{flat_of}
use Rattle.cas_streams.specs.Streams.{IsThere, WellFormed}
use Rattle.cas_streams.specs.declared.fragment.Fragment.{Fragment}
use Rattle.cas_streams.specs.declared.fragment.Fragment.TheVariants as fragment
use Rattle.cas_fragments.specs.Allowed.{FitColumns, FitsFragment}
use Rattle.cas_fragments.specs.Spelling.{body_bytes}
use Rattle.cas_fragments.specs.Blocks.{Reached, nowhere, past_all, is_full, blocks_of, statics_in, behind_statics, statics_bytes, head_bytes, blocks_bytes, says_head}
use Rattle.cas_fragments.specs.Laws.{static_of, AreBlocks, joined, Stand, IsPartition, part_bytes}
use Rattle.cas_fragments.specs.Reading.{is_above, statics_at, head_at, blocks_at, partition_at}
use Rattle.cas_fragments.proofs.CutLaws.{fits_all, one_way}
use Rattle.cas_fragments.proofs.FragmentLaws.{there_before}
use Rattle.cas_fragments.proofs.WholeLaws.{statics_fit, partitions_are_exact}
use Rattle.cas_fragments.specs.declared.heads.Version.{Version}
use Rattle.cas_fragments.specs.declared.heads.Version.TheVariants.{First, Second}
use Rattle.cas_index.specs.declared.entries.PartitionEntry.{PartitionEntry}
use Rattle.cas_tables.specs.Fitting.{FitsPartition}
use Rattle.cas_tables.specs.Places.{head_of, blocks, text_of, block_entries, entries}
use Rattle.cas_verify.specs.Partitions.{Part, next_partition_at, partitions_at, as_partition, entry_for, entries_for}

abbrev pub HeadOf : Type 0
HeadOf = List ℕ × Option Deletion × List RowColumn

-- ---- one partition

-- what stands in it, apart
abbrev pub Apart : Part → Type 0
Apart p = (statics_in (static_of p.0.2 ++ joined p.1) ≡ p.0.2) × (behind_statics (static_of p.0.2 ++ joined p.1) ≡ joined p.1) × (blocks_of (joined p.1) ≡ p.1)

behind_is : (columns : List Column) (fs : List Fragment) → AllByRecursion (FitsFragment columns) fs → (statics_in fs ≡ []) × (behind_statics fs ≡ fs)
behind_is columns [] fit = (refl, refl)
behind_is columns (fragment.Static cs ∷ fs) fit = absurd (fit.0)
behind_is columns (fragment.Row r ∷ fs) fit = (refl, refl)
behind_is columns (fragment.Marker cut d ∷ fs) fit = (refl, refl)

both_are : (columns : List Column) (cs : List RowColumn) (fs : List Fragment) → AllByRecursion (FitsFragment columns) fs
    → (statics_in (static_of cs ++ fs) ≡ cs) × (behind_statics (static_of cs ++ fs) ≡ fs)
both_are columns [] fs fit = behind_is columns fs fit
both_are columns (c ∷ cs) fs fit = (refl, refl)

stand_are : (columns : List Column) (bs : List (List Fragment)) (ends goes_on : Bool) (r : Reached) → Stand columns ends goes_on r bs → AreBlocks columns r bs
stand_are columns [] ends goes_on r stand = tt
stand_are columns (b ∷ []) ends goes_on r stand = stand.0.1
stand_are columns (b ∷ c ∷ bs) ends goes_on r stand =
    (stand.0.1, stand.1.0.0, stand_are columns (c ∷ bs) (is_none (past_all r b).force) (is_full b) (past_all r b) stand.1)

are_blocks : (version : Version) (columns : List Column) (p : Part) → IsPartition version columns p → AreBlocks columns nowhere p.1
are_blocks version columns p fit = stand_are columns p.1 (says_head p.0) true nowhere fit.1

apart : (version : Version) (columns : List Column) (p : Part) → IsPartition version columns p → Apart p
apart version columns p fit =
    let are = are_blocks version columns p fit in
    let both = both_are columns p.0.2 (joined p.1) (fits_all columns nowhere p.1 are) in
    (both.0, both.1, one_way columns nowhere p.1 are)

pub text_is : (version : Version) (columns : List Column) (p : Part) → IsPartition version columns p → text_of version (as_partition p) ≡ part_bytes version p
text_is version columns p fit = partitions_are_exact.spelled version columns p fit

-- something is said of it
there_behind : {X : Type 0} (xs ys : List X) → IsThere ys → IsThere (xs ++ ys)
there_behind [] ys there = there
there_behind (x ∷ xs) ys there = tt

some_there : (make : Deletion → Atom) (o : Option Deletion) (rest : List Atom) → (None ≡ o → ⊥) → IsThere (atom_of make o ++ rest)
some_there make None rest differ = absurd (differ refl)
some_there make (Some d) rest differ = tt

opens : (m : Change) (ms : List Change) → (None ≡ m.to → ⊥) → at_end None (m ∷ ms) ≡ None → IsThere (ranges (m ∷ ms))
opens m [] differ closed = absurd (differ (sym closed))
opens m (n ∷ ms) differ closed = some_there (RangeDeletion m.at n.at) m.to (ranges (n ∷ ms)) differ

fragments_say : (columns : List Column) (f : Fragment) (fs : List Fragment) → WellFormed columns (f ∷ fs) → IsThere (ranges (changes (f ∷ fs)) ++ flat_map own (f ∷ fs))
fragments_say columns (fragment.Static cs) fs w = there_behind (ranges (changes fs)) (flat_map own (fragment.Static cs ∷ fs)) (there_before (own (fragment.Static cs)) (flat_map own fs) w.fragments.0.1)
fragments_say columns (fragment.Row r) fs w = there_behind (ranges (changes fs)) (flat_map own (fragment.Row r ∷ fs)) (there_before (own (fragment.Row r)) (flat_map own fs) w.fragments.0.1)
fragments_say columns (fragment.Marker cut d) fs w =
    there_before (ranges (changes (fragment.Marker cut d ∷ fs))) (flat_map own (fragment.Marker cut d ∷ fs))
    (opens (record { at = cut; to = d }) (changes fs) w.markers.0 w.ordered.closed)

says : (columns : List Column) (top : Option Deletion) (fs : List Fragment) → WellFormed columns fs → (top ≡ None → IsThere fs)
    → IsThere (flat_of (record { top = top; fragments = fs }))
says columns (Some d) fs w some = tt
says columns None [] w some = absurd (some refl)
says columns None (f ∷ fs) w some = fragments_say columns f fs w

rest_there : (columns : List Column) (h : HeadOf) (bs : List (List Fragment)) → Stand columns (says_head h) true nowhere bs → h.1 ≡ None → IsThere (static_of h.2 ++ joined bs)
rest_there columns (key, None, c ∷ cs) bs stand none = tt
rest_there columns (key, None, []) [] stand none = absurd (true≢false (sym stand))
rest_there columns (key, None, []) (b ∷ bs) stand none = there_before b (joined bs) stand.0.1.some
rest_there columns (key, Some d, cs) bs stand none = absurd cc

stand_room : (columns : List Column) (ends goes_on : Bool) (r : Reached) (bs : List (List Fragment)) → Stand columns ends goes_on r bs
    → AllByRecursion (λ b. length (body_bytes b) < 2 ^ 32) bs
stand_room columns ends goes_on r [] stand = tt
stand_room columns ends goes_on r (b ∷ bs) stand = (stand.0.2, stand_room columns (is_none (past_all r b).force) (is_full b) (past_all r b) bs stand.1)

pub part_fits : (version : Version) (columns : List Column) (p : Part) → IsPartition version columns p → FitsPartition columns (as_partition p)
part_fits version columns p fit =
    let a = apart version columns p fit in
    let w = partitions_are_exact.stream version columns p fit in
    let are = are_blocks version columns p fit in record {
      key = fit.0.0;
      top = fit.0.1;
      well_formed = w;
      statics = subst (FitColumns is_static columns) (sym a.0) (statics_fit version columns p.0.2 fit.0.2);
      rest = subst (AllByRecursion (FitsFragment columns)) (sym a.1) (fits_all columns nowhere p.1 are);
      room = subst (AllByRecursion (λ b. length (body_bytes b) < 2 ^ 32)) (sym (ap blocks_of a.1 ∙ a.2)) (stand_room columns (says_head p.0) true nowhere p.1 fit.1);
      said = says columns p.0.1 (static_of p.0.2 ++ joined p.1) w (rest_there columns p.0 p.1 fit.1);
    }

entry_is : (version : Version) (columns : List Column) (place : ℕ) (p : Part) → IsPartition version columns p
    → entry_for version place p ≡ record { key = p.0.0; place = place; blocks = block_entries (place + length (head_of version (as_partition p))) None (blocks (as_partition p)) }
entry_is version columns place p fit =
    let a = apart version columns p fit in
    λ i. record { key = p.0.0; place = place; blocks = block_entries (place + length (head_bytes version p.0.0 p.0.1 (sym a.0 i))) None ((sym (ap blocks_of a.1 ∙ a.2)) i) }

pub entries_are : (version : Version) (columns : List Column) (place : ℕ) (ps : List Part) → AllByRecursion (IsPartition version columns) ps → entries_for version place ps ≡ entries version place (map as_partition ps)
entries_are version columns place [] fit = refl
entries_are version columns place (p ∷ ps) fit =
    ap (λ (e : PartitionEntry). e ∷ entries_for version (place + length (part_bytes version p)) ps) (entry_is version columns place p fit.0)
    ∙ (λ i. record { key = p.0.0; place = place; blocks = block_entries (place + length (head_of version (as_partition p))) None (blocks (as_partition p)) }
    ∷ (ap (λ (t : List ℕ). entries_for version (place + length t) ps) (sym (text_is version columns p fit.0)) ∙ entries_are version columns (place + length (text_of version (as_partition p))) ps fit.1) i)

pub texts_are : (version : Version) (columns : List Column) (ps : List Part) → AllByRecursion (IsPartition version columns) ps → flat_map (text_of version) (map as_partition ps) ≡ flat_map (part_bytes version) ps
texts_are version columns [] fit = refl
texts_are version columns (p ∷ ps) fit = λ i. text_is version columns p fit.0 i ++ texts_are version columns ps fit.1 i

pub all_fit : (version : Version) (columns : List Column) (ps : List Part) → AllByRecursion (IsPartition version columns) ps → AllByRecursion (FitsPartition columns) (map as_partition ps)
all_fit version columns [] fit = tt
all_fit version columns (p ∷ ps) fit = (part_fits version columns p fit.0, all_fit version columns ps fit.1)

-- in the first version without static columns
pub none_static : (version : Version) (columns : List Column) (ps : List Part) → AllByRecursion (IsPartition version columns) ps → version ≡ First
    → AllByRecursion (λ p. statics_in p.stream.fragments ≡ []) (map as_partition ps)
none_static First columns [] fit first = tt
none_static First columns (p ∷ ps) fit first = ((apart First columns p fit.0).0 ∙ fit.0.0.2, none_static First columns ps fit.1 refl)
none_static Second columns ps fit first = absurd cc

-- ---- reading them

-- keys that ascend, from one on that is above another
abbrev pub Ascend : Option (List ℕ) → List Part → Type 0
Ascend before [] = Unit {0}
Ascend before (p ∷ ps) = (is_above bytes_cmp before p.0.0 ≡ true) × Ascend (Some p.0.0) ps

-- what was read of some bytes
pub record AreParts (version : Version) (columns : List Column) (n : ℕ) (before : Option (List ℕ)) (bytes : List ℕ) (ps : List Part) : Type 0 where
  pub some : IsThere ps
  pub few : length ps ≤ n
  pub fit : AllByRecursion (IsPartition version columns) ps
  pub ascend : Ascend before ps
  pub spelled : bytes ≡ flat_map (part_bytes version) ps

module _ (version : Version) (columns : List Column) (narrow : IsNarrow columns) where
  abbrev order : List Ordered
  order = clustering_order columns

  key_first : (left l : Left) (p : Part) (k : List ℕ) (m : Left) → partition_at version order columns left ≡ Ok (p, l) → key_at left ≡ Ok (k, m) → k ≡ p.0.0
  unfolding partition_at head_at
  key_first left l p k m e is =
      let one = bind_ok (head_at version columns left) _ (p, l) e in
      let two = bind_ok (blocks_at order columns (length one.0.1.bytes) (says_head one.0.0) true nowhere one.0.1) _ (p, l) one.2 in
      let head : one.0.0.0 ≡ p.0.0 = ap (λ (q : Part × Left). q.0.0.0) (ok_is ((one.0.0, two.0.0), two.0.1) (p, l) two.2) in
      let three = bind_ok (key_at left) _ one.0 one.1 in
      let key : k ≡ three.0.0 = ap (λ (q : List ℕ × Left). q.0) (ok_is (k, m) three.0 (sym is ∙ three.1)) in
      let four = bind_ok (maybe_at deletion_at three.0.1) _ one.0 three.2 in
      let five = bind_ok (statics_at version columns four.0.1) _ one.0 four.2 in
      key ∙ ap (λ (q : HeadOf × Left). q.0.0) (ok_is ((three.0.0, four.0.0, five.0.0), five.0.1) one.0 five.2) ∙ head

  part_found : (before : Option (List ℕ)) (left l : Left) (p : Part) → AreBytes left.bytes → next_partition_at version order columns before left ≡ Ok (p, l)
      → IsPartition version columns p × (is_above bytes_cmp before p.0.0 ≡ true) × Begins (part_bytes version p) left l
  unfolding next_partition_at checked
  part_found before left l p are e =
      let one = bind_ok (checked (is_above bytes_cmp before) key_at left) (λ (key : List ℕ × Left). partition_at version order columns left) (p, l) e in
      let two = bind_ok (key_at left) (λ (found : List ℕ × Left). cond (is_above bytes_cmp before found.0) (Ok found) (Err (Bad left.at))) one.0 one.1 in
      let t = test_ok (is_above bytes_cmp before two.0.0) (Bad left.at) two.0 one.0 two.2 in
      let f = (partitions_are_exact.exact version columns narrow).found left l p are one.2 in
      (f.0, ap (is_above bytes_cmp before) (sym (key_first left l p two.0.0 two.0.1 one.2 two.1)) ∙ t.0, f.1)

  part_again : (before : Option (List ℕ)) (p : Part) (rest : List ℕ) (at : ℕ) → IsPartition version columns p → is_above bytes_cmp before p.0.0 ≡ true
      → next_partition_at version order columns before (read_left (part_bytes version p ++ rest) at) ≡ Ok (p, read_left rest (at + length (part_bytes version p)))
  unfolding next_partition_at
  part_again before p rest at fit above =
      let k : List ℕ = bytes16 p.0.0 in
      let m : List ℕ = maybe deletion_bytes p.0.1 ++ statics_bytes version p.0.2 in
      let front : part_bytes version p ++ rest ≡ k ++ (m ++ (blocks_bytes p.1 ++ rest)) =
      append_assoc (k ++ m) (blocks_bytes p.1) rest ∙ append_assoc k m (blocks_bytes p.1 ++ rest) in
      let key = (exact_checked FitsKey bytes16 key_at (is_above bytes_cmp before) key_exact).again p.0.0 (m ++ (blocks_bytes p.1 ++ rest)) at (fit.0.0, above) in
      ap (λ (r : Read (List ℕ)). r >>= λ (key : List ℕ × Left). partition_at version order columns (read_left (part_bytes version p ++ rest) at))
      (ap (λ (t : List ℕ). checked (is_above bytes_cmp before) key_at (read_left t at)) front ∙ key)
      ∙ (partitions_are_exact.exact version columns narrow).again p rest at fit

  cond_either : {A : Type 0} (b : Bool) (x y z : A) (P : Type 0) → cond b x y ≡ z → (b ≡ true → x ≡ z → P) → (b ≡ false → y ≡ z → P) → P
  cond_either true x y z P e f g = f refl e
  cond_either false x y z P e f g = g refl e

  pub parts_found : (end n : ℕ) (before : Option (List ℕ)) (left : Left) (ps : List Part) → AreBytes left.bytes → left.at + length left.bytes ≡ end
      → partitions_at version order columns end n before left ≡ Ok ps → AreParts version columns n before left.bytes ps
  unfolding partitions_at
  parts_found end zero before left ps are long e = absurd cc
  parts_found end (suc n) before left ps are long e =
      let one = bind_ok (next_partition_at version order columns before left)
      (λ (first : Part × Left). cond (eqb first.1.at end) (Ok (first.0 ∷ [])) (partitions_at version order columns end n (Some first.0.0.0) first.1 >>= λ (others : List Part). Ok (first.0 ∷ others)))
      ps e in
      let p : Part = one.0.0 in
      let l : Left = one.0.1 in
      let f = part_found before left l p are one.1 in
      let behind : l.at + length l.bytes ≡ end = omega (arith, f.2.at, ap length f.2.bytes, length-append (part_bytes version p) l.bytes, long) in
      cond_either (eqb l.at end) (Ok (p ∷ [])) (partitions_at version order columns end n (Some p.0.0) l >>= λ (others : List Part). Ok (p ∷ others)) (Ok ps)
      (AreParts version columns (suc n) before left.bytes ps) one.2
      (λ b is.
      let there : l.at ≡ end = eqb-true l.at end b in
      let none : l.bytes ≡ [] = nothing l.bytes (omega (arith, behind, there)) in
      subst (AreParts version columns (suc n) before left.bytes) (ok_is (p ∷ []) ps is) (record {
        some = tt;
        few = omega arith;
        fit = (f.0, tt);
        ascend = (f.1, tt);
        spelled = f.2.bytes ∙ ap (λ (t : List ℕ). part_bytes version p ++ t) none;
      }))
      (λ b is.
      let two = bind_ok (partitions_at version order columns end n (Some p.0.0) l) (λ (others : List Part). Ok (p ∷ others)) ps is in
      let g = parts_found end n (Some p.0.0) l two.0 (AreBytes-rest left.bytes (part_bytes version p) l.bytes are f.2.bytes) behind two.1 in
      let few = g.few in
      subst (AreParts version columns (suc n) before left.bytes) (ok_is (p ∷ two.0) ps two.2) (record {
        some = tt;
        few = omega (arith, few);
        fit = (f.0, g.fit);
        ascend = (f.1, g.ascend);
        spelled = f.2.bytes ∙ ap (λ (t : List ℕ). part_bytes version p ++ t) g.spelled;
      }))
    where
      nothing : (xs : List ℕ) → length xs ≡ 0 → xs ≡ []
      nothing [] e = refl
      nothing (x ∷ xs) e = absurd (omega arith)

  pub parts_again : (end n at : ℕ) (before : Option (List ℕ)) (ps : List Part) → at + length (flat_map (part_bytes version) ps) ≡ end → IsThere ps → length ps ≤ n
      → AllByRecursion (IsPartition version columns) ps → Ascend before ps → partitions_at version order columns end n before (read_left (flat_map (part_bytes version) ps) at) ≡ Ok ps
  unfolding partitions_at
  parts_again end n at before [] long there few fit up = absurd there
  parts_again end zero at before (p ∷ ps) long there few fit up = absurd (omega arith)
  parts_again end (suc n) at before (p ∷ []) long there few fit up =
      let last : at + length (part_bytes version p) ≡ end = omega (arith, long, ap length (append-nil (part_bytes version p))) in
      rw (part_again before p [] at fit.0 up.0, eq-eqb (at + length (part_bytes version p)) end last) refl
  parts_again end (suc n) at before (p ∷ q ∷ ps) long there few fit up =
      let rest : List ℕ = flat_map (part_bytes version) (q ∷ ps) in
      let some : 0 < length rest = rest_some q ps in
      let more : at + length (part_bytes version p) + length rest ≡ end = omega (arith, long, length-append (part_bytes version p) rest) in
      rw (
        part_again before p rest at fit.0 up.0,
        ne_eqb (at + length (part_bytes version p)) end (λ e. omega (arith, e, more, some)),
        parts_again end n (at + length (part_bytes version p)) (Some p.0.0) (q ∷ ps) more tt (omega arith) fit.1 up.1,
      ) refl
    where
      rest_some : (q : Part) (ps : List Part) → 0 < length (flat_map (part_bytes version) (q ∷ ps))
      rest_some q ps =
          omega (
            arith,
            length-append (part_bytes version q) (flat_map (part_bytes version) ps),
            length-append (head_bytes version q.0.0 q.0.1 q.0.2) (blocks_bytes q.1),
            length-append (bytes16 q.0.0) (maybe deletion_bytes q.0.1 ++ statics_bytes version q.0.2),
            bytes16_long q.0.0,
          )
