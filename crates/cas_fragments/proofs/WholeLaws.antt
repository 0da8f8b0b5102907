-- Partitions are read exactly.
use Rattle.std.proofs.Common.{◌≡◌, ℕ, zero, suc, ◌+◌, ◌<◌, ◌^◌, ◌++◌, Bool, true, false, cond, eqb, Option, None, Some, List, [], ◌∷◌, length, Result, Ok, Err, refl, sym, ap, subst, ◌∙◌, append_assoc, arith}
use Rattle.std.specs.Prelude.{is_none}
use Rattle.std.specs.List.{AllByRecursion, flat_map}
use Rattle.std.specs.List.Sorted.{IsStrictlySortedBy}
use Rattle.std.proofs.lemmas.Bool.{eqb-true, ne_eqb}
use Rattle.std.proofs.lemmas.List.{append-nil, length-append}
use Rattle.cas_types.specs.Limits.{IsNarrow}
use Rattle.cas_types.specs.Schemas.{is_static}
use Rattle.cas_types.specs.declared.schema.Column.{Column}
use Rattle.cas_cell.specs.declared.deletion.Deletion.{Deletion}
use Rattle.cas_bounds.specs.ClusteringOrder.{clustering_order}
use Rattle.cas_codec.specs.declared.fault.ReadFault.{ReadFault}
use Rattle.cas_codec.specs.declared.fault.ReadFault.TheVariants.{Bad}
use Rattle.cas_codec.specs.Reading.{Left, Read, ◌>>=◌, bytes32_at}
use Rattle.cas_codec.specs.Fields.{u32, bytes32}
use Rattle.cas_codec.specs.Exact.{AreBytes, Begins, IsExact}
use Rattle.cas_codec.proofs.Exactness.{bind_ok, test_ok, done, ok_is, read_left, AreBytes-rest, AreBytes-front, Begins-then, exact_then, exact_done, exact_map}
use Rattle.cas_codec.proofs.FieldLaws.{bytes32_field}
use Rattle.cas_codec.proofs.FieldLengths.{u32_long, bytes32_long}
use Rattle.cas_atoms.specs.declared.row.RowColumn.{RowColumn}
use Rattle.cas_streams.specs.Streams.{IsThere, WellFormed}
use Rattle.cas_streams.specs.declared.fragment.Fragment.{Fragment}
use Rattle.cas_streams.specs.declared.fragment.Fragment.TheVariants as fragment
use Rattle.cas_fragments.specs.Spelling.{body_bytes, block_bytes}
use Rattle.cas_fragments.specs.Blocks.{Reached, nowhere, past, past_all, is_full, blocks_of, statics_in, behind_statics, head_bytes, blocks_bytes, says_head, partition_bytes}
use Rattle.cas_fragments.specs.Reading.{body_at, either_way, next_block_at, blocks_at, head_at, partition_at}
use Rattle.cas_fragments.specs.Allowed.{FitColumns, FitsFragment, FitStatics, FitsHead}
use Rattle.cas_fragments.specs.declared.heads.Version.{Version}
use Rattle.cas_fragments.specs.declared.heads.Version.TheVariants.{First, Second}
use Rattle.cas_fragments.specs.Laws.{IsBlock, static_of, IsWhole, AreBlocks, joined, Stand, IsPartition, part_bytes, PartitionsAreExact}
use Rattle.cas_fragments.proofs.FragmentLaws.{head_exact}
use Rattle.cas_fragments.proofs.BlockLaws.{blocks_exact, some_bytes, body_longer}
use Rattle.cas_fragments.proofs.PartitionLaws.{whole_stream, stream_whole}
use Rattle.cas_fragments.proofs.CutLaws.{fits_all, follows_all, one_way, blocks_are_partitions}

-- ---- the next block

abbrev MayBeNext : List Column → Bool → Bool → Reached → Option (List Fragment) → Type 0
MayBeNext columns ends goes_on r None = ends ≡ true
MayBeNext columns ends goes_on r (Some b) = (goes_on ≡ true) × IsBlock columns r b × (length (body_bytes b) < 2 ^ 32)

next_bytes : Option (List Fragment) → List ℕ
next_bytes None = u32 0
next_bytes (Some b) = block_bytes b

nothing_in : (xs : List ℕ) → eqb (length xs) 0 ≡ true → xs ≡ []
nothing_in [] e = refl
nothing_in (x ∷ xs) e = let none : length (x ∷ xs) ≡ 0 = eqb-true (length (x ∷ xs)) 0 e in absurd (omega arith)

empty_block : bytes32 [] ≡ u32 0
unfolding bytes32
empty_block = append-nil (u32 0)

inner_bytes : (b rest bytes : List ℕ) → AreBytes bytes → bytes ≡ bytes32 b ++ rest → AreBytes b
unfolding bytes32
inner_bytes b rest bytes are e = AreBytes-rest (bytes32 b) (u32 (length b)) b (AreBytes-front bytes (bytes32 b) rest are e) refl

block_some : (columns : List Column) (b : List Fragment) → IsThere b → AllByRecursion (FitsFragment columns) b → 0 < length (body_bytes b)
block_some columns [] some fit = absurd some
block_some columns (f ∷ fs) some fit = omega (arith, some_bytes columns f fit.0, body_longer f fs)

if_ok : {A : Type 0} (b : Bool) (d : ReadFault) (r : Result A ReadFault) (y : A) → cond b r (Err d) ≡ Ok y → (b ≡ true) × (r ≡ Ok y)
if_ok true d r y e = (refl, e)
if_ok false d r y e = absurd cc

-- one of two readings, by a test
which : {A : Type 0} (b : Bool) (x z : Result A ReadFault) (y : A) (P : Type 0) → cond b x z ≡ Ok y → (b ≡ true → x ≡ Ok y → P) → (z ≡ Ok y → P) → P
which true x z y P e f g = f refl e
which false x z y P e f g = g e

module _ (columns : List Column) (narrow : IsNarrow columns) (ends goes_on : Bool) (r : Reached) where
  abbrev IsNext : Left → Left → Option (List Fragment) → Type 0
  IsNext old new o = MayBeNext columns ends goes_on r o × Begins (next_bytes o) old new

  at_end_found : (old mid : Left) (bytes : List ℕ) (o : Option (List Fragment)) (new : Left) → eqb (length bytes) 0 ≡ true → Begins (bytes32 bytes) old mid
      → cond {A = Read (Option (List Fragment))} ends (Ok (None, mid)) (Err (Bad old.at)) ≡ Ok (o, new) → IsNext old new o
  unfolding next_bytes
  at_end_found old mid bytes o new none begins e =
      let t = test_ok ends (Bad old.at) (None, mid) (o, new) e in
      subst (λ (y : Option (List Fragment) × Left). IsNext old y.1 y.0) t.1
      (t.0, subst (λ (xs : List ℕ). Begins xs old mid) (ap bytes32 (nothing_in bytes none) ∙ empty_block) begins)

  go_on_found : (old mid : Left) (bytes : List ℕ) (o : Option (List Fragment)) (new : Left) → AreBytes bytes → length bytes < 2 ^ 32
      → Begins (bytes32 bytes) old mid
      → cond {A = Read (Option (List Fragment))} goes_on
      (body_at (clustering_order columns) columns r (read_left bytes (old.at + 4)) >>= λ (block : List Fragment × Left). Ok (Some block.0, mid)) (Err (Bad old.at)) ≡ Ok (o, new)
      → IsNext old new o
  unfolding next_bytes
  go_on_found old mid bytes o new are short begins e =
      let t = if_ok goes_on (Bad old.at) _ (o, new) e in
      let p = bind_ok (body_at (clustering_order columns) columns r (read_left bytes (old.at + 4))) (λ (block : List Fragment × Left). Ok (Some block.0, mid)) (o, new) t.1 in
      let f = blocks_exact.found columns narrow r (read_left bytes (old.at + 4)) p.0.1 p.0.0 are p.1 in
      subst (λ (y : Option (List Fragment) × Left). IsNext old y.1 y.0) (ok_is (Some p.0.0, mid) (o, new) p.2)
      ((t.0, f.0, subst (λ (xs : List ℕ). length xs < 2 ^ 32) f.1 short), subst (λ (xs : List ℕ). Begins (bytes32 xs) old mid) f.1 begins)

  next_found : (old new : Left) (o : Option (List Fragment)) → AreBytes old.bytes
      → next_block_at (clustering_order columns) columns ends goes_on r old ≡ Ok (o, new) → IsNext old new o
  unfolding next_block_at
  next_found old new o are e =
      let p = bind_ok (bytes32_at old) (λ (body : List ℕ × Left). cond {A = Read (Option (List Fragment))} (eqb (length body.0) 0)
      (cond {A = Read (Option (List Fragment))} ends (Ok (None, body.1)) (Err (Bad old.at)))
      (cond {A = Read (Option (List Fragment))} goes_on (body_at (clustering_order columns) columns r (read_left body.0 (old.at + 4)) >>= λ (block : List Fragment × Left). Ok (Some block.0, body.1))
      (Err (Bad old.at)))) (o, new) e in
      let f = bytes32_field.exact.found old p.0.1 p.0.0 are p.1 in
      which (eqb (length p.0.0) 0) _ _ (o, new) (IsNext old new o) p.2
      (λ none is. at_end_found old p.0.1 p.0.0 o new none f.1 is)
      (λ is. go_on_found old p.0.1 p.0.0 o new (inner_bytes p.0.0 p.0.1.bytes old.bytes are f.1.bytes) f.0 f.1 is)

  next_again : (o : Option (List Fragment)) (rest : List ℕ) (at : ℕ) → MayBeNext columns ends goes_on r o
      → next_block_at (clustering_order columns) columns ends goes_on r (read_left (next_bytes o ++ rest) at)
      ≡ Ok (o, read_left rest (at + length (next_bytes o)))
  unfolding next_block_at next_bytes
  next_again None rest at fit =
      let read = bytes32_field.exact.again [] rest at (omega arith) in
      let front : bytes32_at (read_left (u32 0 ++ rest) at) ≡ Ok ([], read_left rest (at + length (u32 0))) =
      subst (λ (xs : List ℕ). bytes32_at (read_left (xs ++ rest) at) ≡ done ([], read_left rest (at + length xs))) empty_block read in
      rw (front, fit) refl
  next_again (Some b) rest at fit =
      let read = bytes32_field.exact.again (body_bytes b) rest at fit.2 in
      let inner = blocks_exact.again columns narrow r b (at + 4) fit.1 in
      let some : eqb (length (body_bytes b)) 0 ≡ false =
      ne_eqb (length (body_bytes b)) 0 (λ e. let more = block_some columns b fit.1.some fit.1.fit in omega arith) in
      rw (read, some, fit.0, inner) refl

  next_block_exact : IsExact (MayBeNext columns ends goes_on r) next_bytes (next_block_at (clustering_order columns) columns ends goes_on r)
  next_block_exact = record { found = λ old new o are e. next_found old new o are e; again = λ o rest at fit. next_again o rest at fit }

-- ---- the blocks of a partition

abbrev IsHead : Option (List Fragment) → List (List Fragment) → Type 0
IsHead None [] = Unit {0}
IsHead None (b ∷ bs) = ⊥
IsHead (Some b) [] = ⊥
IsHead (Some b) (c ∷ bs) = c ≡ b

abbrev after_head : Option (List Fragment) → List (List Fragment) → List ℕ
after_head None bs = []
after_head (Some b) [] = []
after_head (Some b) (c ∷ bs) = blocks_bytes bs

-- fewer than so many blocks
abbrev Few : List Column → ℕ → Bool → Bool → Reached → List (List Fragment) → Type 0
Few columns n ends goes_on r bs = Stand columns ends goes_on r bs × (length bs < n)

few_next : (columns : List Column) (n : ℕ) (ends goes_on : Bool) (r : Reached) (bs : List (List Fragment)) → Few columns (suc n) ends goes_on r bs
    → (o : Option (List Fragment)) × MayBeNext columns ends goes_on r o × IsHead o bs
few_next columns n ends goes_on r [] fit = (None, fit.0, tt)
few_next columns n ends goes_on r (b ∷ bs) fit = (Some b, fit.0.0, refl)

blocks_spelled : (o : Option (List Fragment)) (bs : List (List Fragment)) → IsHead o bs → blocks_bytes bs ≡ next_bytes o ++ after_head o bs
unfolding next_bytes
blocks_spelled None [] is = sym (append-nil (u32 0))
blocks_spelled None (b ∷ bs) is = absurd is
blocks_spelled (Some b) [] is = absurd is
blocks_spelled (Some b) (c ∷ bs) is =
    append_assoc (block_bytes c) (flat_map block_bytes bs) (u32 0) ∙ ap (λ (x : List Fragment). block_bytes x ++ blocks_bytes bs) is

module _ (columns : List Column) (narrow : IsNarrow columns) where
  only_end : (n : ℕ) (ends goes_on : Bool) (r : Reached) (bs : List (List Fragment)) → Few columns (suc n) ends goes_on r bs × IsHead None bs
      → (bs ≡ []) × (after_head None bs ≡ [])
  only_end n ends goes_on r [] fit = (refl, refl)
  only_end n ends goes_on r (b ∷ bs) fit = absurd (fit.1)

  one_less : (n : ℕ) (ends goes_on : Bool) (r : Reached) (b : List Fragment) (bs : List (List Fragment))
      → Few columns (suc n) ends goes_on r bs × IsHead (Some b) bs
      → (cs : List (List Fragment)) × Few columns n (is_none (past_all r b).force) (is_full b) (past_all r b) cs × (b ∷ cs ≡ bs)
  one_less n ends goes_on r b [] fit = absurd (fit.1)
  one_less n ends goes_on r b (c ∷ bs) fit =
      let few : length (c ∷ bs) < suc n = fit.0.1 in (
        bs,
        (subst (λ (x : List Fragment). Stand columns (is_none (past_all r x).force) (is_full x) (past_all r x) bs) fit.1 fit.0.0.1, omega arith),
        ap (λ (x : List Fragment). x ∷ bs) (sym fit.1),
      )

  one_more : (n : ℕ) (ends goes_on : Bool) (r : Reached) (b : List Fragment) (cs : List (List Fragment)) → MayBeNext columns ends goes_on r (Some b)
      → Few columns n (is_none (past_all r b).force) (is_full b) (past_all r b) cs → Few columns (suc n) ends goes_on r (b ∷ cs)
  one_more n ends goes_on r b cs next fit = ((next, fit.0), let few : length cs < n = fit.1 in omega arith)

  none_fit : (ends goes_on : Bool) (r : Reached) (bs : List (List Fragment)) → Few columns 0 ends goes_on r bs → ⊥
  none_fit ends goes_on r bs fit = let few : length bs < 0 = fit.1 in omega arith

  pub blocks_are : (n : ℕ) (ends goes_on : Bool) (r : Reached)
      → IsExact (Few columns n ends goes_on r) blocks_bytes (blocks_at (clustering_order columns) columns n ends goes_on r)
  unfolding blocks_at next_bytes
  blocks_are zero ends goes_on r = record {
    found = λ old new bs are e. absurd cc;
    again = λ bs rest at fit. absurd (none_fit ends goes_on r bs fit);
  }
  blocks_are (suc n) ends goes_on r =
      exact_then (MayBeNext columns ends goes_on r) next_bytes (next_block_at (clustering_order columns) columns ends goes_on r)
      (Few columns (suc n) ends goes_on r) blocks_bytes IsHead after_head
      (λ before o left. either_way o
      (λ b. blocks_at (clustering_order columns) columns n (is_none (past_all r b).force) (is_full b) (past_all r b) left >>= λ others. Ok (b ∷ others.0, others.1))
      (Ok ([], left)))
      (next_block_exact columns narrow ends goes_on r)
      (λ before o next. elim o as (λ o. MayBeNext columns ends goes_on r o → IsExact (λ bs. Few columns (suc n) ends goes_on r bs × IsHead o bs) (after_head o)
      (λ left. either_way o
      (λ b. blocks_at (clustering_order columns) columns n (is_none (past_all r b).force) (is_full b) (past_all r b) left >>= λ others. Ok (b ∷ others.0, others.1))
      (Ok ([], left)))) [
        | None ↦ λ ending. exact_done (λ bs. Few columns (suc n) ends goes_on r bs × IsHead None bs) (after_head None) [] ((ending, omega arith), tt)
            (λ bs fit. only_end n ends goes_on r bs fit)
        | Some b ↦ λ going. exact_map (Few columns n (is_none (past_all r b).force) (is_full b) (past_all r b)) blocks_bytes
            (blocks_at (clustering_order columns) columns n (is_none (past_all r b).force) (is_full b) (past_all r b))
            (λ bs. Few columns (suc n) ends goes_on r bs × IsHead (Some b) bs) (after_head (Some b)) (λ cs. b ∷ cs)
            (blocks_are n (is_none (past_all r b).force) (is_full b) (past_all r b))
            (λ cs fit. ((one_more n ends goes_on r b cs going fit, refl), refl))
            (λ bs fit. one_less n ends goes_on r b bs fit)
      ] next)
      (λ bs fit. few_next columns n ends goes_on r bs fit)
      (λ o bs fit is. blocks_spelled o bs is)

-- ---- a partition

-- fewer blocks than bytes
blocks_few : (bs : List (List Fragment)) → length bs < length (blocks_bytes bs)
blocks_few [] = omega (arith, u32_long 0)
blocks_few (b ∷ bs) =
    omega (
      arith,
      ap length (append_assoc (block_bytes b) (flat_map block_bytes bs) (u32 0)),
      length-append (block_bytes b) (blocks_bytes bs),
      bytes32_long (body_bytes b),
      blocks_few bs,
    )

partition_exact : (version : Version) (columns : List Column) → IsNarrow columns
    → IsExact (IsPartition version columns) (part_bytes version) (partition_at version (clustering_order columns) columns)
unfolding partition_at
partition_exact version columns narrow = record {
  found = λ old new p are e.
      let h = bind_ok (head_at version columns old) (λ (head : (List ℕ × Option Deletion × List RowColumn) × Left).
      blocks_at (clustering_order columns) columns (length head.1.bytes) (says_head head.0) true nowhere head.1
      >>= λ (blocks : List (List Fragment) × Left). Ok ((head.0, blocks.0), blocks.1)) (p, new) e in
      let f = (head_exact version columns narrow).found old h.0.1 h.0.0 are h.1 in
      let b = bind_ok (blocks_at (clustering_order columns) columns (length h.0.1.bytes) (says_head h.0.0) true nowhere h.0.1)
      (λ (blocks : List (List Fragment) × Left). Ok ((h.0.0, blocks.0), blocks.1)) (p, new) h.2 in
      let g = (blocks_are columns narrow (length h.0.1.bytes) (says_head h.0.0) true nowhere).found h.0.1 b.0.1 b.0.0 (AreBytes-rest _ _ _ are f.1.bytes) b.1 in
      subst (λ (y : ((List ℕ × Option Deletion × List RowColumn) × List (List Fragment)) × Left). IsPartition version columns y.0 × Begins (part_bytes version y.0) old y.1)
      (ok_is ((h.0.0, b.0.0), b.0.1) (p, new) b.2) ((f.0, g.0.0), Begins-then _ _ _ _ _ f.1 g.1);
  again = λ p rest at fit.
      let head = head_bytes version p.0.0 p.0.1 p.0.2 in
      let whole : part_bytes version p ++ rest ≡ head ++ (blocks_bytes p.1 ++ rest) = append_assoc head (blocks_bytes p.1) rest in
      let front = (head_exact version columns narrow).again p.0 (blocks_bytes p.1 ++ rest) at fit.0 in
      let more = length-append (blocks_bytes p.1) rest in
      let few : length p.1 < length (blocks_bytes p.1 ++ rest) = omega (arith, blocks_few p.1) in
      let back = (blocks_are columns narrow (length (blocks_bytes p.1 ++ rest)) (says_head p.0) true nowhere).again p.1 rest (at + length head) (fit.1, few) in
      let long = length-append head (blocks_bytes p.1) in
      let place : at + length head + length (blocks_bytes p.1) ≡ at + length (part_bytes version p) = omega arith in
      ap (λ (xs : List ℕ). partition_at version (clustering_order columns) columns (read_left xs at)) whole
      ∙ rw (front, back) (ap (λ (n : ℕ). done (p, read_left rest n)) place);
}

-- ---- what stands in it

none_is : {X : Type 0} (o : Option X) → is_none o ≡ true → o ≡ None
none_is None e = refl
none_is (Some x) e = absurd cc

stand_are : (columns : List Column) (bs : List (List Fragment)) (ends goes_on : Bool) (r : Reached) → Stand columns ends goes_on r bs → AreBlocks columns r bs
stand_are columns [] ends goes_on r stand = tt
stand_are columns (b ∷ []) ends goes_on r stand = stand.0.1
stand_are columns (b ∷ c ∷ bs) ends goes_on r stand =
    (stand.0.1, stand.1.0.0, stand_are columns (c ∷ bs) (is_none (past_all r b).force) (is_full b) (past_all r b) stand.1)

past_both : (r : Reached) (xs ys : List Fragment) → past_all r (xs ++ ys) ≡ past_all (past_all r xs) ys
past_both r [] ys = refl
past_both r (x ∷ xs) ys = past_both (past r x) xs ys

stand_closed : (columns : List Column) (bs : List (List Fragment)) (ends goes_on : Bool) (r : Reached) → (ends ≡ true → r.force ≡ None)
    → Stand columns ends goes_on r bs → (past_all r (joined bs)).force ≡ None
stand_closed columns [] ends goes_on r closed stand = closed stand
stand_closed columns (b ∷ bs) ends goes_on r closed stand =
    ap (λ (q : Reached). q.force) (past_both r b (joined bs))
    ∙ stand_closed columns bs (is_none (past_all r b).force) (is_full b) (past_all r b) (λ e. none_is (past_all r b).force e) stand.1

partition_whole : (version : Version) (columns : List Column) (p : (List ℕ × Option Deletion × List RowColumn) × List (List Fragment)) → IsPartition version columns p
    → IsWhole columns (joined p.1)
partition_whole version columns p fit =
    let are = stand_are columns p.1 (says_head p.0) true nowhere fit.1 in record {
      fit = fits_all columns nowhere p.1 are;
      follow = follows_all columns nowhere p.1 are;
      closed = stand_closed columns p.1 (says_head p.0) true nowhere (λ e. refl) fit.1;
    }

behind_is : (columns : List Column) (fs : List Fragment) → AllByRecursion (FitsFragment columns) fs → (statics_in fs ≡ []) × (behind_statics fs ≡ fs)
behind_is columns [] fit = (refl, refl)
behind_is columns (fragment.Static cs ∷ fs) fit = absurd (fit.0)
behind_is columns (fragment.Row r ∷ fs) fit = (refl, refl)
behind_is columns (fragment.Marker cut d ∷ fs) fit = (refl, refl)

parts_are : (columns : List Column) (cs : List RowColumn) (fs : List Fragment) → AllByRecursion (FitsFragment columns) fs
    → (statics_in (static_of cs ++ fs) ≡ cs) × (behind_statics (static_of cs ++ fs) ≡ fs)
parts_are columns [] fs fit = behind_is columns fs fit
parts_are columns (c ∷ cs) fs fit = (refl, refl)

partition_spelled : (version : Version) (columns : List Column) (p : (List ℕ × Option Deletion × List RowColumn) × List (List Fragment)) → IsPartition version columns p
    → partition_bytes version p.0.0 p.0.1 (static_of p.0.2 ++ joined p.1) ≡ part_bytes version p
partition_spelled version columns p fit =
    let are = stand_are columns p.1 (says_head p.0) true nowhere fit.1 in
    let parts = parts_are columns p.0.2 (joined p.1) (fits_all columns nowhere p.1 are) in
    ap (λ (cs : List RowColumn). head_bytes version p.0.0 p.0.1 cs ++ blocks_bytes (blocks_of (behind_statics (static_of p.0.2 ++ joined p.1)))) parts.0
    ∙ ap (λ (fs : List Fragment). head_bytes version p.0.0 p.0.1 p.0.2 ++ blocks_bytes (blocks_of fs)) parts.1
    ∙ ap (λ (bs : List (List Fragment)). head_bytes version p.0.0 p.0.1 p.0.2 ++ blocks_bytes bs) (one_way columns nowhere p.1 are)

-- ---- and the other way

none_so : {X : Type 0} (o : Option X) → o ≡ None → is_none o ≡ true
none_so None e = refl
none_so (Some x) e = absurd cc

are_stand : (columns : List Column) (bs : List (List Fragment)) (ends goes_on : Bool) (r : Reached) → AreBlocks columns r bs
    → AllByRecursion (λ b. length (body_bytes b) < 2 ^ 32) bs → (bs ≡ [] → ends ≡ true) → (IsThere bs → goes_on ≡ true)
    → (past_all r (joined bs)).force ≡ None → Stand columns ends goes_on r bs
are_stand columns [] ends goes_on r are short ending going closed = ending refl
are_stand columns (b ∷ []) ends goes_on r are short ending going closed =
    let at_end : (past_all r b).force ≡ None = ap (λ (xs : List Fragment). (past_all r xs).force) (sym (append-nil b)) ∙ closed in
    ((going tt, are, short.0), none_so (past_all r b).force at_end)
are_stand columns (b ∷ c ∷ bs) ends goes_on r are short ending going closed = (
  (going tt, are.0, short.0),
  are_stand columns (c ∷ bs) (is_none (past_all r b).force) (is_full b) (past_all r b) are.2 short.1 (λ e. absurd cc) (λ there. are.1)
      (ap (λ (q : Reached). q.force) (sym (past_both r b (joined (c ∷ bs)))) ∙ closed),
)

no_blocks : (fs : List Fragment) → blocks_of fs ≡ [] → IsThere fs → ⊥
no_blocks [] e there = there
no_blocks (f ∷ fs) e there = nothing_joined (f ∷ fs) (sym (blocks_are_partitions.whole (f ∷ fs)) ∙ ap joined e) tt
  where
    nothing_joined : (gs : List Fragment) → gs ≡ [] → IsThere gs → ⊥
    nothing_joined [] same there = there
    nothing_joined (g ∷ gs) same there = cc

ends_there : (columns : List Column) (h : List ℕ × Option Deletion × List RowColumn) (fs : List Fragment) → (says_head h ≡ false → IsThere fs)
    → blocks_of fs ≡ [] → says_head h ≡ true
ends_there columns h fs said e = elim (says_head h) as (λ b. says_head h ≡ b → b ≡ true) [
  | true ↦ λ is. refl
  | false ↦ λ is. absurd (no_blocks fs e (said is))
] refl

stream_partition : (version : Version) (columns : List Column) (h : List ℕ × Option Deletion × List RowColumn) (fs : List Fragment) → FitsHead version columns h
    → AllByRecursion (FitsFragment columns) fs → WellFormed columns (static_of h.2 ++ fs) → (says_head h ≡ false → IsThere fs)
    → AllByRecursion (λ b. length (body_bytes b) < 2 ^ 32) (blocks_of fs) → IsPartition version columns (h, blocks_of fs)
stream_partition version columns h fs head fit formed said short =
    let w = stream_whole columns h.2 fs fit formed in (
      head,
      are_stand columns (blocks_of fs) (says_head h) true nowhere (blocks_are_partitions.cut columns nowhere fs fit w.follow) short
          (ends_there columns h fs said) (λ there. refl)
          (ap (λ (xs : List Fragment). (past_all nowhere xs).force) (blocks_are_partitions.whole fs) ∙ w.closed),
    )

-- in each version they may be static columns of the table
pub statics_fit : (version : Version) (columns : List Column) (cs : List RowColumn) → FitStatics version columns cs → FitColumns is_static columns cs
unfolding IsStrictlySortedBy
statics_fit First columns cs none = subst (FitColumns is_static columns) (sym none) (record { ascend = tt; each = tt; few = omega arith })
statics_fit Second columns cs fit = fit

pub partitions_are_exact : PartitionsAreExact
partitions_are_exact = record {
  exact = partition_exact;
  stream = λ version columns p fit. whole_stream columns p.0.2 (joined p.1) (statics_fit version columns p.0.2 fit.0.2) (partition_whole version columns p fit);
  spelled = partition_spelled;
  whole = stream_partition;
}
