-- The blocks of a partition, one after another.
use Rattle.std.proofs.Common.{◌≡◌, ℕ, zero, suc, ◌+◌, ◌<◌, ◌≤◌, Bool, true, false, List, [], ◌∷◌, ◌++◌, length, take, drop, get_or, ◌-◌, Option, None, Some, Result, Ok, Err, inl, inr, refl, sym, ap, subst, ◌∙◌, append_assoc, arith, length-append, length-take, length-drop}
use Rattle.std.specs.Prelude.{is_none}
use Rattle.std.specs.List.{flat_map}
use Rattle.std.proofs.lemmas.List.{append-nil, take_more}
use Rattle.cas_types.specs.declared.schema.Column.{Column}
use Rattle.cas_bounds.specs.declared.order.Ordered.{Ordered}
use Rattle.cas_atoms.specs.declared.atom.Atom.{Atom}
use Rattle.cas_codec.specs.Fields.{u32}
use Rattle.cas_codec.specs.Reading.{Left, Read, ◌>>=◌, bytes_at, bytes32_at}
use Rattle.cas_codec.specs.declared.fault.ReadFault.{ReadFault}
use Rattle.cas_codec.specs.declared.fault.ReadFault.TheVariants.{Short}
use Rattle.cas_codec.proofs.FieldLengths.{u32_long}
use Rattle.cas_streams.specs.Flat.{changes, at_end}
use Rattle.cas_streams.specs.declared.fragment.Fragment.{Fragment}
use Rattle.cas_facts.specs.Facts.{AreFactsSoFar}
use Rattle.cas_facts.specs.Told.{told}
use Rattle.cas_facts.specs.declared.facts.Tally.{Tally}
use Rattle.cas_fragments.specs.Spelling.{block_bytes}
use Rattle.cas_fragments.specs.Blocks.{Reached, past, past_all, is_full, blocks_bytes}
use Rattle.cas_fragments.specs.Laws.{joined}
use Rattle.cas_fragments.specs.Reading.{either_way, next_block_at, blocks_at}
use Rattle.cas_index.specs.declared.entries.BlockEntry.{BlockEntry}
use Rattle.cas_tables.specs.Places.{block_entries}
use Rattle.cas_blocks.specs.Reading.{left_at}
use Rattle.cas_blocks.proofs.Bodies.{u32_lacks}
use Rattle.cas_blocks.proofs.NextBlock.{next_none}
use Rattle.cas_blocks.proofs.Parts.{end_is}
use Rattle.cas_sstread.specs.Loading.{IsBadAt}
use Rattle.cas_sstread.specs.declared.fault.TableFault.{TableFault}
use Rattle.cas_sstread.specs.declared.fault.TableFault.TheVariants as table_fault
use Rattle.cas_verify.specs.Inner.Ends.{IsFault, Ends}
use Rattle.cas_verify.specs.Inner.Walks.{reached, Sees, Goes, IsOver, Steps, Went}
use Rattle.cas_verify.specs.declared.blocks.Walk.{Walk}
use Rattle.cas_verify.proofs.BodyLaws.{fault_then}

-- ---- faults

-- a fault of the first step is one of all
pub bad_then : {A B : Type 0} (r : Result A ReadFault) (f : A → Result B ReadFault) (at : ℕ) → IsBadAt r at → IsBadAt (r >>= f) at
bad_then r f at (inl e) = inl (ap (λ s. s >>= f) e)
bad_then r f at (inr e) = inr (ap (λ s. s >>= f) e)

pub bad_is : {A : Type 0} (r s : Result A ReadFault) (at : ℕ) → r ≡ s → IsBadAt r at → IsBadAt s at
bad_is r s at e (inl is) = inl (sym e ∙ is)
bad_is r s at e (inr is) = inr (sym e ∙ is)

-- ---- what was seen

pub sees_both : (s t u : Tally) (xs ys : List Atom) → Sees s xs t → Sees t ys u → Sees s (xs ++ ys) u
sees_both s t u xs ys a b A is = subst (λ (B : List Atom). AreFactsSoFar B u.facts) (append_assoc A xs ys) (b (A ++ xs) (a A is))

pub sees_none : (s t : Tally) → t ≡ s → Sees s [] t
sees_none s t e A is = subst (λ (B : List Atom). AreFactsSoFar B t.facts) (sym (append-nil A)) (subst (λ (x : Tally). AreFactsSoFar A x.facts) (sym e) is)

pub flat_both : {A B : Type 0} (f : A → List B) (xs ys : List A) → flat_map f (xs ++ ys) ≡ flat_map f xs ++ flat_map f ys
flat_both f [] ys = refl
flat_both f (x ∷ xs) ys = ap (λ t. f x ++ t) (flat_both f xs ys) ∙ sym (append_assoc (f x) (flat_map f xs) (flat_map f ys))

pub flat_take : {A B : Type 0} (f : A → List B) (xs : List A) (i : ℕ) (x : A) → i < length xs → get_or xs i x ≡ x
    → flat_map f (take (i + 1) xs) ≡ flat_map f (take i xs) ++ f x
flat_take f xs i x more is =
    ap (flat_map f) (take_more xs i x more ∙ ap (λ y. take i xs ++ y ∷ []) is) ∙ flat_both f (take i xs) (x ∷ []) ∙ ap (λ t. flat_map f (take i xs) ++ t) (append-nil (f x))

pub past_both : (r : Reached) (xs ys : List Fragment) → past_all r (xs ++ ys) ≡ past_all (past_all r xs) ys
past_both r [] ys = refl
past_both r (x ∷ xs) ys = past_both (past r x) xs ys

-- ---- a turn

pub left_shorter : (file : List ℕ) (end p q n : ℕ) → p < q → length (left_at file end p).bytes ≤ suc n → length (left_at file end q).bytes ≤ n
left_shorter file end p q n less few =
    omega (arith, length-take (end - p) (drop p file), length-drop p file, length-take (end - q) (drop q file), length-drop q file)

module _ (order : List Ordered) (columns : List Column) where
  abbrev Others : ℕ → Reached → Option (List Fragment) × Left → Read (List (List Fragment))
  Others n r next =
      either_way next.0
      (λ b. blocks_at order columns n (is_none (past_all r b).force) (is_full b) (past_all r b) next.1 >>= λ others. Ok (b ∷ others.0, others.1))
      (Ok ([], next.1))

  turn : (n : ℕ) (ends goes_on : Bool) (r : Reached) (left : Left)
      → blocks_at order columns (suc n) ends goes_on r left ≡ (next_block_at order columns ends goes_on r left >>= Others n r)
  unfolding blocks_at
  turn n ends goes_on r left = refl

  dry : (ends goes_on : Bool) (r : Reached) (left : Left) → blocks_at order columns 0 ends goes_on r left ≡ Err (Short left.at)
  unfolding blocks_at
  dry ends goes_on r left = refl

  lacks : (left : Left) → length left.bytes ≤ 0 → bytes32_at left ≡ Err (Short left.at)
  unfolding bytes32_at
  lacks left none = ap (λ r. r >>= λ (count : ℕ × Left). bytes_at left.at count.0 count.1) (u32_lacks left (omega arith))

  nothing_left : (ends goes_on : Bool) (r : Reached) (left : Left) → length left.bytes ≤ 0 → next_block_at order columns ends goes_on r left ≡ Err (Short left.at)
  nothing_left ends goes_on r left none = next_none order columns ends goes_on r left (Short left.at) (lacks left none)

  module _ (end : ℕ) (file : List ℕ) where
    abbrev NextOf : Walk → Read (Option (List Fragment))
    NextOf w = next_block_at order columns w.ends w.goes_on (reached w) (left_at file end w.place)

    abbrev BlocksOf : ℕ → Walk → Read (List (List Fragment))
    BlocksOf n w = blocks_at order columns n w.ends w.goes_on (reached w) (left_at file end w.place)

    no_next : (w : Walk) → length (left_at file end w.place).bytes ≤ 0 → NextOf w ≡ Err (Short w.place)
    no_next w none = nothing_left w.ends w.goes_on (reached w) (left_at file end w.place) none

    -- the next block is the bad one
    pub turn_bad : (n at : ℕ) (w : Walk) → length (left_at file end w.place).bytes ≤ n → IsBadAt (NextOf w) at → IsBadAt (BlocksOf n w) at
    turn_bad zero at w few bad =
        bad_is (Err (Short w.place)) (BlocksOf 0 w) at (sym (dry w.ends w.goes_on (reached w) (left_at file end w.place)))
        (same (bad_is (NextOf w) (Err (Short w.place)) at (no_next w few) bad))
      where
        same : IsBadAt (let r : Read (Option (List Fragment)) = Err (Short w.place) in r) at → IsBadAt (let r : Read (List (List Fragment)) = Err (Short w.place) in r) at
        same (inl e) = inl (ap (λ (r : Read (Option (List Fragment))). r >>= λ p. Ok ([], p.1)) e)
        same (inr e) = inr (ap (λ (r : Read (Option (List Fragment))). r >>= λ p. Ok ([], p.1)) e)
    turn_bad (suc n) at w few bad =
        bad_is (NextOf w >>= Others n (reached w)) (BlocksOf (suc n) w) at (sym (turn n w.ends w.goes_on (reached w) (left_at file end w.place)))
        (bad_then (NextOf w) (Others n (reached w)) at bad)

    -- the end
    pub turn_over : (n : ℕ) (w v : Walk) → length (left_at file end w.place).bytes ≤ n → NextOf w ≡ Ok (None, left_at file end v.place) → IsOver w v
        → (p : List (List Fragment) × Left) × (BlocksOf n w ≡ Ok p) × Went end file w v p
    turn_over zero w v few next over = absurd (let none = no_next w few in cc)
    turn_over (suc n) w v few next over = (
      ([], left_at file end v.place),
      turn n w.ends w.goes_on (reached w) (left_at file end w.place) ∙ ap (λ r. r >>= Others n (reached w)) next,
      record {
        left = refl;
        place = over.place ∙ ap (λ n. w.place + n) (sym (u32_long 0));
        entries = over.entries ∙ sym (append-nil w.entries.items);
        seen = sees_none w.seen v.seen over.seen;
        closed = over.closed;
      },
    )

    -- a block further
    entries_then : (w v : Walk) (fs : List Fragment) (bs : List (List Fragment)) (es : List BlockEntry) → Goes w v fs
        → es ≡ v.entries.items ++ block_entries v.place v.force bs → es ≡ w.entries.items ++ block_entries w.place w.force (fs ∷ bs)
    entries_then w v [] bs es goes e = absurd goes.some
    entries_then w v (f ∷ fs) bs es goes e =
        let one : List BlockEntry = block_entries w.place w.force ((f ∷ fs) ∷ []) in
        let force : v.force ≡ at_end w.force (changes (f ∷ fs)) =
        ap (λ (r : Reached). r.force) goes.reached_is ∙ sym (end_is (reached w) (f ∷ fs)) in
        e ∙ ap (λ t. t ++ block_entries v.place v.force bs) goes.entries
        ∙ append_assoc w.entries.items one (block_entries v.place v.force bs)
        ∙ ap (λ p. w.entries.items ++ (one ++ block_entries p v.force bs)) goes.place
        ∙ ap (λ d. w.entries.items ++ (one ++ block_entries (w.place + length (block_bytes (f ∷ fs))) d bs)) force

    went_then : (w v x : Walk) (fs : List Fragment) (bs : List (List Fragment)) (left : Left) → Goes w v fs → Went end file v x (bs, left)
        → Went end file w x (fs ∷ bs, left)
    went_then w v x fs bs left goes went = record {
      left = went.left;
      place = omega (
        arith,
        went.place,
        goes.place,
        ap length (append_assoc (block_bytes fs) (flat_map block_bytes bs) (u32 0)),
        length-append (block_bytes fs) (blocks_bytes bs),
      );
      entries = entries_then w v fs bs x.entries.items goes went.entries;
      seen = subst (λ (atoms : List Atom). Sees w.seen atoms x.seen) (sym (flat_both told fs (joined bs)))
          (sees_both w.seen v.seen x.seen (flat_map told fs) (flat_map told (joined bs)) goes.seen went.seen);
      closed = ap (λ (r : Reached). r.force) (past_both (reached w) fs (joined bs) ∙ ap (λ (r : Reached). past_all r (joined bs)) (sym goes.reached_is)) ∙ went.closed;
    }

    pub turn_more : (n : ℕ) (w v : Walk) (fs : List Fragment) → length (left_at file end w.place).bytes ≤ n → w.place < v.place
        → NextOf w ≡ Ok (Some fs, left_at file end v.place) → Goes w v fs
        → (m : ℕ) × (length (left_at file end v.place).bytes ≤ m) × ((number : ℕ) (r : Result (Unit {0}) TableFault) (x : Walk)
        → Ends (λ (u : Unit {0}). Went end file v x) number r (BlocksOf m v) → Ends (λ (u : Unit {0}). Went end file w x) number r (BlocksOf n w))
    turn_more zero w v fs few ahead next goes = absurd (let none = no_next w few in cc)
    turn_more (suc m) w v fs few ahead next goes = (m, left_shorter file end w.place v.place m ahead few, go)
      where
        here : BlocksOf (suc m) w ≡ (BlocksOf m v >>= λ others. Ok (fs ∷ others.0, others.1))
        here =
            turn m w.ends w.goes_on (reached w) (left_at file end w.place) ∙ ap (λ r. r >>= Others m (reached w)) next
            ∙ ap (λ r. r >>= λ (others : List (List Fragment) × Left). Ok (fs ∷ others.0, others.1))
            (λ i. blocks_at order columns m (sym goes.ends i) (sym goes.goes_on i) (sym goes.reached_is i) (left_at file end v.place))

        go : (number : ℕ) (r : Result (Unit {0}) TableFault) (x : Walk)
            → Ends (λ (u : Unit {0}). Went end file v x) number r (BlocksOf m v) → Ends (λ (u : Unit {0}). Went end file w x) number r (BlocksOf (suc m) w)
        go number (Ok u) x is = (
          (fs ∷ is.0.0, is.0.1),
          here ∙ ap (λ r. r >>= λ (others : List (List Fragment) × Left). Ok (fs ∷ others.0, others.1)) is.1,
          went_then w v x fs is.0.0 is.0.1 goes is.2,
        )
        go number (Err table_fault.ReadFault) x is = tt
        go number (Err (table_fault.BadBlock k at)) x is = (
          is.0,
          bad_is (BlocksOf m v >>= λ others. Ok (fs ∷ others.0, others.1)) (BlocksOf (suc m) w) at (sym here)
              (bad_then (BlocksOf m v) (λ others. Ok (fs ∷ others.0, others.1)) at is.1),
        )
        go number (Err table_fault.Mem) x is = tt

    -- ---- by what a step answers
    pub turn_refused : (n number : ℕ) (w : Walk) (f : TableFault) → length (left_at file end w.place).bytes ≤ n → IsFault number f (NextOf w) → IsFault number f (BlocksOf n w)
    turn_refused n number w f few is = fault_then number f (NextOf w) (BlocksOf n w) (λ at bad. turn_bad n at w few bad) is

    pub turn_stops : (n number : ℕ) (w v : Walk) (more : Bool) → more ≡ false → length (left_at file end w.place).bytes ≤ n
        → Ends (Steps end file w v) number (Ok more) (NextOf w) → (p : List (List Fragment) × Left) × (BlocksOf n w ≡ Ok p) × Went end file w v p
    turn_stops n number w v true stops few is = absurd cc
    turn_stops n number w v false stops few is = go is.0.0 is.0.1 is.1 is.2
      where
        go : (o : Option (List Fragment)) (left : Left) → NextOf w ≡ Ok (o, left) → Steps end file w v false (o, left)
            → (p : List (List Fragment) × Left) × (BlocksOf n w ≡ Ok p) × Went end file w v p
        go None left next steps = turn_over n w v few (next ∙ ap (λ (l : Left). Ok (None, l)) steps.left) steps.step
        go (Some fs) left next steps = absurd steps.step

    pub turn_goes : (n number : ℕ) (w v : Walk) (more : Bool) → more ≡ true → length (left_at file end w.place).bytes ≤ n → w.place < v.place
        → Ends (Steps end file w v) number (Ok more) (NextOf w)
        → (m : ℕ) × (length (left_at file end v.place).bytes ≤ m) × ((k : ℕ) (r : Result (Unit {0}) TableFault) (x : Walk)
        → Ends (λ (u : Unit {0}). Went end file v x) k r (BlocksOf m v) → Ends (λ (u : Unit {0}). Went end file w x) k r (BlocksOf n w))
    turn_goes n number w v false goes few ahead is = absurd cc
    turn_goes n number w v true goes few ahead is = go is.0.0 is.0.1 is.1 is.2
      where
        go : (o : Option (List Fragment)) (left : Left) → NextOf w ≡ Ok (o, left) → Steps end file w v true (o, left)
            → (m : ℕ) × (length (left_at file end v.place).bytes ≤ m) × ((k : ℕ) (r : Result (Unit {0}) TableFault) (x : Walk)
            → Ends (λ (u : Unit {0}). Went end file v x) k r (BlocksOf m v) → Ends (λ (u : Unit {0}). Went end file w x) k r (BlocksOf n w))
        go None left next steps = absurd steps.step
        go (Some fs) left next steps = turn_more n w v fs few ahead (next ∙ ap (λ (l : Left). Ok (Some fs, l)) steps.left) steps.step
