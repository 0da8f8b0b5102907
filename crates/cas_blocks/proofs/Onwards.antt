-- The fragments of a partition's blocks, block by block.
use Rattle.std.proofs.Common.{◌≡◌, ℕ, zero, suc, ◌+◌, ◌-◌, ◌≤◌, Bool, true, false, cond, eqb, ltb, List, [], ◌∷◌, ◌++◌, length, take, drop, Option, None, Some, Result, Ok, Err, refl, sym, ap, ◌∙◌, arith, length-drop}
use Rattle.std.specs.Prelude.{is_none}
use Rattle.std.specs.Option.{option_map}
use Rattle.std.proofs.lemmas.Bool.{ltb-false}
use Rattle.cas_types.specs.declared.schema.Column.{Column}
use Rattle.cas_bounds.specs.declared.order.Ordered.{Ordered}
use Rattle.cas_codec.specs.Reading.{Left, Read, ◌>>=◌, bytes_at, unsigned_at, u32_at, bytes32_at}
use Rattle.cas_codec.specs.declared.fault.ReadFault.{ReadFault}
use Rattle.cas_codec.specs.declared.fault.ReadFault.TheVariants.{Short, Bad}
use Rattle.cas_codec.proofs.Exactness.{bind_ok, test_ok, ok_is, read_left}
use Rattle.std.specs.Int.{w32, from_be_bytes}
use Rattle.cas_streams.specs.declared.fragment.Fragment.{Fragment}
use Rattle.cas_fragments.specs.Blocks.{Reached, past_all, is_full}
use Rattle.cas_fragments.specs.Reading.{body_at, either_way, next_block_at, blocks_at}
use Rattle.cas_blocks.specs.Reading.{fragments_in, fragments_on}
use Rattle.cas_blocks.proofs.Bodies.{u32_lacks}
use Rattle.cas_blocks.proofs.NextBlock.{next_none}

-- ---- each reading makes what is left shorter

bytes_shorter : (place n : ℕ) (left : Left) (p : List ℕ × Left) → bytes_at place n left ≡ Ok p → length p.1.bytes + n ≤ length left.bytes
unfolding bytes_at
bytes_shorter place n left p e = go (ltb (length left.bytes) n) refl e
  where
    go : (b : Bool) → ltb (length left.bytes) n ≡ b
        → cond {A = Read (List ℕ)} b (Err (Short place)) (Ok (take n left.bytes, read_left (drop n left.bytes) (left.at + n))) ≡ Ok p
        → length p.1.bytes + n ≤ length left.bytes
    go true t is = absurd cc
    go false t is =
        let long : n ≤ length left.bytes = ltb-false (length left.bytes) n t in
        let same = ok_is (take n left.bytes, read_left (drop n left.bytes) (left.at + n)) p is in
        omega (arith, ap (λ (q : List ℕ × Left). length q.1.bytes) same, length-drop n left.bytes)

body_shorter : (left : Left) (p : List ℕ × Left) → bytes32_at left ≡ Ok p → length p.1.bytes + 4 ≤ length left.bytes
unfolding bytes32_at u32_at unsigned_at
body_shorter left p e =
    let a = bind_ok (u32_at left) (λ (count : ℕ × Left). bytes_at left.at count.0 count.1) p e in
    let b = bind_ok (bytes_at left.at 4 left) (λ (front : List ℕ × Left). Ok (from_be_bytes w32 front.0, front.1)) a.0 a.1 in
    let same : length b.0.1.bytes ≡ length a.0.1.bytes = ap (λ (q : ℕ × Left). length q.1.bytes) (ok_is (from_be_bytes w32 b.0.0, b.0.1) a.0 b.2) in
    omega (arith, bytes_shorter left.at 4 left b.0 b.1, bytes_shorter left.at a.0.0 a.0.1 p a.2)

if_ok : {A : Type 0} (b : Bool) (d : ReadFault) (r : Result A ReadFault) (y : A) → cond b r (Err d) ≡ Ok y → r ≡ Ok y
if_ok true d r y e = e
if_ok false d r y e = absurd cc

which : {A : Type 0} (b : Bool) (x z : Result A ReadFault) (y : A) (P : Type 0) → cond b x z ≡ Ok y → (x ≡ Ok y → P) → (z ≡ Ok y → P) → P
which true x z y P e f g = f e
which false x z y P e f g = g e

module _ (order : List Ordered) (columns : List Column) where
  next_shorter : (ends goes_on : Bool) (r : Reached) (left : Left) (p : Option (List Fragment) × Left) → next_block_at order columns ends goes_on r left ≡ Ok p
      → length p.1.bytes + 4 ≤ length left.bytes
  unfolding next_block_at
  next_shorter ends goes_on r left p e =
      let b = bind_ok (bytes32_at left) (λ (body : List ℕ × Left). cond {A = Read (Option (List Fragment))} (eqb (length body.0) 0)
      (cond {A = Read (Option (List Fragment))} ends (Ok (None, body.1)) (Err (Bad left.at)))
      (cond {A = Read (Option (List Fragment))} goes_on (body_at order columns r (read_left body.0 (left.at + 4)) >>= λ (block : List Fragment × Left). Ok (Some block.0, body.1))
      (Err (Bad left.at)))) p e in
      let less = body_shorter left b.0 b.1 in
      let Goal : Type 0 = length p.1.bytes + 4 ≤ length left.bytes in
      which (eqb (length b.0.0) 0) _ _ p Goal b.2
      (λ is. let same = ap (λ (q : Option (List Fragment) × Left). length q.1.bytes) ((test_ok ends (Bad left.at) (None, b.0.1) p is).1) in omega arith)
      (λ is. let q = bind_ok (body_at order columns r (read_left b.0.0 (left.at + 4))) (λ (block : List Fragment × Left). Ok (Some block.0, b.0.1)) p
      (if_ok goes_on (Bad left.at) _ p is) in
      let same = ap (λ (q : Option (List Fragment) × Left). length q.1.bytes) (ok_is (Some q.0.0, b.0.1) p q.2) in omega arith)

  nothing_left : (ends goes_on : Bool) (r : Reached) (left : Left) → length left.bytes ≡ 0 → next_block_at order columns ends goes_on r left ≡ Err (Short left.at)
  unfolding bytes32_at
  nothing_left ends goes_on r left none = next_none order columns ends goes_on r left (Short left.at) (lacks none)
    where
      lacks : length left.bytes ≡ 0 → bytes32_at left ≡ Err (Short left.at)
      lacks none = ap (λ r. r >>= λ (count : ℕ × Left). bytes_at left.at count.0 count.1) (u32_lacks left (omega arith))

  -- what is read behind a block, by so many turns
  abbrev Behind : ℕ → List Fragment → Reached → Left → Read (List (List Fragment))
  Behind n b r left = blocks_at order columns n (is_none (past_all r b).force) (is_full b) (past_all r b) left >>= λ others. Ok (b ∷ others.0, others.1)

  abbrev Others : ℕ → Reached → Option (List Fragment) × Left → Read (List (List Fragment))
  Others n r next = either_way next.0 (λ b. Behind n b r next.1) (Ok ([], next.1))

  one_turn : (n : ℕ) (ends goes_on : Bool) (r : Reached) (left : Left)
      → blocks_at order columns (suc n) ends goes_on r left ≡ (next_block_at order columns ends goes_on r left >>= Others n r)
  unfolding blocks_at
  one_turn n ends goes_on r left = refl

  no_turn : (ends goes_on : Bool) (r : Reached) (left : Left) → blocks_at order columns 0 ends goes_on r left ≡ Err (Short left.at)
  unfolding blocks_at
  no_turn ends goes_on r left = refl

  -- more turns than there are bytes make no difference
  enough : (n m : ℕ) (ends goes_on : Bool) (r : Reached) (left : Left) → length left.bytes ≤ n → length left.bytes ≤ m
      → blocks_at order columns n ends goes_on r left ≡ blocks_at order columns m ends goes_on r left
  enough zero zero ends goes_on r left a b = refl
  enough zero (suc m) ends goes_on r left a b =
      no_turn ends goes_on r left
      ∙ sym (one_turn m ends goes_on r left ∙ ap (λ x. x >>= Others m r) (nothing_left ends goes_on r left (omega arith)))
  enough (suc n) zero ends goes_on r left a b =
      one_turn n ends goes_on r left ∙ ap (λ x. x >>= Others n r) (nothing_left ends goes_on r left (omega arith)) ∙ sym (no_turn ends goes_on r left)
  enough (suc n) (suc m) ends goes_on r left a b =
      one_turn n ends goes_on r left
      ∙ each (next_block_at order columns ends goes_on r left) refl (λ p is block.
      let less = next_shorter ends goes_on r left p is in
      enough n m (is_none (past_all r block).force) (is_full block) (past_all r block) p.1 (omega arith) (omega arith))
      ∙ sym (one_turn m ends goes_on r left)
    where
      each : (x : Read (Option (List Fragment))) → next_block_at order columns ends goes_on r left ≡ x
          → ((p : Option (List Fragment) × Left) → next_block_at order columns ends goes_on r left ≡ Ok p → (block : List Fragment)
          → blocks_at order columns n (is_none (past_all r block).force) (is_full block) (past_all r block) p.1
          ≡ blocks_at order columns m (is_none (past_all r block).force) (is_full block) (past_all r block) p.1)
          → (x >>= Others n r) ≡ (x >>= Others m r)
      each (Err f) is later = refl
      each (Ok (None, rest)) is later = refl
      each (Ok (Some block, rest)) is later =
          ap (λ (y : Read (List (List Fragment))). y >>= λ (others : List (List Fragment) × Left). Ok (block ∷ others.0, others.1)) (later (Some block, rest) is block)

  -- ---- fragments

  put_front : (b : List Fragment) (x : Read (List (List Fragment)))
      → fragments_in (x >>= λ (others : List (List Fragment) × Left). Ok (b ∷ others.0, others.1)) ≡ option_map (λ fs. b ++ fs) (fragments_in x)
  put_front b (Ok p) = refl
  put_front b (Err f) = refl

  -- the fragments of the next block, and those behind it
  pub on_block : (ends goes_on : Bool) (r : Reached) (left new : Left) (b : List Fragment) → next_block_at order columns ends goes_on r left ≡ Ok (Some b, new)
      → fragments_on order columns ends goes_on r left
      ≡ option_map (λ fs. b ++ fs) (fragments_on order columns (is_none (past_all r b).force) (is_full b) (past_all r b) new)
  unfolding fragments_on
  on_block ends goes_on r left new b is =
      let less = next_shorter ends goes_on r left (Some b, new) is in
      let more : length left.bytes ≡ suc (length left.bytes - 1) = omega arith in
      ap (λ (n : ℕ). fragments_in (blocks_at order columns n ends goes_on r left)) more
      ∙ ap fragments_in (one_turn (length left.bytes - 1) ends goes_on r left ∙ ap (λ x. x >>= Others (length left.bytes - 1) r) is)
      ∙ put_front b (blocks_at order columns (length left.bytes - 1) (is_none (past_all r b).force) (is_full b) (past_all r b) new)
      ∙ ap (λ x. option_map (λ fs. b ++ fs) (fragments_in x))
      (enough (length left.bytes - 1) (length new.bytes) (is_none (past_all r b).force) (is_full b) (past_all r b) new (omega arith) (omega arith))

  some_bytes : (ends goes_on : Bool) (r : Reached) (left : Left) (p : Option (List Fragment) × Left) → next_block_at order columns ends goes_on r left ≡ Ok p
      → length left.bytes ≡ suc (length left.bytes - 1)
  some_bytes ends goes_on r left p is = let less = next_shorter ends goes_on r left p is in omega arith

  -- none at the end
  pub on_end : (ends goes_on : Bool) (r : Reached) (left new : Left) → next_block_at order columns ends goes_on r left ≡ Ok (None, new)
      → fragments_on order columns ends goes_on r left ≡ Some []
  unfolding fragments_on
  on_end ends goes_on r left new is =
      ap (λ (n : ℕ). fragments_in (blocks_at order columns n ends goes_on r left)) (some_bytes ends goes_on r left (None, new) is)
      ∙ ap fragments_in (one_turn (length left.bytes - 1) ends goes_on r left ∙ ap (λ x. x >>= Others (length left.bytes - 1) r) is)

  -- nor where what stands there is bad
  pub on_bad : (ends goes_on : Bool) (r : Reached) (left : Left) (f : ReadFault) → next_block_at order columns ends goes_on r left ≡ Err f
      → fragments_on order columns ends goes_on r left ≡ None
  unfolding fragments_on
  on_bad ends goes_on r left f is = go (length left.bytes)
    where
      go : (n : ℕ) → fragments_in (blocks_at order columns n ends goes_on r left) ≡ None
      go zero = ap fragments_in (no_turn ends goes_on r left)
      go (suc n) = ap fragments_in (one_turn n ends goes_on r left ∙ ap (λ x. x >>= Others n r) is)
