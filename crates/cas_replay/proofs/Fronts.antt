-- What was read before a fault is a front of what a whole reading gives.
use Rattle.std.proofs.Common.{◌≡◌, ℕ, zero, suc, eqb, cond, Bool, true, false, List, [], ◌∷◌, ◌++◌, length, filter, Result, Ok, Err, refl, sym, ap, subst, ◌∙◌, append_assoc}
use Rattle.std.proofs.lemmas.List.{append-nil}
use Rattle.std.proofs.lemmas.List.Elements.{filter-append}
use Rattle.cas_types.specs.declared.schema.TableSchema.{TableSchema}
use Rattle.cas_codec.specs.declared.fault.ReadFault.{ReadFault}
use Rattle.cas_codec.specs.declared.fault.ReadFault.TheVariants.{Bad}
use Rattle.cas_codec.specs.Reading.{Left, Read, ◌>>=◌, u8_at}
use Rattle.cas_codec.proofs.Exactness.{done}
use Rattle.cas_atoms.specs.declared.atom.Mutation.{Mutation}
use Rattle.cas_replay.specs.Reading.{next_at, records_at, block_at, blocks_at, header_at, segment_at, segment_of, in_segment, log_of, is_above, above_in}
use Rattle.cas_replay.specs.Replays.{IsFront, TookFront}
use Rattle.cas_replay.specs.Inner.Steps.{body_at, filled_at, gated_at, values_of}
use Rattle.cas_replay.proofs.Local.{followed}
use Rattle.cas_replay.proofs.Steps.{Comes, none_refused, by_body, by_gate as blocks_by_gate}

pub itself : (ms : List Mutation) → (rest : List Mutation) × (ms ≡ ms ++ rest)
itself ms = ([], sym (append-nil ms))

-- of readings

bind_front : {A B : Type 0} (all : B → List Mutation) (before : List Mutation) (r : Result A ReadFault) (f : A → Result B ReadFault) → ((x : A) → IsFront all before (f x))
    → IsFront all before (r >>= f)
bind_front all before (Ok x) f so = so x
bind_front all before (Err e) f so = tt

cond_front : {B E : Type 0} (all : B → List Mutation) (before : List Mutation) (b : Bool) (x y : Result B E) → IsFront all before x → IsFront all before y
    → IsFront all before (cond b x y)
cond_front all before true x y one other = one
cond_front all before false x y one other = other

-- a front of a front
pub less_front : {B E : Type 0} (all : B → List Mutation) (before more : List Mutation) (r : Result B E) → IsFront all (before ++ more) r → IsFront all before r
less_front all before more (Ok x) (rest, is) = (more ++ rest, is ∙ append_assoc before more rest)
less_front all before more (Err f) front = tt

pub values_front : (found : List Mutation) (r : Read (List Mutation)) → IsFront (λ (x : List Mutation × Left). x.0) found r → IsFront (λ ms. ms) found (values_of r)
values_front found (Ok x) front = front
values_front found (Err f) front = tt

module _ (tables : List TableSchema) (shards : ℕ) where
  pub records_front : (n : ℕ) (before : List Mutation) (left : Left) → IsFront (λ (x : List Mutation × Left). x.0) before (records_at tables shards n before left)
  unfolding records_at
  records_front zero before left = itself before
  records_front (suc n) before left =
      bind_front (λ (x : List Mutation × Left). x.0) before (next_at tables shards before left) (λ next. records_at tables shards n (before ++ next.0 ∷ []) next.1)
      (λ next. less_front (λ (x : List Mutation × Left). x.0) before (next.0 ∷ []) (records_at tables shards n (before ++ next.0 ∷ []) next.1)
      (records_front n (before ++ next.0 ∷ []) next.1))

  -- ---- a block

  filled_of : (found : List Mutation) (r : Read (List Mutation)) → IsFront (λ (x : List Mutation × Left). x.0) found r
      → IsFront (λ (x : List Mutation × Left). x.0) found (r >>= λ (x : List Mutation × Left). cond (eqb (length x.1.bytes) 0) (Ok x) (Err (Bad x.1.at)))
  filled_of found (Ok x) front = cond_front (λ (y : List Mutation × Left). y.0) found (eqb (length x.1.bytes) 0) (Ok x) (Err (Bad x.1.at)) front tt
  filled_of found (Err f) front = tt

  -- a front of a block's records is one of the block
  pub filled_front : (count : ℕ) (before found : List Mutation) (body : Left) → IsFront (λ (x : List Mutation × Left). x.0) found (records_at tables shards count before body)
      → IsFront (λ (x : List Mutation × Left). x.0) found (filled_at tables shards count before body)
  unfolding filled_at
  filled_front count before found body front = filled_of found (records_at tables shards count before body) front

  pub filled_refused : (count : ℕ) (before : List Mutation) (body : Left) (g : ReadFault) → records_at tables shards count before body ≡ Err g
      → filled_at tables shards count before body ≡ Err g
  unfolding filled_at
  filled_refused count before body g e =
      ap (λ (r : Read (List Mutation)). r >>= λ (x : List Mutation × Left). cond (eqb (length x.1.bytes) 0) (Ok x) (Err (Bad x.1.at))) e

  pub filled_is : (count : ℕ) (before all : List Mutation) (body left : Left) (b : Bool) → eqb (length left.bytes) 0 ≡ b → records_at tables shards count before body ≡ Ok (all, left)
      → filled_at tables shards count before body ≡ cond b (done (all, left)) (Err (Bad left.at))
  unfolding filled_at
  filled_is count before all body left b is e =
      ap (λ (r : Read (List Mutation)). r >>= λ (x : List Mutation × Left). cond (eqb (length x.1.bytes) 0) (done x) (Err (Bad x.1.at))) e
      ∙ ap (λ (c : Bool). cond c (done (all, left)) (Err (Bad left.at))) is

  abbrev refused_at : ℕ → Read (List Mutation)
  refused_at place = Err (Bad place)

  pub not_filled : (count : ℕ) (before all : List Mutation) (body left : Left) (place : ℕ) → eqb (length left.bytes) 0 ≡ false → place ≡ left.at
      → records_at tables shards count before body ≡ Ok (all, left) → filled_at tables shards count before body ≡ Err (Bad place)
  not_filled count before all body left place is there e = filled_is count before all body left false is e ∙ ap refused_at (sym there)

  then_front : (found : List Mutation) (after : Left) (r : Read (List Mutation)) → IsFront (λ (x : List Mutation × Left). x.0) found r
      → IsFront (λ (x : List Mutation × Left). x.0) found (r >>= λ (x : List Mutation × Left). done (x.0, after))
  then_front found after (Ok x) front = front
  then_front found after (Err f) front = tt

  block_front : (size : ℕ) (before : List Mutation) (left : Left) → IsFront (λ (x : List Mutation × Left). x.0) before (block_at tables shards size before left)
  block_front size before left =
      subst (λ (r : Read (List Mutation)). IsFront (λ (x : List Mutation × Left). x.0) before r) (sym (by_body tables shards size before left))
      (bind_front (λ (x : List Mutation × Left). x.0) before (body_at size left) (λ b. filled_at tables shards b.0.1 before b.0.0 >>= λ (x : List Mutation × Left). done (x.0, b.1))
      (λ b. then_front before b.1 (filled_at tables shards b.0.1 before b.0.0) (filled_front b.0.1 before before b.0.0 (records_front b.0.1 before b.0.0))))

  -- the same where the block stands behind an open gate
  pub part_front : (found : List Mutation) (after : Left) (r : Read (List Mutation)) → IsFront (λ (x : List Mutation × Left). x.0) found r
      → IsFront (λ (x : (Bool × List Mutation) × Left). x.0.1) found (r >>= λ (x : List Mutation × Left). Ok ((true, x.0), after))
  part_front found after (Ok x) front = front
  part_front found after (Err f) front = tt

  -- ---- a block behind its gate

  abbrev as_open : List Mutation × Left → Read (Bool × List Mutation)
  as_open block = Ok ((true, block.0), block.1)

  abbrev with_gate : ℕ → List Mutation → ℕ × Left → Read (Bool × List Mutation)
  with_gate size before gate = cond (eqb gate.0 1) (block_at tables shards size before gate.1 >>= as_open) (Ok ((false, before), gate.1))

  open_front : (found : List Mutation) (r : Read (List Mutation)) → IsFront (λ (x : List Mutation × Left). x.0) found r
      → IsFront (λ (x : (Bool × List Mutation) × Left). x.0.1) found (r >>= as_open)
  open_front found (Ok x) front = front
  open_front found (Err f) front = tt

  by_gate : (size : ℕ) (before : List Mutation) (left : Left) → gated_at tables shards size before left ≡ (u8_at left >>= with_gate size before)
  unfolding gated_at
  by_gate size before left = refl

  pub gated_front : (size : ℕ) (before : List Mutation) (left : Left) → IsFront (λ (x : (Bool × List Mutation) × Left). x.0.1) before (gated_at tables shards size before left)
  gated_front size before left =
      subst (λ (r : Read (Bool × List Mutation)). IsFront (λ (x : (Bool × List Mutation) × Left). x.0.1) before r) (sym (by_gate size before left))
      (bind_front (λ (x : (Bool × List Mutation) × Left). x.0.1) before (u8_at left) (with_gate size before)
      (λ gate. cond_front (λ (x : (Bool × List Mutation) × Left). x.0.1) before (eqb gate.0 1) (block_at tables shards size before gate.1 >>= as_open) (Ok ((false, before), gate.1))
      (open_front before (block_at tables shards size before gate.1) (block_front size before gate.1)) (itself before)))

  -- ---- blocks

  behind_block : (before : List Mutation) (after : List Mutation → Left → Read (List Mutation))
      → ((ms : List Mutation) (left : Left) → IsFront (λ (x : List Mutation × Left). x.0) ms (after ms left)) → (r : Read (List Mutation))
      → IsFront (λ (x : List Mutation × Left). x.0) before r → IsFront (λ (x : List Mutation × Left). x.0) before (r >>= λ (block : List Mutation × Left). after block.0 block.1)
  behind_block before after each (Ok x) (rest, is) =
      less_front (λ (y : List Mutation × Left). y.0) before rest (after x.0 x.1)
      (subst (λ (ms : List Mutation). IsFront (λ (y : List Mutation × Left). y.0) ms (after x.0 x.1)) is (each x.0 x.1))
  behind_block before after each (Err f) front = tt

  pub blocks_front : (n size : ℕ) (before : List Mutation) (left : Left) → IsFront (λ (x : List Mutation × Left). x.0) before (blocks_at tables shards n size before left)
  unfolding blocks_at
  blocks_front zero size before left = tt
  blocks_front (suc n) size before left =
      bind_front (λ (x : List Mutation × Left). x.0) before (u8_at left)
      (λ gate. cond (eqb gate.0 1) (block_at tables shards size before gate.1 >>= λ block. blocks_at tables shards n size block.0 block.1) (Ok (before, gate.1)))
      (λ gate. cond_front (λ (x : List Mutation × Left). x.0) before (eqb gate.0 1) (block_at tables shards size before gate.1 >>= λ block. blocks_at tables shards n size block.0 block.1)
      (Ok (before, gate.1))
      (behind_block before (λ ms l. blocks_at tables shards n size ms l) (λ ms l. blocks_front n size ms l) (block_at tables shards size before gate.1) (block_front size before gate.1))
      (itself before))

  abbrev on_gate : ℕ → ℕ → (Bool × List Mutation) × Left → Read (List Mutation)
  on_gate n size x = cond x.0.0 (blocks_at tables shards n size x.0.1 x.1) (Ok (x.0.1, x.1))

  pub step_front : (n size : ℕ) (found : List Mutation) (r : Read (Bool × List Mutation)) → IsFront (λ (x : (Bool × List Mutation) × Left). x.0.1) found r
      → IsFront (λ (x : List Mutation × Left). x.0) found (r >>= on_gate n size)
  step_front n size found (Ok x) (rest, is) =
      cond_front (λ (y : List Mutation × Left). y.0) found x.0.0 (blocks_at tables shards n size x.0.1 x.1) (Ok (x.0.1, x.1))
      (less_front (λ (y : List Mutation × Left). y.0) found rest (blocks_at tables shards n size x.0.1 x.1)
      (subst (λ (ms : List Mutation). IsFront (λ (y : List Mutation × Left). y.0) ms (blocks_at tables shards n size x.0.1 x.1)) is (blocks_front n size x.0.1 x.1))) (rest, is)
  step_front n size found (Err f) front = tt

  -- where the next block's front was read, a front of all that come was
  pub comes_front : (size : ℕ) (before found : List Mutation) (left : Left) (whole : Read (List Mutation)) → Comes tables shards size before left whole
      → IsFront (λ (x : (Bool × List Mutation) × Left). x.0.1) found (gated_at tables shards size before left) → IsFront (λ (x : List Mutation × Left). x.0) found whole
  comes_front size before found left whole comes front = each comes.fuel comes.is
    where
      none : (r : Read (List Mutation)) → blocks_at tables shards 0 size before left ≡ r → IsFront (λ (x : List Mutation × Left). x.0) found r
      none r is = subst (λ (y : Read (List Mutation)). IsFront (λ (x : List Mutation × Left). x.0) found y) (sym (none_refused tables shards size before left) ∙ is) tt

      each : (n : ℕ) → blocks_at tables shards n size before left ≡ whole → IsFront (λ (x : List Mutation × Left). x.0) found whole
      each zero is = none whole is
      each (suc n) is =
          subst (λ (y : Read (List Mutation)). IsFront (λ (x : List Mutation × Left). x.0) found y) (sym (blocks_by_gate tables shards size n before left) ∙ is)
          (step_front n size found (gated_at tables shards size before left) front)

  -- the same of the bytes at hand
  pub followed_front : (found : List Mutation) (rest : List ℕ) (r : Read (Bool × List Mutation)) → IsFront (λ (x : (Bool × List Mutation) × Left). x.0.1) found r
      → IsFront (λ (x : (Bool × List Mutation) × Left). x.0.1) found (followed rest r)
  followed_front found rest (Ok x) front = front
  followed_front found rest (Err f) front = tt

  -- ---- a segment

  as_value : (found : List Mutation) (r : Read (List Mutation)) → IsFront (λ (x : List Mutation × Left). x.0) found r
      → IsFront (λ ms. ms) found (r >>= λ (x : List Mutation × Left). Ok x.0)
  as_value found (Ok x) front = front
  as_value found (Err f) front = tt

  pub segment_front : (number : ℕ) (before : List Mutation) (file : List ℕ) → IsFront (λ ms. ms) before (segment_of tables shards number before file)
  unfolding segment_of segment_at
  segment_front number before file =
      as_value before (header_at number (record { bytes = file; at = 0 }) >>= λ (size : ℕ × Left). blocks_at tables shards (length size.1.bytes) size.0 before size.1)
      (bind_front (λ (x : List Mutation × Left). x.0) before (header_at number (record { bytes = file; at = 0 }))
      (λ (size : ℕ × Left). blocks_at tables shards (length size.1.bytes) size.0 before size.1) (λ size. blocks_front (length size.1.bytes) size.0 before size.1))

  -- ---- a log

  behind_one : (number : ℕ) (found : List Mutation) (others : List Mutation → Result (List Mutation) (ℕ × ReadFault)) → ((ms : List Mutation) → IsFront (λ x. x) ms (others ms))
      → (r : Result (List Mutation) ReadFault) → IsFront (λ ms. ms) found r → IsFront (λ ms. ms) found (in_segment number others r)
  behind_one number found others each (Ok ms) (rest, is) =
      less_front (λ x. x) found rest (others ms) (subst (λ (x : List Mutation). IsFront (λ y. y) x (others ms)) is (each ms))
  behind_one number found others each (Err f) front = tt

  log_front : (file : ℕ → List ℕ) (numbers : List ℕ) (before : List Mutation) → IsFront (λ ms. ms) before (log_of tables shards file numbers before)
  unfolding log_of
  log_front file [] before = itself before
  log_front file (number ∷ numbers) before =
      behind_one number before (log_of tables shards file numbers) (λ ms. log_front file numbers ms) (segment_of tables shards number before (file number))
      (segment_front number before (file number))

  pub behind_segment : (file : ℕ → List ℕ) (number : ℕ) (numbers : List ℕ) (found : List Mutation) (r : Result (List Mutation) ReadFault) → IsFront (λ ms. ms) found r
      → IsFront (λ ms. ms) found (in_segment number (log_of tables shards file numbers) r)
  behind_segment file number numbers found r front = behind_one number found (log_of tables shards file numbers) (λ ms. log_front file numbers ms) r front

-- of what was read before a fault, what is above its frontier is a front of all that is
pub above_front : (shards : ℕ) (frontiers : List ℕ) (took : List Mutation → Type 0) (found : List Mutation) (read : Result (List Mutation) (ℕ × ReadFault))
    → took (filter (is_above shards frontiers) found) → IsFront (λ ms. ms) found read → TookFront took (above_in shards frontiers read)
above_front shards frontiers took found (Ok all) handed (rest, is) =
    let above = is_above shards frontiers in
    (filter above found, handed, (filter above rest, ap (filter above) is ∙ filter-append above found rest))
above_front shards frontiers took found (Err f) handed front = (filter (is_above shards frontiers) found, handed, tt)
