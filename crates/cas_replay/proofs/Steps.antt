-- A segment is read block by block: of the bytes at hand a block gives what it gives of the whole file.
use Rattle.std.proofs.Common.{◌≡◌, inl, inr, ⊎_elim, ℕ, zero, suc, ◌+◌, ◌-◌, ◌^◌, ◌<◌, ◌≤◌, leb, ltb, eqb, cond, Bool, true, false, List, ◌++◌, length, take, drop, Option, None, Some, Ok, Err, refl, sym, ap, ◌∙◌, arith, length-drop, take-append-drop, codes, bytes_eq}
use Rattle.std.proofs.lemmas.Bool.{cases_Bool, cases_eq, eq-eqb, leb-true}
use Rattle.std.proofs.lemmas.Bool.Decides.{nat_tests}
use Rattle.std.proofs.lemmas.List.{drop-append-le, drop-drop, drop_all, drop-take}
use Rattle.std.specs.Int.{is_in_range}
use Rattle.cas_types.specs.declared.schema.TableSchema.{TableSchema}
use Rattle.cas_codec.specs.declared.fault.ReadFault.{ReadFault}
use Rattle.cas_codec.specs.declared.fault.ReadFault.TheVariants.{Bad, Short}
use Rattle.cas_codec.specs.Reading.{Left, Read, ◌>>=◌, checked, bytes_at, unsigned_at, u8_at, u32_at, u64_at}
use Rattle.cas_codec.proofs.Exactness.{bind_ok, test_ok, ok_is, done, read_left}
use Rattle.cas_atoms.specs.declared.atom.Mutation.{Mutation}
use Rattle.cas_files.specs.Ahead.{AreNext, AreEnough}
use Rattle.cas_replay.specs.Reading.{length_at, records_at, block_at, blocks_at, header_at}
use Rattle.cas_replay.specs.Inner.Steps.{opened_at, body_at, part_at, filled_at, gated_at, left_of, HasBlock}
use Rattle.cas_replay.proofs.Local.{followed, followed_nothing, bind_followed, cond_followed, Takes, bytes_take, checked_take, both_take, u8_takes, u32_takes, u64_takes}

-- ---- the header

pub header_takes : (segment : ℕ) → Takes 24 (header_at segment)
unfolding header_at
header_takes segment =
    both_take 8 16 (λ left. checked (λ w. bytes_eq w (codes "CASSLOG1")) (λ l. bytes_at l.at 8 l) left)
    (λ word left. checked (λ n. eqb n segment) u64_at left >>= λ named. checked (is_in_range 4096 (2 ^ 25)) u64_at named.1)
    (checked_take 8 (λ w. bytes_eq w (codes "CASSLOG1")) (λ l. bytes_at l.at 8 l) (bytes_take (λ at. at) 8))
    (λ word. both_take 8 8 (λ left. checked (λ n. eqb n segment) u64_at left) (λ named left. checked (is_in_range 4096 (2 ^ 25)) u64_at left)
    (checked_take 8 (λ n. eqb n segment) u64_at u64_takes)
    (λ named. checked_take 8 (is_in_range 4096 (2 ^ 25)) u64_at u64_takes))

-- ---- a block

length_takes : (size at : ℕ) → Takes 4 (checked (λ long. leb (at + long + 9) size) u32_at)
length_takes size at = checked_take 4 (λ long. leb (at + long + 9) size) u32_at u32_takes

abbrev behind_gate : ℕ → ℕ × Left → Read (Option ℕ)
behind_gate size gate = cond (eqb gate.0 1) (length_at size gate.1 >>= λ long. Ok (Some long.0, long.1)) (Ok (None, gate.1))

pub opened_again : (size : ℕ) (front rest : List ℕ) (at : ℕ) → 5 ≤ length front
    → opened_at size (read_left (front ++ rest) at) ≡ followed rest (opened_at size (read_left front at))
unfolding opened_at length_at
opened_again size front rest at enough =
    ap (λ (r : Read ℕ). r >>= behind_gate size) (u8_takes.again front rest at (omega (arith, enough)))
    ∙ bind_followed (u8_at (read_left front at)) rest (behind_gate size) (λ gate l e.
    let f = u8_takes.left (read_left front at) l gate e in
    let long : length l.bytes ≡ length front - 1 = ap (λ (y : Left). length y.bytes) f.1 ∙ length-drop 1 front in
    cond_followed (eqb gate 1) rest (length_at size l >>= λ long. Ok (Some long.0, long.1)) (Ok (None, l))
    (length_at size (read_left (l.bytes ++ rest) l.at) >>= λ long. Ok (Some long.0, long.1)) (Ok (None, read_left (l.bytes ++ rest) l.at))
    (ap (λ (r : Read ℕ). r >>= λ long. Ok (Some long.0, long.1)) ((length_takes size l.at).again l.bytes rest l.at (omega (arith, enough, long)))
    ∙ bind_followed (length_at size l) rest (λ long. Ok (Some long.0, long.1)) (λ x after is. refl))
    refl)

abbrev Found : Type 0
Found = Option ℕ × Left

abbrev number_of : Option ℕ → ℕ
number_of None = 0
number_of (Some n) = n

abbrev found_length : ℕ × Left → Read (Option ℕ)
found_length long = Ok (Some long.0, long.1)

some_same : (a b : ℕ) (l m : Left) → found_length (a, l) ≡ found_length (b, m) → (a ≡ b) × (l ≡ m)
some_same a b l m e =
    let same : (Some a, l) ≡ (Some b, m) = ok_is {A = Found} (Some a, l) (Some b, m) e in
    (ap (λ (y : Found). number_of y.0) same, ap (λ (y : Found). y.1) same)

abbrev is_some : Option ℕ → Bool
is_some None = false
is_some (Some n) = true

some_none : (a : ℕ) (l m : Left) → found_length (a, l) ≡ done {A = Found} (None, m) → true ≡ false
some_none a l m e = ap (λ (y : Found). is_some y.0) (ok_is {A = Found} (Some a, l) (None, m) e)

none_some : (b : ℕ) (l m : Left) → done {A = Found} (None, l) ≡ found_length (b, m) → false ≡ true
none_some b l m e = ap (λ (y : Found). is_some y.0) (ok_is {A = Found} (None, l) (Some b, m) e)

-- where the gate is open, its length is that of the block
is_open : (size long : ℕ) (left after : Left) → opened_at size left ≡ Ok (Some long, after)
    → (gate : Left) × (u8_at left ≡ Ok (1, gate)) × (length_at size gate ≡ Ok (long, after))
unfolding opened_at
is_open size long left after e =
    let p = bind_ok {B = Found} (u8_at left) (behind_gate size) (Some long, after) e in
    elim (cases_eq p.0.0 1) [
      | inl one ↦
          let all : Read (Option ℕ) = length_at size p.0.1 >>= found_length in
          let shut : Read (Option ℕ) = Ok (None, p.0.1) in
          let e1 : all ≡ Ok (Some long, after) = sym (ap (λ (b : Bool). cond b all shut) (eq-eqb p.0.0 1 one)) ∙ p.2 in
          let q = bind_ok {B = Found} (length_at size p.0.1) found_length (Some long, after) e1 in
          let same = some_same q.0.0 long q.0.1 after q.2 in
          (p.0.1, p.1 ∙ ap (λ (g : ℕ). done (g, p.0.1)) one, q.1 ∙ (λ i. done (same.0 i, same.1 i)))
      | inr not ↦
          let closed : eqb p.0.0 1 ≡ false = grind (arith, nat_tests) in
          let all : Read (Option ℕ) = length_at size p.0.1 >>= found_length in
          let shut : Read (Option ℕ) = Ok (None, p.0.1) in
          let e1 : shut ≡ Ok (Some long, after) = sym (ap (λ (b : Bool). cond b all shut) closed) ∙ p.2 in
          let e2 : false ≡ true = none_some long p.0.1 after e1 in
          absurd cc
    ]

abbrev bytes_of : ℕ → ℕ → ℕ × Left → Read (Left × ℕ)
bytes_of place long count = bytes_at place long count.1 >>= λ (b : List ℕ × Left). Ok ((record { bytes = b.0; at = count.1.at }, count.0), b.1)

abbrev count_of : ℕ → ℕ × Left → Read (Left × ℕ)
count_of place long = u32_at long.1 >>= bytes_of place long.0

checked_is : (size : ℕ) (old : Left) (p : ℕ × Left) → length_at size old ≡ Ok p → (u32_at old >>= λ (l : ℕ × Left). cond (leb (old.at + l.0 + 9) size) (Ok l) (Err (Bad old.at))) ≡ Ok p
unfolding length_at checked
checked_is size old p e = e

-- so many bytes a block's body takes, with its lengths
body_left : (size : ℕ) (old new : Left) (body : Left × ℕ) → body_at size old ≡ Ok (body, new)
    → (k : ℕ) × (8 ≤ k) × (k ≤ length old.bytes) × (old.at + k + 1 ≤ size) × (new ≡ read_left (drop k old.bytes) (old.at + k))
unfolding body_at length_at
body_left size old new body e =
    let p = bind_ok {B = (Left × ℕ) × Left} (length_at size old) (count_of old.at) (body, new) e in
    let f = (length_takes size old.at).left old p.0.1 p.0.0 p.1 in
    let q = bind_ok {B = (Left × ℕ) × Left} (u32_at p.0.1) (bytes_of old.at p.0.0) (body, new) p.2 in
    let g = u32_takes.left p.0.1 q.0.1 q.0.0 q.1 in
    let r = bind_ok {B = (Left × ℕ) × Left} (bytes_at old.at p.0.0 q.0.1) (λ (b : List ℕ × Left). Ok ((record { bytes = b.0; at = q.0.1.at }, q.0.0), b.1)) (body, new) q.2 in
    let h = (bytes_take (λ _. old.at) p.0.0).left q.0.1 r.0.1 r.0.0 r.1 in
    let same : r.0.1 ≡ new = ap (λ (y : (Left × ℕ) × Left). y.1) (ok_is {A = (Left × ℕ) × Left} ((record { bytes = r.0.0; at = q.0.1.at }, q.0.0), r.0.1) (body, new) r.2) in
    let long = p.0.0 in
    let c = bind_ok (u32_at old) (λ (l : ℕ × Left). cond (leb (old.at + l.0 + 9) size) (Ok l) (Err (Bad old.at))) (p.0.0, p.0.1) (checked_is size old p.0 p.1) in
    let d = test_ok (leb (old.at + c.0.0 + 9) size) (Bad old.at) c.0 (p.0.0, p.0.1) c.2 in
    let is_long : c.0.0 ≡ long = ap (λ (y : ℕ × Left). y.0) d.1 in
    let within : old.at + c.0.0 + 9 ≤ size = leb-true (old.at + c.0.0 + 9) size d.0 in
    let n1 : length p.0.1.bytes ≡ length old.bytes - 4 = ap (λ (y : Left). length y.bytes) f.1 ∙ length-drop 4 old.bytes in
    let n2 : length q.0.1.bytes ≡ length p.0.1.bytes - 4 = ap (λ (y : Left). length y.bytes) g.1 ∙ length-drop 4 p.0.1.bytes in
    let b2 : q.0.1.bytes ≡ drop 8 old.bytes = ap (λ (y : Left). y.bytes) g.1 ∙ ap (λ (y : Left). drop 4 y.bytes) f.1 ∙ drop-drop 4 4 old.bytes in
    let b3 : drop long q.0.1.bytes ≡ drop (8 + long) old.bytes = ap (λ (l : List ℕ). drop long l) b2 ∙ drop-drop long 8 old.bytes in
    let a3 : q.0.1.at + long ≡ old.at + (8 + long) = omega (arith, ap (λ (y : Left). y.at) g.1, ap (λ (y : Left). y.at) f.1) in (
      8 + long,
      omega arith,
      omega (arith, f.0, g.0, h.0, n1, n2),
      omega (arith, within, is_long),
      sym same ∙ h.1 ∙ (λ i. read_left (b3 i) (a3 i)),
    )

-- ---- a block behind its gate, by its body

abbrev Part : Type 0
Part = Option (Left × ℕ) × Left

abbrev as_part : (Left × ℕ) × Left → Read (Option (Left × ℕ))
as_part body = Ok (Some body.0, body.1)

abbrev part_behind : ℕ → ℕ × Left → Read (Option (Left × ℕ))
part_behind size gate = cond (eqb gate.0 1) (body_at size gate.1 >>= as_part) (Ok (None, gate.1))

none_or_some : (a : Left × ℕ) (l m : Left) → done {A = Part} (None, l) ≡ done {A = Part} (Some a, m) → ⊥
none_or_some a l m e = let e1 : false ≡ true = ap (λ (r : Read (Option (Left × ℕ))). is_there r) e in absurd cc
  where
    has : Option (Left × ℕ) → Bool
    has None = false
    has (Some x) = true

    is_there : Read (Option (Left × ℕ)) → Bool
    is_there (Ok x) = has x.0
    is_there (Err f) = false

-- so many bytes an open gate and its block take
pub part_left : (size : ℕ) (old new : Left) (body : Left × ℕ) → part_at size old ≡ Ok (Some body, new)
    → (k : ℕ) × (9 ≤ k) × (k ≤ length old.bytes) × (old.at + k + 1 ≤ size) × (new ≡ read_left (drop k old.bytes) (old.at + k))
unfolding part_at
part_left size old new body e =
    let p = bind_ok {B = Part} (u8_at old) (part_behind size) (Some body, new) e in
    let f = u8_takes.left old p.0.1 p.0.0 p.1 in
    let n1 : length p.0.1.bytes ≡ length old.bytes - 1 = ap (λ (y : Left). length y.bytes) f.1 ∙ length-drop 1 old.bytes in
    let a1 : p.0.1.at ≡ old.at + 1 = ap (λ (y : Left). y.at) f.1 in
    let all : Read (Option (Left × ℕ)) = body_at size p.0.1 >>= as_part in
    let shut : Read (Option (Left × ℕ)) = Ok (None, p.0.1) in
    elim (cases_Bool (eqb p.0.0 1)) [
      | inl one ↦
          let e1 : all ≡ Ok (Some body, new) = sym (ap (λ (b : Bool). cond b all shut) one) ∙ p.2 in
          let q = bind_ok {B = Part} (body_at size p.0.1) as_part (Some body, new) e1 in
          let same : q.0.1 ≡ new = ap (λ (y : Part). y.1) (ok_is {A = Part} (Some q.0.0, q.0.1) (Some body, new) q.2) in
          let (k, least, most, within, is) = body_left size p.0.1 q.0.1 q.0.0 q.1 in
          let b2 : drop k p.0.1.bytes ≡ drop (1 + k) old.bytes = ap (λ (y : Left). drop k y.bytes) f.1 ∙ drop-drop k 1 old.bytes in
          let a2 : p.0.1.at + k ≡ old.at + (1 + k) = omega (arith, a1) in (
            1 + k,
            omega (arith, least),
            omega (arith, f.0, most, n1),
            omega (arith, within, a1),
            sym same ∙ is ∙ (λ i. read_left (b2 i) (a2 i)),
          )
      | inr other ↦
          let e1 : shut ≡ Ok (Some body, new) = sym (ap (λ (b : Bool). cond b all shut) other) ∙ p.2 in
          absurd (none_or_some body p.0.1 new e1)
    ]

module _ (tables : List TableSchema) (shards size : ℕ) (before : List Mutation) where
  abbrev with_found : Left → Read (List Mutation) → Read (List Mutation)
  with_found after read = read >>= λ found. cond (eqb (length found.1.bytes) 0) (Ok (found.0, after)) (Err (Bad found.1.at))

  abbrev with_body : ℕ × Left → List ℕ × Left → Read (List Mutation)
  with_body count b = with_found b.1 (records_at tables shards count.0 before (record { bytes = b.0; at = count.1.at }))

  abbrev with_count : ℕ → ℕ → ℕ × Left → Read (List Mutation)
  with_count place long count = bytes_at place long count.1 >>= λ b. with_body count b

  abbrev with_long : ℕ → ℕ × Left → Read (List Mutation)
  with_long place long = u32_at long.1 >>= λ count. with_count place long.0 count

  found_again : (rest : List ℕ) (after : Left) (read : Read (List Mutation))
      → with_found (read_left (after.bytes ++ rest) after.at) read ≡ followed rest (with_found after read)
  found_again rest after (Ok x) =
      cond_followed (eqb (length x.1.bytes) 0) rest (Ok (x.0, after)) (Err (Bad x.1.at)) (Ok (x.0, read_left (after.bytes ++ rest) after.at)) (Err (Bad x.1.at)) refl refl
  found_again rest after (Err f) = refl

  block_again : (front rest : List ℕ) (at long : ℕ) (after : Left) → length_at size (read_left front at) ≡ Ok (long, after) → 8 + long ≤ length front
      → block_at tables shards size before (read_left (front ++ rest) at) ≡ followed rest (block_at tables shards size before (read_left front at))
  unfolding block_at length_at
  block_again front rest at long after is enough =
      ap (λ (r : Read ℕ). r >>= with_long at) ((length_takes size at).again front rest at (omega (arith, enough)))
      ∙ bind_followed (length_at size (read_left front at)) rest (with_long at) (λ long2 l2 e2.
      let f = (length_takes size at).left (read_left front at) l2 long2 e2 in
      let same : long2 ≡ long = ap (λ (y : ℕ × Left). y.0) (ok_is (long2, l2) (long, after) (sym e2 ∙ is)) in
      let n2 : length l2.bytes ≡ length front - 4 = ap (λ (y : Left). length y.bytes) f.1 ∙ length-drop 4 front in
      ap (λ (r : Read ℕ). r >>= with_count at long2) (u32_takes.again l2.bytes rest l2.at (omega (arith, enough, n2)))
      ∙ bind_followed (u32_at l2) rest (with_count at long2) (λ count l3 e3.
      let g = u32_takes.left l2 l3 count e3 in
      let n3 : length l3.bytes ≡ length l2.bytes - 4 = ap (λ (y : Left). length y.bytes) g.1 ∙ length-drop 4 l2.bytes in
      ap (λ (r : Read (List ℕ)). r >>= with_body (count, l3)) ((bytes_take (λ _. at) long2).again l3.bytes rest l3.at (omega (arith, enough, n2, n3, same)))
      ∙ bind_followed (bytes_at at long2 l3) rest (with_body (count, l3)) (λ body l4 e4.
      found_again rest l4 (records_at tables shards count before (record { bytes = body; at = l3.at })))))

  -- ---- a block by its body

  abbrev with_part : (Left × ℕ) × Left → Read (List Mutation)
  with_part b = filled_at tables shards b.0.1 before b.0.0 >>= λ (found : List Mutation × Left). done (found.0, b.1)

  filled_same : (after : Left) (r : Read (List Mutation)) → with_found after r
      ≡ ((r >>= λ (found : List Mutation × Left). cond (eqb (length found.1.bytes) 0) (Ok found) (Err (Bad found.1.at))) >>= λ (found : List Mutation × Left). done (found.0, after))
  filled_same after (Ok x) = each (eqb (length x.1.bytes) 0)
    where
      each : (b : Bool) → cond b (done {A = List Mutation × Left} (x.0, after)) (Err (Bad x.1.at)) ≡ (cond b (done x) (Err (Bad x.1.at)) >>= λ (found : List Mutation × Left). done (found.0, after))
      each true = refl
      each false = refl
  filled_same after (Err f) = refl

  bytes_same : (count : ℕ × Left) (r : Read (List ℕ)) → (r >>= with_body count)
      ≡ ((r >>= λ (b : List ℕ × Left). Ok ((record { bytes = b.0; at = count.1.at }, count.0), b.1)) >>= with_part)
  unfolding filled_at
  bytes_same count (Ok b) = filled_same b.1 (records_at tables shards count.0 before (record { bytes = b.0; at = count.1.at }))
  bytes_same count (Err f) = refl

  count_same : (place long : ℕ) (r : Read ℕ) → (r >>= with_count place long) ≡ ((r >>= bytes_of place long) >>= with_part)
  count_same place long (Ok count) = bytes_same count (bytes_at place long count.1)
  count_same place long (Err f) = refl

  long_same : (place : ℕ) (r : Read ℕ) → (r >>= with_long place) ≡ ((r >>= count_of place) >>= with_part)
  long_same place (Ok long) = count_same place long.0 (u32_at long.1)
  long_same place (Err f) = refl

  pub by_body : (left : Left) → block_at tables shards size before left ≡ (body_at size left >>= with_part)
  unfolding block_at body_at
  by_body left = long_same left.at (length_at size left)

  -- so many bytes a block takes
  block_left : (old new : Left) (all : List Mutation) → block_at tables shards size before old ≡ Ok (all, new)
      → (k : ℕ) × (8 ≤ k) × (k ≤ length old.bytes) × (old.at + k + 1 ≤ size) × (new ≡ read_left (drop k old.bytes) (old.at + k))
  unfolding filled_at
  block_left old new all e =
      let p = bind_ok {B = List Mutation × Left} (body_at size old) with_part (all, new) (sym (by_body old) ∙ e) in
      let q = bind_ok {B = List Mutation × Left} (filled_at tables shards p.0.0.1 before p.0.0.0) (λ (found : List Mutation × Left). done (found.0, p.0.1)) (all, new) p.2 in
      let same : p.0.1 ≡ new = ap (λ (y : List Mutation × Left). y.1) (ok_is (q.0.0, p.0.1) (all, new) q.2) in
      let (k, least, most, within, is) = body_left size old p.0.1 p.0.0 p.1 in
      (k, least, most, within, sym same ∙ is)

  -- ---- a block behind its gate

  abbrev with_gate : ℕ × Left → Read (Bool × List Mutation)
  with_gate gate =
      cond (eqb gate.0 1) (block_at tables shards size before gate.1 >>= λ block. Ok ((true, block.0), block.1)) (Ok ((false, before), gate.1))

  abbrev Step : Type 0
  Step = (Bool × List Mutation) × Left

  abbrev as_open : List Mutation × Left → Read (Bool × List Mutation)
  as_open block = Ok ((true, block.0), block.1)

  abbrev opened : Left → List Mutation × Left → Read (Bool × List Mutation)
  opened after found = Ok ((true, found.0), after)

  -- what stands behind the gate gives the block's mutations, where there is a body
  abbrev pub of_part : Option (Left × ℕ) × Left → Read (Bool × List Mutation)
  of_part (None, after) = Ok ((false, before), after)
  of_part (Some body, after) = filled_at tables shards body.1 before body.0 >>= λ (found : List Mutation × Left). Ok ((true, found.0), after)

  open_same : (r : Read (Left × ℕ)) → ((r >>= with_part) >>= as_open) ≡ ((r >>= as_part) >>= of_part)
  open_same (Ok b) = each (filled_at tables shards b.0.1 before b.0.0)
    where
      each : (r : Read (List Mutation)) → ((r >>= λ (found : List Mutation × Left). done (found.0, b.1)) >>= as_open) ≡ (r >>= opened b.1)
      each (Ok x) = refl
      each (Err f) = refl
  open_same (Err f) = refl

  abbrev closed : Left → Read (Bool × List Mutation)
  closed after = Ok ((false, before), after)

  abbrev no_part : Left → Read (Option (Left × ℕ))
  no_part after = Ok (None, after)

  gate_same : (r : Read ℕ) → (r >>= with_gate) ≡ ((r >>= part_behind size) >>= of_part)
  gate_same (Ok gate) = ap (λ (y : Read (List Mutation)). cond (eqb gate.0 1) (y >>= as_open) (closed gate.1)) (by_body gate.1) ∙ each (eqb gate.0 1)
    where
      each : (b : Bool) → cond b ((body_at size gate.1 >>= with_part) >>= as_open) (closed gate.1) ≡ (cond b (body_at size gate.1 >>= as_part) (no_part gate.1) >>= of_part)
      each true = open_same (body_at size gate.1)
      each false = refl
  gate_same (Err f) = refl

  pub by_part : (left : Left) → gated_at tables shards size before left ≡ (part_at size left >>= of_part)
  unfolding gated_at part_at
  by_part left = gate_same (u8_at left)

  -- of the bytes at hand a block gives what it gives of the file, where the whole block is at hand
  gated_enough : (front rest : List ℕ) (at long : ℕ) (after : Left) → opened_at size (read_left front at) ≡ Ok (Some long, after) → 9 + long ≤ length front
      → gated_at tables shards size before (read_left (front ++ rest) at) ≡ followed rest (gated_at tables shards size before (read_left front at))
  unfolding gated_at
  gated_enough front rest at long after e enough =
      let (gate1, is, lengths) = is_open size long (read_left front at) after e in
      ap (λ (r : Read ℕ). r >>= with_gate) (u8_takes.again front rest at (omega (arith, enough)))
      ∙ bind_followed (u8_at (read_left front at)) rest with_gate (λ gate l e1.
      let f = u8_takes.left (read_left front at) l gate e1 in
      let n1 : length l.bytes ≡ length front - 1 = ap (λ (y : Left). length y.bytes) f.1 ∙ length-drop 1 front in
      let same : l ≡ gate1 = ap (λ (y : ℕ × Left). y.1) (ok_is (gate, l) (1, gate1) (sym e1 ∙ is)) in
      let there : length_at size (read_left l.bytes l.at) ≡ Ok (long, after) = ap (λ (y : Left). length_at size y) same ∙ lengths in
      cond_followed (eqb gate 1) rest (block_at tables shards size before l >>= λ block. Ok ((true, block.0), block.1)) (Ok ((false, before), l))
      (block_at tables shards size before (read_left (l.bytes ++ rest) l.at) >>= λ block. Ok ((true, block.0), block.1)) (Ok ((false, before), read_left (l.bytes ++ rest) l.at))
      (ap (λ (r : Read (List Mutation)). r >>= λ block. Ok ((true, block.0), block.1)) (block_again l.bytes rest l.at long after there (omega (arith, enough, n1)))
      ∙ bind_followed (block_at tables shards size before l) rest (λ block. Ok ((true, block.0), block.1)) (λ x l2 e2. refl))
      refl)

  pub gated_again : (at : ℕ) (file bytes : List ℕ) → AreNext at file bytes → HasBlock size at file bytes
      → gated_at tables shards size before (left_of file at) ≡ followed (drop (length bytes) (drop at file)) (gated_at tables shards size before (read_left bytes at))
  gated_again at file bytes next has =
      let rest = drop (length bytes) (drop at file) in
      let whole : drop at file ≡ bytes ++ rest = sym (take-append-drop (length bytes) (drop at file)) ∙ ap (λ (l : List ℕ). l ++ rest) (sym next.next) in
      let all = gated_at tables shards size before (read_left bytes at) in
      ⊎_elim (λ is.
      ap (λ (l : List ℕ). gated_at tables shards size before (read_left l at)) (sym is)
      ∙ sym (followed_nothing rest (drop_all (length bytes) (drop at file) (omega (arith, ap length is))) all))
      (λ (block : (long : ℕ) × (after : Left) × (opened_at size (read_left bytes at) ≡ Ok (Some long, after)) × (9 + long ≤ length bytes)).
      ap (λ (l : List ℕ). gated_at tables shards size before (read_left l at)) whole
      ∙ gated_enough bytes rest at block.0 block.1 block.2 block.3) has

  -- so many bytes it takes
  pub gated_left : (old new : Left) (opens : Bool) (all : List Mutation) → gated_at tables shards size before old ≡ Ok ((opens, all), new)
      → (k : ℕ) × (k ≤ length old.bytes) × (new ≡ read_left (drop k old.bytes) (old.at + k)) × (opens ≡ true → (9 ≤ k) × (old.at + k + 1 ≤ size)) × (opens ≡ false → all ≡ before)
  unfolding gated_at
  gated_left old new opens all e =
      let p = bind_ok {B = Step} (u8_at old) with_gate ((opens, all), new) e in
      let f = u8_takes.left old p.0.1 p.0.0 p.1 in
      let n1 : length p.0.1.bytes ≡ length old.bytes - 1 = ap (λ (y : Left). length y.bytes) f.1 ∙ length-drop 1 old.bytes in
      let a1 : p.0.1.at ≡ old.at + 1 = ap (λ (y : Left). y.at) f.1 in
      let block : Read (Bool × List Mutation) = block_at tables shards size before p.0.1 >>= as_open in
      let stay : Read (Bool × List Mutation) = Ok ((false, before), p.0.1) in
      elim (cases_Bool (eqb p.0.0 1)) [
        | inl one ↦
            let e1 : block ≡ Ok ((opens, all), new) = sym (ap (λ (b : Bool). cond b block stay) one) ∙ p.2 in
            let q = bind_ok {B = Step} (block_at tables shards size before p.0.1) as_open ((opens, all), new) e1 in
            let same : ((true, q.0.0), q.0.1) ≡ ((opens, all), new) = ok_is {A = Step} ((true, q.0.0), q.0.1) ((opens, all), new) q.2 in
            let is_true : true ≡ opens = ap (λ (y : Step). y.0.0) same in
            let (k, least, most, within, is) = block_left p.0.1 q.0.1 q.0.0 q.1 in
            let b2 : drop k p.0.1.bytes ≡ drop (1 + k) old.bytes = ap (λ (y : Left). drop k y.bytes) f.1 ∙ drop-drop k 1 old.bytes in
            let a2 : p.0.1.at + k ≡ old.at + (1 + k) = omega (arith, a1) in
            let bound : 1 + k ≤ length old.bytes = omega (arith, f.0, most, n1) in
            let most9 : 9 ≤ 1 + k = omega (arith, least) in
            let ends : old.at + (1 + k) + 1 ≤ size = omega (arith, within, a1) in (
              1 + k,
              bound,
              sym (ap (λ (y : Step). y.1) same) ∙ is ∙ (λ i. read_left (b2 i) (a2 i)),
              λ opened. (most9, ends),
              λ closed. absurd (let e2 : true ≡ false = is_true ∙ closed in cc),
            )
        | inr shut ↦
            let e1 : stay ≡ Ok ((opens, all), new) = sym (ap (λ (b : Bool). cond b block stay) shut) ∙ p.2 in
            let same : ((false, before), p.0.1) ≡ ((opens, all), new) = ok_is {A = Step} ((false, before), p.0.1) ((opens, all), new) e1 in
            let is_false : false ≡ opens = ap (λ (y : Step). y.0.0) same in (
              1,
              f.0,
              sym (ap (λ (y : Step). y.1) same) ∙ f.1,
              λ opened. absurd (let e2 : false ≡ true = is_false ∙ opened in cc),
              λ _. sym (ap (λ (y : Step). y.0.1) same),
            )
      ]

  -- ---- where the gate isn't open, or isn't there

  pub gated_shut : (left after : Left) → opened_at size left ≡ Ok (None, after) → (l : Left) × (gated_at tables shards size before left ≡ Ok ((false, before), l))
  unfolding opened_at gated_at
  gated_shut left after e =
      let p = bind_ok {B = Found} (u8_at left) (behind_gate size) (None, after) e in
      elim (cases_Bool (eqb p.0.0 1)) [
        | inl one ↦
            let all : Read (Option ℕ) = length_at size p.0.1 >>= found_length in
            let stay : Read (Option ℕ) = Ok (None, p.0.1) in
            let e1 : all ≡ Ok (None, after) = sym (ap (λ (b : Bool). cond b all stay) one) ∙ p.2 in
            let q = bind_ok {B = Found} (length_at size p.0.1) found_length (None, after) e1 in
            let e2 : true ≡ false = some_none q.0.0 q.0.1 after q.2 in
            absurd cc
        | inr shut ↦
            let block : Read (Bool × List Mutation) = block_at tables shards size before p.0.1 >>= as_open in
            let stay : Read (Bool × List Mutation) = Ok ((false, before), p.0.1) in
            (p.0.1, ap (λ (r : Read ℕ). r >>= with_gate) p.1 ∙ ap (λ (b : Bool). cond b block stay) shut)
      ]

  length_refused : (place : ℕ) (r : Read ℕ) (f : ReadFault) → (r >>= found_length) ≡ Err f → ((r >>= with_long place) >>= as_open) ≡ Err f
  length_refused place (Err g) f e = let e1 : g ≡ f = cc in ap (λ (h : ReadFault). Err h) e1
  length_refused place (Ok l) f e = absurd cc

  gate_refused : (r : Read ℕ) (f : ReadFault) → (r >>= behind_gate size) ≡ Err f → (r >>= with_gate) ≡ Err f
  unfolding block_at
  gate_refused (Err g) f e = let e1 : g ≡ f = cc in ap (λ (h : ReadFault). Err h) e1
  gate_refused (Ok gate) f e =
      let all : Read (Option ℕ) = length_at size gate.1 >>= found_length in
      let block : Read (Bool × List Mutation) = block_at tables shards size before gate.1 >>= as_open in
      let none : Read (Option ℕ) = Ok (None, gate.1) in
      let stay : Read (Bool × List Mutation) = Ok ((false, before), gate.1) in
      elim (cases_Bool (eqb gate.0 1)) [
        | inl one ↦
            let e1 : all ≡ Err f = sym (ap (λ (b : Bool). cond b all none) one) ∙ e in
            ap (λ (b : Bool). cond b block stay) one ∙ length_refused gate.1.at (length_at size gate.1) f e1
        | inr shut ↦
            let e1 : done {A = Found} (None, gate.1) ≡ Err f = sym (ap (λ (b : Bool). cond b all none) shut) ∙ e in
            absurd cc
      ]

  pub gated_refused : (left : Left) (f : ReadFault) → opened_at size left ≡ Err f → gated_at tables shards size before left ≡ Err f
  unfolding opened_at gated_at
  gated_refused left f e = gate_refused (u8_at left) f e

-- ---- what is at hand

-- the file begins with the bytes at hand
pub header_again : (segment at : ℕ) (file bytes : List ℕ) → AreNext at file bytes → AreEnough 24 at file bytes
    → header_at segment (left_of file at) ≡ followed (drop (length bytes) (drop at file)) (header_at segment (read_left bytes at))
header_again segment at file bytes next enough =
    let rest = drop (length bytes) (drop at file) in
    let whole : drop at file ≡ bytes ++ rest = sym (take-append-drop (length bytes) (drop at file)) ∙ ap (λ (l : List ℕ). l ++ rest) (sym next.next) in
    ⊎_elim (λ long. ap (λ (l : List ℕ). header_at segment (read_left l at)) whole ∙ (header_takes segment).again bytes rest at long)
    (λ is. ap (λ (l : List ℕ). header_at segment (read_left l at)) (sym is)
    ∙ sym (followed_nothing rest (drop_all (length bytes) (drop at file) (omega (arith, ap length is))) (header_at segment (read_left bytes at)))) enough

pub opened_of : (size at : ℕ) (file bytes : List ℕ) → AreNext at file bytes → AreEnough 9 at file bytes
    → opened_at size (left_of file at) ≡ followed (drop (length bytes) (drop at file)) (opened_at size (read_left bytes at))
opened_of size at file bytes next enough =
    let rest = drop (length bytes) (drop at file) in
    let whole : drop at file ≡ bytes ++ rest = sym (take-append-drop (length bytes) (drop at file)) ∙ ap (λ (l : List ℕ). l ++ rest) (sym next.next) in
    ⊎_elim (λ long. ap (λ (l : List ℕ). opened_at size (read_left l at)) whole ∙ opened_again size bytes rest at (omega (arith, long)))
    (λ is. ap (λ (l : List ℕ). opened_at size (read_left l at)) (sym is)
    ∙ sym (followed_nothing rest (drop_all (length bytes) (drop at file) (omega (arith, ap length is))) (opened_at size (read_left bytes at)))) enough

next_passed : (at k : ℕ) (file bytes : List ℕ) → AreNext at file bytes → k ≤ length bytes → AreNext (at + k) file (drop k bytes)
next_passed at k file bytes next within =
    let n = length bytes - k in
    let sum : k + n ≡ length bytes = omega (arith, within) in
    let long : length (drop k bytes) ≡ n = length-drop k bytes in
    record {
      next = ap (λ (l : List ℕ). drop k l) next.next ∙ ap (λ (m : ℕ). drop k (take m (drop at file))) (sym sum) ∙ drop-take k n (drop at file)
          ∙ (λ i. take (sym long i) (drop-drop k at file i));
    }

-- what was read of the bytes at hand was read of the file, and what is at hand comes next
pub goes_on : {A : Type 0} (r : Left → Read A) (at k : ℕ) (file bytes : List ℕ) (x : A) (new : Left) → AreNext at file bytes
    → r (left_of file at) ≡ followed (drop (length bytes) (drop at file)) (r (read_left bytes at)) → r (read_left bytes at) ≡ Ok (x, new)
    → new ≡ read_left (drop k bytes) (at + k) → k ≤ length bytes → (r (left_of file at) ≡ Ok (x, left_of file (at + k))) × AreNext (at + k) file (drop k bytes)
goes_on {A} r at k file bytes x new next again is after within =
    let rest = drop (length bytes) (drop at file) in
    let whole : drop at file ≡ bytes ++ rest = sym (take-append-drop (length bytes) (drop at file)) ∙ ap (λ (l : List ℕ). l ++ rest) (sym next.next) in
    let behind : drop k bytes ++ rest ≡ drop (at + k) file =
    sym (drop-append-le k bytes rest within) ∙ ap (λ (l : List ℕ). drop k l) (sym whole) ∙ drop-drop k at file in
    (again ∙ ap (λ (y : Read A). followed rest y) (is ∙ ap (λ (l : Left). done (x, l)) after) ∙ ap (λ (l : List ℕ). done (x, read_left l (at + k))) behind, next_passed at k file bytes next within)

pub refused_too : {A : Type 0} (rest : List ℕ) (f : ReadFault) (r whole : Read A) → whole ≡ followed rest r → r ≡ Err f → whole ≡ Err f
refused_too {A} rest f r whole again e = again ∙ ap (λ (y : Read A). followed rest y) e

-- ---- the blocks, one after another

module _ (tables : List TableSchema) (shards size : ℕ) where
  -- a segment's blocks are those that are left, of which there are fewer than so many
  pub record Comes (before : List Mutation) (left : Left) (whole : Read (List Mutation)) : Type 0 where
    pub fuel : ℕ
    pub enough : length left.bytes ≤ fuel
    pub is : blocks_at tables shards fuel size before left ≡ whole

  pub begins : (before : List Mutation) (left : Left) → Comes before left (blocks_at tables shards (length left.bytes) size before left)
  begins before left = record { fuel = length left.bytes; enough = omega arith; is = refl }

  abbrev on_gate : ℕ → (Bool × List Mutation) × Left → Read (List Mutation)
  on_gate n x = cond x.0.0 (blocks_at tables shards n size x.0.1 x.1) (Ok (x.0.1, x.1))

  pub by_gate : (n : ℕ) (before : List Mutation) (left : Left) → blocks_at tables shards (suc n) size before left ≡ (gated_at tables shards size before left >>= on_gate n)
  unfolding blocks_at gated_at
  by_gate n before left = each (u8_at left)
    where
      block_then : (r : Read (List Mutation)) → (r >>= λ (b : List Mutation × Left). blocks_at tables shards n size b.0 b.1) ≡ ((r >>= λ (b : List Mutation × Left). done ((true, b.0), b.1)) >>= on_gate n)
      block_then (Ok b) = refl
      block_then (Err f) = refl

      shut_or_open : (b : Bool) (gate : Left) → cond b (block_at tables shards size before gate >>= λ (b : List Mutation × Left). blocks_at tables shards n size b.0 b.1) (Ok (before, gate))
          ≡ (cond b (block_at tables shards size before gate >>= λ (b : List Mutation × Left). done ((true, b.0), b.1)) (Ok ((false, before), gate)) >>= on_gate n)
      shut_or_open true gate = block_then (block_at tables shards size before gate)
      shut_or_open false gate = refl

      each : (r : Read ℕ) → (r >>= λ (gate : ℕ × Left). cond (eqb gate.0 1) (block_at tables shards size before gate.1 >>= λ (b : List Mutation × Left). blocks_at tables shards n size b.0 b.1) (Ok (before, gate.1)))
          ≡ ((r >>= with_gate tables shards size before) >>= on_gate n)
      each (Ok gate) = shut_or_open (eqb gate.0 1) gate.1
      each (Err f) = refl

  -- where nothing is left there is no gate
  no_gate : (before : List Mutation) (left : Left) → length left.bytes ≡ 0 → gated_at tables shards size before left ≡ Err (Short left.at)
  unfolding gated_at u8_at unsigned_at bytes_at
  no_gate before left none =
      let no : ltb (length left.bytes) 1 ≡ true = grind (arith, nat_tests) in
      rw no refl

  pub one_more : (before all : List Mutation) (left after : Left) (whole : Read (List Mutation)) → Comes before left whole
      → gated_at tables shards size before left ≡ Ok ((true, all), after) → length after.bytes < length left.bytes → Comes all after whole
  one_more before all left after whole comes e less = more comes.fuel comes.enough comes.is
    where
      more : (n : ℕ) → length left.bytes ≤ n → blocks_at tables shards n size before left ≡ whole → Comes all after whole
      more zero enough is = absurd (omega (arith, enough, less))
      more (suc n) enough is = record {
        fuel = n;
        enough = omega (arith, enough, less);
        is = sym (by_gate n before left ∙ ap (λ (r : Read (Bool × List Mutation)). r >>= on_gate n) e) ∙ is;
      }

  pub no_more : (before all : List Mutation) (left after : Left) (whole : Read (List Mutation)) → Comes before left whole
      → gated_at tables shards size before left ≡ Ok ((false, all), after) → whole ≡ Ok (all, after)
  no_more before all left after whole comes e = last comes.fuel comes.enough comes.is
    where
      last : (n : ℕ) → length left.bytes ≤ n → blocks_at tables shards n size before left ≡ whole → whole ≡ Ok (all, after)
      last zero enough is = let e1 = sym (no_gate before left (omega (arith, enough))) ∙ e in absurd cc
      last (suc n) enough is = sym is ∙ by_gate n before left ∙ ap (λ (r : Read (Bool × List Mutation)). r >>= on_gate n) e

  abbrev as_err : ReadFault → Read (Bool × List Mutation)
  as_err f = Err f

  err_same : (a b : ReadFault) → as_err a ≡ as_err b → a ≡ b
  err_same a b e = cc

  pub none_refused : (before : List Mutation) (left : Left) → blocks_at tables shards 0 size before left ≡ Err (Short left.at)
  unfolding blocks_at
  none_refused before left = refl

  pub refused : (before : List Mutation) (left : Left) (f : ReadFault) (whole : Read (List Mutation)) → Comes before left whole
      → gated_at tables shards size before left ≡ Err f → whole ≡ Err f
  refused before left f whole comes e = last comes.fuel comes.enough comes.is
    where
      last : (n : ℕ) → length left.bytes ≤ n → blocks_at tables shards n size before left ≡ whole → whole ≡ Err f
      last zero enough is =
          let both : gated_at tables shards size before left ≡ Err (Short left.at) = no_gate before left (omega (arith, enough)) in
          let same : Short left.at ≡ f = err_same (Short left.at) f (sym both ∙ e) in
          sym is ∙ none_refused before left ∙ ap (λ (h : ReadFault). Err h) same
      last (suc n) enough is = sym is ∙ by_gate n before left ∙ ap (λ (r : Read (Bool × List Mutation)). r >>= on_gate n) e
