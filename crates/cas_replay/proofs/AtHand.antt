-- What the steps of a segment's reading answer, by what they read of the bytes at hand.
use Rattle.std.proofs.Common.{◌≡◌, inl, inr, ⊎_elim, ℕ, ◌+◌, ◌-◌, ◌≤◌, Bool, true, false, List, ◌++◌, length, drop, Option, None, Some, Ok, Err, refl, sym, ap, subst, ◌∙◌, arith, length-drop}
use Rattle.cas_types.specs.declared.schema.TableSchema.{TableSchema}
use Rattle.cas_codec.specs.declared.fault.ReadFault.{ReadFault}
use Rattle.cas_codec.specs.Reading.{Left, Read, ◌>>=◌}
use Rattle.cas_codec.proofs.Exactness.{done, ok_is, read_left}
use Rattle.cas_atoms.specs.declared.atom.Mutation.{Mutation}
use Rattle.cas_files.specs.Ahead.{Ahead, AreNext, AreEnough, passed}
use Rattle.cas_replay.specs.Reading.{header_at}
use Rattle.cas_replay.specs.Replays.{IsFront}
use Rattle.cas_replay.specs.Inner.Steps.{opened_at, part_at, filled_at, gated_at, left_of, HasBlock, ReadsOn, StepsOn}
use Rattle.cas_replay.proofs.Local.{followed}
use Rattle.cas_replay.proofs.Steps.{header_takes, header_again, opened_of, part_left, by_part, of_part, gated_again, gated_left, goes_on, refused_too}
use Rattle.cas_replay.proofs.Fronts.{part_front, followed_front}

-- a reader of what is at hand
pub is_reader : (reader : Left) (ahead : Ahead) (bytes : List ℕ) (at : ℕ) → reader.bytes ≡ bytes → bytes ≡ ahead.bytes → reader.at ≡ at → at ≡ ahead.at → reader ≡ read_left ahead.bytes ahead.at
is_reader reader ahead bytes at one other place there = λ i. read_left ((one ∙ other) i) ((place ∙ there) i)

-- ---- the header

pub header_within : (segment size : ℕ) (left after : Left) → header_at segment left ≡ Ok (size, after) → 24 ≤ length left.bytes
header_within segment size left after e = ((header_takes segment).left left after size e).0

module _ (segment : ℕ) (file : List ℕ) (old new : Ahead) (left after : Left) (is : left ≡ read_left old.bytes old.at) (next : AreNext old.at file old.bytes) where
  pub header_taken : (size : ℕ) → AreEnough 24 old.at file old.bytes → header_at segment left ≡ Ok (size, after) → new ≡ passed 24 old
      → ReadsOn (λ (n : ℕ). n) segment file new (Ok size) (header_at segment (left_of file old.at))
  header_taken size enough e moved =
      let e1 : header_at segment (read_left old.bytes old.at) ≡ Ok (size, after) = ap (header_at segment) (sym is) ∙ e in
      let t = (header_takes segment).left (read_left old.bytes old.at) after size e1 in
      let both = goes_on (header_at segment) old.at 24 file old.bytes size after next (header_again segment old.at file old.bytes next enough) e1 t.1 t.0 in
      subst (λ (a : Ahead). (header_at segment (left_of file old.at) ≡ Ok (size, left_of file a.at)) × AreNext a.at file a.bytes) (sym moved) both

  pub header_fault : AreEnough 24 old.at file old.bytes → (g : ReadFault) → header_at segment left ≡ Err g → header_at segment (left_of file old.at) ≡ Err g
  header_fault enough g e =
      refused_too (drop (length old.bytes) (drop old.at file)) g (header_at segment (read_left old.bytes old.at)) (header_at segment (left_of file old.at))
      (header_again segment old.at file old.bytes next enough) (ap (header_at segment) (sym is) ∙ e)

-- ---- whether a block is at hand

followed_ok : {A : Type 0} (rest : List ℕ) (r : Read A) (x : A) (l : Left) → followed rest r ≡ Ok (x, l) → (m : Left) × (r ≡ Ok (x, m))
followed_ok {A} rest (Ok y) x l e =
    let same : y.0 ≡ x = ap (λ (z : A × Left). z.0) (ok_is (y.0, read_left (y.1.bytes ++ rest) y.1.at) (x, l) e) in
    (y.1, ap (λ (z : A). done (z, y.1)) same)
followed_ok rest (Err f) x l e = absurd cc

module _ (size at : ℕ) (file mid : List ℕ) (left : Left) (is : left ≡ read_left mid at) (next : AreNext at file mid) (enough : AreEnough 9 at file mid) where
  opened_whole : opened_at size (left_of file at) ≡ followed (drop (length mid) (drop at file)) (opened_at size left)
  opened_whole =
      opened_of size at file mid next enough ∙ ap (λ (l : Left). followed (drop (length mid) (drop at file)) (opened_at size l)) (sym is)

  pub opened_fault : (g : ReadFault) → opened_at size left ≡ Err g → opened_at size (left_of file at) ≡ Err g
  opened_fault g e = opened_whole ∙ ap (λ (y : Read (Option ℕ)). followed (drop (length mid) (drop at file)) y) e

  pub opened_shut : (after : Left) → opened_at size left ≡ Ok (None, after) → (l : Left) × (opened_at size (left_of file at) ≡ Ok (None, l))
  opened_shut after e = (
    read_left (after.bytes ++ drop (length mid) (drop at file)) after.at,
    opened_whole ∙ ap (λ (y : Read (Option ℕ)). followed (drop (length mid) (drop at file)) y) e,
  )

  pub has_block : (long : ℕ) (after : Left) (bytes : List ℕ) → opened_at size left ≡ Ok (Some long, after) → AreNext at file bytes → AreEnough (9 + long) at file bytes
      → HasBlock size at file bytes
  has_block long after bytes e later whole =
      ⊎_elim (λ there.
      let rest = drop (length bytes) (drop at file) in
      let front = drop (length mid) (drop at file) in
      let e1 : opened_at size (left_of file at) ≡ Ok (Some long, read_left (after.bytes ++ front) after.at) = opened_whole ∙ ap (λ (y : Read (Option ℕ)). followed front y) e in
      let f = followed_ok rest (opened_at size (read_left bytes at)) (Some long) (read_left (after.bytes ++ front) after.at)
      (sym (opened_of size at file bytes later (inl (omega (arith, there)))) ∙ e1) in
      inr (long, f.0, f.1, there))
      (λ all. inl all) whole

-- ---- a block's body at hand

module _ (size : ℕ) (left after : Left) (body : Left × ℕ) (e : part_at size left ≡ Ok (Some body, after)) where
  pub part_less : length after.bytes ≤ length left.bytes
  part_less =
      let (k, least, within, ends, is) = part_left size left after body e in
      omega (arith, ap (λ (l : Left). length l.bytes) is, length-drop k left.bytes)

  pub part_on : (old new : Ahead) → left ≡ read_left old.bytes old.at → (taken : ℕ) → taken ≡ length left.bytes - length after.bytes → new ≡ passed taken old
      → (old.at + 9 ≤ new.at) × (new.at + 1 ≤ size)
  part_on old new is taken counts moved =
      let (k, least, within, ends, so) = part_left size left after body e in
      let same : taken ≡ k = omega (arith, counts, within, ap (λ (l : Left). length l.bytes) so, length-drop k left.bytes) in
      let place : new.at ≡ old.at + taken = ap (λ (a : Ahead). a.at) moved in
      let begins : left.at ≡ old.at = ap (λ (l : Left). l.at) is in
      (omega (arith, place, same, least), omega (arith, place, same, ends, begins))

-- ---- a block at hand

module _ (tables : List TableSchema) (shards size : ℕ) (before : List Mutation) where
  module _ (old new : Ahead) (left after : Left) (is : left ≡ read_left old.bytes old.at) (opens : Bool) (all : List Mutation)
      (e : gated_at tables shards size before left ≡ Ok ((opens, all), after)) (taken : ℕ) (counts : taken ≡ length left.bytes - length after.bytes) (moved : new ≡ passed taken old) where
    here : gated_at tables shards size before (read_left old.bytes old.at) ≡ Ok ((opens, all), after)
    here = ap (gated_at tables shards size before) (sym is) ∙ e

    taken_is : (k : ℕ) → k ≤ length old.bytes → after ≡ read_left (drop k old.bytes) (old.at + k) → taken ≡ k
    taken_is k within so =
        omega (arith, counts, ap (λ (l : Left). length l.bytes) is, ap (λ (l : Left). length l.bytes) so, length-drop k old.bytes)

    pub block_taken : (segment : ℕ) (file : List ℕ) → AreNext old.at file old.bytes → HasBlock size old.at file old.bytes
        → StepsOn segment file new all (Ok opens) (gated_at tables shards size before (left_of file old.at))
    block_taken segment file next has =
        let (k, within, so, when, shut) = gated_left tables shards size before (read_left old.bytes old.at) after opens all here in
        let both = goes_on (gated_at tables shards size before) old.at k file old.bytes (opens, all) after next (gated_again tables shards size before old.at file old.bytes next has) here so within in
        let there = subst (λ (n : ℕ). (gated_at tables shards size before (left_of file old.at) ≡ Ok ((opens, all), left_of file (old.at + n))) × AreNext (old.at + n) file (drop n old.bytes)) (sym (taken_is k within so)) both in
        steps opens refl (subst (λ (a : Ahead). (gated_at tables shards size before (left_of file old.at) ≡ Ok ((opens, all), left_of file a.at)) × AreNext a.at file a.bytes) (sym moved) there)
      where
        steps : (b : Bool) → opens ≡ b → (gated_at tables shards size before (left_of file old.at) ≡ Ok ((opens, all), left_of file new.at)) × AreNext new.at file new.bytes
            → StepsOn segment file new all (Ok opens) (gated_at tables shards size before (left_of file old.at))
        steps true so there = rw so (subst (λ (b : Bool). gated_at tables shards size before (left_of file old.at) ≡ Ok ((b, all), left_of file new.at)) so there.0, there.1)
        steps false so there = rw so (left_of file new.at, subst (λ (b : Bool). gated_at tables shards size before (left_of file old.at) ≡ Ok ((b, all), left_of file new.at)) so there.0)

  -- ---- by what is read of it

  pub by_filled : (left after : Left) (body : Left × ℕ) → part_at size left ≡ Ok (Some body, after)
      → gated_at tables shards size before left ≡ (filled_at tables shards body.1 before body.0 >>= λ (found : List Mutation × Left). Ok ((true, found.0), after))
  by_filled left after body e = by_part tables shards size before left ∙ ap (λ (r : Read (Option (Left × ℕ))). r >>= of_part tables shards size before) e

  pub filled_whole : (left after inner : Left) (body : Left × ℕ) (all : List Mutation) → part_at size left ≡ Ok (Some body, after)
      → filled_at tables shards body.1 before body.0 ≡ Ok (all, inner) → gated_at tables shards size before left ≡ Ok ((true, all), after)
  filled_whole left after inner body all e so =
      by_filled left after body e ∙ ap (λ (r : Read (List Mutation)). r >>= λ (found : List Mutation × Left). Ok ((true, found.0), after)) so

  pub filled_fault : (left after : Left) (body : Left × ℕ) (g : ReadFault) → part_at size left ≡ Ok (Some body, after)
      → filled_at tables shards body.1 before body.0 ≡ Err g → gated_at tables shards size before left ≡ Err g
  filled_fault left after body g e so =
      by_filled left after body e ∙ ap (λ (r : Read (List Mutation)). r >>= λ (found : List Mutation × Left). Ok ((true, found.0), after)) so

  pub part_fault : (left : Left) (g : ReadFault) → part_at size left ≡ Err g → gated_at tables shards size before left ≡ Err g
  part_fault left g e = by_part tables shards size before left ∙ ap (λ (r : Read (Option (Left × ℕ))). r >>= of_part tables shards size before) e

  -- a gate that isn't open at hand isn't in the file
  pub shut_whole : (at : ℕ) (file bytes : List ℕ) (left after : Left) → left ≡ read_left bytes at → AreNext at file bytes → HasBlock size at file bytes
      → part_at size left ≡ Ok (None, after) → (l : Left) × (gated_at tables shards size before (left_of file at) ≡ Ok ((false, before), l))
  shut_whole at file bytes left after is next has e =
      let rest = drop (length bytes) (drop at file) in
      let here : gated_at tables shards size before (read_left bytes at) ≡ Ok ((false, before), after) =
      ap (gated_at tables shards size before) (sym is) ∙ by_part tables shards size before left ∙ ap (λ (r : Read (Option (Left × ℕ))). r >>= of_part tables shards size before) e in
      (read_left (after.bytes ++ rest) after.at, gated_again tables shards size before at file bytes next has ∙ ap (λ (y : Read (Bool × List Mutation)). followed rest y) here)

  -- a front of what is at hand is one of the file's
  pub front_whole : (at : ℕ) (file bytes : List ℕ) (left after : Left) (body : Left × ℕ) (found : List Mutation) → left ≡ read_left bytes at → AreNext at file bytes
      → HasBlock size at file bytes → part_at size left ≡ Ok (Some body, after)
      → IsFront (λ (x : List Mutation × Left). x.0) found (filled_at tables shards body.1 before body.0)
      → IsFront (λ (x : (Bool × List Mutation) × Left). x.0.1) found (gated_at tables shards size before (left_of file at))
  front_whole at file bytes left after body found is next has e front =
      let rest = drop (length bytes) (drop at file) in
      let here = subst (λ (r : Read (Bool × List Mutation)). IsFront (λ (x : (Bool × List Mutation) × Left). x.0.1) found r) (sym (by_filled left after body e) ∙ ap (gated_at tables shards size before) is)
      (part_front tables shards found after (filled_at tables shards body.1 before body.0) front) in
      subst (λ (r : Read (Bool × List Mutation)). IsFront (λ (x : (Bool × List Mutation) × Left). x.0.1) found r) (sym (gated_again tables shards size before at file bytes next has))
      (followed_front tables shards found rest (gated_at tables shards size before (read_left bytes at)) here)

  pub block_fault : (at : ℕ) (file bytes : List ℕ) (left : Left) → left ≡ read_left bytes at → AreNext at file bytes → HasBlock size at file bytes
      → (g : ReadFault) → gated_at tables shards size before left ≡ Err g → gated_at tables shards size before (left_of file at) ≡ Err g
  block_fault at file bytes left is next has g e =
      refused_too (drop (length bytes) (drop at file)) g (gated_at tables shards size before (read_left bytes at)) (gated_at tables shards size before (left_of file at))
      (gated_again tables shards size before at file bytes next has) (ap (gated_at tables shards size before) (sym is) ∙ e)
