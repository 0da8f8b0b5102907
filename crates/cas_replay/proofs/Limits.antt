-- What each record keeps to, of whatever tables it is.
use Rattle.std.proofs.Common.{◌≡◌, ◌≤◌, ◌+◌, ℕ, ℤ, pos, eqb, leb, ltb, cond, Bool, true, false, T, List, length, Ok, Err, sym, ap, subst, ◌∙◌}
use Rattle.std.specs.Prelude.{◌≤ℤ◌, int_le}
use Rattle.std.specs.Int.{is_in_range}
use Rattle.std.specs.Int.Signed.{le_z_yes}
use Rattle.std.proofs.lemmas.Bool.{leb-true, and_parts}
use Rattle.cas_types.specs.Limits.{IsMoment}
use Rattle.cas_types.specs.declared.limits.TheConstants.{LAST_SECOND, LAST_DRAWN, MUTATION_LIMIT}
use Rattle.cas_types.specs.declared.schema.TableSchema.{TableSchema}
use Rattle.cas_codec.specs.declared.fault.ReadFault.TheVariants.{Bad}
use Rattle.cas_codec.specs.Reading.{Left, Read, ◌>>=◌, checked, is_within, u8_at, u64_at, i64_at, flag_at, bytes32_at, enclosed_at}
use Rattle.cas_codec.proofs.Exactness.{bind_ok, test_ok, ok_is}
use Rattle.cas_records.specs.Reading.{key_at}
use Rattle.cas_atoms.specs.declared.atom.Atom.{Atom}
use Rattle.cas_atoms.specs.declared.atom.Mutation.{Mutation}
use Rattle.cas_mutations.specs.Reading.{table_at, place_at, stamp_at, times_of_at, atoms_at, made_mutation, mutation_at, record_at}
use Rattle.cas_replay.specs.Grammar.{IsWithinLimits}

abbrev Placed : Type 0
Placed = TableSchema × ℕ × ℕ

abbrev Timed : Type 0
Timed = Bool × ℤ × ℤ

checked_ok : {A : Type 0} (test : A → Bool) (reading : Left → Read A) (left : Left) (x : A) (new : Left) → checked test reading left ≡ Ok (x, new) → test x ≡ true
unfolding checked
checked_ok {A} test reading left x new e =
    let p = bind_ok (reading left) (λ (found : A × Left). cond (test found.0) (Ok found) (Err (Bad left.at))) (x, new) e in
    let q = test_ok (test p.0.0) (Bad left.at) p.0 (x, new) p.2 in
    ap (λ (y : A × Left). test y.0) (sym q.1) ∙ q.0

within : (least greatest z : ℤ) → is_within least greatest z ≡ true → (least ≤ℤ z) × (z ≤ℤ greatest)
within least greatest z e =
    let p = and_parts (int_le least z) (int_le z greatest) e in
    (le_z_yes (subst T (sym p.0) tt), le_z_yes (subst T (sym p.1) tt))

in_range : (n : ℕ) → is_in_range 1 MUTATION_LIMIT n ≡ true → (1 ≤ n) × (n ≤ MUTATION_LIMIT)
in_range n e =
    let p = and_parts (leb 1 n) (leb n MUTATION_LIMIT) e in
    (leb-true 1 n p.0, leb-true n MUTATION_LIMIT p.1)

-- which mutation it is

abbrev with_number : TableSchema → ℕ → ℕ × Left → Read Placed
with_number table shard number = Ok ((table, shard, number.0), number.1)

abbrev with_shard : TableSchema → ℕ × Left → Read Placed
with_shard table shard = checked (is_in_range 1 MUTATION_LIMIT) u64_at shard.1 >>= λ number. with_number table shard.0 number

number_within : (tables : List TableSchema) (shards : ℕ) (old new : Left) (p : Placed) → place_at tables shards old ≡ Ok (p, new) → (1 ≤ p.2) × (p.2 ≤ MUTATION_LIMIT)
unfolding place_at
number_within tables shards old new p e =
    let a = bind_ok (table_at tables old) (λ (table : TableSchema × Left). checked (λ s. ltb s shards) u8_at table.1 >>= λ shard. with_shard table.0 shard) (p, new) e in
    let b = bind_ok (checked (λ s. ltb s shards) u8_at a.0.1) (with_shard a.0.0) (p, new) a.2 in
    let d = bind_ok (checked (is_in_range 1 MUTATION_LIMIT) u64_at b.0.1) (with_number a.0.0 b.0.0) (p, new) b.2 in
    let whole : Placed × Left = ((a.0.0, b.0.0, d.0.0), d.0.1) in
    let same = ok_is whole (p, new) d.2 in
    subst (λ (y : Placed × Left). (1 ≤ y.0.2) × (y.0.2 ≤ MUTATION_LIMIT)) same
    (in_range d.0.0 (checked_ok (is_in_range 1 MUTATION_LIMIT) u64_at b.0.1 d.0.0 d.0.1 d.1))

-- when it was made

stamp_within : (drawn : Bool) (old new : Left) (z : ℤ) → stamp_at drawn old ≡ Ok (z, new) → drawn ≡ true → z ≤ℤ LAST_DRAWN
stamp_within true old new z e is = (within (pos 0) LAST_DRAWN z (checked_ok (is_within (pos 0) LAST_DRAWN) i64_at old z new e)).1
stamp_within false old new z e is = absurd cc

abbrev with_moment : Bool → ℤ → ℤ × Left → Read Timed
with_moment drawn at moment = Ok ((drawn, at, moment.0), moment.1)

abbrev with_stamp : Bool → ℤ × Left → Read Timed
with_stamp drawn at = checked (is_within (pos 0) LAST_SECOND) i64_at at.1 >>= λ moment. with_moment drawn at.0 moment

times_within : (old new : Left) (t : Timed) → times_of_at old ≡ Ok (t, new) → (t.0 ≡ true → t.1 ≤ℤ LAST_DRAWN) × IsMoment t.2
unfolding times_of_at
times_within old new t e =
    let a = bind_ok (flag_at old) (λ (drawn : Bool × Left). stamp_at drawn.0 drawn.1 >>= λ at. with_stamp drawn.0 at) (t, new) e in
    let b = bind_ok (stamp_at a.0.0 a.0.1) (with_stamp a.0.0) (t, new) a.2 in
    let d = bind_ok (checked (is_within (pos 0) LAST_SECOND) i64_at b.0.1) (with_moment a.0.0 b.0.0) (t, new) b.2 in
    let whole : Timed × Left = ((a.0.0, b.0.0, d.0.0), d.0.1) in
    let same = ok_is whole (t, new) d.2 in
    subst (λ (y : Timed × Left). (y.0.0 ≡ true → y.0.1 ≤ℤ LAST_DRAWN) × IsMoment y.0.2) same (
      stamp_within a.0.0 a.0.1 b.0.1 b.0.0 b.1,
      within (pos 0) LAST_SECOND d.0.0 (checked_ok (is_within (pos 0) LAST_SECOND) i64_at b.0.1 d.0.0 d.0.1 d.1),
    )

-- the whole

module _ (tables : List TableSchema) (shards : ℕ) where
  abbrev with_atoms : Placed → Timed → List ℕ → List Atom × Left → Read Mutation
  with_atoms place times key atoms = Ok (made_mutation place times key atoms.0, atoms.1)

  abbrev with_key : Placed → Timed → List ℕ × Left → Read Mutation
  with_key place times key = atoms_at place.0.columns key.1 >>= λ atoms. with_atoms place times key.0 atoms

  abbrev with_times : Placed → Timed × Left → Read Mutation
  with_times place times = key_at times.1 >>= λ key. with_key place times.0 key

  mutation_within : (old new : Left) (m : Mutation) → mutation_at tables shards old ≡ Ok (m, new) → IsWithinLimits m
  unfolding mutation_at
  mutation_within old new m e =
      let a = bind_ok (place_at tables shards old) (λ (place : Placed × Left). times_of_at place.1 >>= λ times. with_times place.0 times) (m, new) e in
      let b = bind_ok (times_of_at a.0.1) (with_times a.0.0) (m, new) a.2 in
      let k = bind_ok (key_at b.0.1) (with_key a.0.0 b.0.0) (m, new) b.2 in
      let l = bind_ok (atoms_at a.0.0.0.columns k.0.1) (with_atoms a.0.0 b.0.0 k.0.0) (m, new) k.2 in
      let whole : Mutation × Left = (made_mutation a.0.0 b.0.0 k.0.0 l.0.0, l.0.1) in
      let same = ok_is whole (m, new) l.2 in
      let times = times_within a.0.1 b.0.1 b.0.0 b.1 in
      subst (λ (y : Mutation × Left). IsWithinLimits y.0) same
      (record { number = number_within tables shards old a.0.1 a.0.0 a.1; drawn = times.0; moment = times.1 })

  abbrev whole_body : Left → Mutation × Left → Read Mutation
  whole_body after found = cond (eqb (length found.1.bytes) 0) (Ok (found.0, after)) (Err (Bad found.1.at))

  pub record_within : (old new : Left) (m : Mutation) → record_at tables shards old ≡ Ok (m, new) → IsWithinLimits m
  unfolding record_at enclosed_at
  record_within old new m e =
      let p = bind_ok (bytes32_at old) (λ (bytes : List ℕ × Left). mutation_at tables shards (record { bytes = bytes.0; at = old.at + 4 }) >>= λ found. whole_body bytes.1 found) (m, new) e in
      let inner : Left = record { bytes = p.0.0; at = old.at + 4 } in
      let q = bind_ok (mutation_at tables shards inner) (whole_body p.0.1) (m, new) p.2 in
      let t = test_ok (eqb (length q.0.1.bytes) 0) (Bad q.0.1.at) (q.0.0, p.0.1) (m, new) q.2 in
      subst (λ (y : Mutation × Left). IsWithinLimits y.0) t.1 (mutation_within inner q.0.1 q.0.0 q.1)
