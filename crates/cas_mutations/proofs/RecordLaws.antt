-- The records of the commit log are read exactly, and have the length that the log counts.
use Rattle.std.proofs.Common.{◌≡◌, ℕ, ℤ, pos, zero, suc, ◌<◌, ◌≤◌, ◌≤ℤ◌, ◌+◌, ◌^◌, leb, ltb, eqb, Bool, true, false, T, List, [], ◌∷◌, ◌++◌, length, Option, Some, None, Ok, refl, sym, ap, subst, ◌∙◌, arith}
use Rattle.std.specs.Prelude.{slice_get, FitsSigned, int_le}
use Rattle.std.specs.Int.{w64, is_in_range}
use Rattle.std.specs.Int.Signed.{le_z_yes}
use Rattle.std.specs.List.{AllByRecursion, flat_map, sum_by}
use Rattle.std.proofs.lemmas.Bool.{eqb-true, eq-eqb, leb-true, le-leb, ltb-true, lt-ltb, and_parts, and_from}
use Rattle.std.proofs.lemmas.Option.{slice_get_within}
use Rattle.std.proofs.lemmas.Int.{ints}
use Rattle.std.proofs.lemmas.List.{length-append}
use Rattle.std.proofs.lemmas.List.Sums.{sum_by-cons}
use Rattle.std.proofs.lemmas.List.Elements.{recursion_from_All, All-from_recursion}
use Rattle.cas_types.specs.Limits.{IsNarrow, IsShardCount, IsMoment}
use Rattle.cas_types.specs.declared.limits.TheConstants.{SHARD_LIMIT, KEY_LIMIT, MUTATION_LIMIT, LAST_DRAWN, LAST_SECOND}
use Rattle.cas_types.specs.declared.schema.Column.{Column}
use Rattle.cas_types.specs.declared.schema.TableSchema.{TableSchema}
use Rattle.cas_codec.specs.declared.fault.ReadFault.TheVariants.{Bad}
use Rattle.cas_codec.specs.Reading.{Left, checked, is_within, u8_at, u16_at, u32_at, u64_at, i64_at, flag_at, times_at}
use Rattle.cas_codec.specs.Fields.{u8, u16, u32, u64, i64, flag, bytes16}
use Rattle.cas_codec.specs.Exact.{Begins, IsExact}
use Rattle.cas_codec.proofs.Exactness.{bind_ok, test_ok, exact_then, exact_checked, exact_as}
use Rattle.cas_codec.proofs.FieldLaws.{u8_field, u16_field, u32_field, u64_field, i64_field, flag_field}
use Rattle.cas_codec.proofs.FieldLengths.{u8_long, u16_long, u32_long, u64_long, i64_long, flag_long, bytes16_long, bytes32_long}
use Rattle.cas_codec.proofs.Sequences.{exact_three, exact_four, exact_enclosed}
use Rattle.cas_codec.proofs.Times.{AreItems, exact_times}
use Rattle.cas_bounds.specs.ClusteringOrder.{clustering_order}
use Rattle.cas_cell.specs.declared.deletion.Deletion.{Deletion}
use Rattle.cas_cell.specs.declared.cell.Cell.{Cell}
use Rattle.cas_cell.specs.declared.cell.Cell.TheVariants as cell
use Rattle.cas_cell.specs.Cells.{cell_value}
use Rattle.cas_atoms.specs.declared.atom.ColumnRef.{ColumnRef}
use Rattle.cas_atoms.specs.declared.atom.Atom.{Atom}
use Rattle.cas_atoms.specs.declared.atom.Atom.TheVariants.{PartitionDeletion, RangeDeletion, RowDeletion, CollectionDeletion, Live, Write, StaticWrite, StaticCollectionDeletion}
use Rattle.cas_atoms.specs.declared.atom.Mutation.{Mutation}
use Rattle.cas_atoms.specs.Fits.{Fits, FitsStamp, FitsKey, FitsMutation}
use Rattle.cas_atoms.specs.LogLength.{short_length, deletion_length, cell_length, atom_length, record_length}
use Rattle.cas_records.specs.Spelling.{deletion_bytes, live_bytes, cell_bytes, clustering_bytes, cut_bytes}
use Rattle.cas_records.specs.Reading.{key_at}
use Rattle.cas_records.proofs.CellLaws.{timestamp_exact, key_exact, deletion_long, live_long, cell_long}
use Rattle.cas_records.proofs.BoundLaws.{clustering_long, cut_long}
use Rattle.cas_mutations.specs.Spelling.{atom_bytes, place_bytes, times_bytes, atoms_bytes, mutation_bytes, record_bytes}
use Rattle.cas_mutations.specs.Allowed.{HasSpelling, HasRecord, FitsAtom, AreTables, FitsRecord}
use Rattle.cas_mutations.specs.Reading.{numbered_at, table_at, place_at, stamp_at, times_of_at, atom_at, atoms_at, made_mutation, mutation_at, record_at}
use Rattle.cas_mutations.proofs.AtomLaws.{clustering_short, cut_short, atom_exact}

-- ---- lengths

written_long : (ref : ColumnRef) (p : List ℕ) (v : Cell) → length (u16 ref.number ++ (bytes16 p ++ cell_bytes v)) ≡ 2 + (short_length p + cell_length v)
written_long ref p v =
    omega (
      arith,
      length-append (u16 ref.number) (bytes16 p ++ cell_bytes v),
      length-append (bytes16 p) (cell_bytes v),
      u16_long ref.number,
      bytes16_long p,
      cell_long v,
    )

emptied_long : (ref : ColumnRef) (d : Deletion) → length (u16 ref.number ++ deletion_bytes d) ≡ 2 + deletion_length
emptied_long ref d = omega (arith, length-append (u16 ref.number) (deletion_bytes d), u16_long ref.number, deletion_long d)

pub atom_long : (a : Atom) → length (atom_bytes a) ≡ atom_length a
atom_long (PartitionDeletion d) = omega (arith, length-append (u8 1) (deletion_bytes d), u8_long 1, deletion_long d)
atom_long (RangeDeletion lo hi d) =
    omega (
      arith,
      length-append (u8 2) (cut_bytes lo ++ (cut_bytes hi ++ deletion_bytes d)),
      length-append (cut_bytes lo) (cut_bytes hi ++ deletion_bytes d),
      length-append (cut_bytes hi) (deletion_bytes d),
      u8_long 2,
      cut_long lo,
      cut_long hi,
      deletion_long d,
    )
atom_long (RowDeletion c d) =
    omega (
      arith,
      length-append (u8 3) (clustering_bytes c ++ deletion_bytes d),
      length-append (clustering_bytes c) (deletion_bytes d),
      u8_long 3,
      clustering_long c,
      deletion_long d,
    )
atom_long (CollectionDeletion c ref d) =
    omega (
      arith,
      length-append (u8 4) (clustering_bytes c ++ (u16 ref.number ++ deletion_bytes d)),
      length-append (clustering_bytes c) (u16 ref.number ++ deletion_bytes d),
      u8_long 4,
      clustering_long c,
      emptied_long ref d,
    )
atom_long (Live c l) =
    omega (
      arith,
      length-append (u8 5) (clustering_bytes c ++ live_bytes l),
      length-append (clustering_bytes c) (live_bytes l),
      u8_long 5,
      clustering_long c,
      live_long l,
    )
atom_long (Write c ref p v) =
    omega (
      arith,
      length-append (u8 6) (clustering_bytes c ++ (u16 ref.number ++ (bytes16 p ++ cell_bytes v))),
      length-append (clustering_bytes c) (u16 ref.number ++ (bytes16 p ++ cell_bytes v)),
      u8_long 6,
      clustering_long c,
      written_long ref p v,
    )
atom_long (StaticWrite ref p v) =
    omega (arith, length-append (u8 7) (u16 ref.number ++ (bytes16 p ++ cell_bytes v)), u8_long 7, written_long ref p v)
atom_long (StaticCollectionDeletion ref d) =
    omega (arith, length-append (u8 8) (u16 ref.number ++ deletion_bytes d), u8_long 8, emptied_long ref d)

pub atoms_longer : (a : Atom) (others : List Atom) → sum_by atom_length (a ∷ others) ≡ atom_length a + sum_by atom_length others
atoms_longer a others = sum_by-cons atom_length a others

each_long : (atoms : List Atom) → length (flat_map atom_bytes atoms) ≡ sum_by atom_length atoms
each_long [] = refl
each_long (a ∷ others) =
    length-append (atom_bytes a) (flat_map atom_bytes others) ∙ omega (arith, atom_long a, each_long others, atoms_longer a others)

pub record_long : (m : Mutation) → length (record_bytes m) ≡ record_length m
record_long m =
    omega (
      arith,
      bytes32_long (mutation_bytes m),
      length-append (place_bytes m.table m.shard m.number) (times_bytes m.drawn m.at m.moment ++ (bytes16 m.key ++ atoms_bytes m.atoms)),
      length-append (u16 m.table) (u8 m.shard ++ u64 m.number),
      length-append (u8 m.shard) (u64 m.number),
      length-append (times_bytes m.drawn m.at m.moment) (bytes16 m.key ++ atoms_bytes m.atoms),
      length-append (flag m.drawn) (i64 m.at ++ i64 m.moment),
      length-append (i64 m.at) (i64 m.moment),
      length-append (bytes16 m.key) (atoms_bytes m.atoms),
      length-append (u32 (length m.atoms)) (flat_map atom_bytes m.atoms),
      u16_long m.table,
      u8_long m.shard,
      u64_long m.number,
      flag_long m.drawn,
      i64_long m.at,
      i64_long m.moment,
      bytes16_long m.key,
      u32_long (length m.atoms),
      each_long m.atoms,
    )

pub body_long : (m : Mutation) → 4 + length (mutation_bytes m) ≡ record_length m
body_long m = sym (bytes32_long (mutation_bytes m)) ∙ record_long m

-- ---- which mutations have a record

value_within : (v : Cell) → length (cell_value v) ≤ cell_length v
value_within (cell.Plain at value) = omega arith
value_within (cell.Expiring at expiry ttl value) = omega arith
value_within (cell.Tombstone at second) = omega arith

atom_spelled : (columns : List Column) (a : Atom) → Fits columns a → atom_length a < 2 ^ 32 → HasSpelling a
atom_spelled columns (PartitionDeletion d) fit short = tt
atom_spelled columns (RangeDeletion lo hi d) fit short = (cut_short (clustering_order columns) lo fit.0.0, cut_short (clustering_order columns) hi fit.0.1)
atom_spelled columns (RowDeletion c d) fit short = clustering_short (clustering_order columns) c fit.0
atom_spelled columns (CollectionDeletion c ref d) fit short = clustering_short (clustering_order columns) c fit.0
atom_spelled columns (Live c l) fit short = clustering_short (clustering_order columns) c fit.0
atom_spelled columns (Write c ref p v) fit short =
    (clustering_short (clustering_order columns) c fit.0, fit.1.path.0, omega (arith, value_within v))
atom_spelled columns (StaticWrite ref p v) fit short = (fit.path.0, omega (arith, value_within v))
atom_spelled columns (StaticCollectionDeletion ref d) fit short = tt

each_spelled : (columns : List Column) (atoms : List Atom) → AllByRecursion (Fits columns) atoms → sum_by atom_length atoms < 2 ^ 32 → AllByRecursion HasSpelling atoms
each_spelled columns [] fit short = tt
each_spelled columns (a ∷ others) fit short =
    let whole = atoms_longer a others in
    (atom_spelled columns a fit.0 (omega arith), each_spelled columns others fit.1 (omega arith))

some_length : (a : Atom) → 1 ≤ atom_length a
some_length (PartitionDeletion d) = omega arith
some_length (RangeDeletion lo hi d) = omega arith
some_length (RowDeletion c d) = omega arith
some_length (CollectionDeletion c column d) = omega arith
some_length (Live c l) = omega arith
some_length (Write c column p v) = omega arith
some_length (StaticWrite column p v) = omega arith
some_length (StaticCollectionDeletion column d) = omega arith

count_within : (atoms : List Atom) → length atoms ≤ sum_by atom_length atoms
count_within [] = omega arith
count_within (a ∷ others) = omega (arith, some_length a, count_within others, atoms_longer a others)

pub has_record : (table : TableSchema) (shards : ℕ) (m : Mutation) → FitsMutation table shards m → record_length m < 2 ^ 32 → HasRecord m
has_record table shards m fit short =
    let most : length m.key ≤ KEY_LIMIT = fit.key.1 in
    record {
      key = omega arith;
      count = omega (arith, count_within m.atoms);
      atoms = each_spelled table.columns m.atoms (recursion_from_All (Fits table.columns) m.atoms fit.atoms) (omega arith);
      whole = omega (arith, record_long m, bytes32_long (mutation_bytes m));
    }

-- ---- which mutation it is

numbered_ok : (place n : ℕ) (left : Left) (o : Option TableSchema) (t : TableSchema) (new : Left) → numbered_at place n left o ≡ Ok (t, new)
    → (o ≡ Some t) × (t.number ≡ n) × (left ≡ new)
numbered_ok place n left None t new e = absurd cc
numbered_ok place n left (Some table) t new e =
    let p = test_ok (eqb table.number n) (Bad place) (table, left) (t, new) e in
    let same : table ≡ t = ap (λ (x : TableSchema × Left). x.0) p.1 in
    (ap (λ (x : TableSchema). Some x) same, ap (λ (x : TableSchema). x.number) (sym same) ∙ eqb-true table.number n p.0, ap (λ (x : TableSchema × Left). x.1) p.1)

abbrev IsTableOf : List TableSchema → TableSchema → Type 0
IsTableOf tables t = (slice_get tables t.number ≡ Some t) × (t.number < 2 ^ 16)

eqb_same : (n : ℕ) → eqb n n ≡ true
eqb_same n = eq-eqb n n refl

table_exact : (tables : List TableSchema) → IsExact (IsTableOf tables) (λ t. u16 t.number) (table_at tables)
unfolding table_at
table_exact tables = record {
  found = λ old new t are e.
      let q = bind_ok (u16_at old) (λ (number : ℕ × Left). numbered_at old.at number.0 number.1 (slice_get tables number.0)) (t, new) e in
      let f = u16_field.exact.found old q.0.1 q.0.0 are q.1 in
      let m = numbered_ok old.at q.0.0 q.0.1 (slice_get tables q.0.0) t new q.2 in
      let there : slice_get tables t.number ≡ Some t = ap (λ (n : ℕ). slice_get tables n) m.1 ∙ m.0 in (
        (there, subst (λ (n : ℕ). n < 2 ^ 16) (sym m.1) f.0),
        subst (λ (n : ℕ). Begins (u16 n) old new) (sym m.1) (subst (λ (l : Left). Begins (u16 q.0.0) old l) m.2 f.1),
      );
  again = λ t rest at fit. rw (u16_field.exact.again t.number rest at fit.1, fit.0, eqb_same t.number) refl;
}

abbrev IsShardOf : ℕ → ℕ → Type 0
IsShardOf shards s = (s < 2 ^ 8) × (ltb s shards ≡ true)

abbrev IsNumber : ℕ → Type 0
IsNumber n = (n < 2 ^ 64) × (is_in_range 1 MUTATION_LIMIT n ≡ true)

abbrev IsPlace : List TableSchema → ℕ → TableSchema × ℕ × ℕ → Type 0
IsPlace tables shards p = IsTableOf tables p.0 × IsShardOf shards p.1 × IsNumber p.2

abbrev spelled_place : TableSchema × ℕ × ℕ → List ℕ
spelled_place p = place_bytes p.0.number p.1 p.2

place_exact : (tables : List TableSchema) (shards : ℕ) → IsExact (IsPlace tables shards) spelled_place (place_at tables shards)
unfolding place_at
place_exact tables shards =
    exact_three (IsTableOf tables) (λ t. u16 t.number) (table_at tables) (λ t s. IsShardOf shards s) u8 (λ t. checked (λ s. ltb s shards) u8_at)
    (λ t s n. IsNumber n) u64 (λ t s. checked (is_in_range 1 MUTATION_LIMIT) u64_at) (IsPlace tables shards) spelled_place (λ t s n. (t, s, n))
    (table_exact tables)
    (λ t fit. exact_checked (λ s. s < 2 ^ 8) u8 u8_at (λ s. ltb s shards) u8_field.exact)
    (λ t s fit-t fit-s. exact_checked (λ n. n < 2 ^ 64) u64 u64_at (is_in_range 1 MUTATION_LIMIT) u64_field.exact)
    (λ t s n fit-t fit-s fit-n. ((fit-t, fit-s, fit-n), refl))
    (λ p fit. (p.0, p.1, p.2, fit.0, fit.1, fit.2, refl))

-- ---- when it was made

true_of : (b : Bool) → T b → b ≡ true
true_of true t = refl
true_of false t = absurd t

within_fits : (least greatest z : ℤ) → is_within least greatest z ≡ true → (least ≤ℤ z) × (z ≤ℤ greatest)
within_fits least greatest z e =
    let p = and_parts (int_le least z) (int_le z greatest) e in
    (le_z_yes (subst T (sym p.0) tt), le_z_yes (subst T (sym p.1) tt))

fits_within : (least greatest z : ℤ) → least ≤ℤ z → z ≤ℤ greatest → is_within least greatest z ≡ true
fits_within least greatest z a b = and_from (int_le least z) (int_le z greatest) (true_of _ a.le) (true_of _ b.le)

abbrev IsMomentField : ℤ → Type 0
IsMomentField z = FitsSigned w64 z × IsMoment z

moment_signed : (z : ℤ) → IsMoment z → FitsSigned w64 z
moment_signed z fit = let least = fit.0 in let most = fit.1 in grind (arith, ints)

drawn_signed : (z : ℤ) → FitsStamp true z → FitsSigned w64 z
drawn_signed z fit = let least = fit.0 in let most = fit.1 in grind (arith, ints)

moment_exact : IsExact IsMomentField i64 (checked (is_within (pos 0) LAST_SECOND) i64_at)
moment_exact =
    exact_as (λ z. FitsSigned w64 z × (is_within (pos 0) LAST_SECOND z ≡ true)) IsMomentField i64 i64 _ (checked (is_within (pos 0) LAST_SECOND) i64_at)
    (exact_checked (FitsSigned w64) i64 i64_at (is_within (pos 0) LAST_SECOND) i64_field.exact)
    (λ z fit. (fit.0, within_fits (pos 0) LAST_SECOND z fit.1)) (λ z fit. (fit.0, fits_within (pos 0) LAST_SECOND z fit.1.0 fit.1.1)) (λ z. refl) (λ left. refl)

stamp_exact : (drawn : Bool) → IsExact (FitsStamp drawn) i64 (stamp_at drawn)
stamp_exact true =
    exact_as (λ z. FitsSigned w64 z × (is_within (pos 0) LAST_DRAWN z ≡ true)) (FitsStamp true) i64 i64 _ (stamp_at true)
    (exact_checked (FitsSigned w64) i64 i64_at (is_within (pos 0) LAST_DRAWN) i64_field.exact)
    (λ z fit. within_fits (pos 0) LAST_DRAWN z fit.1) (λ z fit. (drawn_signed z fit, fits_within (pos 0) LAST_DRAWN z fit.0 fit.1)) (λ z. refl) (λ left. refl)
stamp_exact false = timestamp_exact

abbrev AreTimes : Bool × ℤ × ℤ → Type 0
AreTimes t = FitsStamp t.0 t.1 × IsMomentField t.2

abbrev spelled_times : Bool × ℤ × ℤ → List ℕ
spelled_times t = times_bytes t.0 t.1 t.2

times_exact : IsExact AreTimes spelled_times times_of_at
unfolding times_of_at
times_exact =
    exact_three (λ d. Unit {0}) flag flag_at (λ d z. FitsStamp d z) i64 (λ d. stamp_at d) (λ d z m. IsMomentField m) i64
    (λ d z. checked (is_within (pos 0) LAST_SECOND) i64_at) AreTimes spelled_times (λ d z m. (d, z, m))
    flag_field.exact
    (λ d fit. stamp_exact d)
    (λ d z fit-d fit-z. moment_exact)
    (λ d z m fit-d fit-z fit-m. ((fit-z, fit-m), refl))
    (λ t fit. (t.0, t.1, t.2, tt, fit.0, fit.1, refl))

-- ---- atoms

abbrev AreAtoms : List Column → List Atom → Type 0
AreAtoms columns atoms = (length atoms < 2 ^ 32) × AllByRecursion (FitsAtom columns) atoms

atoms_exact : (columns : List Column) → IsNarrow columns → IsExact (AreAtoms columns) atoms_bytes (atoms_at columns)
unfolding atoms_at
atoms_exact columns narrow =
    exact_then (λ n. n < 2 ^ 32) u32 u32_at (AreAtoms columns) atoms_bytes (λ n atoms. length atoms ≡ n) (λ n atoms. flat_map atom_bytes atoms)
    (λ before n left. times_at n (atom_at (clustering_order columns) columns) left)
    u32_field.exact
    (λ before n lt. exact_as (AreItems (FitsAtom columns) n) (λ atoms. AreAtoms columns atoms × (length atoms ≡ n)) (flat_map atom_bytes) (flat_map atom_bytes) _
    (λ left. times_at n (atom_at (clustering_order columns) columns) left)
    (exact_times (FitsAtom columns) atom_bytes (atom_at (clustering_order columns) columns) (atom_exact columns narrow) n)
    (λ atoms fit. ((subst (λ (k : ℕ). k < 2 ^ 32) (sym fit.0) lt, fit.1), fit.0))
    (λ atoms fit. (fit.1, fit.0.1)) (λ atoms. refl) (λ left. refl))
    (λ atoms fit. (length atoms, fit.0, refl))
    (λ n atoms fit is. ap (λ (k : ℕ). u32 k ++ flat_map atom_bytes atoms) is)

-- ---- mutations

some_is : {X : Type 0} (x y : X) → Some x ≡ Some y → x ≡ y
some_is x y e = cc

at_place : {X : Type 0} (P : X → Type 0) (xs : List X) (i : ℕ) (x : X) → AllByRecursion P xs → slice_get xs i ≡ Some x → P x
at_place P [] i x all e = absurd cc
at_place {X} P (y ∷ ys) zero x all e =
    subst P (some_is y x e) all.0
at_place P (y ∷ ys) (suc i) x all e = at_place P ys i x all.1 e

abbrev IsMade : List TableSchema → ℕ → Mutation → Type 0
IsMade tables shards m =
    (p : TableSchema × ℕ × ℕ) × (t : Bool × ℤ × ℤ) × (key : List ℕ) × (atoms : List Atom) × IsPlace tables shards p × AreTimes t × FitsKey key × AreAtoms p.0.columns atoms
    × (made_mutation p t key atoms ≡ m)

mutation_exact : (tables : List TableSchema) (shards : ℕ) → AreTables tables → IsExact (IsMade tables shards) mutation_bytes (mutation_at tables shards)
unfolding mutation_at
mutation_exact tables shards are =
    exact_four (IsPlace tables shards) spelled_place (place_at tables shards) (λ p t. AreTimes t) spelled_times (λ p. times_of_at) (λ p t key. FitsKey key) bytes16
    (λ p t. key_at) (λ p t key atoms. AreAtoms p.0.columns atoms) atoms_bytes (λ p t key. atoms_at p.0.columns) (IsMade tables shards) mutation_bytes
    (λ p t key atoms. made_mutation p t key atoms)
    (place_exact tables shards)
    (λ p fit. times_exact)
    (λ p t fit-p fit-t. key_exact)
    (λ p t key fit-p fit-t fit-k. atoms_exact p.0.columns (at_place (λ table. IsNarrow table.columns) tables p.0.number p.0 are.narrow fit-p.0.0))
    (λ p t key atoms fit-p fit-t fit-k fit-a. ((p, t, key, atoms, fit-p, fit-t, fit-k, fit-a, refl), refl))
    (λ m fit. fit)

-- ---- records

fits_each : (columns : List Column) (atoms : List Atom) → AllByRecursion (FitsAtom columns) atoms → AllByRecursion (Fits columns) atoms × AllByRecursion HasSpelling atoms
fits_each columns [] fit = (tt, tt)
fits_each columns (a ∷ others) fit = let both = fits_each columns others fit.1 in ((fit.0.0, both.0), (fit.0.1, both.1))

each_fits : (columns : List Column) (atoms : List Atom) → AllByRecursion (Fits columns) atoms → AllByRecursion HasSpelling atoms → AllByRecursion (FitsAtom columns) atoms
each_fits columns [] fit spelled = tt
each_fits columns (a ∷ others) fit spelled = ((fit.0, spelled.0), each_fits columns others fit.1 spelled.1)

number_parts : (n : ℕ) → is_in_range 1 MUTATION_LIMIT n ≡ true → (1 ≤ n) × (n ≤ MUTATION_LIMIT)
number_parts n e =
    let p = and_parts (leb 1 n) (leb n MUTATION_LIMIT) e in
    (leb-true 1 n p.0, leb-true n MUTATION_LIMIT p.1)

number_from : (n : ℕ) → 1 ≤ n → n ≤ MUTATION_LIMIT → IsNumber n
number_from n least most = (omega arith, and_from (leb 1 n) (leb n MUTATION_LIMIT) (le-leb 1 n least) (le-leb n MUTATION_LIMIT most))

key_short : (key : List ℕ) → FitsKey key → length key < 2 ^ 16
key_short key fit = let most : length key ≤ KEY_LIMIT = fit.1 in omega arith

made_fits : (tables : List TableSchema) (shards : ℕ) (m : Mutation) → IsMade tables shards m × (length (mutation_bytes m) < 2 ^ 32) → FitsRecord tables shards m
made_fits tables shards m fit =
    let (p, t, key, atoms, fit-p, fit-t, fit-k, fit-a, is) = fit.0 in
    let both = fits_each p.0.columns atoms fit-a.1 in
    let whole : length (mutation_bytes (made_mutation p t key atoms)) < 2 ^ 32 = subst (λ (x : Mutation). length (mutation_bytes x) < 2 ^ 32) (sym is) fit.1 in
    subst (λ (x : Mutation). FitsRecord tables shards x) is (record {
      table = p.0;
      there = fit-p.0.0;
      fits = record {
        of_table = refl;
        shard = ltb-true p.1 shards fit-p.1.1;
        number = number_parts p.2 fit-p.2.1;
        stamp = fit-t.0;
        moment = fit-t.1.1;
        key = fit-k;
        atoms = All-from_recursion (Fits p.0.columns) atoms both.0;
      };
      spelled = record { key = key_short key fit-k; count = fit-a.0; atoms = both.1; whole = whole };
    })

renumbered : (m : Mutation) (n : ℕ) → Mutation
renumbered m n = record { table = n; shard = m.shard; number = m.number; drawn = m.drawn; at = m.at; moment = m.moment; key = m.key; atoms = m.atoms }

fits_made : (tables : List TableSchema) (shards : ℕ) → AreTables tables → IsShardCount shards → (m : Mutation) → FitsRecord tables shards m
    → IsMade tables shards m × (length (mutation_bytes m) < 2 ^ 32)
unfolding renumbered
fits_made tables shards are some m fit =
    let f = fit.fits in
    let there : slice_get tables fit.table.number ≡ Some fit.table = ap (λ (n : ℕ). slice_get tables n) (sym f.of_table) ∙ fit.there in
    let within = slice_get_within tables fit.table.number fit.table there in
    let few : length tables ≤ 2 ^ 16 = are.few in
    let most : shards ≤ SHARD_LIMIT = some.1 in
    let below : m.shard < shards = f.shard in (
      (
        (fit.table, m.shard, m.number),
        (m.drawn, m.at, m.moment),
        m.key,
        m.atoms,
        ((there, omega arith), (omega arith, lt-ltb m.shard shards below), number_from m.number f.number.0 f.number.1),
        (f.stamp, (moment_signed m.moment f.moment, f.moment)),
        f.key,
        (fit.spelled.count, each_fits fit.table.columns m.atoms (recursion_from_All (Fits fit.table.columns) m.atoms f.atoms) fit.spelled.atoms),
        ap (λ (n : ℕ). renumbered m n) (sym f.of_table),
      ),
      fit.spelled.whole,
    )

pub record_exact : (tables : List TableSchema) (shards : ℕ) → AreTables tables → IsShardCount shards → IsExact (FitsRecord tables shards) record_bytes (record_at tables shards)
unfolding record_at
record_exact tables shards are some =
    exact_as (λ m. IsMade tables shards m × (length (mutation_bytes m) < 2 ^ 32)) (FitsRecord tables shards) record_bytes record_bytes _ (record_at tables shards)
    (exact_enclosed (IsMade tables shards) mutation_bytes (mutation_at tables shards) (mutation_exact tables shards are))
    (made_fits tables shards) (fits_made tables shards are some) (λ m. refl) (λ left. refl)
