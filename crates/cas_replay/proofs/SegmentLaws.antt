-- A segment is read where it stands and nowhere else.
use Rattle.std.proofs.Common.{◌≡◌, ◌≢◌, inl, inr, ℕ, zero, suc, ◌+◌, ◌<◌, ◌≤◌, ◌^◌, leb, eqb, ltb, cond, Bool, true, false, List, [], ◌∷◌, ◌++◌, length, Result, Ok, Err, refl, sym, ap, subst, ◌∙◌, append_assoc, arith, codes, bytes_eq}
use Rattle.std.specs.Int.{w8, from_be_bytes, is_in_range}
use Rattle.std.specs.List.{AllByRecursion}
use Rattle.std.proofs.Math.Nat.{add-zero}
use Rattle.std.proofs.lemmas.Bool.{cases_eq, eqb-true, eq-eqb, leb-true, le-leb, and_parts, and_from}
use Rattle.std.proofs.lemmas.Bool.Decides.{nat_tests}
use Rattle.std.proofs.lemmas.List.{length-append, append-nil}
use Rattle.std.proofs.lemmas.Slice.Eq.{bytes_eq-Decides}
use Rattle.cas_types.specs.Limits.{IsShardCount}
use Rattle.cas_types.specs.declared.schema.TableSchema.{TableSchema}
use Rattle.cas_codec.specs.declared.fault.ReadFault.{ReadFault}
use Rattle.cas_codec.specs.declared.fault.ReadFault.TheVariants.{Short, Bad}
use Rattle.cas_codec.specs.Fields.{u8, u32, u64, bytes32}
use Rattle.cas_codec.specs.Reading.{Left, Read, ◌>>=◌, checked, bytes_at, unsigned_at, u8_at, u32_at, u64_at}
use Rattle.cas_codec.specs.Exact.{AreBytes, Begins, IsExact}
use Rattle.cas_codec.proofs.Exactness.{bind_ok, test_ok, ok_is, done, read_left, AreBytes-rest, AreBytes-front, Begins-then, exact_checked}
use Rattle.cas_codec.proofs.FieldLaws.{u8_field, u32_field, u64_field, exact_bytes}
use Rattle.cas_atoms.specs.declared.atom.Mutation.{Mutation}
use Rattle.cas_mutations.specs.Spelling.{record_bytes, mutation_bytes}
use Rattle.cas_mutations.specs.Allowed.{AreTables, FitsRecord}
use Rattle.cas_mutations.specs.Reading.{record_at}
use Rattle.cas_mutations.proofs.RecordLaws.{record_exact}
use Rattle.cas_log.specs.Segment.{IsSize, header, lengths, body, block, opened, joined, front}
use Rattle.cas_replay.specs.Reading.{follows, next_at, records_at, length_at, block_at, blocks_at, header_at, segment_at, segment_of, in_segment, log_of}
use Rattle.cas_replay.specs.Grammar.{AreInOrder, IsSegmentOf, AreSegments, IsLog}
use Rattle.cas_replay.proofs.Order.{Follow, in_order, each_follows}

begins_none : (left : Left) → Begins [] left left
begins_none left = record { bytes = refl; at = sym (add-zero left.at) }

nothing_left : (xs : List ℕ) → eqb (length xs) 0 ≡ true → xs ≡ []
nothing_left [] e = refl
nothing_left (x ∷ xs) e = let none : length (x ∷ xs) ≡ 0 = eqb-true (length (x ∷ xs)) 0 e in absurd (omega arith)

length-lengths : (long count : ℕ) → length (lengths long count) ≡ 8
unfolding lengths u32
length-lengths long count = refl

length-block : (ms : List Mutation) → length (block ms) ≡ 8 + length (body ms)
length-block ms = omega (arith, length-append (lengths (length (body ms)) (length ms)) (body ms), length-lengths (length (body ms)) (length ms))

length-header : (number size : ℕ) → length (header number size) ≡ 24
unfolding header u64
length-header number size = refl

length-u32 : (n : ℕ) → length (u32 n) ≡ 4
unfolding u32
length-u32 n = refl

length-record : (m : Mutation) → length (record_bytes m) ≡ 4 + length (mutation_bytes m)
unfolding bytes32
length-record m = omega (arith, length-append (u32 (length (mutation_bytes m))) (mutation_bytes m), length-u32 (length (mutation_bytes m)))

-- each record has bytes
many : (ms : List Mutation) → length ms ≤ length (body ms)
many [] = omega arith
many (m ∷ ms) = omega (arith, many ms, length-append (record_bytes m) (body ms), length-record m)

many_blocks : (blocks : List (List Mutation)) → length blocks ≤ length (opened blocks)
many_blocks [] = omega arith
many_blocks (ms ∷ blocks) = omega (arith, many_blocks blocks, length-append (1 ∷ block ms) (opened blocks))

-- ---- order

follow_both : (before ms others : List Mutation) → Follow before ms → Follow (before ++ ms) others → Follow before (ms ++ others)
follow_both before [] others first second = subst (λ (l : List Mutation). Follow l others) (append-nil before) second
follow_both before (m ∷ ms) others first second = (
  first.0,
  follow_both (before ++ m ∷ []) ms others first.1 (subst (λ (l : List Mutation). Follow l others) (sym (append_assoc before
      (m ∷ []) ms)) second),
)

follow_parts : (before ms others : List Mutation) → Follow before (ms ++ others) → Follow before ms × Follow (before ++ ms) others
follow_parts before [] others all = (tt, subst (λ (l : List Mutation). Follow l others) (sym (append-nil before)) all)
follow_parts before (m ∷ ms) others all =
    let both = follow_parts (before ++ m ∷ []) ms others all.1 in
    ((all.0, both.0), subst (λ (l : List Mutation). Follow l others) (append_assoc before (m ∷ []) ms) both.1)

pub fit_both : (P : Mutation → Type 0) (ms others : List Mutation) → AllByRecursion P ms → AllByRecursion P others → AllByRecursion P (ms ++ others)
fit_both P [] others first second = second
fit_both P (m ∷ ms) others first second = (first.0, fit_both P ms others first.1 second)

fit_parts : (P : Mutation → Type 0) (ms others : List Mutation) → AllByRecursion P (ms ++ others) → AllByRecursion P ms × AllByRecursion P others
fit_parts P [] others all = (tt, all)
fit_parts P (m ∷ ms) others all = let both = fit_parts P ms others all.1 in ((all.0, both.0), both.1)

-- ---- the header

size_in : (size : ℕ) → is_in_range 4096 (2 ^ 25) size ≡ true → IsSize size
size_in size e =
    let p = and_parts (leb 4096 size) (leb size (2 ^ 25)) e in
    (leb-true 4096 size p.0, leb-true size (2 ^ 25) p.1)

size_from : (size : ℕ) → IsSize size → is_in_range 4096 (2 ^ 25) size ≡ true
size_from size fit = and_from (leb 4096 size) (leb size (2 ^ 25)) (le-leb 4096 size fit.0) (le-leb size (2 ^ 25) fit.1)

abbrev word_at : Left → Read (List ℕ)
word_at left = checked (λ w. bytes_eq w (codes "CASSLOG1")) (λ l. bytes_at l.at 8 l) left

word_exact : IsExact (λ w. (length w ≡ 8) × (bytes_eq w (codes "CASSLOG1") ≡ true)) (λ w. w) word_at
word_exact = exact_checked (λ w. length w ≡ 8) (λ w. w) (λ l. bytes_at l.at 8 l) (λ w. bytes_eq w (codes "CASSLOG1")) (exact_bytes (λ l. l.at) 8)

named_exact : (number : ℕ) → IsExact (λ n. (n < 2 ^ 64) × (eqb n number ≡ true)) u64 (checked (λ n. eqb n number) u64_at)
named_exact number = exact_checked (λ n. n < 2 ^ 64) u64 u64_at (λ n. eqb n number) u64_field.exact

size_exact : IsExact (λ n. (n < 2 ^ 64) × (is_in_range 4096 (2 ^ 25) n ≡ true)) u64 (checked (is_in_range 4096 (2 ^ 25)) u64_at)
size_exact = exact_checked (λ n. n < 2 ^ 64) u64 u64_at (is_in_range 4096 (2 ^ 25)) u64_field.exact

abbrev with_named : ℕ × Left → Read ℕ
with_named named = checked (is_in_range 4096 (2 ^ 25)) u64_at named.1

abbrev with_word : ℕ → List ℕ × Left → Read ℕ
with_word number w = checked (λ n. eqb n number) u64_at w.1 >>= λ named. with_named named

pub header_found : (number size : ℕ) (old new : Left) → AreBytes old.bytes → header_at number old ≡ Ok (size, new)
    → IsSize size × Begins (header number size) old new
unfolding header_at header
header_found number size old new bytes e =
    let p = bind_ok (word_at old) (with_word number) (size, new) e in
    let f = word_exact.found old p.0.1 p.0.0 bytes p.1 in
    let bytes1 = AreBytes-rest old.bytes p.0.0 p.0.1.bytes bytes f.1.bytes in
    let q = bind_ok (checked (λ n. eqb n number) u64_at p.0.1) with_named (size, new) p.2 in
    let g = (named_exact number).found p.0.1 q.0.1 q.0.0 bytes1 q.1 in
    let bytes2 = AreBytes-rest p.0.1.bytes (u64 q.0.0) q.0.1.bytes bytes1 g.1.bytes in
    let h = size_exact.found q.0.1 new size bytes2 q.2 in
    let is_word : p.0.0 ≡ codes "CASSLOG1" = (bytes_eq-Decides p.0.0 (codes "CASSLOG1")).0 f.0.1 in
    let is_number : q.0.0 ≡ number = eqb-true q.0.0 number g.0.1 in (
      size_in size h.0.1,
      subst (λ (xs : List ℕ). Begins xs old new) (λ i. is_word i ++ (u64 (is_number i) ++ u64 size))
          (Begins-then p.0.0 (u64 q.0.0 ++ u64 size) old p.0.1 new f.1 (Begins-then (u64 q.0.0) (u64 size) p.0.1 q.0.1 new g.1 h.1)),
    )

-- a gate is read, whatever it is
gate_again : (gate : ℕ) (rest : List ℕ) (at : ℕ) → u8_at (read_left (gate ∷ rest) at) ≡ Ok (gate, read_left rest (at + 1))
unfolding u8_at unsigned_at bytes_at
gate_again gate rest at =
    let there : ltb (length (gate ∷ rest)) 1 ≡ false = grind (arith, nat_tests) in
    let front : List ℕ × Left = (gate ∷ [], read_left rest (at + 1)) in
    ap (λ (b : Bool). cond b (Err (Short at)) (Ok front) >>= λ (f : List ℕ × Left). Ok (from_be_bytes w8 f.0, f.1)) there

header_again : (number size : ℕ) (rest : List ℕ) (at : ℕ) → number < 2 ^ 64 → IsSize size
    → header_at number (read_left (header number size ++ rest) at) ≡ Ok (size, read_left rest (at + length (header number size)))
unfolding header_at header
header_again number size rest at lt fit =
    let w = codes "CASSLOG1" in
    let most : size ≤ 2 ^ 25 = fit.1 in
    let regrouped : header number size ++ rest ≡ w ++ (u64 number ++ (u64 size ++ rest)) =
    append_assoc w (u64 number ++ u64 size) rest ∙ ap (λ (l : List ℕ). w ++ l) (append_assoc (u64 number) (u64 size) rest) in
    let place : at + length w + length (u64 number) + length (u64 size) ≡ at + length (header number size) =
    omega (arith, length-append w (u64 number ++ u64 size), length-append (u64 number) (u64 size)) in
    ap (λ (l : List ℕ). word_at (read_left l at) >>= with_word number) regrouped
    ∙ ap (λ (r : Read (List ℕ)). r >>= with_word number) (word_exact.again w (u64 number ++ (u64 size ++ rest)) at (refl, refl))
    ∙ ap (λ (r : Read ℕ). r >>= with_named) ((named_exact number).again number (u64 size ++ rest) (at + length w) (lt, eq-eqb number number refl))
    ∙ size_exact.again size rest (at + length w + length (u64 number)) (omega (arith, most), size_from size fit)
    ∙ ap (λ (n : ℕ). done (size, read_left rest n)) place

module _ (tables : List TableSchema) (shards : ℕ) (are : AreTables tables) (some : IsShardCount shards) where
  abbrev Fits : Mutation → Type 0
  Fits m = FitsRecord tables shards m

  -- ---- records

  next_exact : (before : List Mutation) → IsExact (λ m. Fits m × (follows before m ≡ true)) record_bytes (next_at tables shards before)
  unfolding next_at
  next_exact before = exact_checked Fits record_bytes (record_at tables shards) (follows before) (record_exact tables shards are some)

  records_found : (n : ℕ) (before all : List Mutation) (old new : Left) → AreBytes old.bytes → records_at tables shards n before old ≡ Ok (all, new)
      → (ms : List Mutation) × (all ≡ before ++ ms) × (length ms ≡ n) × AllByRecursion Fits ms × Follow before ms × Begins (body ms) old new
  unfolding records_at
  records_found zero before all old new bytes e =
      subst (λ (y : List Mutation × Left). (ms : List Mutation) × (y.0 ≡ before ++ ms) ×
      (length ms ≡ 0) × AllByRecursion Fits ms × Follow before ms × Begins (body ms) old y.1)
      (ok_is (before, old) (all, new) e) ([], sym (append-nil before), refl, tt, tt, begins_none old)
  records_found (suc n) before all old new bytes e =
      let p = bind_ok (next_at tables shards before old) (λ (next : Mutation × Left). records_at tables shards n (before ++ next.0 ∷ []) next.1)
      (all, new) e in
      let f = (next_exact before).found old p.0.1 p.0.0 bytes p.1 in
      let (ms, is, len, fit, follow, begins) = records_found n (before ++ p.0.0 ∷ []) all p.0.1 new (AreBytes-rest _ _ _ bytes f.1.bytes) p.2 in
      (p.0.0 ∷ ms, is ∙ append_assoc before (p.0.0 ∷ []) ms, ap (λ (k : ℕ). suc k) len, (f.0.0, fit), (f.0.1, follow), Begins-then _ _ _ _ _ f.1 begins)

  records_again : (before ms : List Mutation) (rest : List ℕ) (at : ℕ) → AllByRecursion Fits ms → Follow before ms
      → records_at tables shards (length ms) before (read_left (body ms ++ rest) at) ≡ Ok (before ++ ms, read_left rest (at + length (body ms)))
  unfolding records_at
  records_again before [] rest at fit follow = λ i. Ok (sym (append-nil before) i, read_left rest (sym (add-zero at) i))
  records_again before (m ∷ ms) rest at fit follow =
      let place : at + length (record_bytes m) + length (body ms) ≡ at + length (body (m ∷ ms)) = omega (arith, length-append (record_bytes m) (body ms)) in
      ap (λ (l : List ℕ). records_at tables shards (suc (length ms)) before (read_left l at)) (append_assoc (record_bytes m) (body ms) rest)
      ∙ ap (λ (r : Read Mutation). r >>= λ next. records_at tables shards (length ms) (before ++ next.0 ∷ []) next.1) ((next_exact before).again m
      (body ms ++ rest) at (fit.0, follow.0))
      ∙ records_again (before ++ m ∷ []) ms rest (at + length (record_bytes m)) fit.1 follow.1
      ∙ (λ i. Ok (append_assoc before (m ∷ []) ms i, read_left rest (place i)))

  -- ---- a block

  long_exact : (at size : ℕ) → IsExact (λ long. (long < 2 ^ 32) × (leb (at + long + 9) size ≡ true)) u32 (checked (λ long. leb (at + long + 9) size) u32_at)
  long_exact at size = exact_checked (λ n. n < 2 ^ 32) u32 u32_at (λ long. leb (at + long + 9) size) u32_field.exact

  abbrev with_body : List Mutation → List ℕ × Left → ℕ × Left → Read (List Mutation)
  with_body before b count =
      records_at tables shards count.0 before (record { bytes = b.0; at = count.1.at })
      >>= λ found. cond (eqb (length found.1.bytes) 0) (Ok (found.0, b.1)) (Err (Bad found.1.at))

  abbrev with_count : List Mutation → ℕ → ℕ → ℕ × Left → Read (List Mutation)
  with_count before place long count = bytes_at place long count.1 >>= λ b. with_body before b count

  abbrev with_long : List Mutation → ℕ → ℕ × Left → Read (List Mutation)
  with_long before place long = u32_at long.1 >>= λ count. with_count before place long.0 count

  pub block_found : (size : ℕ) (before all : List Mutation) (old new : Left) → AreBytes old.bytes → block_at tables shards size before old ≡ Ok (all, new)
      → (ms : List Mutation) × (all ≡ before ++ ms) × AllByRecursion Fits ms × Follow before ms × Begins (block ms) old new × (old.at + length
      (block ms) + 1 ≤ size)
  unfolding block_at length_at lengths
  block_found size before all old new bytes e =
      let p = bind_ok (checked (λ long. leb (old.at + long + 9) size) u32_at old) (with_long before old.at) (all, new) e in
      let f = (long_exact old.at size).found old p.0.1 p.0.0 bytes p.1 in
      let long = p.0.0 in
      let bytes1 = AreBytes-rest old.bytes (u32 long) p.0.1.bytes bytes f.1.bytes in
      let q = bind_ok (u32_at p.0.1) (with_count before old.at long) (all, new) p.2 in
      let g = u32_field.exact.found p.0.1 q.0.1 q.0.0 bytes1 q.1 in
      let count = q.0.0 in
      let bytes2 = AreBytes-rest p.0.1.bytes (u32 count) q.0.1.bytes bytes1 g.1.bytes in
      let r = bind_ok (bytes_at old.at long q.0.1) (λ (b : List ℕ × Left). with_body before b q.0) (all, new) q.2 in
      let h = (exact_bytes (λ l. old.at) long).found q.0.1 r.0.1 r.0.0 bytes2 r.1 in
      let inner = read_left r.0.0 q.0.1.at in
      let s = bind_ok (records_at tables shards count before inner) (λ (found : List Mutation × Left). cond (eqb (length found.1.bytes) 0) (Ok
      (found.0, r.0.1)) (Err (Bad found.1.at))) (all, new) r.2 in
      let (ms, is, len, fit, follow, begins) = records_found count before s.0.0 inner s.0.1
      (AreBytes-front q.0.1.bytes r.0.0 r.0.1.bytes bytes2 h.1.bytes) s.1 in
      let t = test_ok (eqb (length s.0.1.bytes) 0) (Bad s.0.1.at) (s.0.0, r.0.1) (all, new) s.2 in
      let whole : r.0.0 ≡ body ms = begins.bytes ∙ ap (λ (xs : List ℕ). body ms ++ xs) (nothing_left s.0.1.bytes t.0) ∙ append-nil (body ms) in
      let long_is : long ≡ length (body ms) = sym h.0 ∙ ap length whole in
      let spelled : u32 long ++ (u32 count ++ r.0.0) ≡ block ms =
      (λ i. u32 (long_is i) ++ (u32 (sym len i) ++ whole i)) ∙ sym (append_assoc (u32 (length (body ms))) (u32 (length ms)) (body ms)) in
      let there : Begins (block ms) old r.0.1 =
      subst (λ (xs : List ℕ). Begins xs old r.0.1) spelled (Begins-then _ _ _ _ _ f.1 (Begins-then _ _ _ _ _ g.1 h.1)) in
      let within : old.at + long + 9 ≤ size = leb-true _ _ f.0.1 in (
        ms,
        sym (ap (λ (y : List Mutation × Left). y.0) t.1) ∙ is,
        fit,
        follow,
        subst (λ (l : Left). Begins (block ms) old l) (ap (λ (y : List Mutation × Left). y.1) t.1) there,
        omega (arith, length-block ms, long_is, within),
      )

  block_again : (size : ℕ) (before ms : List Mutation) (rest : List ℕ) (at : ℕ) → AllByRecursion Fits ms → Follow before ms
      → at + length (block ms) + 1 ≤ size → size ≤ 2 ^ 25
      → block_at tables shards size before (read_left (block ms ++ rest) at) ≡ Ok (before ++ ms, read_left rest (at + length (block ms)))
  unfolding block_at length_at lengths
  block_again size before ms rest at fit follow within most =
      let long = length (body ms) in
      let count = length ms in
      let tail = u32 count ++ (body ms ++ rest) in
      let regrouped : block ms ++ rest ≡ u32 long ++ tail =
      append_assoc (u32 long ++ u32 count) (body ms) rest ∙ append_assoc (u32 long) (u32 count) (body ms ++ rest) in
      let fits : leb (at + long + 9) size ≡ true = le-leb _ _ (omega (arith, within, length-block ms)) in
      let at8 = at + length (u32 long) + length (u32 count) in
      let place : at8 + long ≡ at + length (block ms) = omega (
        arith,
        length-append (u32 long ++ u32 count) (body ms),
        length-append (u32 long)
            (u32 count),
      ) in
      let inner : records_at tables shards count before (read_left (body ms) at8) ≡ Ok (before ++ ms, read_left [] (at8 + long)) =
      ap (λ (xs : List ℕ). records_at tables shards count before (read_left xs at8)) (sym (append-nil (body ms)))
      ∙ records_again before ms [] at8 fit follow in
      ap (λ (l : List ℕ). checked (λ long. leb (at + long + 9) size) u32_at (read_left l at) >>= with_long before at) regrouped
      ∙ ap (λ (r : Read ℕ). r >>= with_long before at) ((long_exact at size).again long tail at (omega (arith, within, most, length-block ms), fits))
      ∙ ap (λ (r : Read ℕ). r >>= with_count before at long) (u32_field.exact.again count (body ms ++ rest) (at + length (u32 long)) (omega
      (arith, many ms, within, most, length-block ms)))
      ∙ ap (λ (r : Read (List ℕ)). r >>= λ b. with_body before b (count, read_left (body ms ++ rest) at8)) ((exact_bytes (λ l. at) long).again
      (body ms) rest at8 refl)
      ∙ ap (λ (r : Read (List Mutation)). r >>= λ found. cond (eqb (length found.1.bytes) 0) (Ok (found.0, read_left rest (at8 + long))) (Err
      (Bad found.1.at))) inner
      ∙ ap (λ (n : ℕ). done (before ++ ms, read_left rest n)) place

  -- ---- blocks

  abbrev behind_gate : ℕ → ℕ → List Mutation → ℕ × Left → Read (List Mutation)
  behind_gate n size before gate =
      cond (eqb gate.0 1) (block_at tables shards size before gate.1 >>= λ b. blocks_at tables shards n size b.0 b.1) (Ok (before, gate.1))

  -- blocks up to a gate that isn't open
  record Blocks (size : ℕ) (before all : List Mutation) (old new : Left) : Type 0 where
    pub blocks : List (List Mutation)
    pub gate : ℕ
    pub mid : Left
    pub are_all : all ≡ before ++ joined blocks
    pub fit : AllByRecursion Fits (joined blocks)
    pub follow : Follow before (joined blocks)
    pub begins : Begins (opened blocks) old mid
    pub shut : gate ≢ 1
    pub there : mid.bytes ≡ gate ∷ new.bytes
    pub within : old.at + length (opened blocks) + 1 ≤ size

  blocks_found : (n size : ℕ) (before all : List Mutation) (old new : Left) → AreBytes old.bytes
      → blocks_at tables shards n size before old ≡ Ok (all, new) → old.at + 1 ≤ size
      → Blocks size before all old new
  unfolding blocks_at u8
  blocks_found zero size before all old new bytes e room = absurd cc
  blocks_found (suc n) size before all old new bytes e room =
      let p = bind_ok (u8_at old) (behind_gate n size before) (all, new) e in
      let f = u8_field.exact.found old p.0.1 p.0.0 bytes p.1 in
      let bytes1 = AreBytes-rest old.bytes (u8 p.0.0) p.0.1.bytes bytes f.1.bytes in
      let more = block_at tables shards size before p.0.1 >>= λ (b : List Mutation × Left). blocks_at tables shards n size b.0 b.1 in
      elim (cases_eq p.0.0 1) [
        | inl is_one ↦
            let e1 : more ≡ Ok (all, new) = sym (ap (λ (b : Bool). cond b more (Ok (before, p.0.1))) (eq-eqb p.0.0 1 is_one)) ∙ p.2 in
            let q = bind_ok (block_at tables shards size before p.0.1) (λ (b : List Mutation × Left). blocks_at tables shards n size b.0 b.1) (all, new) e1 in
            let (ms, is, fit, follow, begins, within) = block_found size before q.0.0 p.0.1 q.0.1 bytes1 q.1 in
            let bytes2 = AreBytes-rest p.0.1.bytes (block ms) q.0.1.bytes bytes1 begins.bytes in
            let rest = blocks_found n size q.0.0 all q.0.1 new bytes2 q.2 (omega (arith, begins.at, within)) in
            let front_is : Begins (1 ∷ block ms) old q.0.1 = subst (λ (g : ℕ). Begins (g ∷ block ms) old q.0.1) is_one (Begins-then (u8 p.0.0)
            (block ms) old p.0.1 q.0.1 f.1 begins) in
            record {
              blocks = ms ∷ rest.blocks;
              gate = rest.gate;
              mid = rest.mid;
              are_all = rest.are_all ∙ ap (λ (l : List Mutation). l ++ joined rest.blocks) is ∙ append_assoc before ms (joined rest.blocks);
              fit = fit_both Fits ms (joined rest.blocks) fit rest.fit;
              follow = follow_both before ms (joined rest.blocks) follow (subst (λ (l : List Mutation). Follow l (joined rest.blocks)) is rest.follow);
              begins = Begins-then (1 ∷ block ms) (opened rest.blocks) old q.0.1 rest.mid front_is rest.begins;
              shut = rest.shut;
              there = rest.there;
              within = omega (arith, rest.within, front_is.at, length-append (1 ∷ block ms) (opened rest.blocks));
            }
        | inr shut ↦
            let no : eqb p.0.0 1 ≡ false = grind (arith, nat_tests) in
            let e1 : done (before, p.0.1) ≡ done (all, new) = sym (ap (λ (b : Bool). cond b more (Ok (before, p.0.1))) no) ∙ p.2 in
            let same = ok_is (before, p.0.1) (all, new) e1 in
            record {
              blocks = [];
              gate = p.0.0;
              mid = old;
              are_all = sym (ap (λ (y : List Mutation × Left). y.0) same) ∙ sym (append-nil before);
              fit = tt;
              follow = tt;
              begins = begins_none old;
              shut = shut;
              there = f.1.bytes ∙ ap (λ (y : List Mutation × Left). p.0.0 ∷ y.1.bytes) same;
              within = omega (arith, room);
            }
      ]

  blocks_again : (n size : ℕ) (before : List Mutation) (blocks : List (List Mutation)) (gate : ℕ) (rest : List ℕ) (at : ℕ) → gate ≢ 1
      → length blocks < n
      → AllByRecursion Fits (joined blocks) → Follow before (joined blocks) → at + length (opened blocks) + 1 ≤ size → size ≤ 2 ^ 25
      → blocks_at tables shards n size before (read_left (opened blocks ++ gate ∷ rest) at) ≡ Ok (
        before ++ joined blocks,
        read_left rest
            (at + length (opened blocks) + 1),
      )
  unfolding blocks_at u8
  blocks_again zero size before blocks gate rest at shut enough fit follow within most = absurd (omega arith)
  blocks_again (suc n) size before [] gate rest at shut enough fit follow within most =
      let no : eqb gate 1 ≡ false = grind (arith, nat_tests) in
      let after = read_left rest (at + 1) in
      ap (λ (r : Read ℕ). r >>= behind_gate n size before) (gate_again gate rest at)
      ∙ ap (λ (b : Bool). cond b (block_at tables shards size before after >>= λ b. blocks_at tables shards n size b.0 b.1) (Ok (before, after))) no
      ∙ (λ i. Ok (sym (append-nil before) i, read_left rest (sym (add-zero at) i + 1)))
  blocks_again (suc n) size before (ms ∷ blocks) gate rest at shut enough fit follow within most =
      let x = gate ∷ rest in
      let tail = opened blocks ++ x in
      let behind : length (opened (ms ∷ blocks)) ≡ 1 + length (block ms) + length (opened blocks) = omega (
        arith,
        length-append (1 ∷ block ms)
            (opened blocks),
      ) in
      let fits = fit_parts Fits ms (joined blocks) fit in
      let follows_both = follow_parts before ms (joined blocks) follow in
      let place : at + 1 + length (block ms) + length (opened blocks) + 1 ≡ at + length (opened (ms ∷ blocks)) + 1 = omega (arith, behind) in
      ap (λ (l : List ℕ). u8_at (read_left l at) >>= behind_gate n size before) (append_assoc (1 ∷ block ms) (opened blocks) x)
      ∙ ap (λ (r : Read ℕ). r >>= behind_gate n size before) (u8_field.exact.again 1 (block ms ++ tail) at (omega arith))
      ∙ ap (λ (r : Read (List Mutation)). r >>= λ b. blocks_at tables shards n size b.0 b.1)
      (block_again size before ms tail (at + 1) fits.0 follows_both.0 (omega (arith, within, behind)) most)
      ∙ blocks_again n size (before ++ ms) blocks gate rest (at + 1 + length (block ms)) shut (omega (arith, enough)) fits.1 follows_both.1
      (omega (arith, within, behind)) most
      ∙ (λ i. Ok (append_assoc before ms (joined blocks) i, read_left rest (place i)))

  -- ---- a segment

  -- what a segment has behind these mutations
  pub record Behind (number : ℕ) (before all : List Mutation) (file : List ℕ) : Type 0 where
    pub mutations : List Mutation
    pub is : all ≡ before ++ mutations
    pub segment : IsSegmentOf tables shards number mutations file
    pub follow : Follow before mutations

  pub segment_found : (number : ℕ) (before all : List Mutation) (file : List ℕ) → AreBytes file → segment_of tables shards number before file ≡ Ok all
      → Behind number before all file
  unfolding segment_of segment_at
  segment_found number before all file bytes e =
      let start = read_left file 0 in
      let p = bind_ok (segment_at tables shards number before start) (λ (found : List Mutation × Left). Ok found.0) all e in
      let h = bind_ok (header_at number start) (λ (size : ℕ × Left). blocks_at tables shards (length size.1.bytes) size.0 before size.1) p.0 p.1 in
      let f = header_found number h.0.0 start h.0.1 bytes h.1 in
      let b = blocks_found (length h.0.1.bytes) h.0.0 before p.0.0 h.0.1 p.0.1 (AreBytes-rest file (header number h.0.0) h.0.1.bytes bytes f.1.bytes) h.2
      (omega (arith, f.0.0, f.1.at, length-header number h.0.0)) in
      record {
        mutations = joined b.blocks;
        is = sym (ok_is p.0.0 all p.2) ∙ b.are_all;
        segment = record {
          segment = record {
            size = h.0.0;
            blocks = b.blocks;
            gate = b.gate;
            rest = p.0.1.bytes;
            spelled = f.1.bytes ∙ ap (λ (l : List ℕ). header number h.0.0 ++ l) (b.begins.bytes ∙ ap (λ (l : List ℕ). opened b.blocks ++ l) b.there)
                ∙ sym (append_assoc (header number h.0.0) (opened b.blocks) (b.gate ∷ p.0.1.bytes));
            closed = b.shut;
            all = refl;
            sized = f.0;
            within = omega (arith, b.within, f.1.at, length-append (header number h.0.0) (opened b.blocks));
          };
          fit = b.fit;
        };
        follow = b.follow;
      }

  pub segment_again : (number : ℕ) (before ms : List Mutation) (file : List ℕ) → number < 2 ^ 64 → IsSegmentOf tables shards number ms file
      → Follow before ms → segment_of tables shards number before file ≡ Ok (before ++ ms)
  unfolding segment_of segment_at
  segment_again number before ms file lt is follow =
      let s = is.segment in
      let x = s.gate ∷ s.rest in
      let head = header number s.size in
      let tail = opened s.blocks ++ x in
      let whole : file ≡ head ++ tail = s.spelled ∙ append_assoc head (opened s.blocks) x in
      let long : length tail ≡ length (opened s.blocks) + 1 + length s.rest = omega (arith, length-append (opened s.blocks) x) in
      ap (λ (l : List ℕ). (header_at number (read_left l 0) >>= λ size. blocks_at tables shards
      (length size.1.bytes) size.0 before size.1) >>= λ found. Ok found.0) whole
      ∙ ap (λ (r : Read ℕ). (r >>= λ size. blocks_at tables shards (length size.1.bytes) size.0 before size.1) >>= λ found. Ok found.0)
      (header_again number s.size tail 0 lt s.sized)
      ∙ ap (λ (r : Read (List Mutation)). r >>= λ found. Ok found.0)
      (blocks_again (length tail) s.size before s.blocks s.gate s.rest (0 + length head) s.closed (omega (arith, long, many_blocks s.blocks))
      (subst (λ (l : List Mutation). AllByRecursion Fits l) (sym s.all) is.fit) (subst (λ (l : List Mutation). Follow before l) (sym s.all) follow)
      (omega (arith, s.within, length-append head (opened s.blocks))) s.sized.1)
      ∙ ap (λ (l : List Mutation). Ok (before ++ l)) s.all

  -- ---- a log

  in_segment_ok : (number : ℕ) (others : List Mutation → Result (List Mutation) (ℕ × ReadFault)) (r : Result (List Mutation) ReadFault) (all : List Mutation)
      → in_segment number others r ≡ Ok all → (found : List Mutation) × (r ≡ Ok found) × (others found ≡ Ok all)
  in_segment_ok number others (Ok found) all e = (found, refl, e)
  in_segment_ok number others (Err f) all e = absurd cc

  log_found : (file : ℕ → List ℕ) → ((n : ℕ) → AreBytes (file n)) → (numbers : List ℕ) (before all : List Mutation) → log_of tables shards file numbers before ≡ Ok all
      → (parts : List (List Mutation)) × AreSegments tables shards file numbers parts × (all ≡ before ++ joined parts) × Follow before (joined parts)
  unfolding log_of
  log_found file bytes [] before all e = let same : before ≡ all = cc in ([], tt, sym same ∙ sym (append-nil before), tt)
  log_found file bytes (n ∷ numbers) before all e =
      let p = in_segment_ok n (log_of tables shards file numbers) (segment_of tables shards n before (file n)) all e in
      let f = segment_found n before p.0 (file n) (bytes n) p.1 in
      let (parts, are_segments, is, follow) = log_found file bytes numbers p.0 all p.2 in
      let ms = f.mutations in (
        ms ∷ parts,
        (f.segment, are_segments),
        is ∙ ap (λ (l : List Mutation). l ++ joined parts) f.is ∙ append_assoc before ms (joined parts),
        follow_both before ms (joined parts) f.follow (subst (λ (l : List Mutation). Follow l (joined parts)) f.is follow),
      )

  log_again : (file : ℕ → List ℕ) → (numbers : List ℕ) → AllByRecursion (λ n. n < 2 ^ 64) numbers → (before : List Mutation) (parts : List (List Mutation))
      → AreSegments tables shards file numbers parts → Follow before (joined parts) → log_of tables shards file numbers before ≡ Ok (before ++ joined parts)
  unfolding log_of
  log_again file [] few before [] are_segments follow = ap (λ (l : List Mutation). Ok l) (sym (append-nil before))
  log_again file [] few before (ms ∷ parts) are_segments follow = absurd are_segments
  log_again file (n ∷ numbers) few before [] are_segments follow = absurd are_segments
  log_again file (n ∷ numbers) few before (ms ∷ parts) are_segments follow =
      let both = follow_parts before ms (joined parts) follow in
      ap (λ (r : Result (List Mutation) ReadFault). in_segment n (log_of tables shards file numbers) r) (segment_again n before ms (file n) few.0 are_segments.0 both.0)
      ∙ log_again file numbers few.1 (before ++ ms) parts are_segments.1 both.1
      ∙ ap (λ (l : List Mutation). Ok l) (append_assoc before ms (joined parts))

  pub is_log : (file : ℕ → List ℕ) → ((n : ℕ) → AreBytes (file n)) → (numbers : List ℕ) (all : List Mutation) → log_of tables shards file numbers [] ≡ Ok all
      → IsLog tables shards file numbers all
  is_log file bytes numbers all e =
      let (parts, are_segments, is, follow) = log_found file bytes numbers [] all e in
      record { parts = parts; segments = are_segments; all = sym is; ordered = subst AreInOrder (sym is) (in_order [] (joined parts) (λ shard. tt) follow) }

  pub of_log : (file : ℕ → List ℕ) → (numbers : List ℕ) → AllByRecursion (λ n. n < 2 ^ 64) numbers → (all : List Mutation)
      → IsLog tables shards file numbers all → log_of tables shards file numbers [] ≡ Ok all
  of_log file numbers few all is =
      log_again file numbers few [] is.parts is.segments (each_follows [] (joined is.parts) (subst AreInOrder (sym is.all) is.ordered)) ∙ ap (λ (l : List Mutation). Ok l) is.all
