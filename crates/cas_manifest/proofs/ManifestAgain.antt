-- What is a manifest is read.
use Rattle.std.proofs.Common.{◌≡◌, ◌≢◌, ℕ, zero, suc, ◌+◌, ◌<◌, ◌≤◌, ◌^◌, eqb, cond, Bool, true, false, List, [], ◌∷◌, ◌++◌, length, Result, Ok, Err, refl, sym, ap, subst, ◌∙◌, append_assoc, arith, codes, bytes_eq}
use Rattle.std.specs.List.{fold}
use Rattle.std.proofs.lemmas.Bool.{le-leb}
use Rattle.std.proofs.lemmas.List.{length-append, append-nil}
use Rattle.std.proofs.lemmas.List.Elements.{All-head}
use Rattle.cas_codec.specs.declared.fault.ReadFault.{ReadFault}
use Rattle.cas_codec.specs.declared.fault.ReadFault.TheVariants.{Bad}
use Rattle.cas_codec.specs.Exact.{AreBytes}
use Rattle.std.proofs.lemmas.Bool.Decides.{nat_tests}
use Rattle.cas_codec.specs.Fields.{u8, u32}
use Rattle.cas_codec.specs.Reading.{Left, Read, ◌>>=◌, checked, u8_at, u32_at, bytes_at}
use Rattle.cas_codec.proofs.Exactness.{read_left, done, AreBytes-rest}
use Rattle.cas_codec.proofs.FieldLaws.{u8_field, exact_bytes}
use Rattle.cas_changes.specs.declared.entry.Entry.{Entry}
use Rattle.cas_changes.specs.declared.said.TheConstants.{FILE_LIMIT}
use Rattle.cas_changes.specs.Saying.{Saying, IsSaid, nothing, after, said_by}
use Rattle.cas_changes.specs.Allowed.{FitsNext}
use Rattle.cas_changes.specs.Spelling.{entry_bytes}
use Rattle.cas_changes.specs.Reading.{entry_at}
use Rattle.cas_changes.proofs.EntryLaws.{entry_exact}
use Rattle.cas_changes.proofs.EntryLengths.{entry_short}
use Rattle.cas_manifest.specs.File.{lengths, block, opened, front, MayFollow, IsManifest}
use Rattle.cas_manifest.specs.Reading.{Far, length_at, count_at, block_at, next_at, blocks_at, word_at, manifest_at, manifest_of}
use Rattle.cas_manifest.proofs.ManifestLaws.{is_said_after, none_said, u32_long, fits_file, length_exact, count_exact, with_body, with_count, with_long, beyond, gate_exact, word_exact, magic, front_long}

-- ---- a block

block_is : (e : Entry) → length (block e) ≡ 8 + length (entry_bytes e)
unfolding lengths
block_is e =
    omega (arith, length-append (u32 (length (entry_bytes e)) ++ u32 1) (entry_bytes e), length-append (u32 (length (entry_bytes e))) (u32 1), u32_long (length (entry_bytes e)), u32_long 1)

block_again : (s : Saying) → IsSaid s → (e : Entry) (rest : List ℕ) (at : ℕ) → FitsNext s e → at + length (block e) + 1 ≤ FILE_LIMIT
    → block_at s (read_left (block e ++ rest) at) ≡ Ok (e, read_left rest (at + length (block e)))
unfolding block_at length_at count_at lengths
block_again s is e rest at fit room =
    let body = entry_bytes e in
    let n = length body in
    let short : n < 2 ^ 32 = entry_short s e fit in
    let regrouped : block e ++ rest ≡ u32 n ++ (u32 1 ++ (body ++ rest)) =
    append_assoc (u32 n ++ u32 1) body rest ∙ append_assoc (u32 n) (u32 1) (body ++ rest) in
    let fits : fits_file at n ≡ true = le-leb (at + n + 9) FILE_LIMIT (omega (arith, room, block_is e)) in
    let at1 = at + length (u32 n) in
    let at2 = at1 + length (u32 1) in
    let inner : entry_at s (read_left body at2) ≡ Ok (e, read_left [] (at2 + n)) =
    ap (λ (l : List ℕ). entry_at s (read_left l at2)) (sym (append-nil body)) ∙ (entry_exact s is).again e [] at2 fit in
    let place : at2 + n ≡ at + length (block e) = omega (arith, block_is e, u32_long n, u32_long 1) in
    ap (λ (l : List ℕ). checked (fits_file at) u32_at (read_left l at) >>= with_long s at) regrouped
    ∙ ap (λ (r : Read ℕ). r >>= with_long s at) ((length_exact at).again n (u32 1 ++ (body ++ rest)) at (short, fits))
    ∙ ap (λ (r : Read ℕ). r >>= with_count s at n) (count_exact.again 1 (body ++ rest) at1 (omega arith, refl))
    ∙ ap (λ (r : Read (List ℕ)). r >>= with_body s at2) ((exact_bytes (λ l. at) n).again body rest at2 refl)
    ∙ ap (λ (r : Read Entry). r >>= λ found. cond (eqb (length found.1.bytes) 0) (Ok (found.0, read_left rest (at2 + n))) (Err (Bad found.1.at))) inner
    ∙ ap (λ (m : ℕ). done (e, read_left rest m)) place

-- ---- blocks

abbrev far_end : Far → ℕ → Result (Far × ℕ) ReadFault
far_end far at = Ok (far, at)

abbrev reads_far : Far → ℕ → Left → Read (Far × ℕ)
reads_far far at left = Ok ((far, at), left)

shut_gate : (gate : ℕ) → gate ≢ 1 → eqb gate 1 ≡ false
shut_gate gate shut = grind (arith, nat_tests, shut)

-- the blocks that follow are read, and left is what follows the closed gate
record ReadsAll (n : ℕ) (far : Far) (entries : List Entry) (gate : ℕ) (rest : List ℕ) (at : ℕ) : Type 0 where
  left : Left
  read : blocks_at n far (read_left (opened entries ++ gate ∷ rest) at) ≡ reads_far (fold after far.0 entries, far.1 ++ entries) (at + length (opened entries)) left

none_more : (n : ℕ) (far : Far) (gate : ℕ) (rest : List ℕ) (at : ℕ) → gate < 2 ^ 8 → gate ≢ 1 → ReadsAll (suc n) far [] gate rest at
unfolding blocks_at u8
none_more n far gate rest at byte shut =
    let left = read_left rest (at + 1) in
    let same : at ≡ at + 0 = omega arith in
    record {
      left = left;
      read = ap (λ (r : Read ℕ). r >>= beyond n far at) (u8_field.exact.again gate rest at byte)
          ∙ ap (λ (b : Bool). cond b (next_at far left >>= λ next. blocks_at n next.0 next.1) (reads_far far at left)) (shut_gate gate shut)
          ∙ ap (λ (l : List Entry). reads_far (far.0, l) at left) (sym (append-nil far.1))
          ∙ ap (λ (m : ℕ). reads_far (far.0, far.1 ++ []) m left) same;
    }

next_is : (far : Far) (left after_it : Left) (e : Entry) → block_at far.0 left ≡ Ok (e, after_it) → next_at far left ≡ Ok ((after far.0 e, far.1 ++ e ∷ []), after_it)
unfolding next_at
next_is far left after_it e is = ap (λ (r : Read Entry). r >>= λ x. Ok ((after far.0 x.0, far.1 ++ x.0 ∷ []), x.1)) is

more_read : (n : ℕ) (far : Far) (e : Entry) (entries : List Entry) (gate : ℕ) (rest : List ℕ) (at : ℕ)
    → block_at far.0 (read_left (block e ++ (opened entries ++ gate ∷ rest)) (at + 1)) ≡ Ok (e, read_left (opened entries ++ gate ∷ rest) (at + 1 + length (block e)))
    → ReadsAll n (after far.0 e, far.1 ++ e ∷ []) entries gate rest (at + 1 + length (block e)) → ReadsAll (suc n) far (e ∷ entries) gate rest at
unfolding blocks_at u8
more_read n far e entries gate rest at here others =
    let tail = opened entries ++ gate ∷ rest in
    let regrouped : opened (e ∷ entries) ++ gate ∷ rest ≡ 1 ∷ (block e ++ tail) = append_assoc (1 ∷ block e) (opened entries) (gate ∷ rest) in
    let place : at + 1 + length (block e) + length (opened entries) ≡ at + length (opened (e ∷ entries)) = omega (arith, length-append (1 ∷ block e) (opened entries)) in
    record {
      left = others.left;
      read = ap (λ (l : List ℕ). u8_at (read_left l at) >>= beyond n far at) regrouped
          ∙ ap (λ (r : Read ℕ). r >>= beyond n far at) (u8_field.exact.again 1 (block e ++ tail) at (omega arith))
          ∙ ap (λ (r : Read Far). r >>= λ next. blocks_at n next.0 next.1)
          (next_is far (read_left (block e ++ tail) (at + 1)) (read_left tail (at + 1 + length (block e))) e here)
          ∙ others.read
          ∙ ap (λ (l : List Entry). reads_far (fold after (after far.0 e) entries, l) (at + 1 + length (block e) + length (opened entries)) others.left)
          (append_assoc far.1 (e ∷ []) entries)
          ∙ ap (λ (m : ℕ). reads_far (fold after (after far.0 e) entries, far.1 ++ e ∷ entries) m others.left) place;
    }

blocks_again : (n : ℕ) (far : Far) (entries : List Entry) (gate : ℕ) (rest : List ℕ) (at : ℕ) → IsSaid far.0 → MayFollow far.0 entries → gate < 2 ^ 8 → gate ≢ 1
    → length entries < n → at + length (opened entries) + 1 ≤ FILE_LIMIT → ReadsAll n far entries gate rest at
blocks_again zero far entries gate rest at is follow byte shut few room = absurd (omega arith)
blocks_again (suc n) far [] gate rest at is follow byte shut few room = none_more n far gate rest at byte shut
blocks_again (suc n) far (e ∷ entries) gate rest at is follow byte shut few room =
    let long = length-append (1 ∷ block e) (opened entries) in
    more_read n far e entries gate rest at (block_again far.0 is e (opened entries ++ gate ∷ rest) (at + 1) follow.0 (omega (arith, room, long)))
    (blocks_again n (after far.0 e, far.1 ++ e ∷ []) entries gate rest (at + 1 + length (block e)) (is_said_after far.0 e is follow.0.0) follow.1 byte shut (omega arith)
    (omega (arith, room, long)))

-- ---- the whole

word_again : (rest : List ℕ) → word_at (read_left ((1 ∷ magic) ++ rest) 0) ≡ Ok (magic, read_left rest 9)
unfolding word_at u8
word_again rest =
    ap (λ (r : Read ℕ). r >>= λ gate. checked (λ w. bytes_eq w (codes "CASSMAN1")) (λ l. bytes_at l.at 8 l) gate.1) (gate_exact.again 1 (magic ++ rest) 0 (omega arith, refl))
    ∙ word_exact.again magic rest 1 (refl, refl)

each_long : (entries : List Entry) → length entries ≤ length (opened entries)
each_long [] = omega arith
each_long (e ∷ entries) = omega (arith, each_long entries, length-append (1 ∷ block e) (opened entries))

gate_byte : (front : List ℕ) (gate : ℕ) (rest : List ℕ) → AreBytes (front ++ gate ∷ rest) → gate < 2 ^ 8
gate_byte front gate rest are = byte_of gate rest (AreBytes-rest (front ++ gate ∷ rest) front (gate ∷ rest) are refl)
  where
    byte_of : (gate : ℕ) (rest : List ℕ) → AreBytes (gate ∷ rest) → gate < 2 ^ 8
    byte_of gate rest are = All-head (λ b. b < 256) gate rest are.each

again_of : (entries : List Entry) (gate : ℕ) (rest : List ℕ) → ReadsAll (length (opened entries ++ gate ∷ rest)) (nothing, []) entries gate rest 9
    → manifest_of (front entries ++ gate ∷ rest) ≡ Ok ((fold after nothing entries, entries), 9 + length (opened entries))
unfolding manifest_of manifest_at
again_of entries gate rest reads =
    let tail = opened entries ++ gate ∷ rest in
    ap (λ (l : List ℕ). manifest_at (read_left l 0) >>= λ found. Ok found.0) (append_assoc (1 ∷ magic) (opened entries) (gate ∷ rest))
    ∙ ap (λ (r : Read (List ℕ)). (r >>= λ word. blocks_at (length word.1.bytes) (nothing, []) word.1) >>= λ found. Ok found.0) (word_again tail)
    ∙ ap (λ (r : Read (Far × ℕ)). r >>= λ found. Ok found.0) reads.read

pub manifest_again : (file : List ℕ) (entries : List Entry) → AreBytes file → IsManifest entries file → manifest_of file ≡ Ok ((said_by entries, entries), length (front entries))
unfolding said_by
manifest_again file entries are is =
    let bytes = subst (λ (l : List ℕ). AreBytes l) is.spelled are in
    let room : 9 + length (opened entries) + 1 ≤ FILE_LIMIT = omega (arith, is.within, front_long entries) in
    ap (λ (l : List ℕ). manifest_of l) is.spelled
    ∙ again_of entries is.gate is.rest
    (blocks_again (length (opened entries ++ is.gate ∷ is.rest)) (nothing, []) entries is.gate is.rest 9 none_said is.follow (gate_byte (front entries) is.gate is.rest bytes) is.closed
    (omega (arith, each_long entries, length-append (opened entries) (is.gate ∷ is.rest))) room)
    ∙ ap (λ (m : ℕ). far_end (fold after nothing entries, entries) m) (sym (front_long entries))
