-- What is read of a manifest stands there.
use Rattle.std.proofs.Common.{◌≡◌, ◌≢◌, ℕ, zero, suc, ◌+◌, ◌<◌, ◌≤◌, ◌^◌, nat_le, eqb, cond, Bool, true, false, List, [], ◌∷◌, ◌++◌, map, length, Ok, Err, refl, sym, ap, subst, ◌∙◌, append_assoc, arith, codes, bytes_eq}
use Rattle.std.specs.List.{fold}
use Rattle.std.proofs.lemmas.Bool.{eqb-true, leb-true}
use Rattle.std.proofs.lemmas.Bool.Decides.{nat_tests}
use Rattle.std.proofs.lemmas.List.{length-append, append-nil}
use Rattle.std.proofs.lemmas.Slice.Eq.{bytes_eq-Decides}
use Rattle.cas_codec.specs.declared.fault.ReadFault.TheVariants.{Bad}
use Rattle.cas_codec.specs.Fields.{u8, u32}
use Rattle.cas_codec.specs.Reading.{Left, Read, ◌>>=◌, checked, bytes_at, u8_at, u32_at}
use Rattle.cas_codec.specs.Exact.{AreBytes, Begins, IsExact}
use Rattle.cas_codec.proofs.Exactness.{bind_ok, test_ok, ok_is, read_left, AreBytes-rest, AreBytes-front, Begins-then, exact_checked}
use Rattle.cas_codec.proofs.FieldLaws.{u8_field, u32_field, exact_bytes}
use Rattle.cas_changes.specs.declared.entry.Entry.{Entry}
use Rattle.cas_changes.specs.declared.entry.Entry.TheVariants as entry
use Rattle.cas_changes.specs.declared.said.TheConstants.{FILE_LIMIT}
use Rattle.cas_changes.specs.Saying.{Saying, IsSaid, nothing, after, said_by, with_columns}
use Rattle.cas_changes.specs.Allowed.{FitsEntry, FitsNext}
use Rattle.cas_changes.specs.Spelling.{entry_bytes}
use Rattle.cas_changes.specs.Reading.{entry_at}
use Rattle.cas_changes.proofs.EntryLaws.{entry_exact}
use Rattle.cas_manifest.specs.File.{lengths, block, opened, front, MayFollow, IsManifest}
use Rattle.cas_manifest.specs.Reading.{Far, length_at, count_at, block_at, next_at, blocks_at, word_at, manifest_at, manifest_of}
use Rattle.cas_manifest.specs.Reads.{IsRead}

-- ---- what is said stays within the limits of a store

map_long : {A B : Type 0} (f : A → B) (xs : List A) → length (map f xs) ≡ length xs
map_long f [] = refl
map_long f (x ∷ xs) = omega (arith, map_long f xs)

pub is_said_after : (s : Saying) (e : Entry) → IsSaid s → FitsEntry s e → IsSaid (after s e)
is_said_after s (entry.Store shards) is fit = record { tables = is.tables; shards = fit.1.1 }
is_said_after s (entry.Schema t) is fit =
    let number : t.number ≡ length s.tables = fit.1.number in
    record { tables = omega (arith, length-append s.tables (t ∷ []), number, fit.1.few); shards = is.shards }
is_said_after s (entry.NewSegment n) is fit = record { tables = is.tables; shards = is.shards }
is_said_after s (entry.DropSegment n) is fit = record { tables = is.tables; shards = is.shards }
is_said_after s (entry.Change c) is fit = record { tables = is.tables; shards = is.shards }
is_said_after s (entry.AddColumns table columns) is fit =
    record { tables = omega (arith, map_long (with_columns table columns) s.tables, is.tables); shards = is.shards }

pub none_said : IsSaid nothing
none_said = record { tables = omega arith; shards = omega arith }

-- ---- a block

none_left : (xs : List ℕ) → eqb (length xs) 0 ≡ true → xs ≡ []
none_left [] e = refl
none_left (x ∷ xs) e = let none : length (x ∷ xs) ≡ 0 = eqb-true (length (x ∷ xs)) 0 e in absurd (omega arith)

pub u32_long : (n : ℕ) → length (u32 n) ≡ 4
unfolding u32
u32_long n = refl

abbrev pub fits_file : ℕ → ℕ → Bool
fits_file at long = nat_le (at + long + 9) FILE_LIMIT

pub length_exact : (at : ℕ) → IsExact (λ n. (n < 2 ^ 32) × (fits_file at n ≡ true)) u32 (checked (fits_file at) u32_at)
length_exact at = exact_checked (λ n. n < 2 ^ 32) u32 u32_at (fits_file at) u32_field.exact

pub count_exact : IsExact (λ n. (n < 2 ^ 32) × (eqb n 1 ≡ true)) u32 (checked (λ n. eqb n 1) u32_at)
count_exact = exact_checked (λ n. n < 2 ^ 32) u32 u32_at (λ n. eqb n 1) u32_field.exact

abbrev pub with_body : Saying → ℕ → List ℕ × Left → Read Entry
with_body s at body = entry_at s (read_left body.0 at) >>= λ found. cond (eqb (length found.1.bytes) 0) (Ok (found.0, body.1)) (Err (Bad found.1.at))

abbrev pub with_count : Saying → ℕ → ℕ → ℕ × Left → Read Entry
with_count s at long count = bytes_at at long count.1 >>= with_body s count.1.at

abbrev pub with_long : Saying → ℕ → ℕ × Left → Read Entry
with_long s at long = checked (λ n. eqb n 1) u32_at long.1 >>= with_count s at long.0

-- an entry that may follow, in a block that ends within the file
abbrev HasBlock : Saying → Left → Entry × Left → Type 0
HasBlock s old y = FitsNext s y.0 × Begins (block y.0) old y.1 × (y.1.at + 1 ≤ FILE_LIMIT)

block_found : (s : Saying) → IsSaid s → (e : Entry) (old new : Left) → AreBytes old.bytes → block_at s old ≡ Ok (e, new) → HasBlock s old (e, new)
unfolding block_at length_at count_at lengths
block_found s is e old new bytes h =
    let p = bind_ok (checked (fits_file old.at) u32_at old) (with_long s old.at) (e, new) h in
    let f = (length_exact old.at).found old p.0.1 p.0.0 bytes p.1 in
    let bytes1 = AreBytes-rest old.bytes (u32 p.0.0) p.0.1.bytes bytes f.1.bytes in
    let q = bind_ok (checked (λ n. eqb n 1) u32_at p.0.1) (with_count s old.at p.0.0) (e, new) p.2 in
    let g = count_exact.found p.0.1 q.0.1 q.0.0 bytes1 q.1 in
    let bytes2 = AreBytes-rest p.0.1.bytes (u32 q.0.0) q.0.1.bytes bytes1 g.1.bytes in
    let r = bind_ok (bytes_at old.at p.0.0 q.0.1) (with_body s q.0.1.at) (e, new) q.2 in
    let k = (exact_bytes (λ l. old.at) p.0.0).found q.0.1 r.0.1 r.0.0 bytes2 r.1 in
    let t = bind_ok (entry_at s (read_left r.0.0 q.0.1.at))
    (λ (found : Entry × Left). cond (eqb (length found.1.bytes) 0) (Ok (found.0, r.0.1)) (Err (Bad found.1.at))) (e, new) r.2 in
    let u = test_ok (eqb (length t.0.1.bytes) 0) (Bad t.0.1.at) (t.0.0, r.0.1) (e, new) t.2 in
    let v = (entry_exact s is).found (read_left r.0.0 q.0.1.at) t.0.1 t.0.0 (AreBytes-front q.0.1.bytes r.0.0 r.0.1.bytes bytes2 k.1.bytes) t.1 in
    let body_is : r.0.0 ≡ entry_bytes t.0.0 =
    v.1.bytes ∙ ap (λ (l : List ℕ). entry_bytes t.0.0 ++ l) (none_left t.0.1.bytes u.0) ∙ append-nil (entry_bytes t.0.0) in
    let one : q.0.0 ≡ 1 = eqb-true q.0.0 1 g.0.1 in
    let long : p.0.0 ≡ length (entry_bytes t.0.0) = sym k.0 ∙ ap length body_is in
    let text : u32 p.0.0 ++ (u32 q.0.0 ++ r.0.0) ≡ block t.0.0 =
    (λ i. u32 (long i) ++ (u32 (one i) ++ body_is i)) ∙ sym (append_assoc (u32 (length (entry_bytes t.0.0))) (u32 1) (entry_bytes t.0.0)) in
    let begins = Begins-then (u32 p.0.0) (u32 q.0.0 ++ r.0.0) old p.0.1 r.0.1 f.1 (Begins-then (u32 q.0.0) r.0.0 p.0.1 q.0.1 r.0.1 g.1 k.1) in
    let within : old.at + p.0.0 + 9 ≤ FILE_LIMIT = leb-true (old.at + p.0.0 + 9) FILE_LIMIT f.0.1 in
    let ends : r.0.1.at + 1 ≤ FILE_LIMIT = omega (arith, begins.at, length-append (u32 p.0.0) (u32 q.0.0 ++ r.0.0), length-append (u32 q.0.0) r.0.0, u32_long p.0.0, u32_long q.0.0, k.0, within) in
    subst (λ (y : Entry × Left). HasBlock s old y) u.1 (v.0, subst (λ (xs : List ℕ). Begins xs old r.0.1) text begins, ends)

-- ---- blocks

-- the entries of the blocks that follow, up to a gate that isn't open
record HasBlocks (far : Far) (old : Left) (last : Far) (at : ℕ) : Type 0 where
  more : List Entry
  entries : last.1 ≡ far.1 ++ more
  said : last.0 ≡ fold after far.0 more
  follow : MayFollow far.0 more
  gate : ℕ
  rest : List ℕ
  spelled : old.bytes ≡ opened more ++ gate ∷ rest
  closed : gate ≢ 1
  place : at ≡ old.at + length (opened more)
  within : old.at + 1 ≤ FILE_LIMIT → at + 1 ≤ FILE_LIMIT

no_blocks : (far : Far) (old left : Left) (gate : ℕ) → Begins (u8 gate) old left → eqb gate 1 ≡ false → HasBlocks far old far old.at
unfolding u8
no_blocks far old left gate begins shut = record {
  more = [];
  entries = sym (append-nil far.1);
  said = refl;
  follow = tt;
  gate = gate;
  rest = left.bytes;
  spelled = begins.bytes;
  closed = λ one. not_both one;
  place = omega arith;
  within = λ low. low;
}
  where
    not_both : gate ≡ 1 → ⊥
    not_both one = grind (arith, nat_tests, shut, one)

one_more : (far : Far) (old mid left : Left) (gate : ℕ) (e : Entry) (last : Far) (at : ℕ) → Begins (u8 gate) old mid → eqb gate 1 ≡ true → HasBlock far.0 mid (e, left)
    → HasBlocks (after far.0 e, far.1 ++ e ∷ []) left last at → HasBlocks far old last at
unfolding u8
one_more far old mid left gate e last at begins is_open has others =
    let one : gate ≡ 1 = eqb-true gate 1 is_open in
    let first : old.bytes ≡ 1 ∷ mid.bytes = begins.bytes ∙ ap (λ (g : ℕ). g ∷ mid.bytes) one in
    let grown : left.at ≡ old.at + 1 + length (block e) = omega (arith, begins.at, has.1.at) in
    record {
      more = e ∷ others.more;
      entries = others.entries ∙ append_assoc far.1 (e ∷ []) others.more;
      said = others.said;
      follow = (has.0, others.follow);
      gate = others.gate;
      rest = others.rest;
      spelled = first ∙ ap (λ (l : List ℕ). 1 ∷ l) (has.1.bytes ∙ ap (λ (l : List ℕ). block e ++ l) others.spelled)
          ∙ sym (append_assoc (1 ∷ block e) (opened others.more) (others.gate ∷ others.rest));
      closed = others.closed;
      place = omega (arith, others.place, grown, length-append (1 ∷ block e) (opened others.more));
      within = λ low. others.within has.2;
    }

abbrev pub beyond : ℕ → Far → ℕ → ℕ × Left → Read (Far × ℕ)
beyond n far at gate = cond (eqb gate.0 1) (next_at far gate.1 >>= λ next. blocks_at n next.0 next.1) (Ok ((far, at), gate.1))

abbrev ok_far : (Far × ℕ) → Left → Read (Far × ℕ)
ok_far found left = Ok (found, left)

-- what is read of a block and those behind it
abbrev ReadsOn : ℕ → Left → Far → ℕ → Type 0
ReadsOn n new last at = (far : Far) (mid : Left) → IsSaid far.0 → AreBytes mid.bytes → blocks_at n far mid ≡ ok_far (last, at) new → HasBlocks far mid last at

by_gate : (n : ℕ) (far : Far) (old new : Left) (last : Far) (at : ℕ) → ReadsOn n new last at → IsSaid far.0 → (gate : ℕ × Left) → Begins (u8 gate.0) old gate.1
    → AreBytes gate.1.bytes → (b : Bool) → eqb gate.0 1 ≡ b
    → cond b (next_at far gate.1 >>= λ next. blocks_at n next.0 next.1) (Ok ((far, old.at), gate.1)) ≡ ok_far (last, at) new → HasBlocks far old last at
unfolding next_at
by_gate n far old new last at on is gate begins left true is_open h =
    let q = bind_ok (next_at far gate.1) (λ (next : Far × Left). blocks_at n next.0 next.1) ((last, at), new) h in
    let r = bind_ok (block_at far.0 gate.1) (λ (e : Entry × Left). Ok ((after far.0 e.0, far.1 ++ e.0 ∷ []), e.1)) q.0 q.1 in
    let next = ok_is ((after far.0 r.0.0, far.1 ++ r.0.0 ∷ []), r.0.1) q.0 r.2 in
    let has = block_found far.0 is r.0.0 gate.1 r.0.1 left r.1 in
    let further = subst (λ (y : Far × Left). blocks_at n y.0 y.1 ≡ ok_far (last, at) new) (sym next) q.2 in
    one_more far old gate.1 r.0.1 gate.0 r.0.0 last at begins is_open has
    (on (after far.0 r.0.0, far.1 ++ r.0.0 ∷ []) r.0.1 (is_said_after far.0 r.0.0 is has.0.0)
    (AreBytes-rest gate.1.bytes (block r.0.0) r.0.1.bytes left has.1.bytes) further)
by_gate n far old new last at on is gate begins left false shut h =
    let same = ok_is ((far, old.at), gate.1) ((last, at), new) h in
    subst (λ (y : (Far × ℕ) × Left). HasBlocks far old y.0.0 y.0.1) same (no_blocks far old gate.1 gate.0 begins shut)

blocks_found : (n : ℕ) (new : Left) (last : Far) (at : ℕ) → ReadsOn n new last at
unfolding blocks_at
blocks_found zero new last at far old is bytes e = absurd cc
blocks_found (suc n) new last at far old is bytes e =
    let p = bind_ok (u8_at old) (beyond n far old.at) ((last, at), new) e in
    let f = u8_field.exact.found old p.0.1 p.0.0 bytes p.1 in
    by_gate n far old new last at (blocks_found n new last at) is p.0 f.1 (AreBytes-rest old.bytes (u8 p.0.0) p.0.1.bytes bytes f.1.bytes) (eqb p.0.0 1) refl p.2

-- ---- the whole

pub word_exact : IsExact (λ w. (length w ≡ 8) × (bytes_eq w (codes "CASSMAN1") ≡ true)) (λ w. w) (checked (λ w. bytes_eq w (codes "CASSMAN1")) (λ l. bytes_at l.at 8 l))
word_exact = exact_checked (λ w. length w ≡ 8) (λ w. w) (λ l. bytes_at l.at 8 l) (λ w. bytes_eq w (codes "CASSMAN1")) (exact_bytes (λ l. l.at) 8)

pub gate_exact : IsExact (λ n. (n < 2 ^ 8) × (eqb n 1 ≡ true)) u8 (checked (λ g. eqb g 1) u8_at)
gate_exact = exact_checked (λ n. n < 2 ^ 8) u8 u8_at (λ g. eqb g 1) u8_field.exact

abbrev pub magic : List ℕ
magic = codes "CASSMAN1"

word_found : (word : List ℕ) (old new : Left) → AreBytes old.bytes → word_at old ≡ Ok (word, new) → Begins (1 ∷ magic) old new
unfolding word_at u8
word_found word old new bytes e =
    let p = bind_ok (checked (λ g. eqb g 1) u8_at old) (λ (gate : ℕ × Left). checked (λ w. bytes_eq w (codes "CASSMAN1")) (λ l. bytes_at l.at 8 l) gate.1) (word, new) e in
    let f = gate_exact.found old p.0.1 p.0.0 bytes p.1 in
    let g = word_exact.found p.0.1 new word (AreBytes-rest old.bytes (u8 p.0.0) p.0.1.bytes bytes f.1.bytes) p.2 in
    let one : p.0.0 ≡ 1 = eqb-true p.0.0 1 f.0.1 in
    let is_word : word ≡ magic = (bytes_eq-Decides word (codes "CASSMAN1")).0 g.0.1 in
    subst (λ (xs : List ℕ). Begins xs old new) (λ i. one i ∷ is_word i) (Begins-then (u8 p.0.0) word old p.0.1 new f.1 g.1)

pub front_long : (entries : List Entry) → length (front entries) ≡ 9 + length (opened entries)
front_long entries = length-append (1 ∷ magic) (opened entries)

whole : (file : List ℕ) (mid : Left) (last : Far) (at : ℕ) → Begins (1 ∷ magic) (read_left file 0) mid → HasBlocks (nothing, []) mid last at → IsRead last at file
unfolding said_by
whole file mid last at begins has =
    let entries : last.1 ≡ has.more = has.entries in
    let start : mid.at ≡ 9 = begins.at in
    let ends : at ≡ length (front has.more) = omega (arith, has.place, start, front_long has.more) in
    let low : at + 1 ≤ FILE_LIMIT = has.within (omega (arith, start)) in
    record {
      manifest = subst (λ (l : List Entry). IsManifest l file) (sym entries) (record {
        gate = has.gate;
        rest = has.rest;
        spelled = begins.bytes ∙ ap (λ (l : List ℕ). (1 ∷ magic) ++ l) has.spelled ∙ sym (append_assoc (1 ∷ magic) (opened has.more) (has.gate ∷ has.rest));
        closed = has.closed;
        follow = has.follow;
        within = omega (arith, ends, low);
      });
      said = has.said ∙ ap (λ (l : List Entry). fold after nothing l) (sym entries);
      end = ends ∙ ap (λ (l : List Entry). length (front l)) (sym entries);
    }

pub manifest_found : (file : List ℕ) (last : Far) (at : ℕ) → AreBytes file → manifest_of file ≡ Ok (last, at) → IsRead last at file
unfolding manifest_of manifest_at
manifest_found file last at bytes e =
    let p = bind_ok (manifest_at (read_left file 0)) (λ (found : (Far × ℕ) × Left). Ok found.0) (last, at) e in
    let same : p.0.0 ≡ (last, at) = ok_is {A = Far × ℕ} p.0.0 (last, at) p.2 in
    let q = bind_ok (word_at (read_left file 0)) (λ (word : List ℕ × Left). blocks_at (length word.1.bytes) (nothing, []) word.1) p.0 p.1 in
    let f = word_found q.0.0 (read_left file 0) q.0.1 bytes q.1 in
    subst (λ (y : Far × ℕ). IsRead y.0 y.1 file) same
    (whole file q.0.1 p.0.0.0 p.0.0.1 f (blocks_found (length q.0.1.bytes) p.0.1 p.0.0.0 p.0.0.1 (nothing, []) q.0.1 none_said (AreBytes-rest file (1 ∷ magic) q.0.1.bytes bytes f.bytes) q.2))
