-- A manifest has one list of entries.
use Rattle.std.proofs.Common.{◌≡◌, ◌≢◌, ◌∙◌, ℕ, ◌+◌, List, [], ◌∷◌, ◌++◌, length, Result, Ok, refl, sym, ap, subst, append_assoc, arith}
use Rattle.std.proofs.lemmas.List.{append_cancel_left}
use Rattle.cas_codec.specs.Fields.{u32}
use Rattle.cas_codec.specs.Reading.{Left}
use Rattle.cas_codec.proofs.FieldLaws.{u32_field}
use Rattle.cas_changes.specs.declared.entry.Entry.{Entry}
use Rattle.cas_changes.specs.Saying.{Saying, IsSaid, after, nothing}
use Rattle.cas_changes.specs.Allowed.{FitsNext}
use Rattle.cas_changes.specs.Spelling.{entry_bytes}
use Rattle.cas_changes.specs.Reading.{entry_at}
use Rattle.cas_changes.proofs.EntryLaws.{entry_exact}
use Rattle.cas_changes.proofs.EntryLengths.{entry_short}
use Rattle.cas_manifest.specs.File.{IsManifest, MayFollow, block, lengths, opened}
use Rattle.cas_manifest.proofs.ManifestLaws.{is_said_after, magic, none_said}

ok_same : {A E : Type 0} (x y : A) (r : Result A E) → r ≡ Ok x → r ≡ Ok y → x ≡ y
ok_same x y r is same = cc

first_same : (x y : ℕ) (xs ys : List ℕ) → x ∷ xs ≡ y ∷ ys → x ≡ y
first_same x y xs ys e = cc

rest_same : (x y : ℕ) (xs ys : List ℕ) → x ∷ xs ≡ y ∷ ys → xs ≡ ys
rest_same x y xs ys e = cc

-- no entry that may follow begins another
entry_alone : (s : Saying) → IsSaid s → (e f : Entry) (rest others : List ℕ) → FitsNext s e → FitsNext s f → entry_bytes e ++ rest ≡ entry_bytes f ++ others → (e ≡ f) × (rest ≡ others)
entry_alone s is e f rest others fits fit same =
    let two : entry_at s (record { bytes = entry_bytes e ++ rest; at = 0 }) ≡ Ok (f, record { bytes = others; at = 0 + length (entry_bytes f) }) =
    ap (λ (l : List ℕ). entry_at s (record { bytes = l; at = 0 })) same ∙ (entry_exact s is).again f others 0 fit in
    let both : (e, record { bytes = rest; at = 0 + length (entry_bytes e) }) ≡ (f, record { bytes = others; at = 0 + length (entry_bytes f) }) =
    ok_same (e, record { bytes = rest; at = 0 + length (entry_bytes e) }) (f, record { bytes = others; at = 0 + length (entry_bytes f) })
    (entry_at s (record { bytes = entry_bytes e ++ rest; at = 0 })) ((entry_exact s is).again e rest 0 fits) two in
    (ap (λ (x : Entry × Left). x.0) both, ap (λ (x : Entry × Left). x.1.bytes) both)

block_parts : (e : Entry) (rest : List ℕ) → block e ++ rest ≡ u32 (length (entry_bytes e)) ++ (u32 1 ++ (entry_bytes e ++ rest))
unfolding lengths
block_parts e rest =
    append_assoc (u32 (length (entry_bytes e)) ++ u32 1) (entry_bytes e) rest ∙ append_assoc (u32 (length (entry_bytes e))) (u32 1) (entry_bytes e ++ rest)

block_alone : (s : Saying) → IsSaid s → (e f : Entry) (rest others : List ℕ) → FitsNext s e → FitsNext s f → block e ++ rest ≡ block f ++ others → (e ≡ f) × (rest ≡ others)
block_alone s is e f rest others fits fit same =
    let long =
    u32_field.alone (length (entry_bytes e)) (length (entry_bytes f)) (u32 1 ++ (entry_bytes e ++ rest)) (u32 1 ++ (entry_bytes f ++ others)) (entry_short s e fits) (entry_short s f fit)
    (sym (block_parts e rest) ∙ same ∙ block_parts f others) in
    let count = u32_field.alone 1 1 (entry_bytes e ++ rest) (entry_bytes f ++ others) (omega arith) (omega arith) long.1 in
    entry_alone s is e f rest others fits fit count.1

blocks_alone : (s : Saying) → IsSaid s → (es fs : List Entry) (gate shut : ℕ) (rest others : List ℕ) → MayFollow s es → MayFollow s fs → gate ≢ 1 → shut ≢ 1
    → opened es ++ gate ∷ rest ≡ opened fs ++ shut ∷ others → es ≡ fs
blocks_alone s is [] [] gate shut rest others follow also closed too same = refl
blocks_alone s is [] (f ∷ fs) gate shut rest others follow also closed too same = absurd (closed (first_same gate 1 rest _ same))
blocks_alone s is (e ∷ es) [] gate shut rest others follow also closed too same = absurd (too (sym (first_same 1 shut _ others same)))
blocks_alone s is (e ∷ es) (f ∷ fs) gate shut rest others follow also closed too same =
    let behind : (block e ++ opened es) ++ gate ∷ rest ≡ (block f ++ opened fs) ++ shut ∷ others = rest_same 1 1 _ _ same in
    let (one, more) = block_alone s is e f (opened es ++ gate ∷ rest) (opened fs ++ shut ∷ others) follow.0 also.0
    (sym (append_assoc (block e) (opened es) (gate ∷ rest)) ∙ behind ∙ append_assoc (block f) (opened fs) (shut ∷ others)) in
    let others_same : es ≡ fs =
    blocks_alone (after s e) (is_said_after s e is follow.0.0) es fs gate shut rest others follow.1
    (subst (λ (x : Entry). MayFollow (after s x) fs) (sym one) also.1) closed too more in
    ap (λ (x : Entry). x ∷ es) one ∙ ap (λ (l : List Entry). f ∷ l) others_same

-- one file is a manifest with one list of entries
pub manifest_alone : (es fs : List Entry) (file : List ℕ) → IsManifest es file → IsManifest fs file → es ≡ fs
manifest_alone es fs file one other =
    blocks_alone nothing none_said es fs one.gate other.gate one.rest other.rest one.follow other.follow one.closed other.closed
    (append_cancel_left (1 ∷ magic) (opened es ++ one.gate ∷ one.rest) (opened fs ++ other.gate ∷ other.rest)
    (sym (append_assoc (1 ∷ magic) (opened es) (one.gate ∷ one.rest)) ∙ sym one.spelled ∙ other.spelled ∙ append_assoc (1 ∷ magic) (opened fs) (other.gate ∷ other.rest)))
