-- What a manifest is with one entry more.
use Rattle.std.proofs.Common.{◌≡◌, ◌≢◌, inl, inr, ℕ, ◌+◌, ◌≤◌, ◌<◌, Bool, true, false, ltb, nat_le, List, [], ◌∷◌, ◌++◌, length, drop, Option, None, Some, Ok, Err, refl, sym, ◌∙◌, ap, subst, arith, append_assoc, length-append}
use Rattle.std.proofs.lemmas.Bool.{cases_eq, leb-true, ltb-true, lt-ltb}
use Rattle.std.proofs.lemmas.List.{flat_map_more}
use Rattle.std.specs.Prelude.{codes, if◌then◌else◌}
use Rattle.cas_io.specs.Causes.{Rose}
use Rattle.cas_gates.specs.declared.first.First.{First}
use Rattle.std.specs.List.{fold}
use Rattle.cas_codec.specs.Fields.{u32}
use Rattle.cas_disk.specs.Disk.{Disk, During, Changed, IsKept}
use Rattle.cas_disk.specs.declared.name.Name.TheVariants.{Manifest as manifest_name}
use Rattle.cas_disk.proofs.Moments.{leaves_file}
use Rattle.cas_gates.specs.Gates.{MayOpenOver}
use Rattle.cas_changes.specs.declared.entry.Entry.{Entry}
use Rattle.cas_changes.specs.declared.entry.Entry.TheVariants as entry
use Rattle.cas_changes.specs.declared.said.TheConstants.{FILE_LIMIT, LISTED_LIMIT}
use Rattle.cas_changes.specs.Saying.{Saying, nothing, after, said_by, listed_after}
use Rattle.cas_changes.specs.Allowed.{FitsEntry, FitsNext}
use Rattle.cas_changes.specs.Spelling.{entry_bytes}
use Rattle.cas_manifest.specs.File.{lengths, block, front, MayFollow}
use Rattle.cas_manifest.specs.Manifests.{Place, Stands, MayHave, passes, room_of, Ends}
use Rattle.cas_manifest.specs.declared.fault.Limit.{Limit}
use Rattle.cas_manifest.specs.declared.fault.Limit.TheVariants.{Bytes}
use Rattle.cas_manifest.specs.declared.fault.ManifestFault.{ManifestFault}
use Rattle.cas_manifest.specs.declared.fault.ManifestFault.TheVariants.{TooMany, Failed}

-- ---- entries, and one more

follow_more : (s : Saying) (entries : List Entry) (e : Entry) → MayFollow s entries → FitsNext (fold after s entries) e → MayFollow s (entries ++ e ∷ [])
follow_more s [] e follow fits = (fits, tt)
follow_more s (x ∷ xs) e follow fits = (follow.0, follow_more (after s x) xs e follow.1 fits)

fold_more : (s : Saying) (entries : List Entry) (e : Entry) → fold after s (entries ++ e ∷ []) ≡ after (fold after s entries) e
fold_more s [] e = refl
fold_more s (x ∷ xs) e = fold_more (after s x) xs e

pub may_follow : (entries : List Entry) (e : Entry) → MayFollow nothing entries → FitsNext (said_by entries) e → MayFollow nothing (entries ++ e ∷ [])
unfolding said_by
may_follow entries e follow fits = follow_more nothing entries e follow fits

pub said_more : (entries : List Entry) (e : Entry) → said_by (entries ++ e ∷ []) ≡ after (said_by entries) e
unfolding said_by
said_more entries e = fold_more nothing entries e

-- how many files are listed
listed_is : (s : Saying) (e : Entry) → (after s e).listed ≡ listed_after s.listed e
listed_is s (entry.Store shards) = refl
listed_is s (entry.Schema t) = refl
listed_is s (entry.NewSegment n) = refl
listed_is s (entry.DropSegment n) = refl
listed_is s (entry.Change c) = refl
listed_is s (entry.AddColumns table columns) = refl

front_more : (entries : List Entry) (e : Entry) → front (entries ++ e ∷ []) ≡ front entries ++ 1 ∷ block e
front_more entries e = sym (flat_map_more (λ (x : Entry). 1 ∷ block x) (1 ∷ codes "CASSMAN1") entries e)

module _ (entries : List Entry) (e : Entry) (bytes : List ℕ) (is : bytes ≡ block e ++ 0 ∷ []) where
  -- with its gate open, and the next one closed before what is left
  opened_more : (left : List ℕ) → front entries ++ 1 ∷ (bytes ++ left) ≡ front (entries ++ e ∷ []) ++ 0 ∷ left
  opened_more left =
      ap (λ (l : List ℕ). front entries ++ 1 ∷ (l ++ left)) is
      ∙ ap (λ (l : List ℕ). front entries ++ 1 ∷ l) (append_assoc (block e) (0 ∷ []) left)
      ∙ sym (append_assoc (front entries) (1 ∷ block e) (0 ∷ left))
      ∙ ap (λ (l : List ℕ). l ++ 0 ∷ left) (sym (front_more entries e))

  length_more : length (front (entries ++ e ∷ [])) ≡ length (front entries) + length bytes
  length_more =
      omega (arith, ap length (front_more entries e), length-append (front entries) (1 ∷ block e), ap length is, length-append (block e) (0 ∷ []))

  -- whatever its gate is, the file is a manifest
  either_manifest : MayFollow nothing entries → FitsNext (said_by entries) e → length (front entries) + 1 ≤ FILE_LIMIT → length (front entries) + length bytes + 1 ≤ FILE_LIMIT
      → (found : Option (List ℕ)) → MayOpenOver (front entries) bytes found → MayHave entries e found
  either_manifest follow fits low room found opens = (
    front entries ++ opens.gate ∷ opens.rest,
    opens.is,
    elim (cases_eq opens.gate 1) [
      | inl is_open ↦ inr (record {
        gate = 0;
        rest = (opens.whole is_open).0;
        spelled = (λ i. front entries ++ is_open i ∷ (opens.whole is_open).1 i) ∙ opened_more (opens.whole is_open).0;
        closed = λ one. absurd (omega arith);
        follow = may_follow entries e follow fits;
        within = omega (arith, length_more, room);
      })
      | inr shut ↦ inl (record {
        gate = opens.gate;
        rest = opens.rest;
        spelled = refl;
        closed = shut;
        follow = follow;
        within = low;
      })
    ],
  )

-- ---- an append, by what is written behind the gate

module _ (place : Place) (old : Disk) (entries : List Entry) (e : Entry) (stands : Stands place old entries) (fits : FitsEntry (said_by entries) e)
    (few : listed_after place.listed e ≤ LISTED_LIMIT) (bytes : List ℕ) (is : bytes ≡ block e ++ 0 ∷ []) where
  next : FitsNext (said_by entries) e
  next = (fits, subst (λ (n : ℕ). listed_after n e ≤ LISTED_LIMIT) (sym stands.listed) few)

  pub append_during : place.end + 1 ≤ FILE_LIMIT → place.end + length bytes + 1 ≤ FILE_LIMIT → (new : Disk)
      → ((f left : List ℕ) (closed : ℕ) → length f ≡ place.end → closed ≢ 1 → IsKept manifest_name (f ++ closed ∷ left) old
      → During (Changed manifest_name (λ _ file. MayOpenOver f bytes file)) old new)
      → During (Changed manifest_name (λ _ file. MayHave entries e file)) old new
  unfolding next
  append_during low room new call =
      let opens : Option (List ℕ) → Option (List ℕ) → Type 0 = λ _ file. MayOpenOver (front entries) bytes file in
      leaves_file manifest_name opens (MayHave entries e) old new (call (front entries) stands.rest stands.gate stands.end stands.closed stands.kept)
      (λ d x was here. either_manifest entries e bytes is stands.follow next (omega (arith, stands.end, low)) (omega (arith, stands.end, room)) (x manifest_name) here)

  pub append_done : (end listed : ℕ) → end ≡ place.end + length bytes → listed ≡ listed_after place.listed e → (new : Disk)
      → ((f left : List ℕ) (closed : ℕ) → length f ≡ place.end → closed ≢ 1 → IsKept manifest_name (f ++ closed ∷ left) old
      → IsKept manifest_name (f ++ 1 ∷ (bytes ++ drop (length bytes) left)) new)
      → Stands (record { end = end; listed = listed }) new (entries ++ e ∷ [])
  unfolding next
  append_done end listed ends lists new call = record {
    gate = 0;
    rest = drop (length bytes) stands.rest;
    closed = λ one. absurd (omega arith);
    kept = subst (λ (f : List ℕ). IsKept manifest_name f new) (opened_more entries e bytes is (drop (length bytes) stands.rest))
        (call (front entries) stands.rest stands.gate stands.end stands.closed stands.kept);
    end = length_more entries e bytes is ∙ ap (λ (n : ℕ). n + length bytes) stands.end ∙ sym ends;
    listed = ap (λ (s : Saying). s.listed) (said_more entries e) ∙ listed_is (said_by entries) e ∙ ap (λ (n : ℕ). listed_after n e) stands.listed ∙ sym lists;
    follow = may_follow entries e stands.follow next;
  }

-- ---- limits

le-not-ltb : (a b : ℕ) → b ≤ a → ltb a b ≡ false
le-not-ltb a b low = not_ltb a b (ltb a b) refl low
  where
    not_ltb : (a b : ℕ) (c : Bool) → ltb a b ≡ c → b ≤ a → c ≡ false
    not_ltb a b true e low = let above : a < b = ltb-true a b e in absurd (omega arith)
    not_ltb a b false e low = refl

-- a count that is told isn't above the limit
pub told_few : (x n : ℕ) → (if nat_le x LISTED_LIMIT then Some x else None) ≡ Some n → (x ≤ LISTED_LIMIT) × (n ≡ x)
told_few x n e = told_by x n (nat_le x LISTED_LIMIT) refl e
  where
    told_by : (x n : ℕ) (b : Bool) → nat_le x LISTED_LIMIT ≡ b → (if b then Some x else None) ≡ Some n → (x ≤ LISTED_LIMIT) × (n ≡ x)
    told_by x n true low e = (leb-true x LISTED_LIMIT low, cc)
    told_by x n false low e = absurd cc

pub block_long : (e : Entry) → length (block e ++ 0 ∷ []) ≡ length (entry_bytes e) + 9
unfolding lengths u32
block_long e = omega (arith, length-append (block e) (0 ∷ []), length-append (lengths (length (entry_bytes e)) 1) (entry_bytes e))

pub none_passed : (place : Place) (e : Entry) → listed_after place.listed e ≤ LISTED_LIMIT → place.end + length (entry_bytes e) + 10 ≤ FILE_LIMIT → passes place e ≡ None
none_passed place e few low = rw (le-not-ltb LISTED_LIMIT (listed_after place.listed e) few, le-not-ltb FILE_LIMIT (place.end + room_of e + 1) (omega (arith, low))) refl

pub bytes_passed : (place : Place) (e : Entry) → listed_after place.listed e ≤ LISTED_LIMIT → FILE_LIMIT < place.end + length (entry_bytes e) + 10
    → passes place e ≡ Some (TooMany Bytes FILE_LIMIT)
bytes_passed place e few long = rw (le-not-ltb LISTED_LIMIT (listed_after place.listed e) few, lt-ltb FILE_LIMIT (place.end + room_of e + 1) (omega (arith, long))) refl

-- ---- how an append ends

abbrev some_first : ℕ → Option First
some_first n = Some (record { number = n })

pub ends_ok : (limit : Option ManifestFault) (first : Option First) (before now : ℕ) → first ≡ None → limit ≡ None → Ends {T = Unit {0}} limit first first before now (Ok tt)
ends_ok limit None before now none fits = (refl, fits)
ends_ok limit (Some kept) before now none fits = absurd cc

pub ends_many : (limit : Option ManifestFault) (first : Option First) (n : ℕ) (what : Limit) (most : ℕ) → first ≡ None → limit ≡ Some (TooMany what most)
    → Ends {T = Unit {0}} limit first first n n (Err (TooMany what most))
ends_many limit None n what most none passed = (refl, passed, refl)
ends_many limit (Some kept) n what most none passed = absurd cc

pub ends_failed : (limit : Option ManifestFault) (first : Option First) (before now number : ℕ) → first ≡ None → Rose before now → number ≡ now → limit ≡ None
    → Ends {T = Unit {0}} limit first (Some (record { number = number })) before now (Err Failed)
ends_failed limit None before now number none rose same fits = (rose, ap (λ (n : ℕ). some_first n) same, fits)
ends_failed limit (Some kept) before now number none rose same fits = absurd cc
