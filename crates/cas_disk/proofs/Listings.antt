-- Lists of the files that are there, one file more at a time.
use Rattle.std.proofs.Common.{◌≡◌, inl, inr, ◌||◌, Bool, true, false, if◌then◌else◌, ℕ, List, [], ◌∷◌, ◌++◌, length, Option, None, Some, refl, sym, ◌∙◌, ap}
use Rattle.std.proofs.lemmas.Bool.{cases_Bool}
use Rattle.std.proofs.lemmas.List.{append-nil}
use Rattle.cas_disk.specs.declared.name.Name.{Name}
use Rattle.cas_disk.specs.declared.name.Entry.{Entry}
use Rattle.cas_disk.specs.declared.event.Stored.{Stored}
use Rattle.cas_disk.specs.Names.{same_name}
use Rattle.cas_disk.specs.Disk.{IsListing, sizes_of, size_of}
use Rattle.cas_disk.specs.Inner.Listed.{is_listed}
use Rattle.cas_disk.specs.Inner.Past.{image_of}
use Rattle.cas_disk.specs.Inner.PastLaws.{same_is}
use Rattle.cas_disk.proofs.FileLemmas.{or_else, image_of-push}

sizes_of-push : (k : Name) (entries : List Entry) (e : Entry) → sizes_of k (entries ++ e ∷ []) ≡ sizes_of k entries ++ (if same_name e.name k then e.size ∷ [] else [])
sizes_of-push k [] e = refl
sizes_of-push k (g ∷ entries) e = elim (cases_Bool (same_name g.name k)) [
  | inl is ↦ ap (λ (b : Bool). if b then g.size ∷ sizes_of k (entries ++ e ∷ []) else sizes_of k (entries ++ e ∷ [])) is ∙ ap (λ (l : List ℕ). g.size ∷ l) (sizes_of-push k entries e) ∙ sym (ap (λ (b : Bool). (if b then g.size ∷ sizes_of k entries else sizes_of k entries) ++ (if same_name e.name k then e.size ∷ [] else [])) is)
  | inr isnt ↦ ap (λ (b : Bool). if b then g.size ∷ sizes_of k (entries ++ e ∷ []) else sizes_of k (entries ++ e ∷ [])) isnt ∙ sizes_of-push k entries e ∙ sym (ap (λ (b : Bool). (if b then g.size ∷ sizes_of k entries else sizes_of k entries) ++ (if same_name e.name k then e.size ∷ [] else [])) isnt)
]

-- a name that isn't listed has no length, and one that is has some
unlisted : (n : Name) (entries : List Entry) → is_listed n entries ≡ false → sizes_of n entries ≡ []
unlisted n [] e = refl
unlisted n (g ∷ entries) e = by_head (same_name g.name n) refl e (unlisted n entries)
  where
    by_head : (b : Bool) → same_name g.name n ≡ b → (b || is_listed n entries) ≡ false → (is_listed n entries ≡ false → sizes_of n entries ≡ []) → sizes_of n (g ∷ entries) ≡ []
    by_head true is bad rest = absurd (cc)
    by_head false isnt none rest = ap (λ (b : Bool). if b then g.size ∷ sizes_of n entries else sizes_of n entries) isnt ∙ rest none

abbrev HasSize : Name → List Entry → Type 0
HasSize n entries = (size : ℕ) × (sizes : List ℕ) × (sizes_of n entries ≡ size ∷ sizes)

has_size : (n : Name) (entries : List Entry) → is_listed n entries ≡ true → HasSize n entries
has_size n [] e = absurd (cc)
has_size n (g ∷ entries) e = by_head (same_name g.name n) refl e (has_size n entries)
  where
    by_head : (b : Bool) → same_name g.name n ≡ b → (b || is_listed n entries) ≡ true → (is_listed n entries ≡ true → HasSize n entries) → HasSize n (g ∷ entries)
    by_head true is there rest = (g.size, sizes_of n entries, ap (λ (b : Bool). if b then g.size ∷ sizes_of n entries else sizes_of n entries) is)
    by_head false isnt there rest = let (size, sizes, e) = rest there in (size, sizes, ap (λ (b : Bool). if b then g.size ∷ sizes_of n entries else sizes_of n entries) isnt ∙ e)

-- the first of two files is the one that is there
first_there : (file other : Option (List ℕ)) (size : ℕ) (sizes : List ℕ) → size_of file ≡ size ∷ sizes → file ≡ or_else file other
first_there None other size sizes e = absurd (cc)
first_there (Some bytes) other size sizes e = refl

none_other : (file : Option (List ℕ)) → file ≡ or_else file None
none_other None = refl
none_other (Some bytes) = refl

none_there : (file : Option (List ℕ)) → size_of file ≡ [] → file ≡ None
none_there None e = refl
none_there (Some bytes) e = absurd (cc)

-- a file whose name is listed changes nothing
pub listed_already : (files : List Stored) (entries : List Entry) (f : Stored) → is_listed f.name entries ≡ true → IsListing (image_of files) entries → IsListing (image_of (files ++ f ∷ [])) entries
listed_already files entries f there is k = is k ∙ ap size_of (same (same_name f.name k) refl ∙ sym (image_of-push files f k))
  where
    same : (b : Bool) → same_name f.name k ≡ b → image_of files k ≡ or_else (image_of files k) (if same_name f.name k then Some f.bytes.items else None)
    same true here = let (size, sizes, e) = has_size f.name entries there in
        first_there (image_of files k) _ size sizes (sym (is k) ∙ ap (λ (m : Name). sizes_of m entries) (sym (same_is f.name k here)) ∙ e)
    same false other = none_other (image_of files k) ∙ sym (ap (λ (b : Bool). or_else (image_of files k) (if b then Some f.bytes.items else None)) other)

-- one whose name isn't is listed with its length
pub listed_too : (files : List Stored) (entries : List Entry) (f : Stored) (size : ℕ) → size ≡ length f.bytes.items → is_listed f.name entries ≡ false → IsListing (image_of files) entries → IsListing (image_of (files ++ f ∷ [])) (entries ++ record { name = f.name; size = size } ∷ [])
listed_too files entries f size long none is k = sizes_of-push k entries (record { name = f.name; size = size }) ∙ same (same_name f.name k) refl ∙ ap size_of (sym (image_of-push files f k))
  where
    same : (b : Bool) → same_name f.name k ≡ b → sizes_of k entries ++ (if same_name f.name k then size ∷ [] else []) ≡ size_of (or_else (image_of files k) (if same_name f.name k then Some f.bytes.items else None))
    same true here =
        let gone : sizes_of k entries ≡ [] = ap (λ (m : Name). sizes_of m entries) (sym (same_is f.name k here)) ∙ unlisted f.name entries none in
        let absent : image_of files k ≡ None = none_there (image_of files k) (sym (is k) ∙ gone) in
        ap (λ (b : Bool). sizes_of k entries ++ (if b then size ∷ [] else [])) here
        ∙ ap (λ (l : List ℕ). l ++ size ∷ []) gone
        ∙ ap (λ (n : ℕ). n ∷ []) long
        ∙ sym (ap (λ (b : Bool). size_of (or_else (image_of files k) (if b then Some f.bytes.items else None))) here
        ∙ ap (λ (x : Option (List ℕ)). size_of (or_else x (Some f.bytes.items))) absent)
    same false other =
        ap (λ (b : Bool). sizes_of k entries ++ (if b then size ∷ [] else [])) other
        ∙ append-nil (sizes_of k entries)
        ∙ is k
        ∙ ap size_of (none_other (image_of files k))
        ∙ sym (ap (λ (b : Bool). size_of (or_else (image_of files k) (if b then Some f.bytes.items else None))) other)
