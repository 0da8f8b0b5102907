-- What a list of the files that are there tells.
use Rattle.std.proofs.Common.{◌≡◌, ◌≢◌, ◌⊎◌, inl, inr, ⊎_elim, Bool, true, false, ◌||◌, ℕ, List, [], ◌∷◌, Option, None, Some, is_some, refl, sym, ◌∙◌, ap}
use Rattle.std.specs.List.{list_any}
use Rattle.std.specs.Prelude.{if◌then◌else◌}
use Rattle.cas_disk.specs.declared.name.Name.{Name}
use Rattle.cas_disk.specs.declared.name.Name.TheVariants.{Manifest as manifest_name}
use Rattle.cas_disk.specs.declared.name.Entry.{Entry}
use Rattle.cas_disk.specs.Disk.{Image, IsListing, sizes_of, size_of}
use Rattle.cas_disk.specs.Inner.PastLaws.{same_self, same_is}
use Rattle.cas_disk.specs.Names.{same_name}
use Rattle.cas_manifest.specs.Loading.{is_beside, IsBare, HasOthers}

-- a file of this kind
abbrev pub is_kind : (Name → Bool) → Entry → Bool
is_kind p e = p e.name

neither : (a b : Bool) → (a || b) ≡ false → (a ≡ false) × (b ≡ false)
neither true b e = absurd cc
neither false b e = (refl, e)

-- where none of a kind is listed, no name of the kind has a length there
skipped : (p : Name → Bool) (k : Name) (e : Entry) (rest : List ℕ) (b : Bool) → same_name e.name k ≡ b → p k ≡ true → p e.name ≡ false → rest ≡ [] → (if b then e.size ∷ rest else rest) ≡ []
skipped p k e rest true same is isnt none = let kind : p e.name ≡ p k = ap p (same_is e.name k same) in absurd cc
skipped p k e rest false other is isnt none = none

unlisted : (p : Name → Bool) (k : Name) (entries : List Entry) → p k ≡ true → list_any (is_kind p) entries ≡ false → sizes_of k entries ≡ []
unlisted p k [] is none = refl
unlisted p k (e ∷ entries) is none =
    let neithers = neither (p e.name) (list_any (is_kind p) entries) none in
    skipped p k e (sizes_of k entries) (same_name e.name k) refl is neithers.0 (unlisted p k entries is neithers.1)

either : (a b : Bool) → (a || b) ≡ true → (a ≡ true) ⊎ (b ≡ true)
either true b e = inl refl
either false b e = inr e

first_has : (e : Entry) (rest : List ℕ) (b : Bool) → b ≡ true → (if b then e.size ∷ rest else rest) ≢ []
first_has e rest true is none = absurd cc
first_has e rest false is none = absurd cc

more_has : (e : Entry) (rest : List ℕ) (b : Bool) → rest ≢ [] → (if b then e.size ∷ rest else rest) ≢ []
more_has e rest true has none = absurd cc
more_has e rest false has none = has none

-- where one is, its name has a length
listed : (p : Name → Bool) (entries : List Entry) → list_any (is_kind p) entries ≡ true → (k : Name) × (p k ≡ true) × (sizes_of k entries ≢ [])
listed p [] some = absurd cc
listed p (e ∷ entries) some =
    ⊎_elim (λ is. (e.name, is, first_has e (sizes_of e.name entries) (same_name e.name e.name) (same_self e.name)))
    (λ rest. let (k, is, has) = listed p entries rest in (k, is, more_has e (sizes_of k entries) (same_name e.name k) has))
    (either (p e.name) (list_any (is_kind p) entries) some)

none_there : (file : Option (List ℕ)) → size_of file ≡ [] → file ≡ None
none_there None e = refl
none_there (Some bytes) e = absurd cc

pub others_listed : (c : Image) (entries : List Entry) → IsListing c entries → list_any (is_kind is_beside) entries ≡ true → HasOthers c
others_listed c entries listing some =
    let (k, is, has) = listed is_beside entries some in
    (k, is, λ none. has (listing k ∙ ap size_of none))

pub none_listed : (c : Image) (entries : List Entry) → IsListing c entries → list_any (is_kind is_beside) entries ≡ false → IsBare c
none_listed c entries listing none k is = none_there (c k) (sym (listing k) ∙ unlisted is_beside k entries is none)

is_there : (file : Option (List ℕ)) → file ≢ None → is_some file ≡ true
is_there None some = absurd (some refl)
is_there (Some bytes) some = refl

-- whether the manifest is listed tells whether it is there
pub manifest_listed : (c : Image) (entries : List Entry) → IsListing c entries → list_any (is_kind (λ n. same_name n manifest_name)) entries ≡ is_some (c manifest_name)
manifest_listed c entries listing = by_list (list_any (is_kind (λ n. same_name n manifest_name)) entries) refl
  where
    by_list : (b : Bool) → list_any (is_kind (λ n. same_name n manifest_name)) entries ≡ b → b ≡ is_some (c manifest_name)
    by_list true some =
        let (k, is, has) = listed (λ n. same_name n manifest_name) entries some in
        sym (is_there (c manifest_name) (λ none. has (listing k ∙ ap (λ (n : Name). size_of (c n)) (same_is k manifest_name is) ∙ ap size_of none)))
    by_list false none =
        sym (ap is_some (none_there (c manifest_name) (sym (listing manifest_name) ∙ unlisted (λ n. same_name n manifest_name) manifest_name entries refl none)))
