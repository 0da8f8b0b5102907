-- A store that is loaded, or made.
use Rattle.std.proofs.Common.{◌≡◌, ◌≢◌, inl, inr, ℕ, Bool, true, false, List, [], ◌∷◌, length, Option, None, Some, is_some, Result, Ok, Err, IfOk, IfErr, eqb, refl, sym, ◌∙◌, ap, subst, arith}
use Rattle.std.proofs.lemmas.Bool.{eqb-true}
use Rattle.cas_types.specs.Limits.{IsShardCount}
use Rattle.cas_io.specs.Causes.{Rose}
use Rattle.cas_codec.specs.Fields.{u8}
use Rattle.cas_disk.specs.declared.name.Name.TheVariants.{Manifest as manifest_name}
use Rattle.cas_disk.specs.Disk.{Image, Disk, During, Follows, Changed, Same}
use Rattle.cas_disk.proofs.Moments.{reworded, one_call_more, reads_on}
use Rattle.cas_gates.specs.declared.first.First.{First}
use Rattle.cas_changes.specs.declared.entry.Entry.{Entry}
use Rattle.cas_changes.specs.Allowed.{FitsEntry}
use Rattle.cas_changes.specs.Saying.{Saying, nothing, after, said_by}
use Rattle.cas_changes.specs.Spelling.{entry_bytes}
use Rattle.cas_manifest.specs.Manifests.{MayBegin, MayHave, Ends, is_made}
use Rattle.cas_manifest.specs.Reading.{Far, manifest_of}
use Rattle.cas_manifest.specs.Loading.{MayBeNewStore, new_store, Loads, IsNew, IsBare, IsEmpty, HasOthers, first_entry, first_entries}
use Rattle.cas_manifest.specs.Inner.Loading.{LoadsMade, LoadsUnmade, LoadsFound, MayMake}
use Rattle.cas_manifest.specs.Inner.Making.{IsFolderFault}
use Rattle.cas_manifest.specs.declared.fault.ManifestFault.{ManifestFault}
use Rattle.cas_manifest.specs.declared.fault.ManifestFault.TheVariants.{TooMany, Failed, Stopped, Bad, Mem}

-- ---- while a store is made

module _ (shards : ℕ) where
  abbrev pub News : Disk → Disk → Type 0
  News a z = During (Changed manifest_name (MayBeNewStore shards)) a z

  pub same_news : (a z : Disk) → During Same a z → News a z
  same_news a z call =
      reworded Same (Changed manifest_name (MayBeNewStore shards)) a z call (λ d c was same. record { here = inl (same manifest_name); others = λ k other. same k })

  may_begin : (old new : Option (List ℕ)) → MayBegin old new → MayBeNewStore shards old new
  may_begin old new (inl same) = inl same
  may_begin old new (inr (inl unmade)) = inr (inl unmade)
  may_begin old new (inr (inr empty)) = inr (inr (empty.0, empty.1, inl empty.2))

  pub begin_news : (a z : Disk) → During (Changed manifest_name MayBegin) a z → News a z
  begin_news a z call =
      reworded (Changed manifest_name MayBegin) (Changed manifest_name (MayBeNewStore shards)) a z call
      (λ d c was changed. record { here = may_begin (d manifest_name) (c manifest_name) changed.here; others = changed.others })

  pub have_news : (a z : Disk) → During (Changed manifest_name (λ _ file. MayHave [] (first_entry shards) file)) a z → News a z
  have_news a z call =
      reworded (Changed manifest_name (λ _ file. MayHave [] (first_entry shards) file)) (Changed manifest_name (MayBeNewStore shards)) a z call
      (λ d c was changed. record { here = inr (inr changed.here); others = changed.others })

  twice : (x y z : Option (List ℕ)) → MayBeNewStore shards x y → MayBeNewStore shards y z → MayBeNewStore shards x z
  twice x y z first (inl same) = subst (λ (f : Option (List ℕ)). MayBeNewStore shards x f) (sym same) first
  twice x y z first (inr new) = inr new

  pub news_more : (a b z : Disk) → News a b → News b z → News a z
  news_more a b z first second =
      one_call_more (Changed manifest_name (MayBeNewStore shards)) (Changed manifest_name (MayBeNewStore shards)) a b z first second
      (λ d c was mid changed. changed)
      (λ e d c was before mid changed. record {
        here = twice (e manifest_name) (d manifest_name) (c manifest_name) before.here changed.here;
        others = λ k other. changed.others k other ∙ before.others k other;
      })

-- ---- the first entry

pub fits_first : (shards : ℕ) → IsShardCount shards → FitsEntry (said_by []) (first_entry shards)
unfolding said_by
fits_first shards count = (refl, count)

pub short_first : (shards : ℕ) → length (entry_bytes (first_entry shards)) ≡ 2
unfolding u8
short_first shards = refl

pub said_first : (shards : ℕ) → after nothing (first_entry shards) ≡ said_by (first_entries shards)
unfolding said_by
said_first shards = refl

pub said_nothing : said_by [] ≡ nothing
unfolding said_by
said_nothing = refl

-- it passes no limit, so that an append of it ends by a fault of the folder alone
pub begin_fault : (limit : Option ManifestFault) (kept : Option First) (before now : ℕ) (f : ManifestFault) → limit ≡ None → Ends {T = Unit {0}} limit None kept before now (Err f)
    → IsFolderFault f × (f ≡ Failed → Rose before now)
begin_fault limit kept before now Failed none ends = (tt, λ is. ends.0)
begin_fault limit kept before now Mem none ends = (tt, λ is. absurd cc)
begin_fault limit kept before now (TooMany what most) none ends = let told : limit ≡ Some (TooMany what most) = ends.1 in absurd cc
begin_fault limit kept before now (Stopped first) none ends = absurd ends
begin_fault limit kept before now (Bad at) none ends = absurd ends

-- ---- what is answered

unmade_found : {T : Type 0} (view : T → Far) (shards : ℕ) (found : Option (List ℕ)) (others : Bool) (r : Result T ManifestFault) → is_made found ≡ false
    → LoadsUnmade view shards others r → LoadsFound view shards found others r
unmade_found view shards found others (Ok x) unmade h = inr (inl (unmade, h.0), h.1)
unmade_found view shards found others (Err (Bad at)) unmade h = inr (unmade, h.0, h.1)
unmade_found view shards found others (Err Failed) unmade h = tt
unmade_found view shards found others (Err Mem) unmade h = tt
unmade_found view shards found others (Err (TooMany what limit)) unmade h = tt
unmade_found view shards found others (Err (Stopped first)) unmade h = tt

made_found : {T : Type 0} (view : T → Far) (shards : ℕ) (file : List ℕ) (others : Bool) (r : Result T ManifestFault) → is_made (Some file) ≡ true
    → LoadsMade view shards file r → LoadsFound view shards (Some file) others r
made_found view shards file others (Ok x) made (inl has) = inl has
made_found view shards file others (Ok x) made (inr (empty, same)) = inr (inr empty, same)
made_found view shards file others (Err (Bad at)) made h = inl (made, h)
made_found view shards file others (Err Failed) made h = tt
made_found view shards file others (Err Mem) made h = tt
made_found view shards file others (Err (TooMany what limit)) made h = tt
made_found view shards file others (Err (Stopped first)) made h = tt

module _ (c : Image) (others : Bool) (has : others ≡ true → HasOthers c) (bare : others ≡ false → IsBare c) where
  pub is_new : (found : Option (List ℕ)) → c manifest_name ≡ found → MayMake found others → IsNew c
  is_new found is make = by_file (subst (λ (f : Option (List ℕ)). MayMake f others) (sym is) make)
    where
      by_file : MayMake (c manifest_name) others → IsNew c
      by_file (inl (unmade, none)) = inl (unmade, bare none)
      by_file (inr empty) = inr empty

  here : {T : Type 0} (view : T → Far) (shards : ℕ) (r : Result T ManifestFault) → LoadsFound view shards (c manifest_name) others r → Loads view shards c r
  here view shards (Ok x) (inl store) = inl store
  here view shards (Ok x) (inr (make, same)) = inr (is_new (c manifest_name) refl make, same)
  here view shards (Err (Bad at)) (inl bad) = inl bad
  here view shards (Err (Bad at)) (inr (unmade, some, first)) = inr (unmade, has some, first)
  here view shards (Err Failed) h = tt
  here view shards (Err Mem) h = tt
  here view shards (Err (TooMany what limit)) h = tt
  here view shards (Err (Stopped first)) h = tt

  -- of what the folder reads
  pub loads : {T : Type 0} (view : T → Far) (shards : ℕ) (found : Option (List ℕ)) (r : Result T ManifestFault) → c manifest_name ≡ found
      → LoadsFound view shards found others r → Loads view shards c r
  loads view shards found r is h = here view shards r (subst (λ (f : Option (List ℕ)). LoadsFound view shards f others r) (sym is) h)

  -- where no manifest is there
  pub loads_missing : {T : Type 0} (view : T → Far) (shards : ℕ) (r : Result T ManifestFault) → c manifest_name ≡ None → LoadsUnmade view shards others r → Loads view shards c r
  loads_missing view shards r is h = loads view shards None r is (unmade_found view shards None others r refl h)

  pub others_or_new : {P : Type 0} → c manifest_name ≡ None → (IsNew c → ⊥) → (others ≡ true → P) → P
  others_or_new {P} is old some = by_others others refl
    where
      by_others : (b : Bool) → others ≡ b → P
      by_others true e = some e
      by_others false e = absurd (old (inl (ap is_made is, bare e)))

pub loads_unmade : {T : Type 0} (view : T → Far) (shards : ℕ) (file : List ℕ) (others : Bool) (r : Result T ManifestFault) → is_made (Some file) ≡ false
    → LoadsUnmade view shards others r → LoadsFound view shards (Some file) others r
loads_unmade view shards file others r unmade h = unmade_found view shards (Some file) others r unmade h

pub loads_made : {T : Type 0} (view : T → Far) (shards : ℕ) (file : List ℕ) (others : Bool) (r : Result T ManifestFault) → is_made (Some file) ≡ true
    → LoadsMade view shards file r → LoadsFound view shards (Some file) others r
loads_made = made_found

-- a store has entries, whether it was there or is made
new_made : (shards : ℕ) (far : Far) → far ≡ new_store shards → far.1 ≢ []
new_made shards far is none = let both : first_entries shards ≡ [] = sym (ap (λ (x : Far). x.1) is) ∙ none in absurd cc

pub made_unmade : {T : Type 0} (view : T → Far) (shards : ℕ) (others : Bool) (r : Result T ManifestFault) → LoadsUnmade view shards others r → IfOk r (λ m. (view m).1 ≢ [])
made_unmade view shards others (Ok x) h = new_made shards (view x) h.1
made_unmade view shards others (Err f) h = tt

pub made_either : {T : Type 0} (view : T → Far) (shards : ℕ) (found : Option (List ℕ)) (others : Bool) (r : Result T ManifestFault) → LoadsFound view shards found others r
    → IfOk r (λ m. (view m).1 ≢ [])
made_either view shards found others (Ok x) (inl has) = has.2
made_either view shards found others (Ok x) (inr (make, same)) = new_made shards (view x) same
made_either view shards found others (Err f) h = tt

-- a manifest without entries got its first
pub begun_loads : {T : Type 0} (said : T → Saying) (entries : T → List Entry) (shards : ℕ) (file : List ℕ) (r : Result T ManifestFault) → IsEmpty file
    → IfOk r (λ m. (said m ≡ said_by (entries m)) × (entries m ≡ first_entries shards)) → IfErr r (λ f. IsFolderFault f) → LoadsMade (λ m. (said m, entries m)) shards file r
begun_loads said entries shards file (Ok x) empty first why =
    let says : said x ≡ said_by (first_entries shards) = first.0 ∙ ap said_by first.1 in
    inr (empty, λ i. (says i, first.1 i))
begun_loads said entries shards file (Err Failed) empty first why = tt
begun_loads said entries shards file (Err Mem) empty first why = tt
begun_loads said entries shards file (Err (Bad at)) empty first why = absurd why
begun_loads said entries shards file (Err (TooMany what limit)) empty first why = absurd why
begun_loads said entries shards file (Err (Stopped kept)) empty first why = absurd why

pub is_empty : (file : List ℕ) (far : Far) (at : ℕ) → manifest_of file ≡ Ok (far, at) → far.0 ≡ said_by far.1 → far.1 ≡ [] → IsEmpty file
is_empty file far at read says none =
    let same : far.0 ≡ nothing = says ∙ ap said_by none ∙ said_nothing in
    (at, read ∙ λ i. Ok ((same i, none i), at))

-- ---- what is there

pub no_items : {A : Type 0} (xs : List A) (n : ℕ) (b : Bool) → length xs ≡ n → b ≡ eqb n 0 → b ≡ true → xs ≡ []
no_items [] n b long is none = refl
no_items (x ∷ xs) n b long is none = let zero : n ≡ 0 = eqb-true n 0 (sym is ∙ none) in absurd (omega (arith, long, zero))

pub not_there : (file : Option (List ℕ)) → is_some file ≡ false → file ≡ None
not_there None e = refl
not_there (Some bytes) e = absurd cc

-- what the list told of what was read holds of what is read after it
pub after_list : (P : Option (List ℕ) → Type 0) (a b : Disk) → Follows Same a.reads b.reads → ((c : Image) → a.reads c → P (c manifest_name)) → (c : Image) → b.reads c → P (c manifest_name)
after_list P a b same told c now = let (d, was, still) = same c now in subst P (sym (still manifest_name)) (told d was)

-- what is read after the list was read before it
pub before_list : (P : Option (List ℕ) → Type 0) (a b : Disk) → During Same a b → Follows Same a.reads b.reads → ((c : Image) → b.reads c → P (c manifest_name)) → (c : Image) → a.reads c → P (c manifest_name)
before_list P a b call same told c was = let (d, now, still) = reads_on a b call same c was in subst P (still manifest_name) (told d now)
