-- Files that are removed one by one, and what is left of the others.
use Rattle.std.proofs.Common.{◌≡◌, ◌≢◌, ◌⊎◌, inl, inr, ⊎_elim, ℕ, Bool, true, false, if◌then◌else◌, List, [], ◌∷◌, length, Option, None, Some, refl, sym, ◌∙◌, ap, subst}
use Rattle.std.proofs.lemmas.Bool.{cases_Bool}
use Rattle.cas_disk.specs.declared.name.Name.{Name}
use Rattle.cas_disk.specs.declared.name.Name.TheVariants.{Manifest as manifest_name, Log as log_name, Table as table_name, Import as import_name}
use Rattle.cas_disk.specs.declared.name.Entry.{Entry}
use Rattle.cas_disk.specs.Names.{same_name}
use Rattle.cas_disk.specs.Disk.{Image, Disk, During, Follows, Same, Changed, MayGo, IsGone, IsListing, sizes_of, size_of}
use Rattle.cas_disk.specs.Inner.PastLaws.{same_self, same_is}
use Rattle.cas_disk.proofs.Moments.{reworded, one_call_more}
use Rattle.cas_disk.proofs.WrittenLasts.{Syncs}
use Rattle.cas_changes.specs.Saying.{Saying, is_listed}
use Rattle.cas_opening.specs.Opening.{Stays, IsListedTable}
use Rattle.cas_opening.specs.Inner.Counting.{listed_below}
use Rattle.cas_opening.proofs.Counts.{collected}
use Rattle.cas_opening.specs.Inner.Sweeping.{stays_of, Sweeps, Spares, HasOnlyListed}

-- ---- moments

pub sweeps_more : (stays : Name → Bool) (a b z : Disk) → During (Sweeps stays) a b → During (Sweeps stays) b z → During (Sweeps stays) a z
sweeps_more stays a b z first second =
    one_call_more (Sweeps stays) (Sweeps stays) a b z first second (λ d c was mid swept. swept)
    (λ e d c was before mid swept n is. swept n is ∙ before n is)

pub same_sweeps : (stays : Name → Bool) (a z : Disk) → During Same a z → During (Sweeps stays) a z
same_sweeps stays a z call = reworded Same (Sweeps stays) a z call (λ d c was same n is. same n)

-- a removal of a file that doesn't stay
pub removed_sweeps : (stays : Name → Bool) (n : Name) (a z : Disk) → stays n ≡ false → During (Changed n MayGo) a z → During (Sweeps stays) a z
removed_sweeps stays n a z goes call =
    reworded (Changed n MayGo) (Sweeps stays) a z call
    (λ d c was changed k is. changed.others k (λ same. let no : stays k ≡ false = ap stays same ∙ goes in absurd cc))

-- ---- what is read

-- the name is among these
abbrev pub IsAmong : Name → List Entry → Type 0
IsAmong n [] = ⊥
IsAmong n (e ∷ entries) = (same_name e.name n ≡ true) ⊎ IsAmong n entries

-- each file that is read and doesn't stay is among these
abbrev pub AreAmong : (Name → Bool) → List Entry → Disk → Type 0
AreAmong stays entries disk = (c : Image) → disk.reads c → (n : Name) → stays n ≡ false → c n ≢ None → IsAmong n entries

among_or_none : (n : Name) (entries : List Entry) → IsAmong n entries ⊎ (sizes_of n entries ≡ [])
among_or_none n [] = inr refl
among_or_none n (e ∷ entries) =
    let rest = among_or_none n entries in
    elim (cases_Bool (same_name e.name n)) [
      | inl is ↦ inl (inl is)
      | inr isnt ↦
          ⊎_elim (λ among. inl (inr among))
          (λ none. inr (ap (λ (b : Bool). if b then e.size ∷ sizes_of n entries else sizes_of n entries) isnt ∙ none)) rest
    ]

no_size : (file : Option (List ℕ)) → size_of file ≡ [] → file ≡ None
no_size None e = refl
no_size (Some bytes) e = absurd cc

-- what is listed is all that is there
pub all_among : (stays : Name → Bool) (entries : List Entry) (disk : Disk) → ((c : Image) → disk.reads c → IsListing c entries) → AreAmong stays entries disk
all_among stays entries disk listing c read n goes there =
    ⊎_elim (λ among. among) (λ none. absurd (there (no_size (c n) (sym (listing c read n) ∙ none)))) (among_or_none n entries)

-- the first stays
pub kept_first : (stays : Name → Bool) (e : Entry) (entries : List Entry) (disk : Disk) → stays e.name ≡ true → AreAmong stays (e ∷ entries) disk → AreAmong stays entries disk
kept_first stays e entries disk is among c read n goes there =
    ⊎_elim (λ first. let yes_too : stays n ≡ true = sym (ap stays (same_is e.name n first)) ∙ is in absurd cc) (λ rest. rest) (among c read n goes there)

-- the first is removed
pub removed_first : (stays : Name → Bool) (e : Entry) (entries : List Entry) (old new : Disk) → Follows (Changed e.name IsGone) old.reads new.reads
    → AreAmong stays (e ∷ entries) old → AreAmong stays entries new
removed_first stays e entries old new gone among c read n goes there =
    let (d, was, changed) = gone c read in
    let first_not : same_name e.name n ≢ true = λ same.
    there (ap c (sym (same_is e.name n same)) ∙ changed.here) in
    let other : n ≢ e.name = λ is. first_not (ap (same_name e.name) is ∙ same_self e.name) in
    ⊎_elim (λ first. absurd (first_not first)) (λ rest. rest)
    (among d was n goes (λ none. there (changed.others n other ∙ none)))

none_of : (file : Option (List ℕ)) → (file ≢ None → ⊥) → file ≡ None
none_of None not = refl
none_of (Some bytes) not = absurd (not (λ e. cc))

-- where none is left to be removed
pub none_left : (stays : Name → Bool) (entries : List Entry) (disk : Disk) → entries ≡ [] → AreAmong stays entries disk
    → (c : Image) → disk.reads c → (n : Name) → stays n ≡ false → c n ≡ None
none_left stays entries disk end among c read n goes =
    none_of (c n) (λ there. subst (λ (l : List Entry). IsAmong n l) end (among c read n goes there))

-- what is listed lists all that is read after it
pub listing_on : (a b : Disk) (entries : List Entry) → Follows Same a.reads b.reads → ((c : Image) → a.reads c → IsListing c entries) → (c : Image) → b.reads c → IsListing c entries
listing_on a b entries same listing c read n =
    let (d, was, still) = same c read in
    listing d was n ∙ ap size_of (sym (still n))

-- ---- what is said stays

-- a sync of the manifest makes it last that segments aren't there
pub only_listed : (segments tables : List ℕ) (swept synced : Disk) → ((c : Image) → swept.reads c → (n : Name) → stays_of segments tables n ≡ false → c n ≡ None)
    → Follows Same swept.reads synced.reads → Syncs manifest_name synced → HasOnlyListed segments synced
only_listed segments tables swept synced gone same syncs c left n goes =
    let (read, now, is) = syncs c left in
    let (d, was, still) = same read now in
    is.removed refl (log_name n) refl (still (log_name n) ∙ gone d was (log_name n) goes)

pub spares : (s : Saying) (tables : List ℕ) (a z : Disk) → ((n : ℕ) → IsListedTable s n → is_listed tables n ≡ true) → During (Sweeps (stays_of s.segments tables)) a z → During (Spares s) a z
spares s tables a z listed call =
    reworded (Sweeps (stays_of s.segments tables)) (Spares s) a z call (λ d c was swept n stays. swept n (is_kept n stays))
  where
    is_kept : (n : Name) → Stays s n → stays_of s.segments tables n ≡ true
    is_kept manifest_name stays = refl
    is_kept (log_name n) stays = stays
    is_kept (table_name n) stays = listed n stays
    is_kept (import_name n) stays = refl

-- what was collected of the listed tables, and the segments that are said, name the files that stay
pub all_spared : (s : Saying) (numbers segments tables : List ℕ) (a l z : Disk) → numbers ≡ listed_below s (length s.tables) → tables ≡ numbers → segments ≡ s.segments
    → During Same a l → During (Sweeps (stays_of segments tables)) l z → During (Spares s) a z
all_spared s numbers segments tables a l z collects same of first second =
    let is : tables ≡ listed_below s (length s.tables) = same ∙ collects in
    let sweeps : During (Sweeps (stays_of s.segments tables)) l z = subst (λ (ns : List ℕ). During (Sweeps (stays_of ns tables)) l z) of second in
    spares s tables a z (λ n listed. ap (λ (ns : List ℕ). is_listed ns n) is ∙ collected s n listed)
    (sweeps_more (stays_of s.segments tables) a l z (same_sweeps (stays_of s.segments tables) a l first) sweeps)

pub still_spared : (s : Saying) (a b z : Disk) → During (Spares s) a b → During Same b z → During (Spares s) a z
still_spared s a b z first second =
    one_call_more (Spares s) Same a b z first second (λ d c was mid same n stays. same n) (λ e d c was before mid same n stays. same n ∙ before n stays)
