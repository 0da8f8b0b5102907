-- The manifest lists the same table files while a call is under way.
use Rattle.std.proofs.Common.{◌≡◌, ◌≢◌, ◌∙◌, ◌≤◌, ◌<◌, inl, inr, ⊎_elim, ℕ, List, [], ◌∷◌, ◌++◌, Option, None, Some, Result, Ok, Err, refl, sym, ap, subst, append-nil, append_assoc, arith}
use Rattle.std.specs.Prelude.{◌⊎◌}
use Rattle.std.specs.List.{AllByRecursion}
use Rattle.std.proofs.lemmas.Option.{same_Some}
use Rattle.cas_disk.specs.declared.name.Name.TheVariants.{Manifest as manifest_name, Table as table_name}
use Rattle.cas_disk.specs.Disk.{Changed, Disk, During, Image, Leaves, Same}
use Rattle.cas_disk.proofs.Moments.{left_after, no_call, one_call_more, reworded}
use Rattle.cas_gates.specs.declared.first.First.{First}
use Rattle.cas_atoms.specs.declared.atom.Mutation.{Mutation}
use Rattle.cas_changes.specs.declared.entry.Entry.{Entry as ManifestEntry}
use Rattle.cas_manifest.specs.File.{IsManifest}
use Rattle.cas_journal.specs.Ends.{Ends, IsToldAtOnce, Prepares, WritesNothing}
use Rattle.cas_journal.specs.Journals.{Lasts}
use Rattle.cas_journal.specs.Stores.{FailedToName, Holds, HoldsWithRoom, IsStore, SameTables, Told, failed_at, named}
use Rattle.cas_journal.specs.declared.fault.JournalFault.{JournalFault}
use Rattle.cas_journal.specs.declared.fault.JournalFault.TheVariants.{TooLarge, TooMany, Stopped, Failed, Mem}
use Rattle.cas_journal.specs.declared.journal.Journal.{Journal}
use Rattle.cas_recovery.specs.Restored.{IsTold}
use Rattle.cas_lasting.specs.Listing.{HasBehind, HasEntries, KeepsListing, ListsNone, SameListing, SameUpTo}
use Rattle.cas_lasting.specs.Nodes.{State}
use Rattle.cas_lasting.proofs.Alone.{manifest_alone}

-- ---- entries

named_none : (numbers : List ℕ) → AllByRecursion ListsNone (named numbers)
named_none [] = tt
named_none (n ∷ numbers) = (tt, named_none numbers)

all_both : (xs ys : List ManifestEntry) → AllByRecursion ListsNone xs → AllByRecursion ListsNone ys → AllByRecursion ListsNone (xs ++ ys)
all_both [] ys one two = two
all_both (x ∷ xs) ys one two = (one.0, all_both xs ys one.1 two)

-- what failed, where nothing had
named_failed : (before now : List ManifestEntry) → before ≡ [] → FailedToName before now → AllByRecursion ListsNone now
named_failed before now none (inl same) = subst (λ l. AllByRecursion ListsNone l) (sym (same ∙ none)) tt
named_failed before now none (inr (n, is)) = subst (λ l. AllByRecursion ListsNone l) (sym is) (tt, tt)

only_told : (entries failed es : List ManifestEntry) → failed ≡ [] → (es ≡ entries) ⊎ (es ≡ entries ++ failed) → es ≡ entries
only_told entries failed es none (inl same) = same
only_told entries failed es none (inr more) = more ∙ ap (λ l. entries ++ l) none ∙ append-nil entries

-- ---- images

stored : (entries : List ManifestEntry) (mutations : List Mutation) (c : Image) → IsStore entries mutations c → HasEntries entries c
stored entries mutations c store = (store.file, store.there, store.manifest)

pub entries_alone : (es fs : List ManifestEntry) (c : Image) → HasEntries es c → HasEntries fs c → es ≡ fs
entries_alone es fs c one other =
    manifest_alone es fs one.0 one.2 (subst (λ f. IsManifest fs f) (same_Some other.0 one.0 (sym other.1 ∙ one.1)) other.2)

behind_more : (entries more : List ManifestEntry) (c : Image) → AllByRecursion ListsNone more → HasBehind (entries ++ more) c → HasBehind entries c
behind_more entries more c none (rest, also, has) =
    (more ++ rest, all_both more rest none also, subst (λ es. HasEntries es c) (append_assoc entries more rest) has)

behind_none : (entries : List ManifestEntry) (c : Image) → HasEntries entries c → HasBehind entries c
behind_none entries c has = ([], tt, subst (λ es. HasEntries es c) (sym (append-nil entries)) has)

held_behind : (t : Told) (c : Image) → AllByRecursion ListsNone t.failed → Holds t c → HasBehind t.entries c
held_behind t c none holds = by holds.listed
  where
    has : HasEntries holds.entries c
    has = stored holds.entries _ c holds.store

    by : (holds.entries ≡ t.entries) ⊎ (holds.entries ≡ t.entries ++ t.failed) → HasBehind t.entries c
    by (inl same) = behind_none t.entries c (subst (λ es. HasEntries es c) same has)
    by (inr more) = (t.failed, none, subst (λ es. HasEntries es c) more has)

room_behind : (t : Told) (c : Image) → t.failed ≡ [] → HoldsWithRoom t c → HasBehind t.entries c
room_behind t c none (u, made, holds) =
    behind_more t.entries (named made.numbers) c (named_none made.numbers)
    (subst (λ es. HasBehind es c) made.entries (held_behind u c (named_failed t.failed u.failed none made.failed) holds))

-- ---- calls

same_listing : (d c : Image) → Same d c → SameListing d c
same_listing d c same entries (file, there, is) = behind_none entries c (file, same manifest_name ∙ there, is)

listing_more : (d m c : Image) → SameListing d m → SameListing m c → SameListing d c
listing_more d m c one two entries has =
    let (more, none, here) = one entries has in
    behind_more entries more c none (two (entries ++ more) here)

pub listing_twice : (a b z : Disk) → During SameListing a b → During SameListing b z → During SameListing a z
listing_twice a b z first second =
    one_call_more SameListing SameListing a b z first second (λ d c was mid same. same) (λ e d c was so_far mid same. listing_more e d c so_far same)

still_lists : (a z : Disk) → During Same a z → During SameListing a z
still_lists a z call = reworded Same SameListing a z call (λ d c was same. same_listing d c same)

-- a call that changes nothing
pub lists_nothing : (s : State) (d : Disk) → KeepsListing s d d
lists_nothing s d h found told stands lasts = no_call SameListing d

-- ---- table files up to a number

-- all of them are the same
pub up_to_same : (k : ℕ) (a b : Disk) → During SameTables a b → During (SameUpTo k) a b
up_to_same k a b call = reworded SameTables (SameUpTo k) a b call (λ d c was same n low. same n)

-- two calls, the first up to no higher a number
pub up_to_twice : (k l : ℕ) (a b c : Disk) → k ≤ l → During (SameUpTo k) a b → During (SameUpTo l) b c → During (SameUpTo k) a c
up_to_twice k l a b c le first second =
    one_call_more (SameUpTo k) (SameUpTo l) a b c first second (λ d i was mid same n low. same n (omega (arith, low, le)))
    (λ e d i was so_far mid same n low. same n (omega (arith, low, le)) ∙ so_far n low)

apart : (k n : ℕ) → k < n → table_name k ≢ table_name n
apart k n lt same = let e : k ≡ n = cc in omega (arith, e, lt)

-- only one above is another
pub up_to_below : (k number : ℕ) (change : Option (List ℕ) → Option (List ℕ) → Type 0) (a b : Disk) → k < number → During (Changed (table_name number) change) a b
    → During (SameUpTo k) a b
up_to_below k number change a b lt call =
    reworded (Changed (table_name number) change) (SameUpTo k) a b call (λ d c was changed n low. changed.others (table_name n) (apart n number (omega (arith, low, lt))))

-- ---- how a call ended

stopped_so : {T : Type 0} (g : First) (f : JournalFault) (r : Result T JournalFault) → r ≡ Err f → r ≡ Err (Stopped g) → f ≡ Stopped g
stopped_so g f r is stopped = cc

no_ok : {T : Type 0} (g : First) (x : T) (r : Result T JournalFault) → r ≡ Ok x → r ≡ Err (Stopped g) → ⊥
no_ok g x r is stopped = cc

pub going_on : {T : Type 0} (first kept : Option First) (before now : ℕ) (x : T) → Ends first kept before now (Ok x) → (first ≡ None) × (kept ≡ None)
going_on None kept before now x ends = (refl, ends)
going_on {T} (Some g) kept before now x ends = absurd (no_ok {T = T} g x (Ok x) refl ends.0)

nothing_written : (T : Type 0) (first kept : Option First) (before now : ℕ) (f : JournalFault) → Ends {T = T} first kept before now (Err f) → (first ≡ None) ⊎ WritesNothing f
nothing_written T None kept before now f ends = inl refl
nothing_written T (Some g) kept before now f ends = inr (subst WritesNothing (sym (stopped_so {T = T} g f (Err f) refl ends.0)) tt)

at_once : (first kept : Option First) (before now : ℕ) (f : JournalFault) → Ends {T = Unit {0}} first kept before now (Err f) → (first ≡ None) ⊎ IsToldAtOnce f
at_once None kept before now f ends = inl refl
at_once (Some g) kept before now f ends = inr (subst IsToldAtOnce (sym (stopped_so {T = Unit {0}} g f (Err f) refl ends.0)) tt)

told_at_once : (long most : ℕ) (first kept : Option First) (before now : ℕ) (f : JournalFault) → Prepares {T = ℕ} long most first kept before now (Err f)
    → (first ≡ None) ⊎ IsToldAtOnce f
told_at_once long most first kept before now (TooLarge length limit) ends = inr tt
told_at_once long most first kept before now (TooMany what n) ends = at_once first kept before now (TooMany what n) ends.1
told_at_once long most first kept before now (Stopped g) ends = at_once first kept before now (Stopped g) ends.1
told_at_once long most first kept before now Failed ends = at_once first kept before now Failed ends.1
told_at_once long most first kept before now Mem ends = at_once first kept before now Mem ends.1

module _ (j : Journal) (d e : Disk) (t : Told) (lasts : Lasts j d t) where
  -- while no fault is kept each image has just what was told
  pub has_told : t.failed ≡ [] → (b : Image) → d.may_leave b → HasEntries t.entries b
  has_told none b was =
      let holds = lasts.holds b was in
      subst (λ es. HasEntries es b) (only_told t.entries t.failed holds.entries none holds.listed) (stored holds.entries _ b holds.store)

  lists_by : j.first ≡ None → Leaves (λ c. HasBehind t.entries c) d e → During SameListing d e
  lists_by going leaves =
      reworded (λ _ c. HasBehind t.entries c) SameListing d e leaves
      (λ b c was behind entries has.
      subst (λ es. HasBehind es c) (entries_alone t.entries entries b (has_told (lasts.goes going).none_failed b was) has) behind)

  pub lists_room : j.first ≡ None → Leaves (λ c. HoldsWithRoom t c) d e → During SameListing d e
  lists_room going leaves =
      lists_by going
      (reworded (λ _ c. HoldsWithRoom t c) (λ _ c. HasBehind t.entries c) d e leaves (λ b c was holds. room_behind t c (lasts.goes going).none_failed holds))

  pub lists_held : j.first ≡ None → Leaves (λ c. Holds t c) d e → During SameListing d e
  lists_held going leaves =
      lists_by going
      (reworded (λ _ c. Holds t c) (λ _ c. HasBehind t.entries c) d e leaves
      (λ b c was holds. held_behind t c (subst (λ l. AllByRecursion ListsNone l) (sym (lasts.goes going).none_failed) tt) holds))

  -- a definition was told, or the disk failed
  pub lists_told : (x : ManifestEntry) → ListsNone x → j.first ≡ None → Leaves (λ c. Holds t c ⊎ Holds (failed_at x t) c) d e → During SameListing d e
  lists_told x none going leaves =
      lists_by going
      (reworded (λ _ c. Holds t c ⊎ Holds (failed_at x t) c) (λ _ c. HasBehind t.entries c) d e leaves
      (λ b c was either. ⊎_elim
      (λ holds. held_behind t c (subst (λ l. AllByRecursion ListsNone l) (sym (lasts.goes going).none_failed) tt) holds)
      (λ holds. held_behind (failed_at x t) c (none, tt) holds) either))

  -- a mutation wasn't accepted
  pub lists_untaken : (long most : ℕ) (kept : Option First) (before now : ℕ) (f : JournalFault) → Prepares {T = ℕ} long most j.first kept before now (Err f)
      → (IsToldAtOnce f → During Same d e) → Leaves (λ c. HoldsWithRoom t c) d e → During SameListing d e
  lists_untaken long most kept before now f ends same leaves =
      ⊎_elim (λ going. lists_room going leaves) (λ told. still_lists d e (same told)) (told_at_once long most j.first kept before now f ends)

  -- a definition wasn't told
  pub lists_untold : (T : Type 0) (x : ManifestEntry) (kept : Option First) (before now : ℕ) (f : JournalFault) → ListsNone x
      → Ends {T = T} j.first kept before now (Err f) → (WritesNothing f → During Same d e) → Leaves (λ c. Holds t c ⊎ Holds (failed_at x t) c) d e
      → During SameListing d e
  lists_untold T x kept before now f none ends same leaves =
      ⊎_elim (λ going. lists_told x none going leaves) (λ told. still_lists d e (same told)) (nothing_written T j.first kept before now f ends)

-- ---- from the opening on

-- what was told at the opening, in each image that is left after calls that list the same
pub lists_since : (j : Journal) (d e : Disk) (t : Told) (entries : List ManifestEntry) (mutations : List Mutation) → IsTold entries mutations t → Lasts j d t
    → During SameListing d e → (i : Image) → e.may_leave i → HasBehind entries i
lists_since j d e t entries mutations told lasts call i left =
    behind_more entries (named told.begun.0) i (named_none told.begun.0)
    (subst (λ es. HasBehind es i) told.begun.1
    (⊎_elim (λ was. behind_none t.entries i (has_told j d e t lasts told.failed i was))
    (λ made. made.2 t.entries (has_told j d e t lasts told.failed made.0 made.1)) (left_after SameListing d e call i left)))
