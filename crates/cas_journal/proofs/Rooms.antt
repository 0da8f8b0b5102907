-- Room that is made in several steps.
use Rattle.std.proofs.Common.{◌≡◌, ◌⊎◌, inl, inr, ℕ, ◌≤◌, [], ◌∷◌, length, Bool, true, false, Result, Ok, Err, refl, sym, ◌∙◌, arith}
use Rattle.std.specs.Prelude.{MatchResult}
use Rattle.std.proofs.lemmas.List.{append-nil}
use Rattle.cas_disk.specs.Disk.{Image, Disk, During}
use Rattle.cas_disk.proofs.Moments.{reworded, leaves_either}
use Rattle.cas_changes.specs.declared.entry.Entry.TheVariants.{NewSegment}
use Rattle.cas_journal.specs.Stores.{Told, Holds, MadeRoom, HoldsWithRoom, committed_all, appended, failed_at}
use Rattle.cas_journal.specs.Journals.{Lasts}
use Rattle.cas_journal.specs.Ends.{told_after}
use Rattle.cas_journal.specs.Inner.Parts.{fits_in, FitsOrSettled}
use Rattle.cas_journal.specs.declared.fault.JournalFault.{JournalFault}
use Rattle.cas_journal.specs.declared.fault.JournalFault.TheVariants.{TooLarge, TooMany, Stopped, Failed, Mem}
use Rattle.cas_journal.specs.declared.journal.Journal.{Journal}

-- what each step is

pub none_made : (t : Told) → MadeRoom t t
none_made t = record { found = refl; numbers = []; entries = sym (append-nil t.entries); failed = inl refl; taken = refl; committed = omega arith; leaving = refl }

pub settled_made : (t : Told) → t.committed ≤ length t.taken → MadeRoom t (committed_all t)
settled_made t few = record { found = refl; numbers = []; entries = sym (append-nil t.entries); failed = inl refl; taken = refl; committed = few; leaving = refl }

pub named_made : (t : Told) (n : ℕ) → MadeRoom t (appended (NewSegment n) t)
named_made t n = record { found = refl; numbers = n ∷ []; entries = refl; failed = inl refl; taken = refl; committed = omega arith; leaving = refl }

pub failed_made : (t : Told) (n : ℕ) → MadeRoom t (failed_at (NewSegment n) t)
failed_made t n = record { found = refl; numbers = []; entries = sym (append-nil t.entries); failed = inr (n, refl); taken = refl; committed = omega arith; leaving = refl }

pub made_behind : (t u : Told) → t.committed ≤ length t.taken → MadeRoom (committed_all t) u → MadeRoom t u
made_behind t u few made =
    record { found = made.found; numbers = made.numbers; entries = made.entries; failed = made.failed; taken = made.taken; committed = omega (arith, few, made.committed); leaving = made.leaving }

-- what each image holds

pub holds_plain : (t : Told) (c : Image) → Holds t c → HoldsWithRoom t c
holds_plain t c holds = (t, none_made t, holds)

pub holds_named : (t : Told) (n : ℕ) (c : Image) → Holds t c ⊎ Holds (failed_at (NewSegment n) t) c → HoldsWithRoom t c
holds_named t n c (inl holds) = holds_plain t c holds
holds_named t n c (inr holds) = (failed_at (NewSegment n) t, failed_made t n, holds)

pub holds_behind : (t : Told) (c : Image) → t.committed ≤ length t.taken → HoldsWithRoom (committed_all t) c → HoldsWithRoom t c
holds_behind t c few holds = (holds.0, made_behind t holds.0 few holds.1, holds.2)

pub plain_leaves : (t : Told) (old new : Disk) → During (λ _ c. Holds t c) old new → During (λ _ c. HoldsWithRoom t c) old new
plain_leaves t old new call = reworded (λ _ c. Holds t c) (λ _ c. HoldsWithRoom t c) old new call (λ d c was holds. holds_plain t c holds)

pub named_leaves : (t : Told) (n : ℕ) (a b z : Disk) → During (λ _ c. Holds t c) a b → During (λ _ c. Holds t c ⊎ Holds (failed_at (NewSegment n) t) c) b z
    → During (λ _ c. HoldsWithRoom t c) a z
named_leaves t n a b z first second =
    leaves_either (λ c. Holds t c) (λ c. Holds t c ⊎ Holds (failed_at (NewSegment n) t) c) (λ c. HoldsWithRoom t c) a b z first second (holds_plain t) (holds_named t n)

pub behind_leaves : (t : Told) (a b z : Disk) → t.committed ≤ length t.taken → During (λ _ c. Holds t c) a b → During (λ _ c. HoldsWithRoom (committed_all t) c) b z
    → During (λ _ c. HoldsWithRoom t c) a z
behind_leaves t a b z few first second =
    leaves_either (λ c. Holds t c) (λ c. HoldsWithRoom (committed_all t) c) (λ c. HoldsWithRoom t c) a b z first second (holds_plain t) (λ c holds. holds_behind t c few holds)

-- what lasts

-- after the name of a segment, or a fault
pub named_lasts : (k : Journal) (disk : Disk) (t : Told) (n : ℕ) (r : Result (Unit {0}) JournalFault)
    → MatchResult r (λ _. Lasts k disk (appended (NewSegment n) t)) (λ f. Lasts k disk (told_after f (NewSegment n) t)) → (u : Told) × MadeRoom t u × Lasts k disk u
named_lasts k disk t n (Ok x) lasts = (appended (NewSegment n) t, named_made t n, lasts)
named_lasts k disk t n (Err Failed) lasts = (failed_at (NewSegment n) t, failed_made t n, lasts)
named_lasts k disk t n (Err Mem) lasts = (t, none_made t, lasts)
named_lasts k disk t n (Err (TooMany what most)) lasts = (t, none_made t, lasts)
named_lasts k disk t n (Err (TooLarge long most)) lasts = (t, none_made t, lasts)
named_lasts k disk t n (Err (Stopped x)) lasts = (t, none_made t, lasts)

-- after it was seen that the record fits, or all was committed
pub fitting_lasts : (k : Journal) (long : ℕ) (disk : Disk) (t : Told) → t.committed ≤ length t.taken → FitsOrSettled k long disk t → (u : Told) × MadeRoom t u × Lasts k disk u
fitting_lasts k long disk t few (inl fits) = (t, none_made t, fits.1)
fitting_lasts k long disk t few (inr settled) = (committed_all t, settled_made t few, settled)

-- where it doesn't fit all was committed
pub all_settled : (k : Journal) (long : ℕ) (disk : Disk) (t : Told) (room : Bool) → room ≡ fits_in k.log long → room ≡ false → FitsOrSettled k long disk t → Lasts k disk (committed_all t)
all_settled k long disk t room is none (inl fits) = absurd (not_both (sym none ∙ is ∙ fits.0))
  where
    not_both : false ≡ true → ⊥
    not_both e = cc
all_settled k long disk t room is none (inr settled) = settled
