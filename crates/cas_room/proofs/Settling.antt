-- A commit, and an entry that is told behind it.
use Rattle.std.proofs.Common.{◌≡◌, ◌⊎◌, ◌∙◌, inl, inr, ⊎_elim, ℕ, ◌≤◌, List, [], ◌∷◌, length, Some, Result, Ok, Err, refl, sym, subst, arith}
use Rattle.std.specs.Prelude.{MatchResult}
use Rattle.cas_disk.specs.declared.name.Name.TheVariants.{Table as table_name}
use Rattle.cas_disk.specs.Disk.{Image, Disk, During, IsKept}
use Rattle.cas_disk.proofs.Moments.{reworded, leaves_either, one_call_more}
use Rattle.cas_atoms.specs.declared.atom.Mutation.{Mutation}
use Rattle.cas_changes.specs.declared.entry.Change.{Change}
use Rattle.cas_changes.specs.declared.entry.Entry.{Entry}
use Rattle.cas_changes.specs.declared.entry.Entry.TheVariants as entry
use Rattle.cas_history.specs.declared.item.Item.{Item}
use Rattle.cas_journal.specs.Stores.{Told, Holds, SameTables, appended, committed_all, failed_at}
use Rattle.cas_journal.specs.Ends.{IsTold, told_after}
use Rattle.cas_journal.specs.declared.fault.JournalFault.{JournalFault}
use Rattle.cas_journal.specs.declared.journal.Journal.{Journal}
use Rattle.cas_journal.proofs.Moving.{still_so}
use Rattle.cas_room.specs.declared.event.Event.{Event}
use Rattle.cas_room.specs.Rooms.{after_define}
use Rattle.cas_room.specs.Keeping.{Keeps}
use Rattle.cas_room.specs.Changing.{Have, Stand, HoldsSettled, MayBeTold}

-- an image with all mutations that were taken has those that were committed
holds_fewer : (t : Told) (c : Image) → t.committed ≤ length t.taken → Holds (committed_all t) c → Holds t c
holds_fewer t c few holds =
    record { entries = holds.entries; listed = holds.listed; gone = holds.gone; front = holds.front; count = holds.count; least = omega (arith, few, holds.least); most = holds.most; store = holds.store }

module _ (t : Told) (e : Entry) (a b z : Disk) (first : During (λ _ c. Holds t c) a b) where
  pub only_settled : During (λ _ c. HoldsSettled t e c) a b
  only_settled = reworded (λ _ c. Holds t c) (λ _ c. HoldsSettled t e c) a b first (λ d c was holds. inl holds)

  pub then_told : t.committed ≤ length t.taken → During (λ _ c. Holds (committed_all t) c ⊎ Holds (failed_at e (committed_all t)) c) b z
      → During (λ _ c. HoldsSettled t e c) a z
  then_told few second =
      leaves_either (λ c. Holds t c) (λ c. Holds (committed_all t) c ⊎ Holds (failed_at e (committed_all t)) c) (λ c. HoldsSettled t e c) a b z first second
      (λ c holds. inl holds) (λ c holds. ⊎_elim (λ all. inl (holds_fewer t c few all)) (λ with_it. inr with_it) holds)

-- what the room keeps, once the entry was told
pub told_keeps : (k : Journal) (disk : Disk) (list : List (Item Event)) (said : ℕ) (found : List Mutation) (t : Told) (e : Entry) (r : Result (Unit {0}) JournalFault)
    → Keeps k disk list said found (after_define r e (committed_all t))
    → MatchResult r (λ _. Keeps k disk list said found (appended e (committed_all t))) (λ f. (u : Told) × MayBeTold f e t u × Keeps k disk list said found u)
told_keeps k disk list said found t e (Ok x) keeps = keeps
told_keeps k disk list said found t e (Err f) keeps = (told_after f e (committed_all t), inr refl, keeps)

-- a change of table files is told
pub told_change : (e : Entry) (c : Change) → e ≡ entry.Change c → IsTold e
told_change e c is = subst IsTold (sym is) tt

-- ---- the files of tables

-- two calls that leave them
pub tables_twice : (a b z : Disk) → During SameTables a b → During SameTables b z → During SameTables a z
tables_twice a b z first second =
    one_call_more SameTables SameTables a b z first second (λ d c was mid same. same) (λ e d c was so_far mid same n. same n ∙ so_far n)

have_same : (numbers : List ℕ) (d c : Image) → Have numbers d → SameTables d c → Have numbers c
have_same [] d c have same = tt
have_same (n ∷ numbers) d c have same = ((have.0.0, same n ∙ have.0.1), have_same numbers d c have.1 same)

-- images of one kind, which are of another too
pub both_leave : (P Q : Image → Type 0) (a z : Disk) → During (λ _ c. P c) a z → During (λ _ c. Q c) a z → During (λ _ c. P c × Q c) a z
both_leave P Q a z first second = record {
  later = first.later;
  each = λ t c le left. ⊎_elim (λ was. inl was) (λ made. ⊎_elim (λ was. inl was) (λ also. inr (made.0, made.1, (made.2, also.2))) (second.each t c le left)) (first.each t c le left);
  keeps = first.keeps;
  tells = first.tells;
}

module _ (old new : Disk) (call : During SameTables old new) where
  pub have_leaves : (numbers : List ℕ) → Stand numbers old → During (λ _ c. Have numbers c) old new
  have_leaves numbers stand = reworded SameTables (λ _ c. Have numbers c) old new call (λ d c was same. have_same numbers d c (stand d was) same)

  pub still_stand : (numbers : List ℕ) → Stand numbers old → Stand numbers new
  still_stand numbers stand = still_so SameTables old new call (λ c. Have numbers c) (λ d c have same. have_same numbers d c have same) stand

  pub tables_kept : (n : ℕ) (file : List ℕ) → IsKept (table_name n) file old → IsKept (table_name n) file new
  tables_kept n file kept = still_so SameTables old new call (λ c. c (table_name n) ≡ Some file) (λ d c is same. same n ∙ is) kept
