-- The files of tables: what a call on one leaves of what the room keeps, and a number that is drawn.
use Rattle.std.proofs.Common.{◌≡◌, ◌∙◌, ℕ, ◌+◌, ◌≤◌, true, List, [], ◌∷◌, ◌++◌, length, take, Option, Result, Ok, Err, refl, sym, ap, subst, arith, length-append}
use Rattle.std.specs.Prelude.{MatchResult, OnOk, OnErr}
use Rattle.cas_disk.specs.declared.name.Name.TheVariants.{Table as table_name}
use Rattle.cas_disk.specs.Disk.{Disk, During, Changed}
use Rattle.cas_atoms.specs.declared.atom.Mutation.{Mutation}
use Rattle.cas_changes.specs.Allowed.{FitsEntry}
use Rattle.cas_changes.specs.Saying.{said_by}
use Rattle.cas_changes.specs.declared.entry.Entry.{Entry}
use Rattle.cas_history.specs.declared.item.Item.{Item}
use Rattle.cas_history.specs.declared.item.Item.TheVariants.{Drew}
use Rattle.cas_history.specs.Last.{holds}
use Rattle.cas_journal.specs.Stores.{Found, Told, appended, committed_all, failed_at}
use Rattle.cas_gates.specs.declared.first.First.{First}
use Rattle.cas_journal.proofs.Telling.{none_where_ok}
use Rattle.cas_journal.specs.Ends.{Ends, IsTold, told_after}
use Rattle.cas_journal.specs.Journals.{Lasts}
use Rattle.cas_journal.specs.declared.fault.JournalFault.{JournalFault}
use Rattle.cas_journal.specs.declared.fault.JournalFault.TheVariants.{TooLarge, TooMany, Stopped, Failed, Mem}
use Rattle.cas_journal.specs.declared.journal.Journal.{Journal}
use Rattle.cas_journal.proofs.Tables.{table_lasts}
use Rattle.cas_room.specs.declared.event.Event.{Event}
use Rattle.cas_room.specs.Rooms.{accepted_in, after_commit, after_define}
use Rattle.cas_room.specs.Keeping.{AreFlushed, HasTaken, Keeps, MayFail}
use Rattle.cas_room.proofs.Flushed.{flushed_more, told_may_fail}
use Rattle.cas_room.specs.Tables.{Draws}

-- ---- what the room keeps

pub table_keeps : (n : ℕ) (change : Option (List ℕ) → Option (List ℕ) → Type 0) (old new : Disk) → During (Changed (table_name n) change) old new
    → (j : Journal) (list : List (Item Event)) (said : ℕ) (found : List Mutation) (t : Told) → Keeps j old list said found t → Keeps j new list said found t
table_keeps n change old new call j list said found t keeps =
    record { lasts = table_lasts n change old new call j t keeps.lasts; has = keeps.has }

-- more is said to be committed, and is
pub has_said : (found accepted : List Mutation) (before now : ℕ) (t u : Told) → (has : HasTaken found accepted before t) → u.found ≡ t.found → u.entries ≡ t.entries
    → u.failed ≡ t.failed
    → u.taken ≡ t.taken → u.leaving ≡ t.leaving → length found + now ≤ length has.dropped + u.committed → HasTaken found accepted now u
has_said found accepted before now t u has origin entries failed taken leaving committed = record {
  origin = ap (λ (f : Found). f.mutations) origin ∙ has.origin;
  dropped = has.dropped;
  all = ap (λ (ms : List Mutation). has.dropped ++ ms) taken ∙ has.all;
  committed = committed;
  flushed = subst (λ (es : List Entry). AreFlushed es has.dropped) (sym entries) has.flushed;
  few = omega (arith, has.few, leaving, ap length taken);
  leaving = subst (λ (es : List Entry). AreFlushed es (take u.leaving u.taken)) (sym entries) (subst (AreFlushed t.entries) (λ i. take (sym leaving i) (sym taken i)) has.leaving);
  failing = subst (λ (es : List Entry). MayFail (said_by u.entries) es) (sym failed) (subst (λ (es : List Entry). MayFail (said_by es) t.failed) (sym entries) has.failing);
}

-- after a commit all that the room accepted is committed, after a fault as much as before
pub commit_keeps : (k : Journal) (disk : Disk) (list : List (Item Event)) (before now accepted : ℕ) (found : List Mutation) (t : Told) (r : Result (Unit {0}) JournalFault)
    → MatchResult r (λ _. Lasts k disk (committed_all t)) (λ _. Lasts k disk t)
    → HasTaken found (accepted_in list) before t → accepted ≤ length (accepted_in list)
    → OnOk r (now ≡ accepted) → OnErr r (now ≡ before) → Keeps k disk list now found (after_commit r t)
commit_keeps k disk list before now accepted found t (Ok x) lasts has few done undone =
    let all : length has.dropped + length t.taken ≡ length found + length (accepted_in list) =
    sym (length-append has.dropped t.taken) ∙ ap length has.all ∙ length-append found (accepted_in list) in
    record { lasts = lasts; has = has_said found (accepted_in list) before now t (committed_all t) has refl refl refl refl refl (omega (arith, done, few, all)) }
commit_keeps k disk list before now accepted found t (Err fault) lasts has few done undone =
    record { lasts = lasts; has = has_said found (accepted_in list) before now t t has refl refl refl refl refl (omega (arith, undone, has.committed)) }

-- an entry was told, or may be there
pub has_told : (found accepted : List Mutation) (said : ℕ) (t : Told) (e : Entry) → HasTaken found accepted said t → FitsEntry (said_by t.entries) e → IsTold e
    → MayFail (said_by (t.entries ++ e ∷ [])) t.failed → HasTaken found accepted said (appended e t)
has_told found accepted said t e has fits told failing =
    let may = told_may_fail (said_by t.entries) e fits told in
    record {
      origin = has.origin;
      dropped = has.dropped;
      all = has.all;
      committed = has.committed;
      flushed = flushed_more t.entries e may has.dropped has.flushed;
      few = has.few;
      leaving = flushed_more t.entries e may (take t.leaving t.taken) has.leaving;
      failing = failing;
    }

pub has_failed : (found accepted : List Mutation) (said : ℕ) (t : Told) (e : Entry) → HasTaken found accepted said t → FitsEntry (said_by t.entries) e → IsTold e
    → HasTaken found accepted said (failed_at e t)
has_failed found accepted said t e has fits told = record {
  origin = has.origin;
  dropped = has.dropped;
  all = has.all;
  committed = has.committed;
  flushed = has.flushed;
  few = has.few;
  leaving = has.leaving;
  failing = told_may_fail (said_by t.entries) e fits told;
}

-- nothing had failed before a call that was done
pub none_failed : {X : Type 0} (j : Journal) (disk : Disk) (t : Told) (kept : Option First) (before now : ℕ) (r : Result X JournalFault) → Lasts j disk t
    → Ends j.first kept before now r → OnOk r (t.failed ≡ [])
none_failed j disk t kept before now (Ok x) lasts ends = (lasts.goes (none_where_ok j.first kept before now x ends)).none_failed
none_failed j disk t kept before now (Err f) lasts ends = tt

-- the room keeps it
pub tell_keeps : (k : Journal) (disk : Disk) (list : List (Item Event)) (said : ℕ) (found : List Mutation) (t : Told) (e : Entry) (r : Result (Unit {0}) JournalFault)
    → HasTaken found (accepted_in list) said t → FitsEntry (said_by t.entries) e → IsTold e → OnOk r (t.failed ≡ [])
    → MatchResult r (λ _. Lasts k disk (appended e t)) (λ f. Lasts k disk (told_after f e t)) → Keeps k disk list said found (after_define r e t)
tell_keeps k disk list said found t e (Ok x) has fits told none lasts =
    record { lasts = lasts; has = has_told found (accepted_in list) said t e has fits told (subst (MayFail (said_by (t.entries ++ e ∷ []))) (sym none) tt) }
tell_keeps k disk list said found t e (Err Failed) has fits told none lasts = record { lasts = lasts; has = has_failed found (accepted_in list) said t e has fits told }
tell_keeps k disk list said found t e (Err Mem) has fits told none lasts = record { lasts = lasts; has = has }
tell_keeps k disk list said found t e (Err (TooMany what most)) has fits told none lasts = record { lasts = lasts; has = has }
tell_keeps k disk list said found t e (Err (TooLarge long most)) has fits told none lasts = record { lasts = lasts; has = has }
tell_keeps k disk list said found t e (Err (Stopped first)) has fits told none lasts = record { lasts = lasts; has = has }

-- ---- what the room says is committed

pub said_all : {X : Type 0} (all said now : ℕ) (r : Result X JournalFault) → OnOk r (said ≡ all) → now ≡ said → OnOk r (now ≡ all)
said_all all said now (Ok x) is same = same ∙ is
said_all all said now (Err f) is same = tt

pub said_same : {X : Type 0} (counted said now before : ℕ) (r : Result X JournalFault) → OnErr r (said ≡ counted) → now ≡ said → before ≡ counted → OnErr r (now ≡ before)
said_same counted said now before (Ok x) is same told = tt
said_same counted said now before (Err f) is same told = same ∙ is ∙ sym told

-- ---- a number that is drawn

-- the number that was drawn stays with its seat once that was told of a fault
pub drawn_and_told : (number next now seat list : ℕ) (numbers more before : List (Item Event)) (drew told : ℕ → List (Item Event))
    → number ≡ next → now ≡ number → Draws number seat numbers more → list ≡ seat → Draws number seat before (drew seat)
    → told list ≡ drew list → holds number (drew seat) ≡ true
    → (now ≡ next) × Draws next seat numbers more × Draws next seat before (told seat) × (holds next (told seat) ≡ true)
drawn_and_told number next now seat list numbers more before drew told is last all of own still held =
    let same : told seat ≡ drew seat = subst (λ (l : ℕ). told l ≡ drew l) of still in (
      last ∙ is,
      all ∙ ap (λ (k : ℕ). numbers ++ Drew seat k ∷ []) is,
      same ∙ own ∙ ap (λ (k : ℕ). before ++ Drew seat k ∷ []) is,
      ap (holds next) same ∙ ap (λ (k : ℕ). holds k (drew seat)) (sym is) ∙ held,
    )
