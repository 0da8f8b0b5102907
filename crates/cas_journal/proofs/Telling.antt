-- How an append to the manifest ends for what a journal was told.
use Rattle.std.proofs.Common.{◌≡◌, ◌⊎◌, inl, ℕ, ◌≤◌, List, ◌∷◌, [], ◌++◌, Option, None, Some, Result, Ok, Err, refl, sym, subst, arith}
use Rattle.std.specs.Prelude.{OnOk, IfErr, MatchResult}
use Rattle.cas_disk.specs.declared.name.Name.TheVariants.{Manifest as manifest_name, Log as log_name}
use Rattle.cas_disk.specs.Disk.{Image, Disk, During, Changed, MayBeAnything, Same}
use Rattle.cas_disk.proofs.Moments.{reworded}
use Rattle.cas_gates.specs.declared.first.First.{First}
use Rattle.cas_changes.specs.declared.entry.Entry.{Entry}
use Rattle.cas_changes.specs.Saying.{said_by}
use Rattle.cas_changes.specs.Allowed.{FitsEntry}
use Rattle.cas_log.specs.declared.log.Log.{Log}
use Rattle.cas_manifest.specs.Manifests.{Place, place_of as manifest_place, Stands as ManifestStands, MayHave as MayHaveManifest}
use Rattle.cas_journal.specs.Stores.{Told, Holds, appended, failed_at}
use Rattle.cas_journal.specs.Notes.{Noted}
use Rattle.cas_journal.specs.Journals.{Goes, Lasts, Writes, IsSpare, all_parts}
use Rattle.cas_journal.specs.Ends.{Ends, WritesNothing, told_after, IsTold}
use Rattle.cas_journal.specs.declared.fault.JournalFault.{JournalFault}
use Rattle.cas_journal.specs.declared.fault.JournalFault.TheVariants.{TooLarge, TooMany, Stopped, Failed, Mem}
use Rattle.cas_journal.specs.declared.journal.Journal.{Journal}
use Rattle.cas_journal.specs.declared.notes.Notes.{Notes}
use Rattle.cas_journal.proofs.Moving.{still_so, manifest_still, earlier_still, spare_still, holds_same, lasting, lasting_stopped}
use Rattle.cas_journal.proofs.Entries.{append_leaves, append_fails, writes_still, told_goes, told_appended, told_has}
use Rattle.cas_journal.proofs.Holding.{same_files, HasItsSegment}
use Rattle.cas_journal.proofs.Fitting.{IsAppended}

-- ---- where nothing was written

-- a fault that is kept stays kept, so that where none is kept none was
pub none_before : {T : Type 0} (first kept : Option First) (before now : ℕ) (r : Result T JournalFault) → Ends first kept before now r → kept ≡ None → first ≡ None
none_before None kept before now r ends none = refl
none_before (Some x) kept before now r ends none = cc

pub none_where_ok : {T : Type 0} (first kept : Option First) (before now : ℕ) (x : T) → Ends first kept before now (Ok x) → first ≡ None
none_where_ok None kept before now x ends = refl
none_where_ok (Some f) kept before now x ends = cc

-- where no file changed, and the journal is at the same place with the same segments, what it was told lasts
module _ (j k : Journal) (old new : Disk) (t : Told) (call : During Same old new) (place : manifest_place k.manifest ≡ manifest_place j.manifest)
    (log : k.log ≡ j.log) (spare : k.spare ≡ j.spare) (last : j.last_segment ≤ k.last_segment) (notes : k.notes ≡ j.notes) where
  pub same_goes : Goes j old t → Goes k new t
  same_goes goes =
      let said = said_by t.entries in
      record {
        manifest = subst (λ (p : Place). ManifestStands p new t.entries) (sym place)
            (manifest_still Same old new call (manifest_place j.manifest) t.entries (λ d c same. same manifest_name) goes.manifest);
        none_failed = goes.none_failed;
        none_leaving = goes.none_leaving;
        made = goes.made;
        before = goes.before;
        parts = goes.parts;
        earlier = earlier_still Same old new call said.tables said.shards goes.before goes.parts (λ d c same. same_files c d same goes.before) goes.earlier;
        written = goes.written;
        pushed = goes.pushed;
        writes = subst (λ (o : Option Log). Writes o said.segments goes.before goes.written goes.pushed new) (sym log)
            (writes_still Same old new call (λ d c same n. same (log_name n)) j.log said.segments goes.before goes.written goes.pushed goes.writes);
        all = goes.all;
        committed = goes.committed;
        fit = goes.fit;
        ordered = goes.ordered;
        last = omega (arith, goes.last, last);
        spare = subst (λ (o : Option Log). IsSpare o said.last_segment new) (sym spare)
            (spare_still Same old new call j.spare said.last_segment (λ d c same n above. same (log_name n)) goes.spare);
        noted = subst (λ (o : Option Log). Noted k.notes t.found said (all_parts o goes.parts (goes.written ++ goes.pushed))) (sym log)
            (subst (λ (n : Notes). Noted n t.found said (all_parts j.log goes.parts (goes.written ++ goes.pushed))) (sym notes) goes.noted);
      }

  pub same_lasts : (k.first ≡ None → j.first ≡ None) → Lasts j old t → Lasts k new t
  same_lasts unkept lasts = record {
    holds = still_so Same old new call (λ c. Holds t c) (λ d c was same. holds_same t d c was same) lasts.holds;
    goes = λ none. same_goes (lasts.goes (unkept none));
  }

-- ---- an append

module _ (j k : Journal) (old new : Disk) (t : Told) (e : Entry) (lasts : Lasts j old t) (is : IsAppended e)
    (ready : Goes j old t → FitsEntry (said_by t.entries) e × ((d : Image) → old.may_leave d → HasItsSegment e d)) (before now : ℕ)
    (during : (entries : List Entry) → ManifestStands (manifest_place j.manifest) old entries → FitsEntry (said_by entries) e
    → During (Changed manifest_name (λ _ f. MayHaveManifest entries e f)) old new) where
  abbrev either : Image → Type 0
  either c = Holds t c ⊎ Holds (failed_at e t) c

  pub leaves_going : j.first ≡ None → During (λ _ c. either c) old new
  leaves_going none =
      let goes = lasts.goes none in
      append_leaves j old t e goes is (ready goes).0 (ready goes).1 new (during t.entries goes.manifest (ready goes).0)

  pub leaves_either : (first : Option First) → j.first ≡ first → (r : Result (Unit {0}) JournalFault) → Ends first k.first before now r
      → IfErr r (λ f. WritesNothing f → During Same old new) → During (λ _ c. either c) old new
  leaves_either None none r ends untouched = leaves_going none
  leaves_either (Some x) kept r ends untouched =
      let still : During Same old new = subst (λ (q : Result (Unit {0}) JournalFault). IfErr q (λ f. WritesNothing f → During Same old new)) ends.0 untouched tt in
      reworded Same (λ _ c. either c) old new still (λ d c was same. inl (holds_same t d c (lasts.holds d was) same))

  failed_lasts : (first : Option First) → j.first ≡ first → Ends {T = Unit {0}} first k.first before now (Err Failed) → Lasts k new (failed_at e t)
  failed_lasts None none failed =
      let goes = lasts.goes none in
      lasting_stopped k new (failed_at e t) (append_fails j old t e goes is (ready goes).0 (ready goes).1 new (leaves_going none))
      (λ unkept. absurd (kept_some (record { number = now }) failed.1 unkept))
    where
      kept_some : (f : First) → k.first ≡ Some f → k.first ≡ None → ⊥
      kept_some f some none = cc
  failed_lasts (Some x) kept failed = cc

  -- after a fault
  pub fault_lasts : (f : JournalFault) → Ends {T = Unit {0}} j.first k.first before now (Err f) → (WritesNothing f → During Same old new)
      → manifest_place k.manifest ≡ manifest_place j.manifest → k.log ≡ j.log → k.spare ≡ j.spare → k.last_segment ≡ j.last_segment → k.notes ≡ j.notes → Lasts k new (told_after f e t)
  fault_lasts Failed ends untouched stays log spare last notes = failed_lasts j.first refl ends
  fault_lasts Mem ends untouched stays log spare last notes =
      same_lasts j k old new t (untouched tt) stays log spare (omega (arith, last)) notes (none_before j.first k.first before now (Err Mem) ends) lasts
  fault_lasts (TooMany what most) ends untouched stays log spare last notes =
      same_lasts j k old new t (untouched tt) stays log spare (omega (arith, last)) notes (none_before j.first k.first before now (Err (TooMany what most)) ends) lasts
  fault_lasts (TooLarge long most) ends untouched stays log spare last notes =
      same_lasts j k old new t (untouched tt) stays log spare (omega (arith, last)) notes (none_before j.first k.first before now (Err (TooLarge long most)) ends) lasts
  fault_lasts (Stopped x) ends untouched stays log spare last notes =
      same_lasts j k old new t (untouched tt) stays log spare (omega (arith, last)) notes (none_before j.first k.first before now (Err (Stopped x)) ends) lasts

-- ---- an entry that is told

module _ (j k : Journal) (old new : Disk) (t : Told) (e : Entry) (lasts : Lasts j old t) (is : IsTold e) (fits : FitsEntry (said_by t.entries) e)
    (before now : ℕ) (during : (entries : List Entry) → ManifestStands (manifest_place j.manifest) old entries → FitsEntry (said_by entries) e
    → During (Changed manifest_name (λ _ f. MayHaveManifest entries e f)) old new) where
  abbrev ready : Goes j old t → FitsEntry (said_by t.entries) e × ((d : Image) → old.may_leave d → HasItsSegment e d)
  ready goes = (fits, λ d was. told_has e is d)

  pub tell_leaves : (r : Result (Unit {0}) JournalFault) → Ends j.first k.first before now r
      → IfErr r (λ f. WritesNothing f → During Same old new) → During (λ _ c. Holds t c ⊎ Holds (failed_at e t) c) old new
  tell_leaves r ends untouched = leaves_either j k old new t e lasts (told_appended e is) ready before now during j.first refl r ends untouched

  pub tell_lasts : (r : Result (Unit {0}) JournalFault) → Ends j.first k.first before now r
      → IfErr r (λ f. WritesNothing f → During Same old new) → IfErr r (λ _. manifest_place k.manifest ≡ manifest_place j.manifest)
      → ((entries : List Entry) → ManifestStands (manifest_place j.manifest) old entries → FitsEntry (said_by entries) e
      → OnOk r (ManifestStands (manifest_place k.manifest) new (entries ++ e ∷ [])))
      → During (Changed manifest_name MayBeAnything) old new → k.log ≡ j.log → k.spare ≡ j.spare → k.last_segment ≡ j.last_segment → k.notes ≡ j.notes
      → MatchResult r (λ _. Lasts k new (appended e t)) (λ f. Lasts k new (told_after f e t))
  tell_lasts (Ok x) ends untouched stays done others log spare last notes =
      let goes = lasts.goes (none_where_ok j.first k.first before now x ends) in
      lasting k new (appended e t) (told_goes j k old new t e goes fits others (done t.entries goes.manifest fits) is log spare last notes)
  tell_lasts (Err f) ends untouched stays done others log spare last notes =
      fault_lasts j k old new t e lasts (told_appended e is) ready before now during f ends untouched stays log spare last notes
