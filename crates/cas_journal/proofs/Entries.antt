-- What an entry that is appended to the manifest leaves of a journal: one that is told, or the name of a segment.
use Rattle.std.proofs.Common.{◌≡◌, ◌≢◌, ◌⊎◌, inl, inr, ⊎_elim, ℕ, ◌≤◌, List, [], ◌∷◌, ◌++◌, take, Option, None, Some, refl, sym, ap, subst, ◌∙◌, arith}
use Rattle.std.specs.List.{AllByRecursion}
use Rattle.std.proofs.lemmas.List.{append-nil}
use Rattle.cas_disk.specs.declared.name.Name.{Name}
use Rattle.cas_disk.specs.declared.name.Name.TheVariants.{Manifest as manifest_name, Log as log_name}
use Rattle.cas_disk.specs.Disk.{Image, Disk, During, Changed, MayBeAnything}
use Rattle.cas_disk.proofs.Moments.{reworded}
use Rattle.cas_atoms.specs.declared.atom.Mutation.{Mutation}
use Rattle.cas_mutations.specs.Allowed.{FitsRecord}
use Rattle.cas_changes.specs.declared.entry.Entry.{Entry}
use Rattle.cas_changes.specs.declared.entry.Entry.TheVariants as entry
use Rattle.cas_changes.specs.Saying.{Saying, after, said_by}
use Rattle.cas_changes.specs.Allowed.{FitsEntry}
use Rattle.cas_log.specs.Logs.{place_of}
use Rattle.cas_log.specs.declared.log.Log.{Log}
use Rattle.cas_manifest.specs.File.{IsManifest}
use Rattle.cas_manifest.specs.Manifests.{place_of as manifest_place, Stands as ManifestStands, MayHave as MayHaveManifest}
use Rattle.cas_manifest.proofs.Appends.{said_more}
use Rattle.cas_replay.specs.Reading.{segment_in}
use Rattle.cas_replay.specs.Grammar.{AreSegments}
use Rattle.cas_journal.specs.Stores.{Found, IsStore, Told, Holds, appended, failed_at}
use Rattle.cas_journal.specs.Notes.{Noted}
use Rattle.cas_journal.specs.Journals.{Goes, Writes, IsSpare, all_parts}
use Rattle.cas_journal.specs.Ends.{IsTold}
use Rattle.cas_journal.specs.declared.journal.Journal.{Journal}
use Rattle.cas_journal.specs.declared.notes.Notes.{Notes}
use Rattle.cas_journal.proofs.Lists.{all_mapped}
use Rattle.cas_journal.proofs.Fitting.{IsAppended, goes_on_fitting}
use Rattle.cas_journal.proofs.Segments.{segments_fit, log_agrees, others_agree, none_is_manifest}
use Rattle.cas_journal.proofs.Holding.{HasItsSegment, store_with, store_now, holds_now, committed_few}
use Rattle.cas_journal.proofs.Moving.{still_so, log_still, earlier_still, spare_still, manifest_changed}

-- the manifest is written again, with the same entries
pub store_rewritten : (entries : List Entry) (ms : List Mutation) (d c : Image) → IsStore entries ms d → ((k : Name) → k ≢ manifest_name → c k ≡ d k)
    → (f : List ℕ) → c manifest_name ≡ Some f → IsManifest entries f → IsStore entries ms c
store_rewritten entries ms d c store same f there manifest = record {
  file = f;
  there = there;
  manifest = manifest;
  made = store.made;
  log = log_agrees (said_by entries).tables (said_by entries).shards (segment_in d) (segment_in c) (said_by entries).segments ms
      (others_agree c d manifest_name (said_by entries).segments same (none_is_manifest (said_by entries).segments)) store.log;
}

-- what is held with nothing that failed is held with an entry that failed
pub holds_failed : (t : Told) (e : Entry) (c : Image) → t.failed ≡ [] → t.leaving ≡ 0 → Holds t c → Holds (failed_at e t) c
holds_failed t e c none all_there holds = record {
  entries = holds.entries;
  listed = inl (⊎_elim (λ is. is) (λ is. is ∙ ap (λ (l : List Entry). t.entries ++ l) none ∙ append-nil t.entries) holds.listed);
  gone = holds.gone;
  front = inl (⊎_elim (λ is. is) (λ (is : _ × (holds.gone ≡ t.leaving)). is.1 ∙ all_there) holds.front);
  count = holds.count;
  least = holds.least;
  most = holds.most;
  store = holds.store;
}

-- the segment that is written stays where no log file changes
pub writes_still : (step : Image → Image → Type 0) (old new : Disk) → During step old new → ((d c : Image) → step d c → (n : ℕ) → c (log_name n) ≡ d (log_name n))
    → (o : Option Log) (listed before : List ℕ) (written pushed : List Mutation) → Writes o listed before written pushed old → Writes o listed before written pushed new
writes_still step old new call same None listed before written pushed writes = writes
writes_still step old new call same (Some log) listed before written pushed writes =
    (writes.0, log_still step old new call (place_of log) written (λ d c made. same d c made log.number) writes.1, writes.2)

-- ---- an append

module _ (j : Journal) (old : Disk) (t : Told) (e : Entry) (goes : Goes j old t) (is : IsAppended e) (fits : FitsEntry (said_by t.entries) e)
    (has : (d : Image) → old.may_leave d → HasItsSegment e d) where
  abbrev either : Image → Type 0
  either c = Holds t c ⊎ Holds (failed_at e t) c

  -- at each of its moments
  pub append_leaves : (new : Disk) → During (Changed manifest_name (λ _ f. MayHaveManifest t.entries e f)) old new → During (λ _ c. either c) old new
  append_leaves new call =
      reworded (Changed manifest_name (λ _ f. MayHaveManifest t.entries e f)) (λ _ c. either c) old new call (λ d c was made. by_manifest d c was made made.here.2)
    where
      by_manifest : (d c : Image) → old.may_leave d → (made : Changed manifest_name (λ _ f. MayHaveManifest t.entries e f) d c)
          → IsManifest t.entries made.here.0 ⊎ IsManifest (t.entries ++ e ∷ []) made.here.0 → either c
      by_manifest d c was made (inl without) = inl (record {
        entries = t.entries;
        listed = inl refl;
        gone = 0;
        front = inl refl;
        count = t.committed;
        least = omega arith;
        most = committed_few j old t goes;
        store = store_rewritten t.entries (take t.committed t.taken) d c (store_now j old t goes d was) made.others made.here.0 made.here.1 without;
      })
      by_manifest d c was made (inr with_it) = inr (record {
        entries = t.entries ++ e ∷ [];
        listed = inr refl;
        gone = 0;
        front = inl refl;
        count = t.committed;
        least = omega arith;
        most = committed_few j old t goes;
        store = store_with t.entries e (take t.committed t.taken) d c (store_now j old t goes d was) is fits (has d was) made.others made.here.0 made.here.1 with_it;
      })

  -- after one that failed
  pub append_fails : (new : Disk) → During (λ _ c. either c) old new → (c : Image) → new.may_leave c → Holds (failed_at e t) c
  append_fails new leaves c left =
      ⊎_elim (λ (without : Holds t c). holds_failed t e c goes.none_failed goes.none_leaving without) (λ (with_it : Holds (failed_at e t) c). with_it)
      (still_so (λ _ x. either x) old new leaves either (λ d x was made. made) (λ x was. inl (holds_now j old t goes x was)) c left)

-- ---- an entry that is told

same_segments : (s : Saying) (e : Entry) → IsTold e → (after s e).segments ≡ s.segments
same_segments s (entry.Schema t) is = refl
same_segments s (entry.AddColumns table columns) is = refl
same_segments s (entry.Store shards) is = absurd is
same_segments s (entry.NewSegment n) is = absurd is
same_segments s (entry.DropSegment n) is = absurd is
same_segments s (entry.Change change) is = refl

same_last : (s : Saying) (e : Entry) → IsTold e → (after s e).last_segment ≡ s.last_segment
same_last s (entry.Schema t) is = refl
same_last s (entry.AddColumns table columns) is = refl
same_last s (entry.Store shards) is = absurd is
same_last s (entry.NewSegment n) is = absurd is
same_last s (entry.DropSegment n) is = absurd is
same_last s (entry.Change change) is = refl

told_noted : (s : Saying) (e : Entry) → IsTold e → (notes : Notes) (found : Found) (parts : List (List Mutation)) → Noted notes found s parts → Noted notes found (after s e) parts
told_noted s (entry.Schema t) is notes found parts noted = noted
told_noted s (entry.AddColumns table columns) is notes found parts noted = noted
told_noted s (entry.Store shards) is notes found parts noted = absurd is
told_noted s (entry.NewSegment n) is notes found parts noted = absurd is
told_noted s (entry.DropSegment n) is notes found parts noted = absurd is
told_noted s (entry.Change change) is notes found parts noted = noted

pub told_appended : (e : Entry) → IsTold e → IsAppended e
told_appended (entry.Schema t) is = tt
told_appended (entry.AddColumns table columns) is = tt
told_appended (entry.Store shards) is = is
told_appended (entry.NewSegment n) is = absurd is
told_appended (entry.DropSegment n) is = is
told_appended (entry.Change change) is = tt

pub told_has : (e : Entry) → IsTold e → (d : Image) → HasItsSegment e d
told_has (entry.Schema t) is d = tt
told_has (entry.AddColumns table columns) is d = tt
told_has (entry.Store shards) is d = tt
told_has (entry.NewSegment n) is d = absurd is
told_has (entry.DropSegment n) is d = tt
told_has (entry.Change change) is d = tt

module _ (j k : Journal) (old new : Disk) (t : Told) (e : Entry) (goes : Goes j old t) (fits : FitsEntry (said_by t.entries) e)
    (call : During (Changed manifest_name MayBeAnything) old new) (stands : ManifestStands (manifest_place k.manifest) new (t.entries ++ e ∷ [])) where
  abbrev step : Image → Image → Type 0
  step = Changed manifest_name MayBeAnything

  abbrev said : Saying
  said = said_by t.entries

  abbrev next : Saying
  next = after said e

  is_next : next ≡ said_by (t.entries ++ e ∷ [])
  is_next = sym (said_more t.entries e)

  some : (entries : List Entry) → entries ++ e ∷ [] ≢ []
  some [] is = cc
  some (x ∷ xs) is = cc

  -- no log file changes
  logs_stay : (d c : Image) → step d c → (n : ℕ) → c (log_name n) ≡ d (log_name n)
  logs_stay d c made n = manifest_changed MayBeAnything d c made n

  all_stay : (ns : List ℕ) (d c : Image) → step d c → AllByRecursion (λ n. segment_in c n ≡ segment_in d n) ns
  all_stay ns d c made = others_agree c d manifest_name ns made.others (none_is_manifest ns)

  pub told_goes : IsTold e → k.log ≡ j.log → k.spare ≡ j.spare → k.last_segment ≡ j.last_segment → k.notes ≡ j.notes → Goes k new (appended e t)
  told_goes is log spare last notes =
      let fit : (m : Mutation) → FitsRecord said.tables said.shards m → FitsRecord next.tables next.shards m = goes_on_fitting said e (told_appended e is) fits in
      record {
        manifest = stands;
        none_failed = goes.none_failed;
        none_leaving = goes.none_leaving;
        made = some t.entries;
        before = goes.before;
        parts = goes.parts;
        earlier = subst (λ (s : Saying). (c : Image) → new.may_leave c → AreSegments s.tables s.shards (segment_in c) goes.before goes.parts) is_next
            (λ c left. segments_fit said.tables said.shards next.tables next.shards fit (segment_in c) goes.before goes.parts
            (earlier_still step old new call said.tables said.shards goes.before goes.parts (all_stay goes.before) goes.earlier c left));
        written = goes.written;
        pushed = goes.pushed;
        writes = subst (λ (s : Saying). Writes k.log s.segments goes.before goes.written goes.pushed new) is_next
            (subst (λ (ns : List ℕ). Writes k.log ns goes.before goes.written goes.pushed new) (sym (same_segments said e is))
            (subst (λ (o : Option Log). Writes o said.segments goes.before goes.written goes.pushed new) (sym log)
            (writes_still step old new call logs_stay j.log said.segments goes.before goes.written goes.pushed goes.writes)));
        all = goes.all;
        committed = goes.committed;
        fit = subst (λ (s : Saying). AllByRecursion (FitsRecord s.tables s.shards) t.taken) is_next
            (all_mapped (FitsRecord said.tables said.shards) (FitsRecord next.tables next.shards) fit t.taken goes.fit);
        ordered = goes.ordered;
        last = subst (λ (s : Saying). s.last_segment ≤ k.last_segment) is_next
            (omega (arith, same_last said e is, goes.last, last));
        spare = subst (λ (s : Saying). IsSpare k.spare s.last_segment new) is_next
            (subst (λ (n : ℕ). IsSpare k.spare n new) (sym (same_last said e is))
            (subst (λ (o : Option Log). IsSpare o said.last_segment new) (sym spare)
            (spare_still step old new call j.spare said.last_segment (λ d c made n above. logs_stay d c made n) goes.spare)));
        noted = subst (λ (s : Saying). Noted k.notes t.found s (all_parts k.log goes.parts (goes.written ++ goes.pushed))) is_next
            (told_noted said e is k.notes t.found (all_parts k.log goes.parts (goes.written ++ goes.pushed))
            (subst (λ (o : Option Log). Noted k.notes t.found said (all_parts o goes.parts (goes.written ++ goes.pushed))) (sym log)
            (subst (λ (n : Notes). Noted n t.found said (all_parts j.log goes.parts (goes.written ++ goes.pushed))) (sym notes) goes.noted)));
      }
