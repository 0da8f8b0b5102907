-- What the beginning of a segment leaves of a journal.
use Rattle.std.proofs.Common.{◌++◌, ◌≡◌, inl, ℕ, ◌+◌, ◌<◌, ◌≤◌, List, [], ◌∷◌, take, Option, None, Some, refl, sym, subst, ◌∙◌, arith}
use Rattle.std.specs.List.{AllByRecursion}
use Rattle.cas_disk.specs.declared.name.Name.TheVariants.{Manifest as manifest_name, Log as log_name}
use Rattle.cas_disk.specs.Disk.{Image, Disk, During, Changed, MayBeAnything}
use Rattle.cas_disk.proofs.Moments.{reworded}
use Rattle.cas_changes.specs.Saying.{Saying, said_by}
use Rattle.cas_log.specs.Logs.{place_of}
use Rattle.cas_log.specs.declared.log.Log.{Log}
use Rattle.cas_manifest.specs.Manifests.{place_of as manifest_place, Stands as ManifestStands}
use Rattle.cas_journal.specs.Stores.{Told, Holds}
use Rattle.cas_journal.specs.Notes.{Noted}
use Rattle.cas_journal.specs.Journals.{Goes, Writes, IsSpare, NoneAbove, all_parts}
use Rattle.cas_journal.specs.declared.journal.Journal.{Journal}
use Rattle.cas_journal.specs.declared.notes.Notes.{Notes}
use Rattle.cas_journal.proofs.Lists.{all_mapped, all_front}
use Rattle.cas_journal.proofs.Sayings.{all_below}
use Rattle.cas_journal.proofs.Segments.{manifest_is_no_log, other_log, others_agree, below_differ}
use Rattle.cas_journal.proofs.Holding.{store_apart, store_now, committed_few, listed_in_order}
use Rattle.cas_journal.proofs.Moving.{still_so, manifest_still, earlier_still, log_still, number_begun}

-- a segment whose number is known isn't the one that is begun
module _ (number : ℕ) where
  abbrev pub begins : Image → Image → Type 0
  begins = Changed (log_name number) MayBeAnything

  pub known_stays : (k : ℕ) → k < number → (d c : Image) → begins d c → c (log_name k) ≡ d (log_name k)
  known_stays k below d c made = made.others (log_name k) (other_log k number (λ e. absurd (omega (arith, e, below))))

  pub above_free : (last : ℕ) (old new : Disk) → During begins old new → last < number → NoneAbove last old → NoneAbove number new
  above_free last old new call above none =
      still_so begins old new call (λ c. (n : ℕ) → number < n → c (log_name n) ≡ None)
      (λ d c was made n high. made.others (log_name n) (other_log n number (λ e. absurd (omega (arith, e, high)))) ∙ was n high)
      (λ c left n high. none c left n (omega (arith, above, high)))

module _ (j : Journal) (old new : Disk) (t : Told) (number : ℕ) (next : j.last_segment < number) (call : During (Changed (log_name number) MayBeAnything) old new) (goes : Goes j old t) where
  abbrev said : Saying
  said = said_by t.entries

  listed_below : AllByRecursion (λ k. k < number) said.segments
  listed_below =
      all_mapped (λ k. k < said.last_segment + 1) (λ k. k < number) (λ k below. omega (arith, below, goes.last, next)) said.segments
      (all_below 0 said.segments (said.last_segment + 1) (listed_in_order j old t goes))

  before_below : (o : Option Log) → Writes o said.segments goes.before goes.written goes.pushed old → AllByRecursion (λ k. k < number) goes.before
  before_below None writes = subst (λ (ns : List ℕ). AllByRecursion (λ k. k < number) ns) writes.0 listed_below
  before_below (Some log) writes =
      all_front (λ k. k < number) goes.before (log.number ∷ []) (subst (λ (ns : List ℕ). AllByRecursion (λ k. k < number) ns) writes.0 listed_below)

  writes_on : (o : Option Log) → j.log ≡ o → Writes o said.segments goes.before goes.written goes.pushed old → Writes o said.segments goes.before goes.written goes.pushed new
  writes_on None is writes = writes
  writes_on (Some log) is writes =
      let known : log.number ≤ j.last_segment = number_begun j log is in
      (writes.0, log_still (begins number) old new call (place_of log) goes.written (known_stays number log.number (omega (arith, known, next))) writes.1, writes.2)

  -- each image holds what it held
  pub begin_leaves : During (λ _ c. Holds t c) old new
  begin_leaves =
      reworded (begins number) (λ _ c. Holds t c) old new call (λ d c was made. record {
        entries = t.entries;
        listed = inl refl;
        gone = 0;
        front = inl refl;
        count = t.committed;
        least = omega arith;
        most = committed_few j old t goes;
        store = store_apart t.entries (take t.committed t.taken) d c (log_name number) (store_now j old t goes d was) (manifest_is_no_log number)
            (below_differ number said.segments listed_below) made.others;
      })

  pub begin_goes : (k : Journal) → k.manifest ≡ j.manifest → k.log ≡ j.log → said.last_segment ≤ k.last_segment → IsSpare k.spare said.last_segment new → k.notes ≡ j.notes → Goes k new t
  begin_goes k manifest log last spare notes = record {
    manifest = subst (λ m. ManifestStands (manifest_place m) new t.entries) (sym manifest)
        (manifest_still (begins number) old new call (manifest_place j.manifest) t.entries (λ d c made. made.others manifest_name (manifest_is_no_log number)) goes.manifest);
    none_failed = goes.none_failed;
    none_leaving = goes.none_leaving;
    made = goes.made;
    before = goes.before;
    parts = goes.parts;
    earlier = earlier_still (begins number) old new call said.tables said.shards goes.before goes.parts
        (λ d c made. others_agree c d (log_name number) goes.before made.others (below_differ number goes.before (before_below j.log goes.writes))) goes.earlier;
    written = goes.written;
    pushed = goes.pushed;
    writes = subst (λ (o : Option Log). Writes o said.segments goes.before goes.written goes.pushed new) (sym log) (writes_on j.log refl goes.writes);
    all = goes.all;
    committed = goes.committed;
    fit = goes.fit;
    ordered = goes.ordered;
    last = last;
    spare = spare;
    noted = subst (λ (o : Option Log). Noted k.notes t.found said (all_parts o goes.parts (goes.written ++ goes.pushed))) (sym log)
        (subst (λ (n : Notes). Noted n t.found said (all_parts j.log goes.parts (goes.written ++ goes.pushed))) (sym notes) goes.noted);
  }
