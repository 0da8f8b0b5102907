-- What the name of a segment leaves of a journal.
use Rattle.std.proofs.Common.{◌≡◌, ◌≢◌, ℕ, ◌<◌, ◌≤◌, List, [], ◌∷◌, ◌++◌, length, Option, None, Some, refl, sym, ap, subst, ◌∙◌, arith, append_assoc, length-append}
use Rattle.std.specs.List.{AllByRecursion}
use Rattle.std.specs.Prelude.{IsSome}
use Rattle.std.proofs.lemmas.List.{append-nil, nil_from_length}
use Rattle.cas_disk.specs.declared.name.Name.TheVariants.{Manifest as manifest_name}
use Rattle.cas_disk.specs.Disk.{Image, Disk, During, Changed, MayBeAnything}
use Rattle.cas_atoms.specs.declared.atom.Mutation.{Mutation}
use Rattle.cas_mutations.specs.Allowed.{FitsRecord}
use Rattle.cas_changes.specs.declared.entry.Entry.{Entry}
use Rattle.cas_changes.specs.declared.entry.Entry.TheVariants.{NewSegment}
use Rattle.cas_changes.specs.Saying.{Saying, after, said_by}
use Rattle.cas_changes.specs.Allowed.{FitsEntry, IsMade}
use Rattle.cas_log.specs.Segment.{IsSegment, joined}
use Rattle.cas_log.specs.Logs.{place_of}
use Rattle.cas_log.specs.declared.log.Log.{Log}
use Rattle.cas_manifest.specs.Manifests.{place_of as manifest_place, Stands as ManifestStands}
use Rattle.cas_manifest.proofs.Appends.{said_more}
use Rattle.cas_replay.specs.Reading.{segment_in}
use Rattle.cas_replay.specs.Grammar.{AreSegments}
use Rattle.cas_journal.specs.Fresh.{IsFresh}
use Rattle.cas_journal.specs.Stores.{Told, appended}
use Rattle.cas_journal.specs.Notes.{Noted}
use Rattle.cas_journal.specs.Journals.{Goes, Writes, IsSpare, all_parts}
use Rattle.cas_journal.specs.declared.journal.Journal.{Journal}
use Rattle.cas_journal.proofs.Lists.{all_front, all_back}
use Rattle.cas_journal.proofs.Sayings.{is_made}
use Rattle.cas_journal.proofs.Segments.{joined_more, segments_more, others_agree, none_is_manifest}
use Rattle.cas_journal.proofs.Holding.{log_file, all_fit, HasItsSegment}
use Rattle.cas_journal.proofs.Moving.{earlier_still, log_still, manifest_changed, written_parts}

module _ (j : Journal) (old : Disk) (t : Told) (goes : Goes j old t) where
  abbrev said : Saying
  said = said_by t.entries

  listed_parts : (o : Option Log) → Writes o said.segments goes.before goes.written goes.pushed old → (c : Image) → old.may_leave c
      → AreSegments said.tables said.shards (segment_in c) said.segments (all_parts o goes.parts goes.written)
  listed_parts None writes c left =
      subst (λ (ns : List ℕ). AreSegments said.tables said.shards (segment_in c) ns goes.parts) (sym writes.0) (goes.earlier c left)
  listed_parts (Some log) writes c left =
      subst (λ (ns : List ℕ). AreSegments said.tables said.shards (segment_in c) ns (goes.parts ++ goes.written ∷ [])) (sym writes.0)
      (segments_more said.tables said.shards (segment_in c) goes.before goes.parts log.number goes.written (goes.earlier c left) (record {
        segment = log_file log old goes.written writes.1 c left;
        fit = all_front (FitsRecord said.tables said.shards) goes.written goes.pushed
            (all_back (FitsRecord said.tables said.shards) (joined goes.parts) (goes.written ++ goes.pushed) (all_fit j old t goes));
      }))

  joined_parts : (o : Option Log) → Writes o said.segments goes.before goes.written goes.pushed old → joined (all_parts o goes.parts goes.written) ≡ joined goes.parts ++ goes.written
  joined_parts None writes = sym (append-nil (joined goes.parts)) ∙ ap (λ (l : List Mutation). joined goes.parts ++ l) (sym writes.1)
  joined_parts (Some log) writes = joined_more goes.parts goes.written

  -- where all is committed nothing is pushed
  none_pushed : t.committed ≡ length t.taken → goes.pushed ≡ []
  none_pushed all =
      nil_from_length goes.pushed
      (omega (arith, all, goes.committed, ap length goes.all, length-append (joined goes.parts) (goes.written ++ goes.pushed), length-append (joined goes.parts) goes.written, length-append goes.written goes.pushed))

  module _ (next : Log) (spared : j.spare ≡ Some next) where
    fresh : IsFresh j.size j.last_segment next
    fresh = j.fresh next spared

    is_spare : IsSpare (Some next) said.last_segment old
    is_spare = subst (λ (o : Option Log). IsSpare o said.last_segment old) spared goes.spare

    -- the entry may follow
    pub name_fits : FitsEntry said (NewSegment j.last_segment)
    name_fits =
        let made : IsMade said = is_made t.entries goes.made goes.manifest.follow in
        let above : said.last_segment < j.last_segment = omega (arith, is_spare.0, fresh.number) in
        (made, above, fresh.allowed)

    -- and each image has the segment
    pub name_has : (d : Image) → old.may_leave d → HasItsSegment (NewSegment j.last_segment) d
    name_has d left = subst (λ (n : ℕ). IsSegment n [] (segment_in d n)) fresh.number (log_file next old [] is_spare.1 d left)

    some : (entries : List Entry) → entries ++ NewSegment j.last_segment ∷ [] ≢ []
    some [] is = cc
    some (x ∷ xs) is = cc

    -- once it is there, it is the one that is written
    pub name_goes : (k : Journal) (new : Disk) → During (Changed manifest_name MayBeAnything) old new
        → ManifestStands (manifest_place k.manifest) new (t.entries ++ NewSegment j.last_segment ∷ []) → t.committed ≡ length t.taken
        → k.log ≡ Some next → k.spare ≡ None → k.last_segment ≡ j.last_segment
        → ((parts : List (List Mutation)) → Noted j.notes t.found said parts → Noted k.notes t.found (after said (NewSegment j.last_segment)) (parts ++ [] ∷ []))
        → Goes k new (appended (NewSegment j.last_segment) t)
    name_goes k new call stands all log spare last begun =
        let step = Changed manifest_name MayBeAnything in
        let n = j.last_segment in
        let parts = all_parts j.log goes.parts goes.written in
        let is_next : after said (NewSegment n) ≡ said_by (t.entries ++ NewSegment n ∷ []) = sym (said_more t.entries (NewSegment n)) in
        let none_more : goes.written ++ goes.pushed ≡ goes.written = ap (λ (l : List Mutation). goes.written ++ l) (none_pushed all) ∙ append-nil goes.written in
        let whole : joined parts ≡ t.taken =
        joined_parts j.log goes.writes ∙ sym (append-nil (joined goes.parts ++ goes.written)) ∙ ap (λ (l : List Mutation). (joined goes.parts ++ goes.written) ++ l) (sym (none_pushed all))
        ∙ append_assoc (joined goes.parts) goes.written goes.pushed ∙ goes.all in
        record {
          manifest = stands;
          none_failed = goes.none_failed;
          none_leaving = goes.none_leaving;
          made = some t.entries;
          before = said.segments;
          parts = parts;
          earlier = subst (λ (s : Saying). (c : Image) → new.may_leave c → AreSegments s.tables s.shards (segment_in c) said.segments parts) is_next
              (earlier_still step old new call said.tables said.shards said.segments parts
              (λ d c made. others_agree c d manifest_name said.segments made.others (none_is_manifest said.segments)) (listed_parts j.log goes.writes));
          written = [];
          pushed = [];
          writes = subst (λ (s : Saying). Writes k.log s.segments said.segments [] [] new) is_next
              (subst (λ (o : Option Log). Writes o (said.segments ++ n ∷ []) said.segments [] [] new) (sym log) (
                ap (λ (m : ℕ). said.segments ++ m ∷ []) (sym fresh.number),
                log_still step old new call (place_of next) [] (λ d c made. manifest_changed MayBeAnything d c made next.number) is_spare.1,
                is_spare.2,
              ));
          all = append-nil (joined parts) ∙ whole;
          committed = ap length (append-nil (joined parts) ∙ whole) ∙ sym all;
          fit = subst (λ (s : Saying). AllByRecursion (FitsRecord s.tables s.shards) t.taken) is_next goes.fit;
          ordered = goes.ordered;
          last = subst (λ (s : Saying). s.last_segment ≤ k.last_segment) is_next (omega (arith, last));
          spare = subst (λ (o : Option Log). IsSpare o (said_by (t.entries ++ NewSegment n ∷ [])).last_segment new) (sym spare) tt;
          noted = subst (λ (s : Saying). Noted k.notes t.found s (all_parts k.log parts [])) is_next
              (subst (λ (l : List (List Mutation)). Noted k.notes t.found (after said (NewSegment n)) l) (sym (written_parts k.log next parts [] log))
              (begun parts (subst (λ (l : List Mutation). Noted j.notes t.found said (all_parts j.log goes.parts l)) none_more goes.noted)));
        }

-- one that is there
pub some_log : (o : Option Log) → IsSome o → (log : Log) × (o ≡ Some log)
some_log None is = absurd cc
some_log (Some log) is = (log, refl)
