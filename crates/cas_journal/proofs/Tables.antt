-- The files of tables beside a journal: what changes of one of them leaves what it was told.
use Rattle.std.proofs.Common.{◌≡◌, ◌≢◌, ℕ, List, [], ◌∷◌, ◌∙◌, take, drop, Option}
use Rattle.std.specs.List.{AllByRecursion}
use Rattle.cas_disk.specs.declared.name.Name.TheVariants.{Manifest as manifest_name, Log as log_name, Table as table_name}
use Rattle.cas_disk.specs.Disk.{Image, Disk, During, Changed}
use Rattle.cas_disk.proofs.Moments.{reworded, one_call_more}
use Rattle.cas_changes.specs.Saying.{said_by}
use Rattle.cas_manifest.specs.Manifests.{place_of as manifest_place}
use Rattle.cas_journal.specs.Stores.{Told, Holds, SameTables}
use Rattle.cas_journal.specs.Journals.{Goes, Lasts, NoneAbove}
use Rattle.cas_journal.specs.declared.journal.Journal.{Journal}
use Rattle.cas_journal.proofs.Segments.{others_agree}
use Rattle.cas_journal.proofs.Holding.{store_apart}
use Rattle.cas_journal.proofs.Moving.{still_so, still_free, manifest_still, earlier_still, spare_still}
use Rattle.cas_journal.proofs.Entries.{writes_still}

-- ---- the names of files that differ

pub manifest_is_no_table : (n : ℕ) → manifest_name ≢ table_name n
manifest_is_no_table n e = cc

pub log_is_no_table : (k n : ℕ) → log_name k ≢ table_name n
log_is_no_table k n e = cc

pub none_is_table : (n : ℕ) (ns : List ℕ) → AllByRecursion (λ k. log_name k ≢ table_name n) ns
none_is_table n [] = tt
none_is_table n (k ∷ ns) = (log_is_no_table k n, none_is_table n ns)

-- ---- a call on the file of a table

-- an image that differs from one in the file of a table alone holds what that held
pub holds_apart : (t : Told) (n : ℕ) (change : Option (List ℕ) → Option (List ℕ) → Type 0) (d c : Image) → Holds t d → Changed (table_name n) change d c → Holds t c
holds_apart t n change d c holds made = record {
  entries = holds.entries;
  listed = holds.listed;
  gone = holds.gone;
  front = holds.front;
  count = holds.count;
  least = holds.least;
  most = holds.most;
  store = store_apart holds.entries (drop holds.gone (take holds.count t.taken)) d c (table_name n) holds.store (manifest_is_no_table n)
      (none_is_table n (said_by holds.entries).segments) made.others;
}

module _ (n : ℕ) (change : Option (List ℕ) → Option (List ℕ) → Type 0) (old new : Disk) (call : During (Changed (table_name n) change) old new) where
  abbrev step : Image → Image → Type 0
  step = Changed (table_name n) change

  same_segment : (d c : Image) → step d c → (k : ℕ) → c (log_name k) ≡ d (log_name k)
  same_segment d c made k = made.others (log_name k) (log_is_no_table k n)

  table_goes : (j : Journal) (t : Told) → Goes j old t → Goes j new t
  table_goes j t goes =
      let said = said_by t.entries in
      record {
        manifest = manifest_still step old new call (manifest_place j.manifest) t.entries (λ d c made. made.others manifest_name (manifest_is_no_table n)) goes.manifest;
        none_failed = goes.none_failed;
        none_leaving = goes.none_leaving;
        made = goes.made;
        before = goes.before;
        parts = goes.parts;
        earlier = earlier_still step old new call said.tables said.shards goes.before goes.parts
            (λ d c made. others_agree c d (table_name n) goes.before made.others (none_is_table n goes.before)) goes.earlier;
        written = goes.written;
        pushed = goes.pushed;
        writes = writes_still step old new call same_segment j.log said.segments goes.before goes.written goes.pushed goes.writes;
        all = goes.all;
        committed = goes.committed;
        fit = goes.fit;
        ordered = goes.ordered;
        last = goes.last;
        spare = spare_still step old new call j.spare said.last_segment (λ d c made k above. same_segment d c made k) goes.spare;
        noted = goes.noted;
      }

  -- what a journal was told lasts
  pub table_lasts : (j : Journal) (t : Told) → Lasts j old t → Lasts j new t
  table_lasts j t lasts = record {
    holds = still_so step old new call (λ c. Holds t c) (λ d c holds made. holds_apart t n change d c holds made) lasts.holds;
    goes = λ none. table_goes j t (lasts.goes none);
  }

  -- at every moment each image holds it
  pub table_leaves : (j : Journal) (t : Told) → Lasts j old t → During (λ _ c. Holds t c) old new
  table_leaves j t lasts = reworded step (λ _ c. Holds t c) old new call (λ d c was made. holds_apart t n change d c (lasts.holds d was) made)

  -- the next segment can be begun as before
  pub table_free : (last : ℕ) → NoneAbove last old → NoneAbove last new
  table_free last none = still_free step old new call last (λ d c made k above. same_segment d c made k) none

-- two calls that leave them
pub tables_more : (a b z : Disk) → During SameTables a b → During SameTables b z → During SameTables a z
tables_more a b z first second =
    one_call_more SameTables SameTables a b z first second (λ d c was mid same. same) (λ e d c was so_far mid same n. same n ∙ so_far n)
