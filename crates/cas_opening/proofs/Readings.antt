-- What is read of an image is the store that it is, and an image has one store.
use Rattle.std.proofs.Common.{◌≡◌, ◌≢◌, ◌⊎◌, inl, inr, ⊎_elim, ℕ, ◌+◌, ◌≤◌, true, List, [], ◌∷◌, ◌++◌, length, filter, Option, None, Some, Result, Ok, Err, refl, sym, ◌∙◌, ap, subst}
use Rattle.std.specs.List.{AllByRecursion}
use Rattle.cas_types.specs.Limits.{IsShardCount}
use Rattle.cas_disk.specs.declared.name.Name.{Name}
use Rattle.cas_disk.specs.declared.name.Name.TheVariants.{Manifest as manifest_name, Log as log_name, Table as table_name, Import as import_name}
use Rattle.cas_disk.specs.Disk.{Image, Disk, During, Follows, Same, bytes_of}
use Rattle.cas_disk.proofs.Moments.{reads_on}
use Rattle.cas_codec.specs.declared.fault.ReadFault.{ReadFault}
use Rattle.cas_codec.specs.declared.fault.ReadFault.TheVariants.{Short, Bad as BadField}
use Rattle.cas_atoms.specs.declared.atom.Mutation.{Mutation}
use Rattle.cas_mutations.specs.Allowed.{AreTables, FitsRecord}
use Rattle.cas_changes.specs.declared.entry.Entry.{Entry}
use Rattle.cas_changes.specs.declared.said.TheConstants.{FILE_LIMIT}
use Rattle.cas_changes.specs.Saying.{Saying, nothing, said_by}
use Rattle.cas_manifest.specs.File.{front, IsManifest, MayFollow}
use Rattle.cas_manifest.specs.Manifests.{Place, Stands, is_made}
use Rattle.cas_manifest.specs.Reading.{Far, manifest_of}
use Rattle.cas_manifest.specs.Loading.{manifest_in, HasStore, IsNew, first_entries, new_store}
use Rattle.cas_manifest.proofs.ManifestLaws.{manifest_found}
use Rattle.cas_manifest.proofs.ManifestAgain.{manifest_again}
use Rattle.cas_replay.specs.Reading.{log_of, segment_in, above_in, is_above as is_above_in}
use Rattle.cas_replay.specs.Replays.{HandsOn, Last, IsFront}
use Rattle.cas_replay.specs.Grammar.{AreSegments, AreOfALog}
use Rattle.cas_replay.proofs.SegmentLaws.{is_log, of_log}
use Rattle.cas_journal.specs.Stores.{IsStore}
use Rattle.cas_journal.proofs.Segments.{segments_agree}
use Rattle.cas_journal.proofs.Lists.{all_mapped}
use Rattle.cas_opening.specs.declared.fault.OpenFault.{OpenFault}
use Rattle.cas_opening.specs.declared.fault.OpenFault.TheVariants.{Bad, Failed, Mem}
use Rattle.cas_opening.specs.Opening.{IsOfBytes, OpensAs, IsBadLog, IsRefused, Answers, is_above}
use Rattle.cas_opening.specs.Inner.Counting.{frontiers_below}
use Rattle.cas_replay.specs.declared.fault.ReplayFault.{ReplayFault}
use Rattle.cas_replay.specs.declared.fault.ReplayFault.TheVariants as replay_fault
use Rattle.cas_opening.specs.Inner.Faults.{of_replay}
use Rattle.cas_opening.specs.Inner.Reading.{log_in, above, ReplaysSaid, IsWhole, IsRead, FaultGave}
use Rattle.cas_journal.proofs.Sayings.{is_made as made}
use Rattle.cas_opening.proofs.Saids.{sound, are_tables, shard_count, short_numbers}
use Rattle.cas_opening.proofs.Counts.{filter_same}
use Rattle.cas_opening.proofs.Keeps.{all_fit, stands_on, parts_long}

-- ---- manifests

ok_same : {A E : Type 0} (x y : A) (r : Result A E) → r ≡ Ok x → r ≡ Ok y → x ≡ y
ok_same x y r is same = cc

not_both : {A E P : Type 0} (x : A) (f : E) (r : Result A E) → r ≡ Ok x → r ≡ Err f → P
not_both x f r is not = absurd cc

-- a manifest is made, and its file is there
made_file : (entries : List Entry) (f : Option (List ℕ)) → IsManifest entries (bytes_of f) → (f ≡ Some (bytes_of f)) × (is_made f ≡ true)
made_file entries None is = let spelled : [] ≡ front entries ++ is.gate ∷ is.rest = is.spelled in absurd cc
made_file entries (Some bytes) is = (refl, ap (λ (l : List ℕ). is_made (Some l)) is.spelled)

-- ---- a store is read

module _ (c : Image) (bytes : IsOfBytes c) where
  manifest_read : (entries : List Entry) (mutations : List Mutation) → IsStore entries mutations c → manifest_of (manifest_in c) ≡ Ok ((said_by entries, entries), length (front entries))
  manifest_read entries mutations store =
      manifest_again (manifest_in c) entries (bytes manifest_name) (subst (λ (f : Option (List ℕ)). IsManifest entries (bytes_of f)) (sym store.there) store.manifest)

  log_read : (entries : List Entry) (mutations : List Mutation) → IsStore entries mutations c → log_in (said_by entries) c ≡ Ok mutations
  log_read entries mutations store =
      let s = said_by entries in
      let is = sound entries store.manifest.follow in
      of_log s.tables s.shards (are_tables s is) (shard_count s is (made entries store.made store.manifest.follow)) (segment_in c) s.segments (short_numbers s is)
      mutations store.log

  -- what is read is a manifest
  is_manifest : (far : Far) (at : ℕ) → manifest_of (manifest_in c) ≡ Ok (far, at) → IsManifest far.1 (manifest_in c)
  is_manifest far at e = (manifest_found (manifest_in c) far at (bytes manifest_name) e).manifest

  -- where a manifest with entries is read there is a store already
  new_has_none : (far : Far) → IsNew c → HasStore (manifest_in c) far → ⊥
  new_has_none far (inl unmade) has =
      let yes_made = (made_file far.1 (c manifest_name) (is_manifest far has.0 has.1)).1 in
      let not_made = unmade.0 in
      absurd cc
  new_has_none far (inr empty) has =
      has.2 (ap (λ (x : Far × ℕ). x.0.1) (ok_same (far, has.0) ((nothing, []), empty.0) (manifest_of (manifest_in c)) has.1 empty.1))

  has_store : (entries : List Entry) (mutations : List Mutation) → IsStore entries mutations c → HasStore (manifest_in c) (said_by entries, entries)
  has_store entries mutations store = (length (front entries), manifest_read entries mutations store, store.made)

  pub not_new : (entries : List Entry) (mutations : List Mutation) → IsStore entries mutations c → IsNew c → ⊥
  not_new entries mutations store new = new_has_none (said_by entries, entries) new (has_store entries mutations store)

  far_same : (far other : Far) → HasStore (manifest_in c) far → HasStore (manifest_in c) other → far ≡ other
  far_same far other has too = ap (λ (x : Far × ℕ). x.0) (ok_same (far, has.0) (other, too.0) (manifest_of (manifest_in c)) has.1 too.1)

  -- an image is one store
  pub one_store : (shards : ℕ) (entries others : List Entry) (ms ns : List Mutation) → OpensAs shards entries ms c → OpensAs shards others ns c → (entries ≡ others) × (ms ≡ ns)
  one_store shards entries others ms ns (inl a) (inl b) =
      let same : entries ≡ others = ap (λ (far : Far). far.1) (far_same (said_by entries, entries) (said_by others, others) (has_store entries ms a) (has_store others ns b)) in
      (same, ok_same ms ns (log_in (said_by entries) c) (log_read entries ms a) (ap (λ (es : List Entry). log_in (said_by es) c) same ∙ log_read others ns b))
  one_store shards entries others ms ns (inl a) (inr b) = absurd (not_new entries ms a b.0)
  one_store shards entries others ms ns (inr a) (inl b) = absurd (not_new others ns b a.0)
  one_store shards entries others ms ns (inr a) (inr b) = (a.1 ∙ sym b.1, a.2 ∙ sym b.2)

  -- a store isn't refused
  not_bad : (entries : List Entry) (ms : List Mutation) → IsStore entries ms c → (name : Name) (at : ℕ) → IsRefused name at c → ⊥
  not_bad entries ms store manifest_name at (inl (yes_made, inl short)) = not_both _ _ (manifest_of (manifest_in c)) (manifest_read entries ms store) short
  not_bad entries ms store manifest_name at (inl (yes_made, inr bad)) = not_both _ _ (manifest_of (manifest_in c)) (manifest_read entries ms store) bad
  not_bad entries ms store manifest_name at (inr (unmade, others, zero_at)) =
      let yes_made = (made_file entries (c manifest_name) (subst (λ (f : Option (List ℕ)). IsManifest entries (bytes_of f)) (sym store.there) store.manifest)).1 in absurd cc
  not_bad entries ms store (log_name n) at (far, has, bad) =
      let same : far ≡ (said_by entries, entries) = far_same far (said_by entries, entries) has (has_store entries ms store) in
      let read : log_in far.0 c ≡ Ok ms = ap (λ (f : Far). log_in f.0 c) same ∙ log_read entries ms store in
      ⊎_elim (λ short. not_both ms (n, Short at) (log_in far.0 c) read short) (λ field. not_both ms (n, BadField at) (log_in far.0 c) read field) bad
  not_bad entries ms store (table_name n) at bad = bad
  not_bad entries ms store (import_name n) at bad = bad

  -- nor is a folder without one
  new_not_bad : IsNew c → (name : Name) (at : ℕ) → IsRefused name at c → ⊥
  new_not_bad (inl (unmade, bare)) manifest_name at (inl (yes_made, bad)) = absurd cc
  new_not_bad (inr empty) manifest_name at (inl (yes_made, inl short)) = not_both _ _ (manifest_of (manifest_in c)) empty.1 short
  new_not_bad (inr empty) manifest_name at (inl (yes_made, inr bad)) = not_both _ _ (manifest_of (manifest_in c)) empty.1 bad
  new_not_bad (inl (unmade, bare)) manifest_name at (inr (not_made, others, zero_at)) = others.2 (bare others.0 others.1)
  new_not_bad (inr empty) manifest_name at (inr (not_made, others, zero_at)) =
      let yes_made = (made_file [] (c manifest_name) (is_manifest (nothing, []) empty.0 empty.1)).1 in absurd cc
  new_not_bad new (log_name n) at (far, has, bad) = new_has_none far new has
  new_not_bad new (table_name n) at bad = bad
  new_not_bad new (import_name n) at bad = bad

  pub opens_not_bad : (shards : ℕ) (entries : List Entry) (ms : List Mutation) → OpensAs shards entries ms c → (name : Name) (at : ℕ) → IsRefused name at c → ⊥
  opens_not_bad shards entries ms (inl store) = not_bad entries ms store
  opens_not_bad shards entries ms (inr new) = new_not_bad new.0

  -- what is read is a store
  store_found : (s : Saying) (entries : List Entry) (mutations : List Mutation) → HasStore (manifest_in c) (s, entries) → s ≡ said_by entries → log_in s c ≡ Ok mutations → IsStore entries mutations c
  store_found s entries mutations has says read =
      let manifest = is_manifest (s, entries) has.0 has.1 in
      let all = said_by entries in
      let is = sound entries manifest.follow in
      record {
        file = manifest_in c;
        there = (made_file entries (c manifest_name) manifest).0;
        manifest = manifest;
        made = has.2;
        log = is_log all.tables all.shards (are_tables all is) (shard_count all is (made entries has.2 manifest.follow)) (segment_in c) (λ n. bytes (log_name n)) all.segments mutations
            (subst (λ (t : Saying). log_in t c ≡ Ok mutations) says read);
      }

-- ---- logs

-- the logs of images with the same files
pub same_log : (s : Saying) (c d : Image) → ((k : Name) → d k ≡ c k) → log_in s d ≡ log_in s c
same_log s c d same =
    let files : segment_in d ≡ segment_in c = λ i n. bytes_of (same (log_name n) i) in
    ap (λ (f : ℕ → List ℕ). log_of s.tables s.shards f s.segments []) files

abbrev found_above : List Mutation → Result (List Mutation) (ℕ × ReadFault)
found_above found = Ok found

-- a new store has no segments
new_log : (shards : ℕ) (s : Saying) (entries : List Entry) (c : Image) → (s, entries) ≡ new_store shards → (s.segments ≡ []) × (log_in s c ≡ Ok [])
unfolding said_by log_of
new_log shards s entries c is =
    let none : s.segments ≡ [] = ap (λ (far : Far). far.0.segments) is in
    (none, ap (λ (ns : List ℕ). log_of s.tables s.shards (segment_in c) ns []) none)

-- ---- a store that was loaded and replayed

-- whatever the folder tells
pub is_whole : (s : Saying) (entries : List Entry) (all given : List Mutation) → s ≡ said_by entries → MayFollow nothing entries → entries ≢ []
    → (AreTables s.tables → IsShardCount s.shards → AreOfALog s.tables s.shards all) → given ≡ filter (is_above_in s.shards (frontiers_below s (length s.tables))) all
    → IsWhole entries all given
is_whole s entries all given says follow some are filtered =
    let t = said_by entries in
    let is = sound entries follow in
    let log : AreOfALog t.tables t.shards all =
    subst (λ (u : Saying). AreTables u.tables → IsShardCount u.shards → AreOfALog u.tables u.shards all) says are (are_tables t is) (shard_count t is (made entries some follow)) in
    record {
      made = some;
      log = log;
      above = subst (λ (u : Saying). given ≡ filter (is_above_in u.shards (frontiers_below u (length u.tables))) all) says filtered ∙ filter_same t all log.fit;
    }

module _ (shards : ℕ) (place : Place) (s : Saying) (entries : List Entry) (c : Image) (bytes : IsOfBytes c) (o l z : Disk) (was : o.reads c)
    (loads : HasStore (manifest_in c) (s, entries) ⊎ (IsNew c × ((s, entries) ≡ new_store shards))) (says : s ≡ said_by entries)
    (still : (IsNew c → ⊥) → During Same o l) (reads : (IsNew c → ⊥) → Follows Same o.reads l.reads) (tells : (d : Image) × l.reads d) where
  -- the same is read after the store is loaded
  read_after : HasStore (manifest_in c) (s, entries) → (d : Image) × l.reads d × ((k : Name) → d k ≡ c k)
  read_after has = let old = λ (new : IsNew c). new_has_none c bytes (s, entries) new has in reads_on o l (still old) (reads old) c was

  pub is_read : (all : List Mutation) → Stands place l entries → place.end + 1 ≤ FILE_LIMIT → ((d : Image) → l.reads d → log_in s d ≡ Ok all)
      → Last s.segments z → Follows Same l.reads z.reads → During Same l z → IsRead shards place entries all c z
  is_read all stands within read last same call = by_loads loads
    where
      stands_after : Stands place z entries
      stands_after = stands_on place entries l z Same (λ d e alike. alike manifest_name) call stands

      by_loads : HasStore (manifest_in c) (s, entries) ⊎ (IsNew c × ((s, entries) ≡ new_store shards)) → IsRead shards place entries all c z
      by_loads (inl has) =
          let (d, now, alike) = read_after has in
          let store = store_found c bytes s entries all has says (sym (same_log s c d alike) ∙ read d now) in
          let t = said_by entries in
          let fit : AllByRecursion (FitsRecord t.tables t.shards) all = subst (λ (ms : List Mutation). AllByRecursion (FitsRecord t.tables t.shards) ms) store.log.all
          (all_fit t.tables t.shards (segment_in c) t.segments store.log.parts store.log.segments) in
          record {
            opens = inl store;
            keeps = record {
              manifest = stands_after;
              within = within;
              made = has.2;
              parts = store.log.parts;
              long = parts_long t.tables t.shards (segment_in c) t.segments store.log.parts store.log.segments;
              segments = λ x left. segments_agree t.tables t.shards (segment_in c) (segment_in x) t.segments store.log.parts
                  (subst (λ (u : Saying). AllByRecursion (λ n. segment_in x n ≡ segment_in c n) u.segments) says
                  (all_mapped (λ n. (r : Image) × z.reads r × (x (log_name n) ≡ r (log_name n))) (λ n. segment_in x n ≡ segment_in c n)
                  (λ n lasts. let (e, before, stays) = same lasts.0 lasts.1 in ap bytes_of (lasts.2 ∙ stays (log_name n) ∙ l.one e d before now (log_name n) ∙ alike (log_name n)))
                  s.segments (last x left))) store.log.segments;
              all = store.log.all;
              fit = fit;
              ordered = store.log.ordered;
            };
          }
      by_loads (inr (new, is)) =
          let (d, now) = tells in
          let first : entries ≡ first_entries shards = ap (λ (far : Far). far.1) is in
          let none = new_log shards s entries d is in
          let empty : all ≡ [] = ok_same all [] (log_in s d) (read d now) none.1 in
          subst (λ (ms : List Mutation). IsRead shards place entries ms c z) (sym empty) (record {
            opens = inr (new, first, refl);
            keeps = record {
              manifest = stands_after;
              within = within;
              made = λ e. let has : first_entries shards ≡ [] = sym first ∙ e in absurd cc;
              parts = [];
              long = ap length (sym none.0) ∙ ap (λ (u : Saying). length u.segments) says;
              segments = λ x left. subst (λ (ns : List ℕ). AreSegments (said_by entries).tables (said_by entries).shards (segment_in x) ns []) (sym none.0 ∙ ap (λ (u : Saying). u.segments) says) tt;
              all = refl;
              fit = tt;
              ordered = λ shard. tt;
            };
          })

  -- a log that is refused
  pub is_refused : (T U : Type 0) (took : List Mutation → Type 0) (fault : OpenFault) → ((d : Image) → l.reads d → ReplaysSaid {T = U} took s d (Err fault)) → Answers {T = T} shards c (Err fault)
  is_refused T U took (Bad name at) refuses = by_loads loads
    where
      by_loads : HasStore (manifest_in c) (s, entries) ⊎ (IsNew c × ((s, entries) ≡ new_store shards)) → IsRefused name at c
      by_loads (inl has) =
          let (d, now, alike) = read_after has in
          let (n, is, bad) = refuses d now in
          let there : IsBadLog s n at c = subst (λ (r : Result (List Mutation) (ℕ × ReadFault)). (r ≡ Err (n, Short at)) ⊎ (r ≡ Err (n, BadField at))) (same_log s c d alike) bad in
          subst (λ (m : Name). IsRefused m at c) (sym is) ((s, entries), has, there)
      by_loads (inr (new, is)) =
          let (d, now) = tells in
          let (n, called, bad) = refuses d now in
          let none = (new_log shards s entries d is).1 in
          ⊎_elim (λ short. not_both [] (n, Short at) (log_in s d) none short) (λ field. not_both [] (n, BadField at) (log_in s d) none field) bad
  is_refused T U took Failed refuses = tt
  is_refused T U took Mem refuses = tt

  -- what is read now of the store that the image has, above the frontiers
  read_above : (others : List Entry) (ms : List Mutation) → OpensAs shards others ms c → (d : Image) × l.reads d × (above s d ≡ Ok (filter (is_above (said_by others)) ms))
  read_above others ms opens = by_loads loads opens
    where
      by_loads : HasStore (manifest_in c) (s, entries) ⊎ (IsNew c × ((s, entries) ≡ new_store shards)) → OpensAs shards others ms c
          → (d : Image) × l.reads d × (above s d ≡ Ok (filter (is_above (said_by others)) ms))
      by_loads (inl has) (inl store) =
          let (d, now, alike) = read_after has in
          let t = said_by others in
          let same : entries ≡ others = ap (λ (far : Far). far.1) (far_same c bytes (s, entries) (t, others) has (has_store c bytes others ms store)) in
          let is : s ≡ t = says ∙ ap said_by same in
          let read : log_in s d ≡ Ok ms = same_log s c d alike ∙ ap (λ (u : Saying). log_in u c) is ∙ log_read c bytes others ms store in
          let fit : AllByRecursion (FitsRecord t.tables t.shards) ms = subst (λ (l : List Mutation). AllByRecursion (FitsRecord t.tables t.shards) l) store.log.all
          (all_fit t.tables t.shards (segment_in c) t.segments store.log.parts store.log.segments) in (
            d,
            now,
            ap (above_in s.shards (frontiers_below s (length s.tables))) read
                ∙ ap (λ (u : Saying). found_above (filter (is_above_in u.shards (frontiers_below u (length u.tables))) ms)) is ∙ ap found_above (filter_same t ms fit),
          )
      by_loads (inl has) (inr other) = absurd (new_has_none c bytes (s, entries) other.0 has)
      by_loads (inr (new, is)) (inl store) = absurd (not_new c bytes others ms store new)
      by_loads (inr (new, is)) (inr other) =
          let (d, now) = tells in
          let none : ms ≡ [] = other.2 in (
            d,
            now,
            ap (above_in s.shards (frontiers_below s (length s.tables))) (new_log shards s entries d is).1 ∙ ap (λ (l : List Mutation). found_above (filter (is_above (said_by others)) l)) (sym none),
          )

  -- what was handed on until the folder failed or memory ran out
  pub gave_front : (T : Type 0) (took : List Mutation → Type 0) → (given : List Mutation) × took given → (fault : OpenFault) → ((d : Image) → l.reads d → ReplaysSaid {T = T} took s d (Err fault))
      → (others : List Entry) (ms : List Mutation) → OpensAs shards others ms c → (given : List Mutation) × took given × FaultGave others ms given fault
  gave_front T took some (Bad name at) says others ms opens = (some.0, some.1, tt)
  gave_front T took some Failed said others ms opens =
      let (d, now, is) = read_above others ms opens in
      let (given, has, front) = said d now in
      (given, has, subst (λ (r : Result (List Mutation) (ℕ × ReadFault)). IsFront (λ ms. ms) given r) is front)
  gave_front T took some Mem said others ms opens =
      let (d, now, is) = read_above others ms opens in
      let (given, has, front) = said d now in
      (given, has, subst (λ (r : Result (List Mutation) (ℕ × ReadFault)). IsFront (λ ms. ms) given r) is front)

above_fault : (shards : ℕ) (frontiers : List ℕ) (r : Result (List Mutation) (ℕ × ReadFault)) (e : ℕ × ReadFault) → above_in shards frontiers r ≡ Err e → r ≡ Err e
above_fault shards frontiers (Ok found) e is = absurd cc
above_fault shards frontiers (Err f) e is = is

-- a replay that ends with a fault
pub said_fault : (T U : Type 0) (took : List Mutation → Type 0) (s : Saying) (c : Image) (f : ReplayFault) → HandsOn {X = T} took (Err f) (above s c)
    → ReplaysSaid {T = U} took s c (Err (of_replay f))
said_fault T U took s c (replay_fault.Bad segment at) (inl short) = (segment, refl, inl (above_fault s.shards (frontiers_below s (length s.tables)) (log_in s c) (segment, Short at) short))
said_fault T U took s c (replay_fault.Bad segment at) (inr field) = (segment, refl, inr (above_fault s.shards (frontiers_below s (length s.tables)) (log_in s c) (segment, BadField at) field))
said_fault T U took s c replay_fault.Failed took_front = took_front
said_fault T U took s c replay_fault.Mem took_front = took_front

-- before the log is read nothing was handed on
pub gave_none : (entries : List Entry) (ms : List Mutation) (fault : OpenFault) → FaultGave entries ms [] fault
gave_none entries ms (Bad name at) = tt
gave_none entries ms Failed = (filter (is_above (said_by entries)) ms, refl)
gave_none entries ms Mem = (filter (is_above (said_by entries)) ms, refl)
