-- The manifest gets the change that lists the file of a flush.
use Rattle.std.proofs.Common.{◌≡◌, ◌≢◌, ◌⊎◌, inl, inr, ⊎_elim, ◌<◌, ◌≤◌, ◌+◌, ◌-◌, ◌*◌, ◌^◌, ◌==◌, ◌&&◌, ◌||◌, not, ℕ, zero, suc, Bool, true, false, List, [], ◌∷◌, ◌++◌, length, map, Option, None, Some, Result, Ok, Err, refl, sym, ap, ◌∙◌, subst, arith, append-nil}
use Rattle.std.specs.Prelude.{slice_get, slice_set, unwrap_or}
use Rattle.std.specs.List.{AllByRecursion}
use Rattle.std.proofs.lemmas.Bool.Decides.{nat_tests}
use Rattle.std.proofs.lemmas.Option.{same_Some}
use Rattle.cas_types.specs.declared.schema.TableSchema.{TableSchema}
use Rattle.cas_disk.specs.Disk.{Disk, Image, Leaves}
use Rattle.cas_disk.proofs.Moments.{reworded}
use Rattle.cas_atoms.specs.declared.atom.Mutation.{Mutation}
use Rattle.cas_info.specs.Allowed.{FitsInfo}
use Rattle.cas_info.specs.declared.info.TableInfo.{TableInfo}
use Rattle.cas_schemas.specs.Each.{EachFits}
use Rattle.cas_changes.specs.Allowed.{FitsChange, FitsEntry, HasSpelling, may_come, may_go}
use Rattle.cas_changes.specs.Saying.{Saying, change_after, has_file, is_listed, no_part, nothing, part_after, part_of, place_in, said_by, frontiers_in}
use Rattle.cas_changes.specs.Spelling.{entry_bytes}
use Rattle.cas_changes.specs.declared.entry.Change.{Change}
use Rattle.cas_changes.specs.declared.entry.Entry.{Entry as ManifestEntry}
use Rattle.cas_changes.specs.declared.entry.Entry.TheVariants.{Change as change_entry}
use Rattle.cas_changes.specs.declared.said.Part.{Part}
use Rattle.cas_changes.proofs.EntryLaws.{spelled}
use Rattle.cas_changes.proofs.EntryLengths.{entry_short}
use Rattle.cas_manifest.proofs.Appends.{said_more}
use Rattle.cas_replay.specs.Grammar.{AscendByOne, numbers_of}
use Rattle.cas_journal.specs.Stores.{Told, MayList, appended, committed_all, failed_at}
use Rattle.cas_journal.specs.declared.fault.JournalFault.{JournalFault}
use Rattle.cas_room.specs.Changing.{MayBeTold, StandsAmid}
use Rattle.cas_room.specs.Rooms.{accepted_in}
use Rattle.cas_shard.specs.declared.entry.ShardOpening.{ShardOpening}
use Rattle.cas_shard.specs.Stands.{ShardState}
use Rattle.cas_recovery.specs.Restored.{IsBehind}
use Rattle.cas_recovery.proofs.Places.{get_here, get_other, get_within, same_place}
use Rattle.cas_lasting.specs.History.{History, changes_told}
use Rattle.cas_lasting.specs.Entered.{IsLeftAmid, ListFiles}
use Rattle.cas_lasting.specs.Nodes.{Explains, State, LastsFor, files_in, all_in}
use Rattle.cas_lasting.specs.Inner.Going.{AddsFile, AreStood, GoesOn, Lists, SameNumbers}
use Rattle.cas_lasting.proofs.Files.{list_changed, list_same, told_more}
use Rattle.cas_lasting.proofs.Parts.{has_parts, one_shard}
use Rattle.cas_lasting.proofs.Tables.{goes_before, said_still}
use Rattle.cas_lasting.proofs.Lasting.{still_in_order, still_next, untrimmed}
use Rattle.cas_lasting.proofs.Frontiers.{frontiers_changed}

-- ---- numbers

not_equal : (k n : ℕ) → k < n → (k == n) ≡ false
not_equal k n lt = grind (arith, nat_tests)

not_listed : (n : ℕ) (ks : List ℕ) → AllByRecursion (λ k. k < n) ks → is_listed ks n ≡ false
not_listed n [] all = refl
not_listed n (k ∷ ks) all = (λ i. not_equal k n all.0 i || not_listed n ks all.1 i)

may_come_new : (said : Saying) (n : ℕ) → AllByRecursion (λ k. k < n) said.numbers → may_come said [] n ≡ true
may_come_new said n all = ap (λ (b : Bool). not b && not (has_file [] n)) (not_listed n said.numbers all)

pub below_next : (a n : ℕ) (ks : List ℕ) → a < n → AllByRecursion (λ k. k ≤ a) ks → AllByRecursion (λ k. k < n) ks
below_next a n [] lt all = tt
below_next a n (k ∷ ks) lt all = (omega (arith, lt, all.0), below_next a n ks lt all.1)

all_more : (P : ℕ → Type 0) (ks : List ℕ) (n : ℕ) → AllByRecursion P ks → P n → AllByRecursion P (ks ++ n ∷ [])
all_more P [] n all one = (one, tt)
all_more P (k ∷ ks) n all one = (all.0, all_more P ks n all.1 one)

weaker : (n : ℕ) (ks : List ℕ) → AllByRecursion (λ k. k < n) ks → AllByRecursion (λ k. k ≤ n) ks
weaker n [] all = tt
weaker n (k ∷ ks) all = (omega (arith, all.0), weaker n ks all.1)

-- ---- a change that may follow

-- what makes it one: the shard is there, its frontier isn't below, and nothing was listed of its number or above
module _ (place number : ℕ) (tables : List TableSchema) (shards : List ShardState) (c : Change) (adds : AddsFile tables shards place number c) (said : Saying)
    (same : said.tables ≡ tables) (few : place < said.shards) (frontier : (part_of said c.table place).frontier ≤ adds.x.number)
    (new : AllByRecursion (λ k. k < number) said.numbers) where
  none_removed : EachFits (λ before n. (n < 2 ^ 64) × (may_go (part_of said c.table c.shard).listed before n ≡ true)) [] c.removed
  none_removed = subst (λ ns. EachFits (λ before n. (n < 2 ^ 64) × (may_go (part_of said c.table c.shard).listed before n ≡ true)) [] ns) (sym adds.is.removed) tt

  one_added : EachFits (λ before i. FitsInfo i × (may_come said before i.number ≡ true)) [] c.added
  one_added =
      subst (λ is. EachFits (λ before i. FitsInfo i × (may_come said before i.number ≡ true)) [] is) (sym adds.is.added) (
        (adds.fits, ap (λ (k : ℕ). may_come said [] k) adds.numbered ∙ may_come_new said number new),
        tt,
      )

  fits_change : FitsChange said c
  fits_change = record {
    table = subst (λ (ts : List TableSchema). c.table < length ts) (sym same) adds.table;
    shard = subst (λ (k : ℕ). k < said.shards) (sym adds.is.of_shard) few;
    moment = adds.is.moment.1;
    frontier = (
      subst (λ (k : ℕ). (part_of said c.table k).frontier ≤ c.frontier) (sym adds.is.of_shard) (omega (arith, frontier, adds.is.frontier.0)),
      adds.is.frontier.1,
    );
    drawn = adds.is.drawn.1;
    few_removed = subst (λ (ns : List ℕ). length ns < 2 ^ 16) (sym adds.is.removed) (omega arith);
    removed = none_removed;
    few_added = subst (λ (is : List TableInfo). length is < 2 ^ 16) (sym adds.is.added) (omega arith);
    added = one_added;
  }

  pub fits_entry : FitsEntry said (change_entry c)
  fits_entry = (omega (arith, few), fits_change)

-- ---- its spelling

module _ (place number : ℕ) (tables : List TableSchema) (shards : List ShardState) (c : Change) (adds : AddsFile tables shards place number c) where
  -- a manifest that it may follow
  abbrev witness : Saying
  witness = record nothing { tables = tables; shards = place + 1 }

  fits_witness : FitsEntry witness (change_entry c)
  fits_witness = fits_entry place number tables shards c adds witness refl (omega arith) (omega arith) tt

  pub change_spelled : HasSpelling (change_entry c)
  change_spelled = spelled witness (change_entry c) fits_witness

  pub change_short : length (entry_bytes (change_entry c)) < 2 ^ 32
  change_short =
      let few : 0 - length c.removed + length c.added ≤ 4096 = (let one = ap (λ (is : List TableInfo). length is) adds.is.added in omega (arith, one)) in
      entry_short witness (change_entry c) (fits_witness, few)

-- ---- what the manifest says of table files then

set_past : {X : Type 0} (xs : List X) (n : ℕ) (y : X) → slice_get xs n ≡ None → slice_set xs n y ≡ xs
set_past [] n y none = refl
set_past (x ∷ xs) zero y none = absurd cc
set_past (x ∷ xs) (suc n) y none = ap (λ ys. x ∷ ys) (set_past xs n y none)

-- the part in the place that was set: it was, or there is no such place
set_there : (ps : List Part) (n : ℕ) (p : Part) (o : Option Part) → slice_get ps n ≡ o → (unwrap_or (slice_get (slice_set ps n p) n) no_part ≡ p)
    ⊎ (unwrap_or (slice_get (slice_set ps n p) n) no_part ≡ unwrap_or (slice_get ps n) no_part)
set_there ps n p None none = inr (ap (λ (qs : List Part). unwrap_or (slice_get qs n) no_part) (set_past ps n p none))
set_there ps n p (Some q) there = inl (ap (λ o. unwrap_or o no_part) (get_here ps n q p there))

module _ (place number : ℕ) (tables : List TableSchema) (shards : List ShardState) (c : Change) (adds : AddsFile tables shards place number c) (said : Saying)
    (many : (n : ℕ) (x : ShardState) → slice_get shards n ≡ Some x → n < said.shards) (last live : ℕ) (is : IsBehind said shards last live) where
  frontiers_after : (n table : ℕ) (x : ShardState) → slice_get shards n ≡ Some x → (part_of (change_after said c) table n).frontier ≤ x.number
  frontiers_after n table x there = by (same_place (table * said.shards + n) (place_in said c.table c.shard))
    where
      was : (part_of said table n).frontier ≤ x.number
      was = is.frontiers n table x there

      here : (table * said.shards + n ≡ place_in said c.table c.shard) → c.frontier ≤ x.number
      here same =
          let shard : n ≡ c.shard =
          one_shard table c.table n c.shard said.shards (many n x there) (subst (λ (k : ℕ). k < said.shards) (sym adds.is.of_shard) (many place adds.x adds.there)) same in
          let one : x ≡ adds.x =
          same_Some x adds.x (sym there ∙ ap (λ (k : ℕ). slice_get shards k) (shard ∙ adds.is.of_shard) ∙ adds.there) in
          omega (arith, adds.is.frontier.0, ap (λ (y : ShardState). y.number) one)

      by : (table * said.shards + n ≡ place_in said c.table c.shard) ⊎ (table * said.shards + n ≢ place_in said c.table c.shard)
          → (part_of (change_after said c) table n).frontier ≤ x.number
      by (inl same) =
          let p : Part = part_after (part_of said c.table c.shard) c in
          let at : unwrap_or (slice_get (slice_set said.parts (place_in said c.table c.shard) p) (table * said.shards + n)) no_part
          ≡ unwrap_or (slice_get (slice_set said.parts (place_in said c.table c.shard) p) (place_in said c.table c.shard)) no_part
          = ap (λ (k : ℕ). unwrap_or (slice_get (slice_set said.parts (place_in said c.table c.shard) p) k) no_part) same in
          ⊎_elim
          (λ set. let front = ap (λ (q : Part). q.frontier) (at ∙ set) in let low = here same in omega (arith, front, low))
          (λ old.
          let front = ap (λ (q : Part). q.frontier) (at ∙ old ∙ ap (λ (k : ℕ). unwrap_or (slice_get said.parts k) no_part) (sym same)) in
          omega (arith, front, was))
          (set_there said.parts (place_in said c.table c.shard) p (slice_get said.parts (place_in said c.table c.shard)) refl)
      by (inr other) =
          let front = ap (λ o. (unwrap_or o no_part).frontier)
          (get_other said.parts (place_in said c.table c.shard) (table * said.shards + n) (part_after (part_of said c.table c.shard) c) other) in
          omega (arith, front, was)

  pub behind_listed : (now : ℕ) → AllByRecursion (λ k. k < number) said.numbers → number ≤ last → now ≡ live + 1 → IsBehind (change_after said c) shards last now
  behind_listed now new low more = record {
    frontiers = frontiers_after;
    numbers =
        subst (λ (ks : List ℕ). AllByRecursion (λ k. k ≤ last) (said.numbers ++ ks)) (sym (ap (λ (is : List TableInfo). map (λ i. i.number) is) adds.is.added ∙ ap (λ (k : ℕ). k ∷ []) adds.numbered))
        (all_more (λ k. k ≤ last) said.numbers number is.numbers low);
    listed =
        let one = ap (λ (is : List TableInfo). length is) adds.is.added in
        let none = ap (λ (ns : List ℕ). length ns) adds.is.removed in
        omega (arith, one, none, is.listed, more);
  }

-- ---- the disk keeps what it kept, with the change or without

no_shard_more : (h : History) (found : List Mutation) (s : State) (d : Disk) (told : Told) → length s.shards ≡ s.limits.shards → LastsFor h found s d told → (n : ℕ) (x : ShardState)
    → slice_get s.shards n ≡ Some x → n < (said_by told.entries).shards
no_shard_more h found s d told count lasts n x there = omega (arith, get_within s.shards n x there, count, lasts.shards)

pub may_follow : (h : History) (found : List Mutation) (s : State) (d : Disk) (told : Told) (place number : ℕ) (c : Change) → length s.shards ≡ s.limits.shards
    → AddsFile s.tables s.shards place number c → LastsFor h found s d told → AllByRecursion (λ k. k < number) (said_by told.entries).numbers
    → FitsEntry (said_by told.entries) (change_entry c)
may_follow h found s d told place number c count adds lasts new =
    fits_entry place number s.tables s.shards c adds (said_by told.entries) lasts.tables (no_shard_more h found s d told count lasts place adds.x adds.there)
    (lasts.behind.frontiers place c.table adds.x adds.there) new

module _ (s t : State) (d e : Disk) (place number : ℕ) (c : Change) (count : length s.shards ≡ s.limits.shards) (adds : AddsFile s.tables s.shards place number c)
    (low : number ≤ s.last_file) (h : History) (found : List Mutation) (told : Told) (lasts : LastsFor h found s d told)
    (new : AllByRecursion (λ k. k < number) (said_by told.entries).numbers) where
  fits : FitsEntry (said_by told.entries) (change_entry c)
  fits = may_follow h found s d told place number c count adds lasts new

  -- what a crash leaves
  left : (i : Image) → h.tables ≡ s.tables → StandsAmid told (change_entry c) found (accepted_in s.list) s.committed i → IsLeftAmid found s.list h i
  left i tables (inl image) = listed image.may
    where
      listed_with : (more : List ManifestEntry) → image.entries ≡ told.entries ++ more → length more ≤ 1 → IsLeftAmid found s.list h i
      listed_with more are few = record {
        entries = image.entries;
        told = told.entries;
        more = more;
        are = are;
        tables = lasts.tables ∙ sym tables;
        few = few;
        count = image.count;
        least = omega (arith, lasts.acknowledged.0, image.least);
        most = image.most;
        store = image.store;
      }

      listed : MayList told image.entries → IsLeftAmid found s.list h i
      listed (inl same) = listed_with [] (same ∙ sym (append-nil told.entries)) (omega arith)
      listed (inr more) = listed_with told.failed more lasts.few
  left i tables (inr image) = listed image.may
    where
      listed_with : (more : List ManifestEntry) → image.entries ≡ told.entries ++ more → length more ≤ 1 → IsLeftAmid found s.list h i
      listed_with more are few = record {
        entries = image.entries;
        told = told.entries;
        more = more;
        are = are;
        tables = lasts.tables ∙ sym tables;
        few = few;
        count = image.count;
        least = omega (arith, lasts.acknowledged.1, image.least);
        most = image.most;
        store = image.store;
      }

      listed : MayList (failed_at (change_entry c) told) image.entries → IsLeftAmid found s.list h i
      listed (inl same) = listed_with [] (same ∙ sym (append-nil told.entries)) (omega arith)
      listed (inr more) = listed_with (change_entry c ∷ []) more (omega arith)

  lists_amid : {T : Type 0} (r : Result T JournalFault) → Lists c r s t d e → h.tables ≡ s.tables → Leaves (IsLeftAmid found s.list h) d e
  lists_amid r lists tables =
      reworded (λ _ i. StandsAmid told (change_entry c) found (accepted_in s.list) s.committed i) (λ _ i. IsLeftAmid found s.list h i) d e (lists.front found told lasts.keeps fits)
      (λ b i was image. left i tables image)

  -- it has the change, and the shards have the file that it adds, and no other
  pub lists_done : {T : Type 0} (Left : Type 0) (x : T) → Lists c (Ok x) s t d e → h.tables ≡ s.tables → s.journal.first ≡ None → (ys : List ShardState) → SameNumbers t.shards ys
      → map (λ f. f.info) (files_in ys c.shard c.table) ≡ map (λ f. f.info) (files_in s.shards c.shard c.table) ++ c.added
      → ((n k : ℕ) → ((n ≡ c.shard) × (k ≡ c.table) → ⊥) → files_in ys n k ≡ files_in s.shards n k)
      → (Left → AreStood h s → (openings : ℕ → ShardOpening) → Explains openings h found s d told
      → Explains openings h found (record t { shards = ys }) e (appended (change_entry c) (committed_all told)))
      → GoesOn Left h (h.changes ++ c ∷ []) found told s (record t { shards = ys }) d e
  lists_done Left x lists tables going ys numbers here others explains =
      ((appended (change_entry c) (committed_all told), keeps_on, explains), lists_amid (Ok x) lists tables)
    where
      said : said_by (told.entries ++ change_entry c ∷ []) ≡ change_after (said_by told.entries) c
      said = said_more told.entries (change_entry c)

      behind : IsBehind (change_after (said_by told.entries) c) t.shards t.last_file t.live
      behind =
          subst (λ (ys : List ShardState). IsBehind (change_after (said_by told.entries) c) ys t.last_file t.live) (sym lists.shards)
          (subst (λ (k : ℕ). IsBehind (change_after (said_by told.entries) c) s.shards k t.live) (sym lists.last)
          (behind_listed place number s.tables s.shards c adds (said_by told.entries) (no_shard_more h found s d told count lasts) s.last_file s.live lasts.behind t.live new low
          lists.live))

      files : ListFiles (change_after (said_by told.entries) c) (files_in ys)
      files =
          list_changed (said_by told.entries) c (files_in s.shards) (files_in ys) (has_parts told.entries (lasts.keeps.lasts.goes going).manifest.follow)
          (subst (λ (ts : List TableSchema). c.table < length ts) (sym lasts.tables) adds.table)
          (subst (λ (k : ℕ). k < (said_by told.entries).shards) (sym adds.is.of_shard) (no_shard_more h found s d told count lasts place adds.x adds.there))
          adds.is.removed here others lasts.files

      keeps_on : LastsFor (record h { changes = h.changes ++ c ∷ []; trimmed = false }) found (record t { shards = ys }) e (appended (change_entry c) (committed_all told))
      keeps_on = record {
        keeps = lists.keeps found told lasts.keeps fits;
        tables = ap (λ (sy : Saying). sy.tables) said ∙ lasts.tables ∙ sym lists.tables;
        shards = ap (λ (sy : Saying). sy.shards) said ∙ lasts.shards ∙ ap (λ l. l.shards) (sym lists.limits);
        few = lasts.few;
        ordered = still_in_order found s t lists.list lasts.ordered;
        next = still_next found s t ys lists.list (λ n z there.
            let (y, at, same) = numbers n z there in
            subst (λ (k : ℕ). AscendByOne (numbers_of n (all_in found s) ++ (k + 1) ∷ [])) (sym same)
            (lasts.next n y (subst (λ (xs : List ShardState). slice_get xs n ≡ Some y) lists.shards at)));
        counted = omega (arith, lasts.counted, lists.accepted, ap (λ l. length (accepted_in l)) lists.list);
        acknowledged = (
          omega (arith, lasts.acknowledged.0, lists.rises),
          omega (arith, lasts.acknowledged.1, ap (λ l. length (accepted_in l)) lists.list),
        );
        whole = λ on. omega (arith, lasts.counted, lists.all, ap (λ l. length (accepted_in l)) lists.list);
        behind =
            subst (λ (sy : Saying). IsBehind sy ys t.last_file t.live) (sym said) (record {
              frontiers = λ n table z there.
                  let (y, at, same) = numbers n z there in
                  let below = behind.frontiers n table y at in
                  omega (arith, below, same);
              numbers = behind.numbers;
              listed = behind.listed;
            });
        files = subst (λ (sy : Saying). ListFiles sy (files_in ys)) (sym said) files;
        changes = told_more told.entries c ∙ ap (λ cs. cs ++ c ∷ []) lasts.changes;
        frontiers = lists.frontiers ∙ frontiers_changed (said_by told.entries) c s.frontiers s.limits.shards lasts.frontiers (sym lasts.shards) ∙ ap frontiers_in (sym said);
        trimmed = untrimmed;
      }

  -- it failed
  same_told : (f : JournalFault) (u : Told) → MayBeTold f (change_entry c) told u → (u.entries ≡ told.entries) × (length u.failed ≤ 1)
  same_told f u (inl same) = (ap (λ (v : Told). v.entries) same, subst (λ (v : Told). length v.failed ≤ 1) (sym same) lasts.few)
  same_told f u (inr since) =
      let still = said_still f (change_entry c) (committed_all told) lasts.few in
      (ap (λ (v : Told). v.entries) since ∙ still.entries, subst (λ (v : Told). length v.failed ≤ 1) (sym since) still.few)

  pub lists_failed : (Left T : Type 0) (f : JournalFault) → Lists {T = T} c (Err f) s t d e → h.tables ≡ s.tables
      → ((u : Told) → MayBeTold f (change_entry c) told u → Left → AreStood h s → (openings : ℕ → ShardOpening) → Explains openings h found s d told → Explains openings h found t e u)
      → GoesOn Left h h.changes found told s t d e
  lists_failed Left T f lists tables explains =
      let (u, may, keeps) = lists.keeps found told lasts.keeps fits in
      let (entries, few) = same_told f u may in (
        (
          u,
          record {
            keeps = keeps;
            tables = ap (λ es. (said_by es).tables) entries ∙ lasts.tables ∙ sym lists.tables;
            shards = ap (λ es. (said_by es).shards) entries ∙ lasts.shards ∙ ap (λ l. l.shards) (sym lists.limits);
            few = few;
            ordered = still_in_order found s t lists.list lasts.ordered;
            next = still_next found s t t.shards lists.list (λ n y there. lasts.next n y (subst (λ (ys : List ShardState). slice_get ys n ≡ Some y) lists.shards there));
            counted = omega (arith, lasts.counted, lists.accepted, ap (λ l. length (accepted_in l)) lists.list);
            acknowledged = (
              omega (arith, lasts.acknowledged.0, lists.rises),
              omega (arith, lasts.acknowledged.1, ap (λ l. length (accepted_in l)) lists.list),
            );
            whole = λ on.
                let all = lasts.whole (goes_before {T = T} s.journal.first t.journal.first s.faults t.faults (Err f) lists.outcome on) in
                omega (arith, all, lists.rises, ap (λ l. length (accepted_in l)) lists.list);
            behind =
                subst (λ es. IsBehind (said_by es) t.shards t.last_file t.live) (sym entries)
                (subst (λ (ys : List ShardState). IsBehind (said_by told.entries) ys t.last_file t.live) (sym lists.shards)
                (subst (λ (k : ℕ). IsBehind (said_by told.entries) s.shards k t.live) (sym lists.last)
                (subst (λ (k : ℕ). IsBehind (said_by told.entries) s.shards s.last_file k) (sym lists.live) lasts.behind)));
            files =
                subst (λ es. ListFiles (said_by es) (files_in t.shards)) (sym entries)
                (list_same (said_by told.entries) (files_in s.shards) (files_in t.shards) (ap files_in lists.shards) lasts.files);
            changes = ap changes_told entries ∙ lasts.changes;
            frontiers = lists.frontiers ∙ lasts.frontiers ∙ ap (λ es. frontiers_in (said_by es)) (sym entries);
            trimmed = untrimmed;
          },
          explains u may,
        ),
        lists_amid {T = T} (Err f) lists tables,
      )
