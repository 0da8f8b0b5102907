-- A flush of a table in all shards, one after another.
use Rattle.std.proofs.Common.{◌≡◌, ◌≢◌, ◌⊎◌, inl, inr, ◌<◌, ◌≤◌, ◌+◌, ℕ, zero, suc, Bool, true, false, cond, List, [], ◌∷◌, ◌++◌, length, Option, None, Some, Result, Ok, Err, is_some, refl, sym, ap, ◌∙◌, subst, arith, length-append}
use Rattle.std.specs.Prelude.{◌==◌, ◌&&◌, if◌then◌else◌, IfSome, slice_get}
use Rattle.std.specs.List.{find, fold}
use Rattle.std.specs.Str.{bytes_eq}
use Rattle.std.proofs.Math.Bool.{and-false}
use Rattle.std.proofs.lemmas.List.{flat_map_more}
use Rattle.std.proofs.lemmas.List.Sums.{fold_push}
use Rattle.cas_types.specs.declared.schema.TableSchema.{TableSchema}
use Rattle.cas_bounds.specs.ClusteringOrder.{clustering_order}
use Rattle.cas_disk.specs.Disk.{Disk, Image, Leaves}
use Rattle.cas_disk.proofs.Moments.{no_call}
use Rattle.cas_atoms.specs.declared.atom.Mutation.{Mutation}
use Rattle.cas_changes.specs.declared.entry.Change.{Change}
use Rattle.cas_journal.specs.Reach.{Reach}
use Rattle.cas_journal.specs.Stores.{Told}
use Rattle.cas_shard.specs.declared.entry.ShardOpening.{ShardOpening}
use Rattle.cas_shard.specs.Shards.{ShardHistory, all_entries}
use Rattle.cas_shard.specs.Stands.{ShardState, mutations_of}
use Rattle.cas_sstread.specs.Loading.{Held}
use Rattle.cas_bind.specs.Tables.{AreInPlace}
use Rattle.cas_terms.specs.Columns.{is_local, table_named}
use Rattle.cas_view.specs.Views.{File}
use Rattle.cql_parse.specs.declared.syntax.TableName.{TableName}
use Rattle.cas_recovery.proofs.Places.{is_other, is_same, same_place}
use Rattle.cas_sessions.specs.declared.answer.Fault.{Fault}
use Rattle.cas_sessions.specs.declared.answer.Fault.TheVariants.{Refused, Stopped, Disk as Failed, Read, BadBlock, Mem}
use Rattle.cas_sessions.specs.Calls.{IsTrueOf}
use Rattle.cas_lasting.specs.Entered.{IsLeftAmid}
use Rattle.cas_lasting.specs.Listing.{SameUpTo}
use Rattle.cas_sessions.specs.Flushes.{AreBegun, Flushes, FlushesNamed, FlushesTable, WhyNoFurther}
use Rattle.cas_lasting.specs.Flushed.{AreInFiles, AscendTo, Flushed, Grows, SaySomething, change_of, changes_by, numbers_added, numbers_in, reach_by, without_begun, without_flushed, FlushedOne, filled_with, rest_with}
use Rattle.cas_lasting.specs.History.{History, DiskState, shard_at}
use Rattle.cas_lasting.specs.Nodes.{AreFilled, Explains, State, StandsFor, LastsFor, LastsForOne, GoesOnTo, KeepsAll, Moves, disk_of, filled_of}
use Rattle.cas_sessions.specs.Filling.{IsBegun, SaysNone, listed_of}
use Rattle.cas_lasting.specs.Inner.Going.{AreStood, GoesOn}
use Rattle.cas_sessions.specs.Inner.Flushing.{FlushesFirst, FlushesNoFurther, FlushesOne, IsOwn, TellsReads}
use Rattle.cas_lasting.proofs.Explaining.{explains_still, goes_nowhere, keep_files_none}
use Rattle.cas_lasting.proofs.Filled.{begun_more, begun_none, filled_are, stands_filled}
use Rattle.cas_sessions.proofs.FlushShard.{quiet_still}
use Rattle.cas_lasting.proofs.FlushSteps.{amid_then, amid_with, beside_then, quiet_beside, quiet_goes, quiet_stands, stands_with, with_state}
use Rattle.cas_lasting.proofs.Lasting.{lasts_as}

-- ---- lists with one more

change_last : (changes : List (Option Change)) (c : Option Change) (n : ℕ) → n ≡ length changes → change_of (changes ++ c ∷ []) n ≡ c
change_last [] c zero same = refl
change_last [] c (suc n) same = absurd (omega (arith, same))
change_last (x ∷ changes) c zero same = absurd (omega (arith, same))
change_last (x ∷ changes) c (suc n) same = change_last changes c n (omega (arith, same))

change_past : (changes : List (Option Change)) (n : ℕ) → length changes ≤ n → change_of changes n ≡ None
change_past [] n past = refl
change_past (x ∷ changes) zero past = absurd (omega (arith, past))
change_past (x ∷ changes) (suc n) past = change_past changes n (omega (arith, past))

change_before : (changes : List (Option Change)) (c : Option Change) (n : ℕ) → n ≢ length changes → change_of (changes ++ c ∷ []) n ≡ change_of changes n
change_before [] c zero other = absurd (other refl)
change_before [] c (suc n) other = refl
change_before (x ∷ changes) c zero other = refl
change_before (x ∷ changes) c (suc n) other = change_before changes c n (λ same. other (ap suc same))

-- numbers with one's behind them
ascend_more : (n : ℕ) (ks : List ℕ) (m : ℕ) (more : List ℕ) (last : ℕ) → AscendTo n ks m → AscendTo m more last → AscendTo n (ks ++ more) last
ascend_more n [] m more last first later = from_below more later
  where
    from_below : (more : List ℕ) → AscendTo m more last → AscendTo n more last
    from_below [] up = omega (arith, first, up)
    from_below (k ∷ ks) up = (omega (arith, first, up.0), up.1)
ascend_more n (k ∷ ks) m more last first later = (first.0, ascend_more k ks m more last first.1 later)

-- ---- what stands in no file

-- with a change more
rest_more : (table : ℕ) (changes : List (Option Change)) (c : Option Change) (n : ℕ) (before : ℕ → ℕ → List Mutation) → length changes ≡ n
    → rest_with table n c (without_flushed table changes before) ≡ without_flushed table (changes ++ c ∷ []) before
rest_more table changes None n before at = λ i k j. if (j == table) && is_some (still k i) then [] else before k j
  where
    still : (k : ℕ) → change_of changes k ≡ change_of (changes ++ None ∷ []) k
    still k = by (same_place k n)
      where
        by : (k ≡ n) ⊎ (k ≢ n) → change_of changes k ≡ change_of (changes ++ None ∷ []) k
        by (inl here) = change_past changes k (omega (arith, here, at)) ∙ sym (change_last changes None k (here ∙ sym at))
        by (inr other) = sym (change_before changes None k (λ same. other (same ∙ at)))
rest_more table changes (Some c) n before at = λ i k j. each k j i
  where
    each : (k j : ℕ) → (if (k == n) && (j == table) then [] else without_flushed table changes before k j) ≡ without_flushed table (changes ++ Some c ∷ []) before k j
    each k j = by (same_place k n)
      where
        both : (b : Bool) → (if b then [] else (if b && is_some (change_of changes k) then [] else before k j)) ≡ (if b && true then [] else before k j)
        both true = refl
        both false = refl

        by : (k ≡ n) ⊎ (k ≢ n) → (if (k == n) && (j == table) then [] else without_flushed table changes before k j) ≡ without_flushed table (changes ++ Some c ∷ []) before k j
        by (inl here) =
            ap (λ (b : Bool). if b && (j == table) then [] else without_flushed table changes before k j) (ap (λ (i : ℕ). i == n) here ∙ is_same n)
            ∙ both (j == table)
            ∙ ap (λ (o : Option Change). if (j == table) && is_some o then [] else before k j) (sym (change_last changes (Some c) k (here ∙ sym at)))
        by (inr other) =
            ap (λ (b : Bool). if b && (j == table) then [] else without_flushed table changes before k j) (is_other k n (λ e. other (sym e)))
            ∙ ap (λ (o : Option Change). if (j == table) && is_some o then [] else before k j) (sym (change_before changes (Some c) k (λ same. other (same ∙ at))))

-- where no shard was flushed all is left
none_flushed : (table : ℕ) (before : ℕ → ℕ → List Mutation) → before ≡ without_flushed table [] before
none_flushed table before = λ i k j. at (j == table) k j i
  where
    at : (b : Bool) (k j : ℕ) → before k j ≡ (if b && false then [] else before k j)
    at true k j = refl
    at false k j = refl

-- ---- what a crash may leave

-- in a history that tells other changes, and has other things in no file
with_changes : (openings : ℕ → ShardOpening) (h : History) (left : ℕ → ℕ → List Mutation) (changes : List Change) (found : List Mutation) (u : State) (e : Disk) (told : Told)
    → Explains openings h found u e told → Explains openings (record h { unflushed = left; changes = changes; trimmed = false }) found u e told
with_changes openings h left changes found u e told was =
    explains_still openings h (record h { unflushed = left; changes = changes; trimmed = false }) found u u e e told (λ n. goes_nowhere (shard_at h n)) refl refl (keep_files_none told e)
    (λ ms have. have) was

without_changes : (openings : ℕ → ShardOpening) (h : History) (left : ℕ → ℕ → List Mutation) (changes : List Change) (found : List Mutation) (u : State) (e : Disk) (told : Told)
    → Explains openings (record h { unflushed = left; changes = changes; trimmed = false }) found u e told → Explains openings h found u e told
without_changes openings h left changes found u e told was =
    explains_still openings (record h { unflushed = left; changes = changes; trimmed = false }) h found u u e e told (λ n. goes_nowhere (shard_at h n)) refl refl (keep_files_none told e)
    (λ ms have. have) was

-- one part of a flush explains it, and then the next
both_explain : (h : History) (left : ℕ → ℕ → List Mutation) (so_far : List Change) (found : List Mutation) (s u v : State) (d e f : Disk) (was now later : Told) → (TellsReads d → TellsReads e)
    → (TellsReads d → AreStood h s → AreStood (record h { unflushed = left }) u)
    → (TellsReads d → AreStood h s → (openings : ℕ → ShardOpening) → Explains openings h found s d was → Explains openings h found u e now)
    → (TellsReads e → AreStood (record h { unflushed = left; changes = so_far; trimmed = false }) u → (openings : ℕ → ShardOpening)
    → Explains openings (record h { unflushed = left; changes = so_far; trimmed = false }) found u e now → Explains openings (record h { unflushed = left; changes = so_far; trimmed = false }) found v f later)
    → TellsReads d → AreStood h s → (openings : ℕ → ShardOpening) → Explains openings h found s d was → Explains openings h found v f later
both_explain h left so_far found s u v d e f was now later tells stands first second telling stood openings before =
    without_changes openings h left so_far found v f later
    (second (tells telling) (stands_with (record h { unflushed = left; filled = filled_of u; disk = disk_of u }) so_far u (stands telling stood)) openings
    (with_changes openings h left so_far found u e now (first telling stood openings before)))

-- ---- a shard more

module _ (h : History) (t : TableSchema) (changes : List (Option Change)) (c : Option Change) (k : ℕ) (u v : DiskState) (at : length changes ≡ k) (first : Flushed h t changes u)
    (one : FlushedOne t k (shard_at h k) c u v) (number : AscendTo u.last_file (numbers_in c) v.last_file) (said : IfSome c (λ x. SaySomething (h.unflushed k t.number)))
    (unsaid : c ≡ None → SaySomething (h.unflushed k t.number) → ⊥)
    (faults : u.faults ≤ v.faults) (reads : u.reads ≤ v.reads) (last : u.last_file ≤ v.last_file)
    (next : v.last_file ≤ h.disk.last_file + length changes + 2) where
  apart : (n j : ℕ) → n ≢ k → v.files n j ≡ u.files n j
  apart n j other = one.others n j (λ both. other both.0)

  untouched : u.files k t.number ≡ h.disk.files k t.number
  untouched =
      subst (λ (x : Option Change). Grows t.number k (shard_at h k) x (h.disk.files k t.number) (u.files k t.number))
      (change_past changes k (omega (arith, at))) (first.files k)

  grows : (n : ℕ) → (n ≡ k) ⊎ (n ≢ k) → Grows t.number n (shard_at h n) (change_of (changes ++ c ∷ []) n) (h.disk.files n t.number) (v.files n t.number)
  grows n (inl here) =
      subst (λ (i : ℕ). Grows t.number i (shard_at h i) (change_of (changes ++ c ∷ []) i) (h.disk.files i t.number) (v.files i t.number)) (sym here)
      (subst (λ (x : Option Change). Grows t.number k (shard_at h k) x (h.disk.files k t.number) (v.files k t.number)) (sym (change_last changes c k (sym at)))
      (subst (λ (fs : List (File Held)). Grows t.number k (shard_at h k) c fs (v.files k t.number)) untouched one.files))
  grows n (inr other) =
      subst (λ (x : Option Change). Grows t.number n (shard_at h n) x (h.disk.files n t.number) (v.files n t.number))
      (sym (change_before changes c n (λ same. other (same ∙ at))))
      (subst (λ (fs : List (File Held)). Grows t.number n (shard_at h n) (change_of changes n) (h.disk.files n t.number) fs) (sym (apart n t.number other)) (first.files n))

  stand : (n : ℕ) → n < length (changes ++ c ∷ []) → (n ≡ k) ⊎ (n ≢ k)
      → AreInFiles (clustering_order t.columns) (v.files n t.number) (mutations_of t.number (all_entries (shard_at h n)))
  stand n lt (inl here) =
      subst (λ (i : ℕ). AreInFiles (clustering_order t.columns) (v.files i t.number) (mutations_of t.number (all_entries (shard_at h i)))) (sym here) one.all
  stand n lt (inr other) =
      subst (λ (fs : List (File Held)). AreInFiles (clustering_order t.columns) fs (mutations_of t.number (all_entries (shard_at h n)))) (sym (apart n t.number other))
      (first.all n (below n lt other))
    where
      below : (n : ℕ) → n < length (changes ++ c ∷ []) → n ≢ k → n < length changes
      below n lt other = omega (arith, lt, length-append changes (c ∷ []), other, at)

  says : (n : ℕ) (x : Change) → change_of (changes ++ c ∷ []) n ≡ Some x → (n ≡ k) ⊎ (n ≢ k) → SaySomething (h.unflushed n t.number)
  says n x is (inl here) =
      let its : c ≡ Some x = sym (change_last changes c n (here ∙ sym at)) ∙ is in
      subst (λ (i : ℕ). SaySomething (h.unflushed i t.number)) (sym here) (subst (λ (o : Option Change). IfSome o (λ y. SaySomething (h.unflushed k t.number))) its said)
  says n x is (inr other) = first.some n x (sym (change_before changes c n (λ same. other (same ∙ at))) ∙ is)

  says_none : (n : ℕ) → n < length (changes ++ c ∷ []) → change_of (changes ++ c ∷ []) n ≡ None → (n ≡ k) ⊎ (n ≢ k) → SaySomething (h.unflushed n t.number) → ⊥
  says_none n lt is (inl here) =
      subst (λ (i : ℕ). SaySomething (h.unflushed i t.number) → ⊥) (sym here) (unsaid (sym (change_last changes c n (here ∙ sym at)) ∙ is))
  says_none n lt is (inr other) =
      first.none n (omega (arith, lt, length-append changes (c ∷ []), other, at)) (sym (change_before changes c n (λ same. other (same ∙ at))) ∙ is)

  pub flushed_more : Flushed h t (changes ++ c ∷ []) v
  flushed_more = record {
    files = λ n. grows n (same_place n k);
    others = λ n j other. one.others n j (λ both. other both.1) ∙ first.others n j other;
    all = λ n lt. stand n lt (same_place n k);
    some = λ n x is. says n x is (same_place n k);
    none = λ n lt is. says_none n lt is (same_place n k);
    numbers =
        subst (λ ns. AscendTo h.disk.last_file ns v.last_file) (flat_map_more numbers_in [] changes c)
        (ascend_more h.disk.last_file (numbers_added changes) u.last_file (numbers_in c) v.last_file first.numbers number);
    reach = one.reach ∙ ap (λ (r : Reach). reach_by r c) first.reach ∙ sym (fold_push reach_by h.disk.reach changes c);
    faults = omega (arith, first.faults, faults);
    reads = omega (arith, first.reads, reads);
    live =
        let more : length (numbers_added changes ++ numbers_in c) ≡ length (numbers_added (changes ++ c ∷ [])) = ap length (flat_map_more numbers_in [] changes c) in
        let both : length (numbers_added changes ++ numbers_in c) ≡ length (numbers_added changes) + length (numbers_in c) = length-append (numbers_added changes) (numbers_in c) in
        omega (arith, one.live, first.live, more, both);
    last_file = (omega (arith, first.last_file.0, last), omega (arith, next, length-append changes (c ∷ [])));
  }

if_some : (c : Option Change) (u : State) (k table : ℕ) → IfSome c (λ x. (h : History) → StandsFor h u → SaySomething (h.unflushed k table)) → (h : History)
    → StandsFor h u → IfSome c (λ x. SaySomething (h.unflushed k table))
if_some None u k table says h stands = tt
if_some (Some c) u k table says h stands = says h stands

-- what the next shard has in no file before its turn is what it had at the beginning
as_before : (h : History) (table k : ℕ) (changes : List (Option Change)) → length changes ≡ k → without_flushed table changes h.unflushed k table ≡ h.unflushed k table
as_before h table k changes at =
    ap (λ (o : Option Change). if (table == table) && is_some o then [] else h.unflushed k table) (change_past changes k (omega (arith, at)))
    ∙ ap (λ (b : Bool). if b then [] else h.unflushed k table) (and-false (table == table))

none_before : (h : History) (table k : ℕ) (changes : List (Option Change)) (o : Option ℕ) (c : Option Change) → length changes ≡ k
    → SaysNone (Ok o) c (without_flushed table changes h.unflushed k table) → c ≡ None → SaySomething (h.unflushed k table) → ⊥
none_before h table k changes o None at says is = subst (λ (ws : List Mutation). SaySomething ws → ⊥) (as_before h table k changes at) says
none_before h table k changes o (Some c) at says is = absurd cc

said_before : (h : History) (table k : ℕ) (changes : List (Option Change)) (c : Option Change) → length changes ≡ k
    → IfSome c (λ x. SaySomething (without_flushed table changes h.unflushed k table)) → IfSome c (λ x. SaySomething (h.unflushed k table))
said_before h table k changes None at says = tt
said_before h table k changes (Some c) at says = subst SaySomething (as_before h table k changes at) says

pub first_more : (t : TableSchema) (k : ℕ) (told : List ℕ) (o : Option ℕ) (s u v : State) (d e f : Disk) → FlushesFirst t k told s u d e → FlushesOne t k (Ok o) u v e f
    → FlushesFirst t (k + 1) (told ++ listed_of o) s v d f
first_more t k told o s u v d e f first one = record {
  beside = beside_then s u v d e f first.beside one.beside;
  numbers = omega (arith, first.numbers, one.numbers);
  changes = first.changes ++ one.change ∷ [];
  many = length-append first.changes (one.change ∷ []) ∙ ap (λ (n : ℕ). n + 1) first.many;
  added = (λ i. first.added i ++ sym one.answer i) ∙ flat_map_more numbers_in [] first.changes one.change;
  drawn = omega (arith, first.drawn, one.drawn, length-append told (listed_of o));
  lasts = λ h found was tables lasts.
      let (now, amid) = first.lasts h found was tables lasts in
      let so_far : List Change = fold changes_by h.changes first.changes in
      let left : ℕ → ℕ → List Mutation = without_flushed t.number first.changes h.unflushed in
      let amidst : History = record h { unflushed = left; changes = so_far; trimmed = false } in
      let (later, more) =
      one.lasts amidst found now.0 (tables ∙ sym first.beside.tables) (lasts_as (record h { changes = so_far; trimmed = false }) amidst found u e now.0 refl refl (λ on. on) now.1) in (
        (
          later.0,
          lasts_as (record amidst { changes = changes_by so_far one.change; trimmed = false })
              (record h { changes = fold changes_by h.changes (first.changes ++ one.change ∷ []); trimmed = false }) found v f later.0 refl
              (fold_push changes_by h.changes first.changes one.change) (λ on. on) later.1,
          both_explain h left so_far found s u v d e f was now.0 later.0 (λ tells. first.beside.tells tells.0 tells.1) (λ tells stood. (first.moves tells.0 tells.1 (with_state h s) stood).0) now.2 later.2,
        ),
        amid_then h found s u d e f first.beside.list amid (amid_with h left so_far found u.list e f more),
      );
  fills = λ before full.
      begun_more t.number k before v.shards
      (subst (λ (b : Bool). AreFilled (filled_with t.number k b (without_begun t.number k before)) v.shards) one.begins
      (one.fills (without_begun t.number k before) (first.fills before full)));
  moves = λ c reads h stands.
      let (now, so) = first.moves c reads h stands in
      let (b, read) = first.beside.tells c reads in
      let left : ℕ → ℕ → List Mutation = without_flushed t.number first.changes h.unflushed in
      let (later, ends) = one.moves b read tt (record h { unflushed = left; filled = filled_of u; disk = disk_of u }) now in
      let began : h.disk.last_file ≡ s.last_file = ap (λ (q : DiskState). q.last_file) stands.disk in (
        subst (λ (ws : ℕ → ℕ → List Mutation). StandsFor (record h { unflushed = ws; filled = filled_of v; disk = disk_of v }) v)
            (rest_more t.number first.changes one.change k h.unflushed first.many) later,
        flushed_more h t first.changes one.change k (disk_of u) (disk_of v) first.many so ends.0 one.numbered
            (said_before h t.number k first.changes one.change first.many
            (if_some one.change u k t.number one.some (record h { unflushed = left; filled = filled_of u; disk = disk_of u }) now))
            (none_before h t.number k first.changes o one.change first.many ends.1) one.beside.faults one.beside.reads one.beside.last (omega (arith, began, first.numbers, first.many, one.numbers)),
      );
}

none_not_some : (c : Change) → None ≡ Some c → ⊥
none_not_some c e = cc

pub first_none : (t : TableSchema) (s : State) (d : Disk) → FlushesFirst t 0 [] s s d d
first_none t s d = record {
  beside = quiet_beside s s d d (quiet_still s d) (no_call (SameUpTo s.last_file) d);
  numbers = omega arith;
  changes = [];
  many = refl;
  added = refl;
  drawn = omega arith;
  lasts = λ h found was tables lasts. quiet_goes s s d d (quiet_still s d) (TellsReads d) h found was tables lasts (λ openings explained. explained);
  fills = λ before full. begun_none t.number before s.shards full;
  moves = λ c reads h stands. (
    subst (λ (ws : ℕ → ℕ → List Mutation). StandsFor (record h { unflushed = ws; filled = filled_of s; disk = disk_of s }) s) (none_flushed t.number h.unflushed)
        (quiet_stands s s d d (quiet_still s d) h stands),
    record {
      files = λ n. ap (λ (e : DiskState). e.files n t.number) (sym stands.disk);
      others = λ n k other. ap (λ (e : DiskState). e.files n k) (sym stands.disk);
      all = λ n lt. absurd (omega (arith, lt));
      some = λ n c is. absurd (none_not_some c is);
      none = λ n lt is. absurd (omega (arith, lt));
      numbers = omega (arith, ap (λ (e : DiskState). e.last_file) stands.disk);
      reach = ap (λ (e : DiskState). e.reach) (sym stands.disk);
      faults = omega (arith, ap (λ (e : DiskState). e.faults) stands.disk);
      reads = omega (arith, ap (λ (e : DiskState). e.reads) stands.disk);
      live = omega (arith, ap (λ (e : DiskState). e.live) stands.disk);
      last_file = (omega (arith, ap (λ (e : DiskState). e.last_file) stands.disk), omega (arith, ap (λ (e : DiskState). e.last_file) stands.disk));
    },
  );
}

-- the same in other words
pub first_none_as : (t : TableSchema) (told : List ℕ) (s : State) (d : Disk) → told ≡ [] → FlushesFirst t 0 told s s d d
first_none_as t told s d none = subst (λ (ns : List ℕ). FlushesFirst t 0 ns s s d d) (sym none) (first_none t s d)

pub first_more_as : (t : TableSchema) (k : ℕ) (told now : List ℕ) (o : Option ℕ) (s u v : State) (d e f : Disk) → now ≡ told ++ listed_of o → FlushesFirst t k told s u d e
    → FlushesOne t k (Ok o) u v e f → FlushesFirst t (k + 1) now s v d f
first_more_as t k told now o s u v d e f is first one =
    subst (λ (ns : List ℕ). FlushesFirst t (k + 1) ns s v d f) (sym is) (first_more t k told o s u v d e f first one)

pub all_first : (t : TableSchema) (k many : ℕ) (told : List ℕ) (s u : State) (d e : Disk) → k ≡ many → FlushesFirst t k told s u d e → FlushesFirst t many told s u d e
all_first t k many told s u d e is first = subst (λ (n : ℕ). FlushesFirst t n told s u d e) is first

-- ---- the table that is named

found_at : (test : TableSchema → Bool) (n : ℕ) (ts : List TableSchema) (t : TableSchema) → AreInPlace n ts → find test ts ≡ Some t
    → (i : ℕ) × (t.number ≡ n + i) × (slice_get ts i ≡ Some t)
found_at test n [] t numbered e = cc
found_at test n (u ∷ us) t numbered e =
    elim (test u) as (λ b. cond b (Some u) (find test us) ≡ Some t → (i : ℕ) × (t.number ≡ n + i) × (slice_get (u ∷ us) i ≡ Some t)) [
      | true ↦ λ f.
          let same : u ≡ t = cc in
          let its : u.number ≡ n = numbered.0 in
          let number : t.number ≡ n = ap (λ v. v.number) (sym same) ∙ its in
          (0, omega (arith, number), ap (λ v. Some v) same)
      | false ↦ λ f.
          let later = found_at test (n + 1) us t numbered.1 f in
          let number : t.number ≡ n + 1 + later.0 = later.1 in
          (suc later.0, omega (arith, number), later.2)
    ] e

named_found : (tables : List TableSchema) (n : TableName) (t : TableSchema) → table_named tables n ≡ Some t → find (λ u. bytes_eq u.name n.name) tables ≡ Some t
unfolding table_named
named_found tables n t e = of (is_local n.keyspace) e
  where
    of : (b : Bool) → cond b (find (λ u. bytes_eq u.name n.name) tables) None ≡ Some t → find (λ u. bytes_eq u.name n.name) tables ≡ Some t
    of true f = f
    of false f = cc

-- it stands at its number
pub named_there : (tables : List TableSchema) (n : TableName) (t : TableSchema) → AreInPlace 0 tables → table_named tables n ≡ Some t → slice_get tables t.number ≡ Some t
named_there tables n t places e =
    let place = found_at (λ u. bytes_eq u.name n.name) 0 tables t places (named_found tables n t e) in
    let number : place.0 ≡ t.number = (let its : t.number ≡ 0 + place.0 = place.1 in omega (arith, its)) in
    subst (λ i. slice_get tables i ≡ Some t) number place.2

-- ---- no shard more

why_since : (t : TableSchema) (n : ℕ) (q : ShardHistory) (ws : List Mutation) (d m e : DiskState) (f : Fault) → d.faults ≤ m.faults → d.reads ≤ m.reads
    → WhyNoFurther t n q ws m e f → WhyNoFurther t n q ws d e f
why_since t n q ws d m e (Refused why) faults reads is = is
why_since t n q ws d m e (Stopped first) faults reads is = is
why_since t n q ws d m e (Failed None) faults reads (inl rose) = inl (omega (arith, faults, rose))
why_since t n q ws d m e (Failed None) faults reads (inr rose) = inr (rose.0, omega (arith, reads, rose.1))
why_since t n q ws d m e (Failed (Some number)) faults reads is = is
why_since t n q ws d m e Read faults reads rose = (rose.0, omega (arith, reads, rose.1))
why_since t n q ws d m e (BadBlock number at) faults reads is = is
why_since t n q ws d m e Mem faults reads is = is

further : (n : ℕ) (ks : List ℕ) (last now : ℕ) → last ≤ now → AscendTo n ks last → AscendTo n ks now
further n [] last now le up = omega (arith, up, le)
further n (k ∷ ks) last now le up = (up.0, further k ks last now le up.1)

-- nothing of it is another
still_flushed : (h : History) (t : TableSchema) (changes : List (Option Change)) (u v : DiskState) → Flushed h t changes u → ((k j : ℕ) → v.files k j ≡ u.files k j)
    → v.reach ≡ u.reach → u.faults ≤ v.faults → u.reads ≤ v.reads → v.live ≡ u.live → u.last_file ≤ v.last_file → v.last_file ≤ h.disk.last_file + length changes + 1
    → Flushed h t changes v
still_flushed h t changes u v first files reach faults reads live last next = record {
  files = λ n.
      subst (λ (fs : List (File Held)). Grows t.number n (shard_at h n) (change_of changes n) (h.disk.files n t.number) fs) (sym (files n t.number)) (first.files n);
  others = λ n k other. files n k ∙ first.others n k other;
  all = λ n lt.
      subst (λ (fs : List (File Held)). AreInFiles (clustering_order t.columns) fs (mutations_of t.number (all_entries (shard_at h n)))) (sym (files n t.number)) (first.all n lt);
  some = first.some;
  none = first.none;
  numbers = further h.disk.last_file (numbers_added changes) u.last_file v.last_file last first.numbers;
  reach = reach ∙ first.reach;
  faults = omega (arith, first.faults, faults);
  reads = omega (arith, first.reads, reads);
  live = live ∙ first.live;
  last_file = (omega (arith, first.last_file.0, last), next);
}

-- the history goes on so
abbrev went_on : History → ℕ → List (Option Change) → State → History
went_on h table changes u = record h { unflushed = without_flushed table changes h.unflushed; changes = fold changes_by h.changes changes; trimmed = false; filled = filled_of u; disk = disk_of u }

-- so far the disk keeps what some history says for which the store stands
first_lasts_for_one : (t : TableSchema) (k : ℕ) (told : List ℕ) (s u : State) (d e : Disk) → FlushesFirst t k told s u d e → (c : Image) → d.reads c → LastsForOne s d
    → LastsForOne u e
first_lasts_for_one t k told s u d e first c reads (h, found, was, stands, lasts) =
    let (now, so) = first.moves c reads h stands in
    let (later, amid) = first.lasts h found was stands.tables lasts in
    let so_far : List Change = fold changes_by h.changes first.changes in (
      went_on h t.number first.changes u,
      found,
      later.0,
      stands_with (record h { unflushed = without_flushed t.number first.changes h.unflushed; filled = filled_of u; disk = disk_of u }) so_far u now,
      lasts_as (record h { changes = so_far; trimmed = false }) (went_on h t.number first.changes u) found u e later.0 refl refl (λ on. on) later.1,
    )

-- how many shards got a new memtable
abbrev pub begun_to : Bool → ℕ → ℕ
begun_to true k = k + 1
begun_to false k = k

begun_next : (b : Bool) (k n : ℕ) → b ≡ true → n ≡ k → begun_to b k ≡ n + 1
begun_next b k n begun is = ap (λ x. begun_to x k) begun ∙ ap (λ (j : ℕ). j + 1) (sym is)

begun_so : (f : Fault) (b : Bool) (k n : ℕ) → IsBegun (Err f) b → n ≡ k → AreBegun f n (begun_to b k)
begun_so (Refused why) b k n begun is = begun_next b k n begun is
begun_so (Stopped first) b k n begun is = begun_next b k n begun is
begun_so (Failed number) b k n begun is = begun_next b k n begun is
begun_so Read b k n begun is = begun_next b k n begun is
begun_so (BadBlock number at) b k n begun is = begun_next b k n begun is
begun_so Mem true k n begun is = inr (ap (λ (j : ℕ). j + 1) (sym is))
begun_so Mem false k n begun is = inl (sym is)

filled_to : (table k : ℕ) (b : Bool) (f : ℕ → ℕ → ℕ) (xs : List ShardState) → AreFilled (filled_with table k b (without_begun table k f)) xs
    → AreFilled (without_begun table (begun_to b k) f) xs
filled_to table k true f xs full = begun_more table k f xs full
filled_to table k false f xs full = full

pub no_further : (t : TableSchema) (k : ℕ) (told : List ℕ) (x : Fault) (s u v : State) (d e f : Disk) → FlushesFirst t k told s u d e → FlushesOne t k (Err x) u v e f
    → k < length s.shards → FlushesNoFurther t x s v d f
no_further t k told x s u v d e f first one few = record {
  beside = beside_then s u v d e f first.beside one.beside;
  changes = first.changes;
  few = omega (arith, first.many, few);
  lasts = λ h found was tables lasts.
      let (now, amid) = first.lasts h found was tables lasts in
      let so_far : List Change = fold changes_by h.changes first.changes in
      let left : ℕ → ℕ → List Mutation = without_flushed t.number first.changes h.unflushed in
      let amidst : History = record h { unflushed = left; changes = so_far; trimmed = false } in
      let (later, more) =
      one.lasts amidst found now.0 (tables ∙ sym first.beside.tables) (lasts_as (record h { changes = so_far; trimmed = false }) amidst found u e now.0 refl refl (λ on. on) now.1) in (
        (
          later.0,
          lasts_as (record amidst { changes = changes_by so_far one.change; trimmed = false }) (record h { changes = so_far; trimmed = false }) found v f later.0 refl
              (ap (λ (c : Option Change). changes_by so_far c) (sym one.answer)) (λ on. on) later.1,
          both_explain h left so_far found s u v d e f was now.0 later.0 (λ tells. first.beside.tells tells.0 tells.1) (λ tells stood. (first.moves tells.0 tells.1 (with_state h s) stood).0) now.2 later.2,
        ),
        amid_then h found s u d e f first.beside.list amid (amid_with h left so_far found u.list e f more),
      );
  begun = begun_to one.begun k;
  begins = begun_so x one.begun k (length first.changes) one.begins first.many;
  fills = λ before full. filled_to t.number k one.begun before v.shards (one.fills (without_begun t.number k before) (first.fills before full));
  moves = λ c reads kept_so h stands.
      let (now, so) = first.moves c reads h stands in
      let (b, read) = first.beside.tells c reads in
      let left : ℕ → ℕ → List Mutation = without_flushed t.number first.changes h.unflushed in
      let (later, none) = one.moves b read (first_lasts_for_one t k told s u d e first c reads kept_so) (record h { unflushed = left; filled = filled_of u; disk = disk_of u }) now in
      let began : h.disk.last_file ≡ s.last_file = ap (λ (q : DiskState). q.last_file) stands.disk in (
        subst (λ (c : Option Change). StandsFor (record h { unflushed = rest_with t.number k c left; filled = filled_of v; disk = disk_of v }) v) one.answer later,
        (
          still_flushed h t first.changes (disk_of u) (disk_of v) so none.0.files none.0.reach one.beside.faults one.beside.reads none.0.live one.beside.last
              (omega (arith, began, first.numbers, first.many, one.numbers)),
          subst (λ (j : ℕ). WhyNoFurther t j (shard_at h j) (h.unflushed j t.number) (disk_of s) (disk_of v) x) (sym first.many)
              (subst (λ (ws : List Mutation). WhyNoFurther t k (shard_at h k) ws (disk_of s) (disk_of v) x) (as_before h t.number k first.changes first.many)
              (why_since t k (shard_at h k) (left k t.number) (disk_of s) (disk_of u) (disk_of v) x first.beside.faults first.beside.reads none.0.why)),
        ),
      );
  own = one.own;
}

-- memory ran out between two shards
pub none_of_memory : (t : TableSchema) (k : ℕ) (told : List ℕ) (s u : State) (d e : Disk) → FlushesFirst t k told s u d e → k < length s.shards → u.journal.first ≡ None
    → FlushesNoFurther t Mem s u d e
none_of_memory t k told s u d e first few going = record {
  beside = first.beside;
  changes = first.changes;
  few = omega (arith, first.many, few);
  lasts = first.lasts;
  begun = k;
  begins = inl (sym first.many);
  fills = first.fills;
  moves = λ c reads kept_so h stands.
      let (now, so) = first.moves c reads h stands in
      (now, (so, ap is_some going));
  own = tt;
}

-- ---- the call

-- memory stands for the history as its disk stands
as_it_stands : (h : History) (s : State) → StandsFor h s → AreStood h s
as_it_stands h s stands = record {
  limits = stands.limits;
  tables = stands.tables;
  clock = stands.clock;
  session = stands.session;
  calls = stands.calls;
  disk = refl;
  count = stands.count;
  shards = stands.shards;
  entered = stands.entered;
  memory = stands.memory;
  filled = filled_are s;
}

pub went_to : (h : History) (left : ℕ → ℕ → List Mutation) (full : ℕ → ℕ → ℕ) (changes : List Change) (s u : State) (d e : Disk) → TellsReads d → StandsFor h s
    → StandsFor (record h { unflushed = left; filled = filled_of u; disk = disk_of u }) u → AreFilled full u.shards
    → ((found : List Mutation) (told : Told) → LastsFor h found s d told → GoesOn (TellsReads d) h changes found told s u d e)
    → GoesOnTo h (record h { unflushed = left; filled = full; changes = changes; trimmed = false; disk = disk_of u }) s u d e
went_to h left full changes s u d e tells before stands filled lasts = record {
  stands = stands_filled (record h { unflushed = left; changes = changes; trimmed = false; filled = filled_of u; disk = disk_of u }) full u filled
      (stands_with (record h { unflushed = left; filled = filled_of u; disk = disk_of u }) changes u stands);
  lasts = λ found told was.
      let (later, amid) = lasts found told was in
      let after : History = record h { unflushed = left; filled = full; changes = changes; trimmed = false; disk = disk_of u } in (
        later.0,
        lasts_as (record h { changes = changes; trimmed = false }) after found u e later.0 refl refl (λ on. on) later.1,
        λ openings explained.
            explains_still openings h after found u u e e later.0 (λ n. goes_nowhere (shard_at h n)) refl refl (keep_files_none later.0 e) (λ ms have. have)
            (later.2 tells (as_it_stands h s before) openings explained),
      );
}

named : (h : History) (tables : List TableSchema) (name : TableName) (o : Option TableSchema) (r : Result (List ℕ) Fault) (after : History) → h.tables ≡ tables
    → table_named tables name ≡ o → FlushesNamed h o r after → Flushes h name r after
named h tables name o r after same is flushes =
    subst (λ (x : Option TableSchema). FlushesNamed h x r after) (sym (ap (λ (ts : List TableSchema). table_named ts name) same ∙ is)) flushes

-- the history after a flush of the table by which so many shards got new memtables
abbrev pub flushed_to : History → ℕ → List (Option Change) → ℕ → State → History
flushed_to h table changes begun u = record h {
  unflushed = without_flushed table changes h.unflushed;
  filled = without_begun table begun h.filled;
  changes = fold changes_by h.changes changes;
  trimmed = false;
  disk = disk_of u;
}

pub flushes_all : (name : TableName) (t : TableSchema) (told : List ℕ) (s u : State) (d e : Disk) → table_named s.tables name ≡ Some t → s.journal.first ≡ None → u.journal.first ≡ None
    → FlushesFirst t (length s.shards) told s u d e → (c : Image) → d.reads c → Moves (λ h after. Flushes h name (Ok told) after) s u d e
flushes_all name t told s u d e is going on first c reads h stands =
    let (now, so) = first.moves c reads h stands in
    let after : History = flushed_to h t.number first.changes (length s.shards) u in (
      after,
      named h s.tables name (Some t) (Ok told) after stands.tables is (
        first.changes,
        length s.shards,
        disk_of u,
        ap (λ (x : DiskState). x.stopped) stands.disk ∙ ap is_some going,
        so,
        (first.many ∙ sym stands.count, first.added, ap is_some on, sym first.many, omega (arith, first.drawn, ap (λ (x : DiskState). x.last_file) stands.disk)),
        refl,
      ),
      went_to h (without_flushed t.number first.changes h.unflushed) (without_begun t.number (length s.shards) h.filled) (fold changes_by h.changes first.changes) s u d e (c, reads) stands now
          (first.fills h.filled stands.filled) (λ found was lasts. first.lasts h found was stands.tables lasts),
    )

-- a fault that isn't of an earlier one
fails_by : (h : History) (t : TableSchema) (f : Fault) (changes : List (Option Change)) (begun : ℕ) (u : State) → h.disk.stopped ≡ false → Flushed h t changes (disk_of u)
    → length changes < length h.shards
    → WhyNoFurther t (length changes) (shard_at h (length changes)) (h.unflushed (length changes) t.number) h.disk (disk_of u) f
    → AreBegun f (length changes) begun → FlushesTable h t (Err f) (flushed_to h t.number changes begun u)
fails_by h t (Refused why) changes begun u going flushed few is so = (changes, begun, disk_of u, going, flushed, (few, is, so), refl)
fails_by h t (Stopped first) changes begun u going flushed few is so = absurd is
fails_by h t (Failed number) changes begun u going flushed few is so = (changes, begun, disk_of u, going, flushed, (few, is, so), refl)
fails_by h t Read changes begun u going flushed few is so = (changes, begun, disk_of u, going, flushed, (few, is, so), refl)
fails_by h t (BadBlock number at) changes begun u going flushed few is so = absurd is
fails_by h t Mem changes begun u going flushed few is so = (changes, begun, disk_of u, going, flushed, (few, is, so), refl)

pub flushes_some : (name : TableName) (t : TableSchema) (f : Fault) (s u : State) (d e : Disk) → table_named s.tables name ≡ Some t → s.journal.first ≡ None
    → FlushesNoFurther t f s u d e → (c : Image) → d.reads c → LastsForOne s d → Moves (λ h after. Flushes h name (Err f) after) s u d e
flushes_some name t f s u d e is going none c reads one h stands =
    let (now, so) = none.moves c reads one h stands in
    let n : ℕ = length none.changes in
    let after : History = flushed_to h t.number none.changes none.begun u in (
      after,
      named h s.tables name (Some t) (Err f) after stands.tables is
          (fails_by h t f none.changes none.begun u (ap (λ (x : DiskState). x.stopped) stands.disk ∙ ap is_some going) so.0 (omega (arith, none.few, stands.count))
          (subst (λ (x : DiskState). WhyNoFurther t n (shard_at h n) (h.unflushed n t.number) x (disk_of u) f) (sym stands.disk) so.1) none.begins),
      went_to h (without_flushed t.number none.changes h.unflushed) (without_begun t.number none.begun h.filled) (fold changes_by h.changes none.changes) s u d e (c, reads) stands now
          (none.fills h.filled stands.filled) (λ found was lasts. none.lasts h found was stands.tables lasts),
    )

pub keeps_all : (s u : State) (d e : Disk) (changes : List (Option Change)) → u.list ≡ s.list
    → ((h : History) (found : List Mutation) (told : Told) → h.tables ≡ s.tables → LastsFor h found s d told
    → GoesOn (TellsReads d) h (fold changes_by h.changes changes) found told s u d e)
    → KeepsAll s u d e
keeps_all s u d e changes list lasts h found told stands was =
    subst (λ l. Leaves (IsLeftAmid found l h) d e) (sym list) (lasts h found told stands.tables was).1

-- what a fault tells beside that
pub true_of_flush : (f : Fault) (s u : State) → IsOwn f → u.list ≡ s.list → IsTrueOf (Err f) s u
true_of_flush (Refused why) s u own list = tt
true_of_flush (Stopped first) s u own list = absurd own
true_of_flush (Failed None) s u own list = list
true_of_flush (Failed (Some number)) s u own list = absurd own
true_of_flush Read s u own list = tt
true_of_flush (BadBlock number at) s u own list = tt
true_of_flush Mem s u own list = tt
