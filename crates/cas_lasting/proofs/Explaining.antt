-- What a crash may leave explains the history still, after a step.
use Rattle.std.proofs.Common.{◌≡◌, ◌≢◌, ◌⊎◌, inl, inr, ⊎_elim, ◌∙◌, ◌≤◌, ◌<◌, ◌+◌, ◌*◌, ◌==◌, ℕ, suc, Bool, true, false, Some, List, [], ◌∷◌, ◌++◌, length, filter, refl, sym, ap, subst, append-nil, append_assoc, length-append, take, arith}
use Rattle.std.specs.Prelude.{if◌then◌else◌, ◌≤ℤ◌, ℤ, Option, None, drop, is_none, map, max, nat_lt, replicate, slice_get, slice_set, unwrap_or}
use Rattle.std.specs.Int.{int_max}
use Rattle.std.specs.List.{AllByRecursion, fold}
use Rattle.std.proofs.lemmas.Int.{clamps, ints}
use Rattle.std.proofs.lemmas.List.{length-drop, take_all, take-append-drop, take-append-le}
use Rattle.std.proofs.lemmas.List.Elements.{filter-append}
use Rattle.std.proofs.lemmas.List.Sums.{fold-append}
use Rattle.cas_types.specs.declared.schema.TableSchema.{TableSchema}
use Rattle.cas_atoms.specs.declared.atom.Mutation.{Mutation}
use Rattle.cas_info.specs.declared.info.TableInfo.{TableInfo}
use Rattle.cas_disk.specs.Disk.{Disk, During, Image, Same}
use Rattle.cas_disk.specs.declared.name.Name.TheVariants.{Table as table_name}
use Rattle.cas_disk.proofs.Moments.{left_after}
use Rattle.cas_mutations.specs.Allowed.{FitsRecord}
use Rattle.cas_changes.specs.Allowed.{FitsEntry}
use Rattle.cas_changes.specs.Saying.{Saying, after, no_part, no_times, nothing, part_after, part_of, said_by, times_after, with_columns}
use Rattle.cas_changes.specs.declared.entry.Entry.{Entry}
use Rattle.cas_changes.specs.declared.entry.Entry.TheVariants as entry
use Rattle.cas_changes.specs.declared.said.ShardTimes.{ShardTimes}
use Rattle.cas_manifest.proofs.Appends.{said_more}
use Rattle.cas_opening.specs.Opening.{IsListedTable, is_above}
use Rattle.cas_journal.specs.Stores.{FailedToName, MayList, SameTables, Told, named, took}
use Rattle.cas_effects.specs.AtomsOf.{mutation_of}
use Rattle.cas_effects.specs.declared.effect.BoundWrite.{BoundWrite}
use Rattle.cas_shard.specs.Entries.{last_drawn, last_number}
use Rattle.cas_shard.specs.Shards.{ShardHistory, drawn_at, drawn_of, drawn_with, empty_shard, found_shard, moment_at, mutation_at, number_of, restored}
use Rattle.cas_shard.specs.declared.entry.Entry.TheVariants.{Wrote}
use Rattle.cas_shard.proofs.Numbers.{last_drawn_more, last_number_more}
use Rattle.cas_shard.specs.declared.entry.ShardOpening.{ShardOpening}
use Rattle.cas_recovery.specs.Openings.{IsOpening, unflushed_of}
use Rattle.cas_recovery.specs.Restored.{RememberAll}
use Rattle.cas_recovery.proofs.Places.{get_within, index_here, index_other, is_other, is_same, same_place}
use Rattle.cas_recovery.proofs.Standing.{AreAlike, all_listed, own_file}
use Rattle.cas_recovery.proofs.Within.{all_filtered, named_alone}
use Rattle.cas_room.specs.Rooms.{accepted_in}
use Rattle.cas_lasting.specs.Explained.{IsNotAhead, OpensIn, as_told, only, with_more}
use Rattle.cas_lasting.specs.History.{History, after_entries, shard_at, with_shard}
use Rattle.cas_lasting.specs.Listing.{ListsNone, SameUpTo}
use Rattle.cas_lasting.specs.Nodes.{Explains, State, all_in}
use Rattle.cas_lasting.proofs.Changed.{as_told_more, with_more_both}
use Rattle.cas_lasting.proofs.Next.{Grows, grows_after, opening_wider, opening_with, opening_without, same_table, upto, wider_contents}
use Rattle.cas_lasting.proofs.Numbered.{listed_low}
use Rattle.cas_lasting.proofs.Dropped.{unflushed_behind}
use Rattle.cas_room.specs.Keeping.{IsFlushed}
use Rattle.cas_room.proofs.Flushed.{SaysAs as SaysAsOfRoom, as_dropped}
use Rattle.cas_room.specs.Dropping.{Drops, FailedToDrop}
use Rattle.cas_shard.specs.Stands.{ShardState}

first_of : {A : Type 0} (P : A → Type 0) (xs ys : List A) → AllByRecursion P (xs ++ ys) → AllByRecursion P xs
first_of P [] ys all = tt
first_of P (x ∷ xs) ys all = (all.0, first_of P xs ys all.1)

-- ---- another image with the same table files

alike_then : (b i c : Image) (infos : List TableInfo) → AreAlike b i infos → Same i c → AreAlike b c infos
alike_then b i c [] alike here = tt
alike_then b i c (x ∷ infos) alike here = (here (table_name x.number) ∙ alike.0, alike_then b i c infos alike.1 here)

-- the listed table files are in the second image what they are in the first
abbrev pub HasFilesOf : Saying → Image → Image → Type 0
HasFilesOf s b i = (number : ℕ) → IsListedTable s number → i (table_name number) ≡ b (table_name number)

pub opening_in : (s : Saying) (ms : List Mutation) (folder : Disk) (b i : Image) (n : ℕ) (o : ShardOpening) → n < s.shards → folder.may_leave b → HasFilesOf s b i
    → IsOpening s ms folder n o → IsOpening s ms (only i) n o
opening_in s ms folder b i n o low left same is = record {
  rise = is.rise;
  number = is.number;
  goes_on = is.goes_on;
  drawn = is.drawn;
  moment = is.moment;
  says = λ table t there.
      let infos = (part_of s table n).listed in
      let say = is.says table t there in
      let alike = all_listed s b i table n infos (get_within s.tables table t there) low same (own_file infos infos (λ k has. has)) in
      record {
        written = say.written;
        stand = λ c here. wider_contents t t n b c infos say.written (same_table t) (alike_then b i c infos alike here) (say.stand b left);
        says = say.says;
      };
  no_others = is.no_others;
}

-- what a crash may leave after a step, beside what it might leave before it, where the listed table files are the same
abbrev pub KeepFilesOf : Told → Disk → Disk → Type 0
KeepFilesOf t d e = (i : Image) → e.may_leave i → (b : Image) × d.may_leave b × ((entries : List Entry) → MayList t entries → HasFilesOf (said_by entries) b i)

pub keep_files_none : (t : Told) (d : Disk) → KeepFilesOf t d d
keep_files_none t d i left = (i, left, λ entries may number is. refl)

pub keep_files : (t : Told) (d e : Disk) → During SameTables d e → KeepFilesOf t d e
keep_files t d e call i left =
    ⊎_elim (λ was. (i, was, λ entries may number is. refl)) (λ made. (made.0, made.1, λ entries may number is. made.2 number)) (left_after SameTables d e call i left)

-- where only files above the last number are others
only_told : (t : Told) (entries : List Entry) → t.failed ≡ [] → MayList t entries → entries ≡ t.entries
only_told t entries none (inl same) = same
only_told t entries none (inr more) = more ∙ ap (λ l. t.entries ++ l) none ∙ append-nil t.entries

pub keep_files_below : (t : Told) (last : ℕ) (d e : Disk) → t.failed ≡ [] → AllByRecursion (λ k. k ≤ last) (said_by t.entries).numbers → During (SameUpTo last) d e → KeepFilesOf t d e
keep_files_below t last d e none low call i left =
    ⊎_elim (λ was. (i, was, λ entries may number is. refl)) (λ made. (made.0, made.1, λ entries may number is. of_told made.0 entries (only_told t entries none may) made.2 number is))
    (left_after (SameUpTo last) d e call i left)
  where
    of_told : (b : Image) (entries : List Entry) → entries ≡ t.entries → SameUpTo last b i → HasFilesOf (said_by entries) b i
    of_told b entries same up number is =
        up number (listed_low t.entries last low number (subst (λ es. IsListedTable (said_by es) number) same is))

-- ---- the same is said of tables and their files

pub record SaysAs (s u : Saying) : Type 0 where
  pub shards : u.shards ≡ s.shards
  pub tables : u.tables ≡ s.tables
  pub parts : u.parts ≡ s.parts
  pub times : u.times ≡ s.times

as_then : (s u v : Saying) → SaysAs s u → SaysAs u v → SaysAs s v
as_then s u v one two =
    record { shards = two.shards ∙ one.shards; tables = two.tables ∙ one.tables; parts = two.parts ∙ one.parts; times = two.times ∙ one.times }

as_after : (s u : Saying) (e : Entry) → SaysAs s u → SaysAs (after s e) (after u e)
as_after s u (entry.Store shards) alike = record { shards = refl; tables = alike.tables; parts = alike.parts; times = refl }
as_after s u (entry.Schema t) alike = record {
  shards = alike.shards;
  tables = ap (λ (ts : List TableSchema). ts ++ t ∷ []) alike.tables;
  parts = λ i. alike.parts i ++ replicate (alike.shards i) no_part;
  times = alike.times;
}
as_after s u (entry.NewSegment n) alike = record { shards = alike.shards; tables = alike.tables; parts = alike.parts; times = alike.times }
as_after s u (entry.DropSegment n) alike = record { shards = alike.shards; tables = alike.tables; parts = alike.parts; times = alike.times }
as_after s u (entry.Change c) alike = record {
  shards = alike.shards;
  tables = alike.tables;
  parts = λ i. slice_set (alike.parts i) (c.table * alike.shards i + c.shard) (part_after (unwrap_or (slice_get (alike.parts i) (c.table * alike.shards i + c.shard)) no_part) c);
  times = λ i. slice_set (alike.times i) c.shard (times_after (unwrap_or (slice_get (alike.times i) c.shard) no_times) c);
}
as_after s u (entry.AddColumns table columns) alike =
    record { shards = alike.shards; tables = ap (λ (ts : List TableSchema). map (with_columns table columns) ts) alike.tables; parts = alike.parts; times = alike.times }

as_all : (s u : Saying) (entries : List Entry) → SaysAs s u → SaysAs (fold after s entries) (fold after u entries)
as_all s u [] alike = alike
as_all s u (e ∷ entries) alike = as_all (after s e) (after u e) entries (as_after s u e alike)

said_both : (xs ys : List Entry) → said_by (xs ++ ys) ≡ fold after (said_by xs) ys
unfolding said_by
said_both xs ys = fold-append after nothing xs ys

-- names of segments say nothing of them
as_named : (xs : List Entry) (numbers : List ℕ) → SaysAs (said_by xs) (said_by (xs ++ named numbers))
as_named xs numbers =
    let (segments, last, is) = named_alone xs numbers in
    record {
      shards = ap (λ (s : Saying). s.shards) is;
      tables = ap (λ (s : Saying). s.tables) is;
      parts = ap (λ (s : Saying). s.parts) is;
      times = ap (λ (s : Saying). s.times) is;
    }

as_between : (xs ys : List Entry) (numbers : List ℕ) → SaysAs (said_by (xs ++ ys)) (said_by ((xs ++ named numbers) ++ ys))
as_between xs ys numbers =
    subst (λ (s : Saying). SaysAs s (said_by ((xs ++ named numbers) ++ ys))) (sym (said_both xs ys))
    (subst (λ (u : Saying). SaysAs (fold after (said_by xs) ys) u) (sym (said_both (xs ++ named numbers) ys))
    (as_all (said_by xs) (said_by (xs ++ named numbers)) ys (as_named xs numbers)))

module _ (s u : Saying) (alike : SaysAs s u) (ms : List Mutation) (folder : Disk) (n : ℕ) (o : ShardOpening) where
  abbrev with_its_segments : Saying
  with_its_segments = record s { segments = u.segments; last_segment = u.last_segment; numbers = u.numbers; listed = u.listed }

  it_is : u ≡ with_its_segments
  it_is = λ i. record {
    shards = alike.shards i;
    tables = alike.tables i;
    segments = u.segments;
    last_segment = u.last_segment;
    numbers = u.numbers;
    listed = u.listed;
    parts = alike.parts i;
    times = alike.times i;
  }

  opening_alike : IsOpening s ms folder n (as_told s n o) → IsOpening u ms folder n (as_told u n o)
  opening_alike is =
      subst (λ (v : Saying). IsOpening v ms folder n (as_told v n o)) (sym it_is) (record {
        rise = is.rise;
        number = is.number;
        goes_on = is.goes_on;
        drawn = is.drawn;
        moment = is.moment;
        says = is.says;
        no_others = is.no_others;
      })

  pub unflushed_alike : unflushed_of u ms ≡ unflushed_of s ms
  unflushed_alike = ap (λ (v : Saying). unflushed_of v ms) it_is

-- ---- a step that neither enters anything nor tells anything

-- a shard's history is not behind what it wasn't behind
abbrev pub GoesFurther : ShardHistory → ShardHistory → Type 0
GoesFurther q r = (o : ShardOpening) → IsNotAhead q o → IsNotAhead r o

pub goes_nowhere : (q : ShardHistory) → GoesFurther q q
goes_nowhere q o is = is

-- all that was found and accepted is what it was
all_again : (found : List Mutation) (s t : State) (said : Saying) (tables : List TableSchema) (shards : List ShardState) → accepted_in t.list ≡ accepted_in s.list
    → RememberAll tables (unflushed_of said (all_in found s)) shards → RememberAll tables (unflushed_of said (all_in found t)) shards
all_again found s t said tables shards list have = subst (λ ms. RememberAll tables (unflushed_of said (found ++ ms)) shards) (sym list) have

pub explains_still : (openings : ℕ → ShardOpening) (h k : History) (found : List Mutation) (s t : State) (d e : Disk) (told : Told)
    → ((n : ℕ) → GoesFurther (shard_at h n) (shard_at k n)) → length k.shards ≡ length h.shards → accepted_in t.list ≡ accepted_in s.list → KeepFilesOf told d e
    → ((ms : List Mutation) → RememberAll s.tables ms s.shards → RememberAll t.tables ms t.shards) → Explains openings h found s d told → Explains openings k found t e told
explains_still openings h k found s t d e told further count list files memory was = record {
  behind = λ n low.
      subst (λ ms. IsNotAhead (shard_at k n) (with_more n ms (openings n))) (sym list)
      (further n (with_more n (accepted_in s.list) (openings n)) (was.behind n (subst (λ j. n < j) count low)));
  opens = λ i left entries may many least most n low.
      let (b, before, same) = files i left in
      let one = was.opens b before entries may many (omega (arith, least, ap length list)) (subst (λ ms. many ≤ length ms) list most) n low in
      subst (λ ms. OpensIn found (take many ms) entries i n (openings n)) (sym list)
      (opening_in (said_by entries) (found ++ take many (accepted_in s.list)) (only b) b i n
      (as_told (said_by entries) n (with_more n (take many (accepted_in s.list)) (openings n))) low (λ k. refl) (same entries may) one);
  memory = memory (unflushed_of (said_by told.entries) (all_in found t)) (all_again found s t (said_by told.entries) s.tables s.shards list was.memory);
}

-- one shard goes further, and the others stay
pub further_at : (h : History) (n : ℕ) (q : ShardHistory) → n < length h.shards → GoesFurther (shard_at h n) q → (k : ℕ) → GoesFurther (shard_at h k) (shard_at (with_shard h n q) k)
further_at h n q low further k = by (same_place k n)
  where
    by : (k ≡ n) ⊎ (k ≢ n) → GoesFurther (shard_at h k) (shard_at (with_shard h n q) k)
    by (inl here) =
        subst (λ j. GoesFurther (shard_at h j) (shard_at (with_shard h n q) j)) (sym here)
        (subst (λ (r : ShardHistory). GoesFurther (shard_at h n) r) (sym (index_here h.shards n q (found_shard empty_shard) low)) further)
    by (inr other) =
        subst (λ (r : ShardHistory). GoesFurther (shard_at h k) r) (sym (index_other h.shards n k q (found_shard empty_shard) other)) (goes_nowhere (shard_at h k))

-- a reading raises its moment
pub raised_further : (reading : ℤ) (q : ShardHistory) → GoesFurther q (after_entries reading [] q)
raised_further reading q o is = record {
  number = is.number ∙ ap (last_number q.found.number) (sym (append-nil q.entries));
  drawn = subst (λ (at : ℤ). o.drawn ≤ℤ at) (ap (last_drawn q.found.drawn) (sym (append-nil q.entries))) is.drawn;
  moment = omega (arith, ints, clamps, is.moment);
}

-- a write that draws its timestamp draws none that is less than the last
drawn_on : (reading : ℤ) (q : ShardHistory) (w : BoundWrite) → (mutation_at reading q w).drawn ≡ true → drawn_of q ≤ℤ (mutation_at reading q w).at
unfolding mutation_at mutation_of
drawn_on reading q w is = by w.timestamp is
  where
    by : (o : Option ℤ) → is_none o ≡ true → drawn_of q ≤ℤ unwrap_or o (drawn_at reading q)
    by None none = omega (arith, ints, clamps)
    by (Some at) none = absurd cc

its_moment : (reading : ℤ) (q : ShardHistory) (w : BoundWrite) → (mutation_at reading q w).moment ≡ moment_at reading q
unfolding mutation_at mutation_of
its_moment reading q w = refl

-- a mutation that is entered is ahead of nothing
pub entered_ahead : (reading : ℤ) (q : ShardHistory) (w : BoundWrite) (session call : ℕ) (m : Mutation) (o : ShardOpening) → m ≡ mutation_at reading q w → m.number ≡ number_of q + 1
    → IsNotAhead q o → IsNotAhead (after_entries reading (Wrote session call m ∷ []) q) (restored m o)
entered_ahead reading q w session call m o same next is = record {
  number = (let greatest : max o.number m.number ≡ m.number = omega (arith, next, is.number) in greatest ∙ sym (last_number_more q.found.number q.entries (Wrote session call m)));
  drawn = subst (λ (at : ℤ). drawn_with o.drawn m ≤ℤ at) (sym (last_drawn_more q.found.drawn q.entries (Wrote session call m))) (by m.drawn refl);
  moment = (let its : m.moment ≡ moment_at reading q = ap (λ (k : Mutation). k.moment) same ∙ its_moment reading q w in omega (arith, ints, clamps, its, is.moment));
}
  where
    by : (b : Bool) → m.drawn ≡ b → (if b then int_max o.drawn m.at else o.drawn) ≤ℤ (if b then m.at else drawn_of q)
    by true drew =
        let low : drawn_of q ≤ℤ m.at = subst (λ (k : Mutation). drawn_of q ≤ℤ k.at) (sym same) (drawn_on reading q w (ap (λ (k : Mutation). k.drawn) (sym same) ∙ drew)) in
        omega (arith, ints, clamps, low, is.drawn)
    by false none = is.drawn

-- ---- segments were named

pub explains_named : (openings : ℕ → ShardOpening) (h : History) (found : List Mutation) (s : State) (d : Disk) (told now : Told) (numbers : List ℕ) → now.entries ≡ told.entries ++ named numbers
    → FailedToName told.failed now.failed → now.taken ≡ told.taken → ((i : Image) → d.may_leave i → told.committed ≤ now.committed) → Explains openings h found s d told
    → Explains openings h found s d now
explains_named openings h found s d told now numbers entries_are failed taken committed was = record {
  behind = was.behind;
  opens = λ i left entries may many least most n low. by entries may i left many (omega (arith, least, committed i left, ap length taken)) most n low;
  memory =
      subst (λ ms. RememberAll s.tables ms s.shards)
      (sym (ap (λ es. unflushed_of (said_by es) (all_in found s)) entries_are
      ∙ unflushed_alike (said_by told.entries) (said_by (told.entries ++ named numbers)) (as_named told.entries numbers) (all_in found s) d 0 (openings 0))) was.memory;
}
  where
    -- by what the manifest had before
    of_base : (base es : List Entry) → MayList told base → SaysAs (said_by base) (said_by es) → (i : Image) → d.may_leave i → (many : ℕ) → told.committed + length (accepted_in s.list) ≤ length told.taken + many
        → many ≤ length (accepted_in s.list) → (n : ℕ) → n < (said_by es).shards → OpensIn found (take many (accepted_in s.list)) es i n (openings n)
    of_base base es may alike i left many least most n low =
        opening_alike (said_by base) (said_by es) alike (found ++ take many (accepted_in s.list)) (only i) n (with_more n (take many (accepted_in s.list)) (openings n))
        (was.opens i left base may many least most n (subst (λ k. n < k) alike.shards low))

    failing : FailedToName told.failed now.failed → (es : List Entry) → es ≡ now.entries ++ now.failed → (i : Image) → d.may_leave i → (many : ℕ) → told.committed + length (accepted_in s.list) ≤ length told.taken + many
        → many ≤ length (accepted_in s.list) → (n : ℕ) → n < (said_by es).shards → OpensIn found (take many (accepted_in s.list)) es i n (openings n)
    failing (inl same) es are =
        of_base (told.entries ++ told.failed) es (inr refl)
        (subst (λ l. SaysAs (said_by (told.entries ++ told.failed)) (said_by l)) (sym (are ∙ (λ j. entries_are j ++ same j))) (as_between told.entries told.failed numbers))
    failing (inr (number, one)) es are =
        of_base told.entries es (inl refl)
        (subst (λ l. SaysAs (said_by told.entries) (said_by l)) (sym (are ∙ (λ j. entries_are j ++ one j)))
        (as_then (said_by told.entries) (said_by (told.entries ++ named numbers)) (said_by ((told.entries ++ named numbers) ++ named (number ∷ [])))
        (as_named told.entries numbers) (as_named (told.entries ++ named numbers) (number ∷ []))))

    by : (es : List Entry) → MayList now es → (i : Image) → d.may_leave i → (many : ℕ) → told.committed + length (accepted_in s.list) ≤ length told.taken + many
        → many ≤ length (accepted_in s.list) → (n : ℕ) → n < (said_by es).shards → OpensIn found (take many (accepted_in s.list)) es i n (openings n)
    by es (inl same) =
        of_base told.entries es (inl refl)
        (subst (λ l. SaysAs (said_by told.entries) (said_by l)) (sym (same ∙ entries_are)) (as_named told.entries numbers))
    by es (inr more) = failing failed es more

-- ---- an entry that lists nothing was told, or failed

pub explains_wider : (openings : ℕ → ShardOpening) (h : History) (found : List Mutation) (s t : State) (d : Disk) (told now : Told) (x : Entry) → ListsNone x → FitsEntry (said_by told.entries) x
    → length (said_by told.entries).parts ≤ length (said_by told.entries).tables * (said_by told.entries).shards
    → AllByRecursion (FitsRecord (said_by told.entries).tables (said_by told.entries).shards) told.taken → (ds : List Mutation) → AllByRecursion (IsFlushed (said_by told.entries)) ds
    → ds ++ told.taken ≡ all_in found s
    → ((entries : List Entry) → MayList now entries → (entries ≡ told.entries) ⊎ (entries ≡ told.entries ++ x ∷ [])) → now.committed ≡ told.committed → now.taken ≡ told.taken
    → accepted_in t.list ≡ accepted_in s.list → ((ms : List Mutation) → RememberAll s.tables ms s.shards → RememberAll t.tables ms t.shards)
    → Explains openings h found s d told → Explains openings h found t d now
explains_wider openings h found s t d told now x lists fits few fit ds flushed all may_be committed taken list memory was = record {
  behind = λ n low. subst (λ ms. IsNotAhead (shard_at h n) (with_more n ms (openings n))) (sym list) (was.behind n low);
  opens = λ i left entries may many least most n low.
      subst (λ ms. OpensIn found (take many ms) entries i n (openings n)) (sym list)
      (by i left many (omega (arith, least, committed, ap length taken, ap length list)) (subst (λ ms. many ≤ length ms) list most) entries (may_be entries may) n low);
  memory = memory (unflushed_of (said_by now.entries) (all_in found t)) (all_again found s t (said_by now.entries) s.tables s.shards list (remembers (may_be now.entries (inl refl))));
}
  where
    grows : Grows (said_by told.entries) (after (said_by told.entries) x)
    grows = grows_after (said_by told.entries) x lists fits

    all_fit : AllByRecursion (FitsRecord (said_by told.entries).tables (said_by told.entries).shards) (unflushed_of (said_by told.entries) (all_in found s))
    all_fit =
        subst (AllByRecursion (FitsRecord (said_by told.entries).tables (said_by told.entries).shards))
        (sym (unflushed_behind (said_by told.entries) ds told.taken flushed) ∙ ap (unflushed_of (said_by told.entries)) all)
        (all_filtered (FitsRecord (said_by told.entries).tables (said_by told.entries).shards) (is_above (said_by told.entries)) told.taken fit)

    front_fits : (many : ℕ)
        → AllByRecursion (FitsRecord (said_by told.entries).tables (said_by told.entries).shards) (unflushed_of (said_by told.entries) (found ++ take many (accepted_in s.list)))
    front_fits many =
        first_of (FitsRecord (said_by told.entries).tables (said_by told.entries).shards) (unflushed_of (said_by told.entries) (found ++ take many (accepted_in s.list)))
        (unflushed_of (said_by told.entries) (drop many (accepted_in s.list)))
        (subst (AllByRecursion (FitsRecord (said_by told.entries).tables (said_by told.entries).shards))
        (ap (λ ms. unflushed_of (said_by told.entries) (found ++ ms)) (sym (take-append-drop many (accepted_in s.list)))
        ∙ ap (unflushed_of (said_by told.entries)) (sym (append_assoc found (take many (accepted_in s.list)) (drop many (accepted_in s.list))))
        ∙ filter-append (is_above (said_by told.entries)) (found ++ take many (accepted_in s.list)) (drop many (accepted_in s.list))) all_fit)

    by : (i : Image) → d.may_leave i → (many : ℕ) → told.committed + length (accepted_in s.list) ≤ length told.taken + many → many ≤ length (accepted_in s.list) → (entries : List Entry)
        → (entries ≡ told.entries) ⊎ (entries ≡ told.entries ++ x ∷ []) → (n : ℕ) → n < (said_by entries).shards
        → OpensIn found (take many (accepted_in s.list)) entries i n (openings n)
    by i left many least most entries (inl same) n low =
        subst (λ es. OpensIn found (take many (accepted_in s.list)) es i n (openings n)) (sym same)
        (was.opens i left told.entries (inl refl) many least most n (subst (λ es. n < (said_by es).shards) same low))
    by i left many least most entries (inr more) n low =
        let o = with_more n (take many (accepted_in s.list)) (openings n) in
        let here : n < (said_by told.entries).shards = subst (λ k. n < k) (ap (λ es. (said_by es).shards) more ∙ ap (λ (u : Saying). u.shards) (said_more told.entries x) ∙ grows.shards) low in
        let one = was.opens i left told.entries (inl refl) many least most n here in
        let wider : IsOpening (after (said_by told.entries) x) (found ++ take many (accepted_in s.list)) (only i) n (as_told (said_by told.entries) n o) =
        opening_wider (said_by told.entries) (after (said_by told.entries) x) grows few (found ++ take many (accepted_in s.list)) (front_fits many) (only i) n here (as_told (said_by told.entries) n o) i i (λ k. refl) (λ number is. refl) one in
        let now_so : IsOpening (after (said_by told.entries) x) (found ++ take many (accepted_in s.list)) (only i) n (as_told (after (said_by told.entries) x) n o) =
        subst (λ (ts : ShardTimes). IsOpening (after (said_by told.entries) x) (found ++ take many (accepted_in s.list)) (only i) n
        (record o { drawn = int_max o.drawn ts.drawn; moment = int_max o.moment ts.moment })) (ap (λ ts. unwrap_or (slice_get ts n) no_times) (sym grows.times)) wider in
        subst (λ (u : Saying). IsOpening u (found ++ take many (accepted_in s.list)) (only i) n (as_told u n o))
        (sym (said_more told.entries x) ∙ ap said_by (sym more)) now_so

    same_unflushed : (ms : List Mutation) → unflushed_of (after (said_by told.entries) x) ms ≡ unflushed_of (said_by told.entries) ms
    same_unflushed ms = λ k. filter (λ m. nat_lt ((grows.parts m.table m.shard) k).frontier m.number) ms

    remembers : (now.entries ≡ told.entries) ⊎ (now.entries ≡ told.entries ++ x ∷ []) → RememberAll s.tables (unflushed_of (said_by now.entries) (all_in found s)) s.shards
    remembers (inl same) = subst (λ es. RememberAll s.tables (unflushed_of (said_by es) (all_in found s)) s.shards) (sym same) was.memory
    remembers (inr more) =
        subst (λ ms. RememberAll s.tables ms s.shards)
        (sym (ap (λ es. unflushed_of (said_by es) (all_in found s)) more ∙ ap (λ (u : Saying). unflushed_of u (all_in found s)) (said_more told.entries x) ∙ same_unflushed (all_in found s)))
        was.memory

-- ---- a mutation was taken

told_restored : (s : Saying) (n : ℕ) (m : Mutation) (o : ShardOpening) → (m.shard == n) ≡ true → restored m (as_told s n o) ≡ as_told s n (restored m o)
told_restored s n m o here =
    ap (λ (b : Bool). if b then restored m (as_told s n o) else as_told s n o) (sym here) ∙ as_told_more s n (m ∷ []) o
    ∙ ap (λ (b : Bool). as_told s n (if b then restored m o else o)) here

one_taken : (n : ℕ) (ms : List Mutation) (m : Mutation) (o : ShardOpening) (b : Bool) → (m.shard == n) ≡ b
    → with_more n (ms ++ m ∷ []) o ≡ (if b then restored m (with_more n ms o) else with_more n ms o)
one_taken n ms m o b is = with_more_both n ms (m ∷ []) o ∙ ap (λ (c : Bool). if c then restored m (with_more n ms o) else with_more n ms o) is

pub explains_taken : (openings : ℕ → ShardOpening) (h k : History) (found : List Mutation) (s t : State) (d : Disk) (told : Told) (m : Mutation) → told.failed ≡ []
    → FitsRecord (said_by told.entries).tables (said_by told.entries).shards m → is_above (said_by told.entries) m ≡ true → (m.shard < length h.shards → m.number ≡ number_of (shard_at h m.shard) + 1)
    → (said_by told.entries).shards ≡ length h.shards
    → accepted_in t.list ≡ accepted_in s.list ++ m ∷ [] → ((i : Image) → d.may_leave i → told.committed ≤ length told.taken)
    → length k.shards ≡ length h.shards
    → ((o : ShardOpening) → IsNotAhead (shard_at h m.shard) o → IsNotAhead (shard_at k m.shard) (restored m o))
    → ((n : ℕ) → n ≢ m.shard → (o : ShardOpening) → IsNotAhead (shard_at h n) o → IsNotAhead (shard_at k n) o)
    → ((ms : List Mutation) → RememberAll s.tables ms s.shards → RememberAll t.tables (ms ++ m ∷ []) t.shards) → Explains openings h found s d told → Explains openings k found t d (took m told)
explains_taken openings h k found s t d told m none fit above next many_are list committed count ahead others memory was = record {
  behind = λ n low. behind n (subst (λ j. n < j) count low) (same_place n m.shard);
  opens = λ i left entries may many least most n low.
      subst (λ es. OpensIn found (take many (accepted_in t.list)) es i n (openings n)) (sym (only_told told entries none may))
      (subst (λ ms. OpensIn found (take many ms) told.entries i n (openings n)) (sym list)
      (opens i left many (omega (arith, least, ap length list, length-append (accepted_in s.list) (m ∷ []), length-append told.taken (m ∷ []))) (upto many (length (accepted_in s.list)) (omega (arith, most, ap length list, length-append (accepted_in s.list) (m ∷ [])))) n
      (subst (λ es. n < (said_by es).shards) (only_told told entries none may) low)));
  memory =
      subst (λ ms. RememberAll t.tables ms t.shards)
      (sym (ap (λ ms. unflushed_of (said_by told.entries) (found ++ ms)) list ∙ ap (unflushed_of (said_by told.entries)) (sym (append_assoc found (accepted_in s.list) (m ∷ [])))
      ∙ filter-append (is_above (said_by told.entries)) (all_in found s) (m ∷ [])
      ∙ ap (λ (b : Bool). unflushed_of (said_by told.entries) (all_in found s) ++ (if b then m ∷ [] else [])) above))
      (memory (unflushed_of (said_by told.entries) (all_in found s)) was.memory);
}
  where
    behind : (n : ℕ) → n < length h.shards → (n ≡ m.shard) ⊎ (n ≢ m.shard) → IsNotAhead (shard_at k n) (with_more n (accepted_in t.list) (openings n))
    behind n low (inl here) =
        let is : (m.shard == n) ≡ true = ap (λ j. m.shard == j) here ∙ is_same m.shard in
        let one = was.behind n low in
        subst (λ (o : ShardOpening). IsNotAhead (shard_at k n) o) (sym (ap (λ ms. with_more n ms (openings n)) list ∙ one_taken n (accepted_in s.list) m (openings n) true is))
        (subst (λ j. IsNotAhead (shard_at k j) (restored m (with_more n (accepted_in s.list) (openings n)))) (sym here)
        (ahead (with_more n (accepted_in s.list) (openings n)) (subst (λ j. IsNotAhead (shard_at h j) (with_more n (accepted_in s.list) (openings n))) here one)))
    behind n low (inr other) =
        let is : (m.shard == n) ≡ false = is_other m.shard n other in
        subst (λ (o : ShardOpening). IsNotAhead (shard_at k n) o) (sym (ap (λ ms. with_more n ms (openings n)) list ∙ one_taken n (accepted_in s.list) m (openings n) false is))
        (others n other (with_more n (accepted_in s.list) (openings n)) (was.behind n low))

    with_it : (i : Image) (n : ℕ) → n < (said_by told.entries).shards → OpensIn found (accepted_in s.list) told.entries i n (openings n) → (n ≡ m.shard) ⊎ (n ≢ m.shard)
        → OpensIn found ((accepted_in s.list) ++ m ∷ []) told.entries i n (openings n)
    with_it i n low one (inl here) =
        let is : (m.shard == n) ≡ true = ap (λ j. m.shard == j) here ∙ is_same m.shard in
        let o = with_more n (accepted_in s.list) (openings n) in
        let low_h : n < length h.shards = subst (λ j. n < j) many_are low in
        let comes : m.number ≡ (as_told (said_by told.entries) n o).number + 1 =
        next (subst (λ j. j < length h.shards) here low_h) ∙ ap (λ j. number_of (shard_at h j) + 1) (sym here) ∙ ap (λ j. j + 1) (sym (was.behind n low_h).number) in
        subst (λ ms. IsOpening (said_by told.entries) ms (only i) n (as_told (said_by told.entries) n (with_more n ((accepted_in s.list) ++ m ∷ []) (openings n)))) (append_assoc found (accepted_in s.list) (m ∷ []))
        (subst (λ (p : ShardOpening). IsOpening (said_by told.entries) ((found ++ (accepted_in s.list)) ++ m ∷ []) (only i) n p)
        (told_restored (said_by told.entries) n m o is ∙ ap (as_told (said_by told.entries) n) (sym (one_taken n (accepted_in s.list) m (openings n) true is)))
        (opening_with (said_by told.entries) (found ++ (accepted_in s.list)) (only i) n (as_told (said_by told.entries) n o) m fit one (sym here) comes))
    with_it i n low one (inr other) =
        let is : (m.shard == n) ≡ false = is_other m.shard n other in
        let o = with_more n (accepted_in s.list) (openings n) in
        subst (λ ms. IsOpening (said_by told.entries) ms (only i) n (as_told (said_by told.entries) n (with_more n ((accepted_in s.list) ++ m ∷ []) (openings n)))) (append_assoc found (accepted_in s.list) (m ∷ []))
        (subst (λ (p : ShardOpening). IsOpening (said_by told.entries) ((found ++ (accepted_in s.list)) ++ m ∷ []) (only i) n p) (ap (as_told (said_by told.entries) n) (sym (one_taken n (accepted_in s.list) m (openings n) false is)))
        (opening_without (said_by told.entries) (found ++ (accepted_in s.list)) (only i) n (as_told (said_by told.entries) n o) m fit one is))

    opens : (i : Image) → d.may_leave i → (many : ℕ) → told.committed + length (accepted_in s.list) ≤ length told.taken + many → (many ≤ length (accepted_in s.list)) ⊎ (many ≡ suc (length (accepted_in s.list))) → (n : ℕ) → n < (said_by told.entries).shards
        → OpensIn found (take many ((accepted_in s.list) ++ m ∷ [])) told.entries i n (openings n)
    opens i left many least (inl few) n low =
        subst (λ ms. OpensIn found ms told.entries i n (openings n)) (sym (take-append-le many (accepted_in s.list) (m ∷ []) few))
        (was.opens i left told.entries (inl refl) many least few n low)
    opens i left many least (inr whole) n low =
        let longer : length ((accepted_in s.list) ++ m ∷ []) ≤ many = omega (arith, whole, length-append (accepted_in s.list) (m ∷ [])) in
        let one : OpensIn found (accepted_in s.list) told.entries i n (openings n) =
        subst (λ ms. OpensIn found ms told.entries i n (openings n)) (take_all (length (accepted_in s.list)) (accepted_in s.list) (omega arith))
        (was.opens i left told.entries (inl refl) (length (accepted_in s.list)) (let c = committed i left in omega (arith, c)) (omega arith) n low) in
        subst (λ ms. OpensIn found ms told.entries i n (openings n)) (sym (take_all many ((accepted_in s.list) ++ m ∷ []) longer)) (with_it i n low one (same_place n m.shard))

-- ---- segments were dropped

of_room : (s u : Saying) → SaysAsOfRoom s u → SaysAs s u
of_room s u alike = record { shards = alike.shards; tables = alike.tables; parts = alike.parts; times = alike.times }

-- entries behind one that may be there or not
as_dropped_between : (xs ys : List Entry) (numbers : List ℕ) → SaysAs (said_by (xs ++ ys)) (said_by ((xs ++ map entry.DropSegment numbers) ++ ys))
as_dropped_between xs ys numbers =
    subst (λ (s : Saying). SaysAs s (said_by ((xs ++ map entry.DropSegment numbers) ++ ys))) (sym (said_both xs ys))
    (subst (λ (u : Saying). SaysAs (fold after (said_by xs) ys) u) (sym (said_both (xs ++ map entry.DropSegment numbers) ys))
    (as_all (said_by xs) (said_by (xs ++ map entry.DropSegment numbers)) ys (of_room _ _ (as_dropped xs numbers))))

pub explains_dropped : (openings : ℕ → ShardOpening) (h : History) (found : List Mutation) (s : State) (d : Disk) (told now : Told) → Drops told now
    → Explains openings h found s d told → Explains openings h found s d now
explains_dropped openings h found s d told now drops was = record {
  behind = was.behind;
  opens = λ i left entries may many least most n low.
      by entries may i left many (omega (arith, least, drops.committed, drops.few, ap length drops.taken, length-drop drops.many told.taken)) most n low;
  memory =
      subst (λ ms. RememberAll s.tables ms s.shards)
      (sym (ap (λ es. unflushed_of (said_by es) (all_in found s)) drops.entries
      ∙ unflushed_alike (said_by told.entries) (said_by (told.entries ++ map entry.DropSegment drops.numbers)) (of_room _ _ (as_dropped told.entries drops.numbers)) (all_in found s) d 0
      (openings 0))) was.memory;
}
  where
    of_base : (base es : List Entry) → MayList told base → SaysAs (said_by base) (said_by es) → (i : Image) → d.may_leave i → (many : ℕ)
        → told.committed + length (accepted_in s.list) ≤ length told.taken + many → many ≤ length (accepted_in s.list) → (n : ℕ) → n < (said_by es).shards
        → OpensIn found (take many (accepted_in s.list)) es i n (openings n)
    of_base base es may alike i left many least most n low =
        opening_alike (said_by base) (said_by es) alike (found ++ take many (accepted_in s.list)) (only i) n (with_more n (take many (accepted_in s.list)) (openings n))
        (was.opens i left base may many least most n (subst (λ k. n < k) alike.shards low))

    failing : FailedToDrop told.failed now.failed → (es : List Entry) → es ≡ now.entries ++ now.failed → (i : Image) → d.may_leave i → (many : ℕ)
        → told.committed + length (accepted_in s.list) ≤ length told.taken + many → many ≤ length (accepted_in s.list) → (n : ℕ) → n < (said_by es).shards
        → OpensIn found (take many (accepted_in s.list)) es i n (openings n)
    failing (inl same) es are =
        of_base (told.entries ++ told.failed) es (inr refl)
        (subst (λ l. SaysAs (said_by (told.entries ++ told.failed)) (said_by l)) (sym (are ∙ (λ j. drops.entries j ++ same j))) (as_dropped_between told.entries told.failed drops.numbers))
    failing (inr (number, one)) es are =
        of_base told.entries es (inl refl)
        (subst (λ l. SaysAs (said_by told.entries) (said_by l)) (sym (are ∙ (λ j. drops.entries j ++ one j)))
        (as_then (said_by told.entries) (said_by (told.entries ++ map entry.DropSegment drops.numbers))
        (said_by ((told.entries ++ map entry.DropSegment drops.numbers) ++ entry.DropSegment number ∷ []))
        (of_room _ _ (as_dropped told.entries drops.numbers)) (of_room _ _ (as_dropped (told.entries ++ map entry.DropSegment drops.numbers) (number ∷ [])))))

    by : (es : List Entry) → MayList now es → (i : Image) → d.may_leave i → (many : ℕ) → told.committed + length (accepted_in s.list) ≤ length told.taken + many
        → many ≤ length (accepted_in s.list) → (n : ℕ) → n < (said_by es).shards → OpensIn found (take many (accepted_in s.list)) es i n (openings n)
    by es (inl same) =
        of_base told.entries es (inl refl)
        (subst (λ l. SaysAs (said_by told.entries) (said_by l)) (sym (same ∙ drops.entries)) (of_room _ _ (as_dropped told.entries drops.numbers)))
    by es (inr more) = failing drops.failed es more
