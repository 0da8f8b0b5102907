-- What a crash left explains the history.
use Rattle.std.proofs.Common.{◌≡◌, ◌⊎◌, inl, inr, ⊎_elim, ◌∙◌, ◌≤◌, ◌<◌, ◌+◌, ◌*◌, ◌==◌, max, ℕ, zero, suc, Bool, true, false, cond, Some, List, [], ◌∷◌, ◌++◌, length, filter, map, refl, sym, ap, subst, append-nil, append_assoc, length-append, take, arith}
use Rattle.std.specs.Prelude.{if◌then◌else◌, nat_lt, replicate, slice_get, unwrap_or}
use Rattle.std.specs.Int.{int_max}
use Rattle.std.specs.List.{AllByRecursion, fold}
use Rattle.std.proofs.lemmas.Bool.{eqb-true, lt-ltb}
use Rattle.std.proofs.lemmas.Grind.{flat_map-append}
use Rattle.std.proofs.lemmas.Int.{clamps, ints}
use Rattle.std.proofs.lemmas.List.{length-map}
use Rattle.std.proofs.lemmas.List.Elements.{filter-append}
use Rattle.std.proofs.lemmas.List.Sums.{fold-append}
use Rattle.std.proofs.lemmas.Option.{same_Some}
use Rattle.cas_types.specs.declared.schema.Column.{Column}
use Rattle.cas_types.specs.declared.schema.TableSchema.{TableSchema}
use Rattle.cas_atoms.specs.declared.atom.Mutation.{Mutation}
use Rattle.cas_info.specs.declared.info.TableInfo.{TableInfo}
use Rattle.cas_disk.specs.Disk.{Disk, Image, Same}
use Rattle.cas_disk.specs.declared.name.Name.TheVariants.{Table as table_name}
use Rattle.cas_memtable.specs.Kept.{all_of}
use Rattle.cas_tables.specs.Fitting.{FitsContents}
use Rattle.cas_widened.specs.Laws.{AreAdded}
use Rattle.cas_widened.proofs.Files.{contents_stay}
use Rattle.cas_mutations.specs.Allowed.{FitsRecord}
use Rattle.cas_changes.specs.declared.entry.Entry.{Entry}
use Rattle.cas_changes.specs.declared.entry.Entry.TheVariants as entry
use Rattle.cas_changes.specs.declared.said.Part.{Part}
use Rattle.cas_changes.specs.Allowed.{FitsEntry}
use Rattle.cas_changes.specs.Saying.{Saying, after, no_part, no_times, nothing, part_of, place_in, said_by, with_columns}
use Rattle.cas_manifest.specs.File.{MayFollow}
use Rattle.cas_log.specs.Segment.{joined}
use Rattle.cas_replay.specs.Grammar.{AreSegments, AscendByOne, numbers_of}
use Rattle.cas_journal.specs.Stores.{IsStore}
use Rattle.cas_journal.proofs.Fitting.{no_keys}
use Rattle.cas_opening.specs.Opening.{IsListedTable, IsOfBytes, is_above}
use Rattle.cas_listed.specs.Listed.{StandInFiles}
use Rattle.cas_shard.specs.declared.entry.Entry.TheVariants.{Wrote}
use Rattle.cas_shard.specs.declared.entry.ShardOpening.{ShardOpening}
use Rattle.cas_shard.specs.Shards.{empty_shard, restored}
use Rattle.cas_shard.specs.Stands.{SaySame, mutations_of, of_table}
use Rattle.cas_shard.proofs.Memory.{say_alike, say_before}
use Rattle.cas_shard.proofs.Numbering.{one_restored}
use Rattle.cas_recovery.specs.Found.{AreOfAStore, found_in}
use Rattle.cas_recovery.specs.Openings.{AreOpenings, IsOpening, SayAll, greatest_frontier, times_of, unflushed_of}
use Rattle.cas_recovery.proofs.Explained.{as_opening}
use Rattle.cas_recovery.proofs.Founding.{numbers_more, one_more, step}
use Rattle.cas_recovery.proofs.Places.{get_within, is_other, is_same}
use Rattle.cas_recovery.proofs.Standing.{AreAlike, all_listed, own_file}
use Rattle.cas_recovery.proofs.Within.{all_filtered}
use Rattle.cas_room.specs.Rooms.{accepted_in}
use Rattle.cas_lasting.specs.Listing.{ListsNone, SameListed}
use Rattle.cas_lasting.specs.Explained.{only, with_more}
use Rattle.cas_lasting.specs.Next.{LeftExplains}
use Rattle.cas_lasting.proofs.Listing.{entries_alone}
use Rattle.cas_lasting.proofs.Parts.{no_more, said_few}

-- ---- what is said by more entries

-- the table got columns, none of the primary key, or is as it was
pub record Widens (b t : TableSchema) : Type 0 where
  pub number : t.number ≡ b.number
  pub added : List Column
  pub bare : AreAdded added
  pub columns : t.columns ≡ b.columns ++ added

abbrev pub IsOf : List TableSchema → ℕ → TableSchema → Type 0
IsOf tables table t = (length tables ≤ table) ⊎ ((b : TableSchema) × (slice_get tables table ≡ Some b) × Widens b t)

-- the same is said of table files, and of more or wider tables
pub record Grows (s u : Saying) : Type 0 where
  pub shards : u.shards ≡ s.shards
  pub parts : (table shard : ℕ) → part_of u table shard ≡ part_of s table shard
  pub times : u.times ≡ s.times
  pub more : length s.tables ≤ length u.tables
  pub tables : (table : ℕ) (t : TableSchema) → slice_get u.tables table ≡ Some t → IsOf s.tables table t

pub same_table : (t : TableSchema) → Widens t t
same_table t = record { number = refl; added = []; bare = tt; columns = sym (append-nil t.columns) }

pub all_both : {A : Type 0} (P : A → Type 0) (xs ys : List A) → AllByRecursion P xs → AllByRecursion P ys → AllByRecursion P (xs ++ ys)
all_both P [] ys one two = two
all_both P (x ∷ xs) ys one two = (one.0, all_both P xs ys one.1 two)

wider_still : (a b t : TableSchema) → Widens a b → Widens b t → Widens a t
wider_still a b t one two = record {
  number = two.number ∙ one.number;
  added = one.added ++ two.added;
  bare = all_both _ one.added two.added one.bare two.bare;
  columns = two.columns ∙ ap (λ l. l ++ two.added) one.columns ∙ append_assoc a.columns one.added two.added;
}

pub grows_none : (s : Saying) → Grows s s
grows_none s = record { shards = refl; parts = λ table shard. refl; times = refl; more = omega arith; tables = λ table t there. inr (t, there, same_table t) }

grows_more : (s u v : Saying) → Grows s u → Grows u v → Grows s v
grows_more s u v one two = record {
  shards = two.shards ∙ one.shards;
  parts = λ table shard. two.parts table shard ∙ one.parts table shard;
  times = two.times ∙ one.times;
  more = omega (arith, one.more, two.more);
  tables = λ table t there. by table t (two.tables table t there);
}
  where
    wide : (table : ℕ) (b t : TableSchema) → Widens b t → IsOf s.tables table b → IsOf s.tables table t
    wide table b t widens (inl past) = inl past
    wide table b t widens (inr (a, there, first)) = inr (a, there, wider_still a b t first widens)

    by : (table : ℕ) (t : TableSchema) → IsOf u.tables table t → IsOf s.tables table t
    by table t (inl past) = inl (omega (arith, past, one.more))
    by table t (inr (b, there, widens)) = wide table b t widens (one.tables table b there)

-- ---- one entry more

past_parts : (ps : List Part) (n k : ℕ) → unwrap_or (slice_get (ps ++ replicate n no_part) k) no_part ≡ unwrap_or (slice_get ps k) no_part
past_parts [] zero k = refl
past_parts [] (suc n) zero = refl
past_parts [] (suc n) (suc k) = past_parts [] n k
past_parts (p ∷ ps) n zero = refl
past_parts (p ∷ ps) n (suc k) = past_parts ps n k

got_push : (ts : List TableSchema) (last : TableSchema) (k : ℕ) (t : TableSchema) → slice_get (ts ++ last ∷ []) k ≡ Some t → (length ts ≤ k) ⊎ (slice_get ts k ≡ Some t)
got_push [] last k t there = inl (omega arith)
got_push (x ∷ ts) last zero t there = inr there
got_push (x ∷ ts) last (suc k) t there = ⊎_elim (λ (high : length ts ≤ k). inl (omega (arith, high))) (λ got. inr got) (got_push ts last k t there)

got_map : (f : TableSchema → TableSchema) (ts : List TableSchema) (k : ℕ) (t : TableSchema) → slice_get (map f ts) k ≡ Some t
    → (b : TableSchema) × (slice_get ts k ≡ Some b) × (t ≡ f b)
got_map f [] k t there = absurd cc
got_map f (x ∷ ts) zero t there = (x, refl, sym (same_Some (f x) t there))
got_map f (x ∷ ts) (suc k) t there = got_map f ts k t there

wider_by : (table : ℕ) (columns : List Column) (b : TableSchema) → AreAdded columns → (same : Bool) → Widens b (if same then record b { columns = b.columns ++ columns } else b)
wider_by table columns b bare true = record { number = refl; added = columns; bare = bare; columns = refl }
wider_by table columns b bare false = same_table b

pub grows_after : (s : Saying) (e : Entry) → ListsNone e → FitsEntry s e → Grows s (after s e)
grows_after s (entry.Store shards) none fits = absurd none
grows_after s (entry.DropSegment n) none fits = absurd none
grows_after s (entry.Change c) none fits = absurd none
grows_after s (entry.NewSegment n) none fits = record {
  shards = refl;
  parts = λ table shard. refl;
  times = refl;
  more = omega arith;
  tables = λ table t there. inr (t, there, same_table t);
}
grows_after s (entry.Schema new) none fits = record {
  shards = refl;
  parts = λ table shard. past_parts s.parts s.shards (place_in s table shard);
  times = refl;
  more = omega (arith, length-append s.tables (new ∷ []));
  tables = λ table t there. ⊎_elim (λ high. inl high) (λ got. inr (t, got, same_table t)) (got_push s.tables new table t there);
}
grows_after s (entry.AddColumns number columns) none fits =
    let bare : AreAdded columns = no_keys fits.1.columns columns fits.3.2 in
    record {
      shards = refl;
      parts = λ table shard. refl;
      times = refl;
      more = omega (arith, length-map s.tables (with_columns number columns));
      tables = λ table t there.
          let (b, got, is) = got_map (with_columns number columns) s.tables table t there in
          inr (b, got, subst (λ x. Widens b x) (sym is) (wider_by number columns b bare (b.number == number)));
    }

grows_all : (s : Saying) (behind : List Entry) → AllByRecursion ListsNone behind → MayFollow s behind → Grows s (fold after s behind)
grows_all s [] none follow = grows_none s
grows_all s (e ∷ behind) none follow =
    grows_more s (after s e) (fold after (after s e) behind) (grows_after s e none.0 follow.0.0) (grows_all (after s e) behind none.1 follow.1)

-- ---- what is asked of a shard, in other words of the same

module _ (s : Saying) (mutations more : List Mutation) (folder : Disk) (n : ℕ) (o : ShardOpening) where
  -- with other mutations in the log of which the shard has the same
  opening_as : found_in n (unflushed_of s more) ≡ found_in n (unflushed_of s mutations) → numbers_of n more ≡ numbers_of n mutations
      → IsOpening s mutations folder n o → IsOpening s more folder n o
  opening_as found numbers is = record {
    rise = is.rise;
    number = is.number ∙ ap (λ (p : ShardOpening). max p.number (greatest_frontier s n (length s.tables))) (sym found);
    goes_on = subst (λ (l : List ℕ). AscendByOne (l ++ (o.number + 1) ∷ [])) (sym numbers) is.goes_on;
    drawn = is.drawn ∙ ap (λ (p : ShardOpening). int_max p.drawn (times_of s n).drawn) (sym found);
    moment = is.moment ∙ ap (λ (p : ShardOpening). int_max p.moment (times_of s n).moment) (sym found);
    says = λ table t there.
        subst (λ (p : ShardOpening). SayAll folder t n (part_of s table n).listed (mutations_of table p.entries) (mutations_of table o.entries)) (sym found)
        (is.says table t there);
    no_others = is.no_others;
  }

-- ---- in an image that has the same files

pub wider_contents : (b t : TableSchema) (shard : ℕ) (c d : Image) (infos : List TableInfo) (wss : List (List Mutation)) → Widens b t → AreAlike c d infos
    → StandInFiles b shard c infos wss → StandInFiles t shard d infos wss
wider_contents b t shard c d [] [] widens alike stand = tt
wider_contents b t shard c d [] (ws ∷ wss) widens alike stand = absurd stand
wider_contents b t shard c d (i ∷ infos) [] widens alike stand = absurd stand
wider_contents b t shard c d (i ∷ infos) (ws ∷ wss) widens alike stand = (
  record {
    contents = stand.0.contents;
    file = record {
      facts = stand.0.file.facts;
      fits = subst (λ cs. FitsContents cs stand.0.contents) (sym widens.columns) (contents_stay b.columns widens.added stand.0.contents widens.bare stand.0.file.fits);
      of_atoms = stand.0.file.of_atoms;
      table_is = stand.0.file.table_is ∙ sym widens.number;
      shard_is = stand.0.file.shard_is;
      listed = stand.0.file.listed;
      there = alike.0 ∙ stand.0.file.there;
    };
    says = stand.0.says;
    none = stand.0.none;
  },
  wider_contents b t shard c d infos wss widens alike.1 stand.1,
)

-- of a table that isn't there the log has no mutation
module _ (n table : ℕ) where
  none_by : (b : Bool) (o : ShardOpening) (m : Mutation) → (m.table == table) ≡ false → mutations_of table o.entries ≡ []
      → mutations_of table (if b then restored m o else o).entries ≡ []
  none_by true o m other none =
      flat_map-append (of_table table) o.entries (Wrote 0 0 m ∷ []) ∙ ap (λ l. l ++ mutations_of table (Wrote 0 0 m ∷ [])) none
      ∙ ap (λ (b : Bool). (if b then m ∷ [] else []) ++ []) other
  none_by false o m other none = none

  none_found : (tables : List TableSchema) (shards : ℕ) → length tables ≤ table → (ms : List Mutation) (o : ShardOpening) → AllByRecursion (FitsRecord tables shards) ms
      → mutations_of table o.entries ≡ [] → mutations_of table (fold (step n) o ms).entries ≡ []
  none_found tables shards high [] o fit none = none
  none_found tables shards high (m ∷ ms) o fit none =
      let low = get_within tables m.table fit.0.table fit.0.there in
      none_found tables shards high ms (step n o m) fit.1 (none_by (m.shard == n) o m (is_other m.table table (λ e. absurd (omega (arith, e, low, high)))) none)

same_greatest : (s u : Saying) (n : ℕ) → Grows s u → (count : ℕ) → greatest_frontier u n count ≡ greatest_frontier s n count
same_greatest s u n grows zero = refl
same_greatest s u n grows (suc k) =
    ap (λ j. max j (part_of u k n).frontier) (same_greatest s u n grows k) ∙ ap (λ (p : Part). max (greatest_frontier s n k) p.frontier) (grows.parts k n)

pub upto : (a b : ℕ) → a ≤ suc b → (a ≤ b) ⊎ (a ≡ suc b)
upto zero b le = inl (omega arith)
upto (suc a) zero le = inr (omega (arith, le))
upto (suc a) (suc b) le = ⊎_elim (λ (l : a ≤ b). inl (omega (arith, l))) (λ (e : a ≡ suc b). inr (omega (arith, e))) (upto a b (omega (arith, le)))

-- behind the tables that are there, no frontier is greater
none_greater : (s : Saying) (n : ℕ) → length s.parts ≤ length s.tables * s.shards → (count : ℕ) → length s.tables ≤ count
    → greatest_frontier s n count ≡ greatest_frontier s n (length s.tables)
none_greater s n few zero high = let none : zero ≡ length s.tables = omega (arith, high) in ap (greatest_frontier s n) none
none_greater s n few (suc count) high = ⊎_elim (λ low. behind low (none_greater s n few count low)) (λ e. ap (greatest_frontier s n) (sym e)) (upto (length s.tables) count high)
  where
    behind : length s.tables ≤ count → greatest_frontier s n count ≡ greatest_frontier s n (length s.tables)
        → max (greatest_frontier s n count) (part_of s count n).frontier ≡ greatest_frontier s n (length s.tables)
    behind low before =
        let none : (part_of s count n).frontier ≡ 0 = ap (λ (p : Part). p.frontier) (no_more s count n few low) in
        omega (arith, none, before)

module _ (s u : Saying) (grows : Grows s u) (few : length s.parts ≤ length s.tables * s.shards) (mutations : List Mutation)
    (fit : AllByRecursion (FitsRecord s.tables s.shards) (unflushed_of s mutations)) (before : Disk) (n : ℕ) (within : n < s.shards) (o : ShardOpening) (b i : Image)
    (left : before.may_leave b) (same : (number : ℕ) → IsListedTable s number → i (table_name number) ≡ b (table_name number)) where
  all_greatest : greatest_frontier u n (length u.tables) ≡ greatest_frontier s n (length s.tables)
  all_greatest = same_greatest s u n grows (length u.tables) ∙ none_greater s n few (length u.tables) grows.more

  pub all_unflushed : unflushed_of u mutations ≡ unflushed_of s mutations
  all_unflushed = λ k. filter (λ m. nat_lt ((grows.parts m.table m.shard) k).frontier m.number) mutations

  pub all_times : times_of u n ≡ times_of s n
  all_times = ap (λ ts. unwrap_or (slice_get ts n) no_times) grows.times

  says_wider : IsOpening s mutations before n o → (table : ℕ) (t : TableSchema) → IsOf s.tables table t
      → SayAll (only i) t n (part_of s table n).listed (mutations_of table (found_in n (unflushed_of s mutations)).entries) (mutations_of table o.entries)
  says_wider is table t (inr (a, there, widens)) =
      let infos = (part_of s table n).listed in
      let say = is.says table a there in
      let alike : AreAlike b i infos = all_listed s b i table n infos (get_within s.tables table a there) within same (own_file infos infos (λ k has. has)) in
      record {
        written = say.written;
        stand = λ c here.
            wider_contents a t n b c infos say.written widens (alike_too infos alike here) (say.stand b left);
        says = say.says;
      }
    where
      alike_too : (infos : List TableInfo) → AreAlike b i infos → {c : Image} → Same i c → AreAlike b c infos
      alike_too [] alike here = tt
      alike_too (x ∷ infos) alike here = (here (table_name x.number) ∙ alike.0, alike_too infos alike.1 here)
  says_wider is table t (inl high) =
      subst (λ (p : Part). SayAll (only i) t n p.listed (mutations_of table (found_in n (unflushed_of s mutations)).entries) (mutations_of table o.entries))
      (sym (no_more s table n few high))
      (record {
        written = [];
        stand = λ c here. tt;
        says = say_alike _ _ (none_found n table s.tables s.shards high (unflushed_of s mutations) empty_shard fit refl ∙ sym (is.no_others table high));
      })

  pub opening_wider : IsOpening s mutations before n o → IsOpening u mutations (only i) n o
  opening_wider is = record {
    rise = is.rise;
    number = is.number ∙ ap (λ l. max (found_in n l).number (greatest_frontier s n (length s.tables))) (sym all_unflushed)
        ∙ ap (λ k. max (found_in n (unflushed_of u mutations)).number k) (sym all_greatest);
    goes_on = is.goes_on;
    drawn = is.drawn ∙ ap (λ l. int_max (found_in n l).drawn (times_of s n).drawn) (sym all_unflushed)
        ∙ ap (λ ts. int_max (found_in n (unflushed_of u mutations)).drawn ts.drawn) (sym all_times);
    moment = is.moment ∙ ap (λ l. int_max (found_in n l).moment (times_of s n).moment) (sym all_unflushed)
        ∙ ap (λ ts. int_max (found_in n (unflushed_of u mutations)).moment ts.moment) (sym all_times);
    says = λ table t there.
        subst (λ (p : Part). SayAll (only i) t n p.listed (mutations_of table (found_in n (unflushed_of u mutations)).entries) (mutations_of table o.entries)) (sym (grows.parts table n))
        (subst (λ l. SayAll (only i) t n (part_of s table n).listed (mutations_of table (found_in n l).entries) (mutations_of table o.entries)) (sym all_unflushed)
        (says_wider is table t (grows.tables table t there)));
    no_others = λ table high. is.no_others table (omega (arith, high, grows.more));
  }

-- ---- one mutation more

ascend_push : (xs : List ℕ) (k : ℕ) → AscendByOne (xs ++ k ∷ []) → AscendByOne (xs ++ k ∷ (k + 1) ∷ [])
ascend_push [] k ascend = (refl, tt)
ascend_push (x ∷ []) k ascend = (ascend.0, (refl, tt))
ascend_push (x ∷ y ∷ xs) k ascend = (ascend.0, ascend_push (y ∷ xs) k ascend.1)

part_greatest : (s : Saying) (n table count : ℕ) → table < count → (part_of s table n).frontier ≤ greatest_frontier s n count
part_greatest s n table zero low = absurd (omega (arith, low))
part_greatest s n table (suc count) low = ⊎_elim (λ below. there (part_greatest s n table count (omega (arith, below)))) (λ e. here (omega (arith, e))) (upto (suc table) count (omega (arith, low)))
  where
    here : table ≡ count → (part_of s table n).frontier ≤ max (greatest_frontier s n count) (part_of s count n).frontier
    here e = subst (λ k. (part_of s k n).frontier ≤ max (greatest_frontier s n count) (part_of s count n).frontier) (sym e) (omega arith)

    there : (part_of s table n).frontier ≤ greatest_frontier s n count → (part_of s table n).frontier ≤ max (greatest_frontier s n count) (part_of s count n).frontier
    there most = omega (arith, most)

module _ (s : Saying) (mutations : List Mutation) (folder : Disk) (n : ℕ) (o : ShardOpening) (m : Mutation) (fit : FitsRecord s.tables s.shards m)
    (is : IsOpening s mutations folder n o) where
  abbrev so_far : ShardOpening
  so_far = found_in n (unflushed_of s mutations)

  low : m.table < length s.tables
  low = get_within s.tables m.table fit.table fit.there

  -- where it is of this shard
  module _ (here : m.shard ≡ n) (next : m.number ≡ o.number + 1) where
    above : is_above s m ≡ true
    above =
        let most : (part_of s m.table n).frontier ≤ greatest_frontier s n (length s.tables) = part_greatest s n m.table (length s.tables) low in
        lt-ltb (part_of s m.table m.shard).frontier m.number
        (subst (λ k. (part_of s m.table k).frontier < m.number) (sym here) (omega (arith, most, next, is.number)))

    is_here : (m.shard == n) ≡ true
    is_here = ap (λ k. k == n) here ∙ is_same n

    found : found_in n (unflushed_of s (mutations ++ m ∷ [])) ≡ restored m so_far
    found =
        ap (found_in n) (filter-append (is_above s) mutations (m ∷ []) ∙ ap (λ (b : Bool). unflushed_of s mutations ++ cond b (m ∷ []) []) above)
        ∙ one_more n (unflushed_of s mutations) m ∙ ap (λ (b : Bool). if b then restored m so_far else so_far) is_here

    numbers : numbers_of n (mutations ++ m ∷ []) ≡ numbers_of n mutations ++ m.number ∷ []
    numbers = numbers_more n mutations m [] ∙ ap (λ (b : Bool). numbers_of n mutations ++ ((if b then m.number ∷ [] else []) ++ [])) is_here

    greatest : max o.number m.number ≡ o.number + 1
    greatest = omega (arith, next)

    drawn_on : (b : Bool) → (if b then int_max o.drawn m.at else o.drawn) ≡ int_max (if b then int_max so_far.drawn m.at else so_far.drawn) (times_of s n).drawn
    drawn_on true = omega (arith, ints, clamps, is.drawn)
    drawn_on false = is.drawn

    moment_on : int_max o.moment m.moment ≡ int_max (int_max so_far.moment m.moment) (times_of s n).moment
    moment_on = omega (arith, ints, clamps, is.moment)

    number_on : max o.number m.number ≡ max (max so_far.number m.number) (greatest_frontier s n (length s.tables))
    number_on = omega (arith, is.number)

    entries_on : (table : ℕ) (p : ShardOpening) → mutations_of table (restored m p).entries ≡ mutations_of table p.entries ++ mutations_of table (Wrote 0 0 m ∷ [])
    entries_on table p = flat_map-append (of_table table) p.entries (Wrote 0 0 m ∷ [])

    pub opening_with : IsOpening s (mutations ++ m ∷ []) folder n (restored m o)
    opening_with = record {
      rise = one_restored m o is.rise (omega (arith, is.rise.found, next));
      number = number_on ∙ ap (λ (p : ShardOpening). max p.number (greatest_frontier s n (length s.tables))) (sym found);
      goes_on =
          subst (λ (l : List ℕ). AscendByOne (l ++ (max o.number m.number + 1) ∷ [])) (sym numbers)
          (subst (λ (k : ℕ). AscendByOne ((numbers_of n mutations ++ m.number ∷ []) ++ (k + 1) ∷ [])) (sym greatest)
          (subst (λ (k : ℕ). AscendByOne ((numbers_of n mutations ++ k ∷ []) ++ (o.number + 1 + 1) ∷ [])) (sym next)
          (subst (λ (l : List ℕ). AscendByOne l) (sym (append_assoc (numbers_of n mutations) ((o.number + 1) ∷ []) ((o.number + 1 + 1) ∷ [])))
          (ascend_push (numbers_of n mutations) (o.number + 1) is.goes_on))));
      drawn = drawn_on m.drawn ∙ ap (λ (p : ShardOpening). int_max p.drawn (times_of s n).drawn) (sym found);
      moment = moment_on ∙ ap (λ (p : ShardOpening). int_max p.moment (times_of s n).moment) (sym found);
      says = λ table t there.
          let say = is.says table t there in
          let x = mutations_of table (Wrote 0 0 m ∷ []) in
          record {
            written = say.written;
            stand = say.stand;
            says =
                subst (λ (p : ShardOpening). SaySame (all_of say.written ++ mutations_of table p.entries) (mutations_of table (restored m o).entries)) (sym found)
                (subst (λ l. SaySame (all_of say.written ++ l) (mutations_of table (restored m o).entries)) (sym (entries_on table so_far))
                (subst (λ l. SaySame (all_of say.written ++ (mutations_of table so_far.entries ++ x)) l) (sym (entries_on table o))
                (subst (λ l. SaySame l (mutations_of table o.entries ++ x)) (append_assoc (all_of say.written) (mutations_of table so_far.entries) x)
                (say_before x (all_of say.written ++ mutations_of table so_far.entries) (mutations_of table o.entries) say.says))));
          };
      no_others = λ table high.
          entries_on table o ∙ ap (λ l. l ++ mutations_of table (Wrote 0 0 m ∷ [])) (is.no_others table high)
          ∙ ap (λ (b : Bool). (if b then m ∷ [] else []) ++ []) (is_other m.table table (λ e. absurd (omega (arith, e, low, high))));
    }

  -- where it is of another
  module _ (other : (m.shard == n) ≡ false) where
    filtered : (b : Bool) → found_in n (unflushed_of s mutations ++ cond b (m ∷ []) []) ≡ so_far
    filtered true = one_more n (unflushed_of s mutations) m ∙ ap (λ (b : Bool). if b then restored m so_far else so_far) other
    filtered false = ap (found_in n) (append-nil (unflushed_of s mutations))

    pub opening_without : IsOpening s (mutations ++ m ∷ []) folder n o
    opening_without =
        opening_as s mutations (mutations ++ m ∷ []) folder n o
        (ap (found_in n) (filter-append (is_above s) mutations (m ∷ [])) ∙ filtered (is_above s m))
        (numbers_more n mutations m [] ∙ ap (λ (b : Bool). numbers_of n mutations ++ ((if b then m.number ∷ [] else []) ++ [])) other ∙ append-nil (numbers_of n mutations)) is

-- ---- all that are more

module _ (s : Saying) (folder : Disk) (n : ℕ) where
  opening_by : (b : Bool) (mutations : List Mutation) (m : Mutation) (o : ShardOpening) (others : List ℕ) → (m.shard == n) ≡ b → FitsRecord s.tables s.shards m
      → AscendByOne (o.number ∷ (if b then m.number ∷ [] else []) ++ others) → IsOpening s mutations folder n o
      → IsOpening s (mutations ++ m ∷ []) folder n (if b then restored m o else o) × AscendByOne ((if b then restored m o else o).number ∷ others)
  opening_by true mutations m o others e fit goes is =
      let greatest : m.number ≡ max o.number m.number = omega (arith, goes.0) in
      (opening_with s mutations folder n o m fit is (eqb-true m.shard n e) goes.0, subst (λ k. AscendByOne (k ∷ others)) greatest goes.1)
  opening_by false mutations m o others e fit goes is = (opening_without s mutations folder n o m fit is e, goes)

  opening_all : (mutations more : List Mutation) (o : ShardOpening) → AllByRecursion (FitsRecord s.tables s.shards) more → AscendByOne (o.number ∷ numbers_of n more)
      → IsOpening s mutations folder n o → IsOpening s (mutations ++ more) folder n (with_more n more o)
  opening_all mutations [] o fit goes is = subst (λ ms. IsOpening s ms folder n o) (sym (append-nil mutations)) is
  opening_all mutations (m ∷ more) o fit goes is =
      let one = opening_by (m.shard == n) mutations m o (numbers_of n more) refl fit.0 goes is in
      subst (λ ms. IsOpening s ms folder n (with_more n (m ∷ more) o)) (append_assoc mutations (m ∷ []) more)
      (opening_all (mutations ++ m ∷ []) more (step n o m) fit.1 one.1 one.0)

-- ---- the log of an image

segments_fit : (tables : List TableSchema) (shards : ℕ) (file : ℕ → List ℕ) (numbers : List ℕ) (parts : List (List Mutation)) → AreSegments tables shards file numbers parts
    → AllByRecursion (FitsRecord tables shards) (joined parts)
segments_fit tables shards file [] [] are = tt
segments_fit tables shards file [] (ms ∷ parts) are = absurd are
segments_fit tables shards file (k ∷ ks) [] are = absurd are
segments_fit tables shards file (k ∷ ks) (ms ∷ parts) are =
    all_both (FitsRecord tables shards) ms (joined parts) are.0.fit (segments_fit tables shards file ks parts are.1)

pub behind_fit : {A : Type 0} (P : A → Type 0) (xs ys : List A) → AllByRecursion P (xs ++ ys) → AllByRecursion P ys
behind_fit P [] ys all = all
behind_fit P (x ∷ xs) ys all = behind_fit P xs ys all.1

behind_follow : (s : Saying) (xs ys : List Entry) → MayFollow s (xs ++ ys) → MayFollow (fold after s xs) ys
behind_follow s [] ys follow = follow
behind_follow s (x ∷ xs) ys follow = behind_follow (after s x) xs ys follow.1

said_behind : (entries behind : List Entry) → AllByRecursion ListsNone behind → MayFollow nothing (entries ++ behind) → Grows (said_by entries) (said_by (entries ++ behind))
unfolding said_by
said_behind entries behind none follow =
    subst (λ u. Grows (fold after nothing entries) u) (sym (fold-append after nothing entries behind))
    (grows_all (fold after nothing entries) behind none (behind_follow nothing entries behind follow))

-- numbers that go on from the last, where there are some before
goes_from : (xs ys : List ℕ) (k : ℕ) → AscendByOne (xs ++ (k + 1) ∷ []) → AscendByOne (xs ++ ys) → (xs ≡ [] → AscendByOne (k ∷ ys)) → AscendByOne (k ∷ ys)
goes_from [] ys k goes order first = first refl
goes_from (x ∷ []) ys k goes order first = let same : x ≡ k = omega (arith, goes.0) in subst (λ j. AscendByOne (j ∷ ys)) same order
goes_from (x ∷ y ∷ xs) ys k goes order first = goes_from (y ∷ xs) ys k goes.1 order.1 (λ nil. absurd cc)

-- for an image that has so many entries and mutations more
module _ (before : Disk) (entries behind : List Entry) (mutations more : List Mutation) (openings : ℕ → ShardOpening) (b i : Image) (store : AreOfAStore entries mutations)
    (are : AreOpenings entries mutations before openings) (left : before.may_leave b) (same : SameListed entries b i) (none : AllByRecursion ListsNone behind)
    (is : IsStore (entries ++ behind) (mutations ++ more) i) (bytes : IsOfBytes i)
    (goes : (n : ℕ) → n < (said_by entries).shards → numbers_of n mutations ≡ [] → AscendByOne ((openings n).number ∷ numbers_of n more)) where
  explains : AreOpenings (entries ++ behind) (mutations ++ more) (only i) (λ n. with_more n more (openings n))
  explains n low =
      let grows = said_behind entries behind none is.manifest.follow in
      let within : n < (said_by entries).shards = subst (λ k. n < k) grows.shards low in
      let first = as_opening entries mutations store.log before n (openings n) within (are n within) in
      let fit = subst (λ l. AllByRecursion (FitsRecord (said_by (entries ++ behind)).tables (said_by (entries ++ behind)).shards) l) is.log.all
      (segments_fit _ _ _ _ is.log.parts is.log.segments) in
      let wider = opening_wider (said_by entries) (said_by (entries ++ behind)) grows (said_few entries store.follow) mutations
      (all_filtered (FitsRecord (said_by entries).tables (said_by entries).shards) (is_above (said_by entries)) mutations store.log.fit) before n within (openings n) b i left same first in
      let ordered : AscendByOne (numbers_of n mutations ++ numbers_of n more) =
      subst (λ l. AscendByOne l) (flat_map-append (λ (m : Mutation). if m.shard == n then m.number ∷ [] else []) mutations more) (is.log.ordered n) in
      let on = goes_from (numbers_of n mutations) (numbers_of n more) (openings n).number first.goes_on ordered (goes n within) in
      inl (
        (i, (λ k. refl), bytes),
        opening_all (said_by (entries ++ behind)) (only i) n mutations more (openings n) (behind_fit _ mutations more fit) on wider,
      )

pub left_explains : (before : Disk) → LeftExplains before
left_explains before entries mutations openings list h b i store are left same (behind, none, has) crash nothing bytes goes =
    let more = take crash.count (accepted_in list) in
    let is = crash.store.store in
    let one : crash.entries ≡ entries ++ behind = entries_alone crash.entries (entries ++ behind) i (is.file, is.there, is.manifest) has in
    let all : mutations ++ more ≡ crash.store.logged = crash.store.are ∙ ap (λ ds. ds ++ crash.store.logged) nothing in
    subst (λ es. AreOpenings es (mutations ++ more) (only i) (λ n. with_more n more (openings n))) (sym one)
    (explains before entries behind mutations more openings b i store are left same none
    (subst (λ es. IsStore es (mutations ++ more) i) one (subst (λ ms. IsStore crash.entries ms i) (sym all) is)) bytes goes)
