-- The change that lists a flush's file keeps what the next run may find.
use Rattle.std.proofs.Common.{◌≡◌, ◌≢◌, ◌⊎◌, inl, inr, ◌≤◌, ◌≤ℤ◌, ◌<◌, ◌+◌, ◌*◌, ◌==◌, max, not, ℕ, ℤ, zero, suc, Bool, true, false, cond, Option, None, Some, List, [], ◌∷◌, ◌++◌, length, filter, refl, sym, ap, ap₂, ◌∙◌, subst, append-nil, append_assoc, arith}
use Rattle.std.specs.Prelude.{if◌then◌else◌, nat_lt, slice_get, unwrap_or}
use Rattle.std.specs.Int.{int_max}
use Rattle.std.specs.List.{AllByRecursion, flat_map, fold}
use Rattle.std.proofs.lemmas.Bool.{eqb-true, false≢true, le-ltb, true≢false}
use Rattle.std.proofs.lemmas.Grind.{flat_map-append}
use Rattle.std.proofs.lemmas.Int.{clamps, ints}
use Rattle.std.proofs.lemmas.List.{length-replicate}
use Rattle.std.proofs.lemmas.List.Sums.{fold-append}
use Rattle.cas_types.specs.declared.schema.TableSchema.{TableSchema}
use Rattle.cas_atoms.specs.declared.atom.Mutation.{Mutation}
use Rattle.cas_info.specs.declared.info.TableInfo.{TableInfo}
use Rattle.cas_disk.specs.Disk.{Image, Same}
use Rattle.cas_disk.specs.declared.name.Name.TheVariants.{Table as table_name}
use Rattle.cas_memtable.specs.Kept.{all_of}
use Rattle.cas_changes.specs.Saying.{Saying, after, change_after, is_listed, no_part, no_times, nothing, part_after, part_of, place_in, said_by, times_after}
use Rattle.cas_changes.specs.declared.entry.Change.{Change}
use Rattle.cas_changes.specs.declared.entry.Entry.{Entry}
use Rattle.cas_changes.specs.declared.entry.Entry.TheVariants as entry
use Rattle.cas_changes.specs.declared.said.Part.{Part}
use Rattle.cas_changes.specs.declared.said.ShardTimes.{ShardTimes}
use Rattle.cas_replay.specs.Grammar.{AscendByOne, numbers_of}
use Rattle.cas_opening.specs.Opening.{IsListedTable, is_above}
use Rattle.cas_listed.specs.Listed.{StandIn, StandInFiles}
use Rattle.cas_shard.specs.declared.entry.Entry.TheVariants.{Wrote}
use Rattle.cas_shard.specs.declared.entry.ShardOpening.{ShardOpening}
use Rattle.cas_shard.specs.Shards.{empty_shard, restored}
use Rattle.cas_shard.specs.Stands.{SaySame, mutations_of, of_table}
use Rattle.cas_shard.proofs.Memory.{say_behind, say_then}
use Rattle.cas_recovery.specs.Found.{found_in}
use Rattle.cas_recovery.specs.Openings.{IsOpening, SayAll, greatest_frontier, times_of, unflushed_of}
use Rattle.cas_recovery.proofs.Founding.{step}
use Rattle.cas_recovery.proofs.Places.{get_here, get_other, get_within, is_same, length_set, same_place}
use Rattle.cas_recovery.proofs.Standing.{AreAlike, all_listed, own_file}
use Rattle.cas_lasting.specs.Explained.{as_told, only, with_more}
use Rattle.cas_lasting.proofs.Parts.{HasParts, is_within, one_shard, one_table, there_at}

-- ---- times that are told, and mutations behind

turned : (a t b : ℤ) → int_max (int_max a t) b ≡ int_max (int_max a b) t
turned a t b = omega (arith, ints, clamps)

drawn_turned : (on : Bool) (a t b : ℤ) → (if on then int_max (int_max a t) b else int_max a t) ≡ int_max (if on then int_max a b else a) t
drawn_turned true a t b = turned a t b
drawn_turned false a t b = refl

abbrev timed : ShardOpening → ℤ → ℤ → ShardOpening
timed o drawn moment = record o { drawn = drawn; moment = moment }

told_step : (s : Saying) (n : ℕ) (own : Bool) (m : Mutation) (o : ShardOpening)
    → (if own then restored m (as_told s n o) else as_told s n o) ≡ as_told s n (if own then restored m o else o)
told_step s n true m o = ap₂ (timed (restored m o)) (drawn_turned m.drawn o.drawn (times_of s n).drawn m.at) (turned o.moment (times_of s n).moment m.moment)
told_step s n false m o = refl

-- the times that the manifest tells may be told before mutations or behind them
pub as_told_more : (s : Saying) (n : ℕ) (ms : List Mutation) (o : ShardOpening) → with_more n ms (as_told s n o) ≡ as_told s n (with_more n ms o)
as_told_more s n [] o = refl
as_told_more s n (m ∷ ms) o = ap (with_more n ms) (told_step s n (m.shard == n) m o) ∙ as_told_more s n ms (step n o m)

pub with_more_both : (n : ℕ) (xs ys : List Mutation) (o : ShardOpening) → with_more n (xs ++ ys) o ≡ with_more n ys (with_more n xs o)
with_more_both n xs ys o = fold-append (step n) o xs ys

-- ---- times of each shard

has_times_after : (s : Saying) (e : Entry) → length s.times ≡ s.shards → length (after s e).times ≡ (after s e).shards
has_times_after s (entry.Store shards) has = length-replicate shards no_times
has_times_after s (entry.Schema t) has = has
has_times_after s (entry.NewSegment n) has = has
has_times_after s (entry.DropSegment n) has = has
has_times_after s (entry.Change c) has = length_set s.times c.shard (times_after (times_of s c.shard) c) ∙ has
has_times_after s (entry.AddColumns table columns) has = has

has_times_all : (s : Saying) (entries : List Entry) → length s.times ≡ s.shards → length (fold after s entries).times ≡ (fold after s entries).shards
has_times_all s [] has = has
has_times_all s (e ∷ entries) has = has_times_all (after s e) entries (has_times_after s e has)

-- a manifest tells the times of each shard
pub has_times : (entries : List Entry) → length (said_by entries).times ≡ (said_by entries).shards
unfolding said_by
has_times entries = has_times_all nothing entries refl

-- ---- lists

every : {A : Type 0} (P : A → Type 0) → ((x : A) → P x) → (xs : List A) → AllByRecursion P xs
every P is [] = tt
every P is (x ∷ xs) = (is x, every P is xs)

weaker : {A : Type 0} (P Q : A → Type 0) → ((x : A) → P x → Q x) → (xs : List A) → AllByRecursion P xs → AllByRecursion Q xs
weaker P Q goes [] all = tt
weaker P Q goes (x ∷ xs) all = (goes x all.0, weaker P Q goes xs all.1)

all_stay : (is : List TableInfo) → filter (λ i. not (is_listed [] i.number)) is ≡ is
all_stay [] = refl
all_stay (i ∷ is) = ap (λ l. i ∷ l) (all_stay is)

either : {A : Type 0} (b : Bool) (x : A) → (if b then x else x) ≡ x
either true x = refl
either false x = refl

none_let : (ms : List Mutation) → filter (λ (m : Mutation). false) ms ≡ []
none_let [] = refl
none_let (m ∷ ms) = none_let ms

-- numbers that ascend by one to this one are below
first_below : (x k : ℕ) (xs : List ℕ) → AscendByOne (x ∷ xs ++ k ∷ []) → x < k
first_below x k [] ascend = omega (arith, ascend.0)
first_below x k (y ∷ xs) ascend = let rest = first_below y k xs ascend.1 in omega (arith, ascend.0, rest)

all_below : (k : ℕ) (xs : List ℕ) → AscendByOne (xs ++ k ∷ []) → AllByRecursion (λ x. x < k) xs
all_below k [] ascend = tt
all_below k (x ∷ []) ascend = (first_below x k [] ascend, tt)
all_below k (x ∷ y ∷ xs) ascend = (first_below x k (y ∷ xs) ascend, all_below k (y ∷ xs) ascend.1)

-- ---- mutations of one shard

-- no shard is later than another
record IsBefore (x y : ShardOpening) : Type 0 where
  number : x.number ≤ y.number
  drawn : x.drawn ≤ℤ y.drawn
  moment : x.moment ≤ℤ y.moment

drawn_both : (on : Bool) (x y at : ℤ) → x ≤ℤ y → (if on then int_max x at else x) ≤ℤ (if on then int_max y at else y)
drawn_both true x y at le = omega (arith, ints, clamps, le)
drawn_both false x y at le = le

drawn_more : (on : Bool) (x y at : ℤ) → x ≤ℤ y → x ≤ℤ (if on then int_max y at else y)
drawn_more true x y at le = omega (arith, ints, clamps, le)
drawn_more false x y at le = le

before_both : (m : Mutation) (x y : ShardOpening) → IsBefore x y → IsBefore (restored m x) (restored m y)
before_both m x y is = record {
  number = omega (arith, is.number);
  drawn = drawn_both m.drawn x.drawn y.drawn m.at is.drawn;
  moment = omega (arith, ints, clamps, is.moment);
}

before_more : (m : Mutation) (x y : ShardOpening) → IsBefore x y → IsBefore x (restored m y)
before_more m x y is = record {
  number = omega (arith, is.number);
  drawn = drawn_more m.drawn x.drawn y.drawn m.at is.drawn;
  moment = omega (arith, ints, clamps, is.moment);
}

module _ (n : ℕ) where
  abbrev IsBelow : ℕ → Mutation → Type 0
  IsBelow k m = (m.shard == n) ≡ true → m.number < k

  below_by : (own : Bool) (k number : ℕ) (others : List ℕ) → AllByRecursion (λ x. x < k) ((if own then number ∷ [] else []) ++ others)
      → (own ≡ true → number < k) × AllByRecursion (λ x. x < k) others
  below_by true k number others all = ((λ e. all.0), all.1)
  below_by false k number others all = ((λ e. absurd (false≢true e)), all)

  own_below : (k : ℕ) (ms : List Mutation) → AllByRecursion (λ x. x < k) (numbers_of n ms) → AllByRecursion (IsBelow k) ms
  own_below k [] all = tt
  own_below k (m ∷ ms) all = let one = below_by (m.shard == n) k m.number (numbers_of n ms) all in (one.0, own_below k ms one.1)

  -- one after another, those that a test lets through
  let_through : (b : Bool) (m : Mutation) (ms : List Mutation) (o : ShardOpening)
      → fold (step n) o (cond b (m ∷ ms) ms) ≡ fold (step n) (if b then step n o m else o) ms
  let_through true m ms o = refl
  let_through false m ms o = refl

  same_by : (a b own : Bool) (r o : ShardOpening) → (own ≡ true → a ≡ b) → (if a then (if own then r else o) else o) ≡ (if b then (if own then r else o) else o)
  same_by a b true r o agree = ap (λ (d : Bool). if d then r else o) (agree refl)
  same_by a b false r o agree = either a o ∙ sym (either b o)

  -- tests that agree on the shard's own let the same through of it
  same_found : (p q : Mutation → Bool) → ((m : Mutation) → (m.shard == n) ≡ true → p m ≡ q m) → (ms : List Mutation) (o : ShardOpening)
      → fold (step n) o (filter p ms) ≡ fold (step n) o (filter q ms)
  same_found p q agree [] o = refl
  same_found p q agree (m ∷ ms) o =
      let_through (p m) m (filter p ms) o
      ∙ ap (λ r. fold (step n) r (filter p ms)) (same_by (p m) (q m) (m.shard == n) (restored m o) o (agree m))
      ∙ same_found p q agree ms (if q m then step n o m else o) ∙ sym (let_through (q m) m (filter q ms) o)

  before_by : (a b own : Bool) (m : Mutation) (x y : ShardOpening) → (own ≡ true → a ≡ true → b ≡ true) → IsBefore x y
      → IsBefore (if a then (if own then restored m x else x) else x) (if b then (if own then restored m y else y) else y)
  before_by true true true m x y goes is = before_both m x y is
  before_by true false true m x y goes is = absurd (false≢true (goes refl refl))
  before_by false true true m x y goes is = before_more m x y is
  before_by false false true m x y goes is = is
  before_by true true false m x y goes is = is
  before_by true false false m x y goes is = is
  before_by false true false m x y goes is = is
  before_by false false false m x y goes is = is

  -- a test that lets fewer of its own through gives it no later
  before_found : (p q : Mutation → Bool) (ms : List Mutation) → AllByRecursion (λ m. (m.shard == n) ≡ true → p m ≡ true → q m ≡ true) ms → (x y : ShardOpening)
      → IsBefore x y → IsBefore (fold (step n) x (filter p ms)) (fold (step n) y (filter q ms))
  before_found p q [] goes x y is = is
  before_found p q (m ∷ ms) goes x y is =
      let one = before_by (p m) (q m) (m.shard == n) m x y goes.0 is in
      subst (λ a. IsBefore a (fold (step n) y (filter q (m ∷ ms)))) (sym (let_through (p m) m (filter p ms) x))
      (subst (λ b. IsBefore (fold (step n) (if p m then step n x m else x) (filter p ms)) b) (sym (let_through (q m) m (filter q ms) y))
      (before_found p q ms goes.1 (if p m then step n x m else x) (if q m then step n y m else y) one))

-- ---- of one table

module _ (n table : ℕ) where
  abbrev own : Mutation → List Mutation
  own m = if m.shard == n then of_table table (Wrote 0 0 m) else []

  own_by : (b : Bool) (m : Mutation) (o : ShardOpening)
      → mutations_of table (if b then restored m o else o).entries ≡ mutations_of table o.entries ++ (if b then of_table table (Wrote 0 0 m) else [])
  own_by true m o =
      flat_map-append (of_table table) o.entries (Wrote 0 0 m ∷ []) ∙ ap (λ l. mutations_of table o.entries ++ l) (append-nil (of_table table (Wrote 0 0 m)))
  own_by false m o = sym (append-nil (mutations_of table o.entries))

  own_all : (ms : List Mutation) (o : ShardOpening) → mutations_of table (fold (step n) o ms).entries ≡ mutations_of table o.entries ++ flat_map own ms
  own_all [] o = sym (append-nil (mutations_of table o.entries))
  own_all (m ∷ ms) o =
      own_all ms (step n o m) ∙ ap (λ l. l ++ flat_map own ms) (own_by (m.shard == n) m o)
      ∙ append_assoc (mutations_of table o.entries) (own m) (flat_map own ms)

  own_through : (b : Bool) (m : Mutation) (ms : List Mutation) → flat_map own (cond b (m ∷ ms) ms) ≡ (if b then own m else []) ++ flat_map own ms
  own_through true m ms = refl
  own_through false m ms = refl

  alike_by : (a b here there : Bool) (m : Mutation) → (here ≡ true → there ≡ true → a ≡ b)
      → (if a then (if here then (if there then m ∷ [] else []) else []) else []) ≡ (if b then (if here then (if there then m ∷ [] else []) else []) else [])
  alike_by a b true true m agree = ap (λ (d : Bool). if d then m ∷ [] else []) (agree refl refl)
  alike_by a b true false m agree = either a [] ∙ sym (either b [])
  alike_by a b false there m agree = either a [] ∙ sym (either b [])

  own_alike : (p q : Mutation → Bool) (ms : List Mutation) → AllByRecursion (λ m. (m.shard == n) ≡ true → (m.table == table) ≡ true → p m ≡ q m) ms
      → flat_map own (filter p ms) ≡ flat_map own (filter q ms)
  own_alike p q [] agree = refl
  own_alike p q (m ∷ ms) agree =
      own_through (p m) m (filter p ms)
      ∙ ap₂ (λ xs ys. xs ++ ys) (alike_by (p m) (q m) (m.shard == n) (m.table == table) m agree.0) (own_alike p q ms agree.1)
      ∙ sym (own_through (q m) m (filter q ms))

  -- tests that agree on the table's own in the shard let the same through of it
  same_own : (p q : Mutation → Bool) (ms : List Mutation) → AllByRecursion (λ m. (m.shard == n) ≡ true → (m.table == table) ≡ true → p m ≡ q m) ms
      → mutations_of table (found_in n (filter p ms)).entries ≡ mutations_of table (found_in n (filter q ms)).entries
  same_own p q ms agree = own_all (filter p ms) empty_shard ∙ own_alike p q ms agree ∙ sym (own_all (filter q ms) empty_shard)

  none_own : (p : Mutation → Bool) (ms : List Mutation) → AllByRecursion (λ m. (m.shard == n) ≡ true → (m.table == table) ≡ true → p m ≡ false) ms
      → mutations_of table (found_in n (filter p ms)).entries ≡ []
  none_own p ms none = same_own p (λ m. false) ms none ∙ ap (λ l. mutations_of table (found_in n l).entries) (none_let ms)

-- ---- files that are alike

pub file_alike : (t : TableSchema) (shard : ℕ) (c d : Image) (i : TableInfo) (ws : List Mutation) → d (table_name i.number) ≡ c (table_name i.number)
    → StandIn t shard c i ws → StandIn t shard d i ws
file_alike t shard c d i ws alike stand = record {
  contents = stand.contents;
  file = record {
    facts = stand.file.facts;
    fits = stand.file.fits;
    of_atoms = stand.file.of_atoms;
    table_is = stand.file.table_is;
    shard_is = stand.file.shard_is;
    listed = stand.file.listed;
    there = alike ∙ stand.file.there;
  };
  says = stand.says;
  none = stand.none;
}

files_alike : (t : TableSchema) (shard : ℕ) (c d : Image) (infos : List TableInfo) (wss : List (List Mutation)) → AreAlike c d infos
    → StandInFiles t shard c infos wss → StandInFiles t shard d infos wss
files_alike t shard c d [] [] alike stand = tt
files_alike t shard c d [] (ws ∷ wss) alike stand = absurd stand
files_alike t shard c d (i ∷ infos) [] alike stand = absurd stand
files_alike t shard c d (i ∷ infos) (ws ∷ wss) alike stand = (file_alike t shard c d i ws alike.0 stand.0, files_alike t shard c d infos wss alike.1 stand.1)

one_file_more : (t : TableSchema) (shard : ℕ) (c : Image) (infos : List TableInfo) (wss : List (List Mutation)) (i : TableInfo) (ws : List Mutation)
    → StandInFiles t shard c infos wss → StandIn t shard c i ws → StandInFiles t shard c (infos ++ i ∷ []) (wss ++ ws ∷ [])
one_file_more t shard c [] [] i ws stand one = (one, tt)
one_file_more t shard c [] (vs ∷ wss) i ws stand one = absurd stand
one_file_more t shard c (j ∷ infos) [] i ws stand one = absurd stand
one_file_more t shard c (j ∷ infos) (vs ∷ wss) i ws stand one = (stand.0, one_file_more t shard c infos wss i ws stand.1 one)

pub alike_then : (c d e : Image) (infos : List TableInfo) → AreAlike c d infos → Same d e → AreAlike c e infos
alike_then c d e [] alike same = tt
alike_then c d e (i ∷ infos) alike same = (same (table_name i.number) ∙ alike.0, alike_then c d e infos alike.1 same)

-- ---- what is said after the change

module _ (s : Saying) (c : Change) (shard : c.shard < s.shards) where
  abbrev u : Saying
  u = change_after s c

  part_apart : (table n : ℕ) → place_in s table n ≢ place_in s c.table c.shard → part_of u table n ≡ part_of s table n
  part_apart table n apart =
      ap (λ (o : Option Part). unwrap_or o no_part)
      (get_other s.parts (place_in s c.table c.shard) (place_in s table n) (part_after (part_of s c.table c.shard) c) apart)

  other_shard : (table n : ℕ) → n < s.shards → n ≢ c.shard → part_of u table n ≡ part_of s table n
  other_shard table n low apart = part_apart table n (λ e. apart (one_shard table c.table n c.shard s.shards low shard e))

  other_table : (table : ℕ) → table ≢ c.table → part_of u table c.shard ≡ part_of s table c.shard
  other_table table apart = part_apart table c.shard (λ e. apart (one_table table c.table c.shard c.shard s.shards shard shard e))

  its_part : length s.parts ≡ length s.tables * s.shards → c.table < length s.tables → part_of u c.table c.shard ≡ part_after (part_of s c.table c.shard) c
  its_part few table =
      let has : HasParts s = record { many = few; first = λ e. absurd (omega (arith, e, shard)) } in
      let (p, at) = there_at s.parts (place_in s c.table c.shard) (is_within s c.table c.shard has table shard) in
      ap (λ (o : Option Part). unwrap_or o no_part) (get_here s.parts (place_in s c.table c.shard) p (part_after (part_of s c.table c.shard) c) at)

  other_times : (n : ℕ) → n ≢ c.shard → times_of u n ≡ times_of s n
  other_times n apart = ap (λ (o : Option ShardTimes). unwrap_or o no_times) (get_other s.times c.shard n (times_after (times_of s c.shard) c) apart)

  its_times : length s.times ≡ s.shards → times_of u c.shard ≡ times_after (times_of s c.shard) c
  its_times told =
      let (t, at) = there_at s.times c.shard (omega (arith, told, shard)) in
      ap (λ (o : Option ShardTimes). unwrap_or o no_times) (get_here s.times c.shard t (times_after (times_of s c.shard) c) at)

-- the frontiers of a shard's tables are no greater than the greatest
reaches : (s : Saying) (n table count : ℕ) → table < count → (part_of s table n).frontier ≤ greatest_frontier s n count
reaches s n table zero low = absurd (omega (arith, low))
reaches s n table (suc count) low = by (reaches s n table count) (same_place table count)
  where
    by : (table < count → (part_of s table n).frontier ≤ greatest_frontier s n count) → (table ≡ count) ⊎ (table ≢ count)
        → (part_of s table n).frontier ≤ max (greatest_frontier s n count) (part_of s count n).frontier
    by before (inl e) = subst (λ k. (part_of s k n).frontier ≤ max (greatest_frontier s n count) (part_of s count n).frontier) (sym e) (omega arith)
    by before (inr apart) = let below = before (omega (arith, low, apart)) in omega (arith, below)

-- ---- where the change is of another shard, or table

module _ (s : Saying) (b i : Image) (same : (number : ℕ) → IsListedTable s number → i (table_name number) ≡ b (table_name number)) where
  -- the listed files say it in the new image too
  says_still : (table n : ℕ) (t : TableSchema) (log all : List Mutation) → slice_get s.tables table ≡ Some t → n < s.shards
      → SayAll (only b) t n (part_of s table n).listed log all → SayAll (only i) t n (part_of s table n).listed log all
  says_still table n t log all there low say =
      let infos = (part_of s table n).listed in
      let alike : AreAlike b i infos = all_listed s b i table n infos (get_within s.tables table t there) low same (own_file infos infos (λ k has. has)) in
      record {
        written = say.written;
        stand = λ d here. files_alike t n b d infos say.written (alike_then b i d infos alike here) (say.stand b (λ k. refl));
        says = say.says;
      }

module _ (s : Saying) (c : Change) (shard : c.shard < s.shards) (ms : List Mutation) (b i : Image)
    (same : (number : ℕ) → IsListedTable s number → i (table_name number) ≡ b (table_name number)) (n : ℕ) (low : n < s.shards) (apart : n ≢ c.shard) where
  above_apart : (m : Mutation) → (m.shard == n) ≡ true → is_above (change_after s c) m ≡ is_above s m
  above_apart m own =
      let here : m.shard ≡ n = eqb-true m.shard n own in
      ap (λ (p : Part). nat_lt p.frontier m.number)
      (subst (λ k. part_of (change_after s c) m.table k ≡ part_of s m.table k) (sym here) (other_shard s c shard m.table n low apart))

  found_apart : found_in n (unflushed_of (change_after s c) ms) ≡ found_in n (unflushed_of s ms)
  found_apart = same_found n (is_above (change_after s c)) (is_above s) above_apart ms empty_shard

  greatest_apart : (count : ℕ) → greatest_frontier (change_after s c) n count ≡ greatest_frontier s n count
  greatest_apart zero = refl
  greatest_apart (suc k) =
      ap (λ j. max j (part_of (change_after s c) k n).frontier) (greatest_apart k)
      ∙ ap (λ (p : Part). max (greatest_frontier s n k) p.frontier) (other_shard s c shard k n low apart)

  opening_apart : (o : ShardOpening) → IsOpening s ms (only b) n o → IsOpening (change_after s c) ms (only i) n o
  opening_apart o is =
      let times = other_times s c shard n apart in
      let found = found_in n (unflushed_of (change_after s c) ms) in
      record {
        rise = is.rise;
        number = is.number ∙ ap (λ (p : ShardOpening). max p.number (greatest_frontier s n (length s.tables))) (sym found_apart)
            ∙ ap (λ k. max found.number k) (sym (greatest_apart (length s.tables)));
        goes_on = is.goes_on;
        drawn = is.drawn ∙ ap (λ (p : ShardOpening). int_max p.drawn (times_of s n).drawn) (sym found_apart)
            ∙ ap (λ (t : ShardTimes). int_max found.drawn t.drawn) (sym times);
        moment = is.moment ∙ ap (λ (p : ShardOpening). int_max p.moment (times_of s n).moment) (sym found_apart)
            ∙ ap (λ (t : ShardTimes). int_max found.moment t.moment) (sym times);
        says = λ table t there.
            let all = mutations_of table o.entries in
            subst (λ (p : Part). SayAll (only i) t n p.listed (mutations_of table found.entries) all) (sym (other_shard s c shard table n low apart))
            (subst (λ (p : ShardOpening). SayAll (only i) t n (part_of s table n).listed (mutations_of table p.entries) all) (sym found_apart)
            (says_still s b i same table n t _ all there low (is.says table t there)));
        no_others = is.no_others;
      }

-- ---- its log

-- by what its frontier says of the numbers of the log's mutations
module _ (s : Saying) (c : Change) (few : length s.parts ≡ length s.tables * s.shards) (table : c.table < length s.tables) (shard : c.shard < s.shards) (ms : List Mutation)
    (last : ℕ) (frontier : c.frontier ≡ last) (ascend : AscendByOne (numbers_of c.shard ms ++ (last + 1) ∷ [])) where
  abbrev after_it : Saying
  after_it = change_after s c

  frontier_here : (part_of after_it c.table c.shard).frontier ≡ last
  frontier_here = ap (λ (p : Part). p.frontier) (its_part s c shard few table) ∙ frontier

  not_above : (m : Mutation) → IsBelow c.shard (last + 1) m → (m.shard == c.shard) ≡ true → (m.table == c.table) ≡ true → is_above after_it m ≡ false
  not_above m below own of =
      let under : m.number < last + 1 = below own in
      subst (λ k. nat_lt (part_of after_it m.table k).frontier m.number ≡ false) (sym (eqb-true m.shard c.shard own))
      (subst (λ k. nat_lt (part_of after_it k c.shard).frontier m.number ≡ false) (sym (eqb-true m.table c.table of))
      (le-ltb (part_of after_it c.table c.shard).frontier m.number (omega (arith, frontier_here, under))))

  same_above : (m : Mutation) → (m.shard == c.shard) ≡ true → m.table ≢ c.table → is_above after_it m ≡ is_above s m
  same_above m own apart =
      ap (λ (p : Part). nat_lt p.frontier m.number)
      (subst (λ k. part_of after_it m.table k ≡ part_of s m.table k) (sym (eqb-true m.shard c.shard own)) (other_table s c shard m.table apart))

  all_under : AllByRecursion (IsBelow c.shard (last + 1)) ms
  all_under = own_below c.shard (last + 1) ms (all_below (last + 1) (numbers_of c.shard ms) ascend)

  pub no_log : mutations_of c.table (found_in c.shard (unflushed_of after_it ms)).entries ≡ []
  no_log = none_own c.shard c.table (is_above after_it) ms (weaker _ _ not_above ms all_under)

  pub same_log : (k : ℕ) → k ≢ c.table → mutations_of k (found_in c.shard (unflushed_of after_it ms)).entries ≡ mutations_of k (found_in c.shard (unflushed_of s ms)).entries
  same_log k apart =
      same_own c.shard k (is_above after_it) (is_above s) ms
      (every _ (λ m own of. same_above m own (λ e. apart (sym (eqb-true m.table k of) ∙ e))) ms)

-- the log of another shard is what it was
pub other_log : (s : Saying) (c : Change) (shard : c.shard < s.shards) (ms : List Mutation) (n : ℕ) → n < s.shards → n ≢ c.shard
    → found_in n (unflushed_of (change_after s c) ms) ≡ found_in n (unflushed_of s ms)
other_log s c shard ms n low apart = found_apart s c shard ms (λ k. None) (λ k. None) (λ number is. refl) n low apart

-- ---- where it is of this shard

-- The change is of a flush of this shard as it was: its frontier and its times are no less than the shard's, and the file that it lists says just what the
-- log has of its table.
pub record IsFlushed (s : Saying) (c : Change) (told : TableInfo) (ms : List Mutation) (i : Image) (n : ℕ) (o : ShardOpening) : Type 0 where
  pub frontier : c.frontier ≡ o.number
  pub drawn : o.drawn ≤ℤ c.drawn
  pub moment : o.moment ≤ℤ c.moment
  pub new : (t : TableSchema) → slice_get s.tables c.table ≡ Some t
      → (ws : List Mutation) × StandIn t c.shard i told ws × SaySame ws (mutations_of c.table (found_in n (unflushed_of s ms)).entries)

told_greater : (o f g t c : ℤ) → int_max o t ≡ int_max f t → g ≤ℤ f → o ≤ℤ c → int_max o (int_max t c) ≡ int_max g (int_max t c)
told_greater o f g t c is less low = omega (arith, ints, clamps, is, less, low)

module _ (s : Saying) (c : Change) (told : TableInfo) (few : length s.parts ≡ length s.tables * s.shards) (times : length s.times ≡ s.shards)
    (table : c.table < length s.tables) (shard : c.shard < s.shards) (removed : c.removed ≡ []) (added : c.added ≡ told ∷ []) (ms : List Mutation) (b i : Image)
    (same : (number : ℕ) → IsListedTable s number → i (table_name number) ≡ b (table_name number)) (o : ShardOpening)
    (is : IsOpening s ms (only b) c.shard (as_told s c.shard o)) (flushed : IsFlushed s c told ms i c.shard o) where
  abbrev now : Saying
  now = change_after s c

  abbrev was : ShardOpening
  was = found_in c.shard (unflushed_of s ms)

  abbrev found : ShardOpening
  found = found_in c.shard (unflushed_of now ms)

  number_is : c.frontier ≡ o.number
  number_is = flushed.frontier

  its_frontier : (part_of now c.table c.shard).frontier ≡ o.number
  its_frontier = frontier_here s c few table shard ms o.number number_is is.goes_on

  fewer : (m : Mutation) → IsBelow c.shard (o.number + 1) m → (m.shard == c.shard) ≡ true → is_above now m ≡ true → is_above s m ≡ true
  fewer m below own above = by (same_place m.table c.table)
    where
      by : (m.table ≡ c.table) ⊎ (m.table ≢ c.table) → is_above s m ≡ true
      by (inl e) = absurd (true≢false (sym above ∙ not_above s c few table shard ms o.number number_is is.goes_on m below own (ap (λ k. k == c.table) e ∙ is_same c.table)))
      by (inr apart) = sym (same_above s c few table shard ms o.number number_is is.goes_on m own apart) ∙ above

  less : IsBefore found was
  less =
      before_found c.shard (is_above now) (is_above s) ms (weaker _ _ fewer ms (all_under s c few table shard ms o.number number_is is.goes_on)) empty_shard empty_shard
      (record { number = omega arith; drawn = omega (arith, ints); moment = omega (arith, ints) })

  -- ---- its numbers and times

  greatest_then : (count : ℕ) → greatest_frontier now c.shard count ≤ max (greatest_frontier s c.shard count) o.number
  greatest_then zero = omega arith
  greatest_then (suc k) = by (greatest_then k) (same_place k c.table)
    where
      by : greatest_frontier now c.shard k ≤ max (greatest_frontier s c.shard k) o.number → (k ≡ c.table) ⊎ (k ≢ c.table)
          → max (greatest_frontier now c.shard k) (part_of now k c.shard).frontier
          ≤ max (max (greatest_frontier s c.shard k) (part_of s k c.shard).frontier) o.number
      by so_far (inl e) =
          let here : (part_of now k c.shard).frontier ≡ o.number = subst (λ j. (part_of now j c.shard).frontier ≡ o.number) (sym e) its_frontier in
          omega (arith, so_far, here)
      by so_far (inr apart) =
          let still : (part_of now k c.shard).frontier ≡ (part_of s k c.shard).frontier = ap (λ (p : Part). p.frontier) (other_table s c shard k apart) in
          omega (arith, so_far, still)

  number_then : o.number ≡ max found.number (greatest_frontier now c.shard (length s.tables))
  number_then =
      let count = length s.tables in
      let reached : (part_of now c.table c.shard).frontier ≤ greatest_frontier now c.shard count = reaches now c.shard c.table count table in
      let most : greatest_frontier now c.shard count ≤ max (greatest_frontier s c.shard count) o.number = greatest_then count in
      let before : found.number ≤ was.number = less.number in
      let had : o.number ≡ max was.number (greatest_frontier s c.shard count) = is.number in
      omega (arith, reached, its_frontier, most, before, had)

  drawn_then : int_max o.drawn (times_of now c.shard).drawn ≡ int_max found.drawn (times_of now c.shard).drawn
  drawn_then =
      subst (λ (t : ShardTimes). int_max o.drawn t.drawn ≡ int_max found.drawn t.drawn) (sym (its_times s c shard times))
      (told_greater o.drawn was.drawn found.drawn (times_of s c.shard).drawn c.drawn is.drawn less.drawn flushed.drawn)

  moment_then : int_max o.moment (times_of now c.shard).moment ≡ int_max found.moment (times_of now c.shard).moment
  moment_then =
      subst (λ (t : ShardTimes). int_max o.moment t.moment ≡ int_max found.moment t.moment) (sym (its_times s c shard times))
      (told_greater o.moment was.moment found.moment (times_of s c.shard).moment c.moment is.moment less.moment flushed.moment)

  -- ---- its files

  its_files : (part_of now c.table c.shard).listed ≡ (part_of s c.table c.shard).listed ++ told ∷ []
  its_files =
      ap (λ (p : Part). p.listed) (its_part s c shard few table)
      ∙ ap (λ (ns : List ℕ). filter (λ i. not (is_listed ns i.number)) (part_of s c.table c.shard).listed ++ c.added) removed
      ∙ ap (λ (is : List TableInfo). is ++ c.added) (all_stay (part_of s c.table c.shard).listed)
      ∙ ap (λ (is : List TableInfo). (part_of s c.table c.shard).listed ++ is) added

  says_new : (t : TableSchema) → slice_get s.tables c.table ≡ Some t
      → SayAll (only i) t c.shard ((part_of s c.table c.shard).listed ++ told ∷ []) [] (mutations_of c.table o.entries)
  says_new t there =
      let infos = (part_of s c.table c.shard).listed in
      let log = mutations_of c.table was.entries in
      let all = mutations_of c.table o.entries in
      let say = says_still s b i same c.table c.shard t log all there shard (is.says c.table t there) in
      let (ws, stands, says) = flushed.new t there in
      let joined : all_of (say.written ++ ws ∷ []) ++ [] ≡ all_of say.written ++ ws =
      append-nil (all_of (say.written ++ ws ∷ [])) ∙ flat_map-append (λ (l : List Mutation). l) say.written (ws ∷ [])
      ∙ ap (λ l. all_of say.written ++ l) (append-nil ws) in
      record {
        written = say.written ++ ws ∷ [];
        stand = λ d here.
            one_file_more t c.shard d infos say.written told ws (say.stand d here) (file_alike t c.shard i d told ws (here (table_name told.number)) stands);
        says =
            subst (λ l. SaySame l all) (sym joined)
            (say_then (all_of say.written ++ ws) (all_of say.written ++ log) all (say_behind (all_of say.written) ws log says) say.says);
      }

  says_by : (k : ℕ) (t : TableSchema) → slice_get s.tables k ≡ Some t → (k ≡ c.table) ⊎ (k ≢ c.table)
      → SayAll (only i) t c.shard (part_of now k c.shard).listed (mutations_of k found.entries) (mutations_of k o.entries)
  says_by k t there (inl e) =
      subst (λ j. SayAll (only i) t c.shard (part_of now j c.shard).listed (mutations_of j found.entries) (mutations_of j o.entries)) (sym e)
      (subst (λ infos. SayAll (only i) t c.shard infos (mutations_of c.table found.entries) (mutations_of c.table o.entries)) (sym its_files)
      (subst (λ log. SayAll (only i) t c.shard ((part_of s c.table c.shard).listed ++ told ∷ []) log (mutations_of c.table o.entries)) (sym (no_log s c few table shard ms o.number number_is is.goes_on))
      (says_new t (subst (λ j. slice_get s.tables j ≡ Some t) e there))))
  says_by k t there (inr apart) =
      subst (λ (p : Part). SayAll (only i) t c.shard p.listed (mutations_of k found.entries) (mutations_of k o.entries)) (sym (other_table s c shard k apart))
      (subst (λ log. SayAll (only i) t c.shard (part_of s k c.shard).listed log (mutations_of k o.entries)) (sym (same_log s c few table shard ms o.number number_is is.goes_on k apart))
      (says_still s b i same k c.shard t (mutations_of k was.entries) (mutations_of k o.entries) there shard (is.says k t there)))

  opening_here : IsOpening now ms (only i) c.shard (as_told now c.shard o)
  opening_here = record {
    rise = record { ascend = is.rise.ascend; found = is.rise.found; rise = is.rise.rise };
    number = number_then;
    goes_on = is.goes_on;
    drawn = drawn_then;
    moment = moment_then;
    says = λ k t there. says_by k t there (same_place k c.table);
    no_others = is.no_others;
  }

-- ---- whichever shard it is of

-- After a change that lists one file more, a shard may have been what it may have been before, by what the manifest tells of its times: where the change is
-- of the shard, its file says what the log had of the table.
pub opening_changed : (s : Saying) (c : Change) (told : TableInfo) → length s.parts ≡ length s.tables * s.shards → length s.times ≡ s.shards
    → c.table < length s.tables → c.shard < s.shards → c.removed ≡ [] → c.added ≡ told ∷ [] → (ms : List Mutation) (b i : Image)
    → ((number : ℕ) → IsListedTable s number → i (table_name number) ≡ b (table_name number)) → (n : ℕ) → n < s.shards → (o : ShardOpening)
    → IsOpening s ms (only b) n (as_told s n o) → (n ≡ c.shard → IsFlushed s c told ms i n o)
    → IsOpening (change_after s c) ms (only i) n (as_told (change_after s c) n o)
opening_changed s c told few times table shard removed added ms b i same n low o is flushed = by (same_place n c.shard)
  where
    here : (k : ℕ) → k ≡ c.shard → IsOpening s ms (only b) k (as_told s k o) → IsFlushed s c told ms i k o
        → IsOpening (change_after s c) ms (only i) k (as_told (change_after s c) k o)
    here k e may new =
        subst (λ j. IsOpening (change_after s c) ms (only i) j (as_told (change_after s c) j o)) (sym e)
        (opening_here s c told few times table shard removed added ms b i same o (subst (λ j. IsOpening s ms (only b) j (as_told s j o)) e may)
        (subst (λ j. IsFlushed s c told ms i j o) e new))

    by : (n ≡ c.shard) ⊎ (n ≢ c.shard) → IsOpening (change_after s c) ms (only i) n (as_told (change_after s c) n o)
    by (inl e) = here n e is (flushed e)
    by (inr apart) =
        let alike : as_told s n o ≡ as_told (change_after s c) n o =
        ap (λ (t : ShardTimes). record o { drawn = int_max o.drawn t.drawn; moment = int_max o.moment t.moment }) (sym (other_times s c shard n apart)) in
        subst (λ (p : ShardOpening). IsOpening (change_after s c) ms (only i) n p) alike (opening_apart s c shard ms b i same n low apart (as_told s n o) is)
