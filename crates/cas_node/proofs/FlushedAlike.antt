-- Two flushes of one store that end well, whatever its disk was asked before, list files in the same shards, of the same numbers.
use Rattle.std.proofs.Common.{◌≡◌, ⊎_elim, ◌<◌, ◌≤◌, ◌+◌, ℕ, zero, suc, false, List, [], ◌∷◌, ◌++◌, length, map, append-nil, Option, None, Some, is_some, Ok, refl, sym, ap, ◌∙◌, subst, arith}
use Rattle.std.specs.Prelude.{◌==◌, ◌&&◌, if◌then◌else◌, IfSome}
use Rattle.std.specs.List.{fold}
use Rattle.std.proofs.lemmas.Bool.{true≢false}
use Rattle.std.proofs.lemmas.List.{map-append}
use Rattle.cas_types.specs.declared.schema.TableSchema.{TableSchema}
use Rattle.cas_changes.specs.declared.entry.Change.{Change}
use Rattle.cas_info.specs.declared.info.TableInfo.{TableInfo}
use Rattle.cas_room.specs.Changing.{added_by}
use Rattle.cas_shard.specs.Shards.{ShardHistory}
use Rattle.cas_sstread.specs.Loading.{Held}
use Rattle.cas_view.specs.Views.{File}
use Rattle.cas_sessions.specs.Filling.{FlushesIn, SaysNone, listed_of}
use Rattle.cas_lasting.specs.Flushed.{filled_with, rest_with, AscendTo, Flushed, Grows, ListsOne, SaySomething, change_of, changes_by, numbers_added, numbers_in, without_begun, without_flushed}
use Rattle.cas_sessions.specs.Flushes.{EndsSo}
use Rattle.cas_lasting.specs.History.{History, DiskState, shard_at}
use Rattle.cas_lasting.specs.Status.{file_numbers}
use Rattle.cas_node.specs.Laws.{SameStore, by_numbers}
use Rattle.cas_node.proofs.Stopping.{same_or_not}

-- ---- changes that are the same by the numbers of their files

abbrev Alike : Option Change → Option Change → Type 0
Alike None None = Unit {0}
Alike (Some c) (Some d) = by_numbers c ≡ by_numbers d
Alike None (Some d) = ⊥
Alike (Some c) None = ⊥

abbrev AreAlike : List (Option Change) → List (Option Change) → Type 0
AreAlike [] [] = Unit {0}
AreAlike (c ∷ cs) (d ∷ ds) = Alike c d × AreAlike cs ds
AreAlike [] (d ∷ ds) = ⊥
AreAlike (c ∷ cs) [] = ⊥

its_numbers : (c d : Option Change) → Alike c d → numbers_in c ≡ numbers_in d
its_numbers None None a = refl
its_numbers None (Some d) a = absurd a
its_numbers (Some c) None a = absurd a
its_numbers (Some c) (Some d) a = ap (λ (p : Change × List ℕ). p.1) a

there_or_not : (c d : Option Change) → Alike c d → is_some c ≡ is_some d
there_or_not None None a = refl
there_or_not None (Some d) a = absurd a
there_or_not (Some c) None a = absurd a
there_or_not (Some c) (Some d) a = refl

told_with : (a b : List Change) (c d : Option Change) → Alike c d → map by_numbers a ≡ map by_numbers b
    → map by_numbers (changes_by a c) ≡ map by_numbers (changes_by b d)
told_with a b None None x same = same
told_with a b None (Some d) x same = absurd x
told_with a b (Some c) None x same = absurd x
told_with a b (Some c) (Some d) x same =
    map-append by_numbers a (c ∷ []) ∙ (λ i. same i ++ x i ∷ []) ∙ sym (map-append by_numbers b (d ∷ []))

all_numbers : (cs ds : List (Option Change)) → AreAlike cs ds → numbers_added cs ≡ numbers_added ds
all_numbers [] [] a = refl
all_numbers [] (d ∷ ds) a = absurd a
all_numbers (c ∷ cs) [] a = absurd a
all_numbers (c ∷ cs) (d ∷ ds) a = λ i. its_numbers c d a.0 i ++ all_numbers cs ds a.1 i

of_shard : (cs ds : List (Option Change)) → AreAlike cs ds → (n : ℕ) → Alike (change_of cs n) (change_of ds n)
of_shard [] [] a n = tt
of_shard [] (d ∷ ds) a n = absurd a
of_shard (c ∷ cs) [] a n = absurd a
of_shard (c ∷ cs) (d ∷ ds) a zero = a.0
of_shard (c ∷ cs) (d ∷ ds) a (suc n) = of_shard cs ds a.1 n

all_told : (a b : List Change) (cs ds : List (Option Change)) → AreAlike cs ds → map by_numbers a ≡ map by_numbers b
    → map by_numbers (fold changes_by a cs) ≡ map by_numbers (fold changes_by b ds)
all_told a b [] [] x same = same
all_told a b [] (d ∷ ds) x same = absurd x
all_told a b (c ∷ cs) [] x same = absurd x
all_told a b (c ∷ cs) (d ∷ ds) x same = all_told (changes_by a c) (changes_by b d) cs ds x.1 (told_with a b c d x.0 same)

-- ---- changes that are the same but for their files, of which each has one

record Near (c d : Change) : Type 0 where
  told : record c { added = [] } ≡ record d { added = [] }
  one : length (added_by c) ≡ 1
  other : length (added_by d) ≡ 1

abbrev AreNear : Option Change → Option Change → Type 0
AreNear None None = Unit {0}
AreNear (Some c) (Some d) = Near c d
AreNear None (Some d) = ⊥
AreNear (Some c) None = ⊥

one_file : (table shard : ℕ) (s : ShardHistory) (f : File Held) (c : Change) → ListsOne table shard s f c → length (added_by c) ≡ 1
one_file table shard s f c lists = ap (λ (is : List TableInfo). length (map (λ i. i.number) is)) lists.added

both_list : (table shard : ℕ) (s : ShardHistory) (f g : File Held) (c d : Change) → ListsOne table shard s f c → ListsOne table shard s g d → Near c d
both_list table shard s f g c d a b = record {
  told = λ i.
      record {
        table = (a.of_table ∙ sym b.of_table) i;
        shard = (a.of_shard ∙ sym b.of_shard) i;
        moment = (a.moment ∙ sym b.moment) i;
        frontier = (a.frontier ∙ sym b.frontier) i;
        drawn = (a.drawn ∙ sym b.drawn) i;
        removed = (a.removed ∙ sym b.removed) i;
        added = [];
      };
  one = one_file table shard s f c a;
  other = one_file table shard s g d b;
}

both_grow : (table shard : ℕ) (s : ShardHistory) (c d : Option Change) (old now was is : List (File Held)) → Grows table shard s c old now → Grows table shard s d was is
    → is_some c ≡ is_some d → AreNear c d
both_grow table shard s None None old now was is a b e = tt
both_grow table shard s None (Some d) old now was is a b e = absurd (true≢false (sym e))
both_grow table shard s (Some c) None old now was is a b e = absurd (true≢false e)
both_grow table shard s (Some c) (Some d) old now was is a b e = both_list table shard s a.0 b.0 c d a.2 b.2

-- ---- numbers that are just the next ones

as_low : (n : ℕ) (ks : List ℕ) (last : ℕ) → AscendTo n ks last → n + length ks ≤ last
as_low n [] last a = omega (arith, a)
as_low n (k ∷ ks) last a = let rest = as_low k ks last a.1 in omega (arith, a.0, rest)

-- the numbers ascend just to the last that there may be
abbrev IsNext : ℕ → List ℕ → Type 0
IsNext n ks = AscendTo n ks (n + length ks)

the_next : (n k : ℕ) (ks : List ℕ) → IsNext n (k ∷ ks) → k ≡ n + 1
the_next n k ks a = let rest = as_low k ks (n + length (k ∷ ks)) a.1 in omega (arith, a.0, rest)

the_rest : (n k : ℕ) (ks : List ℕ) → IsNext n (k ∷ ks) → IsNext k ks
the_rest n k ks a =
    let next = the_next n k ks a in
    let last : n + length (k ∷ ks) ≡ k + length ks = omega (arith, next) in
    subst (AscendTo k ks) last a.1

only : (xs : List ℕ) → length xs ≡ 1 → (x : ℕ) × (xs ≡ x ∷ [])
only [] e = absurd (omega (arith, e))
only (x ∷ []) e = (x, refl)
only (x ∷ y ∷ ys) e = absurd (omega (arith, e))

alike : (n : ℕ) (cs ds : List (Option Change)) → length cs ≡ length ds → ((m : ℕ) → m < length cs → AreNear (change_of cs m) (change_of ds m))
    → IsNext n (numbers_added cs) → IsNext n (numbers_added ds) → AreAlike cs ds
alike n [] [] long near a b = tt
alike n [] (d ∷ ds) long near a b = absurd (omega (arith, long))
alike n (c ∷ cs) [] long near a b = absurd (omega (arith, long))
alike n (None ∷ cs) (None ∷ ds) long near a b = (tt, alike n cs ds (omega (arith, long)) (λ m low. near (suc m) (omega (arith, low))) a b)
alike n (None ∷ cs) (Some d ∷ ds) long near a b = absurd (near zero (omega arith))
alike n (Some c ∷ cs) (None ∷ ds) long near a b = absurd (near zero (omega arith))
alike n (Some c ∷ cs) (Some d ∷ ds) long near a b =
    let here : Near c d = near zero (omega arith) in
    let (k, is) = only (added_by c) here.one in
    let (l, are) = only (added_by d) here.other in
    let one : IsNext n (k ∷ numbers_added cs) = subst (λ ks. IsNext n (ks ++ numbers_added cs)) is a in
    let two : IsNext n (l ∷ numbers_added ds) = subst (λ ks. IsNext n (ks ++ numbers_added ds)) are b in
    let first : k ≡ l = the_next n k (numbers_added cs) one ∙ sym (the_next n l (numbers_added ds) two) in
    let numbers : added_by c ≡ added_by d = is ∙ ap (λ m. m ∷ []) first ∙ sym are in (
      λ i. (here.told i, numbers i),
      alike k cs ds (omega (arith, long)) (λ m low. near (suc m) (omega (arith, low))) (the_rest n k (numbers_added cs) one)
          (subst (λ m. IsNext m (numbers_added ds)) (sym first) (the_rest n l (numbers_added ds) two)),
    )

-- ---- the files' numbers

more_numbers : (table shard : ℕ) (s : ShardHistory) (c : Option Change) (old now : List (File Held)) → Grows table shard s c old now
    → map (λ f. f.info.number) now ≡ map (λ f. f.info.number) old ++ numbers_in c
more_numbers table shard s None old now g = ap (λ (fs : List (File Held)). map (λ f. f.info.number) fs) g ∙ sym (append-nil (map (λ f. f.info.number) old))
more_numbers table shard s (Some c) old now g =
    let its : added_by c ≡ g.0.info.number ∷ [] = ap (λ (is : List TableInfo). map (λ i. i.number) is) g.2.added in
    ap (λ (fs : List (File Held)). map (λ f. f.info.number) fs) g.1 ∙ map-append (λ (f : File Held). f.info.number) old (g.0 ∷ [])
    ∙ ap (λ (ns : List ℕ). map (λ f. f.info.number) old ++ ns) (sym its)

both_more : (table shard : ℕ) (s : ShardHistory) (c d : Option Change) (old now was is : List (File Held)) → Grows table shard s c old now → Grows table shard s d was is → Alike c d
    → map (λ f. f.info.number) old ≡ map (λ f. f.info.number) was → map (λ f. f.info.number) now ≡ map (λ f. f.info.number) is
both_more table shard s c d old now was is a b same begin =
    more_numbers table shard s c old now a ∙ (λ i. begin i ++ its_numbers c d same i) ∙ sym (more_numbers table shard s d was is b)

abbrev first_of : List ℕ → Option ℕ
first_of [] = None
first_of (n ∷ ns) = Some n

-- ---- two histories of one store

-- the history with other changes and another disk
abbrev pub on : History → List Change → DiskState → History
on h c d = record h { changes = c; disk = d }

-- what they agree in
pub record Agree (c d : List Change) (p q : DiskState) : Type 0 where
  pub changes : map by_numbers c ≡ map by_numbers d
  pub files : file_numbers p.files ≡ file_numbers q.files
  pub last_file : p.last_file ≡ q.last_file
  pub live : p.live ≡ q.live

pub as_one : (h : History) (c d : List Change) (p q : DiskState) → Agree c d p q → SameStore (on h c p) (on h d q)
as_one h c d p q a = record { same = refl; changes = a.changes; files = a.files; last_file = a.last_file; live = a.live }

pub agreeing : (t u : History) → SameStore t u → Agree t.changes u.changes t.disk u.disk
agreeing t u s = record { changes = s.changes; files = s.files; last_file = s.last_file; live = s.live }

pub at_both : (t k u j : History) → t ≡ k → u ≡ j → SameStore k j → SameStore t u
at_both t k u j x y s = subst (λ i. SameStore i u) (sym x) (subst (SameStore k) (sym y) s)

module _ (h : History) (c d : List Change) (p q : DiskState) (agree : Agree c d p q) (t : TableSchema) where
  -- ---- a flush of a table

  module _ (cs ds : List (Option Change)) (e f : DiskState) (begun other : ℕ) (told says : List ℕ) (one : Flushed (on h c p) t cs e) (two : Flushed (on h d q) t ds f)
      (ends : EndsSo (on h c p) t cs begun (Ok told) e) (so : EndsSo (on h d q) t ds other (Ok says) f) where
    in_both : (m : ℕ) → m < length cs → (a b : Option Change) → change_of cs m ≡ a → change_of ds m ≡ b → is_some a ≡ is_some b
    in_both m low None None x y = refl
    in_both m low (Some a) (Some b) x y = refl
    in_both m low None (Some b) x y = absurd (one.none m low x (two.some m b y))
    in_both m low (Some a) None x y = absurd (two.none m (omega (arith, low, ends.0, so.0)) y (one.some m a x))

    near : (m : ℕ) → m < length cs → AreNear (change_of cs m) (change_of ds m)
    near m low =
        both_grow t.number m (shard_at h m) (change_of cs m) (change_of ds m) (p.files m t.number) (e.files m t.number) (q.files m t.number) (f.files m t.number)
        (one.files m) (two.files m) (in_both m low (change_of cs m) (change_of ds m) refl refl)

    first_next : IsNext p.last_file (numbers_added cs)
    first_next = subst (AscendTo p.last_file (numbers_added cs)) (ends.4 ∙ ap (λ (ns : List ℕ). p.last_file + length ns) ends.1) one.numbers

    second_next : IsNext q.last_file (numbers_added ds)
    second_next = subst (AscendTo q.last_file (numbers_added ds)) (so.4 ∙ ap (λ (ns : List ℕ). q.last_file + length ns) so.1) two.numbers

    changes_alike : AreAlike cs ds
    changes_alike =
        alike p.last_file cs ds (ends.0 ∙ sym so.0) near first_next (subst (λ n. IsNext n (numbers_added ds)) (sym agree.last_file) second_next)

    pub told_alike : told ≡ says
    told_alike = ends.1 ∙ all_numbers cs ds changes_alike ∙ sym so.1

    files_alike : (n k : ℕ) → file_numbers e.files n k ≡ file_numbers f.files n k
    files_alike n k = ⊎_elim its others (same_or_not k t.number)
      where
        begin : (j : ℕ) → file_numbers p.files n j ≡ file_numbers q.files n j
        begin j = ap (λ (at : ℕ → ℕ → List ℕ). at n j) agree.files

        its : k ≡ t.number → file_numbers e.files n k ≡ file_numbers f.files n k
        its same =
            subst (λ j. file_numbers e.files n j ≡ file_numbers f.files n j) (sym same)
            (both_more t.number n (shard_at h n) (change_of cs n) (change_of ds n) (p.files n t.number) (e.files n t.number) (q.files n t.number) (f.files n t.number)
            (one.files n) (two.files n) (of_shard cs ds changes_alike n) (begin t.number))

        others : (k ≡ t.number → ⊥) → file_numbers e.files n k ≡ file_numbers f.files n k
        others apart =
            ap (λ (fs : List (File Held)). map (λ g. g.info.number) fs) (one.others n k apart) ∙ begin k
            ∙ sym (ap (λ (fs : List (File Held)). map (λ g. g.info.number) fs) (two.others n k apart))

    -- what becomes of the store
    abbrev after_flush : List (Option Change) → ℕ → List Change → DiskState → History
    after_flush changes count before disk =
        record h {
          unflushed = without_flushed t.number changes h.unflushed;
          filled = without_begun t.number count h.filled;
          changes = fold changes_by before changes;
          trimmed = false;
          disk = disk;
        }

    pub flushed_alike : SameStore (after_flush cs begun c e) (after_flush ds other d f)
    flushed_alike =
        let rest : without_flushed t.number cs h.unflushed ≡ without_flushed t.number ds h.unflushed =
        λ i n k. if (k == t.number) && there_or_not (change_of cs n) (change_of ds n) (of_shard cs ds changes_alike n) i then [] else h.unflushed n k in
        let count : begun ≡ other = ends.3 ∙ ends.0 ∙ sym so.0 ∙ sym so.3 in
        record {
          same = λ i.
              record h {
                unflushed = rest i;
                filled = without_begun t.number (count i) h.filled;
                changes = fold changes_by d ds;
                trimmed = false;
                disk = f;
              };
          changes = all_told c d cs ds changes_alike agree.changes;
          files = λ i n k. files_alike n k i;
          last_file = ends.4 ∙ (λ i. agree.last_file i + length (told_alike i)) ∙ sym so.4;
          live = one.live ∙ (λ i. agree.live i + length (all_numbers cs ds changes_alike i)) ∙ sym two.live;
        }

  -- ---- of one shard

  module _ (n : ℕ) (told says : Option ℕ) (k j : History) (one : FlushesIn (on h c p) t n (Ok told) k) (two : FlushesIn (on h d q) t n (Ok says) j) where
    one_in_both : (a b : Option Change) → one.change ≡ a → two.change ≡ b → is_some a ≡ is_some b
    one_in_both None None x y = refl
    one_in_both (Some a) (Some b) x y = refl
    one_in_both None (Some b) x y =
        absurd (subst (λ a. SaysNone (Ok told) a (h.unflushed n t.number)) x one.none (subst (λ b. IfSome b (λ c. SaySomething (h.unflushed n t.number))) y two.some))
    one_in_both (Some a) None x y =
        absurd (subst (λ b. SaysNone (Ok says) b (h.unflushed n t.number)) y two.none (subst (λ a. IfSome a (λ c. SaySomething (h.unflushed n t.number))) x one.some))

    one_near : AreNear one.change two.change
    one_near =
        both_grow t.number n (shard_at h n) one.change two.change (p.files n t.number) (one.disk.files n t.number) (q.files n t.number) (two.disk.files n t.number)
        one.ends.files two.ends.files (one_in_both one.change two.change refl refl)

    -- of a list of that change alone the numbers are its
    as_list : (r : Option Change) (last now : ℕ) (x : Option ℕ) → numbers_in r ≡ listed_of x → now ≡ last + length (listed_of x) → AscendTo last (numbers_in r) now
        → IsNext last (numbers_added (r ∷ []))
    as_list r last now x tells drawn numbers =
        subst (IsNext last) (sym (append-nil (numbers_in r)))
        (subst (AscendTo last (numbers_in r)) (drawn ∙ ap (λ (ns : List ℕ). last + length ns) (sym tells)) numbers)

    its_near : (m : ℕ) → m < 1 → AreNear (change_of (one.change ∷ []) m) (change_of (two.change ∷ []) m)
    its_near zero low = one_near
    its_near (suc m) low = absurd (omega (arith, low))

    change_alike : Alike one.change two.change
    change_alike =
        (alike p.last_file (one.change ∷ []) (two.change ∷ []) refl its_near (as_list one.change p.last_file one.disk.last_file told one.tells one.drawn one.numbers)
        (subst (λ m. IsNext m (numbers_added (two.change ∷ []))) (sym agree.last_file)
        (as_list two.change q.last_file two.disk.last_file says two.tells two.drawn two.numbers))).0

    its_list : listed_of told ≡ listed_of says
    its_list = sym one.tells ∙ its_numbers one.change two.change change_alike ∙ two.tells

    pub one_told : told ≡ says
    one_told = by told says its_list
      where
        by : (x y : Option ℕ) → listed_of x ≡ listed_of y → x ≡ y
        by None None same = refl
        by None (Some y) same = absurd (omega (arith, ap (λ (ns : List ℕ). length ns) same))
        by (Some x) None same = absurd (omega (arith, ap (λ (ns : List ℕ). length ns) same))
        by (Some x) (Some y) same = ap (λ (ns : List ℕ). first_of ns) same

    one_files : (m i : ℕ) → file_numbers one.disk.files m i ≡ file_numbers two.disk.files m i
    one_files m i = ⊎_elim (λ here. ⊎_elim (λ of_it. own here of_it) (λ apart. others (λ both. apart both.1)) (same_or_not i t.number)) (λ apart. others (λ both. apart both.0)) (same_or_not m n)
      where
        begin : (l g : ℕ) → file_numbers p.files l g ≡ file_numbers q.files l g
        begin l g = ap (λ (at : ℕ → ℕ → List ℕ). at l g) agree.files

        others : ((m ≡ n) × (i ≡ t.number) → ⊥) → file_numbers one.disk.files m i ≡ file_numbers two.disk.files m i
        others apart =
            ap (λ (fs : List (File Held)). map (λ g. g.info.number) fs) (one.ends.others m i apart) ∙ begin m i
            ∙ sym (ap (λ (fs : List (File Held)). map (λ g. g.info.number) fs) (two.ends.others m i apart))

        own : m ≡ n → i ≡ t.number → file_numbers one.disk.files m i ≡ file_numbers two.disk.files m i
        own here of_it =
            subst (λ l. file_numbers one.disk.files l i ≡ file_numbers two.disk.files l i) (sym here)
            (subst (λ l. file_numbers one.disk.files n l ≡ file_numbers two.disk.files n l) (sym of_it)
            (both_more t.number n (shard_at h n) one.change two.change (p.files n t.number) (one.disk.files n t.number) (q.files n t.number) (two.disk.files n t.number)
            one.ends.files two.ends.files change_alike (begin n t.number)))

    rest_alike : (a b : Option Change) → Alike a b → rest_with t.number n a h.unflushed ≡ rest_with t.number n b h.unflushed
    rest_alike None None x = refl
    rest_alike None (Some b) x = absurd x
    rest_alike (Some a) None x = absurd x
    rest_alike (Some a) (Some b) x = refl

    pub one_alike : SameStore k j
    one_alike =
        at_both k _ j _ one.follows two.follows
        (record {
          same = λ i.
              record h {
                unflushed = rest_alike one.change two.change change_alike i;
                filled = filled_with t.number n ((one.begins ∙ sym two.begins) i) h.filled;
                changes = changes_by d two.change;
                trimmed = false;
                disk = two.disk;
              };
          changes = told_with c d one.change two.change change_alike agree.changes;
          files = λ i m l. one_files m l i;
          last_file = one.drawn ∙ (λ i. agree.last_file i + length (its_list i)) ∙ sym two.drawn;
          live = one.ends.live ∙ (λ i. agree.live i + length (its_numbers one.change two.change change_alike i)) ∙ sym two.ends.live;
        })
