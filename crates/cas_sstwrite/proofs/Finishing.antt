-- A table file is finished.
use Rattle.std.proofs.Common.{◌≡◌, inl, inr, ℕ, ◌+◌, ◌<◌, ◌≤◌, List, [], ◌∷◌, ◌++◌, map, length, take, drop, get_or, Option, None, Some, ◌-◌, refl, sym, ap, subst, ◌∙◌, append_assoc, arith}
use Rattle.std.specs.Prelude.{slice_get}
use Rattle.std.specs.List.{All, AllByRecursion, last_or}
use Rattle.cas_index.specs.Allowed.{HasRooms}
use Rattle.cas_index.proofs.Following.{last_get}
use Rattle.std.proofs.lemmas.List.{length-append, append-nil, take_at}
use Rattle.std.proofs.lemmas.List.Elements.{recursion_from_All}
use Rattle.cas_types.specs.declared.schema.Column.{Column}
use Rattle.cas_atoms.specs.declared.atom.Atom.{Atom}
use Rattle.cas_info.specs.declared.info.TheConstants.{FILE_LIMIT, PARTITION_LIMIT}
use Rattle.cas_info.specs.declared.info.TableInfo.{TableInfo}
use Rattle.cas_streams.specs.Streams.{IsThere}
use Rattle.cas_streams.specs.Merged.{flat_of, flats}
use Rattle.cas_facts.specs.Facts.{AreFacts, AreFactsSoFar}
use Rattle.cas_facts.specs.declared.facts.Facts.{Facts}
use Rattle.cas_facts.proofs.Joining.{facts_are_one}
use Rattle.cas_filter.specs.Filters.{bits_for}
use Rattle.cas_filter.specs.Spelling.{filter_bytes}
use Rattle.cas_info.specs.Spelling.{info_bytes}
use Rattle.cas_index.specs.Spelling.{index_bytes, footer_bytes}
use Rattle.cas_index.specs.declared.entries.PartitionEntry.{PartitionEntry}
use Rattle.cas_fragments.specs.declared.heads.Version.{Version}
use Rattle.cas_fragments.specs.declared.heads.Version.TheVariants.{First, Second}
use Rattle.cas_tables.specs.Contents.{Partition, Contents, atoms_of}
use Rattle.cas_tables.specs.Places.{text_of, entries}
use Rattle.cas_tables.specs.Files.{front_bytes, index_of, index_place, key_filter, footer_of, with_info, first_key, last_key, told_of, info_of, table_bytes}
use Rattle.cas_tables.specs.Fitting.{FitsPartition}
use Rattle.cas_sstwrite.specs.declared.fault.Measure.TheVariants.{FileBytes, BlockBytes, Partitions}
use Rattle.cas_sstwrite.specs.declared.fault.WriteFault.{WriteFault}
use Rattle.cas_sstwrite.specs.declared.fault.WriteFault.TheVariants.{Failed, Order, TooMany, Unfit, Mem}
use Rattle.cas_sstwrite.specs.declared.fault.PartitionFault.TheVariants.{Write}
use Rattle.cas_sstwrite.specs.declared.held.Sink.{Sink}
use Rattle.cas_sstwrite.specs.declared.held.TableWriter.{TableWriter}
use Rattle.cas_sstwrite.specs.Writers.{Writes, contents_of}
use Rattle.cas_sstwrite.specs.Finished.{IsFinished, FinishFault}
use Rattle.cas_sstwrite.specs.Inner.Sinks.{Took}
use Rattle.cas_sstwrite.specs.Inner.Ends.{tail_at, info_at, with_bytes, filter_at, TailFault, IsTold, AreEnds}

-- ---- what the entries tell

pub last_told : (e : PartitionEntry) (es : List PartitionEntry) (l : PartitionEntry) → last_or (Some e) es ≡ Some l → last_key (map (λ x. x.key) (e ∷ es)) ≡ l.key
last_told e [] l is = let same : e ≡ l = cc in ap (λ x. x.key) same
last_told e (x ∷ es) l is = last_told x es l is

keys_same : (version : Version) (place : ℕ) (ps : List Partition) → map (λ e. e.key) (entries version place ps) ≡ map (λ p. p.key) ps
keys_same version place [] = refl
keys_same version place (p ∷ ps) = ap (λ (ks : List (List ℕ)). p.key ∷ ks) (keys_same version (place + length (text_of version p)) ps)

long_same : (version : Version) (place : ℕ) (ps : List Partition) → length (entries version place ps) ≡ length ps
long_same version place [] = refl
long_same version place (p ∷ ps) = let e = long_same version (place + length (text_of version p)) ps in omega (arith, e)

there_long : {X : Type 0} (xs : List X) → IsThere xs → 1 ≤ length xs
there_long [] there = absurd there
there_long (x ∷ xs) there = omega arith

none_written : (version : Version) (place : ℕ) (ps : List Partition) → entries version place ps ≡ [] → ps ≡ []
none_written version place [] e = refl
none_written version place (p ∷ ps) e = absurd (cc)

none_seen : (columns : List Column) (ps : List Partition) → AllByRecursion (FitsPartition columns) ps → flats (map (λ p. p.stream) ps) ≡ [] → ps ≡ []
none_seen columns [] fit e = refl
none_seen columns (p ∷ ps) fit e = absurd (front (flat_of p.stream) (flats (map (λ p. p.stream) ps)) fit.0.said e)
  where
    front : (A B : List Atom) → IsThere A → A ++ B ≡ [] → ⊥
    front [] B there e = there
    front (a ∷ A) B there e = cc

pub none_told : {D E : Type 0} (number_of : D → ℕ) (written : D → List ℕ → Type 0) (columns : List Column) (w : TableWriter D E) (ps : List Partition)
    → Writes number_of written columns w ps → IsTold w.header.number w.level w.entries.items w.seen.facts None → ps ≡ []
none_told number_of written columns w ps writes (inl none) = none_written w.header.version _ ps (sym writes.entries ∙ none)
none_told number_of written columns w ps writes (inr none) = none_seen columns ps writes.each (subst (λ f. AreFactsSoFar (atoms_of (contents_of w ps)) f) none writes.facts)

-- ---- the file

whole : (c : Contents) (i : TableInfo) → front_bytes c ++ tail_at (index_place c) (index_of c) (key_filter c) i ≡ with_info c i
whole c i =
    ap (λ (t : List ℕ). front_bytes c ++ t)
    (append_assoc (index_bytes (index_of c)) (filter_bytes (key_filter c)) (info_bytes i ++ footer_bytes (footer_of c)))

filter_same : (c : Contents) → filter_at (index_of c) ≡ key_filter c
filter_same c = cc (ap bits_for (long_same c.header.version _ c.partitions), keys_same c.header.version _ c.partitions)

-- what stands behind the partitions, by the contents
tail_same : {D E : Type 0} (number_of : D → ℕ) (written : D → List ℕ → Type 0) (columns : List Column) (w : TableWriter D E) (ps : List Partition) (i : TableInfo)
    → Writes number_of written columns w ps
    → tail_at w.sink.place w.entries.items (filter_at w.entries.items) i
    ≡ tail_at (index_place (contents_of w ps)) (index_of (contents_of w ps)) (key_filter (contents_of w ps)) i
tail_same number_of written columns w ps i writes =
    let c : Contents = contents_of w ps in
    ap (λ (es : List PartitionEntry). tail_at w.sink.place es (filter_at es) i) writes.entries
    ∙ ap (λ n. tail_at n (index_of c) (filter_at (index_of c)) i) writes.place
    ∙ ap (λ (f : List ℕ). tail_at (index_place c) (index_of c) f i) (filter_same c)

file_long : {D E : Type 0} (number_of : D → ℕ) (written : D → List ℕ → Type 0) (columns : List Column) (w : TableWriter D E) (ps : List Partition) (i : TableInfo)
    → Writes number_of written columns w ps
    → w.sink.place + length (tail_at w.sink.place w.entries.items (filter_at w.entries.items) i) ≡ length (with_info (contents_of w ps) i)
file_long number_of written columns w ps i writes =
    let c : Contents = contents_of w ps in
    let tail : List ℕ = tail_at (index_place c) (index_of c) (key_filter c) i in
    let e : w.sink.place + length tail ≡ length (front_bytes c ++ tail) = omega (arith, writes.place, length-append (front_bytes c) tail) in
    ap (λ (t : List ℕ). w.sink.place + length t) (tail_same number_of written columns w ps i writes) ∙ e ∙ ap length (whole c i)

-- what is told, by the contents
told_same : {D E : Type 0} (number_of : D → ℕ) (written : D → List ℕ → Type 0) (columns : List Column) (w : TableWriter D E) (ps : List Partition) (f : Facts)
    → Writes number_of written columns w ps
    → info_at w.header.number w.level (length w.entries.items) (first_key (map (λ e. e.key) w.entries.items)) (last_key (map (λ e. e.key) w.entries.items)) f 0
    ≡ told_of (contents_of w ps) f 0
told_same number_of written columns w ps f writes =
    ap (λ (es : List PartitionEntry). info_at w.header.number w.level (length es) (first_key (map (λ e. e.key) es)) (last_key (map (λ e. e.key) es)) f 0) writes.entries
    ∙ ap (λ n. info_at w.header.number w.level n (first_key (map (λ e. e.key) (index_of (contents_of w ps)))) (last_key (map (λ e. e.key) (index_of (contents_of w ps)))) f 0)
    (long_same w.header.version _ ps)
    ∙ ap (λ (ks : List (List ℕ)). info_at w.header.number w.level (length ps) (first_key ks) (last_key ks) f 0) (keys_same w.header.version _ ps)

info_same : {D E : Type 0} (number_of : D → ℕ) (written : D → List ℕ → Type 0) (columns : List Column) (w : TableWriter D E) (ps : List Partition) (f : Facts) (i j : TableInfo)
    → Writes number_of written columns w ps → i ≡ told_of (contents_of w ps) f 0
    → j ≡ with_bytes i (w.sink.place + length (tail_at w.sink.place w.entries.items (filter_at w.entries.items) i)) → j ≡ info_of (contents_of w ps) f
info_same number_of written columns w ps f i j writes is made =
    made
    ∙ ap (λ x. with_bytes x (w.sink.place + length (tail_at w.sink.place w.entries.items (filter_at w.entries.items) x))) is
    ∙ ap (λ n. told_of (contents_of w ps) f n) (file_long number_of written columns w ps (told_of (contents_of w ps) f 0) writes)

same_facts : (c : Contents) (f g : Facts) → AreFacts (atoms_of c) f → AreFacts (atoms_of c) g → f ≡ g
same_facts c f g a b = let e : Some f ≡ Some g = facts_are_one.one (atoms_of c) (Some f) (Some g) a b in cc

-- the versions differ
first_second : First ≡ Second → ⊥
first_second e = cc

pub finished : {D E : Type 0} (number_of : D → ℕ) (written : D → List ℕ → Type 0) (columns : List Column) (w : TableWriter D E) (ps : List Partition) (t : Sink D) (i j : TableInfo)
    → Writes number_of written columns w ps → IsTold w.header.number w.level w.entries.items w.seen.facts (Some i)
    → j ≡ with_bytes i (w.sink.place + length (tail_at w.sink.place w.entries.items (filter_at w.entries.items) i))
    → Took number_of written (tail_at w.sink.place w.entries.items (filter_at w.entries.items) j) w.sink t
    → length w.entries.items ≤ PARTITION_LIMIT → t.place ≤ FILE_LIMIT
    → IsFinished number_of written columns (contents_of w ps) j t.draft
finished number_of written columns w ps t i j writes told made took few low =
    let c : Contents = contents_of w ps in
    let f : Facts = told.0 in
    let facts : AreFacts (atoms_of c) f = subst (λ x. AreFactsSoFar (atoms_of c) x) told.1 writes.facts in
    let info : j ≡ info_of c f = info_same number_of written columns w ps f i j writes (told.3 ∙ told_same number_of written columns w ps f writes) made in
    let count : length w.entries.items ≡ length ps = ap length writes.entries ∙ long_same w.header.version _ ps in
    let long : t.place ≡ length (table_bytes c f) = took.place ∙ file_long number_of written columns w ps j writes ∙ ap (λ x. length (with_info c x)) info in
    record {
      fits = record {
        header = writes.header;
        level = writes.level;
        few = (omega (arith, there_long w.entries.items told.2), omega arith);
        ascend = writes.ascend;
        each = writes.each;
        statics = λ first. absurd (first_second (sym first ∙ writes.version));
        short = λ g are. subst (λ x. length (table_bytes c x) ≤ FILE_LIMIT) (same_facts c f g facts are) (omega arith);
      };
      facts = f;
      of_atoms = facts;
      info = info;
      table = λ bytes h. record { facts = f; of_atoms = facts; spelled = spelled bytes info (took.text bytes h) };
      number = took.number ∙ writes.number;
    }
  where
    spelled : {f : Facts} (bytes : List ℕ) → j ≡ info_of (contents_of w ps) f
        → (b : List ℕ) × written w.sink.draft b × (bytes ≡ b ++ tail_at w.sink.place w.entries.items (filter_at w.entries.items) j) → bytes ≡ table_bytes (contents_of w ps) f
    spelled {f} bytes info b =
        let c : Contents = contents_of w ps in
        b.2 ∙ ap (λ (x : List ℕ). x ++ tail_at w.sink.place w.entries.items (filter_at w.entries.items) j) (writes.text b.0 b.1)
        ∙ ap (λ (x : List ℕ). front_bytes c ++ x) (tail_same number_of written columns w ps j writes)
        ∙ whole c j ∙ ap (with_info c) info

pub not_finished : (G : Type 0) {D F : Type 0} (number_of : D → ℕ) (written : D → List ℕ → Type 0) (columns : List Column) (w : TableWriter D F) (ps : List Partition) (i : TableInfo) (e : WriteFault)
    → Writes number_of written columns w ps → IsTold w.header.number w.level w.entries.items w.seen.facts (Some i)
    → TailFault w.sink.place w.entries.items i e → FinishFault {E = G} (contents_of w ps) (Write e)
not_finished G number_of written columns w ps i Failed writes told why = tt
not_finished G number_of written columns w ps i Order writes told why = absurd why
not_finished G number_of written columns w ps i (TooMany FileBytes limit) writes told why =
    let c : Contents = contents_of w ps in
    let f : Facts = told.0 in
    let j : TableInfo = with_bytes i (w.sink.place + length (tail_at w.sink.place w.entries.items (filter_at w.entries.items) i)) in
    let facts : AreFacts (atoms_of c) f = subst (λ x. AreFactsSoFar (atoms_of c) x) told.1 writes.facts in
    let info : j ≡ info_of c f = info_same number_of written columns w ps f i j writes (told.3 ∙ told_same number_of written columns w ps f writes) refl in
    (why.0, (f, facts, subst (λ n. FILE_LIMIT < n) (file_long number_of written columns w ps j writes ∙ ap (λ x. length (with_info c x)) info) why.1))
not_finished G number_of written columns w ps i (TooMany BlockBytes limit) writes told why = absurd why
not_finished G number_of written columns w ps i (TooMany Partitions limit) writes told why = absurd why
not_finished G number_of written columns w ps i Unfit writes told why = absurd why
not_finished G number_of written columns w ps i Mem writes told why = tt

-- ---- the first and the last

last_any : {A : Type 0} (o : Option A) (xs : List A) (l : A) → last_or None xs ≡ Some l → last_or o xs ≡ Some l
last_any o [] l is = absurd (cc)
last_any o (x ∷ xs) l is = is

last_none : {A : Type 0} (o : Option A) (xs : List A) → last_or None xs ≡ None → last_or o xs ≡ o
last_none o [] is = refl
last_none o (x ∷ xs) is = absurd (some x xs is)
  where
    some : {A : Type 0} (x : A) (xs : List A) → last_or (Some x) xs ≡ None → ⊥
    some x [] is = cc
    some x (y ∷ ys) is = some y ys is

pub last_found : {A : Type 0} (o : Option A) (xs : List A) (l : A) → slice_get xs (length xs - 1) ≡ Some l → last_or o xs ≡ Some l
last_found o xs l is = last_any o xs l (sym (last_get xs) ∙ is)

pub none_found : {A : Type 0} (o : Option A) (xs : List A) → slice_get xs (length xs - 1) ≡ None → last_or o xs ≡ o
none_found o xs is = last_none o xs (sym (last_get xs) ∙ is)

-- what is kept of partitions that have room
room_last : (P : PartitionEntry → Type 0) (e : PartitionEntry) (es : List PartitionEntry) (l : PartitionEntry) → P e → AllByRecursion P es → last_or (Some e) es ≡ Some l → P l
room_last P e [] l one all is = subst P (let same : e ≡ l = cc in same) one
room_last P e (x ∷ es) l one all is = room_last P x es l all.0 all.1 is

pub ends_found : (e : PartitionEntry) (es : List PartitionEntry) (l : PartitionEntry) → All HasRooms (e ∷ es) → last_or (Some e) es ≡ Some l → AreEnds (e ∷ es) e.key l.key
ends_found e es l rooms is =
    let all = recursion_from_All HasRooms (e ∷ es) rooms in
    record {
      there = tt;
      low = refl;
      high = last_told e es l is;
      short = (all.0.key, (room_last HasRooms e es l all.0 all.1 is).key);
    }

pub ends_at : (es : List PartitionEntry) (f l : PartitionEntry) → 1 ≤ length es → f ≡ get_or es 0 f → All HasRooms es
    → last_or (Some f) (take (length es - 1) (drop 1 es)) ≡ Some l → AreEnds es f.key l.key
ends_at [] f l some is rooms last = absurd (omega arith)
ends_at (x ∷ es) f l some is rooms last =
    let n : length (x ∷ es) - 1 ≡ length es = omega arith in
    let all : take (length (x ∷ es) - 1) es ≡ es =
    ap (λ k. take k es) n ∙ ap (λ (xs : List PartitionEntry). take (length es) xs) (sym (append-nil es)) ∙ take_at es [] (length es) refl in
    subst (λ y. AreEnds (x ∷ es) y.key l.key) (sym is)
    (ends_found x es l rooms (subst (λ y. last_or (Some y) es ≡ Some l) is (ap (λ (xs : List PartitionEntry). last_or (Some f) xs) (sym all) ∙ last)))
