-- What calls on what a shard has stored of one table do to all that it has stored.
use Rattle.std.proofs.lemmas.Grind.{flat_map-append}
use Rattle.std.proofs.Common.{◌≡◌, ◌≢◌, ◌⊎◌, inl, inr, ◌<◌, ◌≤◌, ℕ, zero, suc, Option, None, Some, Result, Ok, Err, OnOk, OnErr, List, [], ◌∷◌, ◌++◌, length, refl, sym, ap, ◌∙◌, subst, arith, length-append, Bool, true, false}
use Rattle.std.specs.Prelude.{if◌then◌else◌, slice_get, slice_set}
use Rattle.cas_types.specs.declared.schema.Column.{Column}
use Rattle.cas_bounds.specs.declared.order.Ordered.{Ordered}
use Rattle.cas_atoms.specs.Coordinates.{cell_at_path, live_at_row}
use Rattle.cas_atoms.specs.Winners.{Same}
use Rattle.cas_atoms.specs.declared.atom.Atom.{Atom}
use Rattle.cas_atoms.specs.declared.atom.Mutation.{Mutation}
use Rattle.cas_laws.specs.Given.{Gives}
use Rattle.cas_laws.proofs.JoinProofs.{join_laws}
use Rattle.cas_streams.specs.NoMore.{SaysNoMore, deletion_of}
use Rattle.cas_streams.proofs.NoMore.{no_more_itself, no_more_kept, no_more_then}
use Rattle.cas_partition.specs.Ends.{IsEnd}
use Rattle.cas_partition.specs.Partitions.{AreAtomsOf}
use Rattle.cas_partition.proofs.Ends.{ends_both}
use Rattle.cas_memtable.specs.Memtables.{HasPlaces, bytes_with}
use Rattle.cas_memtable.specs.Kept.{HoldJust, MayHold, all_of, atoms_under, begun, with_one}
use Rattle.cas_memtable.proofs.Keeping.{all_begun, more_under}
use Rattle.cas_sstread.specs.Loading.{Held}
use Rattle.cas_view.specs.Views.{File}
use Rattle.cas_stored.specs.Stored.{HoldEach, HoldsEach, StoredTable}
use Rattle.cas_shard.specs.Stands.{HasRoom, Holds, PlacesAt, SaySame, TakesFiles, files_at}
use Rattle.cas_shard.specs.Flushing.{bytes_at, memtables_at}
use Rattle.cas_shard.specs.Inner.Stores.{AllStay, JoinsRoom, KeepBytes, KeepFiles, MakesRoom, MemoryStays, StayFew}

-- ---- lists

pub at_set : (ps : List StoredTable) (n : ℕ) (p : StoredTable) → n < length ps → slice_get (slice_set ps n p) n ≡ Some p
at_set [] n p h = absurd (omega (arith, h))
at_set (q ∷ ps) zero p h = refl
at_set (q ∷ ps) (suc n) p h = at_set ps n p (omega (arith, h))

pub at_apart : (ps : List StoredTable) (n : ℕ) (p : StoredTable) (t : ℕ) → t ≢ n → slice_get (slice_set ps n p) t ≡ slice_get ps t
at_apart [] n p t h = refl
at_apart (q ∷ ps) zero p zero h = absurd (h refl)
at_apart (q ∷ ps) zero p (suc t) h = refl
at_apart (q ∷ ps) (suc n) p zero h = refl
at_apart (q ∷ ps) (suc n) p (suc t) h = at_apart ps n p t (λ e. h (ap suc e))

pub count_set : (ps : List StoredTable) (n : ℕ) (p : StoredTable) → length (slice_set ps n p) ≡ length ps
count_set [] n p = refl
count_set (q ∷ ps) zero p = refl
count_set (q ∷ ps) (suc n) p = ap suc (count_set ps n p)

pub same_number : (t n : ℕ) → (t ≡ n) ⊎ (t ≢ n)
same_number zero zero = inl refl
same_number zero (suc n) = inr (λ e. absurd (omega (arith, e)))
same_number (suc t) zero = inr (λ e. absurd (omega (arith, e)))
same_number (suc t) (suc n) = by (same_number t n)
  where
    by : (t ≡ n) ⊎ (t ≢ n) → (suc t ≡ suc n) ⊎ (suc t ≢ suc n)
    by (inl e) = inl (ap suc e)
    by (inr h) = inr (λ e. h (omega (arith, e)))

-- ---- what is held

pub holds_at : (order : List Ordered) (ws : List Mutation) (a b : Option StoredTable) → b ≡ a → Holds order a ws → Holds order b ws
holds_at order ws a b e h = subst (λ o. Holds order o ws) (sym e) h

-- ---- mutations that say the same

pub say_alike : (vs ws : List Mutation) → vs ≡ ws → SaySame vs ws
say_alike vs ws e = subst (SaySame vs) e (record {
  same = λ key. record { covers = λ x. refl; lives = λ r. refl; cells = λ x. refl };
  no_more = λ key. no_more_itself (atoms_under key vs);
  ends = λ key c at. at;
})

-- so they do with these behind both
pub say_before : (us vs ws : List Mutation) → SaySame vs ws → SaySame (vs ++ us) (ws ++ us)
say_before us vs ws says = record {
  same = λ key.
      let more : List Atom = atoms_under key us in
      subst (λ l. Same l (atoms_under key (ws ++ us))) (sym (more_under key vs us))
      (subst (Same (atoms_under key vs ++ more)) (sym (more_under key ws us)) (join_laws.kept (atoms_under key vs) (atoms_under key ws) more (says.same key)));
  no_more = λ key.
      let more : List Atom = atoms_under key us in
      subst (λ l. SaysNoMore l (atoms_under key (ws ++ us))) (sym (more_under key vs us))
      (subst (SaysNoMore (atoms_under key vs ++ more)) (sym (more_under key ws us)) (no_more_kept (atoms_under key vs) (atoms_under key ws) more (says.no_more key)));
  ends = λ key c at.
      let more : List Atom = atoms_under key us in
      subst (λ l. IsEnd l c) (sym (more_under key ws us))
      (ends_both (atoms_under key vs) more (atoms_under key ws) more (says.ends key) (λ k e. e) c (subst (λ l. IsEnd l c) (more_under key vs us) at));
}

-- a table that has nothing stored says nothing
pub none_said : (order : List Ordered) (ws : List Mutation) → Holds order None ws → SaySame [] ws
none_said order ws h = subst (λ places. SaySame (all_of places) ws) h.holds h.says

-- what was just begun says nothing either
new_holds : (order : List Ordered) (p : StoredTable) (ws : List Mutation) → HoldsEach order p ([] ∷ []) → Holds order None ws → Holds order (Some p) ws
new_holds order p ws holds h = record { places = [] ∷ []; holds = holds; says = none_said order ws h }

pub pushed : (ps : List StoredTable) (p : StoredTable) → ((order : List Ordered) → HoldsEach order p ([] ∷ [])) → AllStay ps (ps ++ p ∷ [])
pushed [] p new zero order ws h = new_holds order p ws (new order) h
pushed [] p new (suc t) order ws h = h
pushed (q ∷ ps) p new zero order ws h = h
pushed (q ∷ ps) p new (suc t) order ws h = pushed ps p new t order ws h

-- it has no file
pub pushed_files : (ps : List StoredTable) (p : StoredTable) → p.files ≡ [] → KeepFiles ps (ps ++ p ∷ [])
pushed_files [] p none zero = none
pushed_files [] p none (suc t) = refl
pushed_files (q ∷ ps) p none zero = refl
pushed_files (q ∷ ps) p none (suc t) = pushed_files ps p none t

-- what one table has stored changed, and holds the same
module _ (ps : List StoredTable) (n : ℕ) (p q : StoredTable) (there : n < length ps) (is : slice_get ps n ≡ Some p) where
  pub set_keeps : (P : Option StoredTable → Type 0) (t : ℕ) → (t ≡ n → P (Some p) → P (Some q)) → P (slice_get ps t) → P (slice_get (slice_set ps n q) t)
  set_keeps P t goes h = by (same_number t n)
    where
      by : (t ≡ n) ⊎ (t ≢ n) → P (slice_get (slice_set ps n q) t)
      by (inl e) = subst P (sym (ap (slice_get (slice_set ps n q)) e ∙ at_set ps n q there)) (goes e (subst P (ap (slice_get ps) e ∙ is) h))
      by (inr apart) = subst P (sym (at_apart ps n q t apart)) h

  set_stays : (t : ℕ) (order : List Ordered) (ws : List Mutation) → ((wss : List (List Mutation)) → t ≡ n → HoldsEach order p wss → (vss : List (List Mutation)) × HoldsEach order q vss × (all_of vss ≡ all_of wss))
      → Holds order (slice_get ps t) ws → Holds order (slice_get (slice_set ps n q) t) ws
  set_stays t order ws goes h = set_keeps (λ o. Holds order o ws) t own h
    where
      own : t ≡ n → Holds order (Some p) ws → Holds order (Some q) ws
      own e k = let to = goes k.places e k.holds in record { places = to.0; holds = to.1; says = subst (λ l. SaySame l ws) (sym to.2) k.says }

  -- its files too
  set_files : q.files ≡ p.files → KeepFiles ps (slice_set ps n q)
  set_files same t = by (same_number t n)
    where
      by : (t ≡ n) ⊎ (t ≢ n) → files_at (slice_get (slice_set ps n q) t) ≡ files_at (slice_get ps t)
      by (inl e) = ap files_at (ap (slice_get (slice_set ps n q)) e ∙ at_set ps n q there) ∙ same ∙ sym (ap files_at (ap (slice_get ps) e ∙ is))
      by (inr apart) = ap files_at (at_apart ps n q t apart)

-- ---- calls

pub reached : (w : Mutation) (ps qs : List StoredTable) → AllStay ps qs → StayFew w.table ps qs → KeepFiles ps qs → MemoryStays ps qs → KeepBytes ps qs → MakesRoom w ps qs
reached w ps qs stay few files memory bytes = record {
  kept = λ t order ws are h. stay t order ws h;
  few = few;
  files = files;
  memory = λ t columns ws may. memory t columns ws;
  bytes = bytes;
}

pub made : (w : Mutation) (ps mid qs : List StoredTable) (p q : StoredTable) → AllStay ps mid → StayFew w.table ps mid → KeepFiles ps mid → w.table < length mid → slice_get mid w.table ≡ Some p
    → qs ≡ slice_set mid w.table q → ((order : List Ordered) (wss : List (List Mutation)) → HoldsEach order p wss → AreAtomsOf order w.atoms → HoldsEach order q wss) → q.files ≡ p.files
    → ((t : ℕ) (columns : List Column) (ws : List Mutation) → (t ≡ w.table → MayHold columns w) → HoldJust columns (memtables_at (slice_get ps t)) ws → HoldJust columns (memtables_at (slice_get qs t)) ws)
    → KeepBytes ps qs → MakesRoom w ps qs
made w ps mid qs p q stay few files there is set keeps own memory bytes = record {
  kept = λ t order ws are h.
      subst (λ l. Holds order (slice_get l t) ws) (sym set)
      (set_stays mid w.table p q there is t order ws (λ wss e k. (wss, keeps order wss k (are e), refl)) (stay t order ws h));
  few = λ k a b. subst (λ c. c ≤ k) (sym (ap length set ∙ count_set mid w.table q)) (few k a b);
  files = λ t. ap (λ l. files_at (slice_get l t)) set ∙ set_files mid w.table p q there is own t ∙ files t;
  memory = memory;
  bytes = bytes;
}

pub has_room : (w : Mutation) (mid qs : List StoredTable) (q : StoredTable) → w.table < length mid → qs ≡ slice_set mid w.table q → HasPlaces q.parts.active w → HasRoom w qs
has_room w mid qs q there set places = (
  subst (λ c. w.table < c) (sym (ap length set ∙ count_set mid w.table q)) there,
  subst (λ o. PlacesAt o w) (sym (ap (λ l. slice_get l w.table) set ∙ at_set mid w.table q there)) places,
)

pub room_in : (w : Mutation) (ps : List StoredTable) (p : StoredTable) → slice_get ps w.table ≡ Some p → HasRoom w ps → HasPlaces p.parts.active w
room_in w ps p is room = subst (λ o. PlacesAt o w) is room.1

pub joined : (w : Mutation) (ps qs : List StoredTable) (p q : StoredTable) → w.table < length ps → slice_get ps w.table ≡ Some p → qs ≡ slice_set ps w.table q
    → ((order : List Ordered) (wss : List (List Mutation)) → HoldsEach order p wss → AreAtomsOf order w.atoms → HoldsEach order q (with_one w wss) × (all_of (with_one w wss) ≡ all_of wss ++ w ∷ []))
    → q.files ≡ p.files
    → ((columns : List Column) (ws : List Mutation) → MayHold columns w → HoldJust columns (memtables_at (slice_get ps w.table)) ws → HoldJust columns (memtables_at (slice_get qs w.table)) (ws ++ w ∷ []))
    → bytes_at (slice_get qs w.table) ≡ bytes_with (bytes_at (slice_get ps w.table)) w → JoinsRoom w ps qs
joined w ps qs p q there is set keeps own memory bytes = record {
  joined = λ order ws are h.
      holds_at order (ws ++ w ∷ []) (Some q) (slice_get qs w.table) (ap (λ l. slice_get l w.table) set ∙ at_set ps w.table q there)
      (one_more order ws are (holds_at order ws (slice_get ps w.table) (Some p) (sym is) h));
  others = λ t apart. ap (λ l. slice_get l t) set ∙ at_apart ps w.table q t apart;
  count = ap length set ∙ count_set ps w.table q;
  files = λ t. ap (λ l. files_at (slice_get l t)) set ∙ set_files ps w.table p q there is own t;
  memory = memory;
  bytes = bytes;
}
  where
    one_more : (order : List Ordered) (ws : List Mutation) → AreAtomsOf order w.atoms → Holds order (Some p) ws → Holds order (Some q) (ws ++ w ∷ [])
    one_more order ws are h =
        let more : HoldsEach order q (with_one w h.places) × (all_of (with_one w h.places) ≡ all_of h.places ++ w ∷ []) = keeps order h.places h.holds are in
        record { places = with_one w h.places; holds = more.0; says = subst (λ l. SaySame l (ws ++ w ∷ [])) (sym more.1) (say_before (w ∷ []) (all_of h.places) ws h.says) }

-- a memtable is frozen, or not
pub frozen : (ps qs : List StoredTable) (n : ℕ) (p q : StoredTable) (b : List (List Mutation) → List (List Mutation)) → n < length ps → slice_get ps n ≡ Some p → qs ≡ slice_set ps n q
    → ((wss : List (List Mutation)) → all_of (b wss) ≡ all_of wss) → ((order : List Ordered) (wss : List (List Mutation)) → HoldsEach order p wss → HoldsEach order q (b wss)) → AllStay ps qs
frozen ps qs n p q b there is set same keeps t order ws h =
    subst (λ l. Holds order (slice_get l t) ws) (sym set) (set_stays ps n p q there is t order ws (λ wss e k. (b wss, keeps order wss k, same wss)) h)

if_begun : (b : Bool) (wss : List (List Mutation)) → all_of (if b then begun wss else wss) ≡ all_of wss
if_begun true wss = all_begun wss
if_begun false wss = refl

pub frozen_unless : (ps qs : List StoredTable) (n : ℕ) (p q : StoredTable) (b : Bool) → n < length ps → slice_get ps n ≡ Some p → qs ≡ slice_set ps n q
    → ((order : List Ordered) (wss : List (List Mutation)) → HoldsEach order p wss → HoldsEach order q (if b then begun wss else wss)) → AllStay ps qs
frozen_unless ps qs n p q b there is set keeps = frozen ps qs n p q (λ wss. if b then begun wss else wss) there is set (if_begun b) keeps

-- one table more has something stored
pub pushed_further : (start ps qs : List StoredTable) (p : StoredTable) (table : ℕ) → AllStay start ps → StayFew table start ps → KeepFiles start ps → ((order : List Ordered) → HoldsEach order p ([] ∷ []))
    → p.files ≡ [] → qs ≡ ps ++ p ∷ [] → length ps ≤ table → AllStay start qs × StayFew table start qs × KeepFiles start qs
pushed_further start ps qs p table stay few files new none is low = (
  λ t order ws h. subst (λ l. Holds order (slice_get l t) ws) (sym is) (pushed ps p new t order ws (stay t order ws h)),
  λ n a b. subst (λ l. length l ≤ n) (sym is) (omega (arith, length-append ps (p ∷ []), low, b)),
  λ t. ap (λ l. files_at (slice_get l t)) is ∙ pushed_files ps p none t ∙ files t,
)

-- and keeps its files
pub frozen_files : (ps qs : List StoredTable) (n : ℕ) (p q : StoredTable) → n < length ps → slice_get ps n ≡ Some p → qs ≡ slice_set ps n q → q.files ≡ p.files → KeepFiles ps qs
frozen_files ps qs n p q there is set own t = ap (λ l. files_at (slice_get l t)) set ∙ set_files ps n p q there is own t

-- ---- files that an opening finds

-- the same mutations in front of both
pub say_behind : (us vs ws : List Mutation) → SaySame vs ws → SaySame (us ++ vs) (us ++ ws)
say_behind us vs ws says = record {
  same = λ key.
      let own : List Atom = atoms_under key us in
      subst (λ l. Same l (atoms_under key (us ++ ws))) (sym (more_under key us vs))
      (subst (Same (own ++ atoms_under key vs)) (sym (more_under key us ws))
      (turned own (atoms_under key vs) (atoms_under key ws) (join_laws.kept (atoms_under key vs) (atoms_under key ws) own (says.same key))));
  no_more = λ key.
      subst (λ l. SaysNoMore l (atoms_under key (us ++ ws))) (sym (more_under key us vs))
      (subst (SaysNoMore (atoms_under key us ++ atoms_under key vs)) (sym (more_under key us ws))
      (no_more_behind (atoms_under key us) (atoms_under key vs) (atoms_under key ws) (says.no_more key)));
  ends = λ key c at.
      let own : List Atom = atoms_under key us in
      subst (λ l. IsEnd l c) (sym (more_under key us ws))
      (ends_both own (atoms_under key vs) own (atoms_under key ws) (λ k e. e) (says.ends key) c (subst (λ l. IsEnd l c) (more_under key us vs) at));
}
  where
    turned : (own A B : List Atom) → Same (A ++ own) (B ++ own) → Same (own ++ A) (own ++ B)
    turned own A B same =
        let a = join_laws.swapped own A in
        let b = join_laws.swapped B own in
        record {
          covers = λ x. a.covers x ∙ same.covers x ∙ b.covers x;
          lives = λ r. a.lives r ∙ same.lives r ∙ b.lives r;
          cells = λ x. a.cells x ∙ same.cells x ∙ b.cells x;
        }

    given : {K : Type 0} (f : Atom → Option K) (k : K) (own A B : List Atom) → (Gives f A k → Gives f B k) → Gives f (own ++ A) k → Gives f (own ++ B) k
    given f k [] A B goes h = goes h
    given f k (x ∷ own) A B goes (inl e) = inl e
    given f k (x ∷ own) A B goes (inr h) = inr (given f k own A B goes h)

    no_more_behind : (own A B : List Atom) → SaysNoMore A B → SaysNoMore (own ++ A) (own ++ B)
    no_more_behind own A B a = record {
      lives = λ r l. given (live_at_row r) l own A B (a.lives r l);
      cells = λ x v. given (cell_at_path x) v own A B (a.cells x v);
      deletions = λ t d. given (deletion_of t) d own A B (a.deletions t d);
    }

-- what says the same as what says the same
pub say_then : (us vs ws : List Mutation) → SaySame us vs → SaySame vs ws → SaySame us ws
say_then us vs ws a b = record {
  same = λ key. record {
    covers = λ x. (a.same key).covers x ∙ (b.same key).covers x;
    lives = λ r. (a.same key).lives r ∙ (b.same key).lives r;
    cells = λ x. (a.same key).cells x ∙ (b.same key).cells x;
  };
  no_more = λ key. no_more_then (atoms_under key us) (atoms_under key vs) (atoms_under key ws) (a.no_more key) (b.no_more key);
  ends = λ key c at. b.ends key c (a.ends key c at);
}

-- so whoever holds mutations holds all that say the same
pub holds_alike : (order : List Ordered) (o : Option StoredTable) (vs ws : List Mutation) → SaySame vs ws → Holds order o vs → Holds order o ws
holds_alike order o vs ws says h = record { places = h.places; holds = h.holds; says = say_then (all_of h.places) vs ws h.says says }

all_joined : (vss wss : List (List Mutation)) → all_of (vss ++ wss) ≡ all_of vss ++ all_of wss
all_joined vss wss = flat_map-append (λ ws. ws) vss wss

pub adopted : (ps mid qs : List StoredTable) (n : ℕ) (p q : StoredTable) (files : List (File Held)) → AllStay ps mid → StayFew n ps mid → KeepFiles ps mid
    → n < length mid → slice_get mid n ≡ Some p → qs ≡ slice_set mid n q
    → ((order : List Ordered) (vss wss : List (List Mutation)) → p.files ≡ [] → HoldsEach order p wss → HoldEach order files [] vss → HoldsEach order q (vss ++ wss))
    → q.files ≡ files → TakesFiles n files ps qs
adopted ps mid qs n p q files stay few keep there is set takes own = record {
  holds = λ order vss ws none each h.
      holds_at order (all_of vss ++ ws) (Some q) (slice_get qs n) here
      (more order vss ws each (ap files_at (sym is) ∙ keep n ∙ none)
      (holds_at order ws (slice_get mid n) (Some p) (sym is) (stay n order ws h)));
  files_are = ap files_at here ∙ own;
  others = λ t order ws apart h. holds_at order ws (slice_get mid t) (slice_get qs t) (there_too t apart) (stay t order ws h);
  other_files = λ t apart. ap files_at (there_too t apart) ∙ keep t;
  few = λ k a b. subst (λ c. c ≤ k) (sym (ap length set ∙ count_set mid n q)) (few k a b);
}
  where
    here : slice_get qs n ≡ Some q
    here = ap (λ l. slice_get l n) set ∙ at_set mid n q there

    there_too : (t : ℕ) → t ≢ n → slice_get qs t ≡ slice_get mid t
    there_too t apart = ap (λ l. slice_get l t) set ∙ at_apart mid n q t apart

    more : (order : List Ordered) (vss : List (List Mutation)) (ws : List Mutation) → HoldEach order files [] vss → p.files ≡ [] → Holds order (Some p) ws
        → Holds order (Some q) (all_of vss ++ ws)
    more order vss ws each none h = record {
      places = vss ++ h.places;
      holds = takes order vss h.places none h.holds each;
      says = subst (λ l. SaySame l (all_of vss ++ ws)) (sym (all_joined vss h.places)) (say_behind (all_of vss) (all_of h.places) ws h.says);
    }

-- ---- from what calls ensure

pub on_ok_too : {A E : Type 0} (r : Result A E) (P Q : Type 0) → (P → Q) → OnOk r P → OnOk r Q
on_ok_too (Ok x) P Q h p = h p
on_ok_too (Err e) P Q h p = tt

pub on_err_too : {A E : Type 0} (r : Result A E) (P Q : Type 0) → (P → Q) → OnErr r P → OnErr r Q
on_err_too (Ok x) P Q h p = tt
on_err_too (Err e) P Q h p = h p
