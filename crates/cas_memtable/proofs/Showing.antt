-- What the sources of a table's memtables show of a partition, and the least timestamp of it.
use Rattle.std.proofs.Common.{◌≡◌, inl, inr, ⊎_elim, ℕ, ℤ, Bool, true, false, Option, None, Some, List, [], ◌∷◌, ◌++◌, refl, sym, ap, ◌∙◌, subst, arith, append-nil, append_assoc, Result, Ok, Err, IfOk}
use Rattle.std.specs.Prelude.{map, is_some, int_lt, if◌then◌else◌, fold}
use Rattle.std.specs.List.{AllByRecursion}
use Rattle.std.specs.Option.{option_to_list}
use Rattle.std.proofs.lemmas.Bool.{true≢false}
use Rattle.cas_cell.specs.declared.deletion.Deletion.{Deletion}
use Rattle.cas_bounds.specs.declared.cuts.Slice.{Slice}
use Rattle.cas_bounds.specs.declared.order.Ordered.{Ordered}
use Rattle.cas_atoms.specs.Coordinates.{atom_at}
use Rattle.cas_atoms.specs.Winners.{Same}
use Rattle.cas_atoms.specs.declared.atom.Atom.{Atom}
use Rattle.cas_atoms.specs.declared.atom.Mutation.{Mutation}
use Rattle.cas_laws.specs.Given.{Gives}
use Rattle.cas_laws.specs.Inside.{SameIn}
use Rattle.cas_laws.proofs.JoinProofs.{same_where_joins}
use Rattle.cas_streams.specs.Flat.{changes, flat}
use Rattle.cas_streams.specs.Joined.{Stream}
use Rattle.cas_streams.specs.Merged.{flats}
use Rattle.cas_streams.specs.NoMore.{SaysNoMore}
use Rattle.cas_streams.specs.Streams.{IsThere}
use Rattle.cas_streams.specs.declared.fragment.Fragment.{Fragment}
use Rattle.cas_streams.proofs.NoMore.{no_more_itself, no_more_kept, no_more_then}
use Rattle.cas_streams.proofs.Weaves.{all_so}
use Rattle.cas_merge.specs.Told.{streams_told, told_first}
use Rattle.cas_partition.specs.Ends.{AreAtEnds}
use Rattle.cas_partition.specs.Partitions.{partition_atoms}
use Rattle.cas_partition.specs.Slices.{Shows}
use Rattle.cas_partition.proofs.Ends.{ends_before, ends_behind}
use Rattle.cas_memtable.specs.Memtables.{GivesPart, atoms_held, changes_held, earlier, held_at, least_held, least_of, least_with}
use Rattle.cas_memtable.specs.declared.memtable.Held.{Held}
use Rattle.cas_memtable.specs.declared.memtable.MemPart.{MemPart}
use Rattle.cas_memtable.specs.Inner.Gathered.{Gathers, GathersBehind}
use Rattle.cas_memtable.specs.Inner.Least.{earlier_of, least_in}
use Rattle.cas_memtable.specs.Kept.{ShowPartition, StandIn, StandInEach, all_of, atoms_under}
use Rattle.cas_memtable.proofs.Keeping.{either_there, least_both, more_under, there_back, there_front}

pub if_ok_too : {A E : Type 0} (r : Result A E) (P Q : A → Type 0) → ((x : A) → P x → Q x) → IfOk r P → IfOk r Q
if_ok_too (Ok x) P Q h p = h x p
if_ok_too (Err e) P Q h p = tt

-- ---- nothing written

either_some : (b : Bool) (atoms : List Atom) (x y : ℤ) → ((k : ℤ) → is_some (least_with (Some k) atoms) ≡ true) → is_some (least_with (if b then Some x else Some y) atoms) ≡ true
either_some true atoms x y each = each x
either_some false atoms x y each = each y

some_least : (atoms : List Atom) (at : ℤ) → is_some (least_with (Some at) atoms) ≡ true
some_least [] at = refl
some_least (a ∷ atoms) at = either_some (int_lt (atom_at a) at) atoms (atom_at a) at (λ k. some_least atoms k)

pub nothing_written : (atoms : List Atom) → least_with None atoms ≡ None → atoms ≡ []
nothing_written [] e = refl
nothing_written (a ∷ atoms) e = absurd (true≢false (sym (some_least atoms (atom_at a)) ∙ ap is_some e))

front_nothing : (A B : List Atom) → A ++ B ≡ [] → A ≡ []
front_nothing [] B e = refl
front_nothing (a ∷ A) B e = cc

rest_nothing : (A B : List Atom) → A ++ B ≡ [] → B ≡ []
rest_nothing [] B e = e
rest_nothing (a ∷ A) B e = cc

-- ---- no more, behind a list

no_more_behind : (A C D : List Atom) → SaysNoMore C D → SaysNoMore (A ++ C) (A ++ D)
no_more_behind A C D h = record {
  lives = λ r l. past _ l A (h.lives r l);
  cells = λ x v. past _ v A (h.cells x v);
  deletions = λ t d. past _ d A (h.deletions t d);
}
  where
    past : {K : Type 0} (f : Atom → Option K) (k : K) (A : List Atom) → (Gives f C k → Gives f D k) → Gives f (A ++ C) k → Gives f (A ++ D) k
    past f k [] g h = g h
    past f k (a ∷ A) g (inl e) = inl e
    past f k (a ∷ A) g (inr h) = inr (past f k A g h)

no_more_both : (A B C D : List Atom) → SaysNoMore A B → SaysNoMore C D → SaysNoMore (A ++ C) (B ++ D)
no_more_both A B C D a c = no_more_then (A ++ C) (B ++ C) (B ++ D) (no_more_kept A B C a) (no_more_behind B C D c)

-- ---- one memtable

same_then : (s : Slice) (A B C : List Atom) → SameIn s A B → Same B C → SameIn s A C
same_then s A B C a b = record { covers = λ x i. a.covers x i ∙ b.covers x; lives = λ r i. a.lives r i ∙ b.lives r; cells = λ x i. a.cells x i ∙ b.cells x }

module _ {M : Type 0} (tells : M → Option (List Fragment)) (tops : M → Option Deletion) (order : List Ordered) (s : Slice) (key : List ℕ)
    (low : s.lo.order ≡ order) (high : s.hi.order ≡ order) where
  abbrev Shown : List MemPart → List Mutation → List M → Type 0
  Shown ms ws xs = ShowPartition tells tops order s key ms ws xs

  -- a memtable without anything under the key adds nothing
  none_first : (m : MemPart) (ms : List MemPart) (ws rest : List Mutation) (xs : List M) → StandIn order m ws → least_of m key ≡ None → Shown ms rest xs → Shown (m ∷ ms) (ws ++ rest) xs
  none_first m ms ws rest xs stands none shown =
      let nothing : atoms_under key ws ≡ [] = nothing_written (atoms_under key ws) (sym (stands.least key) ∙ none) in
      let same : atoms_under key (ws ++ rest) ≡ atoms_under key rest = more_under key ws rest ∙ ap (λ l. l ++ atoms_under key rest) nothing in
      record {
        streams = shown.streams;
        told = shown.told;
        ordered = shown.ordered;
        same = subst (SameIn s (flats shown.streams)) (sym same) shown.same;
        no_more = subst (SaysNoMore (flats shown.streams)) (sym same) shown.no_more;
        said = λ all there. shown.said all (subst IsThere same there);
        ends = λ all. subst (λ (l : List Atom). AllByRecursion (λ (x : Stream). AreAtEnds l (changes x.fragments)) shown.streams) (sym same) (shown.ends all);
        formed = λ columns is each. shown.formed columns is each.1;
        cuts = λ columns is each lo hi. shown.cuts columns is each.1 lo hi;
        none = λ e. same ∙ shown.none e;
        some = λ e. shown.some (sym same ∙ e);
      }

  -- a memtable that has something under the key shows it
  one_first : (m : MemPart) (ms : List MemPart) (ws rest : List Mutation) (h : Held) (x : M) (xs : List M) → StandIn order m ws → held_at m key ≡ Some h
      → GivesPart s (Some h) tells tops (Some x) → Shown ms rest xs → Shown (m ∷ ms) (ws ++ rest) (x ∷ xs)
  one_first m ms ws rest h x xs stands is gives shown =
      let fs : List Fragment = gives.1 in
      let shows : Shows s h.partition (tops x) fs = gives.3 in
      let both : atoms_under key (ws ++ rest) ≡ atoms_under key ws ++ atoms_under key rest = more_under key ws rest in
      let same : Same (partition_atoms h.partition) (atoms_under key ws) = subst (λ o. Same (atoms_held o) (atoms_under key ws)) is (stands.same key) in
      let no_more : SaysNoMore (partition_atoms h.partition) (atoms_under key ws) = subst (λ o. SaysNoMore (atoms_held o) (atoms_under key ws)) is (stands.no_more key) in
      record {
        streams = record { top = tops x; fragments = fs } ∷ shown.streams;
        told = (λ i. told_first (tops x) (gives.2 i) (shown.told i));
        ordered = (shows.ordered order (stands.of key h is) low high, shown.ordered);
        same = subst (SameIn s (flat (tops x) fs ++ flats shown.streams)) (sym both)
            (same_where_joins _ (flat (tops x) fs) (atoms_under key ws) (flats shown.streams) (atoms_under key rest)
            (same_then s (flat (tops x) fs) (partition_atoms h.partition) (atoms_under key ws) (shows.same order (stands.of key h is) low high) same) shown.same);
        no_more = subst (SaysNoMore (flat (tops x) fs ++ flats shown.streams)) (sym both)
            (no_more_both (flat (tops x) fs) (atoms_under key ws) (flats shown.streams) (atoms_under key rest)
            (no_more_then (flat (tops x) fs) (partition_atoms h.partition) (atoms_under key ws) (shows.no_more order (stands.of key h is)) no_more) shown.no_more);
        said = λ all there. ⊎_elim
            (λ own. there_front (flat (tops x) fs) (flats shown.streams)
            (shows.some order (stands.of key h is) all (subst (λ o. IsThere (atoms_held o)) is (stands.some key own))))
            (λ others. there_back (flat (tops x) fs) (flats shown.streams) (shown.said all others))
            (either_there (atoms_under key ws) (atoms_under key rest) (subst IsThere both there));
        ends = λ all.
            let A : List Atom = atoms_under key ws in
            let B : List Atom = atoms_under key rest in
            subst (λ (l : List Atom). AllByRecursion (λ (x : Stream). AreAtEnds l (changes x.fragments)) (record { top = tops x; fragments = fs } ∷ shown.streams)) (sym both) (
              ends_before A B (changes fs) (shows.ends order (stands.of key h is) all A (subst (λ o. AreAtEnds A (changes_held o)) is (stands.ends key))),
              all_so (λ (x : Stream). AreAtEnds B (changes x.fragments)) (λ (x : Stream). AreAtEnds (A ++ B) (changes x.fragments)) (λ x at. ends_behind A B (changes x.fragments) at)
                  shown.streams (shown.ends all),
            );
        formed = λ columns are each.
            (shows.formed columns (each.0 key h is) (low ∙ sym are) (high ∙ sym are), shown.formed columns are each.1);
        cuts = λ columns are each lo hi. (shows.cuts columns (each.0 key h is) lo hi, shown.cuts columns are each.1 lo hi);
        none = λ e. cc;
        some = λ e. absurd (gives.0 (sym (ap least_held is) ∙ stands.least key ∙ ap (least_with None) (front_nothing (atoms_under key ws) (atoms_under key rest) (sym both ∙ e))));
      }

  first_shown : (m : MemPart) (ms : List MemPart) (ws rest : List Mutation) (o : Option M) (xs : List M) (at : Option Held) → StandIn order m ws → held_at m key ≡ at
      → GivesPart s at tells tops o → Shown ms rest xs → Shown (m ∷ ms) (ws ++ rest) (option_to_list o ++ xs)
  first_shown m ms ws rest None xs at stands is gives shown = none_first m ms ws rest xs stands (ap least_held is ∙ gives) shown
  first_shown m ms ws rest (Some x) xs None stands is gives shown = absurd gives
  first_shown m ms ws rest (Some x) xs (Some h) stands is gives shown = one_first m ms ws rest h x xs stands is gives shown

  pub gathered_show : (ms : List MemPart) (wss : List (List Mutation)) (xs : List M) → StandInEach order ms wss → Gathers tells tops s key ms xs → Shown ms (all_of wss) xs
  gathered_show [] [] xs each gathers = record {
    streams = [];
    told = ap (streams_told tells tops) gathers;
    ordered = tt;
    same = record { covers = λ x i. refl; lives = λ r i. refl; cells = λ x i. refl };
    no_more = no_more_itself [];
    said = λ all there. absurd there;
    ends = λ all. tt;
    formed = λ columns are each. tt;
    cuts = λ columns are each lo hi. tt;
    none = λ e. refl;
    some = λ e. gathers;
  }
  gathered_show [] (ws ∷ wss) xs each gathers = absurd each
  gathered_show (m ∷ ms) [] xs each gathers = absurd each
  gathered_show (m ∷ ms) (ws ∷ wss) xs each gathers =
      subst (Shown (m ∷ ms) (ws ++ all_of wss)) (sym gathers.3)
      (first_shown m ms ws (all_of wss) gathers.0 gathers.1 (held_at m key) each.0 refl gathers.2 (gathered_show ms wss gathers.1 each.1 gathers.4))

-- the frozen memtables and the one that is written to
pub frozen_show : {M X : Type 0} (tells : M → Option (List Fragment)) (tops : M → Option Deletion) (order : List Ordered) (s : Slice) (key : List ℕ) (f : X → MemPart) (lent frozen : List X) (m : MemPart)
    (wss : List (List Mutation)) (xs : List M) → s.lo.order ≡ order → s.hi.order ≡ order → lent ≡ frozen → StandInEach order (map f frozen ++ m ∷ []) wss
    → Gathers tells tops s key (map f lent ++ m ∷ []) xs → ShowPartition tells tops order s key (map f frozen ++ m ∷ []) (all_of wss) xs
frozen_show tells tops order s key f lent frozen m wss xs low high e each gathers =
    gathered_show tells tops order s key low high (map f frozen ++ m ∷ []) wss xs each (subst (λ fs. Gathers tells tops s key (map f fs ++ m ∷ []) xs) e gathers)

-- ---- gathering

-- one memtable more
pub gathered_more : {M : Type 0} (tells : M → Option (List Fragment)) (tops : M → Option Deletion) (s : Slice) (key : List ℕ) (ms : List MemPart) (m : MemPart) (xs ys : List M) (o : Option M)
    → Gathers tells tops s key ms xs → GivesPart s (held_at m key) tells tops o → ys ≡ xs ++ option_to_list o → Gathers tells tops s key (ms ++ m ∷ []) ys
gathered_more tells tops s key [] m xs ys o gathers gives e = (o, [], gives, e ∙ ap (λ l. l ++ option_to_list o) gathers ∙ sym (append-nil (option_to_list o)), refl)
gathered_more tells tops s key (k ∷ ms) m xs ys o gathers gives e = (
  gathers.0,
  gathers.1 ++ option_to_list o,
  gathers.2,
  e ∙ ap (λ l. l ++ option_to_list o) gathers.3 ∙ append_assoc (option_to_list gathers.0) gathers.1 (option_to_list o),
  gathered_more tells tops s key ms m gathers.1 (gathers.1 ++ option_to_list o) o gathers.4 gives refl,
)

-- one source, if there is one, and those of the others behind it
pub gathered_behind : {M : Type 0} (tells : M → Option (List Fragment)) (tops : M → Option Deletion) (s : Slice) (key : List ℕ) (m : MemPart) (ms : List MemPart) (old mid new : List M)
    (o : Option M) → GivesPart s (held_at m key) tells tops o → mid ≡ old ++ option_to_list o → GathersBehind tells tops s key ms mid new → GathersBehind tells tops s key (m ∷ ms) old new
gathered_behind tells tops s key m ms old mid new o gives e behind =
    (option_to_list o ++ behind.0, behind.1 ∙ ap (λ l. l ++ behind.0) e ∙ append_assoc old (option_to_list o) behind.0, (o, behind.0, gives, refl, behind.2))

-- ---- the least timestamp

earlier_one : (o : Option ℤ) (at : ℤ) → earlier o at ≡ earlier_of o (Some at)
earlier_one None at = refl
earlier_one (Some b) at = refl

earlier_none : (o : Option ℤ) → earlier_of o None ≡ o
earlier_none None = refl
earlier_none (Some a) = refl

earlier_group : (a b c : Option ℤ) → earlier_of (earlier_of a b) c ≡ earlier_of a (earlier_of b c)
earlier_group None b c = refl
earlier_group (Some a) None c = refl
earlier_group (Some a) (Some b) None = earlier_none (earlier_of (Some a) (Some b))
earlier_group (Some a) (Some b) (Some c) = grind (arith)

least_from : (atoms : List Atom) (o : Option ℤ) → least_with o atoms ≡ earlier_of o (least_with None atoms)
least_from [] o = sym (earlier_none o)
least_from (a ∷ atoms) o =
    least_from atoms (earlier o (atom_at a)) ∙ ap (λ k. earlier_of k (least_with None atoms)) (earlier_one o (atom_at a))
    ∙ earlier_group o (Some (atom_at a)) (least_with None atoms) ∙ ap (earlier_of o) (sym (least_from atoms (Some (atom_at a))))

least_fold : (order : List Ordered) (key : List ℕ) (ms : List MemPart) (wss : List (List Mutation)) (o : Option ℤ) → StandInEach order ms wss
    → fold (λ least m. earlier_of least (least_of m key)) o ms ≡ least_with o (atoms_under key (all_of wss))
least_fold order key [] [] o each = refl
least_fold order key [] (ws ∷ wss) o each = absurd each
least_fold order key (m ∷ ms) [] o each = absurd each
least_fold order key (m ∷ ms) (ws ∷ wss) o each =
    least_fold order key ms wss (earlier_of o (least_of m key)) each.1
    ∙ ap (λ k. least_with k (atoms_under key (all_of wss))) (ap (earlier_of o) (each.0.least key) ∙ sym (least_from (atoms_under key ws) o))
    ∙ sym (least_both (atoms_under key ws) o (atoms_under key (all_of wss))) ∙ ap (least_with o) (sym (more_under key ws (all_of wss)))

fold_more : (key : List ℕ) (ms : List MemPart) (m : MemPart) (o : Option ℤ)
    → fold (λ least k. earlier_of least (least_of k key)) o (ms ++ m ∷ []) ≡ earlier_of (fold (λ least k. earlier_of least (least_of k key)) o ms) (least_of m key)
fold_more key [] m o = refl
fold_more key (k ∷ ms) m o = fold_more key ms m (earlier_of o (least_of k key))

pub least_more : (key : List ℕ) (ms : List MemPart) (m : MemPart) → earlier_of (least_in key ms) (least_of m key) ≡ least_in key (ms ++ m ∷ [])
least_more key ms m = sym (fold_more key ms m None)

pub least_stands : (order : List Ordered) (key : List ℕ) (ms : List MemPart) (wss : List (List Mutation)) → StandInEach order ms wss → least_in key ms ≡ least_with None (atoms_under key (all_of wss))
least_stands order key ms wss each = least_fold order key ms wss None each
