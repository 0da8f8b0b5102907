-- The last rows of a stream, kept as they come; what is left to come after each step of live rows.
use Rattle.std.proofs.Common.{◌≡◌, ◌≢◌, ℕ, zero, suc, ◌-◌, ◌==◌, is_some, take, ◌+◌, ℤ, Bool, true, false, Option, None, Some, IfSome, List, [], ◌∷◌, ◌++◌, append_assoc, reverse, length, arith, refl, sym, ap, ◌∙◌}
use Rattle.std.proofs.lemmas.Bool.{true≢false, eqb-true, eqb-false}
use Rattle.std.proofs.lemmas.List.{append-nil, reverse-reverse, reverse-append}
use Rattle.std.specs.Prelude.{Ok}
use Rattle.std.specs.Option.{option_map, option_to_list}
use Rattle.cas_cell.specs.declared.deletion.Deletion.{Deletion}
use Rattle.cas_atoms.specs.Answers.{turned, limited}
use Rattle.cas_atoms.specs.declared.atom.Atom.{Atom}
use Rattle.cas_atoms.specs.declared.atom.Atom.TheVariants.{PartitionDeletion}
use Rattle.cas_atoms.specs.declared.query.LiveRow.{LiveRow}
use Rattle.cas_atoms.specs.declared.query.Query.{Query}
use Rattle.cas_streams.specs.Flat.{atom_of}
use Rattle.cas_streams.specs.declared.fragment.Fragment.{Fragment}
use Rattle.cas_live.specs.Views.{or_static}
use Rattle.cas_live.specs.Rows.{GivesFirst, GoesDown, left_wanted}
use Rattle.cas_live.specs.Walks.{walk, shared_after}
use Rattle.cas_live.specs.Inner.Coming.{rows_ahead, shared_at_end, or_alone, all_rows, rows_of_stage, rows_left, is_full, TakesLast, ReadsToARow, ShowsRow}
use Rattle.cas_live.specs.declared.viewer.Viewer.{Viewer}
use Rattle.cas_live.specs.declared.live_rows.Stage.{Stage}

-- ---- the last rows

-- of the rows that came so far these are kept: the last ones, as many as are wanted
pub record KeptOf (wanted : Option ℕ) (came kept : List LiveRow) : Type 0 where
  pub last : (others : List LiveRow) → limited wanted (reverse (kept ++ others)) ≡ limited wanted (reverse (came ++ others))
  pub none : kept ≡ [] → came ≡ []
  pub some : came ≡ [] → kept ≡ []

-- the rows of all fragments are those that came, and those of the fragments that are left
pub record Gathered (wanted : Option ℕ) (v : Viewer) (fs : List Fragment) (w : Viewer) (told : Option (List Fragment)) (kept : List LiveRow) : Type 0 where
  pub came : List LiveRow
  pub rest : List Fragment
  pub left : told ≡ Some rest
  pub rows : rows_ahead v fs ≡ came ++ rows_ahead w rest
  pub shared : shared_at_end v fs ≡ shared_at_end w rest
  pub of : KeptOf wanted came kept

pub none_gathered : (wanted : Option ℕ) (v : Viewer) (fs : List Fragment) (told : Option (List Fragment)) → told ≡ Some fs → Gathered wanted v fs v told []
none_gathered wanted v fs told e = record {
  came = [];
  rest = fs;
  left = e;
  rows = refl;
  shared = refl;
  of = record { last = λ others. refl; none = λ e. refl; some = λ e. refl };
}

not_nothing : {X : Type 0} (xs : List X) (x : X) → xs ++ x ∷ [] ≡ [] → ⊥
not_nothing [] x e = cc
not_nothing (y ∷ xs) x e = cc

pub one_gathered : (wanted : Option ℕ) (v : Viewer) (fs : List Fragment) (w : Viewer) (told : Option (List Fragment)) (kept : List LiveRow) (g : Gathered wanted v fs w told kept)
    (u : Viewer) (after : Option (List Fragment)) (row : LiveRow) → ShowsRow w g.rest u after row → (now_kept : List LiveRow)
    → ((others : List LiveRow) → limited wanted (reverse (now_kept ++ others)) ≡ limited wanted (reverse (kept ++ row ∷ others))) → now_kept ≢ []
    → Gathered wanted v fs u after now_kept
one_gathered wanted v fs w told kept g u after row s now_kept last some = record {
  came = g.came ++ row ∷ [];
  rest = s.rest;
  left = s.left;
  rows = g.rows ∙ ap (λ rows. g.came ++ rows) s.rows ∙ sym (append_assoc g.came (row ∷ []) (rows_ahead u s.rest));
  shared = g.shared ∙ s.shared;
  of = record {
    last = λ others. last others ∙ g.of.last (row ∷ others) ∙ ap (λ rows. limited wanted (reverse rows)) (sym (append_assoc g.came (row ∷ []) others));
    none = λ e. absurd (some e);
    some = λ e. absurd (not_nothing g.came row e);
  };
}

or_static_some : (q : Query) (now : ℤ) (all : List Atom) (rows : List LiveRow) → rows ≢ [] → or_static q now all rows ≡ rows
or_static_some q now all [] some = absurd (some refl)
or_static_some q now all (r ∷ rs) some = refl

none_turned : {X : Type 0} (xs : List X) → reverse xs ≡ [] → xs ≡ []
none_turned xs e = sym (reverse-reverse xs) ∙ ap reverse e

module _ (wanted : Option ℕ) (v : Viewer) (fs : List Fragment) (w : Viewer) (told : Option (List Fragment)) (kept : List LiveRow) (g : Gathered wanted v fs w told kept) (u : Viewer)
    (query : u.query ≡ v.query) (moment : u.moment ≡ v.moment) (ahead : rows_ahead w g.rest ≡ []) (end : shared_at_end w g.rest ≡ u.shared.items) where
  all_came : rows_ahead v fs ≡ g.came
  all_came = g.rows ∙ ap (λ rows. g.came ++ rows) ahead ∙ append-nil g.came

  -- rows came: the last ones are kept
  pub rows_came : kept ≢ [] → limited wanted (reverse kept) ≡ limited wanted (or_static v.query v.moment (shared_at_end v fs) (reverse (rows_ahead v fs)))
  rows_came some =
      ap (λ rows. limited wanted (reverse rows)) (sym (append-nil kept)) ∙ g.of.last [] ∙ ap (λ rows. limited wanted (reverse rows)) (append-nil g.came)
      ∙ ap (limited wanted) (sym (or_static_some v.query v.moment (shared_at_end v fs) (reverse g.came) (λ e. some (g.of.some (none_turned g.came e)))))
      ∙ ap (λ rows. limited wanted (or_static v.query v.moment (shared_at_end v fs) (reverse rows))) (sym all_came)

  -- none came: the static row alone
  pub none_came : kept ≡ [] → (rows : List LiveRow) → rows ≡ or_static u.query u.moment u.shared.items []
      → limited wanted rows ≡ limited wanted (or_static v.query v.moment (shared_at_end v fs) (reverse (rows_ahead v fs)))
  none_came none rows e =
      ap (limited wanted) (e ∙ (λ i. or_static (query i) (moment i) (sym (g.shared ∙ end) i) (reverse (sym (all_came ∙ g.of.none none) i))))

-- ---- the first call

module _ (top : Option Deletion) (wanted : Option ℕ) (v w : Viewer) (query : w.query ≡ v.query) (moment : w.moment ≡ v.moment)
    (shared : w.shared.items ≡ v.shared.items ++ atom_of PartitionDeletion top) (force : w.in_force ≡ v.in_force) (told : Option (List Fragment)) where
  -- rows are given as they come
  pub begins_forward : v.query.reversed ≡ false → option_map (all_rows top v) told ≡ option_map (λ fs. or_alone false w (shared_at_end w fs) (rows_ahead w fs)) told
  begins_forward e =
      (λ i. option_map (λ fs. or_static v.query v.moment (shared_after (v.shared.items ++ atom_of PartitionDeletion top) fs)
      (turned (e i) (walk v.query v.moment (v.shared.items ++ atom_of PartitionDeletion top) v.in_force fs))) told)
      ∙ (λ i. option_map (λ fs. or_static (sym query i) (sym moment i) (shared_after (sym shared i) fs)
      (walk (sym query i) (sym moment i) (sym shared i) (sym force i) fs)) told)

  -- the last ones are given first
  pub begins_backward : v.query.reversed ≡ true → (kept : List LiveRow)
      → ((fs : List Fragment) → told ≡ Some fs → limited wanted (reverse kept) ≡ limited wanted (or_static w.query w.moment (shared_at_end w fs) (reverse (rows_ahead w fs))))
      → (rs : List LiveRow) → option_map (limited wanted) (option_map (all_rows top v) told) ≡ Some rs → option_map (limited wanted) (Some (reverse kept)) ≡ Some rs
  begins_backward e kept last rs h = go told refl h
    where
      go : (t : Option (List Fragment)) → told ≡ t → option_map (limited wanted) (option_map (all_rows top v) t) ≡ Some rs → option_map (limited wanted) (Some (reverse kept)) ≡ Some rs
      go None at k = cc
      go (Some fs) at k =
          ap Some (
          last fs at
          ∙ (λ i. limited wanted (or_static (query i) (moment i) (shared_after (shared i) fs) (reverse (walk (query i) (moment i) (shared i) (force i) fs))))
          ∙ (λ i. limited wanted (or_static v.query v.moment (shared_after (v.shared.items ++ atom_of PartitionDeletion top) fs)
          (turned (sym e i) (walk v.query v.moment (v.shared.items ++ atom_of PartitionDeletion top) v.in_force fs))))
          ) ∙ k

-- ---- what is told of an empty queue, and of options

pub empty_items : {X : Type 0} (b : Bool) (n : ℕ) (xs : List X) → b ≡ (n == 0) → n ≡ length xs → b ≡ true → xs ≡ []
empty_items b n [] e l t = refl
empty_items b n (x ∷ xs) e l t = absurd (omega (arith, eqb-true n 0 (sym e ∙ t), l))

pub some_items : {X : Type 0} (b : Bool) (n : ℕ) (xs : List X) → b ≡ (n == 0) → n ≡ length xs → b ≡ false → xs ≢ []
some_items b n [] e l t none = eqb-false n 0 (sym e ∙ t) l
some_items b n (x ∷ xs) e l t none = cc

pub if_some_then : (o : Option ℕ) (P Q : ℕ → Type 0) → IfSome o (λ n. P n → Q n) → IfSome o P → IfSome o Q
if_some_then None P Q h p = tt
if_some_then (Some n) P Q h p = h p

-- ---- the next row, and the limit

pub taken_last : {X : Type 0} (before after : List X) (x : X) → before ≡ after ++ x ∷ [] → reverse before ≡ x ∷ reverse after
taken_last before after x e = ap reverse e ∙ reverse-append after (x ∷ [])

take_nothing : {X : Type 0} (n : ℕ) → take {A = X} n [] ≡ []
take_nothing zero = refl
take_nothing (suc n) = refl

none_limited : (wanted : Option ℕ) → limited {X = LiveRow} wanted [] ≡ []
none_limited None = refl
none_limited (Some n) = take_nothing n

-- the first of the rows to come is the first of those that are wanted
pub limits : (E : Type 0) (wanted : Option ℕ) → wanted ≢ Some 0 → (mid after : Option (List LiveRow)) (row : Option LiveRow) (rs : List LiveRow)
    → option_map (limited wanted) mid ≡ Some rs → ((all : List LiveRow) → mid ≡ Some all → GivesFirst {E = E} all after (Ok row))
    → GivesFirst {E = E} rs (option_map (limited (left_wanted wanted (is_some row))) after) (Ok row)
limits E wanted some None after row rs e gives = cc
limits E wanted some (Some all) after None rs e gives =
    let (none, left) = gives all refl in (
      (let h : limited wanted all ≡ rs = cc in sym h) ∙ ap (limited wanted) none ∙ none_limited wanted,
      (λ i. option_map (limited (unchanged wanted i)) (left i)) ∙ ap Some (none_limited wanted),
    )
  where
    unchanged : (w : Option ℕ) → left_wanted w false ≡ w
    unchanged None = refl
    unchanged (Some n) = refl
limits E None some (Some all) after (Some r) rs e gives =
    let (rest, first, left) = gives all refl in
    (rest, (let h : all ≡ rs = cc in sym h ∙ first), ap (option_map (λ rows. rows)) left)
limits E (Some zero) some (Some all) after (Some r) rs e gives = absurd (some refl)
limits E (Some (suc n)) some (Some all) after (Some r) rs e gives =
    let (rest, first, left) = gives all refl in
    let one_fewer : suc n - 1 ≡ n = omega arith in (
      take n rest,
      (let h : take (suc n) all ≡ rs = cc in sym h) ∙ ap (take (suc n)) first,
      (λ i. option_map (take (one_fewer i)) (left i)),
    )

-- ---- what was read

pub nothing_read : (v : Viewer) (all : List Atom) (fs : List Fragment) (told : Option (List Fragment)) → told ≡ Some fs → ReadsToARow v all fs told
nothing_read v all fs told e = record { silent = []; last = None; rest = fs; whole = refl; shows_none = refl; left = e }

pub all_read : (v : Viewer) (fs : List Fragment) (after : Option (List Fragment)) → rows_ahead v fs ≡ [] → after ≡ Some [] → ReadsToARow v v.shared.items fs after
all_read v fs after none e = record { silent = fs; last = None; rest = []; whole = sym (append-nil fs); shows_none = none; left = e }

pub read_on : (v w : Viewer) (all : List Atom) (fs : List Fragment) (after : Option (List Fragment)) → w.query ≡ v.query → w.moment ≡ v.moment → w.in_force ≡ v.in_force
    → w.shared.items ≡ all → ReadsToARow w w.shared.items fs after → ReadsToARow v all fs after
read_on v w all fs after query moment force shared r = record {
  silent = r.silent;
  last = r.last;
  rest = r.rest;
  whole = r.whole;
  shows_none = (λ i. walk (sym query i) (sym moment i) (sym shared i) (sym force i) r.silent) ∙ r.shows_none;
  left = r.left;
}

pub not_full : (wanted : Option ℕ) → is_full wanted 0 ≡ false → wanted ≢ Some 0
not_full wanted f e = true≢false (sym (ap (λ w. is_full w 0) e) ∙ f)

module _ (E : Type 0) (stage : Stage) (before after : List LiveRow) (row : Option LiveRow) where
  pub last_given : (top : Option Deletion) (v : Viewer) (told : Option (List Fragment)) → rows_of_stage top stage v told ≡ Some (reverse before) → TakesLast before after row
      → (rs : List LiveRow) → rows_of_stage top stage v told ≡ Some rs → GivesFirst {E = E} rs (Some (reverse after)) (Ok row)
  last_given top v told kept taken rs e = go row taken (let h : Some (reverse before) ≡ Some rs = sym kept ∙ e in cc)
    where
      go : (r : Option LiveRow) → TakesLast before after r → reverse before ≡ rs → GivesFirst {E = E} rs (Some (reverse after)) (Ok r)
      go None (none, left) h = (sym h ∙ ap reverse none, ap (λ rows. Some (reverse rows)) left)
      go (Some r) first h = (reverse after, sym h ∙ first, refl)

  pub last_ends : (n : ℕ) → rows_left stage n ≡ length before → length before ≡ length after + length (option_to_list row) → GoesDown {E = E} (rows_left stage n) (length after) (Ok row)
  last_ends n kept taken = go row taken
    where
      go : (r : Option LiveRow) → length before ≡ length after + length (option_to_list r) → GoesDown {E = E} (rows_left stage n) (length after) (Ok r)
      go None e = omega (arith, kept, e)
      go (Some r) e = omega (arith, kept, e)
