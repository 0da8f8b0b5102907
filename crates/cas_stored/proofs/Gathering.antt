-- What a file answers, and the sources of files behind others.
use Rattle.std.proofs.Common.{◌≡◌, ◌≤◌, ◌-◌, ℕ, true, Option, None, Result, Ok, Err, OnOk, List, [], ◌∷◌, ◌++◌, length, inl, refl, sym, ap, ◌∙◌, subst, arith, append_assoc}
use Rattle.std.specs.Prelude.{map, take, drop, slice_index_or}
use Rattle.std.specs.Option.{option_to_list}
use Rattle.cas_cell.specs.declared.deletion.Deletion.{Deletion}
use Rattle.cas_bounds.specs.declared.cuts.Slice.{Slice}
use Rattle.cas_streams.specs.declared.fragment.Fragment.{Fragment}
use Rattle.cas_facts.specs.declared.facts.Facts.{Facts}
use Rattle.cas_tables.specs.Contents.{Contents}
use Rattle.cas_blocks.specs.declared.fault.TableFault.{TableFault}
use Rattle.cas_blocks.specs.declared.fault.TableFault.TheVariants as table_fault
use Rattle.cas_sstread.specs.Loading.{Held}
use Rattle.cas_stored.specs.Contents.{AnswersOf, IsOf}
use Rattle.cas_reading.specs.Slices.{Answers, IsTold, IsBadHead}
use Rattle.cas_view.specs.Views.{File, may_hold}
use Rattle.cas_stored.specs.Reading.{IsWhyNot}
use Rattle.cas_stored.specs.Inner.Files.{FileAnswers, FilesGive, FilesGiveBehind}

-- ---- one file

-- no source, of a file that was asked
pub none_answers : {X Y : Type 0} (f : File Held) (t : Held) (key : List ℕ) (s : Slice) (read_top : Y → Option Deletion) (read : Y → Option (List Fragment)) (top : X → Option Deletion)
    (to_come : X → Option (List Fragment)) (o : Option Y) → t ≡ f.table → o ≡ None → Answers t key s read_top read (Ok o)
    → ((c : Contents) (facts : Facts) → IsOf t c facts → AnswersOf c key s read_top read (Ok o)) → FileAnswers {X = X} f key s top to_come (Ok None)
none_answers {X} {Y} f t key s read_top read top to_come o same none told contents =
    by (subst (λ (u : Option Y). Answers t key s read_top read (Ok u)) none told) (λ c facts of. subst (λ (u : Option Y). AnswersOf c key s read_top read (Ok u)) none (contents c facts of))
  where
    by : Answers {X = Y} t key s read_top read (Ok None) → ((c : Contents) (facts : Facts) → IsOf t c facts → AnswersOf {X = Y} c key s read_top read (Ok None)) → FileAnswers {X = X} f key s top to_come (Ok None)
    by a of_contents = record {
      outside = λ out. refl;
      within = λ held. subst (λ (u : Held). Answers {X = X} u key s top to_come (Ok None)) same a;
      contents = λ held c facts of. of_contents c facts (subst (λ (u : Held). IsOf u c facts) (sym same) of);
    }

-- why it isn't read
pub why_one : {Y : Type 0} (f : File Held) (t : Held) (key : List ℕ) (s : Slice) (top : Y → Option Deletion) (to_come : Y → Option (List Fragment)) (fault : TableFault) → t ≡ f.table
    → may_hold f.info key ≡ true → Answers t key s top to_come (Err fault) → IsWhyNot (f ∷ []) key fault
why_one f t key s top to_come table_fault.Read same held a = tt
why_one f t key s top to_come (table_fault.BadBlock n at) same held a = (
  f,
  inl refl,
  record { entry = a.0; range = held; told = subst (λ (u : Held). IsTold u.kept key a.0) same a.1; bad = subst (λ (u : Held). IsBadHead u key a.0 n at) same a.2 },
)
why_one f t key s top to_come table_fault.Mem same held a = tt

-- ---- a list by its first element and the others

take_all : {X : Type 0} (xs : List X) → take (length xs) xs ≡ xs
take_all [] = refl
take_all (x ∷ xs) = ap (λ l. x ∷ l) (take_all xs)

first_and_others : {X : Type 0} (xs : List X) (y : X) → 1 ≤ length xs → y ≡ slice_index_or xs 0 y → xs ≡ y ∷ take (length xs - 1) (drop 1 xs)
first_and_others [] y some e = absurd (omega (arith, some))
first_and_others (x ∷ xs) y some e =
    let less : length (x ∷ xs) - 1 ≡ length xs = omega arith in
    ap (λ z. z ∷ xs) (sym e) ∙ ap (λ l. y ∷ l) (sym (take_all xs) ∙ ap (λ n. take n xs) (sym less))

-- ---- files one after another

behind : {X : Type 0} (key : List ℕ) (s : Slice) (top : X → Option Deletion) (to_come : X → Option (List Fragment)) (f : File Held) (fs : List (File Held)) (old mid new : List X) (o : Option X)
    → FileAnswers f key s top to_come (Ok o) → mid ≡ old ++ option_to_list o → FilesGiveBehind key s top to_come fs mid new → FilesGiveBehind key s top to_come (f ∷ fs) old new
behind key s top to_come f fs old mid new o answers e gives =
    (option_to_list o ++ gives.0, gives.1 ∙ ap (λ l. l ++ gives.0) e ∙ append_assoc old (option_to_list o) gives.0, (o, gives.0, answers, refl, gives.2))

pub files_behind : {X Y E : Type 0} (key : List ℕ) (s : Slice) (top : X → Option Deletion) (to_come : X → Option (List Fragment)) (file : Y → File Held) (ys : List Y) (y : Y) (old mid new : List X)
    (o : Option X) (r : Result (Unit {0}) E) → 1 ≤ length ys → y ≡ slice_index_or ys 0 y → FileAnswers (file y) key s top to_come (Ok o) → mid ≡ old ++ option_to_list o
    → OnOk r (FilesGiveBehind key s top to_come (map file (take (length ys - 1) (drop 1 ys))) mid new) → OnOk r (FilesGiveBehind key s top to_come (map file ys) old new)
files_behind key s top to_come file ys y old mid new o (Ok u) some first answers e gives =
    subst (λ l. FilesGiveBehind key s top to_come (map file l) old new) (sym (first_and_others ys y some first))
    (behind key s top to_come (file y) (map file (take (length ys - 1) (drop 1 ys))) old mid new o answers e gives)
files_behind key s top to_come file ys y old mid new o (Err fault) some first answers e gives = tt

-- behind nothing
pub files_alone : {X : Type 0} (key : List ℕ) (s : Slice) (top : X → Option Deletion) (to_come : X → Option (List Fragment)) (fs : List (File Held)) (old new : List X) → old ≡ []
    → FilesGiveBehind key s top to_come fs old new → FilesGive key s top to_come fs new
files_alone key s top to_come fs old new none gives = subst (FilesGive key s top to_come fs) (sym (gives.1 ∙ ap (λ l. l ++ gives.0) none)) gives.2
