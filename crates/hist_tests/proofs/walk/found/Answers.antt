use Rattle.std.proofs.Common.{◌≡◌, ◌≤◌, ◌∙◌, List, ◌++◌, [], ◌∷◌, ap, inl, refl, sym, subst, arith, ℕ}
use Rattle.cas_history.specs.Log.{Has}
use Rattle.cas_history.specs.declared.item.Item.{Item}
use Rattle.cas_history.specs.declared.item.Item.TheVariants.{Stood}
use Rattle.cas_history.specs.Items.{listed, changes_list}
use Rattle.cas_history.specs.Last.{files_of, frontier_of, used}
use Rattle.cas_lifecycle.specs.Books.{is_live}
use Rattle.hist_tests.proofs.Oks.{on_ok}
use Rattle.hist_tests.proofs.walk.found.Goals as goal

pub list_found-requires-clause-files : goal.list_found-requires-clause-files
list_found-requires-clause-files g c =
    let last = c.new-numbers.ensures.0 in
    (((λ h. h), tt), ((subst (λ (n : ℕ). 3 ≤ n) (sym last) (omega arith), λ h. subst (λ l. Has (used l) 3) c.new-numbers.ensures.1 h), tt))

pub list_found-requires-clause-live : goal.list_found-requires-clause-live
list_found-requires-clause-live g c = (ap is_live (on_ok _ _ c.expect-5.ensures c.add.ensures.ok), tt)

pub list_found-requires-clause-frontier : goal.list_found-requires-clause-frontier
list_found-requires-clause-frontier g c =
    let changes = c.new-changes.result in
    let none = ap (λ s. listed (changes_list s) changes.pass.saw) c.new-changes.ensures.0 ∙ c.new-changes.ensures.1 in
    (subst (λ l. frontier_of 1 l ≤ 41) (sym none) (omega arith), subst (λ (n : ℕ). 41 ≤ n) (sym c.new-front.ensures.1) (omega arith))

-- what the opening found of a table stands alone
has_found : {E : Type 0} (old new : List (Item E)) (s n : ℕ) (w : E) → old ≡ [] → new ≡ old ++ Stood s 1 n (3 ∷ []) w ∷ [] → Has (files_of new) 3
has_found old new s n w none came = subst (λ l. Has (files_of l) 3) (sym (came ∙ ap (λ l. l ++ Stood s 1 n (3 ∷ []) w ∷ []) none)) (inl refl)

low_found : {E : Type 0} (old new : List (Item E)) (s n : ℕ) (w : E) → old ≡ [] → new ≡ old ++ Stood s 1 n (3 ∷ []) w ∷ [] → n ≤ 42 → frontier_of 1 new ≤ 42
low_found old new s n w none came low = subst (λ l. frontier_of 1 l ≤ 42) (sym (came ∙ ap (λ l. l ++ Stood s 1 n (3 ∷ []) w ∷ []) none)) low

pub compact-compacted-requires-clause-frontier : goal.compact-compacted-requires-clause-frontier
compact-compacted-requires-clause-frontier g c =
    let changes = c.new-changes.result in
    let came = c.list_found.ensures in
    let none = ap (λ s. listed (changes_list s) changes.pass.saw) c.new-changes.ensures.0 ∙ c.new-changes.ensures.1 in
    let now = ap (λ s. listed (changes_list s) c.list_found.new.changes.pass.saw) came.changes.0 ∙ came.changes.1 in
    (low_found _ _ changes.shard 41 _ none now (omega arith), subst (λ (n : ℕ). 42 ≤ n) (sym (came.front.0 ∙ c.new-front.ensures.1)) (omega arith))

pub compact-compacted-requires-clause-has : goal.compact-compacted-requires-clause-has
compact-compacted-requires-clause-has g c =
    let changes = c.new-changes.result in
    let came = c.list_found.ensures in
    let none = ap (λ s. listed (changes_list s) changes.pass.saw) c.new-changes.ensures.0 ∙ c.new-changes.ensures.1 in
    let now = ap (λ s. listed (changes_list s) c.list_found.new.changes.pass.saw) came.changes.0 ∙ came.changes.1 in
    has_found _ _ changes.shard 41 _ none now
