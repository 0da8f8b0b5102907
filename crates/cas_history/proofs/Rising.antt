-- What a list comes to doesn't fall, so who saw a beginning of the log knows of no more.
use Rattle.std.proofs.Common.{◌≡◌, ◌≢◌, ℕ, ◌<◌, ◌≤◌, List, [], ◌∷◌, refl, ap, sym, ◌∙◌, arith, le_refl}
use Rattle.std.specs.List.{fold}
use Rattle.std.proofs.lemmas.List.Sums.{fold-append}
use mathlib.Core.List.{IsPrefix}
use Rattle.cas_history.specs.Log.{Has, Legal}
use Rattle.cas_history.proofs.Parts.{list_grows}
use Rattle.cas_history.specs.declared.item.Item.{Item}
use Rattle.cas_history.specs.declared.item.Item.TheVariants.{Found, Stood, Wrote, Purged, Faulted, Read, Rose, Drew, Began, Ended, Changed}
use Rattle.cas_history.specs.Last.{number_after, last_number, fault_after, committed_after, first_after, moment_after, file_after, last_fault, last_committed, last_first, last_moment, last_file}
use Rattle.cas_history.specs.Items.{items, listed, lists_of, MayCome, numbers_list, front_list}

module _ {E : Type 0} where
  -- a number of which no entry may bring a lower one
  rises : (r : ℕ) (f : ℕ → Item E → ℕ) → ((list : List (Item E)) (e : Item E) → Has (lists_of e) r → MayCome r list e → fold f 0 list ≤ f (fold f 0 list) e)
      → (p log : List (Item E)) → IsPrefix p log → Legal items log → fold f 0 (listed r p) ≤ fold f 0 (listed r log)
  rises r f up p log begin legal =
      let m = fold f 0 (listed r p) in
      list_grows items r (λ l. m ≤ fold f 0 l)
      (λ list e has low may. let u = up list e has may in let a = fold-append f 0 list (e ∷ []) in omega arith)
      p log begin legal (le_refl m)

  pub faults_rise : (r : ℕ) (p log : List (Item E)) → IsPrefix p log → Legal items log → last_fault (listed r p) ≤ last_fault (listed r log)
  faults_rise r = rises r fault_after (λ list e has. up list e)
    where
      up : (list : List (Item E)) (e : Item E) → MayCome r list e → fold fault_after 0 list ≤ fault_after (fold fault_after 0 list) e
      up list (Faulted n c f) may = may.0
      up list (Found _ _) may = le_refl _
      up list (Wrote _ _ _ _ _) may = le_refl _
      up list (Stood _ _ _ _ _) may = le_refl _
      up list (Purged _ _ _ _) may = le_refl _
      up list (Read _ _) may = le_refl _
      up list (Rose _ _ _) may = le_refl _
      up list (Drew _ _) may = le_refl _
      up list (Began _ _ _) may = le_refl _
      up list (Ended _ _) may = le_refl _
      up list (Changed _ _ _ _ _ _ _) may = le_refl _

  pub committed_rises : (r : ℕ) (p log : List (Item E)) → IsPrefix p log → Legal items log → last_committed (listed r p) ≤ last_committed (listed r log)
  committed_rises r = rises r committed_after (λ list e has. up list e)
    where
      up : (list : List (Item E)) (e : Item E) → MayCome r list e → fold committed_after 0 list ≤ committed_after (fold committed_after 0 list) e
      up list (Faulted n c f) may = may.1
      up list (Found _ _) may = le_refl _
      up list (Wrote _ _ _ _ _) may = le_refl _
      up list (Stood _ _ _ _ _) may = le_refl _
      up list (Purged _ _ _ _) may = le_refl _
      up list (Read _ _) may = le_refl _
      up list (Rose _ _ _) may = le_refl _
      up list (Drew _ _) may = le_refl _
      up list (Began _ _ _) may = le_refl _
      up list (Ended _ _) may = le_refl _
      up list (Changed _ _ _ _ _ _ _) may = le_refl _

  pub moments_rise : (r : ℕ) (p log : List (Item E)) → IsPrefix p log → Legal items log → last_moment (listed r p) ≤ last_moment (listed r log)
  moments_rise r = rises r moment_after (λ list e has. up list e)
    where
      up : (list : List (Item E)) (e : Item E) → MayCome r list e → fold moment_after 0 list ≤ moment_after (fold moment_after 0 list) e
      up list (Found _ n) may = let none : last_moment list ≡ 0 = ap last_moment may.1 in omega arith
      up list (Rose _ _ _) may = let l = may.1 in omega arith
      up list (Faulted _ _ _) may = le_refl _
      up list (Wrote _ _ _ _ _) may = le_refl _
      up list (Stood _ _ _ _ _) may = le_refl _
      up list (Purged _ _ _ _) may = le_refl _
      up list (Read _ _) may = le_refl _
      up list (Drew _ _) may = le_refl _
      up list (Began _ _ _) may = le_refl _
      up list (Ended _ _) may = le_refl _
      up list (Changed _ _ _ _ _ _ _) may = le_refl _

  pub files_rise : (p log : List (Item E)) → IsPrefix p log → Legal items log → last_file (listed numbers_list p) ≤ last_file (listed numbers_list log)
  files_rise = rises numbers_list file_after (λ list e has. up list e)
    where
      up : (list : List (Item E)) (e : Item E) → MayCome numbers_list list e → fold file_after 0 list ≤ file_after (fold file_after 0 list) e
      up list (Found _ n) may = let none : last_file list ≡ 0 = ap last_file may.1 in omega arith
      up list (Drew _ _) may = let l = may.1 refl in omega arith
      up list (Rose _ _ _) may = le_refl _
      up list (Faulted _ _ _) may = le_refl _
      up list (Wrote _ _ _ _ _) may = le_refl _
      up list (Stood _ _ _ _ _) may = le_refl _
      up list (Purged _ _ _ _) may = le_refl _
      up list (Read _ _) may = le_refl _
      up list (Began _ _ _) may = le_refl _
      up list (Ended _ _) may = le_refl _
      up list (Changed _ _ _ _ _ _ _) may = le_refl _

  -- no entry of a shard's list brings a lower number
  pub number_rises : (shard : ℕ) → shard < 16 → (list : List (Item E)) (e : Item E) → Has (lists_of e) (front_list shard) → MayCome (front_list shard) list e → last_number list ≤ number_after (last_number list) e
  number_rises shard low list (Found _ n) has may = let none : last_number list ≡ 0 = ap last_number may.1 in omega arith
  number_rises shard low list (Wrote s p c n w) has may =
      let diary = may.1 in
      let here : front_list shard ≡ front_list s = grind (arith) in
      let next = may.2 here in
      omega arith
  number_rises shard low list (Drew _ _) has may = le_refl _
  number_rises shard low list (Rose _ _ _) has may = le_refl _
  number_rises shard low list (Faulted _ _ _) has may = le_refl _
  number_rises shard low list (Stood _ _ _ _ _) has may = le_refl _
  number_rises shard low list (Purged _ _ _ _) has may = le_refl _
  number_rises shard low list (Read _ _) has may = le_refl _
  number_rises shard low list (Began _ _ _) has may = le_refl _
  number_rises shard low list (Ended _ _) has may = le_refl _
  number_rises shard low list (Changed _ _ _ _ _ _ _) has may = le_refl _

  pub numbers_rise : (shard : ℕ) → shard < 16 → (p log : List (Item E)) → IsPrefix p log → Legal items log → last_number (listed (front_list shard) p) ≤ last_number (listed (front_list shard) log)
  numbers_rise shard low = rises (front_list shard) number_after (number_rises shard low)

  -- the fault that stopped the room stays
  pub first_stays : (r : ℕ) (p log : List (Item E)) → IsPrefix p log → Legal items log → last_first (listed r p) ≢ 0 → last_first (listed r p) ≡ last_first (listed r log)
  first_stays r p log begin legal stopped =
      list_grows items r (λ l. last_first (listed r p) ≡ last_first l)
      (λ list e has same may. same ∙ (kept list e (λ none. stopped (same ∙ none)) may ∙ sym (fold-append first_after 0 list (e ∷ []))))
      p log begin legal refl
    where
      kept : (list : List (Item E)) (e : Item E) → last_first list ≢ 0 → MayCome r list e → last_first list ≡ first_after (last_first list) e
      kept list (Faulted n c f) not may = sym (may.2 not)
      kept list (Found _ _) not may = refl
      kept list (Wrote _ _ _ _ _) not may = refl
      kept list (Stood _ _ _ _ _) not may = refl
      kept list (Purged _ _ _ _) not may = refl
      kept list (Read _ _) not may = refl
      kept list (Rose _ _ _) not may = refl
      kept list (Drew _ _) not may = refl
      kept list (Began _ _ _) not may = refl
      kept list (Ended _ _) not may = refl
      kept list (Changed _ _ _ _ _ _ _) not may = refl
