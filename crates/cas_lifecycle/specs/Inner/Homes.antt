-- What the maker of passes keeps.
use Rattle.std.specs.Prelude.{◌≡◌, ℕ, ◌%◌, ◌<◌, ◌≤◌, List, [], length, Some}
use Rattle.cas_history.specs.Log.{Each}
use Rattle.cas_history.specs.Hands.{shares}
use Rattle.cas_history.specs.declared.hand.Hand.{Hand}
use Rattle.cas_history.specs.declared.item.Item.{Item}
use Rattle.cas_history.specs.Items.{listed, first_diary, Distinct}
use Rattle.cas_history.specs.Last.{Idle}

module _ {E : Type 0} where
  -- a diary that another hand has
  abbrev pub IsAway : Hand (Item E) → ℕ → Type 0
  IsAway h p = (first_diary ≤ p) × (p % 2 ≡ 0) × (shares p h ≡ 0)

  -- at most so many diaries are out
  abbrev pub IsOut : ℕ → Hand (Item E) → Type 0
  IsOut out h = (ps : List ℕ) → Distinct ps → Each (IsAway h) ps → length ps ≤ out

  -- the hand makes all lists from next on, which are empty; at most so many diaries are out; and none of its own has a turn
  pub record Homely (next out : ℕ) (h : Hand (Item E)) : Type 0 where
    pub makes : h.from ≡ Some next
    pub empty : (r : ℕ) → next ≤ r → listed r h.saw ≡ []
    pub away : IsOut out h
    pub quiet : (p : ℕ) → first_diary ≤ p → p % 2 ≡ 0 → 0 < shares p h → Idle (listed p h.saw)
