-- What the maker of passes keeps when it gives lists away, takes back what it gave, and sees the log.
use Rattle.std.proofs.Common.{◌≡◌, ◌≢◌, ℕ, zero, suc, ◌+◌, ◌%◌, ◌<◌, ◌≤◌, ◌⊎◌, List, [], ◌∷◌, length, Bool, true, false, cond, refl, ap, sym, ◌∙◌, subst, inl, inr, ⊎_elim, arith, leb, le-leb, eqb}
use Rattle.std.specs.Prelude.{None, Some, ◌==◌}
use Rattle.std.proofs.lemmas.Bool.Decides.{leb_tells, eqb_tells}
use Rattle.cas_history.specs.declared.hand.Hand.{Hand}
use Rattle.cas_history.specs.Log.{Has, Each}
use Rattle.cas_history.specs.Hands.{numbers, times, shares, beyond, Owns, Knows, Apart, sees, gave, given, both, founder, dealt, further, either_right}
use Rattle.cas_history.proofs.LogLists.{times_append, each_at}
use Rattle.cas_history.proofs.Parts.{deals_all}
use Rattle.cas_history.specs.declared.item.Item.{Item}
use Rattle.cas_history.specs.Items.{items, listed, first_diary, Distinct}
use Rattle.cas_history.specs.Last.{Idle, turn}
use Rattle.cas_lifecycle.specs.Inner.Homes.{IsAway, IsOut, Homely}

-- the right to make lists from n on is one to each of those
beyond_all : (n r : ℕ) → n ≤ r → beyond (Some n) r ≡ 1
beyond_all n r le = ap (λ (t : Bool). cond {A = ℕ} t 1 0) (le-leb n r le)

beyond_none : (n r : ℕ) → r < n → beyond (Some n) r ≡ 0
beyond_none n r lt = ⊎_elim (λ (t : (leb n r ≡ true) × (n ≤ r)). absurd (let a = t.1 in omega arith)) (λ (f : (leb n r ≡ false) × (r < n)). ap (λ (t : Bool). cond {A = ℕ} t 1 0) f.0) (leb_tells n r)

pub below_or_not : (n r : ℕ) → (n ≤ r) ⊎ (r < n)
below_or_not n r = ⊎_elim (λ (t : (leb n r ≡ true) × (n ≤ r)). inl t.1) (λ (f : (leb n r ≡ false) × (r < n)). inr f.1) (leb_tells n r)

-- a list without one of its elements
record TakenOut (P : ℕ → Type 0) (x : ℕ) (ps : List ℕ) : Type 0 where
  pub rest : List ℕ
  pub distinct : Distinct rest
  pub all : Each P rest
  pub none : Has rest x → ⊥
  pub part : (p : ℕ) → Has rest p → Has ps p
  pub short : length ps ≤ length rest + 1

take_out : (P : ℕ → Type 0) (x : ℕ) (ps : List ℕ) → Distinct ps → Each P ps → TakenOut P x ps
take_out P x [] d e = record { rest = []; distinct = tt; all = tt; none = λ h. h; part = λ p h. h; short = omega arith }
take_out P x (y ∷ ys) d e =
    ⊎_elim
    (λ (t : (eqb y x ≡ true) × (y ≡ x)). record { rest = ys; distinct = d.1; all = e.1; none = λ h. d.0 (subst (Has ys) (sym t.1) h); part = λ p h. inr h; short = omega arith })
    (λ (f : (eqb y x ≡ false) × (y ≢ x)).
    let more = take_out P x ys d.1 e.1 in record {
      rest = y ∷ more.rest;
      distinct = ((λ h. d.0 (more.part y h)), more.distinct);
      all = (e.0, more.all);
      none = λ h. ⊎_elim f.1 more.none h;
      part = λ p h. ⊎_elim (λ (s : y ≡ p). inl s) (λ l. inr (more.part p l)) h;
      short = (let s = more.short in omega arith);
    })
    (eqb_tells y x)

each_weaker_at : (P Q : ℕ → Type 0) (ps : List ℕ) → ((p : ℕ) → Has ps p → P p → Q p) → Each P ps → Each Q ps
each_weaker_at P Q [] f e = tt
each_weaker_at P Q (p ∷ ps) f e = (f p (inl refl) e.0, each_weaker_at P Q ps (λ q h. f q (inr h)) e.1)

module _ {E : Type 0} where
  makes_shares : (h : Hand E) (n r : ℕ) → h.from ≡ Some n → n ≤ r → 0 < shares r h
  makes_shares h n r makes le = let one : beyond h.from r ≡ 1 = ap (λ p. beyond p r) makes ∙ beyond_all n r le in omega arith

  lists_share : (h : Hand E) (r : ℕ) → 0 < times r h.lists → 0 < shares r h
  lists_share h r t = omega arith

  -- what a hand owns is in its lists, or from n on
  owns_or_makes : (h : Hand E) (n r : ℕ) → h.from ≡ Some n → 0 < shares r h → (0 < times r h.lists) ⊎ (n ≤ r)
  owns_or_makes h n r makes s =
      ⊎_elim (λ le. inr le) (λ lt. inl (let none : beyond h.from r ≡ 0 = ap (λ p. beyond p r) makes ∙ beyond_none n r lt in omega arith)) (below_or_not n r)

none_away : (E : Type 0) (ps : List ℕ) → Each (IsAway (founder {E = Item E})) ps → length ps ≤ 0
none_away E [] e = omega arith
none_away E (p ∷ ps) e =
    let s : 0 < shares p (founder {E = Item E}) = makes_shares {E = Item E} founder 0 p refl (omega arith) in
    let z : shares p (founder {E = Item E}) ≡ 0 = e.0.2 in
    absurd (omega arith)

module _ {E : Type 0} where
  no_turn : (list : List (Item E)) → list ≡ [] → Idle list
  no_turn list none works = ap (turn works) none

  pub homely_first : Homely {E = E} 0 0 founder
  homely_first = record {
    makes = refl;
    empty = λ r le. refl;
    away = λ ps d e. none_away E ps e;
    quiet = λ p low even s works. refl;
  }

  pub homely_sees : (next out : ℕ) (log : List (Item E)) (h : Hand (Item E)) → Homely next out h → Knows items log h → Homely next out (sees log h)
  homely_sees next out log h home k = record {
    makes = home.makes;
    empty = λ r le. sym (k.1 r (makes_shares h next r home.makes le)) ∙ home.empty r le;
    away = home.away;
    quiet = λ p low even s works. ap (turn works) (sym (k.1 p s)) ∙ home.quiet p low even s works;
  }

  less_away : (h k : Hand (Item E)) (p : ℕ) → (0 < shares p h → 0 < shares p k) → IsAway k p → IsAway h p
  less_away h k p more away = (
    away.0,
    away.1,
    ⊎_elim
        (λ (s : 1 ≤ shares p h). let t = more s in let z : shares p k ≡ 0 = away.2 in absurd (omega arith))
        (λ (none : shares p h < 1). omega arith)
        (below_or_not 1 (shares p h)),
  )

  -- the next lists go to another
  gives_away : (next out more n : ℕ) (h : Hand (Item E)) → Homely next out h → IsOut more (gave n h) → Homely (next + n) more (gave n h)
  gives_away next out more n h home away = record {
    makes = ap (further n) home.makes;
    empty = λ r le. home.empty r (omega arith);
    away = away;
    quiet = λ p low even s.
        ⊎_elim
        (λ le. no_turn (listed p h.saw) (home.empty p le))
        (λ lt. home.quiet p low even
        (⊎_elim (λ t. lists_share h p t) (λ (le : next + n ≤ p). absurd (omega arith)) (owns_or_makes (gave n h) (next + n) p (ap (further n) home.makes) s)))
        (below_or_not next p);
  }

  -- what the hand doesn't own without the next lists, it doesn't own
  still_away : (next n p : ℕ) (h : Hand (Item E)) → h.from ≡ Some next → (next ≤ p → next + n ≤ p) → IsAway (gave n h) p → IsAway h p
  still_away next n p h makes far away =
      less_away h (gave n h) p
      (λ s. ⊎_elim
      (λ t. lists_share (gave n h) p t)
      (λ le. makes_shares (gave n h) (next + n) p (ap (further n) makes) (far le))
      (owns_or_makes h next p makes s))
      away

  pub homely_lends : (next out : ℕ) (h : Hand (Item E)) → Homely next out h → Homely (next + 1) (out + 1) (gave 1 h)
  homely_lends next out h home =
      gives_away next out (out + 1) 1 h home
      (λ ps d e.
      let less = take_out (IsAway (gave 1 h)) next ps d e in
      let all = each_weaker_at (IsAway (gave 1 h)) (IsAway h) less.rest
      (λ p has. let not : p ≢ next = λ (is : p ≡ next). less.none (subst (Has less.rest) is has) in still_away next 1 p h home.makes (λ le. omega arith))
      less.all in
      let few = home.away less.rest less.distinct all in
      let short = less.short in
      omega arith)

  pub homely_seats : (next out n : ℕ) (h : Hand (Item E)) → Homely next out h → ((p : ℕ) → next ≤ p → p < next + n → first_diary ≤ p → p % 2 ≡ 1) → Homely (next + n) out (gave n h)
  homely_seats next out n h home odd =
      gives_away next out out n h home
      (λ ps d e.
      home.away ps d
      (each_weaker_at (IsAway (gave n h)) (IsAway h) ps
      (λ p has away. still_away next n p h home.makes
      (λ le.
      ⊎_elim
      (λ far. far)
      (λ near.
      let o : p % 2 ≡ 1 = odd p le near away.0 in
      let ev : p % 2 ≡ 0 = away.1 in
      absurd (omega arith))
      (below_or_not (next + n) p))
      away)
      e))

  -- the maker takes the next lists itself
  pub homely_reaches : (next out n : ℕ) (log : List (Item E)) (h : Hand (Item E)) → Homely next out h → Knows items log (gave n h) → Knows items log (given n h) → Homely (next + n) out (both log (gave n h) (given n h))
  homely_reaches next out n log h home kept mine = record {
    makes = makes;
    empty = λ r le. sym (kept.1 r (makes_shares (gave n h) (next + n) r (ap (further n) home.makes) le)) ∙ home.empty r (omega arith);
    away = λ ps d e. home.away ps d (each_weaker_at (IsAway hand) (IsAway h) ps (λ p has. less_away h hand p (owned p)) e);
    quiet = λ p low even s.
        ⊎_elim
        (λ le. no_turn (listed p log) (none p le s))
        (λ lt works. let t = old p lt s in ap (turn works) (sym (kept.1 p (lists_share (gave n h) p t))) ∙ home.quiet p low even (lists_share h p t) works)
        (below_or_not next p);
  }
    where
      hand : Hand (Item E)
      hand = both log (gave n h) (given n h)

      makes : hand.from ≡ Some (next + n)
      makes = ap (λ p. either_right (further n p) None) home.makes

      two : (p : ℕ) → times p hand.lists ≡ times p h.lists + times p (dealt h.from n)
      two p = times_append h.lists (dealt h.from n) p

      new : dealt h.from n ≡ numbers next n
      new = ap (λ p. dealt p n) home.makes

      owned : (p : ℕ) → 0 < shares p h → 0 < shares p hand
      owned p s =
          ⊎_elim
          (λ t. lists_share hand p (let w = two p in omega arith))
          (λ le.
          ⊎_elim
          (λ far. makes_shares hand (next + n) p makes far)
          (λ near. lists_share hand p (let w = two p in let d : 0 < times p (dealt h.from n) = subst (λ l. 0 < times p l) (sym new) (deals_all next n p le near) in omega arith))
          (below_or_not (next + n) p))
          (owns_or_makes h next p home.makes s)

      none : (p : ℕ) → next ≤ p → 0 < shares p hand → listed p log ≡ []
      none p le s =
          ⊎_elim
          (λ far. sym (kept.1 p (makes_shares (gave n h) (next + n) p (ap (further n) home.makes) far)) ∙ home.empty p le)
          (λ near.
          let d : 0 < times p (dealt h.from n) = subst (λ l. 0 < times p l) (sym new) (deals_all next n p le near) in
          sym (mine.1 p (lists_share (given n h) p d)) ∙ home.empty p le)
          (below_or_not (next + n) p)

      old : (p : ℕ) → p < next → 0 < shares p hand → 0 < times p h.lists
      old p lt s =
          ⊎_elim
          (λ t. let w = two p in let z : times p (dealt h.from n) ≡ 0 = ap (times p) new ∙ below next n p lt in omega arith)
          (λ (far : next + n ≤ p). absurd (omega arith))
          (owns_or_makes hand (next + n) p makes s)
        where
          below : (k n p : ℕ) → p < k → times p (numbers k n) ≡ 0
          below k zero p lt = refl
          below k (suc n) p lt =
              let rest = below (suc k) n p (omega arith) in
              ⊎_elim
              (λ (t : (eqb k p ≡ true) × (k ≡ p)). absurd (let e = t.1 in omega arith))
              (λ (f : (eqb k p ≡ false) × (k ≢ p)). let z : cond {A = ℕ} (k == p) 1 0 ≡ 0 = ap (λ (b : Bool). cond {A = ℕ} b 1 0) f.0 in omega arith)
              (eqb_tells k p)

  -- a diary that another hand owns is out
  is_away : (list : ℕ) (h s : Hand (Item E)) → Apart (h ∷ s ∷ []) → first_diary ≤ list → list % 2 ≡ 0 → Owns s list → IsAway h list
  is_away list h s apart low even own = (
    low,
    even,
    (let a : shares list h + (shares list s + 0) ≤ 1 = apart list in let o = lists_share s list own in omega arith),
  )

  pub some_out : (next out list : ℕ) (h s : Hand (Item E)) → Homely next out h → Apart (h ∷ s ∷ []) → first_diary ≤ list → list % 2 ≡ 0 → Owns s list → 0 < out
  some_out next out list h s home apart low even own = let few = home.away (list ∷ []) ((λ n. n), tt) (is_away list h s apart low even own, tt) in omega arith

  -- where one diary is out, all others are the maker's
  pub others_home : (next out list : ℕ) (h s : Hand (Item E)) → Homely next out h → out ≡ 1 → Apart (h ∷ s ∷ []) → first_diary ≤ list → list % 2 ≡ 0 → Owns s list
      → (p : ℕ) → first_diary ≤ p → p % 2 ≡ 0 → (0 < shares p h) ⊎ (p ≡ list)
  others_home next out list h s home one apart low even own p low' even' =
      ⊎_elim
      (λ (mine : 1 ≤ shares p h). inl mine)
      (λ (none : shares p h < 1).
      ⊎_elim
      (λ (t : (eqb p list ≡ true) × (p ≡ list)). inr t.1)
      (λ (f : (eqb p list ≡ false) × (p ≢ list)).
      let few = home.away (p ∷ list ∷ []) ((λ h'. ⊎_elim (λ (is : list ≡ p). f.1 (sym is)) (λ n. n) h'), ((λ n. n), tt)) ((low', even', omega arith), (is_away list h s apart low even own, tt)) in
      absurd (omega arith))
      (eqb_tells p list))
      (below_or_not 1 (shares p h))

  pub all_home : (next out : ℕ) (h : Hand (Item E)) → Homely next out h → out ≡ 0 → (p : ℕ) → first_diary ≤ p → p % 2 ≡ 0 → 0 < shares p h
  all_home next out h home zero' p low even =
      ⊎_elim
      (λ (mine : 1 ≤ shares p h). mine)
      (λ (none : shares p h < 1). let few = home.away (p ∷ []) ((λ n. n), tt) ((low, even, omega arith), tt) in absurd (omega arith))
      (below_or_not 1 (shares p h))

  -- a session's diary comes home
  pub homely_keeps : (next out left list : ℕ) (log : List (Item E)) (h s : Hand (Item E)) → Homely next out h → left + 1 ≡ out → Knows items log h → Knows items log s → Apart (h ∷ s ∷ [])
      → first_diary ≤ list → list % 2 ≡ 0 → s.lists ≡ list ∷ [] → Owns s list → Idle (listed list s.saw) → Homely next left (both log h s)
  homely_keeps next out left list log h s home less kept mine apart low even alone own idle = record {
    makes = makes;
    empty = λ r le. sym (kept.1 r (makes_shares h next r home.makes le)) ∙ home.empty r le;
    away = λ ps d e.
        let new = each_weaker_at (IsAway hand) (IsAway h) ps (λ p has. less_away h hand p (owned p)) e in
        let few = home.away (list ∷ ps) (not_there ps e, d) (is_away list h s apart low even own, new) in
        omega arith;
    quiet = λ p low' even' sh works.
        ⊎_elim
        (λ was. ap (turn works) (sym (kept.1 p was)) ∙ home.quiet p low' even' was works)
        (λ (is : p ≡ list). ap (λ k. turn works (listed k log)) is ∙ (ap (turn works) (sym (mine.1 list (lists_share s list own))) ∙ idle works))
        (whose p sh);
  }
    where
      hand : Hand (Item E)
      hand = both log h s

      makes : hand.from ≡ Some next
      makes = ap (λ p. either_right p s.from) home.makes

      comes : (p : ℕ) → p ≡ list → 0 < times p hand.lists
      comes p is = let t = times_append h.lists s.lists p in let o : 0 < times p s.lists = subst (λ k. 0 < times k s.lists) (sym is) own in omega arith

      not_there : (ps : List ℕ) → Each (IsAway hand) ps → Has ps list → ⊥
      not_there ps e has =
          let z : shares list hand ≡ 0 = (each_at (IsAway hand) ps list e has).2 in
          let t = lists_share hand list (comes list refl) in
          omega arith

      owned : (p : ℕ) → 0 < shares p h → 0 < shares p hand
      owned p sh =
          ⊎_elim
          (λ t. lists_share hand p (let w = times_append h.lists s.lists p in omega arith))
          (λ le. makes_shares hand next p makes le)
          (owns_or_makes h next p home.makes sh)

      one_of : (p : ℕ) → 0 < times p (list ∷ []) → p ≡ list
      one_of p t =
          ⊎_elim
          (λ (e : (eqb list p ≡ true) × (list ≡ p)). sym e.1)
          (λ (f : (eqb list p ≡ false) × (list ≢ p)). let z : cond {A = ℕ} (list == p) 1 0 ≡ 0 = ap (λ (b : Bool). cond {A = ℕ} b 1 0) f.0 in absurd (omega arith))
          (eqb_tells list p)

      whose : (p : ℕ) → 0 < shares p hand → (0 < shares p h) ⊎ (p ≡ list)
      whose p sh =
          ⊎_elim
          (λ t.
          let w = times_append h.lists s.lists p in
          let both_lists : 0 < times p h.lists + times p s.lists = omega arith in
          ⊎_elim
          (λ some. inl (lists_share h p some))
          (λ (none : times p h.lists < 1). inr (one_of p (subst (λ l. 0 < times p l) alone (omega arith))))
          (below_or_not 1 (times p h.lists)))
          (λ le. inl (makes_shares h next p home.makes le))
          (owns_or_makes hand next p makes sh)
