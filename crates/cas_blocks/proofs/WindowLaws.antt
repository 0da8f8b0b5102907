-- What is still to come of a slice, one fragment after another.
use Rattle.std.proofs.Common.{◌≡◌, ℕ, ◌+◌, ◌≤◌, ◌<◌, List, [], ◌++◌, length, Option, None, Some, Result, Ok, refl, sym, ap, subst, ◌∙◌, arith}
use Rattle.std.specs.Option.{option_map, option_to_list}
use Rattle.cas_cell.specs.declared.deletion.Deletion.{Deletion}
use Rattle.cas_bounds.specs.declared.order.Ordered.{Ordered}
use Rattle.cas_bounds.specs.declared.cuts.Slice.{Slice}
use Rattle.cas_streams.specs.Slices.{opened_at, closed_at}
use Rattle.cas_streams.specs.Sources.{TakesFirst, Shrinks}
use Rattle.cas_streams.specs.declared.fragment.Fragment.{Fragment}
use Rattle.cas_blocks.specs.Cutting.{up_to_end, cut_from}
use Rattle.cas_blocks.specs.Inner.Windows.{window, window_room, Begun, Enters, GoesOn}
use Rattle.cas_blocks.specs.declared.fault.TableFault.{TableFault}
use Rattle.cas_blocks.specs.declared.window.Phase.{Phase}
use Rattle.cas_blocks.specs.declared.window.Phase.TheVariants.{Before, Inside, Over}

some_is : {X : Type 0} (x y : X) → (let o : Option X = Some x in o) ≡ Some y → x ≡ y
some_is x y e = cc

-- what is told of a part is told of the whole
pub was_told : {X Y : Type 0} (f : X → Y) (o : Option X) (y : Y) → option_map f o ≡ Some y → (x : X) × (o ≡ Some x) × (f x ≡ y)
was_told f None y e = absurd cc
was_told f (Some x) y e = (x, refl, cc)

module _ (order : List Ordered) (s : Slice) where
  abbrev Takes : List Fragment → Option (List Fragment) → Option Fragment → Type 0
  Takes fs left r = TakesFirst fs left (let x : Result (Option Fragment) TableFault = Ok r in x)

  -- what is in force at the slice's low cut is given, and then its first fragment
  pub enters : (p : Phase) (force now : Option Deletion) (held ahead : Option Fragment) (before left : Option (List Fragment)) (gs : List Fragment)
      (m : Option Fragment) → p ≡ Before → window order s p force held before ≡ Some gs
      → ((fs : List Fragment) → before ≡ Some fs → Begun order s force now fs ahead left) → option_to_list m ≡ opened_at s.lo now
      → Enters gs m (window order s Inside now ahead left)
  enters p force now held ahead before left gs m is told begun e =
      let was = was_told (cut_from order s force) before gs (subst (λ (q : Phase). window order s q force held before ≡ Some gs) is told) in
      let b = begun was.0 was.1 in
      let on = up_to_end order s now (option_to_list ahead ++ b.rest) in
      record {
        rest = on;
        left_is = ap (option_map (λ hs. up_to_end order s now (option_to_list ahead ++ hs))) b.left_is;
        same = sym was.2 ∙ b.same ∙ ap (λ hs. hs ++ on) (sym e);
      }

  -- where none is given, all is still to come
  nothing_given : (gs : List Fragment) (left : Option (List Fragment)) → Enters gs None left → left ≡ Some gs
  nothing_given gs left e = e.left_is ∙ ap (λ (hs : List Fragment). Some hs) (sym e.same)

  pub over : (p : Phase) (force : Option Deletion) (held : Option Fragment) (before : Option (List Fragment)) (gs : List Fragment) → p ≡ Over
      → Enters gs None (window order s p force held before) → Takes gs (window order s p force held before) None
  over p force held before gs is e =
      subst (λ (q : Phase). Takes gs (window order s q force held before) None) (sym is)
      (some_is gs [] (sym (subst (λ (q : Phase). window order s q force held before ≡ Some gs) is (nothing_given gs _ e))), refl)

  -- and what that is made of is told too
  pub still_told : (p : Phase) (force : Option Deletion) (held : Option Fragment) (before : Option (List Fragment)) (gs : List Fragment)
      → (p ≡ Before → ⊥) → (p ≡ Over → ⊥) → Enters gs None (window order s p force held before) → (fs : List Fragment) × (before ≡ Some fs)
  still_told Before force held before gs no_low no_high e = absurd (no_low refl)
  still_told Over force held before gs no_low no_high e = absurd (no_high refl)
  still_told Inside force held before gs no_low no_high e =
      let was = was_told (λ hs. up_to_end order s force (option_to_list held ++ hs)) before gs (nothing_given gs _ e) in (was.0, was.1)

  pub inside_gives : (p : Phase) (force now : Option Deletion) (held : Option Fragment) (before left : Option (List Fragment)) (gs : List Fragment) (f : Fragment)
      → (p ≡ Before → ⊥) → (p ≡ Over → ⊥) → Enters gs None (window order s p force held before)
      → ((fs : List Fragment) → before ≡ Some fs → GoesOn order s force now (option_to_list held ++ fs) (Some f) left)
      → Takes gs (window order s p now None left) (Some f)
  inside_gives Before force now held before left gs f no_low no_high e on = absurd (no_low refl)
  inside_gives Over force now held before left gs f no_low no_high e on = absurd (no_high refl)
  inside_gives Inside force now held before left gs f no_low no_high e on =
      let was = was_told (λ hs. up_to_end order s force (option_to_list held ++ hs)) before gs (nothing_given gs _ e) in
      let next = on was.0 was.1 in
      (up_to_end order s now next.0, sym was.2 ∙ next.2, ap (option_map (λ hs. up_to_end order s now hs)) next.1)

  pub closes : (p : Phase) (force now : Option Deletion) (held : Option Fragment) (before left : Option (List Fragment)) (gs : List Fragment) (r : Option Fragment)
      → (p ≡ Before → ⊥) → (p ≡ Over → ⊥) → Enters gs None (window order s p force held before)
      → ((fs : List Fragment) → before ≡ Some fs → GoesOn order s force now (option_to_list held ++ fs) None left)
      → option_to_list r ≡ closed_at s.hi now → Takes gs (Some []) r
  closes Before force now held before left gs r no_low no_high e on is = absurd (no_low refl)
  closes Over force now held before left gs r no_low no_high e on is = absurd (no_high refl)
  closes Inside force now held before left gs None no_low no_high e on is =
      let was = was_told (λ hs. up_to_end order s force (option_to_list held ++ hs)) before gs (nothing_given gs _ e) in
      (sym was.2 ∙ on was.0 was.1 ∙ sym is, refl)
  closes Inside force now held before left gs (Some m) no_low no_high e on is =
      let was = was_told (λ hs. up_to_end order s force (option_to_list held ++ hs)) before gs (nothing_given gs _ e) in
      ([], sym was.2 ∙ on was.0 was.1 ∙ sym is, refl)

-- ---- how much is to come

pub fewer : (p : Phase) (held : Option Fragment) (room after most : ℕ) → (p ≡ Before → ⊥) → (p ≡ Over → ⊥) → 0 + window_room p held room ≤ most
    → 1 + after ≤ length (option_to_list held) + room → window_room p None after < most
fewer Before held room after most no_low no_high low step = absurd (no_low refl)
fewer Over held room after most no_low no_high low step = absurd (no_high refl)
fewer Inside held room after most no_low no_high low step = omega arith

pub none_left : (p : Phase) (held : Option Fragment) (room most : ℕ) (r : Option Fragment) → (p ≡ Before → ⊥) → (p ≡ Over → ⊥) → 0 + window_room p held room ≤ most
    → Shrinks most 0 (let x : Result (Option Fragment) TableFault = Ok r in x)
none_left Before held room most r no_low no_high low = absurd (no_low refl)
none_left Over held room most r no_low no_high low = absurd (no_high refl)
none_left Inside held room most None no_low no_high low = omega arith
none_left Inside held room most (Some f) no_low no_high low = omega arith
