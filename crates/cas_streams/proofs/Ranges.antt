-- What the range deletions of a stream cover: at each row what is in force there.
use Rattle.std.proofs.Common.{◌≡◌, ℕ, Bool, true, false, cond, if◌then◌else◌, not, ◌&&◌, Option, None, Some, List, [], ◌∷◌, ◌++◌, refl, sym, ap, ◌∙◌}
use Rattle.std.specs.Bool.{then_some}
use Rattle.cas_cell.specs.Deletions.{deletion_cmp}
use Rattle.cas_cell.specs.declared.deletion.Deletion.{Deletion}
use Rattle.cas_bounds.specs.Cuts.{is_past}
use Rattle.cas_bounds.specs.declared.order.Ordered.{Ordered}
use Rattle.cas_bounds.specs.declared.cuts.Cut.{Cut}
use Rattle.cas_cell.proofs.OrderLaws.{deletion_laws}
use Rattle.std.specs.declared.cmp.Ordering.{Ordering}
use Rattle.cas_atoms.proofs.GreatestLemmas.{greater_none}
use Rattle.cas_atoms.specs.Greatest.{greater, greatest}
use Rattle.cas_atoms.specs.Coordinates.{Coordinate, RowKey, clustered, static_row, row_of, lies_between}
use Rattle.cas_atoms.specs.Winners.{cover}
use Rattle.cas_atoms.specs.declared.atom.Atom.{Atom}
use Rattle.cas_atoms.specs.declared.atom.Atom.TheVariants.{RangeDeletion}
use Rattle.cas_laws.proofs.JoinProofs.{cover_joins}
use Rattle.cas_streams.specs.Flat.{atom_of, Change, between, ranges_after, ranges, at_end, after, reaching}
use Rattle.cas_streams.proofs.InOrder.{Rise, NotPast, not_past, unreached}

-- between two cuts
between_covers : (m n : Change) (x : Coordinate) (r : RowKey) → row_of x ≡ r → cover (between m n) x ≡ (if lies_between m.at n.at r then m.to else None)
between_covers m n x r at = split m.to
  where
    there : (b : Bool) (d : Deletion) → greater deletion_cmp (then_some b d) None ≡ cond b (Some d) None
    there true d = refl
    there false d = refl

    either : (d : Option Deletion) (b : Bool) → d ≡ cond b d d
    either d true = refl
    either d false = refl

    split : (d : Option Deletion) → cover (atom_of (RangeDeletion m.at n.at) d) x ≡ cond (lies_between m.at n.at r) d None
    split None = either None (lies_between m.at n.at r)
    split (Some d) = ap (λ s. greater deletion_cmp (then_some (lies_between m.at n.at s) d) None) at ∙ there (lies_between m.at n.at r) d

-- ranges that all begin after a row cover nothing of it
uncovered : (m : Change) (ms : List Change) (x : Coordinate) (c : List (List ℕ)) → row_of x ≡ clustered c → is_past m.at c ≡ false → NotPast c ms → cover (ranges_after m ms) x ≡ None
uncovered m [] x c at none later = refl
uncovered m (n ∷ ms) x c at none later =
    cover_joins (between m n) (ranges_after n ms) x
    ∙ (λ i. greater deletion_cmp ((between_covers m n x (clustered c) at ∙ ap (λ b. cond (b && not (is_past n.at c)) m.to None) none) i) (uncovered n ms x c at later.0 later.1 i))

-- where the row is past the first change
covered_after : (order : List Ordered) (m : Change) (ms : List Change) (x : Coordinate) (c : List (List ℕ)) → row_of x ≡ clustered c → Rise order (m ∷ ms) → at_end m.to ms ≡ None
    → is_past m.at c ≡ true → cover (ranges_after m ms) x ≡ reaching m.to ms c
covered_after order m [] x c at rise closed past = sym closed
covered_after order m (n ∷ ms) x c at rise closed past =
    cover_joins (between m n) (ranges_after n ms) x
    ∙ ap (λ d. greater deletion_cmp d (cover (ranges_after n ms) x)) (between_covers m n x (clustered c) at ∙ ap (λ b. cond (b && not (is_past n.at c)) m.to None) past)
    ∙ elim (is_past n.at c) as (λ b. is_past n.at c ≡ b → greater deletion_cmp (cond (not b) m.to None) (cover (ranges_after n ms) x) ≡ after (λ cut. is_past cut c) (cond b n.to m.to) ms) [
      | true ↦ λ e. covered_after order n ms x c at rise.2 closed e
      | false ↦ λ e.
          let later : NotPast c ms = not_past order n ms c rise.2 e in
          ap (greater deletion_cmp m.to) (uncovered n ms x c at e later) ∙ greater_none deletion_laws.orders m.to ∙ sym (unreached m.to ms c later)
    ] refl

pub ranges_cover : (order : List Ordered) (ms : List Change) (x : Coordinate) (c : List (List ℕ)) → row_of x ≡ clustered c → Rise order ms → at_end None ms ≡ None
    → cover (ranges ms) x ≡ reaching None ms c
ranges_cover order [] x c at rise closed = refl
ranges_cover order (m ∷ ms) x c at rise closed =
    elim (is_past m.at c) as (λ b. is_past m.at c ≡ b → cover (ranges_after m ms) x ≡ after (λ cut. is_past cut c) (cond b m.to None) ms) [
      | true ↦ λ e. covered_after order m ms x c at rise closed e
      | false ↦ λ e.
          let later : NotPast c ms = not_past order m ms c rise e in
          uncovered m ms x c at e later ∙ sym (unreached None ms c later)
    ] refl

-- nor do they reach the static row
pub ranges_not_static : (ms : List Change) (x : Coordinate) → row_of x ≡ static_row → cover (ranges ms) x ≡ None
ranges_not_static [] x at = refl
ranges_not_static (m ∷ ms) x at = go m ms
  where
    go : (m : Change) (ms : List Change) → cover (ranges_after m ms) x ≡ None
    go m [] = refl
    go m (n ∷ ms) = cover_joins (between m n) (ranges_after n ms) x ∙ (λ i. greater deletion_cmp (between_covers m n x static_row at i) (go n ms i))

-- a list that writes nothing
module _ {Y : Type 0} (cmp : Y → Y → Ordering) (given : Atom → Option Y) (silent : (lo hi : Cut) (d : Deletion) → given (RangeDeletion lo hi d) ≡ None) where
  between_gives : (m n : Change) (rest : List Atom) → greatest cmp given (between m n ++ rest) ≡ greatest cmp given rest
  between_gives m n rest = split m.to
    where
      split : (d : Option Deletion) → greatest cmp given (atom_of (RangeDeletion m.at n.at) d ++ rest) ≡ greatest cmp given rest
      split None = refl
      split (Some d) = ap (λ g. greater cmp g (greatest cmp given rest)) (silent m.at n.at d)

  pub ranges_give : (ms : List Change) → greatest cmp given (ranges ms) ≡ None
  ranges_give [] = refl
  ranges_give (m ∷ ms) = go m ms
    where
      go : (m : Change) (ms : List Change) → greatest cmp given (ranges_after m ms) ≡ None
      go m [] = refl
      go m (n ∷ ms) = between_gives m n (ranges_after n ms) ∙ go n ms
