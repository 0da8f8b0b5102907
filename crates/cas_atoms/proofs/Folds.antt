-- What a longer list gives in order.
use Rattle.std.proofs.Common.{◌≡◌, ℕ, ◌+◌, ◌<◌, Option, List, [], length, take, get_or, refl, sym, ap, ◌∙◌}
use Rattle.std.proofs.lemmas.List.Sums.{fold_more}
use Rattle.std.specs.declared.cmp.Ordering.{Ordering}
use Rattle.cas_atoms.specs.RowsAndPaths.{put_some, ordered}

module _ {X K : Type 0} (cmp : K → K → Ordering) (given : X → Option K) where
  pub ordered_none : ordered cmp given [] ≡ []
  unfolding ordered
  ordered_none = refl

  ordered_more : (A : List X) (i : ℕ) (x : X) → i < length A → x ≡ get_or A i x → ordered cmp given (take (i + 1) A) ≡ put_some cmp (ordered cmp given (take i A)) (given x)
  unfolding ordered
  ordered_more A i x h e =
      fold_more _ [] A i x h ∙ ap (λ a. put_some cmp (ordered cmp given (take i A)) (given a)) (sym e)

  -- a loop's step, from what its calls ensure
  pub ordered_step : (A : List X) (i : ℕ) (x : X) (before after : List K) → i < length A → x ≡ get_or A i x → before ≡ ordered cmp given (take i A) → after ≡ put_some cmp before (given x) → after ≡ ordered cmp given (take (i + 1) A)
  ordered_step A i x before after h e b a = a ∙ ap (λ ks. put_some cmp ks (given x)) b ∙ sym (ordered_more A i x h e)
