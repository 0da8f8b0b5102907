-- The top of a merge, and what a merger tells at its beginning.
use Rattle.std.proofs.Common.{◌≡◌, Option, None, Some, List, [], ◌∷◌, fold, refl, sym, ap, ◌∙◌}
use Rattle.std.specs.Option.{unwrap_or}
use Rattle.cas_cell.specs.Deletions.{deletion_cmp}
use Rattle.cas_cell.specs.declared.deletion.Deletion.{Deletion}
use Rattle.cas_cell.proofs.OrderLaws.{deletion_laws}
use Rattle.cas_atoms.specs.Greatest.{greater, greatest}
use Rattle.cas_atoms.proofs.GreatestLemmas.{greater_assoc, greater_comm, greater_none}
use Rattle.cas_streams.specs.Joined.{Stream}
use Rattle.cas_streams.specs.Settled.{settled_from}
use Rattle.cas_streams.specs.Merged.{Draw, nobody, one, pair, entered, draw, joined_all}
use Rattle.cas_streams.specs.declared.fragment.Fragment.{Fragment}
use Rattle.cas_merge.specs.declared.bracket.Bracket.TheVariants.{Nobody}
use Rattle.cas_merge.specs.Told.{streams_told}
use Rattle.cas_merge.specs.Inner.Mergers.{left_of_streams, merger_to_come}
use Rattle.cas_merge.proofs.Entering.{both_told}

with_one_more : (d : Draw) (s : Stream) → (joined_all (entered d s)).top ≡ greater deletion_cmp (joined_all d).top s.top
with_one_more nobody s = refl
with_one_more (one t) s = refl
with_one_more (pair l r) s =
    let a : Option Deletion = (joined_all l).top in
    let b : Option Deletion = (joined_all r).top in
    ap (λ d. greater deletion_cmp d a) (with_one_more r s) ∙ greater_comm deletion_laws.orders (greater deletion_cmp b s.top) a ∙ sym (greater_assoc deletion_laws.orders a b s.top)

drawn_top : (d : Draw) (ss : List Stream) → (joined_all (fold entered d ss)).top ≡ greater deletion_cmp (joined_all d).top (greatest deletion_cmp (λ s. s.top) ss)
drawn_top d [] = sym (greater_none deletion_laws.orders (joined_all d).top)
drawn_top d (s ∷ ss) =
    drawn_top (entered d s) ss ∙ ap (λ t. greater deletion_cmp t (greatest deletion_cmp (λ z. z.top) ss)) (with_one_more d s)
    ∙ greater_assoc deletion_laws.orders (joined_all d).top s.top (greatest deletion_cmp (λ z. z.top) ss)

module _ {I : Type 0} (tells : I → Option (List Fragment)) (tops : I → Option Deletion) where
  tops_told : (sources : List I) (ss : List Stream) → streams_told tells tops sources ≡ Some ss → greatest deletion_cmp tops sources ≡ greatest deletion_cmp (λ s. s.top) ss
  tops_told [] ss told = ap (greatest deletion_cmp (λ s. s.top)) (ap (λ o. unwrap_or o []) told)
  tops_told (s ∷ rest) ss told =
      let (t, later, fragments, top, others, whole) = both_told tells tops s (tells s) (streams_told tells tops rest) ss refl told in
      (λ i. greater deletion_cmp (top i) (tops_told rest later others i)) ∙ ap (greatest deletion_cmp (λ z. z.top)) whole

  pub top_told : (sources : List I) (ss : List Stream) → streams_told tells tops sources ≡ Some ss → greatest deletion_cmp tops sources ≡ (joined_all (draw ss)).top
  top_told sources ss told = tops_told sources ss told ∙ sym (drawn_top nobody ss)

  pub tells_merge : (top : Option Deletion) (sources : List I) (ss : List Stream) → streams_told tells tops sources ≡ Some ss → top ≡ (joined_all (draw ss)).top
      → merger_to_come tells tops top None sources Nobody ≡ Some (settled_from (joined_all (draw ss)).top None (joined_all (draw ss)).fragments)
  tells_merge top [] ss told e = ap (λ l. Some (settled_from (joined_all (draw l)).top None (joined_all (draw l)).fragments)) (ap (λ o. unwrap_or o []) told)
  tells_merge top (s ∷ rest) ss told e = ap (left_of_streams top) told ∙ ap (λ t. Some (settled_from t None (joined_all (draw ss)).fragments)) e
