-- Sources that enter a bracket one by one.
use Rattle.std.proofs.Common.{◌≡◌, Option, None, Some, List, [], ◌∷◌, fold, refl, sym, ap, ◌∙◌}
use Rattle.std.specs.Option.{unwrap_or}
use Rattle.std.proofs.lemmas.Option.{none-some}
use Rattle.cas_cell.specs.declared.deletion.Deletion.{Deletion}
use Rattle.cas_streams.specs.Joined.{Stream}
use Rattle.cas_streams.specs.Merged.{Draw, nobody, one, pair, entered, draw, joined_all}
use Rattle.cas_streams.specs.declared.fragment.Fragment.{Fragment}
use Rattle.cas_merge.specs.declared.bracket.Bracket.{Bracket}
use Rattle.cas_merge.specs.declared.bracket.Bracket.TheVariants.{Nobody, Source, Pair'}
use Rattle.cas_merge.specs.Told.{told_first, streams_told}
use Rattle.cas_merge.specs.Inner.Brackets.{with_next, of_both, coming, Tells}
use Rattle.cas_merge.specs.Inner.Mergers.{Halfway}

module _ {I : Type 0} (tells : I → Option (List Fragment)) (tops : I → Option Deletion) where
  pub both_told : (s : I) (fs : Option (List Fragment)) (ss : Option (List Stream)) (others : List Stream) → tells s ≡ fs → told_first (tops s) fs ss ≡ Some others
      → (t : Stream) × (later : List Stream) × (tells s ≡ Some t.fragments) × (tops s ≡ t.top) × (ss ≡ Some later) × (t ∷ later ≡ others)
  both_told s None ss others e told = absurd (none-some others told)
  both_told s (Some fs) None others e told = absurd (none-some others told)
  both_told s (Some fs) (Some ss) others e told =
      let t : Stream = record { top = tops s; fragments = fs } in
      (t, ss, e, refl, refl, ap (λ o. unwrap_or o (t ∷ ss)) told)

  pub one_more : (b c : Bracket I) (s : I) (before rest : List I) (all : List Stream) → before ≡ s ∷ rest
      → ((d : Draw) (t : Stream) → Tells tells tops b d → tells s ≡ Some t.fragments → tops s ≡ t.top → Tells tells tops c (entered d t)) → Halfway tells tops b before all → Halfway tells tops c rest all
  one_more b c s before rest all e enter h =
      let (t, later, fragments, top, told, others) = both_told s (tells s) (streams_told tells tops rest) h.others refl (ap (streams_told tells tops) (sym e) ∙ h.told) in
      record {
        drawn = entered h.drawn t;
        others = later;
        bracket = enter h.drawn t h.bracket fragments top;
        told = told;
        whole = ap (λ l. fold entered h.drawn l) others ∙ h.whole;
      }

  pub tells_joined : (b : Bracket I) (d : Draw) → Tells tells tops b d → coming tells b ≡ Some (joined_all d).fragments
  tells_joined Nobody nobody h = refl
  tells_joined (Source s) (one t) h = h.0
  tells_joined (Pair' p l s q r t) (pair a b) h =
      (λ i. of_both (h.2 i) (with_next (h.2 i).ahead (tells_joined l a h.0 i)) (h.3 i) (with_next (h.3 i).ahead (tells_joined r b h.1 i)))
  tells_joined b d h = absurd h

  pub all_in : (b : Bracket I) (rest : List I) (all : List Stream) → rest ≡ [] → Halfway tells tops b rest all → coming tells b ≡ Some (joined_all (draw all)).fragments
  all_in b rest all e h =
      let none : h.others ≡ [] = ap (λ o. unwrap_or o []) (sym h.told ∙ ap (streams_told tells tops) e) in
      tells_joined b h.drawn h.bracket ∙ ap (λ d. Some (joined_all d).fragments) (sym (ap (λ l. fold entered h.drawn l) none) ∙ h.whole)

  pub none_in : (all : List Stream) (rest sources : List I) → rest ≡ sources → streams_told tells tops sources ≡ Some all → Halfway tells tops Nobody rest all
  none_in all rest sources e told = record { drawn = nobody; others = all; bracket = tt; told = ap (streams_told tells tops) e ∙ told; whole = refl }
