-- The streams that sources tell.
use Rattle.std.specs.Prelude.{◌≡◌, ◌⊎◌, Option, None, Some, List, [], ◌∷◌, ◌++◌}
use Rattle.cas_cell.specs.declared.deletion.Deletion.{Deletion}
use Rattle.cas_streams.specs.Joined.{Stream}
use Rattle.cas_streams.specs.Merged.{merged}
use Rattle.cas_streams.specs.declared.fragment.Fragment.{Fragment}
use Rattle.cas_merge.specs.declared.bracket.Bracket.{Bracket}
use Rattle.cas_merge.specs.declared.bracket.Bracket.TheVariants.{Nobody, Source, Pair'}

-- one more stream, where both are told
abbrev pub told_first : Option Deletion → Option (List Fragment) → Option (List Stream) → Option (List Stream)
told_first top None ss = None
told_first top (Some fs) None = None
told_first top (Some fs) (Some ss) = Some (record { top = top; fragments = fs } ∷ ss)

-- of each source its top and what is to come, where all of them tell it
abbrev pub streams_told : {I : Type 0} → (I → Option (List Fragment)) → (I → Option Deletion) → List I → Option (List Stream)
streams_told tells tops [] = Some []
streams_told tells tops (s ∷ ss) = told_first (tops s) (tells s) (streams_told tells tops ss)

-- of the merge of streams these fragments were given, and the others are to come
abbrev pub HasGiven : List Stream → List Fragment → Option (List Fragment) → Type 0
HasGiven ss given told = (rest : List Fragment) × (told ≡ Some rest) × ((merged ss).fragments ≡ given ++ rest)

-- one of the sources of a bracket is broken by that fault
abbrev pub IsBrokenBy : {I E : Type 0} → (I → Option E) → E → Bracket I → Type 0
IsBrokenBy broken e Nobody = ⊥
IsBrokenBy broken e (Source s) = broken s ≡ Some e
IsBrokenBy broken e (Pair' p l s q r t) = IsBrokenBy broken e l ⊎ IsBrokenBy broken e r
