-- The first and the last of partitions.
use Rattle.std.proofs.Common.{◌≡◌, ◌-◌, ◌<◌, ◌^◌, List, [], ◌∷◌, map, length, Option, None, Some, refl, sym, ap, subst, ◌∙◌}
use Rattle.std.specs.Prelude.{slice_get, IfSome}
use Rattle.std.specs.List.{All, AllByRecursion, last_or}
use Rattle.std.proofs.lemmas.List.Elements.{recursion_from_All}
use Rattle.cas_fragments.proofs.BlockLoop.{last_some, last_none}
use Rattle.cas_index.specs.Allowed.{HasRooms}
use Rattle.cas_index.specs.declared.entries.PartitionEntry.{PartitionEntry}
use Rattle.cas_tables.specs.Files.{first_key, last_key}
use Rattle.cas_verify.specs.Inner.Scans.{key_or}

pub first_is : (es : List PartitionEntry) (o : Option PartitionEntry) → o ≡ slice_get es 0 → key_or o ≡ first_key (map (λ e. e.key) es)
first_is [] o e = ap key_or e
first_is (x ∷ es) o e = ap key_or e

last_or_is : (x : PartitionEntry) (es : List PartitionEntry) → key_or (last_or (Some x) es) ≡ last_key (map (λ e. e.key) (x ∷ es))
last_or_is x [] = refl
last_or_is x (y ∷ es) = last_or_is y es

last_get : (es : List PartitionEntry) → slice_get es (length es - 1) ≡ last_or None es
last_get es = go (slice_get es (length es - 1)) refl
  where
    go : (o : Option PartitionEntry) → slice_get es (length es - 1) ≡ o → slice_get es (length es - 1) ≡ last_or None es
    go None e = e ∙ last_none None es (sym e)
    go (Some x) e = e ∙ last_some None es x (sym e)

pub last_is : (es : List PartitionEntry) (o : Option PartitionEntry) → o ≡ slice_get es (length es - 1) → key_or o ≡ last_key (map (λ e. e.key) es)
last_is [] o e = ap key_or (e ∙ last_get [])
last_is (x ∷ es) o e = ap key_or (e ∙ last_get (x ∷ es)) ∙ last_or_is x es

all_or : (o : Option PartitionEntry) (es : List PartitionEntry) → IfSome o HasRooms → AllByRecursion HasRooms es → IfSome (last_or o es) HasRooms
all_or o [] a all = a
all_or o (x ∷ es) a all = all_or (Some x) es all.0 all.1

key_short : (o : Option PartitionEntry) → IfSome o HasRooms → IfSome o (λ e. length e.key < 2 ^ 16)
key_short None a = tt
key_short (Some x) a = a.key

module _ (es : List PartitionEntry) (rooms : All HasRooms es) (o : Option PartitionEntry) where
  pub first_short : o ≡ slice_get es 0 → IfSome o (λ e. length e.key < 2 ^ 16)
  first_short e = subst (λ (x : Option PartitionEntry). IfSome x (λ e. length e.key < 2 ^ 16)) (sym e) (go es (recursion_from_All HasRooms es rooms))
    where
      go : (es : List PartitionEntry) → AllByRecursion HasRooms es → IfSome (slice_get es 0) (λ e. length e.key < 2 ^ 16)
      go [] all = tt
      go (x ∷ es) all = all.0.key

  pub last_short : o ≡ slice_get es (length es - 1) → IfSome o (λ e. length e.key < 2 ^ 16)
  last_short e =
      subst (λ (x : Option PartitionEntry). IfSome x (λ e. length e.key < 2 ^ 16)) (sym (e ∙ last_get es))
      (key_short (last_or None es) (all_or None es tt (recursion_from_All HasRooms es rooms)))
