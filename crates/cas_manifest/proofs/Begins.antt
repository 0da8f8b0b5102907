-- How a manifest comes to be.
use Rattle.std.proofs.Common.{◌≡◌, ◌≢◌, ◌⊎◌, inl, inr, ℕ, ◌≤◌, Bool, true, false, eqb, List, [], ◌∷◌, ◌++◌, length, Option, None, Some, refl, sym, ◌∙◌, ap, subst, arith, append_assoc}
use Rattle.std.proofs.lemmas.Bool.{cases_eq, eqb-true}
use Rattle.std.proofs.lemmas.Bool.Decides.{nat_tests}
use Rattle.cas_disk.specs.declared.name.Name.TheVariants.{Manifest as manifest_name}
use Rattle.cas_disk.specs.Disk.{Image, Disk, During, Changed, Same, MayBeMade, MayTear, Torn, IsKept, bytes_of, put_at}
use Rattle.cas_disk.proofs.Moments.{no_call, reworded, one_call_more}
use Rattle.cas_disk.proofs.WrittenLasts.{then_still}
use Rattle.cas_gates.specs.Gates.{MayOpenOver}
use Rattle.cas_changes.specs.Saying.{said_by}
use Rattle.cas_manifest.specs.File.{front, IsManifest}
use Rattle.cas_manifest.specs.Manifests.{Stands, is_made, MayBegin}
use Rattle.cas_manifest.specs.Inner.Making.{MayStayShut, StandsShut}

-- ---- files that aren't manifests yet

short_unmade : (file : List ℕ) → length file ≤ 1 → is_made (Some file) ≡ false
short_unmade [] short = refl
short_unmade (g ∷ []) short = refl
short_unmade (g ∷ n ∷ rest) short = absurd (omega arith)

torn_short : (old file : List ℕ) → length old ≤ 1 → Torn 0 1 old file → length file ≤ 1
torn_short old file short torn = omega (arith, torn.no_longer, short)

torn_unmade : (old new : Option (List ℕ)) → length (bytes_of old) ≤ 1 → MayTear 0 1 old new → is_made new ≡ false
torn_unmade None new short tear = ap is_made tear
torn_unmade (Some old) new short tear = ap is_made tear.1 ∙ short_unmade tear.0 (torn_short old tear.0 short tear.2)

no_bytes : (file : Option (List ℕ)) → bytes_of file ≡ [] → length (bytes_of file) ≤ 1
no_bytes file none = let empty : length (bytes_of file) ≡ 0 = ap length none in omega (arith, empty)

made_shut : (old new : Option (List ℕ)) → MayBeMade old new → MayStayShut old new
made_shut old new (inl same) = inl same
made_shut old new (inr (inl gone)) = inr (ap is_made gone)
made_shut old new (inr (inr empty)) = inr (ap is_made empty)

not_one : (g : ℕ) → g ≢ 1 → eqb g 1 ≡ false
not_one g shut = by_test g (eqb g 1) refl shut
  where
    by_test : (g : ℕ) (b : Bool) → eqb g 1 ≡ b → g ≢ 1 → b ≡ false
    by_test g true e shut = absurd (shut (eqb-true g 1 e))
    by_test g false e shut = refl

shut_unmade : (g : ℕ) (rest : List ℕ) → g ≢ 1 → is_made (Some (g ∷ rest)) ≡ false
shut_unmade g [] shut = refl
shut_unmade g (x ∷ rest) shut = not_one g shut

-- ---- the calls of the folder

pub created : (o a : Disk) → During (Changed manifest_name MayBeMade) o a → During (Changed manifest_name MayStayShut) o a
created o a call =
    reworded (Changed manifest_name MayBeMade) (Changed manifest_name MayStayShut) o a call
    (λ d c was changed. record { here = made_shut (d manifest_name) (c manifest_name) changed.here; others = changed.others })

pub written : (o a b : Disk) → During (Changed manifest_name MayStayShut) o a → ((c : Image) → a.may_leave c → bytes_of (c manifest_name) ≡ [])
    → During (Changed manifest_name (MayTear 0 1)) a b → During (Changed manifest_name MayStayShut) o b
written o a b first fresh second =
    one_call_more (Changed manifest_name MayStayShut) (Changed manifest_name (MayTear 0 1)) o a b first second
    (λ d c was mid changed. record { here = inr (torn_unmade (d manifest_name) (c manifest_name) (no_bytes (d manifest_name) (fresh d mid)) changed.here); others = changed.others })
    (λ e d c was before mid changed. record {
      here = inr (torn_unmade (d manifest_name) (c manifest_name) (no_bytes (d manifest_name) (fresh d mid)) changed.here);
      others = λ k other. changed.others k other ∙ before.others k other;
    })

pub synced : (o a b : Disk) → During (Changed manifest_name MayStayShut) o a → During Same a b → During (Changed manifest_name MayStayShut) o b
synced o a b first second = then_still manifest_name MayStayShut o a b (λ file. inl refl) first second

may_begin : (old new : Option (List ℕ)) → MayStayShut old new → MayBegin old new
may_begin old new (inl same) = inl same
may_begin old new (inr shut) = inr (inl shut)

pub begun : (o a : Disk) → During (Changed manifest_name MayStayShut) o a → During (Changed manifest_name MayBegin) o a
begun o a call =
    reworded (Changed manifest_name MayStayShut) (Changed manifest_name MayBegin) o a call
    (λ d c was changed. record { here = may_begin (d manifest_name) (c manifest_name) changed.here; others = changed.others })

-- ---- a file that is there

-- one with a byte or none gets a closed gate
pub short_put : (file : List ℕ) → length file ≤ 1 → put_at 0 (0 ∷ []) file ≡ 0 ∷ []
short_put [] short = refl
short_put (g ∷ []) short = refl
short_put (g ∷ n ∷ rest) short = absurd (omega arith)

pub shut_by : (disk : Disk) → IsKept manifest_name (0 ∷ []) disk → StandsShut disk
shut_by disk kept = record { gate = 0; rest = []; closed = λ one. absurd (omega arith); kept = kept }

-- a longer one has one
pub found_shut : (file : List ℕ) (disk : Disk) → 2 ≤ length file → is_made (Some file) ≡ false → IsKept manifest_name file disk → StandsShut disk
found_shut [] disk long unmade found = absurd (omega arith)
found_shut (g ∷ []) disk long unmade found = absurd (omega arith)
found_shut (g ∷ n ∷ rest) disk long unmade found = record { gate = g; rest = n ∷ rest; closed = λ one. is_shut g one unmade; kept = found }
  where
    is_shut : (g : ℕ) → g ≡ 1 → eqb g 1 ≡ false → ⊥
    is_shut g one unmade = absurd (grind (arith, nat_tests))

pub overwritten : (file : List ℕ) (a b : Disk) → length file ≤ 1 → IsKept manifest_name file a → During (Changed manifest_name (MayTear 0 1)) a b → During (Changed manifest_name MayStayShut) a b
overwritten file a b short found call =
    reworded (Changed manifest_name (MayTear 0 1)) (Changed manifest_name MayStayShut) a b call
    (λ d c was changed. record {
      here = inr (torn_unmade (d manifest_name) (c manifest_name) (subst (λ (f : Option (List ℕ)). length (bytes_of f) ≤ 1) (sym (found d was)) short) changed.here);
      others = changed.others;
    })

-- nothing was done
pub nothing_done : (disk : Disk) → During (Changed manifest_name MayStayShut) disk disk
nothing_done disk = no_call (Changed manifest_name MayStayShut) disk

-- nothing is listed before the first entry
nothing_listed : (said_by []).listed ≡ 0
unfolding said_by
nothing_listed = refl

-- ---- the block behind the file's own gate

module _ (block : List ℕ) (is : 1 ∷ block ≡ front [] ++ 0 ∷ []) where
  -- the block, and what is left behind it
  begins : (left : List ℕ) → 1 ∷ (block ++ left) ≡ front [] ++ 0 ∷ left
  begins left = ap (λ (l : List ℕ). l ++ left) is ∙ append_assoc (front []) (0 ∷ []) left

  opens : (file : Option (List ℕ)) → MayOpenOver [] block file → (is_made file ≡ false) ⊎ ((whole : List ℕ) × (file ≡ Some whole) × IsManifest [] whole)
  opens file gated = elim (cases_eq gated.gate 1) [
    | inl is_open ↦ inr (
      gated.gate ∷ gated.rest,
      gated.is,
      record {
        gate = 0;
        rest = (gated.whole is_open).0;
        spelled = (λ i. is_open i ∷ (gated.whole is_open).1 i) ∙ begins (gated.whole is_open).0;
        closed = λ one. absurd (omega arith);
        follow = tt;
        within = omega arith;
      },
    )
    | inr shut ↦ inl (ap is_made gated.is ∙ shut_unmade gated.gate gated.rest shut)
  ]

  pub opened : (o a b : Disk) → During (Changed manifest_name MayStayShut) o a → During (Changed manifest_name (λ _ file. MayOpenOver [] block file)) a b
      → During (Changed manifest_name MayBegin) o b
  opened o a b first second =
      one_call_more (Changed manifest_name MayBegin) (Changed manifest_name (λ _ file. MayOpenOver [] block file)) o a b (begun o a first) second
      (λ d c was mid changed. record { here = inr (opens (c manifest_name) changed.here); others = changed.others })
      (λ e d c was before mid changed. record { here = inr (opens (c manifest_name) changed.here); others = λ k other. changed.others k other ∙ before.others k other })

  pub begun_stands : (disk : Disk) (left : List ℕ) → IsKept manifest_name (1 ∷ (block ++ left)) disk → Stands (record { end = 9; listed = 0 }) disk []
  begun_stands disk left kept = record {
    gate = 0;
    rest = left;
    closed = λ one. absurd (omega arith);
    kept = subst (λ (f : List ℕ). IsKept manifest_name f disk) (begins left) kept;
    end = refl;
    listed = nothing_listed;
    follow = tt;
  }
