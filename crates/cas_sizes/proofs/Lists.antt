-- What holds of each element of lists that are made of others, and that those are apart.
use Rattle.std.proofs.Common.{◌≡◌, Option, None, Some, List, [], ◌∷◌, ◌++◌, map, sym, ap, ◌∙◌}
use Rattle.std.proofs.lemmas.Cmp.{tied_itself}
use Rattle.std.specs.Cmp.{IsTotalOrder}
use Rattle.std.specs.List.{AllByRecursion, flat_map}
use Rattle.std.specs.declared.cmp.Ordering.{Ordering}
use Rattle.std.specs.declared.cmp.Ordering.TheVariants.{Less, Equal}
use Rattle.cas_atoms.specs.declared.atom.Atom.{Atom}
use Rattle.cas_streams.specs.Flat.{atom_of}
use Rattle.cas_streams.proofs.Weaves.{all_and}
use Rattle.cas_sizes.proofs.Counting.{Apart}

pub all_flat : {X Z : Type 0} (P : Z → Type 0) (f : X → List Z) (xs : List X) → AllByRecursion (λ x. AllByRecursion P (f x)) xs
    → AllByRecursion P (flat_map f xs)
all_flat P f [] all = tt
all_flat P f (x ∷ xs) all = all_and P (f x) (flat_map f xs) all.0 (all_flat P f xs all.1)

pub all_mapped : {X Z : Type 0} (P : Z → Type 0) (f : X → Z) (xs : List X) → ((x : X) → P (f x)) → AllByRecursion P (map f xs)
all_mapped P f [] h = tt
all_mapped P f (x ∷ xs) h = (h x, all_mapped P f xs h)

pub all_made : {X : Type 0} (P : Atom → Type 0) (make : X → Atom) (o : Option X) → ((x : X) → P (make x)) → AllByRecursion P (atom_of make o)
all_made P make None h = tt
all_made P make (Some x) h = (h x, tt)

pub all_each : {X : Type 0} (P : X → Type 0) (xs : List X) → ((x : X) → P x) → AllByRecursion P xs
all_each P [] h = tt
all_each P (x ∷ xs) h = (h x, all_each P xs h)

-- nothing stands below itself
pub not_below : {K : Type 0} (R : K → K → Ordering) → IsTotalOrder R → (a b : K) → a ≡ b → R a b ≡ Less → ⊥
not_below R total a b e less =
    let tied : R a b ≡ Equal = ap (R a) (sym e) ∙ tied_itself total a in
    cc

-- each of the one list is apart from each of the other
abbrev pub Across : {X K : Type 0} → (X → K) → List X → List X → Type 0
Across key xs ys = AllByRecursion (λ x. AllByRecursion (λ y. key x ≡ key y → ⊥) ys) xs

pub apart_both : {X K : Type 0} (key : X → K) (xs ys : List X) → Apart key xs → Apart key ys → Across key xs ys → Apart key (xs ++ ys)
apart_both key [] ys a b across = b
apart_both key (x ∷ xs) ys a b across =
    (all_and (λ z. key x ≡ key z → ⊥) xs ys a.0 across.0, apart_both key xs ys a.1 b across.1)

other_kind : {X K V : Type 0} (key : X → K) (kind : K → V) (v : V) (x : X) (ys : List X) → kind (key x) ≡ v
    → AllByRecursion (λ y. kind (key y) ≡ v → ⊥) ys → AllByRecursion (λ y. key x ≡ key y → ⊥) ys
other_kind key kind v x [] of other = tt
other_kind key kind v x (y ∷ ys) of other = (λ e. other.0 (ap kind (sym e) ∙ of), other_kind key kind v x ys of other.1)

-- those of one kind are apart from those of others
pub by_kind : {X K V : Type 0} (key : X → K) (kind : K → V) (v : V) (xs ys : List X) → AllByRecursion (λ x. kind (key x) ≡ v) xs
    → AllByRecursion (λ y. kind (key y) ≡ v → ⊥) ys → Across key xs ys
by_kind key kind v [] ys of other = tt
by_kind key kind v (x ∷ xs) ys of other = (other_kind key kind v x ys of.0 other, by_kind key kind v xs ys of.1 other)
