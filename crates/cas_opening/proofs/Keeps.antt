-- What every image has of a store, and goes on having where files that aren't listed change.
use Rattle.std.proofs.Common.{◌≡◌, ⊎_elim, ℕ, ◌+◌, ◌≤◌, eqb, Bool, true, false, ◌||◌, List, [], ◌∷◌, ◌++◌, length, Some, refl, ◌∙◌, ap, arith}
use Rattle.std.specs.List.{AllByRecursion}
use Rattle.std.proofs.lemmas.Bool.Decides.{nat_tests}
use Rattle.cas_types.specs.declared.schema.TableSchema.{TableSchema}
use Rattle.cas_disk.specs.declared.name.Name.TheVariants.{Manifest as manifest_name, Log as log_name}
use Rattle.cas_disk.specs.Disk.{Image, Disk, During, Same, bytes_of}
use Rattle.cas_disk.proofs.Moments.{left_after, reworded}
use Rattle.cas_atoms.specs.declared.atom.Mutation.{Mutation}
use Rattle.cas_mutations.specs.Allowed.{FitsRecord}
use Rattle.cas_changes.specs.declared.entry.Entry.{Entry}
use Rattle.cas_changes.specs.declared.said.TheConstants.{FILE_LIMIT}
use Rattle.cas_changes.specs.Saying.{Saying, said_by, is_listed}
use Rattle.cas_manifest.specs.File.{front, IsManifest}
use Rattle.cas_manifest.specs.Manifests.{Place, Stands}
use Rattle.cas_log.specs.Segment.{joined}
use Rattle.cas_replay.specs.Reading.{segment_in}
use Rattle.cas_replay.specs.Grammar.{AreSegments}
use Rattle.cas_journal.specs.Stores.{IsStore}
use Rattle.cas_journal.proofs.Segments.{segments_agree}
use Rattle.cas_opening.specs.Inner.Keeping.{Keeps}
use Rattle.cas_opening.specs.Inner.Sweeping.{Spares}

-- ---- listed numbers

pub all_listed_from : (P : ℕ → Type 0) (ns : List ℕ) → ((n : ℕ) → is_listed ns n ≡ true → P n) → AllByRecursion P ns
all_listed_from P [] each = tt
all_listed_from P (n ∷ ns) each = (
  each n (here n),
  all_listed_from P ns (λ m is. each m (there n m is)),
)
  where
    here : (n : ℕ) → (eqb n n || is_listed ns n) ≡ true
    here n = let same : eqb n n ≡ true = grind (arith, nat_tests) in ap (λ (b : Bool). b || is_listed ns n) same

    there : (n m : ℕ) → is_listed ns m ≡ true → (eqb n m || is_listed ns m) ≡ true
    there n m is = elim (eqb n m) as (λ b. (b || is_listed ns m) ≡ true) [ true ↦ refl | false ↦ is ]

-- ---- the mutations of segments fit

all_both : {A : Type 0} (P : A → Type 0) (xs ys : List A) → AllByRecursion P xs → AllByRecursion P ys → AllByRecursion P (xs ++ ys)
all_both P [] ys first second = second
all_both P (x ∷ xs) ys first second = (first.0, all_both P xs ys first.1 second)

pub all_fit : (tables : List TableSchema) (shards : ℕ) (file : ℕ → List ℕ) (ns : List ℕ) (parts : List (List Mutation)) → AreSegments tables shards file ns parts
    → AllByRecursion (FitsRecord tables shards) (joined parts)
all_fit tables shards file [] [] are = tt
all_fit tables shards file (n ∷ ns) (ms ∷ parts) are = all_both (FitsRecord tables shards) ms (joined parts) are.0.fit (all_fit tables shards file ns parts are.1)
all_fit tables shards file [] (ms ∷ parts) are = absurd are
all_fit tables shards file (n ∷ ns) [] are = absurd are

-- ---- the manifest

pub stands_on : (place : Place) (entries : List Entry) (a z : Disk) (step : Image → Image → Type 0) → ((d c : Image) → step d c → c manifest_name ≡ d manifest_name)
    → During step a z → Stands place a entries → Stands place z entries
stands_on place entries a z step same call stands = record {
  gate = stands.gate;
  rest = stands.rest;
  closed = stands.closed;
  kept = λ c left. ⊎_elim (λ was. stands.kept c was) (λ made. same made.0 c made.2 ∙ stands.kept made.0 made.1) (left_after step a z call c left);
  end = stands.end;
  listed = stands.listed;
  follow = stands.follow;
}

-- the manifest of each image is a manifest
pub manifest_is : (place : Place) (entries : List Entry) (disk : Disk) → Stands place disk entries → place.end + 1 ≤ FILE_LIMIT → (c : Image) → disk.may_leave c
    → (f : List ℕ) × (c manifest_name ≡ Some f) × IsManifest entries f
manifest_is place entries disk stands within c left = (
  front entries ++ stands.gate ∷ stands.rest,
  stands.kept c left,
  record { gate = stands.gate; rest = stands.rest; spelled = refl; closed = stands.closed; follow = stands.follow; within = omega (arith, stands.end, within) },
)

-- there is a part for each segment
pub parts_long : (tables : List TableSchema) (shards : ℕ) (f : ℕ → List ℕ) (ns : List ℕ) (parts : List (List Mutation)) → AreSegments tables shards f ns parts → length parts ≡ length ns
parts_long tables shards f [] [] are = refl
parts_long tables shards f (n ∷ ns) (ms ∷ parts) are = omega (arith, parts_long tables shards f ns parts are.1)
parts_long tables shards f [] (ms ∷ parts) are = absurd are
parts_long tables shards f (n ∷ ns) [] are = absurd are

-- ---- the store

module _ (place : Place) (entries : List Entry) (mutations : List Mutation) where
  -- each image is the store
  pub keeps_store : (disk : Disk) → Keeps place entries mutations disk → (c : Image) → disk.may_leave c → IsStore entries mutations c
  keeps_store disk keeps c left =
      let (f, there, is) = manifest_is place entries disk keeps.manifest keeps.within c left in
      record {
        file = f;
        there = there;
        manifest = is;
        made = keeps.made;
        log = record { parts = keeps.parts; segments = keeps.segments c left; all = keeps.all; ordered = keeps.ordered };
      }

  -- where listed files stay it goes on
  pub spares_keeps : (a z : Disk) → During (Spares (said_by entries)) a z → Keeps place entries mutations a → Keeps place entries mutations z
  spares_keeps a z call keeps =
      let s = said_by entries in
      record {
        manifest = stands_on place entries a z (Spares s) (λ d c spared. spared manifest_name tt) call keeps.manifest;
        within = keeps.within;
        made = keeps.made;
        parts = keeps.parts;
        long = keeps.long;
        segments = λ c left. ⊎_elim (λ was. keeps.segments c was)
            (λ made. segments_agree s.tables s.shards (segment_in made.0) (segment_in c) s.segments keeps.parts
            (all_listed_from (λ n. segment_in c n ≡ segment_in made.0 n) s.segments (λ n is. ap bytes_of (made.2 (log_name n) is)))
            (keeps.segments made.0 made.1))
            (left_after (Spares s) a z call c left);
        all = keeps.all;
        fit = keeps.fit;
        ordered = keeps.ordered;
      }

pub same_spares : (s : Saying) (a z : Disk) → During Same a z → During (Spares s) a z
same_spares s a z call = reworded Same (Spares s) a z call (λ d c was same n stays. same n)
