-- The segments of an image, and what stays of them.
use Rattle.std.proofs.Common.{◌≡◌, ◌≢◌, ℕ, ◌<◌, List, [], ◌∷◌, ◌++◌, sym, ap, subst, ◌∙◌, arith}
use Rattle.std.specs.List.{AllByRecursion}
use Rattle.std.proofs.lemmas.List.{append-nil}
use Rattle.std.proofs.lemmas.Grind.{flat_map-append}
use Rattle.cas_types.specs.declared.schema.TableSchema.{TableSchema}
use Rattle.cas_disk.specs.declared.name.Name.{Name}
use Rattle.cas_disk.specs.declared.name.Name.TheVariants.{Manifest as manifest_name, Log as log_name}
use Rattle.cas_disk.specs.Disk.{Image, bytes_of}
use Rattle.cas_atoms.specs.declared.atom.Mutation.{Mutation}
use Rattle.cas_mutations.specs.Allowed.{FitsRecord}
use Rattle.cas_log.specs.Segment.{IsSegment, joined}
use Rattle.cas_replay.specs.Reading.{segment_in}
use Rattle.cas_replay.specs.Grammar.{IsSegmentOf, AreSegments, IsLog}
use Rattle.cas_journal.proofs.Lists.{all_mapped}

-- the mutations of the parts
pub joined_more : (parts : List (List Mutation)) (ms : List Mutation) → joined (parts ++ ms ∷ []) ≡ joined parts ++ ms
joined_more parts ms = flat_map-append (λ (l : List Mutation). l) parts (ms ∷ []) ∙ ap (λ (l : List Mutation). joined parts ++ l) (append-nil ms)

module _ (tables : List TableSchema) (shards : ℕ) where
  pub segments_agree : (f g : ℕ → List ℕ) (ns : List ℕ) (parts : List (List Mutation)) → AllByRecursion (λ n. g n ≡ f n) ns
      → AreSegments tables shards f ns parts → AreSegments tables shards g ns parts
  segments_agree f g [] [] same are = tt
  segments_agree f g (n ∷ ns) (ms ∷ parts) same are =
      (subst (λ (l : List ℕ). IsSegmentOf tables shards n ms l) (sym same.0) are.0, segments_agree f g ns parts same.1 are.1)
  segments_agree f g [] (ms ∷ parts) same are = absurd are
  segments_agree f g (n ∷ ns) [] same are = absurd are

  pub segments_more : (f : ℕ → List ℕ) (ns : List ℕ) (parts : List (List Mutation)) (n : ℕ) (ms : List Mutation)
      → AreSegments tables shards f ns parts → IsSegmentOf tables shards n ms (f n) → AreSegments tables shards f (ns ++ n ∷ []) (parts ++ ms ∷ [])
  segments_more f [] [] n ms are is = (is, tt)
  segments_more f (k ∷ ns) (ls ∷ parts) n ms are is = (are.0, segments_more f ns parts n ms are.1 is)
  segments_more f [] (ls ∷ parts) n ms are is = absurd are
  segments_more f (k ∷ ns) [] n ms are is = absurd are

  pub segments_fit : (more : List TableSchema) (others : ℕ) → ((m : Mutation) → FitsRecord tables shards m → FitsRecord more others m)
      → (f : ℕ → List ℕ) (ns : List ℕ) (parts : List (List Mutation)) → AreSegments tables shards f ns parts → AreSegments more others f ns parts
  segments_fit more others fits f [] [] are = tt
  segments_fit more others fits f (n ∷ ns) (ms ∷ parts) are = (
    record { segment = are.0.segment; fit = all_mapped (FitsRecord tables shards) (FitsRecord more others) fits ms are.0.fit },
    segments_fit more others fits f ns parts are.1,
  )
  segments_fit more others fits f [] (ms ∷ parts) are = absurd are
  segments_fit more others fits f (n ∷ ns) [] are = absurd are

  -- a segment without mutations behind a log is the same log
  pub log_with_empty : (f : ℕ → List ℕ) (ns : List ℕ) (ms : List Mutation) (n : ℕ) → IsLog tables shards f ns ms → IsSegment n [] (f n)
      → IsLog tables shards f (ns ++ n ∷ []) ms
  log_with_empty f ns ms n log is = record {
    parts = log.parts ++ [] ∷ [];
    segments = segments_more f ns log.parts n [] log.segments (record { segment = is; fit = tt });
    all = joined_more log.parts [] ∙ append-nil (joined log.parts) ∙ log.all;
    ordered = log.ordered;
  }

  pub log_agrees : (f g : ℕ → List ℕ) (ns : List ℕ) (ms : List Mutation) → AllByRecursion (λ n. g n ≡ f n) ns → IsLog tables shards f ns ms → IsLog tables shards g ns ms
  log_agrees f g ns ms same log =
      record { parts = log.parts; segments = segments_agree f g ns log.parts same log.segments; all = log.all; ordered = log.ordered }

  pub log_fits : (more : List TableSchema) (others : ℕ) → ((m : Mutation) → FitsRecord tables shards m → FitsRecord more others m)
      → (f : ℕ → List ℕ) (ns : List ℕ) (ms : List Mutation) → IsLog tables shards f ns ms → IsLog more others f ns ms
  log_fits more others fits f ns ms log =
      record { parts = log.parts; segments = segments_fit more others fits f ns log.parts log.segments; all = log.all; ordered = log.ordered }

-- ---- images

-- the names of files that differ
pub log_is_no_manifest : (n : ℕ) → log_name n ≢ manifest_name
log_is_no_manifest n e = cc

pub manifest_is_no_log : (n : ℕ) → manifest_name ≢ log_name n
manifest_is_no_log n e = cc

number_of : Name → ℕ
number_of (log_name n) = n
number_of _ = 0

pub other_log : (k n : ℕ) → k ≢ n → log_name k ≢ log_name n
unfolding number_of
other_log k n other e = other (ap number_of e)

-- where a file that is none of these changes, they are the same
pub others_agree : (c d : Image) (n : Name) (ns : List ℕ) → ((k : Name) → k ≢ n → c k ≡ d k) → AllByRecursion (λ k. log_name k ≢ n) ns
    → AllByRecursion (λ k. segment_in c k ≡ segment_in d k) ns
others_agree c d n [] same others = tt
others_agree c d n (k ∷ ns) same others = (ap bytes_of (same (log_name k) others.0), others_agree c d n ns same others.1)

pub none_is_manifest : (ns : List ℕ) → AllByRecursion (λ k. log_name k ≢ manifest_name) ns
none_is_manifest [] = tt
none_is_manifest (n ∷ ns) = (log_is_no_manifest n, none_is_manifest ns)

pub below_differ : (n : ℕ) (ns : List ℕ) → AllByRecursion (λ k. k < n) ns → AllByRecursion (λ k. log_name k ≢ log_name n) ns
below_differ n [] below = tt
below_differ n (k ∷ ns) below = (other_log k n (λ e. absurd (omega (arith, e, below.0))), below_differ n ns below.1)
