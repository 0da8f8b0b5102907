-- How long the blocks of a partition are, and the partition.
use Rattle.std.proofs.Common.{◌≡◌, ℕ, ◌+◌, ◌*◌, ◌<◌, ◌≤◌, Bool, true, false, cond, Option, None, Some, List, [], ◌∷◌, ◌++◌, length, refl, arith, length-append}
use Rattle.std.proofs.lemmas.List.Concat.{length-flat_map}
use Rattle.std.proofs.lemmas.List.Sums.{sum_by-cons, sum_by-append}
use Rattle.std.specs.List.{AllByRecursion, flat_map, sum_by}
use Rattle.cas_cell.specs.declared.deletion.Deletion.{Deletion}
use Rattle.cas_atoms.specs.declared.atom.Atom.TheVariants.{PartitionDeletion}
use Rattle.cas_atoms.specs.declared.row.RowColumn.{RowColumn}
use Rattle.cas_codec.specs.Fields.{u32, bytes16, flag, maybe}
use Rattle.cas_codec.proofs.FieldLengths.{u32_long, flag_long, bytes16_long, bytes32_long}
use Rattle.cas_records.specs.Spelling.{deletion_bytes}
use Rattle.cas_records.proofs.CellLaws.{deletion_long}
use Rattle.cas_fragments.specs.Blocks.{is_full, last_block, blocks_from, blocks_of, statics_in, behind_statics, statics_bytes, head_bytes, blocks_bytes, partition_bytes}
use Rattle.cas_fragments.specs.Lengths.{columns_length}
use Rattle.cas_fragments.specs.Spelling.{body_bytes, block_bytes}
use Rattle.cas_fragments.specs.declared.heads.Version.{Version}
use Rattle.cas_fragments.specs.declared.heads.Version.TheVariants.{First, Second}
use Rattle.cas_fragments.proofs.LengthLaws.{columns_long}
use Rattle.cas_streams.specs.Flat.{atom_of}
use Rattle.cas_streams.specs.Streams.{IsThere}
use Rattle.cas_streams.specs.declared.fragment.Fragment.{Fragment}
use Rattle.cas_streams.specs.declared.fragment.Fragment.TheVariants as fragment
use Rattle.cas_sizes.proofs.Answered.{weight}
use Rattle.cas_sizes.proofs.Shapes.{size}
use Rattle.cas_sizes.proofs.Streams.{body_small}

-- ---- blocks

one_more : (begun : List Fragment) (f : Fragment) → IsThere (begun ++ f ∷ [])
one_more [] f = tt
one_more (g ∷ begun) f = tt

-- where each block costs no more than its fragments, all blocks cost no more than all fragments
module _ (cost : List Fragment → ℕ) (big : Fragment → ℕ) (within : (b : List Fragment) → IsThere b → cost b ≤ sum_by big b) where
  last_cost : (begun : List Fragment) → sum_by cost (last_block begun) ≤ sum_by big (begun ++ [])
  last_cost [] = omega arith
  last_cost (f ∷ begun) =
      omega (arith, sum_by-cons cost (f ∷ begun) [], sum_by-append big (f ∷ begun) [], within (f ∷ begun) tt)

  pub blocks_cost : (begun fs : List Fragment) → sum_by cost (blocks_from begun fs) ≤ sum_by big (begun ++ fs)
  blocks_cost begun [] = last_cost begun
  blocks_cost begun (f ∷ fs) = by (blocks_cost [] fs) (blocks_cost (begun ++ f ∷ []) fs) (is_full (begun ++ f ∷ []))
    where
      by : sum_by cost (blocks_from [] fs) ≤ sum_by big fs → sum_by cost (blocks_from (begun ++ f ∷ []) fs) ≤ sum_by big ((begun ++ f ∷ []) ++ fs) → (b : Bool)
          → sum_by cost (cond b ((begun ++ f ∷ []) ∷ blocks_from [] fs) (blocks_from (begun ++ f ∷ []) fs)) ≤ sum_by big (begun ++ f ∷ fs)
      by rest whole true =
          omega (
            arith,
            sum_by-cons cost (begun ++ f ∷ []) (blocks_from [] fs),
            within (begun ++ f ∷ []) (one_more begun f),
            rest,
            sum_by-append big begun (f ∷ []),
            sum_by-append big begun (f ∷ fs),
            sum_by-cons big f fs,
            sum_by-cons big f [],
          )
      by rest whole false =
          omega (
            arith,
            whole,
            sum_by-append big (begun ++ f ∷ []) fs,
            sum_by-append big begun (f ∷ []),
            sum_by-append big begun (f ∷ fs),
            sum_by-cons big f fs,
            sum_by-cons big f [],
          )

short_last : (n : ℕ) (begun : List Fragment) → sum_by size (begun ++ []) < n → AllByRecursion (λ b. length (body_bytes b) < n) (last_block begun)
short_last n [] short = tt
short_last n (f ∷ begun) short = (omega (arith, short, sum_by-append size (f ∷ begun) [], body_small (f ∷ begun)), tt)

-- a block is no longer than all fragments
pub short_blocks : (n : ℕ) (begun fs : List Fragment) → sum_by size (begun ++ fs) < n → AllByRecursion (λ b. length (body_bytes b) < n) (blocks_from begun fs)
short_blocks n begun [] short = short_last n begun short
short_blocks n begun (f ∷ fs) short =
    by (short_blocks n [] fs (omega (arith, short, parts)))
    (short_blocks n (begun ++ f ∷ []) fs (omega (arith, short, parts, sum_by-append size (begun ++ f ∷ []) fs)))
    (is_full (begun ++ f ∷ []))
  where
    parts : sum_by size (begun ++ f ∷ fs) ≡ sum_by size (begun ++ f ∷ []) + sum_by size fs
    parts =
        omega (
          arith,
          sum_by-append size begun (f ∷ []),
          sum_by-append size begun (f ∷ fs),
          sum_by-cons size f fs,
          sum_by-cons size f [],
        )

    by : AllByRecursion (λ b. length (body_bytes b) < n) (blocks_from [] fs)
        → AllByRecursion (λ b. length (body_bytes b) < n) (blocks_from (begun ++ f ∷ []) fs) → (b : Bool)
        → AllByRecursion (λ b. length (body_bytes b) < n) (cond b ((begun ++ f ∷ []) ∷ blocks_from [] fs) (blocks_from (begun ++ f ∷ []) fs))
    by rest whole true = (omega (arith, short, parts, body_small (begun ++ f ∷ [])), rest)
    by rest whole false = whole

-- ---- what a block takes

pub two_bytes : (f : Fragment) → 2 ≤ size f
two_bytes (fragment.Static cs) = omega arith
two_bytes (fragment.Row r) = omega arith
two_bytes (fragment.Marker cut d) = omega arith

pub thrice : (fs : List Fragment) → sum_by (λ f. 3 * size f) fs ≡ 3 * sum_by size fs
thrice [] = refl
thrice (f ∷ fs) = omega (arith, sum_by-cons (λ f. 3 * size f) f fs, sum_by-cons size f fs, thrice fs)

block_within : (b : List Fragment) → IsThere b → length (block_bytes b) ≤ sum_by (λ f. 3 * size f) b
block_within [] there = absurd there
block_within (f ∷ fs) there =
    omega (arith, bytes32_long (body_bytes (f ∷ fs)), body_small (f ∷ fs), thrice (f ∷ fs), sum_by-cons size f fs, two_bytes f)

blocks_small : (fs : List Fragment) → length (blocks_bytes (blocks_of fs)) ≤ 4 + 3 * sum_by size fs
blocks_small fs =
    omega (
      arith,
      length-append (flat_map block_bytes (blocks_of fs)) (u32 0),
      u32_long 0,
      length-flat_map block_bytes (blocks_of fs),
      blocks_cost (λ b. length (block_bytes b)) (λ f. 3 * size f) block_within [] fs,
      thrice fs,
    )

-- ---- a partition

pub head_and_rest : (fs : List Fragment) → columns_length (statics_in fs) + sum_by size (behind_statics fs) ≤ 2 + sum_by size fs
head_and_rest [] = omega arith
head_and_rest (fragment.Static cs ∷ fs) = omega (arith, sum_by-cons size (fragment.Static cs) fs)
head_and_rest (fragment.Row r ∷ fs) = omega arith
head_and_rest (fragment.Marker cut d ∷ fs) = omega arith

top_small : (top : Option Deletion) → length (maybe deletion_bytes top) ≤ 1 + sum_by weight (atom_of PartitionDeletion top)
top_small None = omega (arith, flag_long false)
top_small (Some d) =
    omega (arith, length-append (flag true) (deletion_bytes d), flag_long true, deletion_long d, sum_by-cons weight (PartitionDeletion d) [])

statics_small : (version : Version) (cs : List RowColumn) → length (statics_bytes version cs) ≤ columns_length cs
statics_small First cs = omega arith
statics_small Second cs = omega (arith, columns_long cs)

pub head_small : (version : Version) (key : List ℕ) (top : Option Deletion) (cs : List RowColumn)
    → length (head_bytes version key top cs) ≤ length key + 3 + sum_by weight (atom_of PartitionDeletion top) + columns_length cs
head_small version key top cs =
    omega (
      arith,
      length-append (bytes16 key) (maybe deletion_bytes top ++ statics_bytes version cs),
      length-append (maybe deletion_bytes top) (statics_bytes version cs),
      bytes16_long key,
      top_small top,
      statics_small version cs,
    )

pub partition_small : (version : Version) (key : List ℕ) (top : Option Deletion) (fs : List Fragment)
    → length (partition_bytes version key top fs) ≤ length key + 9 + sum_by weight (atom_of PartitionDeletion top) + 3 * sum_by size fs
partition_small version key top fs =
    omega (
      arith,
      length-append (head_bytes version key top (statics_in fs)) (blocks_bytes (blocks_of (behind_statics fs))),
      head_small version key top (statics_in fs),
      blocks_small (behind_statics fs),
      head_and_rest fs,
    )
