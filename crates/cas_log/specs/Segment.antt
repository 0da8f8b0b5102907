-- The bytes of a segment of the commit log. Own format.
use Rattle.std.specs.Prelude.{◌≡◌, ◌≢◌, ℕ, ◌+◌, ◌≤◌, List, [], ◌∷◌, ◌++◌, length, codes}
use Rattle.std.specs.List.{flat_map}
use Rattle.cas_codec.specs.Fields.{u32, u64}
use Rattle.cas_atoms.specs.declared.atom.Mutation.{Mutation}
use Rattle.cas_mutations.specs.Spelling.{record_bytes}
use Rattle.cas_log.specs.declared.limits.TheConstants.{LEAST_SEGMENT, GREATEST_SEGMENT}

-- how long a segment may be: from 4,096 to 33,554,432 bytes
abbrev pub IsSize : ℕ → Type 0
IsSize size = (LEAST_SEGMENT ≤ size) × (size ≤ GREATEST_SEGMENT)

-- a word, the segment's number and its size, eight bytes each
unfoldable pub header : ℕ → ℕ → List ℕ
header number size = codes "CASSLOG1" ++ (u64 number ++ u64 size)

-- the records of what is committed together, one after another
abbrev pub body : List Mutation → List ℕ
body mutations = flat_map record_bytes mutations

-- the length of a block's body and the number of its records, four bytes each
unfoldable pub lengths : ℕ → ℕ → List ℕ
lengths long count = u32 long ++ u32 count

-- what stands behind a gate
abbrev pub block : List Mutation → List ℕ
block mutations = lengths (length (body mutations)) (length mutations) ++ body mutations

-- what a commit writes behind its gate: the block of these records, so many, and the next gate, closed
abbrev pub written : List ℕ → ℕ → List ℕ
written records count = lengths (length records) count ++ records ++ 0 ∷ []

-- blocks, each behind its open gate
abbrev pub opened : List (List Mutation) → List ℕ
opened blocks = flat_map (λ mutations. 1 ∷ block mutations) blocks

-- the mutations of all blocks
abbrev pub joined : List (List Mutation) → List Mutation
joined blocks = flat_map (λ mutations. mutations) blocks

-- the segment up to its closed gate
abbrev pub front : ℕ → ℕ → List (List Mutation) → List ℕ
front number size blocks = header number size ++ opened blocks

-- The file is the segment of this number with these mutations: its header, blocks behind open gates that end below its
-- size, and a gate that isn't open. What follows isn't read, whatever it is.
pub record IsSegment (number : ℕ) (mutations : List Mutation) (file : List ℕ) : Type 0 where
  pub size : ℕ
  pub blocks : List (List Mutation)
  pub gate : ℕ
  pub rest : List ℕ
  pub spelled : file ≡ front number size blocks ++ gate ∷ rest
  pub closed : gate ≢ 1
  pub all : joined blocks ≡ mutations
  pub sized : IsSize size
  pub within : length (front number size blocks) + 1 ≤ size
