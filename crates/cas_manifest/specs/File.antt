-- The bytes of a manifest. Own format.
use Rattle.std.specs.Prelude.{◌≡◌, ◌≢◌, ℕ, ◌+◌, ◌≤◌, List, [], ◌∷◌, ◌++◌, length, codes}
use Rattle.std.specs.List.{flat_map}
use Rattle.cas_codec.specs.Fields.{u32}
use Rattle.cas_changes.specs.declared.entry.Entry.{Entry}
use Rattle.cas_changes.specs.declared.said.TheConstants.{FILE_LIMIT}
use Rattle.cas_changes.specs.Saying.{Saying, nothing, after}
use Rattle.cas_changes.specs.Spelling.{entry_bytes}
use Rattle.cas_changes.specs.Allowed.{FitsNext}

-- the length of a block's body and the number of its entries, four bytes each
unfoldable pub lengths : ℕ → ℕ → List ℕ
lengths long count = u32 long ++ u32 count

-- what stands behind a gate: one entry
abbrev pub block : Entry → List ℕ
block e = lengths (length (entry_bytes e)) 1 ++ entry_bytes e

-- blocks, each behind its open gate
abbrev pub opened : List Entry → List ℕ
opened entries = flat_map (λ e. 1 ∷ block e) entries

-- the file up to its closed gate: its own gate, open, a word, and the blocks
abbrev pub front : List Entry → List ℕ
front entries = 1 ∷ codes "CASSMAN1" ++ opened entries

-- each entry may follow those before it
abbrev pub MayFollow : Saying → List Entry → Type 0
MayFollow s [] = Unit {0}
MayFollow s (e ∷ entries) = FitsNext s e × MayFollow (after s e) entries

-- The file is a manifest with these entries, which may follow one another: blocks behind open gates, and a gate that isn't open; these have at
-- most 2^40 bytes. What follows isn't read, whatever it is.
pub record IsManifest (entries : List Entry) (file : List ℕ) : Type 0 where
  pub gate : ℕ
  pub rest : List ℕ
  pub spelled : file ≡ front entries ++ gate ∷ rest
  pub closed : gate ≢ 1
  pub follow : MayFollow nothing entries
  pub within : length (front entries) + 1 ≤ FILE_LIMIT
