-- Reading a manifest from left to right: its entries, or the first field that isn't as it must be.
-- Own format. The place of a refusal is that of the refused field's first byte.
use Rattle.std.specs.Prelude.{ℕ, zero, suc, ◌+◌, ◌==◌, nat_le, bytes_eq, codes, List, [], ◌∷◌, ◌++◌, length, Result, Ok, Err, if◌then◌else◌}
use Rattle.cas_codec.specs.declared.fault.ReadFault.{ReadFault}
use Rattle.cas_codec.specs.declared.fault.ReadFault.TheVariants.{Short, Bad}
use Rattle.cas_codec.specs.Reading.{Left, Read, ◌>>=◌, checked, bytes_at, u8_at, u32_at}
use Rattle.cas_changes.specs.declared.entry.Entry.{Entry}
use Rattle.cas_changes.specs.declared.said.TheConstants.{FILE_LIMIT}
use Rattle.cas_changes.specs.Saying.{Saying, nothing, after}
use Rattle.cas_changes.specs.Reading.{entry_at}

-- the length of a block's body; one with which the block and the next gate would pass the file's limit isn't allowed there
unfoldable pub length_at : Left → Read ℕ
length_at left = checked (λ long. nat_le (left.at + long + 9) FILE_LIMIT) u32_at left

-- the number of a block's entries, which is 1
unfoldable pub count_at : Left → Read ℕ
count_at left = checked (λ n. n == 1) u32_at left

-- What stands behind an open gate: one entry that may follow, which fills the body. A body that is cut short is short at its length.
unfoldable pub block_at : Saying → Left → Read Entry
block_at said left = do
  long ← length_at left
  count ← count_at long.1
  body ← bytes_at left.at long.0 count.1
  found ← entry_at said (record { bytes = body.0; at = count.1.at })
  if length found.1.bytes == 0 then Ok (found.0, body.1) else Err (Bad found.1.at)

-- what the entries so far say together, and the entries
abbrev pub Far : Type 0
Far = Saying × List Entry

-- one block more
unfoldable pub next_at : Far → Left → Read Far
next_at far left = do
  e ← block_at far.0 left
  Ok ((after far.0 e.0, far.1 ++ e.0 ∷ []), e.1)

-- Blocks up to the first gate that isn't open, fewer than so many, and the place of that gate. What follows it isn't read.
unfoldable pub blocks_at : ℕ → Far → Left → Read (Far × ℕ)
blocks_at zero far left = Err (Short left.at)
blocks_at (suc n) far left = do
  gate ← u8_at left
  if gate.0 == 1 then (next_at far gate.1 >>= λ next. blocks_at n next.0 next.1) else Ok ((far, left.at), gate.1)

-- the file's own gate, open, and the word
unfoldable pub word_at : Left → Read (List ℕ)
word_at left = do
  gate ← checked (λ g. g == 1) u8_at left
  checked (λ w. bytes_eq w (codes "CASSMAN1")) (λ l. bytes_at l.at 8 l) gate.1

-- a manifest; there are fewer blocks than bytes
unfoldable pub manifest_at : Left → Read (Far × ℕ)
manifest_at left = do
  word ← word_at left
  blocks_at (length word.1.bytes) (nothing, []) word.1

-- the manifest that the file is: what its entries say together, the entries, and the place of its closed gate
unfoldable pub manifest_of : List ℕ → Result (Far × ℕ) ReadFault
manifest_of file = do
  found ← manifest_at (record { bytes = file; at = 0 })
  Ok found.0
