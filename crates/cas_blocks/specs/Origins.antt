-- What a block is whose bytes are come by: those behind the four that tell how many they are (own).
use Rattle.std.specs.Prelude.{◌≡◌, ℕ, ◌+◌, List, length, drop, Ok, Err}
use Rattle.cas_codec.specs.Reading.{bytes32_at}
use Rattle.cas_codec.specs.declared.fault.ReadFault.{ReadFault}
use Rattle.cas_blocks.specs.Reading.{left_at}

-- at this place of the file, whose partitions end there, this block stands
abbrev pub IsBlockAt : List ℕ → ℕ → ℕ → List ℕ → Type 0
IsBlockAt file end place body =
    bytes32_at (left_at file end place)
    ≡ Ok (body, record { bytes = drop (length body) (drop 4 (left_at file end place).bytes); at = place + 4 + length body })

-- there stands none that ends before the partitions do
abbrev pub NoBlockAt : List ℕ → ℕ → ℕ → Type 0
NoBlockAt file end place = (f : ReadFault) × (bytes32_at (left_at file end place) ≡ Err f)
