-- A file that is read from its start on. Own.
use Rattle.std.specs.Prelude.{◌≡◌, ◌⊎◌, ℕ, ◌+◌, ◌≤◌, List, length, take, drop}
use Rattle.cas_disk.specs.declared.name.Name.{Name}

-- the file's name, the place of the next byte, and the bytes that are at hand from there on
pub record Ahead : Type 0 where
  pub name : Name
  pub at : ℕ
  pub bytes : List ℕ

-- the bytes at hand are the file's next ones: of "abcdef", at 2, they may be "cde"
pub record AreNext (at : ℕ) (file bytes : List ℕ) : Type 0 where
  pub next : bytes ≡ take (length bytes) (drop at file)

-- so many are at hand, or all that the file has from there on
abbrev pub AreEnough : ℕ → ℕ → List ℕ → List ℕ → Type 0
AreEnough count at file bytes = (count ≤ length bytes) ⊎ (bytes ≡ drop at file)

-- so many bytes further on
abbrev pub passed : ℕ → Ahead → Ahead
passed count a = record { name = a.name; at = a.at + count; bytes = drop count a.bytes }
