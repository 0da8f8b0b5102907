-- The history of a shard (own): a list of entries, in the order in which they were made.
use Rattle.std.specs.Prelude.{◌≡◌, ℕ, ◌+◌, ◌==◌, nat_le, ℤ, Bool, ◌&&◌, if◌then◌else◌, List, [], ◌∷◌, ⊤}
use Rattle.std.specs.List.{flat_map, fold}
use Rattle.cas_atoms.specs.declared.atom.Atom.{Atom}
use Rattle.cas_atoms.specs.declared.atom.Mutation.{Mutation}
use Rattle.cas_atoms.specs.Coordinates.{same_bytes}
use Rattle.cas_shard.specs.declared.entry.Entry.{Entry}
use Rattle.cas_shard.specs.declared.entry.Entry.TheVariants as entry

-- the number of the last mutation after an entry, where it was `n` before
abbrev pub number_after : ℕ → Entry → ℕ
number_after n (entry.Wrote session call m) = m.number

-- the number of the last mutation after these entries, where it was `n` before them
unfoldable pub last_number : ℕ → List Entry → ℕ
last_number n entries = fold number_after n entries

-- the last timestamp that was drawn after an entry, where it was `drawn` before: a mutation with USING TIMESTAMP draws none
abbrev pub drawn_after : ℤ → Entry → ℤ
drawn_after drawn (entry.Wrote session call m) = if m.drawn then m.at else drawn

-- the last timestamp that was drawn after these entries, where it was `drawn` before them
unfoldable pub last_drawn : ℤ → List Entry → ℤ
last_drawn drawn entries = fold drawn_after drawn entries

-- the mutation is of the table's partition with this key
abbrev pub is_of_partition : ℕ → List ℕ → Mutation → Bool
is_of_partition table key m = (m.table == table) && same_bytes m.key key

-- the atoms of an entry's mutation, where it is of that partition and numbered up to k
abbrev pub atoms_if : ℕ → ℕ → List ℕ → Entry → List Atom
atoms_if k table key (entry.Wrote session call m) = if nat_le m.number k && is_of_partition table key m then m.atoms else []

-- the atoms of all mutations of a partition that are numbered up to k
unfoldable pub first : ℕ → ℕ → List ℕ → List Entry → List Atom
first k table key entries = flat_map (atoms_if k table key) entries

-- the mutations are numbered by one, from the one after n
abbrev pub AreNumbered : ℕ → List Entry → Type 0
AreNumbered n [] = ⊤
AreNumbered n (entry.Wrote session call m ∷ entries) = (m.number ≡ n + 1) × AreNumbered (n + 1) entries
