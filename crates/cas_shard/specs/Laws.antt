-- What holds of every history of a shard (own).
use Rattle.std.specs.Prelude.{◌≡◌, ◌≤◌, ℕ, List, [], if◌then◌else◌}
use Rattle.std.specs.List.{flat_map}
use Rattle.cas_atoms.specs.declared.atom.Atom.{Atom}
use Rattle.cas_shard.specs.declared.entry.Entry.{Entry}
use Rattle.cas_shard.specs.declared.entry.Entry.TheVariants as entry
use Rattle.cas_shard.specs.Entries.{AreNumbered, first, is_of_partition, last_number}

-- the atoms of an entry's mutation, where it is of that partition
abbrev pub atoms_of_partition : ℕ → List ℕ → Entry → List Atom
atoms_of_partition table key (entry.Wrote session call m) = if is_of_partition table key m then m.atoms else []

-- where mutations are numbered by one, those up to the last are all of them
abbrev pub AllStand : Type 0
AllStand =
    (n k table : ℕ) (key : List ℕ) (entries : List Entry) → AreNumbered n entries → last_number n entries ≤ k
    → first k table key entries ≡ flat_map (atoms_of_partition table key) entries
