-- What a partition key's bytes tell of the values that it was made of.
-- CQL documentation, "Data definition: the primary key".
use Rattle.std.specs.Prelude.{◌≡◌, ℕ, ◌≤◌, List, length, All}
use Rattle.cas_types.specs.Keys.{key_of}
use Rattle.cas_types.specs.declared.limits.TheConstants.{KEY_LIMIT}
use Rattle.cas_atoms.specs.PartitionKeys.{key_values}

-- a partition key reads back as the values that it was made of, none of which has more than 65,535 bytes; so two keys are one only where all values are
abbrev pub KeysReadBack : Type 0
KeysReadBack = (values : List (List ℕ)) → All (λ v. length v ≤ KEY_LIMIT) values → key_values (length values) (key_of values) ≡ values
