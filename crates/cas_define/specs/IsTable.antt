-- What is so of every table that there is.
-- CQL documentation, "Data definition: CREATE TABLE, the primary key; table options"; ALTER TABLE keeps it.
use Rattle.std.specs.Prelude.{◌≡◌, ◌≤◌, true, false, All, map}
use Rattle.std.specs.List.{list_any}
use Rattle.cas_types.specs.Schemas.{is_partition, is_key, is_plain}
use Rattle.cas_types.specs.declared.limits.TheConstants.{TTL_LIMIT}
use Rattle.cas_types.specs.declared.schema.TableSchema.{TableSchema}
use Rattle.cas_terms.specs.Names.{stands_twice}

-- no two columns have one name, there is a partition key, no collection is of the primary key, and the default time to live is in its range
pub record IsTable (t : TableSchema) : Type 0 where
  pub once : stands_twice (map (λ c. c.name) t.columns) ≡ false
  pub keyed : list_any (λ c. is_partition c.kind) t.columns ≡ true
  pub plain : All (λ c. is_key c.kind ≡ true → is_plain c.shape ≡ true) t.columns
  pub lives : t.options.default_time_to_live ≤ TTL_LIMIT
