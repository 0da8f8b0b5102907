-- The kinds of columns of each part of `*`.
use Rattle.std.specs.Prelude.{Bool}
use Rattle.cas_types.specs.Schemas.{is_partition, is_clustering, is_static, is_regular}
use Rattle.cas_types.specs.declared.schema.Kind.{Kind}
use Rattle.cas_bind.specs.declared.selects.Part.{Part}
use Rattle.cas_bind.specs.declared.selects.Part.TheVariants as part

abbrev pub is_of_part : Part → Kind → Bool
is_of_part part.Partition = is_partition
is_of_part part.Clustering = is_clustering
is_of_part part.Static = is_static
is_of_part part.Regular = is_regular
