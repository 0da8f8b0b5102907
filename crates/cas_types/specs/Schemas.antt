-- What a column is in its table, and what it holds.
-- CQL documentation, "Data definition: CREATE TABLE; the primary key; static columns; clustering order" and "Data types: collections".
use Rattle.std.specs.Prelude.{Bool, true, false, ◌||◌, Option, None, Some}
use Rattle.cas_types.specs.declared.tag.TypeTag.{TypeTag}
use Rattle.cas_types.specs.declared.tag.TypeTag.TheVariants.{Blob}
use Rattle.cas_types.specs.declared.schema.Kind.{Kind}
use Rattle.cas_types.specs.declared.schema.Kind.TheVariants.{Partition, Ascending, Descending, Static, Regular}
use Rattle.cas_types.specs.declared.schema.Shape.{Shape}
use Rattle.cas_types.specs.declared.schema.Shape.TheVariants as shape

-- a column of the partition key, which picks the partition
abbrev pub is_partition : Kind → Bool
is_partition Partition = true
is_partition _ = false

-- a clustering column, by which a partition's rows are ordered, ASC or DESC
abbrev pub is_clustering : Kind → Bool
is_clustering Ascending = true
is_clustering Descending = true
is_clustering _ = false

-- a clustering column that CLUSTERING ORDER BY says is DESC
abbrev pub is_descending : Kind → Bool
is_descending Descending = true
is_descending _ = false

-- a column of the primary key: of the partition key, or a clustering column
abbrev pub is_key : Kind → Bool
is_key k = is_partition k || is_clustering k

-- a STATIC column, which has one value for all rows of a partition
abbrev pub is_static : Kind → Bool
is_static Static = true
is_static _ = false

-- a column that is neither of the primary key nor static
abbrev pub is_regular : Kind → Bool
is_regular Regular = true
is_regular _ = false

-- one value, as of `v int`; every other column is a collection
abbrev pub is_plain : Shape → Bool
is_plain shape.One = true
is_plain _ = false

-- a `list<..>`
abbrev pub is_list : Shape → Bool
is_list shape.List = true
is_list _ = false

-- a `map<.., ..>`
abbrev pub is_map : Shape → Bool
is_map shape.Map = true
is_map _ = false

-- the type of what tells the cells of a collection apart: a set's elements, or a map's keys; a list's have no type
abbrev pub path_type : Shape → TypeTag → Option TypeTag
path_type shape.One tag = None
path_type shape.Set tag = Some tag
path_type shape.List tag = None
path_type shape.Map tag = Some tag

-- the type of a map's values, which stands second in `map<k, v>`; a column that has no second type is read as one of blobs
abbrev pub type_or_blob : Option TypeTag → TypeTag
type_or_blob None = Blob
type_or_blob (Some tag) = tag
