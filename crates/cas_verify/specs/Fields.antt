-- The fields that stand behind the partitions of a table file, one by one, and their comparison with what is there.
-- Own format.
use Rattle.std.specs.Prelude.{ℕ, ◌*◌, List, [], ◌∷◌, ◌++◌, length, Ok}
use Rattle.std.specs.List.{flat_map}
use Rattle.std.specs.Ordering.{is_eq}
use Rattle.cas_types.specs.Values.{bytes_cmp}
use Rattle.cas_codec.specs.Fields.{u8, u32, u64, i64, bytes16, maybe}
use Rattle.cas_codec.specs.Reading.{Left, Read, ◌>>=◌, checked, bytes_at}
use Rattle.cas_info.specs.declared.info.TableInfo.{TableInfo}
use Rattle.cas_records.specs.Spelling.{deletion_bytes, cut_bytes}
use Rattle.cas_index.specs.declared.entries.BlockEntry.{BlockEntry}
use Rattle.cas_index.specs.declared.entries.PartitionEntry.{PartitionEntry}

-- ---- comparing

-- the field that is to stand there, as it is spelled: other bytes aren't allowed
unfoldable pub field_at : List ℕ → Left → Read (Unit {0})
field_at field left = do
  bytes ← checked (λ bytes. is_eq (bytes_cmp bytes field)) (bytes_at left.at (length field)) left
  Ok (tt, bytes.1)

-- such fields one behind another
unfoldable pub fields_at : List (List ℕ) → Left → Read (Unit {0})
fields_at [] left = Ok (tt, left)
fields_at (f ∷ fs) left = do
  first ← field_at f left
  fields_at fs first.1

-- ---- the fields

-- of a block in the index
abbrev pub block_fields : BlockEntry → List (List ℕ)
block_fields b = cut_bytes b.cut ∷ u64 b.place ∷ maybe deletion_bytes b.in_force ∷ []

-- of a partition in the index, before its blocks
abbrev pub head_fields : PartitionEntry → List (List ℕ)
head_fields p = bytes16 p.key ∷ u64 p.place ∷ u32 (length p.blocks) ∷ []

-- of a partition in the index, with its blocks
abbrev pub partition_fields : PartitionEntry → List (List ℕ)
partition_fields p = head_fields p ++ flat_map block_fields p.blocks

-- of the index
abbrev pub index_fields : List PartitionEntry → List (List ℕ)
index_fields ps = (u32 (length ps) ∷ []) ++ flat_map partition_fields ps

-- of the filter
abbrev pub filter_fields : List ℕ → List (List ℕ)
filter_fields filter = u32 (8 * length filter) ∷ filter ∷ []

-- of what is told of the file
abbrev pub info_fields : TableInfo → List (List ℕ)
info_fields i =
    u64 i.number ∷ u64 i.bytes ∷ bytes16 i.first ∷ bytes16 i.last ∷ i64 i.least ∷ i64 i.greatest ∷ maybe i64 i.dead ∷ u8 i.level ∷ u32 i.keys ∷ []
