-- How the index of a table file and its footer are spelled as bytes: each has one spelling.
-- Own format.
use Rattle.std.specs.Prelude.{ℕ, List, ◌++◌, length}
use Rattle.std.specs.List.{flat_map}
use Rattle.cas_codec.specs.Fields.{u32, u64, bytes16, maybe}
use Rattle.cas_records.specs.Spelling.{deletion_bytes, cut_bytes}
use Rattle.cas_index.specs.declared.footer.TheConstants.{END_WORD}
use Rattle.cas_index.specs.declared.footer.Footer.{Footer}
use Rattle.cas_index.specs.declared.entries.BlockEntry.{BlockEntry}
use Rattle.cas_index.specs.declared.entries.PartitionEntry.{PartitionEntry}

-- a block: the cut where it begins, its place, and the range deletion in force before its first fragment
abbrev pub block_bytes : BlockEntry → List ℕ
block_bytes b = cut_bytes b.cut ++ (u64 b.place ++ maybe deletion_bytes b.in_force)

-- what stands before the blocks of a partition: its key, its place, and the number of its blocks in four bytes
abbrev pub head_bytes : PartitionEntry → List ℕ
head_bytes p = bytes16 p.key ++ (u64 p.place ++ u32 (length p.blocks))

-- a partition: that, and its blocks
abbrev pub partition_bytes : PartitionEntry → List ℕ
partition_bytes p = head_bytes p ++ flat_map block_bytes p.blocks

-- an index: the partitions after their number in four bytes
abbrev pub index_bytes : List PartitionEntry → List ℕ
index_bytes partitions = u32 (length partitions) ++ flat_map partition_bytes partitions

-- a footer: the places of the index, of the filter and of what is told of the file, and the word CASSEND1
abbrev pub footer_bytes : Footer → List ℕ
footer_bytes f = u64 f.index ++ (u64 f.filter ++ (u64 f.info ++ u64 END_WORD))
