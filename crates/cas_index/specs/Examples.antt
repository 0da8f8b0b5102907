-- The index and the footer that FORMATS.md shows.
-- Own format.
use Rattle.std.specs.Prelude.{pos, false, List, [], ◌∷◌, None, Some}
use Rattle.cas_bounds.specs.declared.order.Ordered.{Ordered}
use Rattle.cas_index.specs.declared.footer.Footer.{Footer}
use Rattle.cas_index.specs.declared.entries.BlockEntry.{BlockEntry}
use Rattle.cas_index.specs.declared.entries.PartitionEntry.{PartitionEntry}

-- a block that begins before the row 1, and one that begins before the row 5, where a deletion at 3, made in the second 4, is in force
abbrev pub two_blocks : List Ordered → List BlockEntry
two_blocks order =
    record { cut = record { prefix = (1 ∷ []) ∷ []; after = false; order = order }; place = 30; in_force = None }
    ∷ record { cut = record { prefix = (5 ∷ []) ∷ []; after = false; order = order }; place = 80; in_force = Some (record { at = pos 3; second = pos 4 }) } ∷ []

-- the partition 01 with these blocks, and the partition 02 with none
abbrev pub two_partitions : List Ordered → List PartitionEntry
two_partitions order =
    record { key = 1 ∷ []; place = 21; blocks = two_blocks order } ∷ record { key = 2 ∷ []; place = 130; blocks = [] } ∷ []

-- the index at 181, the filter at 259, and what is told of the file at 271
abbrev pub a_footer : Footer
a_footer = record { index = 181; filter = 259; info = 271 }
