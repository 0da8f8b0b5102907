-- In a manifest with some 2^32 bytes left there is room for the entry that lists a file, and for one that drops a segment.
use Rattle.std.proofs.Common.{ℕ, ◌≤◌, List, [], ◌∷◌, ◌++◌, length, ap, arith, length-append}
use Rattle.std.specs.List.{flat_map}
use Rattle.cas_codec.specs.Fields.{u8, u16, u64, i64}
use Rattle.cas_codec.proofs.FieldLengths.{u8_long, u16_long, u64_long, i64_long}
use Rattle.cas_info.specs.declared.info.TableInfo.{TableInfo}
use Rattle.cas_info.specs.Allowed.{FitsInfo}
use Rattle.cas_info.specs.Spelling.{info_bytes}
use Rattle.cas_changes.specs.declared.entry.Change.{Change}
use Rattle.cas_changes.specs.declared.entry.Entry.TheVariants as entry
use Rattle.cas_changes.proofs.EntryLengths.{info_long}
use Rattle.cas_changes.specs.Spelling.{where_bytes, marks_bytes, removed_bytes, added_bytes, change_bytes, entry_bytes}
use Rattle.cas_journal.specs.Reach.{Reach, HasNoPlace}
use Rattle.cas_sstread.specs.Loading.{Held}
use Rattle.cas_view.specs.Views.{File}
use Rattle.cas_shard.specs.Shards.{ShardHistory}
use Rattle.cas_lasting.specs.Flushed.{ListsOne}
use Rattle.cas_node.specs.Laws.{IsRoomy}

one_added : (i : TableInfo) → FitsInfo i → length (added_bytes (i ∷ [])) ≤ 131122
one_added i fit =
    omega (arith, length-append (u16 1) (flat_map info_bytes (i ∷ [])), length-append (info_bytes i) [], u16_long 1, info_long i fit)

none_removed : length (removed_bytes []) ≤ 2
none_removed = omega (arith, length-append (u16 0) (flat_map u64 []), u16_long 0)

change_long : (table shard : ℕ) (s : ShardHistory) (f : File Held) (c : Change) → ListsOne table shard s f c → FitsInfo f.info
    → length (entry_bytes (entry.Change c)) ≤ 140000
change_long table shard s f c lists fit =
    let added : length (added_bytes c.added) ≤ 131122 = omega (arith, ap (λ (is : List TableInfo). length (added_bytes is)) lists.added, one_added f.info fit) in
    let removed : length (removed_bytes c.removed) ≤ 2 = omega (arith, ap (λ (ns : List ℕ). length (removed_bytes ns)) lists.removed, none_removed) in
    let kind = length-append (u8 5) (change_bytes c) in
    let a = length-append (where_bytes c.table c.shard) (marks_bytes c.moment c.frontier c.drawn ++ (removed_bytes c.removed ++ added_bytes c.added)) in
    let b = length-append (marks_bytes c.moment c.frontier c.drawn) (removed_bytes c.removed ++ added_bytes c.added) in
    let d = length-append (removed_bytes c.removed) (added_bytes c.added) in
    let e = length-append (u16 c.table) (u8 c.shard) in
    let g = length-append (i64 c.moment) (u64 c.frontier ++ i64 c.drawn) in
    let h = length-append (u64 c.frontier) (i64 c.drawn) in
    omega (
      arith,
      kind,
      a,
      b,
      d,
      e,
      g,
      h,
      added,
      removed,
      u8_long 5,
      u16_long c.table,
      u8_long c.shard,
      i64_long c.moment,
      u64_long c.frontier,
      i64_long c.drawn,
    )

-- so there is room for the entry that lists a file
pub room_for_change : (table shard : ℕ) (s : ShardHistory) (f : File Held) (c : Change) (r : Reach) → ListsOne table shard s f c → FitsInfo f.info → IsRoomy r
    → HasNoPlace (entry.Change c) r → ⊥
room_for_change table shard s f c r lists fit room full = absurd (omega (arith, change_long table shard s f c lists fit, room.1, full))

-- and for the one that drops a segment
pub room_for_drop : (number : ℕ) (r : Reach) → IsRoomy r → HasNoPlace (entry.DropSegment number) r → ⊥
room_for_drop number r room full = absurd (omega (arith, length-append (u8 4) (u64 number), u8_long 4, u64_long number, room.1, full))
