-- Reading a table file: its head, and what stands behind its partitions. That this reading takes such files and nothing else is a law.
-- Own. The place of a refusal is that of the refused field's first byte.
use Rattle.std.specs.Prelude.{ℕ, ◌+◌, ◌-◌, ◌*◌, ◌==◌, ◌&&◌, nat_lt, Bool, true, false, List, length, take, drop, slice_get, Option, None, Some, Result, Ok, Err}
use Rattle.std.specs.Prelude.{ℤ, if◌then◌else◌}
use Rattle.std.specs.Int.{is_in_range}
use Rattle.std.specs.List.{last_or}
use Rattle.std.specs.Ordering.{is_eq}
use Rattle.cas_types.specs.Values.{bytes_cmp}
use Rattle.cas_bounds.specs.declared.order.Ordered.{Ordered}
use Rattle.cas_codec.specs.declared.fault.ReadFault.{ReadFault}
use Rattle.cas_codec.specs.declared.fault.ReadFault.TheVariants.{Bad}
use Rattle.cas_codec.specs.Reading.{Left, Read, ◌>>=◌, checked, is_within, u8_at, u32_at, u64_at, i64_at, maybe_at, bytes16_at}
use Rattle.cas_info.specs.declared.info.TableInfo.{TableInfo}
use Rattle.cas_filter.specs.Filters.{bits_for}
use Rattle.cas_filter.specs.Reading.{filter_at}
use Rattle.cas_index.specs.Entries.{last_place}
use Rattle.cas_index.specs.Reading.{index_at, footer_at}
use Rattle.cas_index.specs.declared.footer.TheConstants.{FOOTER_LENGTH}
use Rattle.cas_index.specs.declared.footer.Footer.{Footer}
use Rattle.cas_index.specs.declared.entries.PartitionEntry.{PartitionEntry}
use Rattle.cas_tables.specs.declared.header.TheConstants.{HEADER_LENGTH}
use Rattle.cas_fragments.specs.declared.heads.Version.{Version}
use Rattle.cas_tables.specs.Reading.{header_of_at}

-- ---- parts of a file

-- so many bytes of a file from a place on, or as many as it has
abbrev pub part : List ℕ → ℕ → ℕ → Left
part file at count = record { bytes = take count (drop at file); at = at }

-- what fills all that is left; a byte behind it isn't allowed there
unfoldable pub filled_at : {A : Type 0} → (Left → Read A) → Left → Result A ReadFault
filled_at reading left = do
  found ← reading left
  if length found.1.bytes == 0 then Ok found.0 else Err (Bad found.1.at)

-- the places that a footer tells lie in order between the header and the footer, which stands at end; the first that doesn't is bad
unfoldable pub in_order : ℕ → Footer → Result Footer ReadFault
in_order end f =
    if is_in_range HEADER_LENGTH end f.index then
    (if is_in_range f.index end f.filter then
    (if is_in_range f.filter end f.info then Ok f else Err (Bad (end + 16)))
    else Err (Bad (end + 8)))
    else Err (Bad end)

-- a footer, behind which nothing is left, and whose places lie in order
unfoldable pub last_footer_at : Left → Result Footer ReadFault
last_footer_at left = do
  footer ← filled_at footer_at left
  in_order left.at footer

-- the place of a partition, and the file's start without one
abbrev pub own_place : Option PartitionEntry → ℕ
own_place None = 0
own_place (Some p) = p.place

-- the first partition stands behind the header, and the last place before the end of the partitions
unfoldable pub stand_before : ℕ → List PartitionEntry → Bool
stand_before end partitions = (own_place (slice_get partitions 0) == HEADER_LENGTH) && nat_lt (last_place (last_or None partitions)) end

-- the index of partitions that stand between the header and it
unfoldable pub own_index_at : List Ordered → Left → Result (List PartitionEntry) ReadFault
own_index_at order left = do
  partitions ← filled_at (index_at order) left
  if stand_before left.at partitions then Ok partitions else Err (Bad left.at)

-- a filter that has as many bits as so many keys ask for
unfoldable pub own_filter_at : ℕ → Left → Result (List ℕ) ReadFault
own_filter_at keys left = do
  filter ← filled_at filter_at left
  if 8 * length filter == bits_for keys then Ok filter else Err (Bad left.at)

-- ---- what is told: each field is as listed, and the keys are those of the index

-- the file's number and its length
unfoldable pub own_sizes_at : TableInfo → Left → Read (Unit {0})
own_sizes_at info left = do
  number ← checked (is_in_range info.number info.number) u64_at left
  bytes ← checked (is_in_range info.bytes info.bytes) u64_at number.1
  Ok (tt, bytes.1)

-- the key is the listed one, and that of the partition
unfoldable pub is_key_of : List ℕ → Option PartitionEntry → List ℕ → Bool
is_key_of listed None key = false
is_key_of listed (Some p) key = is_eq (bytes_cmp key listed) && is_eq (bytes_cmp key p.key)

-- such a key
unfoldable pub own_key_at : List ℕ → Option PartitionEntry → Left → Read (Unit {0})
own_key_at listed partition left = do
  key ← checked (is_key_of listed partition) bytes16_at left
  Ok (tt, key.1)

-- the first and the last
unfoldable pub own_range_at : TableInfo → List PartitionEntry → Left → Read (Unit {0})
own_range_at info partitions left = do
  first ← own_key_at info.first (slice_get partitions 0) left
  last ← own_key_at info.last (last_or None partitions) first.1
  Ok (tt, last.1)

-- the second is the listed one, or there is none
unfoldable pub is_second : Option ℤ → Option ℤ → Bool
is_second None None = true
is_second None (Some second) = false
is_second (Some listed) None = false
is_second (Some listed) (Some second) = is_within listed listed second

-- the timestamps, and when the last of it died
unfoldable pub own_times_at : TableInfo → Left → Read (Unit {0})
own_times_at info left = do
  least ← checked (is_within info.least info.least) i64_at left
  greatest ← checked (is_within info.greatest info.greatest) i64_at least.1
  dead ← checked (is_second info.dead) (maybe_at i64_at) greatest.1
  Ok (tt, dead.1)

-- the level, and the number of keys
unfoldable pub own_rest_at : TableInfo → ℕ → Left → Read (Unit {0})
own_rest_at info count left = do
  level ← checked (is_in_range info.level info.level) u8_at left
  keys ← checked (λ n. (n == info.keys) && (n == count)) u32_at level.1
  Ok (tt, keys.1)

-- all of it
unfoldable pub own_info_at : TableInfo → List PartitionEntry → Left → Read (Unit {0})
own_info_at info partitions left = do
  sizes ← own_sizes_at info left
  range ← own_range_at info partitions sizes.1
  times ← own_times_at info range.1
  rest ← own_rest_at info (length partitions) times.1
  Ok (tt, rest.1)

-- ---- the file

-- what is kept of a file: its version, the place where its partitions end, the index and the filter
pub record Loaded : Type 0 where
  pub version : Version
  pub end : ℕ
  pub partitions : List PartitionEntry
  pub filter : List ℕ

-- the file of this table and this shard of which that is listed: the header and the footer first, then what stands where the footer tells
unfoldable pub loaded_at : List Ordered → ℕ → ℕ → TableInfo → List ℕ → Result Loaded ReadFault
loaded_at order table shard info file = do
  version ← filled_at (header_of_at table shard info.number) (part file 0 HEADER_LENGTH)
  footer ← last_footer_at (part file (info.bytes - FOOTER_LENGTH) (FOOTER_LENGTH + 1))
  partitions ← own_index_at order (part file footer.index (footer.filter - footer.index))
  filter ← own_filter_at (length partitions) (part file footer.filter (footer.info - footer.filter))
  told ← filled_at (own_info_at info partitions) (part file footer.info (info.bytes - FOOTER_LENGTH - footer.info))
  Ok (record { version = version; end = footer.index; partitions = partitions; filter = filter })
