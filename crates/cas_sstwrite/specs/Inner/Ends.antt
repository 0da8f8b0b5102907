-- What stands behind the partitions of a table file.
use Rattle.std.specs.Prelude.{◌≡◌, ◌<◌, ◌^◌, ℕ, ◌+◌, List, [], ◌++◌, length, map, Option, None, Some, ◌⊎◌}
use Rattle.cas_info.specs.Spelling.{info_bytes}
use Rattle.cas_info.specs.declared.info.TableInfo.{TableInfo}
use Rattle.cas_facts.specs.declared.facts.Facts.{Facts}
use Rattle.cas_filter.specs.Spelling.{filter_bytes}
use Rattle.cas_info.specs.declared.info.TheConstants.{FILE_LIMIT}
use Rattle.cas_filter.specs.Filters.{bits_for, filter_of}
use Rattle.cas_sstwrite.specs.declared.fault.Measure.TheVariants.{FileBytes, BlockBytes, Partitions}
use Rattle.cas_sstwrite.specs.declared.fault.WriteFault.{WriteFault}
use Rattle.cas_sstwrite.specs.declared.fault.WriteFault.TheVariants.{Failed, Order, TooMany, Unfit, Mem}
use Rattle.cas_types.specs.declared.schema.Column.{Column}
use Rattle.cas_tables.specs.Contents.{Contents}
use Rattle.cas_sstwrite.specs.Finished.{IsFinished, FinishFault}
use Rattle.cas_sstwrite.specs.declared.fault.PartitionFault.TheVariants.{Write}
use Rattle.cas_streams.specs.Streams.{IsThere}
use Rattle.cas_tables.specs.Files.{first_key, last_key}
use Rattle.cas_index.specs.Spelling.{index_bytes, footer_bytes}
use Rattle.cas_index.specs.declared.entries.PartitionEntry.{PartitionEntry}
use Rattle.cas_index.specs.declared.footer.Footer.{Footer}

-- index and filter
abbrev pub body_at : List PartitionEntry → List ℕ → List ℕ
body_at es filter = index_bytes es ++ filter_bytes filter

-- where they stand behind so many bytes, and what is told of the file behind them
abbrev pub footer_at : ℕ → List PartitionEntry → List ℕ → Footer
footer_at place es filter = record {
  index = place;
  filter = place + length (index_bytes es);
  info = (place + length (index_bytes es)) + length (filter_bytes filter);
}

-- all that stands there
abbrev pub tail_at : ℕ → List PartitionEntry → List ℕ → TableInfo → List ℕ
tail_at place es filter i = body_at es filter ++ (info_bytes i ++ footer_bytes (footer_at place es filter))

-- what is told of a file that is so long
abbrev pub info_at : ℕ → ℕ → ℕ → List ℕ → List ℕ → Facts → ℕ → TableInfo
info_at number level keys first last f bytes = record {
  number = number;
  bytes = bytes;
  first = first;
  last = last;
  least = f.least;
  greatest = f.greatest;
  dead = f.dead;
  level = level;
  keys = keys;
}

-- the same of a file with another length
abbrev pub with_bytes : TableInfo → ℕ → TableInfo
with_bytes i n = record i { bytes = n }

-- the filter of their keys
abbrev pub filter_at : List PartitionEntry → List ℕ
filter_at es = filter_of (bits_for (length es)) (map (λ e. e.key) es)

-- why it isn't written there: the disk failed, memory ran out, or the file would be too long
abbrev pub TailFault : ℕ → List PartitionEntry → TableInfo → WriteFault → Type 0
TailFault place es i Failed = Unit {0}
TailFault place es i Order = ⊥
TailFault place es i (TooMany FileBytes limit) = (limit ≡ FILE_LIMIT)
    × (FILE_LIMIT < place + length (tail_at place es (filter_at es) (with_bytes i (place + length (tail_at place es (filter_at es) i)))))
TailFault place es i (TooMany BlockBytes limit) = ⊥
TailFault place es i (TooMany Partitions limit) = ⊥
TailFault place es i Unfit = ⊥
TailFault place es i Mem = Unit {0}

-- what is told of a file of these partitions with these facts, but for its length; nothing where there are none
abbrev pub IsTold : ℕ → ℕ → List PartitionEntry → Option Facts → Option TableInfo → Type 0
IsTold number level es facts None = (es ≡ []) ⊎ (facts ≡ None)
IsTold number level es facts (Some i) = (f : Facts) × (facts ≡ Some f) × IsThere es
    × (i ≡ info_at number level (length es) (first_key (map (λ e. e.key) es)) (last_key (map (λ e. e.key) es)) f 0)

-- the first and the last key of partitions, of which there are some
pub record AreEnds (es : List PartitionEntry) (first last : List ℕ) : Type 0 where
  pub there : IsThere es
  pub low : first_key (map (λ e. e.key) es) ≡ first
  pub high : last_key (map (λ e. e.key) es) ≡ last
  pub short : (length first < 2 ^ 16) × (length last < 2 ^ 16)

-- no partition was written; or the draft is that file, of which the info tells
abbrev pub Ended : {D : Type 0} → (D → ℕ) → (D → List ℕ → Type 0) → List Column → Contents → D → Option TableInfo → Type 0
Ended number_of written columns c draft None = c.partitions ≡ []
Ended number_of written columns c draft (Some i) = IsFinished number_of written columns c i draft

-- why the file of these contents isn't finished
abbrev pub EndFault : Contents → WriteFault → Type 0
EndFault c e = FinishFault {E = Unit {0}} c (Write e)
