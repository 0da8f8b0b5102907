-- Whether a table's files are as they must be, each read to its end, in the words of the history. Nothing changes but how often a read failed.
-- Cassandra documentation, "nodetool verify"; own.
use Rattle.std.specs.Prelude.{◌≡◌, ◌⊎◌, ℕ, ◌≤◌, ◌<◌, List, [], ◌∷◌, length, Option, None, Some, Result, Ok, Err}
use Rattle.std.specs.List.{flat_map, range_with_len}
use Rattle.cas_types.specs.Limits.{IsNarrow}
use Rattle.cas_types.specs.declared.schema.TableSchema.{TableSchema}
use Rattle.cas_io.specs.Causes.{Rose}
use Rattle.cas_laws.specs.Given.{Has}
use Rattle.cas_codec.specs.declared.fault.ReadFault.{ReadFault}
use Rattle.cas_facts.specs.declared.facts.Facts.{Facts}
use Rattle.cas_info.specs.declared.info.TheConstants.{FILE_LIMIT}
use Rattle.cas_sstread.specs.Loading.{Held, IsBadAt}
use Rattle.cas_verify.specs.Checking.{AreFactsOf, whole_at}
use Rattle.cas_view.specs.Views.{File}
use Rattle.cas_effects.specs.declared.refusal.Refusal.TheVariants.{NoTable}
use Rattle.cas_effects.specs.Refusals.{refusal_number}
use Rattle.cas_render.specs.declared.reply.Verdict.{Verdict}
use Rattle.cas_terms.specs.Columns.{table_named}
use Rattle.cql_parse.specs.declared.syntax.TableName.{TableName}
use Rattle.cas_sessions.specs.declared.answer.Fault.{Fault}
use Rattle.cas_sessions.specs.declared.answer.Fault.TheVariants.{Refused, Read, Mem}
use Rattle.cas_lasting.specs.History.{History}

-- ---- a file

-- all that was read is as it must be, or the first that isn't stands at that place
abbrev pub IsFirstBad : Option ℕ → Result (Unit {0}) ReadFault → Type 0
IsFirstBad None read = read ≡ Ok tt
IsFirstBad (Some at) read = IsBadAt read at

-- A file of a table with at most 256 columns is found so, where it tells its bytes, by the facts that the atoms in its partitions have. One that is listed with
-- more bytes than a file may have isn't read, and is bad at its beginning.
abbrev pub IsFoundSo : Held → Option ℕ → Type 0
IsFoundSo t bad =
    IsNarrow t.columns
    × (((t.info.bytes ≤ FILE_LIMIT) × ((b : List ℕ) → t.contents ≡ Some b → (f : Facts) → AreFactsOf t.columns t.kept b f
    → IsFirstBad bad (whole_at t.columns t.info t.kept f b)))
    ⊎ ((FILE_LIMIT < t.info.bytes) × (bad ≡ Some 0)))

-- what is said of a file: its number, and what was found of it
abbrev pub IsVerdict : File Held → Verdict → Type 0
IsVerdict f v = (v.number ≡ f.info.number) × IsFoundSo f.table v.bad

-- just one is said of each of these files, in their order
abbrev pub AreVerdicts : List (File Held) → List Verdict → Type 0
AreVerdicts [] [] = Unit {0}
AreVerdicts (f ∷ fs) (v ∷ vs) = IsVerdict f v × AreVerdicts fs vs
AreVerdicts [] (v ∷ vs) = ⊥
AreVerdicts (f ∷ fs) [] = ⊥

-- one of these files has that number, and the first in it that isn't as it must be stands at that place
abbrev pub IsFoundBad : List (File Held) → ℕ → ℕ → Type 0
IsFoundBad fs number at = (f : File Held) × Has fs f × (f.info.number ≡ number) × IsFoundSo f.table (Some at)

-- ---- a table

-- the files of a table, shard by shard
abbrev pub table_files : (ℕ → ℕ → List (File Held)) → ℕ → ℕ → List (File Held)
table_files files shards table = flat_map (λ n. files n table) (range_with_len 0 shards)

-- why not all files were read: a read failed, which is counted, or memory ran out
abbrev pub IsWhyUnread : ℕ → ℕ → Fault → Type 0
IsWhyUnread before now Read = Rose before now
IsWhyUnread before now Mem = Unit {0}
IsWhyUnread before now _ = ⊥

-- what is answered of these files, by the count of reads that failed before and now
abbrev pub EndsVerified : List (File Held) → ℕ → ℕ → Result (List Verdict) Fault → Type 0
EndsVerified fs before now (Ok verdicts) = AreVerdicts fs verdicts
EndsVerified fs before now (Err f) = IsWhyUnread before now f

-- the files of the table that is named so are read, if there is one; all is as it was but how often a read failed
abbrev pub VerifiesNamed : History → Option TableSchema → Result (List Verdict) Fault → History → Type 0
VerifiesNamed h None r after = (r ≡ Err (Refused (refusal_number NoTable))) × (after ≡ h)
VerifiesNamed h (Some t) r after =
    (reads : ℕ) × (h.disk.reads ≤ reads) × EndsVerified (table_files h.disk.files (length h.shards) t.number) h.disk.reads reads r
    × (after ≡ record h { disk = record h.disk { reads = reads } })

-- what the check of the table of that name is answered, and what becomes of the store
abbrev pub Verifies : History → TableName → Result (List Verdict) Fault → History → Type 0
Verifies h name r after = VerifiesNamed h (table_named h.tables name) r after
