-- Little isn't too much for a file.
use Rattle.std.proofs.Common.{◌⊎◌, inl, inr, ℕ, List, length, arith}
use Rattle.cas_types.specs.declared.schema.TableSchema.{TableSchema}
use Rattle.cas_atoms.specs.declared.atom.Mutation.{Mutation}
use Rattle.cas_flush.specs.Flushed.{at_level_0}
use Rattle.cas_flushing.specs.Flushed.{head_of}
use Rattle.cas_lasting.specs.Laws.{LittleIsNeverTooMuch}
use Rattle.cas_lasting.specs.TooMuch.{AllIsTooMuch, OneIsTooMuch}
use Rattle.cas_sizes.proofs.Little.{little_has_room}
use Rattle.cas_sizes.specs.Little.{AreLittle}
use Rattle.cas_sstwrite.specs.Causes.{IsUnfit, TooMuch}
use Rattle.cas_sstwrite.specs.declared.fault.Measure.{Measure}
use Rattle.cas_tables.specs.Contents.{Contents}
use Rattle.cas_tables.specs.Files.{front_bytes}

one_isnt : (t : TableSchema) (shard : ℕ) (ws : List Mutation) → AreLittle t.columns ws → OneIsTooMuch t shard ws → ⊥
one_isnt t shard ws little m = by m.why
  where
    before : Contents
    before = at_level_0 (head_of t shard m.number) m.before

    by : ((what : Measure) × TooMuch what (length m.before) (length (front_bytes before)) m.key m.stream.top m.stream.fragments)
        ⊎ IsUnfit m.key m.stream.fragments → ⊥
    by (inl (what, much)) = little_has_room.behind t.columns ws before m.key m.stream what little m.say m.says much
    by (inr unfit) = little_has_room.fields t.columns ws m.key m.stream little m.says unfit

all_isnt : (t : TableSchema) (shard : ℕ) (ws : List Mutation) → AreLittle t.columns ws → AllIsTooMuch t shard ws → ⊥
all_isnt t shard ws little m =
    omega (arith, m.long, little_has_room.file t.columns ws (at_level_0 (head_of t shard m.number) m.partitions) m.facts little m.say)

pub little_is_never_too_much : LittleIsNeverTooMuch
little_is_never_too_much t shard ws little (inl one) = one_isnt t shard ws little one
little_is_never_too_much t shard ws little (inr all) = all_isnt t shard ws little all
