-- How far a log was read, where of what was read only the last numbers are kept, and what is above its frontier is handed on. Own.
use Rattle.std.specs.Prelude.{◌≡◌, ◌<◌, ℕ, List, ◌++◌, filter, slice_index_or, Option, None, Some, Result, Ok, Err}
use Rattle.cas_types.specs.declared.schema.TableSchema.{TableSchema}
use Rattle.cas_codec.specs.declared.fault.ReadFault.{ReadFault}
use Rattle.cas_codec.specs.declared.fault.ReadFault.TheVariants.{Short, Bad as BadField, Mem as NoMemory}
use Rattle.cas_codec.specs.Reading.{Left, Read}
use Rattle.cas_atoms.specs.declared.atom.Mutation.{Mutation}
use Rattle.cas_replay.specs.declared.fault.ReplayFault.{ReplayFault}
use Rattle.cas_replay.specs.declared.fault.ReplayFault.TheVariants.{Failed, Bad, Mem}
use Rattle.cas_replay.specs.Tops.{AreNotesOf}
use Rattle.cas_replay.specs.Reading.{last_of, is_above}
use Rattle.cas_replay.specs.Replays.{IsRefusedAt, IsFront}
use Rattle.cas_replay.specs.Inner.Steps.{StayALog}
use Rattle.cas_replay.specs.declared.lasts.Lasts.{Lasts}

-- the number of a mutation that may be there
abbrev pub number_of : Option Mutation → Option ℕ
number_of None = None
number_of (Some m) = Some m.number

-- of these mutations, the number of the last one of each shard
abbrev pub AreLast : List (Option ℕ) → List Mutation → Type 0
AreLast numbers read = (shard : ℕ) → shard < 256 → slice_index_or numbers shard None ≡ number_of (last_of shard read)

-- So far a log was read: the last numbers are those of these mutations, which are noted, and no others; and those of them that are above their
-- frontiers were taken.
pub record Stands (shards : ℕ) (frontiers : List ℕ) (took : List Mutation → Type 0) (lasts : Lasts) (read : List Mutation) : Type 0 where
  pub last : AreLast lasts.numbers read
  pub noted : AreNotesOf shards lasts.tops read
  pub handed : took (filter (is_above shards frontiers) read)

-- Behind these mutations others were read, which a log may have there, and with all of them something is so.
pub record Went (tables : List TableSchema) (shards : ℕ) (frontiers : List ℕ) (took : List Mutation → Type 0) (lasts : Lasts)
    (before : List Mutation) (says : List Mutation → Type 0) : Type 0 where
  pub after : List Mutation
  pub stands : Stands shards frontiers took lasts after
  pub stay : StayALog tables shards before after
  pub so : says after

-- How a reader ends that hands on what it reads: as the reading does, of which the mutations are seen by all; without memory it has read a front of them.
abbrev pub Tells : {X A : Type 0} → (X → A) → (A → List Mutation) → List Mutation → Result X ReadFault → Left → Read A → Type 0
Tells view all so_far (Ok x) new read = read ≡ Ok (view x, new)
Tells view all so_far (Err (Short at)) new read = read ≡ Err (Short at)
Tells view all so_far (Err (BadField at)) new read = read ≡ Err (BadField at)
Tells view all so_far (Err NoMemory) new read = IsFront (λ x. all x.0) so_far read

-- What is answered of a segment, behind which these mutations are read: what the reading gives; where the folder failed or memory ran out a front of it.
abbrev pub GoesThrough : {X : Type 0} → List Mutation → ℕ → Result X ReplayFault → Result (List Mutation) ReadFault → Type 0
GoesThrough so_far segment (Ok x) read = read ≡ Ok so_far
GoesThrough so_far segment (Err (Bad of at)) read = (of ≡ segment) × IsRefusedAt at read
GoesThrough so_far segment (Err Failed) read = IsFront (λ ms. ms) so_far read
GoesThrough so_far segment (Err Mem) read = IsFront (λ ms. ms) so_far read
