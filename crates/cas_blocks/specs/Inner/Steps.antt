-- How a partition's blocks are read one after another (own).
use Rattle.std.specs.Prelude.{◌≡◌, ℕ, ◌+◌, ◌-◌, ◌≤◌, ◌<◌, List, length, Option, None, Some, is_none, Result, Ok, Err}
use Rattle.cas_types.specs.declared.schema.Column.{Column}
use Rattle.cas_bounds.specs.declared.order.Ordered.{Ordered}
use Rattle.cas_codec.specs.Reading.{Left}
use Rattle.cas_codec.specs.declared.fault.ReadFault.{ReadFault}
use Rattle.cas_streams.specs.Streams.{IsThere}
use Rattle.cas_streams.specs.declared.fragment.Fragment.{Fragment}
use Rattle.cas_fragments.specs.Blocks.{Reached, past_all, last_place, is_full}
use Rattle.cas_fragments.specs.Reading.{body_at, next_block_at}
use Rattle.cas_blocks.specs.Reading.{left_at}
use Rattle.cas_blocks.specs.declared.fault.TableFault.{TableFault}
use Rattle.cas_blocks.specs.declared.fault.TableFault.TheVariants as table_fault
use Rattle.cas_blocks.specs.declared.steps.Onward.{Onward}
use Rattle.cas_blocks.specs.declared.steps.Step.{Step}

-- how far the fragments before a block came
abbrev pub reached : Onward → Reached
reached o = record { last = last_place o.last; force = o.force }

-- where the partition goes on behind these fragments
pub record IsBehind (r : Reached) (fs : List Fragment) (o : Onward) : Type 0 where
  pub reached_is : reached o ≡ past_all r fs
  pub ends : o.ends ≡ is_none (past_all r fs).force
  pub goes_on : o.goes_on ≡ is_full fs

-- a block that was read, and how the partition goes on behind it
pub record IsStep (o : Onward) (long : ℕ) (step : Step) : Type 0 where
  pub some : IsThere step.fragments
  pub few : length step.fragments ≤ long
  pub behind : IsBehind (reached o) step.fragments step.onward
  pub place : step.onward.place ≡ o.place + 4 + long

-- these bytes, which stand behind their number, are the fragments of a block there
abbrev pub ParsesTo : List Ordered → List Column → Onward → List ℕ → List Fragment → Type 0
ParsesTo order columns o body fs = (left : Left) × (body_at order columns (reached o) (record { bytes = body; at = o.place + 4 }) ≡ Ok (fs, left))

-- they aren't
abbrev pub IsNoBody : List Ordered → List Column → Onward → List ℕ → Type 0
IsNoBody order columns o body = (f : ReadFault) × (body_at order columns (reached o) (record { bytes = body; at = o.place + 4 }) ≡ Err f)

-- what is answered of these bytes, of which a block of so many is at most so many fragments
abbrev pub Parses : List Ordered → List Column → ℕ → Onward → List ℕ → Result Step TableFault → Type 0
Parses order columns number o body (Ok step) = ParsesTo order columns o body step.fragments × IsStep o (length body) step
Parses order columns number o body (Err table_fault.Read) = ⊥
Parses order columns number o body (Err (table_fault.BadBlock n at)) = (n ≡ number) × (at ≡ o.place) × IsNoBody order columns o body
Parses order columns number o body (Err table_fault.Mem) = Unit {0}

-- what is answered of a file of these bytes: what stands at the place of the next block
abbrev pub Answers : List Ordered → List Column → ℕ → ℕ → List ℕ → Onward → Result (Option Step) TableFault → Type 0
Answers order columns number end file o (Ok None) =
    (left : Left) × (next_block_at order columns o.ends o.goes_on (reached o) (left_at file end o.place) ≡ Ok (None, left))
Answers order columns number end file o (Ok (Some step)) =
    (next_block_at order columns o.ends o.goes_on (reached o) (left_at file end o.place) ≡ Ok (Some step.fragments, left_at file end step.onward.place))
    × IsBehind (reached o) step.fragments step.onward
Answers order columns number end file o (Err table_fault.Read) = Unit {0}
Answers order columns number end file o (Err (table_fault.BadBlock n at)) =
    (n ≡ number) × (at ≡ o.place) × ((f : ReadFault) × (next_block_at order columns o.ends o.goes_on (reached o) (left_at file end o.place) ≡ Err f))
Answers order columns number end file o (Err table_fault.Mem) = Unit {0}

-- what is given makes what is left shorter
pub record IsShorter (end : ℕ) (o : Onward) (step : Step) : Type 0 where
  pub some : IsThere step.fragments
  pub room : length step.fragments + (end - step.onward.place) < end - o.place
