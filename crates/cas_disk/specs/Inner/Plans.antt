-- Which calls of a folder in memory fail. Own.
use Rattle.std.specs.Prelude.{◌≡◌, ℕ, Bool, false, ◌||◌, ◌==◌, List, [], Option, None, Some, nat_lt, if◌then◌else◌}
use Rattle.cas_disk.specs.declared.plan.FaultPlan.{FaultPlan}
use Rattle.cas_disk.specs.declared.plan.Course.{Course}
use Rattle.cas_disk.specs.Counts.{sum_in_range}
use Rattle.std.specs.List.{list_any}
use Rattle.std.specs.Option.{option_map_or}
use Rattle.std.specs.Bool.{then_some}

-- the call of this number is past the last that is let through, or stands in the list
abbrev pub fails : List ℕ → Option ℕ → ℕ → Bool
fails planned stops_after call = option_map_or (λ last. nat_lt last call) stops_after false || list_any (λ n. n == call) planned

-- the second number of a pair whose first is this one
abbrev pub second_of : ℕ → ℕ × ℕ → Option ℕ
second_of first pair = then_some (pair.0 == first) pair.1

-- the same calls and the same plan, but that after so many calls each fails
abbrev pub stopped_after : ℕ → Course → Course
stopped_after calls course = record { plan = course.plan; stops_after = Some calls; calls = course.calls; drafts = course.drafts; faults = course.faults }

-- the plan names no call
abbrev pub LetsAllPass : FaultPlan → Type 0
LetsAllPass plan = (plan.calls.items ≡ []) × (plan.drafts.items ≡ []) × (plan.reads.items ≡ [])

-- no call was made yet
abbrev pub begun : FaultPlan → Course
begun plan = record { plan = plan; stops_after = None; calls = 0; drafts = 0; faults = 0 }

-- one fault more
abbrev pub failed_once : Course → Course
failed_once course = record {
  plan = course.plan;
  stops_after = course.stops_after;
  calls = course.calls;
  drafts = course.drafts;
  faults = sum_in_range course.faults 1;
}

-- one call more, that failed or didn't
abbrev pub called : Bool → Course → Course
called failed course =
    let passed : Course = record {
      plan = course.plan;
      stops_after = course.stops_after;
      calls = sum_in_range course.calls 1;
      drafts = course.drafts;
      faults = course.faults;
    } in
    if failed then failed_once passed else passed
