-- Which calls a disk in memory is told to fail.
use Rattle.std.specs.Prelude.{ℕ, Bool, false, ◌&&◌, ◌||◌, ◌==◌, nat_le, Option, Some, None}
use Rattle.disk_model.specs.declared.fault_plan.FaultPlan.{FaultPlan}
use Rattle.disk_model.specs.declared.fault_plan.ReadSpan.{ReadSpan}

-- the call that is named
abbrev pub is_call : Option ℕ → (number : ℕ) → Bool
is_call None number = false
is_call (Some call) number = call == number

-- the call that is named, or a later one
abbrev pub is_from : Option ℕ → (number : ℕ) → Bool
is_from None number = false
is_from (Some from) number = nat_le from number

-- whether the call of this number is to fail
abbrev pub fails_call : FaultPlan → (number : ℕ) → Bool
fails_call plan number = is_call plan.call number || is_from plan.from number

-- one of the reads that are named
abbrev pub is_read : Option ReadSpan → (meter read : ℕ) → Bool
is_read None meter read = false
is_read (Some span) meter read = (span.meter == meter) && nat_le span.first read && nat_le read span.last

-- whether the read of this number of the meter of this number is to fail
abbrev pub fails_read : FaultPlan → (meter read : ℕ) → Bool
fails_read plan meter read = is_read plan.reads meter read
