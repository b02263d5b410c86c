-- How a session over a disk in memory ended.
use Rattle.std.specs.Prelude.{ℕ, ◌==◌, if◌then◌else◌}
use Rattle.session.specs.declared.status.Status.{Status}
use Rattle.session.specs.declared.status.Status.TheVariants.{WriteFault, OutOfMemory}

-- a write fault where some call found no memory is want of memory
abbrev pub without_memory : Status → Status
without_memory WriteFault = OutOfMemory
without_memory status = status

abbrev pub by_memory : (starved : ℕ) → Status → Status
by_memory starved status = if starved == 0 then status else without_memory status
