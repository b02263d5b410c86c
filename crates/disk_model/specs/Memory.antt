-- What contracts see of a disk in memory: what it held when it was made, the calls that it did since, and its counts.
use Rattle.std.specs.Prelude.{◌≡◌, ◌<◌, ◌≤◌, ⊤, ℕ, ◌-◌, ◌%◌, Bool, false, ◌==◌, List, [], ◌∷◌, ◌++◌, length, take, fold, replicate, slice_set, Some, None, Result, MatchResult, All, if◌then◌else◌}
use Rattle.std.specs.List.{list_any}
use Rattle.disk_model.specs.Crashes.{DiskState}
use Rattle.disk_model.specs.Images.{Image, sector_at}
use Rattle.disk_model.specs.DiskLaws.{IsImage, sector_bytes, zero_sector}
use Rattle.disk_model.specs.Faults.{one_more}
use Rattle.disk_model.specs.Plans.{fails_call}
use Rattle.disk_model.specs.declared.call.Call.{Call}
use Rattle.disk_model.specs.declared.call.Call.TheVariants.{Write, Barrier}
use Rattle.disk_model.specs.declared.call.SectorWrite.{SectorWrite}
use Rattle.disk_model.specs.declared.fault_plan.FaultPlan.{FaultPlan}

-- a meter: its number, counted from 1, how many reads were made through it, and how many of them failed
pub record Reads : Type 0 where
  pub meter : ℕ
  pub made : ℕ
  pub failed : ℕ

-- how many sectors there are and what they held at first; the writes and barriers done since; what is to fail; how many
-- calls of `meter`, `write` and `barrier` were made; how many meters were given out; the faults; and those for want of memory
pub record MemoryDisk : Type 0 where
  pub sectors : ℕ
  pub start : Image
  pub calls : List Call
  pub plan : FaultPlan
  pub made : ℕ
  pub meters : ℕ
  pub write_faults : ℕ
  pub read_faults : ℕ
  pub starved : ℕ

-- what the sectors held at the last barrier, and the writes since
pub record Cells : Type 0 where
  pub base : Image
  pub pending : List SectorWrite

abbrev pub write_sector : Image → SectorWrite → Image
write_sector image write = slice_set image write.at write.bytes

-- what the sectors hold now
abbrev pub cells_now : Cells → Image
cells_now cells = fold write_sector cells.base cells.pending

-- after one more call
abbrev pub after_call : Cells → Call → Cells
after_call cells (Write write) = record cells { pending = cells.pending ++ write ∷ [] }
after_call cells Barrier = record { base = cells_now cells; pending = [] }

-- after these calls on a disk that held this
abbrev pub cells_after : Image → List Call → Cells
cells_after start calls = fold after_call (record { base = start; pending = [] }) calls

-- whether one of these writes goes to this sector
abbrev pub touches : List SectorWrite → (at : ℕ) → Bool
touches writes at = list_any (λ write. write.at == at) writes

-- whole sectors, and each that wasn't written since the last barrier as it was then
pub record MayLeave (sectors : ℕ) (cells : Cells) (c : Image) : Type 0 where
  pub image : IsImage sectors c
  pub kept : (at : ℕ) → touches cells.pending at ≡ false → sector_at c at ≡ sector_at cells.base at

abbrev pub cells_of : MemoryDisk → Cells
cells_of disk = cells_after disk.start disk.calls

-- what the sectors hold
abbrev pub contents : MemoryDisk → Image
contents disk = cells_now (cells_of disk)

-- what a crash now may leave
abbrev pub MayBeLeft : MemoryDisk → Image → Type 0
MayBeLeft disk c = MayLeave disk.sectors (cells_of disk) c

-- what a crash might have left after so many calls, or after some number of the later ones
pub record WasLeft (sectors : ℕ) (start : Image) (calls : List Call) (since : ℕ) (c : Image) : Type 0 where
  pub done : ℕ
  pub no_earlier : since ≤ done
  pub no_later : done ≤ length calls
  pub left : MayLeave sectors (cells_after start (take done calls)) c

-- the state of a disk of so many sectors that held this, after these calls and faults
abbrev pub told_by : (sectors : ℕ) (start : Image) (calls : List Call) (write_faults read_faults : ℕ) → DiskState
told_by sectors start calls write_faults read_faults = record {
  sectors = sectors;
  seen = Some (cells_now (cells_after start calls));
  may_leave = MayLeave sectors (cells_after start calls);
  clock = length calls;
  left_since = WasLeft sectors start calls;
  write_faults = write_faults;
  read_faults = read_faults;
}

abbrev pub state_of : MemoryDisk → DiskState
state_of disk = told_by disk.sectors disk.start disk.calls disk.write_faults disk.read_faults

-- a disk of so many sectors that hold this, with nothing pending, nothing to fail, and no calls made
abbrev pub new_disk : (sectors : ℕ) → Image → MemoryDisk
new_disk sectors start = record {
  sectors = sectors;
  start = start;
  calls = [];
  plan = record { call = None; from = None; reads = None };
  made = 0;
  meters = 0;
  write_faults = 0;
  read_faults = 0;
  starved = 0;
}

-- these sectors, and zeros behind them up to so many
abbrev pub padded : (sectors : ℕ) → Image → Image
padded sectors image = image ++ replicate (sectors - length image) zero_sector

-- a recorded write goes to a sector that the disk has
abbrev pub IsWithin : (sectors : ℕ) → Call → Type 0
IsWithin sectors (Write write) = write.at < sectors
IsWithin sectors Barrier = ⊤

-- what a disk in memory of so many sectors keeps agrees: the record of its calls leads from what it held at first to what it holds
pub record IsKept (sectors : ℕ) (start : Image) (calls : List Call) (cells : Image) : Type 0 where
  pub fits : length start ≤ sectors
  pub now : cells_now (cells_after (padded sectors start) calls) ≡ cells
  pub whole : IsImage sectors cells
  pub base : IsImage sectors (cells_after (padded sectors start) calls).base
  pub within : All (IsWithin sectors) calls

-- whether the next call of `meter`, `write` or `barrier` is to fail
abbrev pub next_fails : MemoryDisk → Bool
next_fails disk = fails_call disk.plan (one_more disk.made)

-- after a call that was told to fail
abbrev pub refused : MemoryDisk → MemoryDisk
refused disk = record disk { made = one_more disk.made; write_faults = one_more disk.write_faults }

-- after a call that found no memory
abbrev pub without_memory : MemoryDisk → MemoryDisk
without_memory disk = record (refused disk) { starved = one_more disk.starved }

-- after a call that was done and recorded
abbrev pub recorded : MemoryDisk → Call → MemoryDisk
recorded disk call = record disk { made = one_more disk.made; calls = disk.calls ++ call ∷ [] }

-- after a meter was given out
abbrev pub metered : MemoryDisk → MemoryDisk
metered disk = record disk { made = one_more disk.made; meters = one_more disk.meters }

-- a call fails where it is told to, or for want of memory, and else does what it is for
abbrev pub Answers : {T E : Type 0} → (old new : MemoryDisk) → Result T E → (done : MemoryDisk) → Type 0
Answers old new result done =
    MatchResult result (λ _. (next_fails old ≡ false) × (new ≡ done))
    (λ _. new ≡ (if next_fails old then refused old else without_memory old))

-- how a crash treats a pending sector: 0 keeps what it held at the last barrier, 1 what was written, 2 sets each byte to 165, and
-- 3 takes these three in turn, by the sector's number
abbrev pub choice_at : (choice at : ℕ) → ℕ
choice_at choice at = if choice == 3 then at % 3 else choice

abbrev pub crash_sector : (choice : ℕ) (now image : Image) → SectorWrite → Image
crash_sector choice now image write =
    if choice_at choice write.at == 0 then image
    else (if choice_at choice write.at == 1 then write_sector image (record write { bytes = sector_at now write.at })
    else write_sector image (record write { bytes = replicate sector_bytes 165 }))

-- what a crash leaves by this choice
abbrev pub crash_image : (choice : ℕ) → Cells → Image
crash_image choice cells = fold (crash_sector choice (cells_now cells)) cells.base cells.pending
