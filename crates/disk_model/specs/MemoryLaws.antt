-- That what a disk in memory tells of crashes at earlier moments agrees with what it tells of a crash now.
use Rattle.std.specs.Prelude.{◌≡◌, ◌≤◌, ℕ, List, length, Some, None}
use Rattle.std.proofs.Common.{subst, sym, arith}
use Rattle.std.proofs.lemmas.List.{take_all}
use Rattle.std.proofs.lemmas.Option.{none-some}
use Rattle.disk_model.specs.Images.{Image}
use Rattle.disk_model.specs.DiskLaws.{IsDisk}
use Rattle.disk_model.specs.Memory.{MemoryDisk, MayLeave, MayBeLeft, WasLeft, cells_after, state_of}
use Rattle.disk_model.specs.declared.call.Call.{Call}

-- this moment is one of those since an earlier one
left_now : (disk : MemoryDisk) (since : ℕ) (c : Image) → since ≤ length disk.calls → MayBeLeft disk c
    → WasLeft disk.sectors disk.start disk.calls since c
left_now disk since c earlier left = record {
  done = length disk.calls;
  no_earlier = earlier;
  no_later = omega arith;
  left = subst (λ (calls : List Call). MayLeave disk.sectors (cells_after disk.start calls) c)
      (sym (take_all (length disk.calls) disk.calls (omega arith))) left;
}

-- since this moment there is no other
no_other : (disk : MemoryDisk) (c : Image) → WasLeft disk.sectors disk.start disk.calls (length disk.calls) c → MayBeLeft disk c
no_other disk c was =
    subst (λ (calls : List Call). MayLeave disk.sectors (cells_after disk.start calls) c)
    (take_all was.done disk.calls (omega (arith, was.no_earlier))) was.left

-- what it tells is a disk's at each moment
pub is_disk : (disk : MemoryDisk) → IsDisk (state_of disk)
is_disk disk = record {
  counts_now = left_now disk;
  only_now = no_other disk;
  leaves_images = λ c left. left.image;
}

-- contents that are told aren't untold
pub always_told : (image other : Image) → Some image ≡ None → Some other ≡ None
always_told image other untold = absurd (none-some image (sym untold))
