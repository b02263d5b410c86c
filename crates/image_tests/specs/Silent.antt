-- What a disk in memory is that tells nothing of its contents.
use Rattle.std.specs.Prelude.{None}
use Rattle.disk_model.specs.Crashes.{DiskState}
use Rattle.disk_model.specs.DiskLaws.{IsDisk}
use Rattle.disk_model.specs.Memory.{MemoryDisk, state_of}
use Rattle.disk_model.specs.MemoryLaws.{is_disk}

abbrev pub silent_state : MemoryDisk → DiskState
silent_state disk = record (state_of disk) { seen = None }

-- it is a disk at each moment
pub silent_is_disk : (disk : MemoryDisk) → IsDisk (silent_state disk)
silent_is_disk disk = record {
  counts_now = (is_disk disk).counts_now;
  only_now = (is_disk disk).only_now;
  leaves_images = (is_disk disk).leaves_images;
}
