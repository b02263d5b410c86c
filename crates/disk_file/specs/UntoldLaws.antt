-- That what a disk in a file tells of crashes agrees: it excludes nothing.
use Rattle.std.specs.Prelude.{◌≡◌, None, Option}
use Rattle.std.proofs.Common.{refl}
use Rattle.disk_model.specs.Images.{Image}
use Rattle.disk_model.specs.DiskLaws.{IsDisk}
use Rattle.disk_file.specs.Untold.{Counts, untold}

-- what it tells is a disk's at each moment
pub is_disk : (disk : Counts) → IsDisk (untold disk)
is_disk disk = record {
  counts_now = λ t c earlier left. left;
  only_now = λ c left. left;
  leaves_images = λ c left. left;
}

-- no disk in a file tells its contents
pub never_told : (disk other : Counts) → (untold disk).seen ≡ None → (untold other).seen ≡ None
never_told disk other untold = refl
