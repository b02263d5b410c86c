-- What a call makes of the sectors of a disk, and what holds of a disk at each moment: the words of its laws.
use Rattle.std.specs.Prelude.{◌≡◌, ◌≢◌, ◌<◌, ⊤, ℕ, List, length, replicate, slice_set, Option, Some, None, ◌≤◌, ◌⊎◌}
use Rattle.disk_model.specs.Images.{Image, sector_at}
use Rattle.disk_model.specs.Crashes.{DiskState}

-- how many bytes a sector has
abbrev pub sector_bytes : ℕ
sector_bytes = 4096

-- a sector of zeros
abbrev pub zero_sector : List ℕ
zero_sector = replicate sector_bytes 0

-- so many whole sectors
pub record IsImage (sectors : ℕ) (image : Image) : Type 0 where
  pub count : length image ≡ sectors
  pub whole : (at : ℕ) → at < length image → length (sector_at image at) ≡ sector_bytes

-- what a write that a crash cut short may leave: any bytes in its sector, and every other sector as before
pub record Torn (at : ℕ) (old new : Image) : Type 0 where
  pub count : length new ≡ length old
  pub others : (i : ℕ) → i ≢ at → sector_at new i ≡ sector_at old i
  pub whole : at < length old → length (sector_at new at) ≡ sector_bytes

-- told contents stay as they are
abbrev pub Stays : Option Image → Option Image → Type 0
Stays None new = ⊤
Stays (Some image) new = new ≡ Some image

-- told contents have these bytes in this sector now, and are else as before
abbrev pub Holds : Option Image → Option Image → (at : ℕ) → List ℕ → Type 0
Holds None new at bytes = ⊤
Holds (Some image) new at bytes = new ≡ Some (slice_set image at bytes)

-- told contents have at most this sector changed
abbrev pub MayTouch : Option Image → Option Image → (at : ℕ) → Type 0
MayTouch None new at = ⊤
MayTouch (Some image) new at = (touched : Image) × (new ≡ Some touched) × Torn at image touched

-- a sector of told contents has these bytes
abbrev pub Gives : Option Image → (at : ℕ) → List ℕ → Type 0
Gives None at bytes = ⊤
Gives (Some image) at bytes = sector_at image at ≡ bytes

-- told contents are so many whole sectors
abbrev pub TellsImage : (sectors : ℕ) → Option Image → Type 0
TellsImage sectors None = ⊤
TellsImage sectors (Some image) = IsImage sectors image

-- what a crash may leave, as a property of images
abbrev pub Outcomes : Type 1
Outcomes = Image → Type 0

-- each new outcome of a crash is an old outcome after a step
abbrev pub Follows : (Image → Image → Type 0) → (Image → Type 0) → (Image → Type 0) → Type 0
Follows step old new = (c : Image) → new c → (d : Image) × old d × step d c

-- a crash may leave the same images as before
pub record SameOutcomes (old new : Image → Type 0) : Type 0 where
  pub no_more : (c : Image) → new c → old c
  pub no_fewer : (c : Image) → old c → new c

-- Time goes on: a crash since t might have left what it might have left before, or what it may leave now.
pub record Elapses (before now : DiskState) : Type 0 where
  pub later : before.clock ≤ now.clock
  pub nothing_else : (t : ℕ) (c : Image) → t ≤ before.clock → now.left_since t c → before.left_since t c ⊎ now.may_leave c
  pub keeps : (t : ℕ) (c : Image) → t ≤ before.clock → before.left_since t c → now.left_since t c

-- what holds of a disk at each moment
pub record IsDisk (disk : DiskState) : Type 0 where
  -- this moment is one of those since an earlier one
  pub counts_now : (t : ℕ) (c : Image) → t ≤ disk.clock → disk.may_leave c → disk.left_since t c
  -- since this moment there is no other
  pub only_now : (c : Image) → disk.left_since disk.clock c → disk.may_leave c
  -- a crash leaves so many whole sectors
  pub leaves_images : (c : Image) → disk.may_leave c → IsImage disk.sectors c
