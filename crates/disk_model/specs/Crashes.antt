-- What a crash may leave, now or at some moment of a run.
use Rattle.std.specs.Prelude.{◌≡◌, ◌≤◌, ◌⊎◌, ⊤, ℕ, Option, Some, None}
use Rattle.disk_model.specs.Images.{Image}

-- nothing is pending: a crash leaves what a read gives, and nothing else
abbrev pub NothingPending : Option Image → (Image → Type 0) → Type 0
NothingPending None outcomes = ⊤
NothingPending (Some image) outcomes = outcomes image × ((c : Image) → outcomes c → c ≡ image)

-- a disk at a moment
pub record DiskState : Type 1 where
  -- how many sectors there are
  pub sectors : ℕ
  -- what a read gives, where the disk tells it
  pub seen : Option Image
  -- what a crash now may leave
  pub may_leave : Image → Type 0
  -- the moment, as a number that doesn't fall
  pub clock : ℕ
  -- what a crash at some moment since that one might have left, during a call or between two
  pub left_since : ℕ → Image → Type 0
  -- how many calls of `meter`, `write` and `barrier` failed; it stops at 2^64 - 1
  pub write_faults : ℕ
  -- how many reads failed, as far as their meters were retired; it stops at 2^64 - 1
  pub read_faults : ℕ

-- A crash at any moment since old leaves an image that has P.
pub record LeavesOnly (old new : DiskState) (P : Image → Type 0) : Type 0 where
  pub later : old.clock ≤ new.clock
  pub each : (c : Image) → new.left_since old.clock c → P c
  -- for a run that began earlier
  pub before : (t : ℕ) (c : Image) → t ≤ old.clock → new.left_since t c → old.left_since t c ⊎ P c
