-- What a crash may leave of a session: what stood on the disk when it began, or what stands after one of the groups that it began to write.
use Rattle.std.specs.Prelude.{◌≡◌, ◌⊎◌, ℕ, Bool, true, List}
use Rattle.disk_model.specs.Images.{Image}
use Rattle.disk_model.specs.Crashes.{DiskState, LeavesOnly}
use Rattle.pool_model.specs.Group.{Standing}
use Rattle.pool_model.specs.Crash.{AnyStands, FirstStands, StandsAt}
use Rattle.table_state.specs.Flat.{HasNoPool}
use Rattle.table_state.specs.Holding.{Holds}

-- the image as it was, or no pool before and none now
abbrev pub SameFound : (image c : Image) → Type 0
SameFound image c = (c ≡ image) ⊎ (HasNoPool image × HasNoPool c)

-- what stood at entry, or one of these
abbrev pub MayHold : (tag : ℕ) → (image : Image) → List Standing → Image → Type 0
MayHold tag image stands c = SameFound image c ⊎ AnyStands (Holds tag c) stands

-- at return: what stood at entry where the session has sealed and imported nothing, and else the one of the group that it sealed or imported
-- last; where a write failed it may be the one that follows
abbrev pub LeftAtReturn : (tag : ℕ) → (image : Image) → List Standing → (failed : Bool) → (sealed : ℕ) → Image → Type 0
LeftAtReturn tag image stands failed sealed c =
    ((sealed ≡ 0) × (SameFound image c ⊎ ((failed ≡ true) × FirstStands (Holds tag c) stands)))
    ⊎ StandsAt (Holds tag c) failed sealed stands

-- the crash clause of a session over these, one after another
pub record Crashes (before after : DiskState) (tag : ℕ) (image : Image) (stands : List Standing) (failed : Bool) (sealed : ℕ) : Type 0 where
  pub any_moment : LeavesOnly before after (MayHold tag image stands)
  pub at_return : (c : Image) → after.may_leave c → LeftAtReturn tag image stands failed sealed c
