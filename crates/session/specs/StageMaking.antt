-- A stage of a session: making a new pool, and why none was made.
use Rattle.std.specs.Prelude.{◌≡◌, ◌⊎◌, ℕ, true, List, [], ◌∷◌, length, Some, Result, Ok, Err, IfSome}
use Rattle.io_model.specs.Outside.{Rose}
use Rattle.disk_model.specs.Images.{Image}
use Rattle.disk_model.specs.Crashes.{DiskState, LeavesOnly, NothingPending}
use Rattle.pool_model.specs.Group.{Standing}
use Rattle.pool_model.specs.Crash.{FirstStands}
use Rattle.table_state.specs.Flat.{HasNoPool}
use Rattle.table_state.specs.Holding.{Holds}
use Rattle.table_state.specs.Pools.{Held}
use Rattle.session.specs.Crashing.{SameFound, MayHold}
use Rattle.session.specs.Entries.{IsLawfulSize}
use Rattle.session.specs.StageEntries.{IsOver}
use Rattle.session.specs.Staying.{StaysUncreated}
use Rattle.session.specs.Looking.{MayBeCreated, new_on}
use Rattle.session.specs.Running.{HasNewest, is_write_fault}
use Rattle.session.specs.declared.status.Status.{Status}
use Rattle.session.specs.declared.status.Status.TheVariants.{ReadFault, WriteFault, OutOfMemory, PoolExists, BadSize}

-- the new pool stands: it is empty, has the disk's sectors, and is the one in memory
pub record IsNewPool (old new : DiskState) (tag : ℕ) (image : Image) (held : Held) : Type 0 where
  pub none : HasNoPool image
  pub lawful : IsLawfulSize (length image)
  pub tag_is : held.tag ≡ tag
  pub over : IsOver new held (new_on image)
  pub crash : NothingPending (Some image) old.may_leave → LeavesOnly old new (MayHold tag image (new_on image ∷ []))

-- a crash leaves what stood, or the new pool where it was begun; at return that only where a write failed
pub record MakingCrashes (old new : DiskState) (tag : ℕ) (image : Image) (status : Status) : Type 0 where
  pub stands : List Standing
  pub may_stand : MayBeCreated image stands
  pub any_moment : LeavesOnly old new (MayHold tag image stands)
  pub at_return : (c : Image) → new.may_leave c
      → SameFound image c ⊎ ((is_write_fault status ≡ true) × FirstStands (Holds tag c) stands)

-- no pool was made
pub record IsNotMade (old new : DiskState) (tag : ℕ) (image : Image) (status : Status) : Type 0 where
  pub stays : StaysUncreated status tag image old new
  pub crash : NothingPending (Some image) old.may_leave → MakingCrashes old new tag image status

-- what making a pool came to, by its answer
abbrev pub Makes : (old new : DiskState) → (tag : ℕ) → Image → Result Held Status → Type 0
Makes old new tag image (Ok held) = IsNewPool old new tag image held
Makes old new tag image (Err status) = IsNotMade old new tag image status

-- why no pool was made; no other status comes
abbrev pub MakeCause : Status → (old new : DiskState) → Type 0
MakeCause ReadFault old new = IsLawfulSize old.sectors × Rose old.read_faults new.read_faults
MakeCause WriteFault old new = IsLawfulSize old.sectors × Rose old.write_faults new.write_faults
MakeCause OutOfMemory old new = IsLawfulSize old.sectors
MakeCause (PoolExists group) old new = IsLawfulSize old.sectors × IfSome old.seen (HasNewest group)
MakeCause (BadSize sectors) old new = (sectors ≡ old.sectors) × (IsLawfulSize old.sectors → ⊥)
MakeCause _ old new = ⊥
