-- A stage of a session: finding the pool that is on the disk, and why none was found.
use Rattle.std.specs.Prelude.{◌≡◌, ℕ, ⊤, Some, Result, Ok, Err, IfSome}
use Rattle.io_model.specs.Outside.{Rose}
use Rattle.disk_model.specs.Images.{Image}
use Rattle.disk_model.specs.Crashes.{DiskState, LeavesOnly, NothingPending}
use Rattle.pool_model.specs.Pool.{Pool}
use Rattle.pool_model.specs.Table.{TableState}
use Rattle.table_state.specs.Flat.{HasNoPool, IsDamaged}
use Rattle.table_state.specs.Pools.{Held, IsHeld}
use Rattle.session.specs.declared.status.Status.{Status}
use Rattle.session.specs.declared.status.Status.TheVariants.{ReadFault, WriteFault, NoPool, Damaged, OutOfMemory}

-- nothing of what stands was changed, and where nothing was pending, at no moment; a crash leaves no more than before
pub record IsLeft (old new : DiskState) (image : Image) : Type 0 where
  pub told : new.seen ≡ Some image
  pub any_moment : NothingPending (Some image) old.may_leave → LeavesOnly old new (λ c. c ≡ image)
  pub no_more : (c : Image) → new.may_leave c → old.may_leave c

-- the pool in memory is the one that the image stands for, with nothing pending
pub record IsThere (disk : DiskState) (tag : ℕ) (image : Image) (held : Held) : Type 0 where
  pub pool : Pool
  pub table : TableState
  pub tag_is : held.tag ≡ tag
  pub is_held : IsHeld image held pool table
  pub quiet : NothingPending (Some image) disk.may_leave

-- a pool that was found is there
abbrev pub Finds : DiskState → (tag : ℕ) → Image → Result Held Status → Type 0
Finds disk tag image (Ok held) = IsThere disk tag image held
Finds disk tag image (Err status) = ⊤

-- why no pool was found; no other status comes
abbrev pub FindCause : Status → (tag : ℕ) → (old new : DiskState) → Type 0
FindCause ReadFault tag old new = Rose old.read_faults new.read_faults
FindCause WriteFault tag old new = Rose old.write_faults new.write_faults
FindCause OutOfMemory tag old new = ⊤
FindCause NoPool tag old new = IfSome old.seen HasNoPool
FindCause (Damaged sector) tag old new = IfSome old.seen (IsDamaged tag)
FindCause _ tag old new = ⊥
