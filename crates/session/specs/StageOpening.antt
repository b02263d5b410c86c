-- A stage of a session: opening its pool, from which its items begin, or why they don't.
use Rattle.std.specs.Prelude.{◌≡◌, ℕ, Bool, true, false, [], ◌∷◌, Some, None, Result, Ok, Err}
use Rattle.disk_model.specs.Images.{Image}
use Rattle.disk_model.specs.Crashes.{DiskState, LeavesOnly, NothingPending}
use Rattle.pool_model.specs.Group.{Standing}
use Rattle.table_state.specs.Pools.{Held}
use Rattle.session.specs.Crashing.{MayHold}
use Rattle.session.specs.Devices.{between}
use Rattle.session.specs.Entries.{BeginsAt}
use Rattle.session.specs.Origins.{Origin, origin, at_end, of_words, of_file, of_size, of_pool, of_image, of_disk, of_memory, of_output}
use Rattle.session.specs.StageEntries.{IsOver}
use Rattle.session.specs.Running.{CrashesEarly, HasCauseFor, imported_by}
use Rattle.session.specs.Staying.{StaysSo}
use Rattle.session.specs.declared.status.Status.{Status}
use Rattle.session.specs.declared.words.Word.{Word}

-- the pool is open: the items begin at what stands there, and the pool in memory is over it
pub record IsOpened (old new : DiskState) (word : Word) (tag : ℕ) (image : Image) (held : Held) : Type 0 where
  pub s : Standing
  pub begins : BeginsAt word tag image s
  pub over : IsOver new held s
  pub crash : NothingPending (Some image) old.may_leave → LeavesOnly old new (MayHold tag image (s ∷ []))

-- no pool was opened
pub record IsNotOpened (old new : DiskState) (word : Word) (tag : ℕ) (image : Image) (sealed : ℕ) (status : Status) : Type 0 where
  pub stays : StaysSo status word tag image old new
  pub crash : NothingPending (Some image) old.may_leave → CrashesEarly old new word tag image sealed status

-- what opening a pool came to, by its answer and by the newest group that was imported or sealed
abbrev pub Opens : (old new : DiskState) → Word → (tag : ℕ) → Image → (sealed : ℕ) → Result Held Status → Type 0
Opens old new word tag image sealed (Ok held) = IsOpened old new word tag image held
Opens old new word tag image sealed (Err status) = IsNotOpened old new word tag image sealed status

-- whether opening a pool may end a session so
abbrev pub may_end_opening : Origin → Bool
may_end_opening at_end = false
may_end_opening of_words = false
may_end_opening of_file = false
may_end_opening of_size = true
may_end_opening of_pool = true
may_end_opening of_image = true
may_end_opening of_disk = true
may_end_opening of_memory = true
may_end_opening of_output = false

-- why opening a pool ended a session, and which group was imported by then
pub record EndsOpening (status : Status) (word : Word) (tag : ℕ) (old new : DiskState) (sealed : ℕ) : Type 0 where
  pub may : may_end_opening (origin status) ≡ true
  pub cause : HasCauseFor status word tag (between old new None None 0 0) 0
  pub sealed_is : sealed ≡ imported_by status
