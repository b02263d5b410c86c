-- Between the stages of a session: the pool in memory over its disk.
use Rattle.std.specs.Prelude.{◌≡◌, ◌≤◌, ℕ, ⊤, Option, Some, None}
use Rattle.disk_model.specs.Images.{Image}
use Rattle.disk_model.specs.Crashes.{DiskState, NothingPending}
use Rattle.pool_model.specs.Pool.{Pool}
use Rattle.pool_model.specs.Table.{TableState}
use Rattle.pool_model.specs.Group.{Standing}
use Rattle.table_state.specs.Pools.{Held, IsHeld}
use Rattle.table_state.specs.Over.{StandsOver}
use Rattle.table_state.specs.Sound.{IsSound}

-- told contents are those of some pool, which the pool in memory stands for
abbrev pub StandsForTold : Option Image → Held → Type 0
StandsForTold None held = ⊤
StandsForTold (Some image) held = (pool : Pool) × (table : TableState) × IsHeld image held pool table

-- a pool in memory that is sound, for this key function, and is what the disk tells
pub record IsOnDisk (disk : DiskState) (tag : ℕ) (held : Held) : Type 0 where
  pub sound : IsSound held
  pub there : held.sectors ≤ disk.sectors
  pub tag_is : held.tag ≡ tag
  pub told : StandsForTold disk.seen held

-- told contents, with nothing pending, over which the pool in memory is what stands
pub record IsOver (disk : DiskState) (held : Held) (s : Standing) : Type 0 where
  pub image : Image
  pub told : disk.seen ≡ Some image
  pub quiet : NothingPending (Some image) disk.may_leave
  pub stands : StandsOver image held s
