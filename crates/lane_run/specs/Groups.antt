-- What running a group comes to, and what the closed group makes of it.
use Rattle.std.specs.Prelude.{◌≡◌, ℕ, ◌<◌, ◌≤◌, true, List, [], take, slice_index_or, Some}
use Rattle.std.specs.List.{AllByRecursion}
use Rattle.disk_model.specs.Images.{Image, sector_at}
use Rattle.ddt_entry.specs.declared.key.Key.{Key}
use Rattle.ddt_entry.specs.declared.entry.Home.{Home}
use Rattle.pool_model.specs.Plain.{Task, lanes, Told}
use Rattle.pool_model.specs.Mirrors.{WritesBlock}
use Rattle.pool_model.specs.Table.{found}
use Rattle.pool_model.specs.Clash.{HasNoOther, group_trusted, contents_in}
use Rattle.pool_model.specs.Group.{Standing, Rules, AreFresh, IsFree}
use Rattle.pool_model.specs.Run.{AnswersAsRun, noted_course, sealed_standing}
use Rattle.pool_model.specs.Waiting.{WaitingStays}
use Rattle.table_state.specs.Closing.{PlainClosed, CanSync, pool_with, table_after}
use Rattle.table_state.specs.Pools.{Held}
use Rattle.pool_model.specs.Logs.{logs_after}

-- for now a group has writes of lane 0, each of a block of 1 to 4,096 bytes
pub record IsFirstWrite (task : Task) : Type 0 where
  pub lane : task.lane ≡ 0
  pub slot : task.slot < 65536
  pub block : WritesBlock task.act

-- no content that the group writes in a lane whose mode is on has another content of its key beside it
abbrev pub HasNoClash : (List ℕ → Key) → Standing → (moment : ℕ) → List Task → Type 0
HasNoClash key_of s moment tasks = AllByRecursion (HasNoOther key_of s (contents_in tasks)) (group_trusted s.pool (lanes moment tasks))

-- a home that waits after the group has its block where it was: at a place that the image's pool uses, with the same bytes
abbrev pub KeepsWaiting : Image → Held → (after : Standing) → Type 0
KeepsWaiting image held after =
    (key : Key) (home : Home) → found after.table key ≡ Some home → home.count ≡ 0
    → (slice_index_or held.used home.place true ≡ true) × (32 ≤ home.place)
    × (take key.len (after.blocks home.place) ≡ take key.len (sector_at image home.place))

-- the group was run from this standing: its note is the run's, its fresh places were free, what it leaves can be synced, and after that
-- sync the run's table stands with its logs, and, where no two contents clash, the run's pool, and no home begins to wait
pub record IsRunFrom (rules : Rules) (image : Image) (held : Held) (s : Standing) (moment : ℕ) (tasks : List Task) (told : Told)
    (closed : PlainClosed) : Type 0 where
  pub answers : AnswersAsRun rules s moment tasks told
  pub fresh : AreFresh (IsFree s) (noted_course rules s moment tasks told).given
  pub can_sync : CanSync image held closed
  pub table_is : table_after held closed ≡ (sealed_standing rules s (lanes moment tasks) told []).table
  pub logs_are : logs_after closed.log held.table held.logs ≡ (sealed_standing rules s (lanes moment tasks) told []).logs
  pub pool_is : HasNoClash rules.keying.key_of s moment tasks
      → pool_with image held closed ≡ (sealed_standing rules s (lanes moment tasks) told []).pool
  pub waiting : KeepsWaiting image held (sealed_standing rules s (lanes moment tasks) told [])
  pub waiting_stays : WaitingStays s (sealed_standing rules s (lanes moment tasks) told [])
