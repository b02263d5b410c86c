-- A stage of a session: closing a group, of whatever kind, before it is sealed.
use Rattle.std.specs.Prelude.{◌≡◌, ℕ, not, List, [], length, map, Option, None}
use Rattle.std.specs.List.{count_by}
use Rattle.ddt_entry.specs.declared.entry.Change.{Change}
use Rattle.ddt_entry.specs.declared.entry.Change.TheVariants.{Gone}
use Rattle.ddt_entry.specs.declared.entry.Entry.{Entry}
use Rattle.disk_model.specs.Images.{Image}
use Rattle.pool_model.specs.declared.commands.Item.{Item}
use Rattle.pool_model.specs.declared.commands.Mode.{Mode}
use Rattle.pool_model.specs.declared.notes.Outcome.{Outcome}
use Rattle.pool_model.specs.Plain.{GroupItem, of_group, Told}
use Rattle.pool_model.specs.Mirrors.{part_of}
use Rattle.pool_model.specs.Pool.{Pool}
use Rattle.pool_model.specs.Logs.{logs_after}
use Rattle.pool_model.specs.Space.{need, space_lacking}
use Rattle.pool_model.specs.Table.{flush_limit}
use Rattle.pool_model.specs.Group.{Standing, Rules, AreFresh, IsFree}
use Rattle.pool_model.specs.Run.{AnswersGroup, changes_of_group, given_by, sealed_standing, taken_in, writes_of_group}
use Rattle.pool_model.specs.Waiting.{WaitingStays}
use Rattle.table_state.specs.Closing.{PlainClosed, CanSync, pool_with, table_after}
use Rattle.table_state.specs.Pools.{Held}
use Rattle.lane_run.specs.Groups.{KeepsWaiting}
use Rattle.session.specs.StageItems.{HasNoClashIn}

-- an item that is a group
abbrev pub IsGroup : Item → Type 0
IsGroup item = (group : GroupItem) × (part_of item ≡ of_group group)

-- how a group of so many changes and writes has no room, by what is kept in memory
abbrev pub lacks : Held → (changes writes : ℕ) → Option Outcome
lacks held changes writes =
    space_lacking (count_by not held.used) (need (length held.pages) (flush_limit held.table) changes writes)

-- and a group of some kind
abbrev pub lacks_room : Held → Pool → GroupItem → Option Outcome
lacks_room held pool item = lacks held (changes_of_group item pool) (writes_of_group item)

-- a group was closed from this standing: it has room, its note is the run's, and it took so many homes; its fresh places were free, what it
-- leaves can be synced, and after that sync the run's table stands with its logs, and, where no two contents clash, the run's pool, and no
-- home begins to wait
pub record ClosesFrom (rules : Rules) (image : Image) (held : Held) (s : Standing) (item : GroupItem) (told : Told) (taken : ℕ)
    (closed : PlainClosed) : Type 0 where
  pub room : lacks_room held s.pool item ≡ None
  pub taken_is : taken ≡ taken_in item s.pool
  pub answers : AnswersGroup rules s item told
  pub fresh : AreFresh (IsFree s) (given_by rules s item told)
  pub can_sync : CanSync image held closed
  pub table_is : table_after held closed ≡ (sealed_standing rules s item told []).table
  pub logs_are : logs_after closed.log held.table held.logs ≡ (sealed_standing rules s item told []).logs
  pub pool_is : HasNoClashIn rules.keying.key_of s (of_group item)
      → pool_with image held closed ≡ (sealed_standing rules s item told []).pool
  pub waiting : KeepsWaiting image held (sealed_standing rules s item told [])
  pub waiting_stays : WaitingStays s (sealed_standing rules s item told [])

-- what a group leaves that writes no block and changes no slot: these changes of the table, and these settings
abbrev pub unblocked : List Change → List Mode → Option ℕ → PlainClosed
unblocked log modes quota = record { log = log; slots = []; contents = []; modes = modes; quota = quota }

-- that these homes are gone
abbrev pub gone_of : List Entry → List Change
gone_of taken = map (λ entry. Gone entry.key) taken
