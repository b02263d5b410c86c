-- A group of lanes' commands was closed as it was run; and which group an item is.
use Rattle.std.proofs.Common.{◌≡◌, ◌∙◌, ℕ, List, None, refl, sym, ap}
use Rattle.ddt_entry.specs.Keys.{Keying}
use Rattle.disk_model.specs.Images.{Image}
use Rattle.pool_model.specs.declared.commands.Item.{Item}
use Rattle.pool_model.specs.Plain.{GroupItem, Task, lanes, of_group, Told}
use Rattle.pool_model.specs.Mirrors.{part_of}
use Rattle.pool_model.specs.Group.{Standing, lanes_in_turn}
use Rattle.pool_model.specs.Space.{changes_in, writes_in}
use Rattle.table_state.specs.Closing.{PlainClosed}
use Rattle.table_state.specs.Pools.{Held}
use Rattle.lane_run.specs.Groups.{IsRunFrom}
use Rattle.session.specs.StageClosing.{ClosesFrom, lacks}

pub closes_lanes : (keying : Keying) (image : Image) (held : Held) (s : Standing) (moment : ℕ) (tasks : List Task) (told : Told)
    (closed : PlainClosed) → IsRunFrom (lanes_in_turn keying) image held s moment tasks told closed
    → lacks held (changes_in tasks) (writes_in tasks) ≡ None
    → ClosesFrom (lanes_in_turn keying) image held s (lanes moment tasks) told 0 closed
closes_lanes keying image held s moment tasks told closed run room = record {
  room = room;
  taken_is = refl;
  answers = run.answers;
  fresh = run.fresh;
  can_sync = run.can_sync;
  table_is = run.table_is;
  logs_are = run.logs_are;
  pool_is = run.pool_is;
  waiting = run.waiting;
  waiting_stays = run.waiting_stays;
}

same_group : (group other : GroupItem) → of_group group ≡ of_group other → group ≡ other
same_group group other same = cc same

-- an item that is known is this group
pub group_of : (item known : Item) (group other : GroupItem) → item ≡ known → part_of known ≡ of_group group
    → part_of item ≡ of_group other → group ≡ other
group_of item known group other is known_is item_is =
    same_group group other (sym known_is ∙ sym (ap (λ (i : Item). part_of i) is) ∙ item_is)
