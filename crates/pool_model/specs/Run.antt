-- A run of items: one step an item, with what stood before it and what stands after it; and when a session's notes are those of a run.
use Rattle.std.specs.Prelude.{◌≡◌, ⊤, ℕ, ◌+◌, List, [], ◌∷◌, length, map, Option, Some, None, unwrap_or, slice_set}
use Rattle.std.specs.List.{filter_map}
use Rattle.pool_model.specs.declared.notes.Kind.{Kind}
use Rattle.pool_model.specs.declared.notes.Kind.TheVariants.{Lanes, Prune, Settings}
use Rattle.pool_model.specs.declared.notes.Outcome.{Outcome}
use Rattle.pool_model.specs.declared.notes.Outcome.TheVariants.{Sealed, NoSpace, Cut}
use Rattle.pool_model.specs.Pool.{Pool, empty_pool}
use Rattle.pool_model.specs.Table.{empty_table, sync_table, flush_limit}
use Rattle.pool_model.specs.Logs.{empty_logs, logs_after}
use Rattle.pool_model.specs.Plain.{Task, GroupItem, lanes, prune, quota, set_mode, Part, create, of_group, stat, «import», Told}
use Rattle.pool_model.specs.Command.{Course}
use Rattle.pool_model.specs.Prune.{after_prune, prune_changes, pruned}
use Rattle.pool_model.specs.Space.{need, free_count, space_lacking, changes_in, writes_in, image_pages}
use Rattle.pool_model.specs.Group.{Standing, Rules, opening_of, course_of, fresh_of, after_lanes, HasEachLane, Agrees, AreFresh, IsFree}

-- the empty pool of a new image on so many sectors
abbrev pub first_standing : (sectors : ℕ) → Standing
first_standing sectors =
    record { pool = empty_pool; table = empty_table; logs = empty_logs; blocks = λ place. []; sectors = sectors; pages = [] }

-- ---- One group

abbrev pub kind_of : GroupItem → Kind
kind_of (lanes moment tasks) = Lanes
kind_of (prune moment rule) = Prune
kind_of (quota limit) = Settings
kind_of (set_mode lane mode) = Settings

-- the course of a group of lanes' commands by its note
abbrev pub noted_course : Rules → Standing → (moment : ℕ) → List Task → Told → Course
noted_course rules s moment tasks told =
    course_of (opening_of rules.keying.key_of s moment) s.pool (fresh_of told.lanes) (rules.order tasks told)

-- a settings group is a group without changes
abbrev pub after_settings : Standing → Pool → (pages : List ℕ) → Standing
after_settings s pool pages =
    record s {
      pool = record pool { group = s.pool.group + 1 };
      table = sync_table [] s.table;
      logs = logs_after [] s.table s.logs;
      pages = pages;
    }

-- what stands after a group that was sealed, whose image has these pages
abbrev pub sealed_standing : Rules → Standing → GroupItem → Told → (pages : List ℕ) → Standing
sealed_standing rules s (lanes moment tasks) told pages =
    after_lanes (opening_of rules.keying.key_of s moment) s (noted_course rules s moment tasks told) pages
sealed_standing rules s (prune moment rule) told pages =
    record s {
      pool = record (after_prune s.pool rule moment) { group = s.pool.group + 1 };
      table = sync_table (prune_changes s.pool rule moment) s.table;
      logs = logs_after (prune_changes s.pool rule moment) s.table s.logs;
      pages = pages;
    }
sealed_standing rules s (quota limit) told pages = after_settings s (record s.pool { quota = limit }) pages
sealed_standing rules s (set_mode lane mode) told pages =
    after_settings s (record s.pool { modes = slice_set s.pool.modes lane mode }) pages

-- how many homes a prune takes, and 0 in any other group
abbrev pub taken_in : GroupItem → Pool → ℕ
taken_in (prune moment rule) pool = length (pruned pool rule moment)
taken_in (lanes moment tasks) pool = 0
taken_in (quota limit) pool = 0
taken_in (set_mode lane mode) pool = 0

-- the changes that a group may make, and its writes
abbrev pub changes_of_group : GroupItem → Pool → ℕ
changes_of_group (lanes moment tasks) pool = changes_in tasks
changes_of_group (prune moment rule) pool = length (pruned pool rule moment)
changes_of_group (quota limit) pool = 0
changes_of_group (set_mode lane mode) pool = 0

abbrev pub writes_of_group : GroupItem → ℕ
writes_of_group (lanes moment tasks) = writes_in tasks
writes_of_group (prune moment rule) = 0
writes_of_group (quota limit) = 0
writes_of_group (set_mode lane mode) = 0

-- the runs that a group gives out
abbrev pub given_by : Rules → Standing → GroupItem → Told → List (ℕ × ℕ)
given_by rules s (lanes moment tasks) told = (noted_course rules s moment tasks told).given
given_by rules s (prune moment rule) told = []
given_by rules s (quota limit) told = []
given_by rules s (set_mode lane mode) told = []

-- how a group may end where something stands: with this outcome, these runs given out, and this standing after it
abbrev pub Room : Type 1
Room = (before : Standing) → GroupItem → Outcome → (given : List (ℕ × ℕ)) → (after : Standing) → Type 0

-- each group is sealed, and each run that it gives out is free
abbrev pub always_sealed : Room
always_sealed before item outcome given after = (outcome ≡ Sealed) × AreFresh (IsFree before) given

-- want of room where a group needs more sectors than are free, and otherwise it is sealed
abbrev pub outcome_by_room : Standing → GroupItem → Outcome
outcome_by_room s item =
    unwrap_or (space_lacking (free_count s.sectors s.pages s.pool s.table)
    (need (length s.pages) (flush_limit s.table) (changes_of_group item s.pool) (writes_of_group item))) Sealed

-- in an image of version 0: the group ends by its need and by what is free, each run that it gives out is free, and its image has the
-- pages that its pool takes
pub record HasFlatRoom (before : Standing) (item : GroupItem) (outcome : Outcome) (given : List (ℕ × ℕ)) (after : Standing) : Type 0 where
  pub outcome_is : outcome ≡ outcome_by_room before item
  pub fresh : AreFresh (IsFree before) given
  pub pages : outcome ≡ Sealed → length after.pages ≡ image_pages after.pool after.table after.logs

-- the note's replies and fresh places are those of the run
pub record AnswersAsRun (rules : Rules) (s : Standing) (moment : ℕ) (tasks : List Task) (told : Told) : Type 0 where
  pub lanes : HasEachLane tasks told.lanes
  pub agrees : Agrees (noted_course rules s moment tasks told) (rules.order tasks told)

abbrev pub AnswersGroup : Rules → Standing → GroupItem → Told → Type 0
AnswersGroup rules s (lanes moment tasks) told = AnswersAsRun rules s moment tasks told
AnswersGroup rules s (prune moment rule) told = told.lanes ≡ []
AnswersGroup rules s (quota limit) told = told.lanes ≡ []
AnswersGroup rules s (set_mode lane mode) told = told.lanes ≡ []

-- what a group did and what stands after it: its run where it was sealed, and nothing where it had no room; one that was cut hasn't ended
abbrev pub DidGroup : Outcome → Rules → (before : Standing) → GroupItem → Told → (after : Standing) → Type 0
DidGroup Sealed rules before item told after =
    (told.taken ≡ taken_in item before.pool) × AnswersGroup rules before item told
    × (after ≡ sealed_standing rules before item told after.pages)
DidGroup (NoSpace need free) rules before item told after = (told.taken ≡ 0) × (told.lanes ≡ []) × (after ≡ before)
DidGroup Cut rules before item told after = ⊥

-- the group ended: its note says what a run of the group from here does, and this stands after it
pub record EndsGroup (room : Room) (rules : Rules) (before : Standing) (item : GroupItem) (told : Told) (after : Standing) : Type 0 where
  pub number : told.number ≡ before.pool.group + 1
  pub kind : told.kind ≡ kind_of item
  pub did : DidGroup told.outcome rules before item told after
  pub room_is : room before item told.outcome (given_by rules before item told) after

-- ---- The steps of a run

-- one item: what stood before it, its note where it is a group, and what stands after it; after a group that was cut what may stand,
-- if its sync was begun
pub record RunStep : Type 0 where
  pub part : Part
  pub before : Standing
  pub note : Option Told
  pub after : Standing

-- a group without room changes nothing, and one that was cut isn't known to have changed anything
abbrev pub standing_by : Option Outcome → (before after : Standing) → Standing
standing_by (Some Cut) before after = before
standing_by (Some Sealed) before after = after
standing_by (Some (NoSpace need free)) before after = before
standing_by None before after = before

abbrev pub outcome_of : Option Told → Option Outcome
outcome_of None = None
outcome_of (Some told) = Some told.outcome

abbrev pub stands_after : RunStep → Standing
stands_after step = standing_by (outcome_of step.note) step.before step.after

-- an item ended as in a run
abbrev pub EndsItem : Room → Rules → Part → (before : Standing) → Option Told → (after : Standing) → Type 0
EndsItem room rules (of_group item) before (Some told) after = EndsGroup room rules before item told after
EndsItem room rules (of_group item) before None after = ⊥
EndsItem room rules create before told after = (told ≡ None) × (after ≡ before)
EndsItem room rules stat before told after = (told ≡ None) × (after ≡ before)
EndsItem room rules «import» before told after = (told ≡ None) × (after ≡ before)

abbrev pub HasEnded : Room → Rules → RunStep → Type 0
HasEnded room rules step = EndsItem room rules step.part step.before step.note step.after

-- what stands at the end of some steps
abbrev pub last_standing : Standing → List RunStep → Standing
last_standing s [] = s
last_standing s (step ∷ steps) = last_standing (stands_after step) steps

-- the steps of a run from here: each begins with what the one before it left, and ended
abbrev pub IsRun : Room → Rules → Standing → List RunStep → Type 0
IsRun room rules s [] = ⊤
IsRun room rules s (step ∷ steps) = (step.before ≡ s) × HasEnded room rules step × IsRun room rules (stands_after step) steps

abbrev pub parts_of : List RunStep → List Part
parts_of steps = map (λ step. step.part) steps

abbrev pub notes_of : List RunStep → List Told
notes_of steps = filter_map (λ step. step.note) steps
