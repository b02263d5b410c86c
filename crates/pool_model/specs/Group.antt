-- A whole group of lanes' commands: its turns in an order, the changes that it leaves to the table, and which places it may give out.
use Rattle.std.specs.Prelude.{◌≡◌, ℕ, ◌+◌, ◌≤◌, Bool, ◌&&◌, ◌==◌, nat_lt, List, [], length, filter, map, fold, replicate, count_by, Option, Some, None, if◌then◌else◌, slice_set}
use Rattle.std.specs.List.{AllByRecursion, find, filter_map, flat_map, zip, range_with_len}
use Rattle.std.specs.Option.{option_map}
use Rattle.ddt_entry.specs.Keys.{Keying}
use Rattle.ddt_entry.specs.declared.key.Key.{Key}
use Rattle.ddt_entry.specs.declared.entry.Home.{Home}
use Rattle.ddt_entry.specs.declared.entry.Change.{Change}
use Rattle.ddt_entry.specs.declared.entry.Change.TheVariants as changes
use Rattle.pool_model.specs.Pool.{Pool, Pointer, Pairwise, IsApart, run_length, lane_count, with_key}
use Rattle.pool_model.specs.Table.{TableState, found, sync_table, waiting_in}
use Rattle.pool_model.specs.Logs.{Logs, logs_after}
use Rattle.pool_model.specs.Plain.{Task, LaneTold, Told}
use Rattle.pool_model.specs.Command.{Opening, Turn, Course, known_home, after, is_fault}

-- a pool with its table and the logs as they are kept, the bytes at each place, the sectors that it has, and those of its image's pages
pub record Standing : Type 0 where
  pub pool : Pool
  pub table : TableState
  pub logs : Logs
  pub blocks : ℕ → List ℕ
  pub sectors : ℕ
  pub pages : List ℕ

-- how a run goes: how keys are made, and in which order the commands of a group's lanes are taken, by its note
pub record Rules : Type 0 where
  pub keying : Keying
  pub order : List Task → Told → List Turn

abbrev pub opening_of : (List ℕ → Key) → Standing → (moment : ℕ) → Opening
opening_of key_of s moment = record { key_of = key_of; table = s.table; blocks = s.blocks; number = s.pool.group + 1; moment = moment }

-- before the first turn
abbrev pub opened : Pool → (fresh : List (List ℕ)) → Course
opened pool fresh = record { pool = pool; earlier = []; fresh = fresh; given = []; replies = []; touched = [] }

-- the turns one after another
abbrev pub course_of : Opening → Pool → (fresh : List (List ℕ)) → List Turn → Course
course_of opening pool fresh turns = fold (after opening) (opened pool fresh) turns

-- a lane's commands, in the order of the command file
abbrev pub tasks_of : (lane : ℕ) → List Task → List Task
tasks_of lane tasks = filter (λ task. task.lane == lane) tasks

-- the lanes that have commands, rising
abbrev pub lanes_of : List Task → List ℕ
lanes_of tasks = filter (λ lane. nat_lt 0 (length (tasks_of lane tasks))) (range_with_len 0 lane_count)

abbrev pub turns_of : List Task → LaneTold → List Turn
turns_of tasks told = map (λ pair. record { task = pair.0; reply = pair.1 }) (zip (tasks_of told.lane tasks) told.replies)

-- the lanes one after another
abbrev pub lane_by_lane : List Task → Told → List Turn
lane_by_lane tasks told = flat_map (turns_of tasks) told.lanes

-- the rules by which the lanes are taken so
abbrev pub lanes_in_turn : Keying → Rules
lanes_in_turn keying = record { keying = keying; order = lane_by_lane }

-- the fresh places that each lane got
abbrev pub fresh_of : List LaneTold → List (List ℕ)
fresh_of told = fold (λ fresh lane. slice_set fresh lane.lane lane.fresh) (replicate lane_count []) told

-- what a group leaves of a key: a home that it made and lost again is none, or stands as it stood, without pointers
abbrev pub emptied : Option Home → Option Home
emptied None = None
emptied (Some home) = Some (record home { count = 0 })

abbrev pub settled : (number : ℕ) → (before now : Option Home) → Option Home
settled number before None = before
settled number before (Some home) = if (home.count == 0) && (home.birth == number) then emptied before else Some home

abbrev pub home_eq : Home → Home → Bool
home_eq a b = (a.place == b.place) && (a.birth == b.birth) && (a.since == b.since) && (a.count == b.count)

abbrev pub change_from : Key → (before now : Option Home) → Option Change
change_from key before None = None
change_from key None (Some home) = Some (changes.Entry (record { key = key; home = home }))
change_from key (Some before) (Some home) = if home_eq before home then None else Some (changes.Entry (record { key = key; home = home }))

abbrev pub change_of : Opening → Course → Key → Option Change
change_of opening course key =
    change_from key (found opening.table key)
    (settled opening.number (found opening.table key) (option_map (λ known. known.home) (known_home opening course key)))

-- the keys that the group named, sorted, each once
abbrev pub touched_keys : Course → List Key
touched_keys course = fold (λ keys key. with_key key keys) [] course.touched

-- the changes that a group leaves to the table, sorted by key
abbrev pub changes_of : Opening → Course → List Change
changes_of opening course = filter_map (change_of opening course) (touched_keys course)

-- the bytes at a place after the group: a home that keeps its place without a pointer keeps its pointer's bytes
abbrev pub block_or : List ℕ → Option Pointer → List ℕ
block_or block None = block
block_or block (Some p) = p.content

abbrev pub blocks_after : Standing → ℕ → List ℕ
blocks_after s place = block_or (s.blocks place) (find (λ p. p.place == place) s.pool.pointers)

-- what stands after a group of lanes' commands whose image has these pages
abbrev pub after_lanes : Opening → Standing → Course → (pages : List ℕ) → Standing
after_lanes opening s course pages =
    record {
      pool = record course.pool { group = opening.number };
      table = sync_table (changes_of opening course) s.table;
      logs = logs_after (changes_of opening course) s.table s.logs;
      blocks = blocks_after s;
      sectors = s.sectors;
      pages = pages;
    }

-- one note for each lane that has commands, in rising order, with one answer for each of its commands, and as many faults at least as
-- its answers tell
pub record HasEachLane (tasks : List Task) (told : List LaneTold) : Type 0 where
  pub lanes : map (λ lane. lane.lane) told ≡ lanes_of tasks
  pub replies : AllByRecursion (λ lane. length lane.replies ≡ length (tasks_of lane.lane tasks)) told
  pub faults : AllByRecursion (λ lane. count_by is_fault lane.replies ≤ lane.faults) told

-- the noted replies are those of the course, and the course used up the noted fresh places
pub record Agrees (course : Course) (turns : List Turn) : Type 0 where
  pub replies : course.replies ≡ map (λ turn. turn.reply) turns
  pub fresh : AllByRecursion (λ places. places ≡ []) course.fresh

-- no block lies in the run, a pointer's or a waiting home's, nor does the ring
pub record IsUnnamed (s : Standing) (place length : ℕ) : Type 0 where
  pub start : 32 ≤ place
  pub no_pointer : AllByRecursion (λ p. IsApart place length p.place (run_length p.key)) s.pool.pointers
  pub not_waiting : AllByRecursion (λ entry. IsApart place length entry.home.place (run_length entry.key)) (waiting_in s.table)

-- it lies in the pool besides, and no page of the image does
pub record IsFree (s : Standing) (place length : ℕ) : Type 0 where
  pub unnamed : IsUnnamed s place length
  pub end : place + length ≤ s.sectors
  pub no_page : AllByRecursion (λ page. IsApart place length page 1) s.pages

-- the runs were free, and no two share a sector
pub record AreFresh (is_free : (place length : ℕ) → Type 0) (given : List (ℕ × ℕ)) : Type 0 where
  pub free : AllByRecursion (λ run. is_free run.0 run.1) given
  pub apart : Pairwise (λ a b. IsApart a.0 a.1 b.0 b.1) given
