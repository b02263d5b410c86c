-- One command: what it answers and what it makes of the pool, case by case in the order in which the cases decide.
use Rattle.std.specs.Prelude.{ℕ, Bool, true, false, not, nat_lt, List, [], ◌∷◌, ◌++◌, length, take, Option, Some, None, slice_index_or, slice_set, if◌then◌else◌}
use Rattle.std.specs.Str.{bytes_eq}
use Rattle.quota_rule.specs.Allows.{allows}
use Rattle.ddt_entry.specs.Keys.{key_eq}
use Rattle.ddt_entry.specs.declared.key.Key.{Key}
use Rattle.ddt_entry.specs.declared.entry.Home.{Home}
use Rattle.pool_model.specs.declared.commands.Mode.{Mode}
use Rattle.pool_model.specs.declared.commands.Mode.TheVariants.{Off, On, Verify}
use Rattle.pool_model.specs.declared.answers.WriteAnswer.{WriteAnswer}
use Rattle.pool_model.specs.declared.answers.WriteAnswer.TheVariants as written
use Rattle.pool_model.specs.declared.answers.FreeAnswer.TheVariants as freed
use Rattle.pool_model.specs.Pool.{Pool, Pointer, Mark, plain, tracked, loose, run_length, since_of, held, mode_of, tracked_at, count_at, keys_in, with_pointer, without_pointer}
use Rattle.pool_model.specs.Table.{TableState, found}
use Rattle.pool_model.specs.Plain.{Act, write, read, free, Task, Sight, bytes, nothing, unread, unsound, Reply, to_write, to_free, to_read}

-- what a group finds when it opens: how keys are made, the table, the bytes at each place, its number and its moment
pub record Opening : Type 0 where
  pub key_of : List ℕ → Key
  pub table : TableState
  pub blocks : ℕ → List ℕ
  pub number : ℕ
  pub moment : ℕ

-- a command's turn, with the reply that the session noted: its reads of the device failed exactly where that reply is a fault
pub record Turn : Type 0 where
  pub task : Task
  pub reply : Reply

-- a group after some of its turns: the pool, the pools before it from the newest on, the fresh places that each lane has left,
-- the runs that were given out, the replies and the keys of the table that were named
pub record Course : Type 0 where
  pub pool : Pool
  pub earlier : List Pool
  pub fresh : List (List ℕ)
  pub given : List (ℕ × ℕ)
  pub replies : List Reply
  pub touched : List Key

-- a home with its block's bytes
pub record Known : Type 0 where
  pub home : Home
  pub block : List ℕ

abbrev pub is_fault : Reply → Bool
is_fault (to_write written.Fault) = true
is_fault (to_write _) = false
is_fault (to_free freed.Fault) = true
is_fault (to_free _) = false
is_fault (to_read unread) = true
is_fault (to_read _) = false

abbrev pub or_in : Option Pointer → List Pointer → Option Pointer
or_in rest [] = rest
or_in rest (p ∷ ps) = Some p

-- a tracked pointer of the key in the newest of these pools that has one
abbrev pub last_tracked : Key → List Pool → Option Pointer
last_tracked key [] = None
last_tracked key (pool ∷ pools) = or_in (last_tracked key pools) (tracked_at pool key)

abbrev pub home_at : Pointer → (count : ℕ) → Home
home_at p count = record { place = p.place; birth = p.birth; since = since_of p.mark; count = count }

abbrev pub known_in_table : Opening → Key → Option Home → Option Known
known_in_table opening key None = None
known_in_table opening key (Some home) = Some (record { home = home; block = take key.len (opening.blocks home.place) })

abbrev pub known_or : Option Known → (count : ℕ) → Option Pointer → Option Known
known_or in_table count None = in_table
known_or in_table count (Some p) = Some (record { home = home_at p count; block = p.content })

-- the home of a key at this moment: by the pools of this group, or else by the table as the group found it
abbrev pub known_home : Opening → Course → Key → Option Known
known_home opening course key =
    known_or (known_in_table opening key (found opening.table key)) (count_at course.pool key)
    (last_tracked key (course.pool ∷ course.earlier))

-- where a write puts its pointer: nowhere, at a home, or at a fresh place
pub data Spot : Type 0 where
  nowhere : Spot
  at_home : (home : Home) (mark : Mark) → Spot
  at_fresh : (mark : Mark) → Spot

pub record Row : Type 0 where
  pub answer : WriteAnswer
  pub spot : Spot

abbrev pub row : WriteAnswer → Spot → Row
row answer spot = record { answer = answer; spot = spot }

-- without a home: a new one, where the quota allows it
abbrev pub new_row : (allowed : Bool) → (moment : ℕ) → Row
new_row allowed moment = if allowed then row written.New (at_fresh (tracked moment)) else row written.Quota (at_fresh plain)

-- with a home whose block may be shared, or not
abbrev pub home_row : Home → (same allowed : Bool) → (moment : ℕ) → Row
home_row home same allowed moment =
    if nat_lt 0 home.count then (if same then row written.Hit (at_home home (tracked home.since)) else row written.Clash (at_fresh plain))
    else (if not allowed then row written.Quota (at_fresh plain)
    else (if same then row written.New (at_home home (tracked moment)) else row written.New (at_fresh (tracked moment))))

abbrev pub table_row : Option Known → (allowed : Bool) → (moment : ℕ) → Row
table_row None allowed moment = new_row allowed moment
table_row (Some known) allowed moment = home_row known.home true allowed moment

-- the block of the home is compared: it must have the key at all, and only equal bytes are shared
abbrev pub verify_row : (List ℕ → Key) → Option Known → (content : List ℕ) → (allowed : Bool) → (moment : ℕ) → Row
verify_row key_of None content allowed moment = new_row allowed moment
verify_row key_of (Some known) content allowed moment =
    if key_eq (key_of known.block) (key_of content) then home_row known.home (bytes_eq known.block content) allowed moment
    else row (written.Damaged known.home.place) nowhere

abbrev pub mode_row : Mode → Opening → Option Known → (content : List ℕ) → (failed allowed : Bool) → Row
mode_row Off opening known content failed allowed = row written.Off (at_fresh plain)
mode_row On opening known content failed allowed = if failed then row written.Fault nowhere else table_row known allowed opening.moment
mode_row Verify opening known content failed allowed =
    if failed then row written.Fault nowhere else verify_row opening.key_of known content allowed opening.moment

abbrev pub slot_row : Option Pointer → Row → Row
slot_row None other = other
slot_row (Some p) other = row written.Taken nowhere

-- what a write answers, and where its pointer goes
abbrev pub write_row : Opening → Course → Turn → (content : List ℕ) → Row
write_row opening course turn content =
    slot_row (held course.pool turn.task.lane turn.task.slot)
    (mode_row (mode_of course.pool turn.task.lane) opening (known_home opening course (opening.key_of content)) content
    (is_fault turn.reply) (allows (length (keys_in course.pool)) course.pool.quota))

-- the next of these places; there is none at 0, which is never free
abbrev pub first_of : List ℕ → ℕ
first_of [] = 0
first_of (place ∷ places) = place

abbrev pub rest_of : List ℕ → List ℕ
rest_of [] = []
rest_of (place ∷ places) = places

-- the next fresh place of a lane, and the lists without it
abbrev pub next_fresh : (lane : ℕ) → List (List ℕ) → ℕ
next_fresh lane fresh = first_of (slice_index_or fresh lane [])

abbrev pub take_fresh : (lane : ℕ) → List (List ℕ) → List (List ℕ)
take_fresh lane fresh = slice_set fresh lane (rest_of (slice_index_or fresh lane []))

abbrev pub pointer_at : Task → Key → (content : List ℕ) → (place birth : ℕ) → Mark → Pointer
pointer_at task key content place birth mark =
    record { lane = task.lane; slot = task.slot; key = key; content = content; place = place; birth = birth; mark = mark }

-- the course with the write's pointer at its spot
abbrev pub placed : Opening → Course → Task → (content : List ℕ) → Spot → Course
placed opening course task content nowhere = course
placed opening course task content (at_home home mark) =
    record course {
      pool = with_pointer course.pool (pointer_at task (opening.key_of content) content home.place home.birth mark);
      earlier = course.pool ∷ course.earlier;
    }
placed opening course task content (at_fresh mark) =
    record course {
      pool = with_pointer course.pool
          (pointer_at task (opening.key_of content) content (next_fresh task.lane course.fresh) opening.number mark);
      earlier = course.pool ∷ course.earlier;
      fresh = take_fresh task.lane course.fresh;
      given = course.given ++ (next_fresh task.lane course.fresh, run_length (opening.key_of content)) ∷ [];
    }

-- a lane that doesn't use the table names no key of it
abbrev pub uses_table : Mode → Bool
uses_table Off = false
uses_table On = true
uses_table Verify = true

abbrev pub naming : Bool → Key → Course → Course
naming named key course = if named then record course { touched = course.touched ++ key ∷ [] } else course

abbrev pub replied : Reply → Course → Course
replied reply course = record course { replies = course.replies ++ reply ∷ [] }

abbrev pub after_write : Opening → Course → Turn → (content : List ℕ) → Course
after_write opening course turn content =
    let chosen : Row = write_row opening course turn content in
    naming (uses_table (mode_of course.pool turn.task.lane)) (opening.key_of content)
    (replied (to_write chosen.answer) (placed opening course turn.task content chosen.spot))

-- the course without the slot's pointer
abbrev pub released : Course → Task → Course
released course task =
    record course { pool = without_pointer course.pool task.lane task.slot; earlier = course.pool ∷ course.earlier }

-- what a free of a pointer does, by its mark
abbrev pub free_by_mark : Mark → Course → Turn → (key : Key) → Course
free_by_mark plain course turn key = replied (to_free freed.Freed) (released course turn.task)
free_by_mark (tracked since) course turn key =
    naming true key
    (if is_fault turn.reply then replied (to_free freed.Fault) course else replied (to_free freed.Counted) (released course turn.task))
free_by_mark loose course turn key =
    naming true key
    (if is_fault turn.reply then replied (to_free freed.Fault) course else replied (to_free freed.Loose) (released course turn.task))

abbrev pub after_free : Option Pointer → Course → Turn → Course
after_free None course turn = replied (to_free freed.Empty) course
after_free (Some p) course turn = free_by_mark p.mark course turn p.key

-- what a read of a slot tells
abbrev pub sight_at : Option Pointer → Opening → (failed : Bool) → Sight
sight_at None opening failed = nothing
sight_at (Some p) opening failed =
    if failed then unread else (if key_eq (opening.key_of p.content) p.key then bytes p.content else unsound p.place)

abbrev pub after_act : Act → Opening → Course → Turn → Course
after_act (write content) opening course turn = after_write opening course turn content
after_act read opening course turn =
    replied (to_read (sight_at (held course.pool turn.task.lane turn.task.slot) opening (is_fault turn.reply))) course
after_act free opening course turn = after_free (held course.pool turn.task.lane turn.task.slot) course turn

-- one command
abbrev pub after : Opening → Course → Turn → Course
after opening course turn = after_act turn.task.act opening course turn
