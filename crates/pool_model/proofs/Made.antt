-- The pointers that a group of lanes' commands leaves: those from before, and those of the contents that it writes.
use Rattle.std.proofs.Common.{ℕ, Bool, true, false, cond, not, List, [], ◌∷◌, Option, Some, None, map, fold}
use Rattle.std.specs.List.{AllByRecursion, flat_map, zip}
use Rattle.ddt_entry.specs.Keys.{Keying}
use Rattle.ddt_entry.specs.declared.key.Key.{Key}
use Rattle.pool_model.specs.Pool.{Pointer, Mark, plain, tracked, loose, held, mode_of, comes_before, insert_pointer, is_at}
use Rattle.pool_model.specs.declared.answers.FreeAnswer.TheVariants as freed
use Rattle.pool_model.specs.Plain.{Act, write, read, free, Task, Reply, to_write, to_free, LaneTold, Told}
use Rattle.pool_model.specs.Command.{Opening, Turn, Course, Spot, nowhere, at_home, at_fresh, is_fault, after, after_act, after_free, free_by_mark, naming, replied, placed, released, pointer_at, uses_table, write_row}
use Rattle.pool_model.specs.Group.{Standing, opening_of, opened, fresh_of, tasks_of, turns_of, lane_by_lane, lanes_in_turn}
use Rattle.pool_model.specs.Run.{noted_course}
use Rattle.pool_model.specs.Clash.{written_by, contents_in}
use Rattle.pool_model.proofs.Lists.{all_filter, all_front, all_back, all_both}

-- each pointer that a command makes for this content
abbrev pub MadeFor : (Pointer → Type 0) → (List ℕ → Key) → List ℕ → Type 0
MadeFor Q k content = (task : Task) (place birth : ℕ) (mark : Mark) → Q (pointer_at task (k content) content place birth mark)

module _ (Q : Pointer → Type 0) where
  inserted : (b : Bool) (p q : Pointer) (before after : List Pointer) → Q p → Q q → AllByRecursion Q before → AllByRecursion Q after
      → AllByRecursion Q (cond b (p ∷ q ∷ before) (q ∷ after))
  inserted true p q before after new here all more = (new, (here, all))
  inserted false p q before after new here all more = (here, more)

  all_inserted : (p : Pointer) (qs : List Pointer) → Q p → AllByRecursion Q qs → AllByRecursion Q (insert_pointer p qs)
  all_inserted p [] new all = (new, tt)
  all_inserted p (q ∷ qs) new all = inserted (comes_before p q) p q qs (insert_pointer p qs) new all.0 all.1 (all_inserted p qs new all.1)

  named : (b : Bool) (key : Key) (course : Course) → AllByRecursion Q course.pool.pointers
      → AllByRecursion Q (naming b key course).pool.pointers
  named true key course all = all
  named false key course all = all

  placed_all : (opening : Opening) (course : Course) (task : Task) (content : List ℕ) (spot : Spot) → MadeFor Q opening.key_of content
      → AllByRecursion Q course.pool.pointers → AllByRecursion Q (placed opening course task content spot).pool.pointers
  placed_all opening course task content nowhere new all = all
  placed_all opening course task content (at_home home mark) new all =
      all_inserted _ course.pool.pointers (new task home.place home.birth mark) all
  placed_all opening course task content (at_fresh mark) new all =
      all_inserted _ course.pool.pointers (new task _ opening.number mark) all

  either : (b : Bool) (one other : Course) → AllByRecursion Q one.pool.pointers → AllByRecursion Q other.pool.pointers
      → AllByRecursion Q (cond b one other).pool.pointers
  either true one other all more = all
  either false one other all more = more

  released_all : (course : Course) (task : Task) → AllByRecursion Q course.pool.pointers
      → AllByRecursion Q (released course task).pool.pointers
  released_all course task all = all_filter Q (λ p. not (is_at task.lane task.slot p)) course.pool.pointers all

  freed_all : (mark : Mark) (course : Course) (turn : Turn) (key : Key) → AllByRecursion Q course.pool.pointers
      → AllByRecursion Q (free_by_mark mark course turn key).pool.pointers
  freed_all plain course turn key all = released_all course turn.task all
  freed_all (tracked since) course turn key all =
      either (is_fault turn.reply) (replied (to_free freed.Fault) course)
      (replied (to_free freed.Counted) (released course turn.task)) all (released_all course turn.task all)
  freed_all loose course turn key all =
      either (is_fault turn.reply) (replied (to_free freed.Fault) course) (replied (to_free freed.Loose) (released course turn.task)) all
      (released_all course turn.task all)

  free_step : (found : Option Pointer) (course : Course) (turn : Turn) → AllByRecursion Q course.pool.pointers
      → AllByRecursion Q (after_free found course turn).pool.pointers
  free_step None course turn all = all
  free_step (Some p) course turn all = freed_all p.mark course turn p.key all

  step : (opening : Opening) (course : Course) (turn : Turn) (act : Act) → AllByRecursion (MadeFor Q opening.key_of) (written_by act)
      → AllByRecursion Q course.pool.pointers → AllByRecursion Q (after_act act opening course turn).pool.pointers
  step opening course turn (write content) new all =
      named (uses_table (mode_of course.pool turn.task.lane)) (opening.key_of content)
      (replied (to_write (write_row opening course turn content).answer)
      (placed opening course turn.task content (write_row opening course turn content).spot))
      (placed_all opening course turn.task content (write_row opening course turn content).spot new.0 all)
  step opening course turn read new all = all
  step opening course turn free new all = free_step (held course.pool turn.task.lane turn.task.slot) course turn all

  -- what holds of each pointer before the turns, and of each that is made for a written content, holds of each after them
  pub turns_make : (opening : Opening) (course : Course) (turns : List Turn)
      → AllByRecursion (λ turn. AllByRecursion (MadeFor Q opening.key_of) (written_by turn.task.act)) turns
      → AllByRecursion Q course.pool.pointers → AllByRecursion Q (fold (after opening) course turns).pool.pointers
  turns_make opening course [] new all = all
  turns_make opening course (turn ∷ turns) new all =
      turns_make opening (after opening course turn) turns new.1 (step opening course turn turn.task.act new.0 all)

-- what holds of each task holds of each turn's
module _ (R : Task → Type 0) where
  turns_zipped : (tasks : List Task) (replies : List Reply) → AllByRecursion R tasks
      → AllByRecursion (λ (turn : Turn). R turn.task) (map (λ pair. record { task = pair.0; reply = pair.1 }) (zip tasks replies))
  turns_zipped [] replies all = tt
  turns_zipped (task ∷ tasks) [] all = tt
  turns_zipped (task ∷ tasks) (reply ∷ replies) all = (all.0, turns_zipped tasks replies all.1)

  turns_all : (tasks : List Task) (told : List LaneTold) → AllByRecursion R tasks
      → AllByRecursion (λ (turn : Turn). R turn.task) (flat_map (turns_of tasks) told)
  turns_all tasks [] all = tt
  turns_all tasks (lane ∷ told) all =
      all_both (λ (turn : Turn). R turn.task) (turns_of tasks lane) (flat_map (turns_of tasks) told)
      (turns_zipped (tasks_of lane.lane tasks) lane.replies (all_filter R (λ task. _) tasks all)) (turns_all tasks told all)

-- what holds of each content holds of each task's
pub contents_each : (P : List ℕ → Type 0) (tasks : List Task) → AllByRecursion P (contents_in tasks)
    → AllByRecursion (λ (task : Task). AllByRecursion P (written_by task.act)) tasks
contents_each P [] all = tt
contents_each P (task ∷ tasks) all = (
  all_front P (written_by task.act) (contents_in tasks) all,
  contents_each P tasks
      (all_back P (written_by task.act) (contents_in tasks) all),
)

-- each pointer that a group of lanes' commands leaves was there before, or was made for a content that it writes
pub group_makes : (Q : Pointer → Type 0) (keying : Keying) (s : Standing) (moment : ℕ) (tasks : List Task) (told : Told)
    → AllByRecursion (MadeFor Q keying.key_of) (contents_in tasks)
    → AllByRecursion Q s.pool.pointers → AllByRecursion Q (noted_course (lanes_in_turn keying) s moment tasks told).pool.pointers
group_makes Q keying s moment tasks told new all =
    turns_make Q (opening_of keying.key_of s moment) (opened s.pool (fresh_of told.lanes)) (lane_by_lane tasks told)
    (turns_all (λ task. AllByRecursion (MadeFor Q keying.key_of) (written_by task.act)) tasks told.lanes
    (contents_each (MadeFor Q keying.key_of) tasks new)) all
