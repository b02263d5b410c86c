-- What a run leaves of the settings, and of the last group's number.
use Rattle.std.proofs.Common.{◌≡◌, ◌≤◌, ◌+◌, ℕ, Bool, true, false, cond, List, [], ◌∷◌, Option, Some, None, refl, ap, subst, ◌∙◌, arith, fold}
use Rattle.std.specs.Prelude.{⊤}
use Rattle.std.specs.List.{AllByRecursion}
use Rattle.ddt_entry.specs.declared.key.Key.{Key}
use Rattle.pool_model.specs.declared.commands.Mode.{Mode}
use Rattle.pool_model.specs.declared.answers.FreeAnswer.TheVariants as freed
use Rattle.pool_model.specs.Pool.{Pool, Pointer, Mark, plain, tracked, loose, held, mode_of}
use Rattle.pool_model.specs.Plain.{Act, write, read, free, Task, GroupItem, lanes, prune, quota, set_mode, Part, create, of_group, stat, «import», Told, to_free, to_write}
use Rattle.pool_model.specs.Command.{Opening, Turn, Course, Spot, nowhere, at_home, at_fresh, after, after_write, after_act, after_free, free_by_mark, placed, naming, replied, released, write_row, uses_table, is_fault}
use Rattle.pool_model.specs.Group.{Standing, Rules, opening_of, opened, fresh_of}
use Rattle.pool_model.specs.Run.{Room, RunStep, IsRun, last_standing, sealed_standing, stands_after, parts_of}
use Rattle.pool_model.proofs.Steps.{run_step}

-- no command changes a mode
modes_named : (named : Bool) (key : Key) (course : Course) → (naming named key course).pool ≡ course.pool
modes_named true key course = refl
modes_named false key course = refl

modes_placed : (opening : Opening) (course : Course) (task : Task) (content : List ℕ) (spot : Spot)
    → (placed opening course task content spot).pool.modes ≡ course.pool.modes
modes_placed opening course task content nowhere = refl
modes_placed opening course task content (at_home home mark) = refl
modes_placed opening course task content (at_fresh mark) = refl

modes_written : (opening : Opening) (course : Course) (turn : Turn) (content : List ℕ)
    → (after_write opening course turn content).pool.modes ≡ course.pool.modes
modes_written opening course turn content =
    ap (λ (p : Pool). p.modes)
    (modes_named (uses_table (mode_of course.pool turn.task.lane)) (opening.key_of content)
    (replied (to_write (write_row opening course turn content).answer)
    (placed opening course turn.task content (write_row opening course turn content).spot)))
    ∙ modes_placed opening course turn.task content (write_row opening course turn content).spot

modes_either : (failed : Bool) (one other : Course) (modes : List Mode) → one.pool.modes ≡ modes → other.pool.modes ≡ modes
    → (cond failed one other).pool.modes ≡ modes
modes_either true one other modes e f = e
modes_either false one other modes e f = f

modes_freed : (mark : Mark) (course : Course) (turn : Turn) (key : Key)
    → (free_by_mark mark course turn key).pool.modes ≡ course.pool.modes
modes_freed plain course turn key = refl
modes_freed (tracked since) course turn key =
    modes_either (is_fault turn.reply) (replied (to_free freed.Fault) course)
    (replied (to_free freed.Counted) (released course turn.task)) course.pool.modes refl refl
modes_freed loose course turn key =
    modes_either (is_fault turn.reply) (replied (to_free freed.Fault) course)
    (replied (to_free freed.Loose) (released course turn.task)) course.pool.modes refl refl

modes_after_free : (o : Option Pointer) (course : Course) (turn : Turn) → (after_free o course turn).pool.modes ≡ course.pool.modes
modes_after_free None course turn = refl
modes_after_free (Some p) course turn = modes_freed p.mark course turn p.key

modes_after : (opening : Opening) (course : Course) (turn : Turn) → (after opening course turn).pool.modes ≡ course.pool.modes
modes_after opening course turn = by_act turn.task.act
  where
    by_act : (act : Act) → (after_act act opening course turn).pool.modes ≡ course.pool.modes
    by_act (write content) = modes_written opening course turn content
    by_act read = refl
    by_act free = modes_after_free (held course.pool turn.task.lane turn.task.slot) course turn

pub modes_course : (opening : Opening) (course : Course) (turns : List Turn)
    → (fold (after opening) course turns).pool.modes ≡ course.pool.modes
modes_course opening course [] = refl
modes_course opening course (turn ∷ turns) = modes_course opening (after opening course turn) turns ∙ modes_after opening course turn

-- no group that sets a mode
abbrev pub KeepsModes : GroupItem → Type 0
KeepsModes (lanes moment tasks) = ⊤
KeepsModes (prune moment rule) = ⊤
KeepsModes (quota limit) = ⊤
KeepsModes (set_mode lane mode) = ⊥

abbrev pub SetsNoMode : Part → Type 0
SetsNoMode (of_group item) = KeepsModes item
SetsNoMode create = ⊤
SetsNoMode stat = ⊤
SetsNoMode «import» = ⊤

module _ (rules : Rules) (s : Standing) (told : Told) (pages : List ℕ) where
  -- a group that was sealed is the next one
  pub sealed_number : (item : GroupItem) → (sealed_standing rules s item told pages).pool.group ≡ s.pool.group + 1
  sealed_number (lanes moment tasks) = refl
  sealed_number (prune moment rule) = refl
  sealed_number (quota limit) = refl
  sealed_number (set_mode lane mode) = refl

  -- and changes no mode unless it is one that sets it
  pub sealed_modes : (item : GroupItem) → KeepsModes item → (sealed_standing rules s item told pages).pool.modes ≡ s.pool.modes
  sealed_modes (lanes moment tasks) keeps =
      modes_course (opening_of rules.keying.key_of s moment) (opened s.pool (fresh_of told.lanes)) (rules.order tasks told)
  sealed_modes (prune moment rule) keeps = refl
  sealed_modes (quota limit) keeps = refl
  sealed_modes (set_mode lane mode) keeps = absurd keeps

module _ (room : Room) (rules : Rules) where
  -- the number of the last group doesn't fall
  pub numbers_rise : (s : Standing) (steps : List RunStep) → IsRun room rules s steps → s.pool.group ≤ (last_standing s steps).pool.group
  numbers_rise s [] run = omega arith
  numbers_rise s (step ∷ steps) run =
      let here : s.pool.group ≤ (stands_after step).pool.group =
      run_step room rules s step run.0 run.1 (λ (t : Standing). s.pool.group ≤ t.pool.group) (omega arith)
      (λ item told is sealed. omega
      (arith, ap (λ (t : Standing). t.pool.group) sealed ∙ sealed_number rules s told step.after.pages item)) in
      omega (arith, here, numbers_rise (stands_after step) steps run.2)

  -- and the modes stay, where no item sets one
  pub modes_stay : (s : Standing) (steps : List RunStep) → IsRun room rules s steps → AllByRecursion SetsNoMode (parts_of steps)
      → (last_standing s steps).pool.modes ≡ s.pool.modes
  modes_stay s [] run keep = refl
  modes_stay s (step ∷ steps) run keep =
      modes_stay (stands_after step) steps run.2 keep.1
      ∙ run_step room rules s step run.0 run.1 (λ (t : Standing). t.pool.modes ≡ s.pool.modes) refl
      (λ item told is sealed. ap (λ (t : Standing). t.pool.modes) sealed ∙ sealed_modes rules s told step.after.pages item
      (subst SetsNoMode is keep.0))
