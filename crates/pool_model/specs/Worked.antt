-- The words of the worked examples: items, notes and the report that belongs to them.
use Rattle.std.specs.Prelude.{◌≡◌, ℕ, List, [], ◌∷◌, Option, Some, None, Ok}
use Rattle.ddt_entry.specs.Keys.{sha256_key}
use Rattle.ddt_entry.specs.declared.key.Key.{Key}
use Rattle.pool_model.specs.declared.commands.Mode.{Mode}
use Rattle.pool_model.specs.declared.commands.PruneRule.{PruneRule}
use Rattle.pool_model.specs.declared.answers.WriteAnswer.TheVariants as written
use Rattle.pool_model.specs.declared.answers.FreeAnswer.TheVariants as freed
use Rattle.pool_model.specs.declared.notes.Kind.TheVariants.{Lanes, Prune, Settings}
use Rattle.pool_model.specs.declared.notes.Outcome.{Outcome}
use Rattle.pool_model.specs.declared.notes.Outcome.TheVariants.{Sealed, NoSpace, Cut}
use Rattle.pool_model.specs.Plain.{Act, Task, GroupItem, lanes, prune, quota, set_mode, Part, create, of_group, stat, «import», Reply, to_write, to_free, to_read, bytes, LaneTold, Told}
use Rattle.pool_model.specs.Group.{Standing, Rules, lanes_in_turn}
use Rattle.pool_model.specs.Run.{Room, always_sealed, RunStep, IsRun, parts_of, notes_of, first_standing, sealed_standing, standing_by}
use Rattle.pool_model.specs.Text.{report}
use Rattle.pool_model.specs.File.{file_of}

-- three blocks of one byte, 61, 62 and 63 in a command file
abbrev pub a : List ℕ
a = 97 ∷ []

abbrev pub b : List ℕ
b = 98 ∷ []

abbrev pub c : List ℕ
c = 99 ∷ []

abbrev pub task : (lane slot : ℕ) → Act → Task
task lane slot act = record { lane = lane; slot = slot; act = act }

abbrev pub new : Reply
new = to_write written.New

abbrev pub hit : Reply
hit = to_write written.Hit

abbrev pub counted : Reply
counted = to_free freed.Counted

abbrev pub seen : (content : List ℕ) → Reply
seen content = to_read (bytes content)

-- the note of a lane whose reads all went well
abbrev pub lane_note : (lane : ℕ) → List Reply → (fresh : List ℕ) → LaneTold
lane_note lane replies fresh = record { lane = lane; replies = replies; fresh = fresh; faults = 0 }

-- the notes of sealed groups
abbrev pub group_note : (number : ℕ) → List LaneTold → Told
group_note number told = record { number = number; kind = Lanes; outcome = Sealed; taken = 0; lanes = told }

abbrev pub prune_note : (number taken : ℕ) → Told
prune_note number taken = record { number = number; kind = Prune; outcome = Sealed; taken = taken; lanes = [] }

abbrev pub settings_note : (number : ℕ) → Told
settings_note number = record { number = number; kind = Settings; outcome = Sealed; taken = 0; lanes = [] }

-- ---- Items

abbrev pub lanes_item : (moment : ℕ) → List Task → Part
lanes_item moment tasks = of_group (lanes moment tasks)

abbrev pub prune_item : (moment : ℕ) → PruneRule → Part
prune_item moment rule = of_group (prune moment rule)

abbrev pub quota_item : Option ℕ → Part
quota_item limit = of_group (quota limit)

abbrev pub mode_item : (lane : ℕ) → Mode → Part
mode_item lane mode = of_group (set_mode lane mode)

-- ---- Runs

-- keys made so, and the lanes one after another
abbrev pub rules_by : (List ℕ → Key) → Rules
rules_by key_of = lanes_in_turn (record { key_of = key_of; tag = 1 })

-- a new pool on 2,048 sectors
abbrev pub new_pool : Standing
new_pool = first_standing 2048

abbrev pub step_of : Part → (before : Standing) → Option Told → (after : Standing) → RunStep
step_of part before note after = record { part = part; before = before; note = note; after = after }

-- what stands after a group by its note, or may stand where it was cut; its image has no pages
abbrev pub after_note : Outcome → Rules → Standing → GroupItem → Told → Standing
after_note Sealed rules s item told = sealed_standing rules s item told []
after_note (NoSpace need free) rules s item told = s
after_note Cut rules s item told = sealed_standing rules s item told []

-- the steps of these items by these notes from here on; the items behind the last note that they need are left out
abbrev pub group_steps : (Standing → List Told → List RunStep) → Rules → Standing → GroupItem → List Told → List RunStep
group_steps go_on rules s item [] = []
group_steps go_on rules s item (told ∷ notes) =
    let after : Standing = after_note told.outcome rules s item told in
    step_of (of_group item) s (Some told) after ∷ go_on (standing_by (Some told.outcome) s after) notes

abbrev pub steps_by : Rules → List Part → Standing → List Told → List RunStep
steps_by rules [] s notes = []
steps_by rules (of_group item ∷ parts) s notes = group_steps (steps_by rules parts) rules s item notes
steps_by rules (create ∷ parts) s notes = step_of create s None s ∷ steps_by rules parts s notes
steps_by rules (stat ∷ parts) s notes = step_of stat s None s ∷ steps_by rules parts s notes
steps_by rules («import» ∷ parts) s notes = step_of «import» s None s ∷ steps_by rules parts s notes

-- from here the notes are those of a run of the items
pub record AreNotesOf (room : Room) (rules : Rules) (s : Standing) (parts : List Part) (notes : List Told) : Type 0 where
  pub run : IsRun room rules s (steps_by rules parts s notes)
  pub all_items : parts_of (steps_by rules parts s notes) ≡ parts
  pub all_notes : notes_of (steps_by rules parts s notes) ≡ notes

-- and this is its report
pub record IsWorked (key_of : List ℕ → Key) (s : Standing) (parts : List Part) (notes : List Told) (text : List ℕ) : Type 0 where
  pub notes_are : AreNotesOf always_sealed (rules_by key_of) s parts notes
  pub printed : report (steps_by (rules_by key_of) parts s notes) ≡ text

-- the same on a new pool with keys by SHA-256
abbrev pub IsWorkedAnew : List Part → List Told → (text : List ℕ) → Type 0
IsWorkedAnew parts notes text = IsWorked sha256_key new_pool parts notes text

-- the same from a command file's bytes
pub record IsWorkedFile (file : List ℕ) (parts : List Part) (notes : List Told) (text : List ℕ) : Type 0 where
  pub read : file_of file ≡ Ok parts
  pub worked : IsWorkedAnew parts notes text
