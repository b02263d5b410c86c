-- What a crash may leave of a run: which pools may stand in the image, and which of them does when the session has ended.
use Rattle.std.specs.Prelude.{◌≡◌, ◌⊎◌, ℕ, Bool, true, false, ◌==◌, List, [], ◌∷◌, length, Option, Some, None, if◌then◌else◌}
use Rattle.std.specs.List.{flat_map}
use Rattle.pool_model.specs.declared.notes.Outcome.{Outcome}
use Rattle.pool_model.specs.declared.notes.Outcome.TheVariants.{Sealed, NoSpace, Cut}
use Rattle.pool_model.specs.Plain.{GroupItem, lanes, prune, quota, set_mode, Part, create, of_group, stat, «import», Told}
use Rattle.pool_model.specs.Group.{Standing, lanes_of}
use Rattle.pool_model.specs.Run.{RunStep}

-- whether a group's note has what each of its lanes did, so that a sync may have been begun
abbrev pub has_its_lanes : GroupItem → Told → Bool
has_its_lanes (lanes moment tasks) told = length told.lanes == length (lanes_of tasks)
has_its_lanes (prune moment rule) told = true
has_its_lanes (quota limit) told = true
has_its_lanes (set_mode lane mode) told = true

-- whether a group's sync was begun: it was sealed, or cut once its lanes had ended
abbrev pub is_begun_by : Outcome → GroupItem → Told → Bool
is_begun_by Sealed item told = true
is_begun_by (NoSpace need free) item told = false
is_begun_by Cut item told = has_its_lanes item told

abbrev pub is_begun : Part → Option Told → Bool
is_begun (of_group item) (Some told) = is_begun_by told.outcome item told
is_begun (of_group item) None = false
is_begun create told = false
is_begun stat told = false
is_begun «import» told = false

-- what stands after each group that was begun, in order
abbrev pub begun_by : RunStep → List Standing
begun_by step = if is_begun step.part step.note then step.after ∷ [] else []

abbrev pub begun : List RunStep → List Standing
begun steps = flat_map begun_by steps

-- one of these stands
abbrev pub AnyStands : (Standing → Type 0) → List Standing → Type 0
AnyStands stands [] = ⊥
AnyStands stands (s ∷ rest) = stands s ⊎ AnyStands stands rest

-- the first of these stands
abbrev pub FirstStands : (Standing → Type 0) → List Standing → Type 0
FirstStands stands [] = ⊥
FirstStands stands (s ∷ rest) = stands s

-- of these, one after another, the one of this group stands, or where a write failed the next one
abbrev pub StandsAt : (Standing → Type 0) → (failed : Bool) → (group : ℕ) → List Standing → Type 0
StandsAt stands failed group [] = ⊥
StandsAt stands failed group (s ∷ rest) =
    ((s.pool.group ≡ group) × (stands s ⊎ ((failed ≡ true) × FirstStands stands rest))) ⊎ StandsAt stands failed group rest
