-- A stage of a session: one item, where it is done and where the session ends in it.
use Rattle.std.specs.Prelude.{◌≡◌, ℕ, Bool, true, false, List, [], ◌∷◌, Result, Ok, Err}
use Rattle.std.specs.Io.KnownBytes.{Keeps, Appends}
use Rattle.std.specs.List.{AllByRecursion}
use Rattle.io_model.specs.Outside.{TookFront}
use Rattle.disk_model.specs.Images.{Image}
use Rattle.disk_model.specs.Crashes.{LeavesOnly}
use Rattle.ddt_entry.specs.declared.key.Key.{Key}
use Rattle.pool_model.specs.Plain.{Part, Told}
use Rattle.pool_model.specs.Clash.{HasNoOther, part_trusted, part_contents}
use Rattle.pool_model.specs.Group.{Standing, Rules}
use Rattle.pool_model.specs.Run.{HasFlatRoom, RunStep, HasEnded, stands_after, notes_of}
use Rattle.pool_model.specs.Crash.{AnyStands, StandsAt, begun_by}
use Rattle.pool_model.specs.Text.{step_text}
use Rattle.pool_model.specs.Waiting.{AreAmong}
use Rattle.table_state.specs.Holding.{Holds}
use Rattle.table_state.specs.Pools.{Held}
use Rattle.session.specs.Devices.{Devices}
use Rattle.session.specs.Origins.{Origin, at_end, of_words, of_file, of_size, of_pool, of_image, of_disk, of_memory, of_output}
use Rattle.session.specs.StageEntries.{IsOver}
use Rattle.session.specs.Stopping.{IsCut}
use Rattle.session.specs.Running.{is_write_fault}
use Rattle.session.specs.declared.status.Status.{Status}
use Rattle.session.specs.declared.status.Status.TheVariants.{SinkFault}

-- whether an item may end a session so; what the disk holds may end it only over a disk that tells nothing
abbrev pub may_end_item : Origin → Bool
may_end_item at_end = false
may_end_item of_words = false
may_end_item of_file = false
may_end_item of_size = false
may_end_item of_pool = false
may_end_item of_image = true
may_end_item of_disk = true
may_end_item of_memory = true
may_end_item of_output = true

-- no content that the item writes in a lane whose mode is on has another content of its key beside it
abbrev pub HasNoClashIn : (List ℕ → Key) → Standing → Part → Type 0
HasNoClashIn key_of s part = AllByRecursion (HasNoOther key_of s (part_contents part)) (part_trusted s.pool part)

-- a content without another one of its key before the item is without one after it
abbrev pub KeepsApart : (List ℕ → Key) → (before after : Standing) → Part → Type 0
KeepsApart key_of before after part =
    (all : List (List ℕ)) → AreAmong (part_contents part) all
    → (content : List ℕ) → HasNoOther key_of before all content → HasNoOther key_of after all content

-- an item was done: it ended as in a run, the pool in memory is over what stands after it, its text was written, and a crash left what stood or what it began
pub record ItemDone (devices : Devices) (rules : Rules) (s : Standing) (step : RunStep) (held : Held) (sealed : ℕ) : Type 0 where
  pub begins : step.before ≡ s
  pub ended : HasEnded HasFlatRoom rules step
  pub over : IsOver devices.after held (stands_after step)
  pub sealed_is : sealed ≡ (stands_after step).pool.group
  pub text : Appends devices.written devices.now (step_text step)
  pub others : KeepsApart rules.keying.key_of s (stands_after step) step.part
  pub crash : LeavesOnly devices.before devices.after (λ c. AnyStands (Holds rules.keying.tag c) (s ∷ begun_by step))

-- how the item stands in which a session ended: it ended and a front of its text was written, or it was cut and nothing was
abbrev pub EndsSo : Status → Devices → Rules → RunStep → Type 0
EndsSo SinkFault devices rules step = HasEnded HasFlatRoom rules step × TookFront devices.written devices.now (step_text step)
EndsSo _ devices rules step = IsCut rules step × Keeps devices.written devices.now

-- a session ended in an item
pub record ItemCut (devices : Devices) (rules : Rules) (s : Standing) (step : RunStep) (sealed : ℕ) (status : Status) : Type 0 where
  pub begins : step.before ≡ s
  pub ends : EndsSo status devices rules step
  pub sealed_is : sealed ≡ (stands_after step).pool.group
  pub crash : LeavesOnly devices.before devices.after (λ c. AnyStands (Holds rules.keying.tag c) (s ∷ begun_by step))
  pub at_return : (c : Image) → devices.after.may_leave c
      → StandsAt (Holds rules.keying.tag c) (is_write_fault status) sealed (s ∷ begun_by step)

-- what an item came to, by its answer: its step has these notes
abbrev pub ItemWent : Devices → Rules → Standing → Part → (notes : List Told) → Held → (sealed : ℕ) → Result Unit Status → Type 0
ItemWent devices rules s part notes held sealed (Ok done) =
    (step : RunStep) × (step.part ≡ part) × (notes ≡ notes_of (step ∷ [])) × ItemDone devices rules s step held sealed
ItemWent devices rules s part notes held sealed (Err status) =
    (step : RunStep) × (step.part ≡ part) × (notes ≡ notes_of (step ∷ [])) × ItemCut devices rules s step sealed status
