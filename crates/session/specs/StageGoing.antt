-- A stage of a session: its items as far as they have gone, and where it ended that didn't do them all.
use Rattle.std.specs.Prelude.{◌≡◌, ◌⊎◌, ℕ, Bool, true, false, List, ◌∷◌}
use Rattle.std.specs.Io.KnownBytes.{Appends}
use Rattle.disk_model.specs.Images.{Image}
use Rattle.disk_model.specs.Crashes.{LeavesOnly}
use Rattle.pool_model.specs.declared.notes.Session.{Session}
use Rattle.pool_model.specs.Plain.{Part, Told}
use Rattle.pool_model.specs.Clash.{HasNoOther, contents}
use Rattle.pool_model.specs.Group.{Standing, Rules}
use Rattle.pool_model.specs.Run.{HasFlatRoom, RunStep, IsRun, last_standing, parts_of, notes_of}
use Rattle.pool_model.specs.Crash.{AnyStands, StandsAt, begun}
use Rattle.pool_model.specs.Text.{report}
use Rattle.table_state.specs.Holding.{Holds}
use Rattle.table_state.specs.Pools.{Held}
use Rattle.session.specs.Devices.{Devices}
use Rattle.session.specs.Entries.{HasNoClashFrom}
use Rattle.session.specs.StageEntries.{IsOver}
use Rattle.session.specs.Stopping.{WentSo}
use Rattle.session.specs.Origins.{Origin, at_end, of_words, of_file, of_size, of_pool, of_image, of_disk, of_memory, of_output}
use Rattle.session.specs.Running.{is_write_fault, HasBegunItems, HasNotBegun}
use Rattle.session.specs.declared.status.Status.{Status}
use Rattle.session.specs.declared.words.Word.{Word}

-- these steps were done, from what stands here on: the pool in memory is over what stands now, their texts were written, and a crash left
-- what stood or what they began
pub record IsGoing (devices : Devices) (rules : Rules) (s : Standing) (parts : List Part) (steps : List RunStep) (held : Held)
    (sealed : ℕ) : Type 0 where
  pub run : IsRun HasFlatRoom rules s steps
  pub over : IsOver devices.after held (last_standing s steps)
  pub sealed_is : sealed ≡ (last_standing s steps).pool.group
  pub text : Appends devices.written devices.now (report steps)
  pub others : (content : List ℕ) → HasNoOther rules.keying.key_of s (contents parts) content
      → HasNoOther rules.keying.key_of (last_standing s steps) (contents parts) content
  pub crash : LeavesOnly devices.before devices.after (λ c. AnyStands (Holds rules.keying.tag c) (s ∷ begun steps))

-- whatever the items began at, without two contents that clash: these parts were done, with these notes
abbrev pub GoesOn : Devices → Rules → (first : Held) → (parts done : List Part) → List Told → Held → (sealed : ℕ) → Type 0
GoesOn devices rules first parts done notes held sealed =
    (s : Standing) → IsOver devices.before first s → HasNoClashFrom rules s parts
    → (steps : List RunStep) × (done ≡ parts_of steps) × (notes ≡ notes_of steps) × IsGoing devices rules s parts steps held sealed

-- the session ended in the last of these steps: a crash left what stood or what they began, and at return what was sealed last, or, where a
-- write failed, the next one
pub record IsStopped (devices : Devices) (rules : Rules) (s : Standing) (parts : List Part) (steps : List RunStep) (sealed : ℕ)
    (status : Status) : Type 0 where
  pub far : WentSo status devices rules s parts steps
  pub sealed_is : sealed ≡ (last_standing s steps).pool.group
  pub crash : LeavesOnly devices.before devices.after (λ c. AnyStands (Holds rules.keying.tag c) (s ∷ begun steps))
  pub at_return : (c : Image) → devices.after.may_leave c
      → StandsAt (Holds rules.keying.tag c) (is_write_fault status) sealed (s ∷ begun steps)

abbrev pub StopsIn : Devices → Rules → (first : Held) → List Part → List Told → (sealed : ℕ) → Status → Type 0
StopsIn devices rules first parts notes sealed status =
    (s : Standing) → IsOver devices.before first s → HasNoClashFrom rules s parts
    → (steps : List RunStep) × (notes ≡ notes_of steps) × IsStopped devices rules s parts steps sealed status

-- the items of a file ran over an image, or none was begun
abbrev pub ItemsRanOver : Devices → Word → Rules → Image → List Part → Session → Status → Type 0
ItemsRanOver devices word rules image parts session status =
    HasBegunItems devices word rules image parts session status ⊎ HasNotBegun devices word rules.keying.tag image session status

-- whether neither the words nor the command file lead to a status
abbrev pub is_of_devices : Origin → Bool
is_of_devices at_end = true
is_of_devices of_words = false
is_of_devices of_file = false
is_of_devices of_size = true
is_of_devices of_pool = true
is_of_devices of_image = true
is_of_devices of_disk = true
is_of_devices of_memory = true
is_of_devices of_output = true
