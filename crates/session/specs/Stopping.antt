-- How far the items of a session went: all of them were done, or the session ended in one.
use Rattle.std.specs.Prelude.{◌≡◌, ◌⊎◌, ◌≤◌, ◌+◌, ℕ, List, [], ◌∷◌, ◌++◌, length, take, Option, Some, None}
use Rattle.std.specs.Io.KnownBytes.{Appends}
use Rattle.disk_model.specs.Images.{Image}
use Rattle.disk_model.specs.Crashes.{DiskState, NothingPending}
use Rattle.pool_model.specs.declared.notes.Outcome.TheVariants.{Sealed, Cut}
use Rattle.pool_model.specs.Plain.{GroupItem, Part, create, of_group, stat, «import», Told}
use Rattle.pool_model.specs.Group.{Standing, Rules}
use Rattle.pool_model.specs.Run.{HasFlatRoom, AnswersGroup, given_by, kind_of, sealed_standing, RunStep, HasEnded, IsRun, last_standing, parts_of}
use Rattle.pool_model.specs.Text.{report, step_text}
use Rattle.table_state.specs.Holding.{Holds}
use Rattle.session.specs.Devices.{Devices}
use Rattle.session.specs.declared.status.Status.{Status}
use Rattle.session.specs.declared.status.Status.TheVariants.{Done, Usage, BadFile, SourceFault, SinkFault, ReadFault, WriteFault, NoPool, Damaged, OutOfMemory, PoolExists, BadSize, LastGroup}

-- told contents that are what stands, with nothing pending
pub record IsKept (disk : DiskState) (tag : ℕ) (s : Standing) : Type 0 where
  pub image : Image
  pub told : disk.seen ≡ Some image
  pub quiet : NothingPending (Some image) disk.may_leave
  pub holds : Holds tag image s

-- a group that was cut: no lane of it is noted, or its lanes ended as in a run; this may stand after it
pub record IsCutGroup (rules : Rules) (before : Standing) (item : GroupItem) (told : Told) (after : Standing) : Type 0 where
  pub number : told.number ≡ before.pool.group + 1
  pub kind : told.kind ≡ kind_of item
  pub outcome : told.outcome ≡ Cut
  pub taken : told.taken ≡ 0
  pub after_is : after ≡ sealed_standing rules before item told after.pages
  pub did : (told.lanes ≡ [])
      ⊎ (AnswersGroup rules before item told × HasFlatRoom before item Sealed (given_by rules before item told) after)

-- an item that was cut: of a group there is that note, and of any other item nothing
abbrev pub IsCutItem : Rules → Part → (before : Standing) → Option Told → (after : Standing) → Type 0
IsCutItem rules (of_group item) before (Some told) after = IsCutGroup rules before item told after
IsCutItem rules (of_group item) before None after = ⊥
IsCutItem rules create before told after = (told ≡ None) × (after ≡ before)
IsCutItem rules stat before told after = (told ≡ None) × (after ≡ before)
IsCutItem rules «import» before told after = (told ≡ None) × (after ≡ before)

abbrev pub IsCut : Rules → RunStep → Type 0
IsCut rules step = IsCutItem rules step.part step.before step.note step.after

-- the first text was written whole, and some front of the next one
abbrev pub TookFrontBehind : (old new : Option (List ℕ)) → (whole next : List ℕ) → Type 0
TookFrontBehind old new whole next = (n : ℕ) × (n ≤ length next) × Appends old new (whole ++ take n next)

-- all items were done: each step is one of a run, the report was written, and what stands at the end is on the disk
pub record HasDone (devices : Devices) (rules : Rules) (s : Standing) (parts : List Part) (steps : List RunStep) : Type 0 where
  pub parts_are : parts ≡ parts_of steps
  pub run : IsRun HasFlatRoom rules s steps
  pub text : Appends devices.written devices.now (report steps)
  pub disk : IsKept devices.after rules.keying.tag (last_standing s steps)

-- the last step is where the session ended, behind those of a run
pub record HasStopped (rules : Rules) (s : Standing) (parts : List Part) (steps done : List RunStep) (last : RunStep) : Type 0 where
  pub rest : List Part
  pub steps_are : steps ≡ done ++ last ∷ []
  pub parts_are : parts ≡ parts_of steps ++ rest
  pub run : IsRun HasFlatRoom rules s done
  pub begins : last.before ≡ last_standing s done

-- the session was cut in its last item: the texts of those before it were written
pub record WasCut (devices : Devices) (rules : Rules) (s : Standing) (parts : List Part) (steps : List RunStep) : Type 0 where
  pub done : List RunStep
  pub last : RunStep
  pub stopped : HasStopped rules s parts steps done last
  pub cut : IsCut rules last
  pub text : Appends devices.written devices.now (report done)

-- the last item ended, and of its text a front was written
pub record WasUntold (devices : Devices) (rules : Rules) (s : Standing) (parts : List Part) (steps : List RunStep) : Type 0 where
  pub done : List RunStep
  pub last : RunStep
  pub stopped : HasStopped rules s parts steps done last
  pub ended : HasEnded HasFlatRoom rules last
  pub text : TookFrontBehind devices.written devices.now (report done) (step_text last)

-- how far the items went, by the status; no other status comes once they began
abbrev pub WentSo : Status → Devices → Rules → Standing → List Part → List RunStep → Type 0
WentSo Done devices rules s parts steps = HasDone devices rules s parts steps
WentSo SinkFault devices rules s parts steps = WasUntold devices rules s parts steps
WentSo ReadFault devices rules s parts steps = WasCut devices rules s parts steps
WentSo WriteFault devices rules s parts steps = WasCut devices rules s parts steps
WentSo OutOfMemory devices rules s parts steps = WasCut devices rules s parts steps
WentSo Usage devices rules s parts steps = ⊥
WentSo (BadFile line kind) devices rules s parts steps = ⊥
WentSo SourceFault devices rules s parts steps = ⊥
WentSo NoPool devices rules s parts steps = ⊥
WentSo (Damaged sector) devices rules s parts steps = ⊥
WentSo (PoolExists group) devices rules s parts steps = ⊥
WentSo (BadSize sectors) devices rules s parts steps = ⊥
WentSo (LastGroup group) devices rules s parts steps = ⊥
