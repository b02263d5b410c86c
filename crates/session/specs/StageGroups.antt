-- A stage of a session: a group before its text is written, which ended, or in which the session ends.
use Rattle.std.specs.Prelude.{◌≡◌, ◌+◌, ℕ, sum_by, [], ◌∷◌, Some, Result, Ok, Err, IsErrOf}
use Rattle.disk_model.specs.Images.{Image}
use Rattle.disk_model.specs.Crashes.{DiskState, LeavesOnly}
use Rattle.disk_model.specs.declared.disk.Failed.{Failed}
use Rattle.pool_model.specs.declared.faults.GroupFault.{GroupFault}
use Rattle.pool_model.specs.declared.faults.GroupFault.TheVariants as groups
use Rattle.pool_model.specs.declared.notes.Kind.{Kind}
use Rattle.pool_model.specs.declared.notes.Outcome.{Outcome}
use Rattle.pool_model.specs.declared.notes.Outcome.TheVariants.{Sealed, NoSpace, Cut}
use Rattle.pool_model.specs.Plain.{GroupItem, of_group, Told}
use Rattle.ddt_entry.specs.Keys.{Keying}
use Rattle.pool_model.specs.Group.{Standing, Rules, lanes_in_turn}
use Rattle.pool_model.specs.Run.{HasFlatRoom, EndsGroup, RunStep, kind_of, stands_after}
use Rattle.pool_model.specs.Crash.{AnyStands, StandsAt, begun_by}
use Rattle.table_state.specs.Closing.{PlainClosed}
use Rattle.table_state.specs.Holding.{Holds}
use Rattle.table_state.specs.Pools.{Held}
use Rattle.session.specs.StageClosing.{ClosesFrom}
use Rattle.session.specs.StageEntries.{IsOver}
use Rattle.session.specs.StageItems.{HasNoClashIn, KeepsApart}
use Rattle.session.specs.Stopping.{IsCutGroup}
use Rattle.session.specs.Running.{is_write_fault}
use Rattle.session.specs.declared.status.Status.{Status}
use Rattle.session.specs.declared.status.Status.TheVariants.{SinkFault, ReadFault, WriteFault, Damaged, OutOfMemory}

-- how a group that wasn't run is noted: it had no room, or it was cut
abbrev pub outcome_by : GroupFault → Outcome
outcome_by (groups.NoSpace needed left) = NoSpace needed left
outcome_by groups.ReadFault = Cut
outcome_by groups.WriteFault = Cut
outcome_by (groups.Damaged sector) = Cut
outcome_by groups.Memory = Cut

-- what the session does then: it goes on without room, and else it ends
abbrev pub refused_by : GroupFault → Result Unit Status
refused_by (groups.NoSpace needed left) = Ok tt
refused_by groups.ReadFault = Err ReadFault
refused_by groups.WriteFault = Err WriteFault
refused_by (groups.Damaged sector) = Err (Damaged sector)
refused_by groups.Memory = Err OutOfMemory

-- how a group is noted that was to be sealed, and how many homes it took then
abbrev pub outcome_after : Result Unit Status → Outcome
outcome_after (Ok done) = Sealed
outcome_after (Err status) = Cut

abbrev pub taken_after : (taken : ℕ) → Result Unit Status → ℕ
taken_after taken (Ok done) = taken
taken_after taken (Err status) = 0

-- the faults that its lanes had
abbrev pub faults_of : Told → ℕ
faults_of told = sum_by (λ lane. lane.faults) told.lanes

-- how a session ends by a text that could not be written
abbrev pub ended_by : Result Unit Failed → Result Unit Status
ended_by (Ok done) = Ok tt
ended_by (Err failed) = Err SinkFault

-- the note of a group that has not done anything
abbrev pub new_told : (number : ℕ) → Kind → Outcome → Told
new_told number kind outcome = record { number = number; kind = kind; outcome = outcome; taken = 0; lanes = [] }

-- a group's step
abbrev pub group_step : (before : Standing) → GroupItem → Told → (after : Standing) → RunStep
group_step before item told after = record { part = of_group item; before = before; note = Some told; after = after }

-- a group was closed over these told contents, and is not sealed yet
pub record HasRunOver (keying : Keying) (disk : DiskState) (held : Held) (s : Standing) (item : GroupItem) (told : Told) (taken : ℕ)
    (closed : PlainClosed) : Type 0 where
  pub over : IsOver disk held s
  pub tag_is : held.tag ≡ keying.tag
  pub no_clash : HasNoClashIn keying.key_of s (of_group item)
  pub run : ClosesFrom (lanes_in_turn keying) over.image held s item told taken closed
  pub number : told.number ≡ held.group + 1
  pub kind : told.kind ≡ kind_of item
  pub untaken : told.taken ≡ 0

-- a group ended: its note is a run's, the pool in memory is over what stands after it, and a crash left what stood or what it began
pub record GroupEnded (old new : DiskState) (rules : Rules) (s : Standing) (item : GroupItem) (told : Told) (held : Held) : Type 0 where
  pub after : Standing
  pub ended : EndsGroup HasFlatRoom rules s item told after
  pub over : IsOver new held (stands_after (group_step s item told after))
  pub others : KeepsApart rules.keying.key_of s (stands_after (group_step s item told after)) (of_group item)
  pub crash : LeavesOnly old new (λ c. AnyStands (Holds rules.keying.tag c) (s ∷ begun_by (group_step s item told after)))

-- the session ends in a group, which was cut
pub record GroupCut (old new : DiskState) (rules : Rules) (s : Standing) (item : GroupItem) (told : Told) (status : Status) : Type 0 where
  pub after : Standing
  pub cut : IsCutGroup rules s item told after
  pub crash : LeavesOnly old new (λ c. AnyStands (Holds rules.keying.tag c) (s ∷ begun_by (group_step s item told after)))
  pub at_return : (c : Image) → new.may_leave c
      → StandsAt (Holds rules.keying.tag c) (is_write_fault status) s.pool.group (s ∷ begun_by (group_step s item told after))

abbrev pub GroupWent : (old new : DiskState) → Rules → Standing → GroupItem → Told → Held → Result Unit Status → Type 0
GroupWent old new rules s item told held (Ok done) = GroupEnded old new rules s item told held
GroupWent old new rules s item told held (Err status) = GroupCut old new rules s item told status

-- what was written of a group by how it ended, and which group is then the session's newest
abbrev pub TellsGroup : (ended : Result Unit Status) → (number before sealed : ℕ) → (wrote unwritten : Type 0)
    → (result : Result Unit Status) → Type 0
TellsGroup (Ok done) number before sealed wrote unwritten result =
    (sealed ≡ number) × wrote × ((status : Status) → IsErrOf result status → status ≡ SinkFault)
TellsGroup (Err status) number before sealed wrote unwritten result = (sealed ≡ before) × unwritten × (result ≡ Err status)
