-- What a session that runs a command file comes to: of the input, of the session's notes, of what was written, of the disk.
use Rattle.std.specs.Prelude.{◌≡◌, ◌⊎◌, ◌≤◌, ◌<◌, ◌+◌, ◌-◌, ◌^◌, ℕ, Bool, true, false, ⊤, min, List, [], ◌∷◌, length, map, sum_by, Option, Some, Ok, Err, IfSome}
use Rattle.std.specs.Io.KnownBytes.{Keeps}
use Rattle.io_model.specs.Outside.{Rose, HasRead}
use Rattle.cmd_file.specs.Reading.{IsReadOut}
use Rattle.disk_model.specs.Images.{Image}
use Rattle.disk_model.specs.Crashes.{DiskState, NothingPending}
use Rattle.pool_model.specs.declared.notes.Session.{Session}
use Rattle.pool_model.specs.Plain.{Part, Told, told_of}
use Rattle.pool_model.specs.Group.{Standing, Rules}
use Rattle.pool_model.specs.Run.{RunStep, last_standing, notes_of, first_standing}
use Rattle.pool_model.specs.Crash.{begun}
use Rattle.pool_model.specs.File.{file_of}
use Rattle.uber_ring.specs.Ring.{newest}
use Rattle.uber_ring.specs.declared.seal.Seal.{Seal}
use Rattle.table_state.specs.Flat.{HasNoPool, IsDamaged, image_version}
use Rattle.table_state.specs.Holding.{Holds}
use Rattle.session.specs.Devices.{Devices, Input}
use Rattle.session.specs.Origins.{origin, may_begin, may_not_begin}
use Rattle.session.specs.Crashing.{Crashes}
use Rattle.session.specs.Entries.{BeginsAt, IsLawfulSize, HasNoClashFrom, last_start}
use Rattle.session.specs.Staying.{StaysSo}
use Rattle.session.specs.Stopping.{WentSo}
use Rattle.session.specs.declared.status.Status.{Status}
use Rattle.session.specs.declared.status.Status.TheVariants.{Done, Usage, BadFile, SourceFault, SinkFault, ReadFault, WriteFault, NoPool, Damaged, OutOfMemory, PoolExists, BadSize, LastGroup}
use Rattle.session.specs.declared.words.Word.{Word}
use Rattle.session.specs.declared.words.Word.TheVariants.{Run, Make}

-- the session's notes, seen plainly
abbrev pub told_in : Session → List Told
told_in session = map told_of session.groups.items

-- a session that did nothing
pub record IsUntouched (session : Session) : Type 0 where
  pub groups : session.groups.items ≡ []
  pub sealed : session.sealed ≡ 0

-- ---- What a run over an image comes to

-- whether a session ended by a failed write of the disk
abbrev pub is_write_fault : Status → Bool
is_write_fault WriteFault = true
is_write_fault _ = false

-- the steps of the items from where they begin: the session's notes are theirs, its newest group is the last that they sealed, and a crash
-- leaves one of those that were begun
pub record Went (devices : Devices) (rules : Rules) (image : Image) (s : Standing) (parts : List Part) (session : Session)
    (status : Status) : Type 0 where
  pub steps : List RunStep
  pub notes : told_in session ≡ notes_of steps
  pub sealed : session.sealed ≡ (last_standing s steps).pool.group
  pub far : WentSo status devices rules s parts steps
  pub crash : NothingPending (Some image) devices.before.may_leave
      → Crashes devices.before devices.after rules.keying.tag image (s ∷ begun steps) (is_write_fault status) session.sealed

-- the items begin at what stands there, and, where no two contents clash, they went as in a run
pub record HasBegunItems (devices : Devices) (word : Word) (rules : Rules) (image : Image) (parts : List Part) (session : Session)
    (status : Status) : Type 0 where
  pub s : Standing
  pub begins : BeginsAt word rules.keying.tag image s
  pub may : may_begin (origin status) ≡ true
  pub went : HasNoClashFrom rules s parts → Went devices rules image s parts session status

-- the file was read to its end, and its items began
pub record HasBegun (devices : Devices) (input : Input) (word : Word) (rules : Rules) (image : Image) (session : Session)
    (status : Status) : Type 0 where
  pub bytes : List ℕ
  pub parts : List Part
  pub read : HasRead input.left input.rest bytes
  pub file : file_of bytes ≡ Ok parts
  pub items : HasBegunItems devices word rules image parts session status

-- what the image holds, or the new pool that is made where there is none
abbrev pub MayStand : Word → (tag : ℕ) → Image → Standing → Type 0
MayStand Run tag image s = Holds tag image s
MayStand Make tag image s = HasNoPool image × IsLawfulSize (length image) × (s ≡ first_standing (length image))

-- the newest group that a session has imported which ended before its items
abbrev pub imported_by : Status → ℕ
imported_by (LastGroup group) = group
imported_by _ = 0

-- a crash leaves what stood, or the new pool
pub record CrashesEarly (before after : DiskState) (word : Word) (tag : ℕ) (image : Image) (sealed : ℕ) (status : Status) : Type 0 where
  pub stands : List Standing
  pub may_stand : (stands ≡ []) ⊎ ((s : Standing) × (stands ≡ s ∷ []) × MayStand word tag image s)
  pub crash : Crashes before after tag image stands (is_write_fault status) sealed

-- no item was begun: nothing is noted or written, and the disk tells what it told, but for a new pool whose making failed
pub record HasNotBegun (devices : Devices) (word : Word) (tag : ℕ) (image : Image) (session : Session) (status : Status) : Type 0 where
  pub groups : session.groups.items ≡ []
  pub sealed : session.sealed ≡ imported_by status
  pub unwritten : Keeps devices.written devices.now
  pub early : may_not_begin (origin status) ≡ true
  pub stays : StaysSo status word tag image devices.before devices.after
  pub crash : NothingPending (Some image) devices.before.may_leave
      → CrashesEarly devices.before devices.after word tag image session.sealed status

-- a session over an image that ended so: its items began, or they didn't
abbrev pub RanOver : Devices → Input → Word → Rules → Image → Session → Status → Type 0
RanOver devices input word rules image session status =
    HasBegun devices input word rules image session status ⊎ HasNotBegun devices word rules.keying.tag image session status

-- ---- Why a session ended so

-- the source was read to its end, and its bytes are some items
pub record IsFileRead (left rest : Option (List ℕ)) : Type 0 where
  pub bytes : List ℕ
  pub parts : List Part
  pub read : HasRead left rest bytes
  pub file : file_of bytes ≡ Ok parts

-- what a status says of the command file: it is bad, it couldn't be read, or, where neither the words nor want of memory ended the session,
-- it is good and was read to its end
abbrev pub ReadSo : Status → Input → Type 0
ReadSo Usage input = ⊤
ReadSo (BadFile line kind) input =
    (bytes : List ℕ) × IsReadOut input.left input.rest bytes × (file_of bytes ≡ Err (record { line = line; kind = kind }))
ReadSo SourceFault input = Rose input.faults_before input.faults_now
ReadSo OutOfMemory input = ⊤
ReadSo _ input = IsFileRead input.left input.rest

-- a count that rose by more than so many faults
abbrev pub RoseBeyond : (faults before now : ℕ) → Type 0
RoseBeyond faults before now = min (before + faults + 1) (2 ^ 64 - 1) ≤ now

-- the faults that a session's lanes had
abbrev pub faults_in : Session → ℕ
faults_in session = sum_by (λ told. sum_by (λ lane. lane.faults) told.lanes) (told_in session)

-- a seal of this group counts
abbrev pub HasNewest : (group : ℕ) → Image → Type 0
HasNewest group image = (seal : Seal) × (newest image_version image ≡ Some seal) × (seal.group ≡ group)

-- why a session ended so: by the counts of the disk and of the output, and by what the disk tells; so many faults are noted
abbrev pub HasCauseFor : Status → Word → (tag : ℕ) → Devices → (faults : ℕ) → Type 0
HasCauseFor Done word tag devices faults = ⊤
HasCauseFor Usage word tag devices faults = ⊤
HasCauseFor (BadFile line kind) word tag devices faults = ⊤
HasCauseFor SourceFault word tag devices faults = ⊤
HasCauseFor OutOfMemory word tag devices faults = ⊤
HasCauseFor ReadFault word tag devices faults = RoseBeyond faults devices.before.read_faults devices.after.read_faults
HasCauseFor WriteFault word tag devices faults = Rose devices.before.write_faults devices.after.write_faults
HasCauseFor SinkFault word tag devices faults = Rose devices.sink_before devices.sink_now
HasCauseFor (BadSize sectors) word tag devices faults =
    (word ≡ Make) × (sectors ≡ devices.before.sectors) × (IsLawfulSize devices.before.sectors → ⊥)
HasCauseFor (PoolExists group) word tag devices faults =
    (word ≡ Make) × IsLawfulSize devices.before.sectors × IfSome devices.before.seen (HasNewest group)
HasCauseFor NoPool word tag devices faults = IfSome devices.before.seen (λ image. (word ≡ Run) × HasNoPool image)
HasCauseFor (Damaged sector) word tag devices faults = IfSome devices.before.seen (λ image. (word ≡ Run) × IsDamaged tag image)
HasCauseFor (LastGroup group) word tag devices faults =
    IfSome devices.before.seen
    (λ image. (word ≡ Run) × (last_start < group) × ((s : Standing) × Holds tag image s × (s.pool.group ≡ group)))

-- where a new pool is to be made on a disk whose size isn't lawful, that ends the session, if neither the file nor want of memory did
abbrev pub SizedSo : Status → (refused : Type 0) → Type 0
SizedSo (BadSize sectors) refused = refused
SizedSo Usage refused = ⊤
SizedSo (BadFile line kind) refused = ⊤
SizedSo SourceFault refused = ⊤
SizedSo OutOfMemory refused = ⊤
SizedSo Done refused = ⊥
SizedSo SinkFault refused = ⊥
SizedSo ReadFault refused = ⊥
SizedSo WriteFault refused = ⊥
SizedSo NoPool refused = ⊥
SizedSo (Damaged sector) refused = ⊥
SizedSo (PoolExists group) refused = ⊥
SizedSo (LastGroup group) refused = ⊥
