-- What a session that runs no command file comes to: a pool is created, or told of.
use Rattle.std.specs.Prelude.{◌≡◌, ◌⊎◌, ℕ, ⊤, List, [], ◌∷◌, codes, length, Option, Some, IfSome}
use Rattle.std.specs.Io.KnownBytes.{Keeps, Appends}
use Rattle.io_model.specs.Outside.{Rose, TookFront}
use Rattle.disk_model.specs.Images.{Image}
use Rattle.disk_model.specs.Crashes.{DiskState, LeavesOnly, NothingPending}
use Rattle.pool_model.specs.Group.{Standing}
use Rattle.pool_model.specs.Stats.{stats_of}
use Rattle.pool_model.specs.Run.{first_standing}
use Rattle.pool_model.specs.Text.{number_line, stat_text}
use Rattle.table_state.specs.Flat.{HasNoPool, IsDamaged}
use Rattle.table_state.specs.Holding.{Holds}
use Rattle.session.specs.Devices.{Devices}
use Rattle.session.specs.Crashing.{SameFound, MayHold}
use Rattle.session.specs.Entries.{IsLawfulSize}
use Rattle.session.specs.Staying.{StaysUncreated}
use Rattle.session.specs.Stopping.{IsKept}
use Rattle.session.specs.Running.{HasNewest}
use Rattle.session.specs.declared.status.Status.{Status}
use Rattle.session.specs.declared.status.Status.TheVariants.{Done, Usage, BadFile, SourceFault, SinkFault, ReadFault, WriteFault, NoPool, Damaged, OutOfMemory, PoolExists, BadSize, LastGroup}
use Rattle.session.specs.declared.words.Look.{Look}
use Rattle.session.specs.declared.words.Look.TheVariants.{Create, Stat}

-- the text of a created pool
abbrev pub created_text : List ℕ
created_text = number_line (codes "create") 1

-- the new pool of a disk
abbrev pub new_on : Image → Standing
new_on image = first_standing (length image)

-- what a crash at return leaves of a creation: the new pool where it was sealed, either one where a write failed, and else what stood
abbrev pub CreatedAtReturn : Status → (tag : ℕ) → (image c : Image) → Type 0
CreatedAtReturn Done tag image c = Holds tag c (new_on image)
CreatedAtReturn SinkFault tag image c = Holds tag c (new_on image)
CreatedAtReturn WriteFault tag image c = SameFound image c ⊎ Holds tag c (new_on image)
CreatedAtReturn _ tag image c = SameFound image c

-- what may stand after a creation: nothing new where there is a pool already, or the disk's size isn't lawful
abbrev pub MayBeCreated : Image → (stands : List Standing) → Type 0
MayBeCreated image stands = (stands ≡ []) ⊎ ((stands ≡ new_on image ∷ []) × HasNoPool image × IsLawfulSize (length image))

-- there was no pool, the disk can have one, and now the new one is there
pub record IsCreated (disk : DiskState) (tag : ℕ) (image : Image) : Type 0 where
  pub none : HasNoPool image
  pub lawful : IsLawfulSize (length image)
  pub kept : IsKept disk tag (new_on image)

-- what was done and written by then: all at the end, and nothing but where the output failed
abbrev pub CreatedSo : Status → (created : Type 0) → (written now : Option (List ℕ)) → Type 0
CreatedSo Done created written now = created × Appends written now created_text
CreatedSo SinkFault created written now = created × TookFront written now created_text
CreatedSo _ created written now = Keeps written now

-- what a crash leaves of a creation, at each moment and at return
pub record CreationCrashes (before after : DiskState) (tag : ℕ) (image : Image) (status : Status) : Type 0 where
  pub stands : List Standing
  pub may_stand : MayBeCreated image stands
  pub any_moment : LeavesOnly before after (MayHold tag image stands)
  pub at_return : (c : Image) → after.may_leave c → CreatedAtReturn status tag image c

-- a pool was created, or not; then the disk tells what it told, but where a write failed
pub record Creates (devices : Devices) (tag : ℕ) (image : Image) (status : Status) : Type 0 where
  pub done : CreatedSo status (IsCreated devices.after tag image) devices.written devices.now
  pub stays : StaysUncreated status tag image devices.before devices.after
  pub crash : NothingPending (Some image) devices.before.may_leave → CreationCrashes devices.before devices.after tag image status

abbrev pub ToldSo : Status → (tag : ℕ) → Image → (written now : Option (List ℕ)) → Type 0
ToldSo Done tag image written now =
    (s : Standing) × Holds tag image s × Appends written now (stat_text s.pool.group s.pool.quota (stats_of s.pool))
ToldSo SinkFault tag image written now =
    (s : Standing) × Holds tag image s × TookFront written now (stat_text s.pool.group s.pool.quota (stats_of s.pool))
ToldSo _ tag image written now = Keeps written now

-- what stands was told of: its statistics were written, or a front of their text; the disk is as it was
pub record Tells (devices : Devices) (tag : ℕ) (image : Image) (status : Status) : Type 0 where
  pub stays : devices.after.seen ≡ Some image
  pub any_moment : NothingPending (Some image) devices.before.may_leave → LeavesOnly devices.before devices.after (λ c. c ≡ image)
  pub done : ToldSo status tag image devices.written devices.now

-- where a pool was created the disk's size is lawful
abbrev pub CreatesLawfully : Look → (sectors : ℕ) → Type 0
CreatesLawfully Create sectors = IsLawfulSize sectors
CreatesLawfully Stat sectors = ⊤

-- why it ended so; no other status comes
abbrev pub LookCause : Status → Look → (tag : ℕ) → Devices → Type 0
LookCause Done look tag devices = CreatesLawfully look devices.before.sectors
LookCause OutOfMemory look tag devices = ⊤
LookCause ReadFault look tag devices = Rose devices.before.read_faults devices.after.read_faults
LookCause WriteFault look tag devices = Rose devices.before.write_faults devices.after.write_faults
LookCause SinkFault look tag devices = Rose devices.sink_before devices.sink_now × CreatesLawfully look devices.before.sectors
LookCause NoPool look tag devices = (look ≡ Stat) × IfSome devices.before.seen HasNoPool
LookCause (Damaged sector) look tag devices = (look ≡ Stat) × IfSome devices.before.seen (IsDamaged tag)
LookCause (PoolExists group) look tag devices =
    (look ≡ Create) × IsLawfulSize devices.before.sectors × IfSome devices.before.seen (HasNewest group)
LookCause (BadSize sectors) look tag devices =
    (look ≡ Create) × (sectors ≡ devices.before.sectors) × (IsLawfulSize devices.before.sectors → ⊥)
LookCause Usage look tag devices = ⊥
LookCause (BadFile line kind) look tag devices = ⊥
LookCause SourceFault look tag devices = ⊥
LookCause (LastGroup group) look tag devices = ⊥
