-- What the program's session comes to, over whatever disk and over a new one in memory.
use Rattle.std.specs.Prelude.{◌≡◌, ℕ, List, [], Option, Some}
use Rattle.ddt_entry.specs.Keys.{Keying, sha256_key}
use Rattle.disk_model.specs.Images.{Image}
use Rattle.disk_model.specs.Crashes.{DiskState, NothingPending}
use Rattle.disk_model.specs.Memory.{MemoryDisk, state_of, new_disk, padded}
use Rattle.pool_model.specs.declared.notes.Session.{Session}
use Rattle.pool_model.specs.Group.{lanes_in_turn}
use Rattle.session.specs.Devices.{Devices, Input, between}
use Rattle.session.specs.Looking.{Creates, LookCause, Tells}
use Rattle.session.specs.Entries.{IsLawfulSize}
use Rattle.session.specs.Running.{HasCauseFor, RanOver, ReadSo, SizedSo, faults_in}
use Rattle.session.specs.declared.status.Status.{Status}
use Rattle.session.specs.declared.words.Look.{Look}
use Rattle.session.specs.declared.words.Look.TheVariants.{Create, Stat}
use Rattle.session.specs.declared.words.Word.{Word}
use Rattle.dedup_tool.specs.Ending.{by_memory}

-- keys by SHA-256
abbrev pub by_sha256 : Keying
by_sha256 = record { key_of = sha256_key; tag = 1 }

-- a session that ran a command file, with these notes, where nothing was pending at its start
pub record Ran (devices : Devices) (input : Input) (word : Word) (session : Session) (status : Status) : Type 0 where
  pub quiet : NothingPending devices.before.seen devices.before.may_leave
  -- over contents that are told
  pub over : (image : Image) → devices.before.seen ≡ Some image → RanOver devices input word (lanes_in_turn by_sha256) image session status
  pub read : ReadSo status input
  pub cause : HasCauseFor status word by_sha256.tag devices (faults_in session)

-- what a session that ran none comes to over contents that are told
abbrev pub LookedOver : Devices → Look → Image → Status → Type 0
LookedOver devices Create image status = Creates devices by_sha256.tag image status
LookedOver devices Stat image status = Tells devices by_sha256.tag image status

-- a session that ran none
pub record Looked (devices : Devices) (look : Look) (status : Status) : Type 0 where
  pub over : (image : Image) → devices.before.seen ≡ Some image → LookedOver devices look image status
  pub cause : LookCause status look by_sha256.tag devices

-- where a pool is to be made on a disk whose size isn't lawful, that ends the session, if neither the file nor want of memory did
abbrev pub MakesOnly : (sectors : ℕ) → Status → Type 0
MakesOnly sectors status = (IsLawfulSize sectors → ⊥) → SizedSo status Unit

-- a session that ran a command file over a disk, whatever was on the standard streams
pub record ServedFile (before after : DiskState) (word : Word) (status : Status) : Type 0 where
  pub written : Option (List ℕ)
  pub now : Option (List ℕ)
  pub sink_before : ℕ
  pub sink_now : ℕ
  pub input : Input
  pub session : Session
  pub ran : Ran (between before after written now sink_before sink_now) input word session status

-- a session that ran none over a disk, whatever was on the standard streams
pub record ServedLook (before after : DiskState) (look : Look) (status : Status) : Type 0 where
  pub written : Option (List ℕ)
  pub now : Option (List ℕ)
  pub sink_before : ℕ
  pub sink_now : ℕ
  pub looked : Looked (between before after written now sink_before sink_now) look status

-- a new disk in memory
abbrev pub blank : (sectors : ℕ) → MemoryDisk
blank sectors = new_disk sectors (padded sectors [])

-- a session that ran a command file over a new disk in memory ended so
pub record RanInMemory (sectors : ℕ) (word : Word) (status : Status) : Type 0 where
  pub disk : MemoryDisk
  pub served : Status
  pub ended : status ≡ by_memory disk.starved served
  pub ran : ServedFile (state_of (blank sectors)) (state_of disk) word served

-- a session that ran none over a new disk in memory ended so
pub record LookedInMemory (sectors : ℕ) (look : Look) (status : Status) : Type 0 where
  pub disk : MemoryDisk
  pub served : Status
  pub ended : status ≡ by_memory disk.starved served
  pub looked : ServedLook (state_of (blank sectors)) (state_of disk) look served
