-- A group of writes of lane 0 as the definitions run it, beside what the code has of it.
use Rattle.std.specs.Prelude.{◌≡◌, ℕ, ◌+◌, ◌-◌, ◌^◌, ◌<◌, ◌≤◌, min, ⊤, Bool, true, false, List, [], ◌∷◌, length, map, take, replicate, Option, Some, None, Result, Ok, Err, slice_index_or}
use Rattle.std.specs.List.{AllByRecursion, count_by, list_any, zip}
use Rattle.std.specs.Option.{option_map}
use Rattle.ddt_entry.specs.declared.key.Key.{Key}
use Rattle.ddt_entry.specs.declared.entry.Home.{Home}
use Rattle.disk_model.specs.Images.{Image}
use Rattle.grant_book.specs.Sectors.{AreFirstFree}
use Rattle.pool_model.specs.declared.commands.Mode.{Mode}
use Rattle.pool_model.specs.declared.commands.Mode.TheVariants.{Off, On, Verify}
use Rattle.disk_model.specs.Faults.{Rose}
use Rattle.pool_model.specs.declared.faults.GroupFault.{GroupFault}
use Rattle.pool_model.specs.declared.faults.GroupFault.TheVariants as faults
use Rattle.pool_model.specs.declared.notes.Outcome.{Outcome}
use Rattle.pool_model.specs.declared.notes.Outcome.TheVariants as outcomes
use Rattle.pool_model.specs.Pool.{Pointer, is_at, tracked_at, keys_in}
use Rattle.pool_model.specs.Plain.{Task, Reply, LaneTold}
use Rattle.pool_model.specs.Mirrors.{Stored}
use Rattle.pool_model.specs.Clash.{HasNoOther, contents_in}
use Rattle.pool_model.specs.Command.{Opening, Turn, Course, known_home, last_tracked, is_fault}
use Rattle.pool_model.specs.Group.{Standing, opening_of, course_of}
use Rattle.table_state.specs.Pools.{Held, slots_after}
use Rattle.table_state.specs.Closing.{IsNamed, block_places}
use Rattle.table_state.specs.Slots.{slot_of}
use Rattle.table_state.specs.Over.{StandsOver}
use Rattle.lane_run.specs.Live.{Live, is_taken, home_here, sector_here, first_mode}

-- the home that a course knows of a key
abbrev pub home_known : Opening → Course → Key → Option Home
home_known opening course key = option_map (λ known. known.home) (known_home opening course key)

-- what has to hold of the contents, so that a shared block is what its pointers wrote: where bytes are never compared, no content may have
-- another's key
abbrev pub Trusted : Mode → (List ℕ → Key) → Standing → (others : List (List ℕ)) → Type 0
Trusted Off key_of s others = ⊤
Trusted On key_of s others = AllByRecursion (HasNoOther key_of s others) others
Trusted Verify key_of s others = ⊤

-- a pointer's block stands at its place
abbrev pub Stands : Image → List Stored → Pointer → Type 0
Stands image contents p = p.content ≡ take p.key.len (sector_here image contents p.place)

-- a pointer's place has a name, and its key a length
pub record IsPlaced (used : List Bool) (contents : List Stored) (p : Pointer) : Type 0 where
  pub named : IsNamed used contents p.place
  pub long : 0 < p.key.len

abbrev pub NoOtherThere : (List ℕ → Key) → (content : List ℕ) → Pointer → Type 0
NoOtherThere key_of content p = key_of content ≡ p.key → content ≡ p.content

-- the definitions' course beside the group so far: these fresh places are left of it
pub record IsCourse (key_of : List ℕ → Key) (image : Image) (held : Held) (s : Standing) (moment : ℕ) (others : List (List ℕ)) (live : Live)
    (more : List ℕ) (course : Course) : Type 0 where
  pub slots : slots_after live.slots held.slots ≡ map slot_of course.pool.pointers
  pub taken : (slot : ℕ) → is_taken held live slot ≡ list_any (is_at 0 slot) course.pool.pointers
  pub homes : (key : Key) → home_here held.table live.homes key ≡ home_known (opening_of key_of s moment) course key
  pub keys : live.keys ≡ length (keys_in course.pool)
  pub touched : course.touched ≡ live.named
  pub told : course.replies ≡ live.replies
  pub given_runs : course.given ≡ map (λ place. (place, 1)) (block_places live.contents)
  pub fresh : course.fresh ≡ more ∷ replicate 15 []
  pub modes : course.pool.modes ≡ held.modes
  pub quota : course.pool.quota ≡ held.quota
  pub kept : (key : Key) → tracked_at course.pool key ≡ [] → (last_tracked key course.earlier ≡ None) × (tracked_at s.pool key ≡ [])
  pub unused : AllByRecursion (λ stored. slice_index_or held.used stored.place true ≡ false) live.contents
  pub pointers : AllByRecursion (IsPlaced held.used live.contents) course.pool.pointers
  pub honest : (content : List ℕ) → HasNoOther key_of s others content → AllByRecursion (NoOtherThere key_of content) course.pool.pointers
  pub faithful : Trusted (first_mode held.modes) key_of s others → AllByRecursion (Stands image live.contents) course.pool.pointers

-- each command with its reply
abbrev pub turns_from : List Task → List Reply → List Turn
turns_from tasks replies = map (λ (pair : Task × Reply). record { task = pair.0; reply = pair.1 }) (zip tasks replies)

-- the course of these turns of lane 0, to which these places were given
abbrev pub first_course : (List ℕ → Key) → Standing → (moment : ℕ) → (given : List ℕ) → List Turn → Course
first_course key_of s moment given turns = course_of (opening_of key_of s moment) s.pool (given ∷ replicate 15 []) turns

-- a group's writes were done: each was answered, the blocks went to the first of these places, the count of faulty reads went up with the
-- faults, and over told contents it is as the definitions run it
pub record HasRun (told : Option Image) (key_of : List ℕ → Key) (held : Held) (moment : ℕ) (tasks : List Task) (places : List ℕ)
    (before now : ℕ) (live : Live) : Type 0 where
  pub each : length live.replies ≡ length tasks
  pub slots_few : length live.slots ≤ length tasks
  pub blocks_few : length live.contents ≤ length tasks
  pub places_are : block_places live.contents ≡ take (length live.contents) places
  pub counts : min (before + count_by is_fault live.replies) (2 ^ 64 - 1) ≤ now
  pub course : (image : Image) (s : Standing) → told ≡ Some image → StandsOver image held s
      → IsCourse key_of image held s moment (contents_in tasks) live []
      (first_course key_of s moment (block_places live.contents) (turns_from tasks live.replies))

-- the notes of a group's lanes: lane 0 alone, where it has commands
abbrev pub lanes_here : (tasks : List Task) → List Reply → (given : List ℕ) → (faults : ℕ) → List LaneTold
lanes_here [] replies given faults = []
lanes_here (task ∷ tasks) replies given faults = record { lane = 0; replies = replies; fresh = given; faults = faults } ∷ []

-- how a group may open: with room, or by want of room, or where the disk gave no meter
abbrev pub Opens : (lacks : Option Outcome) → (before now : ℕ) → Result (Unit {0}) GroupFault → Type 0
Opens lacks before now (Ok done) = lacks ≡ None
Opens lacks before now (Err (faults.NoSpace needed left)) = lacks ≡ Some (outcomes.NoSpace needed left)
Opens lacks before now (Err faults.ReadFault) = ⊥
Opens lacks before now (Err faults.WriteFault) = Rose before now
Opens lacks before now (Err (faults.Damaged sector)) = ⊥
Opens lacks before now (Err faults.Memory) = ⊥

-- how a lane may fail: for want of memory, or where the disk gave no meter
abbrev pub OnlyMeter : {T : Type 0} → (before now : ℕ) → Result T GroupFault → Type 0
OnlyMeter before now (Ok done) = ⊤
OnlyMeter before now (Err (faults.NoSpace needed left)) = ⊥
OnlyMeter before now (Err faults.ReadFault) = ⊥
OnlyMeter before now (Err faults.WriteFault) = Rose before now
OnlyMeter before now (Err (faults.Damaged sector)) = ⊥
OnlyMeter before now (Err faults.Memory) = ⊤

-- the writes were done over these contents, where they are told: with so many faulty reads, and blocks at the first places that were free
abbrev pub HasRunOver : Option Image → (List ℕ → Key) → Held → (moment : ℕ) → List Task → (places : List ℕ) → (faults : ℕ) → Live → Type 0
HasRunOver None key_of held moment tasks places faults live = ⊤
HasRunOver (Some image) key_of held moment tasks places faults live = HasRun (Some image) key_of held moment tasks places 0 faults live

abbrev pub HasRunFree : Option Image → (List ℕ → Key) → Held → (moment : ℕ) → List Task → (faults : ℕ) → Live → Type 0
HasRunFree told key_of held moment tasks faults live =
    (places : List ℕ) × AreFirstFree held.used (length tasks) places × HasRunOver told key_of held moment tasks places faults live
