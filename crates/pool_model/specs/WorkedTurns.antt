-- Worked examples of many groups, and of what a device or a full disk makes of a group.
use Rattle.std.specs.Prelude.{◌≡◌, ℕ, Bool, true, false, ◌++◌, List, [], ◌∷◌, replicate, codes, length, map, None}
use Rattle.std.specs.List.{range_with_len}
use Rattle.ddt_entry.specs.Keys.{sha256_key}
use Rattle.ddt_entry.specs.declared.key.Key.{Key}
use Rattle.ddt_entry.specs.declared.entry.Change.TheVariants as changes
use Rattle.pool_model.specs.declared.commands.Mode.TheVariants.{On, Verify}
use Rattle.pool_model.specs.declared.commands.PruneRule.TheVariants.{Age}
use Rattle.pool_model.specs.declared.answers.WriteAnswer.TheVariants as written
use Rattle.pool_model.specs.declared.answers.FreeAnswer.TheVariants as freed
use Rattle.pool_model.specs.declared.notes.Kind.TheVariants.{Lanes}
use Rattle.pool_model.specs.declared.notes.Outcome.TheVariants.{NoSpace, Cut}
use Rattle.pool_model.specs.Pool.{plain, empty_pool}
use Rattle.pool_model.specs.Table.{empty_table}
use Rattle.pool_model.specs.Plain.{write, read, free, Part, stat, «import», to_write, to_free, to_read, unread, unsound, Told}
use Rattle.pool_model.specs.Group.{Standing}
use Rattle.pool_model.specs.Run.{RunStep, HasFlatRoom}
use Rattle.pool_model.specs.Text.{report}
use Rattle.pool_model.specs.Crash.{begun, StandsAt}
use Rattle.pool_model.specs.Worked.{IsWorked, IsWorkedAnew, AreNotesOf, rules_by, steps_by, new_pool, lanes_item, prune_item, a, b, task, new, hit, counted, seen, lane_note, group_note, prune_note}

-- so many groups without commands
abbrev pub idle : (count : ℕ) → List Part
idle count = replicate count (lanes_item 1000 [])

abbrev pub idle_notes : (first count : ℕ) → List Told
idle_notes first count = map (λ number. group_note number []) (range_with_len first count)

-- a block whose last pointer went keeps its place through a swap of the logs, and a write takes it up again there
abbrev pub WaitingHome : Type 0
WaitingHome = IsWorkedAnew
    (lanes_item 1000 (task 0 1 (write a) ∷ []) ∷ lanes_item 1000 (task 0 1 free ∷ []) ∷ idle 6
    ++ lanes_item 1000 (task 0 2 (write a) ∷ []) ∷ idle 8
    ++ «import» ∷ lanes_item 1000 (task 0 2 read ∷ []) ∷ [])
    (group_note 2 (lane_note 0 (new ∷ []) (32 ∷ []) ∷ []) ∷ group_note 3 (lane_note 0 (counted ∷ []) [] ∷ []) ∷ idle_notes 4 6
    ++ group_note 10 (lane_note 0 (new ∷ []) [] ∷ []) ∷ idle_notes 11 8 ++ group_note 19 (lane_note 0 (seen a ∷ []) [] ∷ []) ∷ [])
    (codes "group 2 sealed\n0 write 1 new\ngroup 3 sealed\n0 free 1 counted\ngroup 4 sealed\ngroup 5 sealed\ngroup 6 sealed\ngroup 7 sealed\ngroup 8 sealed\ngroup 9 sealed\ngroup 10 sealed\n0 write 2 new\ngroup 11 sealed\ngroup 12 sealed\ngroup 13 sealed\ngroup 14 sealed\ngroup 15 sealed\ngroup 16 sealed\ngroup 17 sealed\ngroup 18 sealed\nimport 18\ngroup 19 sealed\n0 read 2 bytes 61\n")

-- a block of four bytes, big-endian
abbrev pub word : ℕ → List ℕ
word n = 0 ∷ 0 ∷ 0 ∷ n ∷ []

-- a block as its own key
abbrev pub own_key : List ℕ → Key
own_key content = record { digest = content; len = length content }

-- two lanes write four blocks each, and free every other one
abbrev pub TwoLanes : Type 0
TwoLanes = IsWorked own_key new_pool
    (lanes_item 1000000 (task 0 0 (write (word 0)) ∷ task 0 1 (write (word 0)) ∷ task 0 2 (write (word 2)) ∷ task 0 3 (write (word 3))
    ∷ task 1 0 (write (word 0)) ∷ task 1 1 (write (word 0)) ∷ task 1 2 (write (word 2)) ∷ task 1 3 (write (word 2)) ∷ [])
    ∷ lanes_item 1000001 (task 0 1 free ∷ task 0 3 free ∷ task 1 1 free ∷ task 1 3 free ∷ []) ∷ idle 8 ++ prune_item 1100000 (Age 1)
    ∷ «import» ∷ stat ∷ [])
    (group_note 2 (lane_note 0 (new ∷ hit ∷ new ∷ new ∷ []) (32 ∷ 33 ∷ 34 ∷ []) ∷ lane_note 1 (hit ∷ hit ∷ hit ∷ hit ∷ []) [] ∷ [])
    ∷ group_note 3 (lane_note 0 (counted ∷ counted ∷ []) [] ∷ lane_note 1 (counted ∷ counted ∷ []) [] ∷ []) ∷ idle_notes 4 8
    ++ prune_note 12 0 ∷ [])
    (codes "group 2 sealed\n0 write 0 new\n0 write 1 hit\n0 write 2 new\n0 write 3 new\n1 write 0 hit\n1 write 1 hit\n1 write 2 hit\n1 write 3 hit\ngroup 3 sealed\n0 free 1 counted\n0 free 3 counted\n1 free 1 counted\n1 free 3 counted\ngroup 4 sealed\ngroup 5 sealed\ngroup 6 sealed\ngroup 7 sealed\ngroup 8 sealed\ngroup 9 sealed\ngroup 10 sealed\ngroup 11 sealed\nprune 12 sealed 0\nimport 12\nstat 12\nquota none\nkeys 2\nunique 0\nduplicate 2\nrefs 4\nloose 0\nplain 0\nallocated 8\nreferenced 16\nbucket 2 keys 2 allocated 8 referenced 16\n")

-- a command whose reads fail answers so and changes nothing
abbrev pub FailedReads : Type 0
FailedReads = IsWorkedAnew
    (lanes_item 1000 (task 0 1 (write a) ∷ task 0 2 (write b) ∷ task 1 1 (write a) ∷ [])
    ∷ lanes_item 1001 (task 1 1 read ∷ task 1 1 free ∷ task 1 1 read ∷ []) ∷ [])
    (group_note 2 (record (lane_note 0 (to_write written.Fault ∷ new ∷ []) (32 ∷ [])) { faults = 1 } ∷ lane_note 1 (new ∷ []) (33 ∷ [])
    ∷ [])
    ∷ group_note 3 (record (lane_note 1 (to_read unread ∷ to_free freed.Fault ∷ seen a ∷ []) []) { faults = 2 } ∷ []) ∷ [])
    (codes "group 2 sealed\n0 write 1 fault\n0 write 2 new\n1 write 1 new\ngroup 3 sealed\n1 read 1 fault\n1 free 1 fault\n1 read 1 bytes 61\n")

-- an entry without pointers and a pointer outside the table, whose blocks went bad
abbrev pub spoilt : Standing
spoilt = record {
  pool = record empty_pool {
    pointers = record {
      lane = 0;
      slot = 5;
      key = sha256_key a;
      content = b;
      place = 50;
      birth = 2;
      mark = plain;
    } ∷ [];
    modes = Verify ∷ replicate 15 On;
    quota = None;
    group = 2;
  };
  table = record empty_table {
    active = changes.Entry (record {
      key = sha256_key a;
      home = record { place = 40; birth = 2; since = 1000; count = 0 };
    }) ∷ [];
  };
  logs = record {
    active = changes.Entry (record {
      key = sha256_key a;
      home = record { place = 40; birth = 2; since = 1000; count = 0 };
    }) ∷ [];
    flushing = [];
  };
  blocks = λ place. b;
  sectors = 2048;
  pages = [];
}

-- a lane that verifies reads that block and sees it, and so does a read; a lane that doesn't takes the place up, and a free reads nothing
abbrev pub SpoiltBlock : Type 0
SpoiltBlock = IsWorked sha256_key spoilt
    (lanes_item 2000 (task 0 1 (write a) ∷ task 1 1 (write a) ∷ task 1 1 read ∷ task 0 5 read ∷ task 0 5 free ∷ []) ∷ [])
    (group_note 3 (lane_note 0 (to_write (written.Damaged 40) ∷ to_read (unsound 50) ∷ to_free freed.Freed ∷ []) []
    ∷ lane_note 1 (new ∷ seen a ∷ []) [] ∷ []) ∷ [])
    (codes "group 3 sealed\n0 write 1 damaged 40\n0 read 5 damaged 50\n0 free 5 freed\n1 write 1 new\n1 read 1 bytes 61\n")

-- 54 writes and so many frees of slots that are empty, one group after another, and then one free
abbrev pub crowded : (frees : ℕ) → List Part
crowded frees =
    lanes_item 1000 (map (λ slot. task 0 slot (write (word slot))) (range_with_len 0 54) ++ replicate frees (task 0 100 free))
    ∷ lanes_item 1001 (task 0 1 free ∷ []) ∷ []

abbrev pub no_room : (number needed left : ℕ) → Told
no_room number needed left = record { number = number; kind = Lanes; outcome = NoSpace needed left; taken = 0; lanes = [] }

abbrev pub one_free : Told
one_free = group_note 2 (lane_note 0 (to_free freed.Empty ∷ []) [] ∷ [])

-- a group without room takes no number: a new pool on 2,048 sectors has 2,016 free, and this group needs 12 more; with 12 fewer needed it
-- had room
pub record NoRoom : Type 0 where
  pub notes : AreNotesOf HasFlatRoom (rules_by own_key) new_pool (crowded 12) (no_room 2 2028 2016 ∷ one_free ∷ [])
  pub text : report (steps_by (rules_by own_key) (crowded 12) new_pool (no_room 2 2028 2016 ∷ one_free ∷ []))
      ≡ codes "group 2 nospace 2028 2016\ngroup 2 sealed\n0 free 1 empty\n"
  pub had_room : AreNotesOf HasFlatRoom (rules_by own_key) new_pool (crowded 11) (no_room 2 2016 2016 ∷ one_free ∷ []) → ⊥

-- ---- What a crash may leave of a group that was cut

abbrev pub one_write : List Part
one_write = lanes_item 1000 (task 0 1 (write a) ∷ []) ∷ []

-- a sealed group that writes, and one that was cut with this note
abbrev pub cut_steps : Told → List RunStep
cut_steps told = steps_by (rules_by own_key) (one_write ++ lanes_item 1001 (task 0 2 (write b) ∷ []) ∷ []) new_pool
    (group_note 2 (lane_note 0 (new ∷ []) (32 ∷ []) ∷ []) ∷ record told { outcome = Cut } ∷ [])

abbrev pub with_lane : Told
with_lane = group_note 3 (lane_note 0 (new ∷ []) (33 ∷ []) ∷ [])

-- of standings with these groups, the one of this group may stand, or where a write failed the next
abbrev pub MayBe : (failed : Bool) → (sealed found : ℕ) → List RunStep → Type 0
MayBe failed sealed found steps = StandsAt (λ s. s.pool.group ≡ found) failed sealed (new_pool ∷ begun steps)

-- a group that was cut may stand once its lanes are noted, where a write failed; without its lanes it was given up before its sync
pub record CutGroup : Type 0 where
  pub groups : map (λ s. s.pool.group) (begun (cut_steps with_lane)) ≡ 2 ∷ 3 ∷ []
  pub given_up : map (λ s. s.pool.group) (begun (cut_steps (group_note 3 []))) ≡ 2 ∷ []
  pub before : MayBe true 2 2 (cut_steps with_lane)
  pub after : MayBe true 2 3 (cut_steps with_lane)
  pub no_write_failed : MayBe false 2 3 (cut_steps with_lane) → ⊥
  pub rolled_back : MayBe true 2 1 (cut_steps with_lane) → ⊥
