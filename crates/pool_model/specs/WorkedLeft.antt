-- Worked examples of what stands after groups: each pointer's place, birth and moment, and the table's logs.
use Rattle.std.specs.Prelude.{◌≡◌, ℕ, ◌==◌, true, false, if◌then◌else◌, List, [], ◌∷◌, ◌++◌, replicate, map, fold, Some}
use Rattle.ddt_entry.specs.Keys.{weak_key}
use Rattle.ddt_entry.specs.declared.key.Key.{Key}
use Rattle.ddt_entry.specs.declared.entry.Entry.{Entry}
use Rattle.ddt_entry.specs.declared.entry.Change.TheVariants as changes
use Rattle.pool_model.specs.declared.commands.Mode.TheVariants.{Off, On, Verify}
use Rattle.pool_model.specs.declared.commands.PruneRule.TheVariants.{Share}
use Rattle.pool_model.specs.declared.answers.WriteAnswer.TheVariants as written
use Rattle.pool_model.specs.declared.answers.FreeAnswer.TheVariants as freed
use Rattle.pool_model.specs.declared.notes.Kind.TheVariants.{Prune}
use Rattle.pool_model.specs.declared.notes.Outcome.TheVariants.{Cut}
use Rattle.pool_model.specs.Pool.{Pointer, Mark, plain, tracked, loose, empty_pool, run_length, with_pointer}
use Rattle.pool_model.specs.Table.{TableState, empty_table}
use Rattle.pool_model.specs.Plain.{Act, write, read, free, Part, Reply, to_write, to_free, to_read, nothing, Told}
use Rattle.pool_model.specs.Group.{Standing, IsFree, AreFresh}
use Rattle.pool_model.specs.Space.{used_sectors, free_count}
use Rattle.pool_model.specs.Run.{always_sealed, last_standing, noted_course}
use Rattle.pool_model.specs.Worked.{AreNotesOf, rules_by, steps_by, new_pool, lanes_item, prune_item, quota_item, mode_item, a, b, c, task, new, hit, counted, lane_note, group_note, prune_note, settings_note}
use Rattle.pool_model.specs.WorkedTurns.{own_key}

-- from here the notes are those of a run of the items, which leaves these pointers and this table
pub record Leaves (key_of : List ℕ → Key) (s : Standing) (parts : List Part) (notes : List Told) (pointers : List Pointer)
    (table : TableState) : Type 0 where
  pub notes_are : AreNotesOf always_sealed (rules_by key_of) s parts notes
  pub pointers_left : (last_standing s (steps_by (rules_by key_of) parts s notes)).pool.pointers ≡ pointers
  pub table_left : (last_standing s (steps_by (rules_by key_of) parts s notes)).table ≡ table

-- a group of commands of lane 0, and its note
abbrev pub commands : (moment : ℕ) → List (ℕ × Act) → Part
commands moment acts = lanes_item moment (map (λ pair. task 0 pair.0 pair.1) acts)

abbrev pub told : (number : ℕ) → List Reply → (fresh : List ℕ) → Told
told number replies fresh = group_note number (lane_note 0 replies fresh ∷ [])

abbrev pub pointer : (slot : ℕ) → (content : List ℕ) → (place birth : ℕ) → Mark → Pointer
pointer slot content place birth mark =
    record { lane = 0; slot = slot; key = own_key content; content = content; place = place; birth = birth; mark = mark }

abbrev pub entry : Key → (place birth since count : ℕ) → Entry
entry key place birth since count = record { key = key; home = record { place = place; birth = birth; since = since; count = count } }

abbrev pub logged : (age : ℕ) → List Entry → TableState
logged age entries = record empty_table { active = map changes.Entry entries; age = age }

-- a hit keeps the moment of the first write
abbrev pub LaterHit : Type 0
LaterHit = Leaves own_key new_pool
    (commands 1000 ((1, write a) ∷ []) ∷ commands 2000 ((2, write a) ∷ []) ∷ [])
    (told 2 (new ∷ []) (32 ∷ []) ∷ told 3 (hit ∷ []) [] ∷ [])
    (pointer 1 a 32 2 (tracked 1000) ∷ pointer 2 a 32 2 (tracked 1000) ∷ [])
    (logged 2 (entry (own_key a) 32 2 1000 2 ∷ []))

-- a home that is taken up again keeps its place and birth, and counts from the new moment
abbrev pub TakenUp : Type 0
TakenUp = Leaves own_key new_pool
    (commands 1000 ((1, write a) ∷ []) ∷ commands 2000 ((1, free) ∷ []) ∷ commands 3000 ((2, write a) ∷ []) ∷ [])
    (told 2 (new ∷ []) (32 ∷ []) ∷ told 3 (counted ∷ []) [] ∷ told 4 (new ∷ []) [] ∷ [])
    (pointer 2 a 32 2 (tracked 3000) ∷ [])
    (logged 3 (entry (own_key a) 32 2 3000 1 ∷ []))

-- the same within one group, where only the moment changes
abbrev pub NewMoment : Type 0
NewMoment = Leaves own_key new_pool
    (commands 1000 ((1, write a) ∷ []) ∷ commands 2000 ((1, free) ∷ (2, write a) ∷ []) ∷ [])
    (told 2 (new ∷ []) (32 ∷ []) ∷ told 3 (counted ∷ new ∷ []) [] ∷ [])
    (pointer 2 a 32 2 (tracked 2000) ∷ [])
    (logged 2 (entry (own_key a) 32 2 2000 1 ∷ []))

-- a hit and a free in one group are no change, and neither is an entry that comes and goes
abbrev pub NoChange : Type 0
NoChange = Leaves own_key
    (record new_pool {
      pool = record empty_pool { pointers = pointer 1 a 32 2 (tracked 1000) ∷ [] };
      table = record empty_table { zap = entry (own_key a) 32 2 1000 1 ∷ [] };
    })
    (commands 2000 ((2, write a) ∷ (1, free) ∷ (3, write b) ∷ (3, free) ∷ []) ∷ [])
    (told 2 (hit ∷ counted ∷ new ∷ counted ∷ []) (33 ∷ []) ∷ [])
    (pointer 2 a 32 2 (tracked 1000) ∷ [])
    (record empty_table { zap = entry (own_key a) 32 2 1000 1 ∷ []; age = 1 })

-- the quota is asked before a home that waits is taken up
abbrev pub QuotaFirst : Type 0
QuotaFirst = Leaves own_key new_pool
    (quota_item (Some 256) ∷ commands 1000 ((1, write a) ∷ []) ∷ commands 2000 ((1, free) ∷ (2, write b) ∷ (3, write a) ∷ []) ∷ [])
    (settings_note 2 ∷ told 3 (new ∷ []) (32 ∷ []) ∷ told 4 (counted ∷ new ∷ to_write written.Quota ∷ []) (33 ∷ 34 ∷ []) ∷ [])
    (pointer 2 b 33 4 (tracked 2000) ∷ pointer 3 a 34 4 plain ∷ [])
    (logged 3 (entry (own_key a) 32 3 1000 0 ∷ entry (own_key b) 33 4 2000 1 ∷ []))

-- a lane that is off keeps its blocks outside the table
abbrev pub OffLane : Type 0
OffLane = Leaves own_key new_pool
    (mode_item 0 Off ∷ commands 1000 ((1, write a) ∷ (2, write a) ∷ (2, free) ∷ []) ∷ [])
    (settings_note 2 ∷ told 3 (to_write written.Off ∷ to_write written.Off ∷ to_free freed.Freed ∷ []) (32 ∷ 33 ∷ []) ∷ [])
    (pointer 1 a 32 3 plain ∷ [])
    (record empty_table { age = 2 })

-- another lane than the one that is off has its change logged, whatever its slot
abbrev pub OtherLaneOff : Type 0
OtherLaneOff = Leaves own_key new_pool
    (mode_item 1 Off ∷ commands 1000 ((1, write a) ∷ []) ∷ [])
    (settings_note 2 ∷ told 3 (new ∷ []) (32 ∷ []) ∷ [])
    (pointer 1 a 32 3 (tracked 1000) ∷ [])
    (logged 2 (entry (own_key a) 32 3 1000 1 ∷ []))

-- a lane that is off reads nothing that could fail, and neither does a write to a slot that is taken or a free outside the table
abbrev pub ReadsNothing : Type 0
ReadsNothing = (noted_course (rules_by own_key)
    (record new_pool { pool = record empty_pool { modes = Off ∷ replicate 15 On } })
    1000
    (task 0 1 (write a) ∷ task 0 1 (write b) ∷ task 0 1 free ∷ task 0 1 free ∷ task 0 1 read ∷ [])
    (told 2 (to_write written.Fault ∷ to_write written.Fault ∷ to_free freed.Fault ∷ to_free freed.Fault ∷ to_write written.Fault
    ∷ []) (32 ∷ []))).replies
    ≡ to_write written.Off ∷ to_write written.Taken ∷ to_free freed.Freed ∷ to_free freed.Empty ∷ to_read nothing ∷ []

-- an entry that is made in place of one that waits, and goes again, leaves the one that waits
abbrev pub WaitsAgain : Type 0
WaitsAgain = Leaves weak_key new_pool
    (mode_item 0 Verify ∷ commands 1000 ((1, write (97 ∷ a)) ∷ []) ∷ commands 2000 ((1, free) ∷ (2, write (97 ∷ b)) ∷ (2, free) ∷ [])
    ∷ [])
    (settings_note 2 ∷ told 3 (new ∷ []) (32 ∷ []) ∷ told 4 (counted ∷ new ∷ counted ∷ []) (33 ∷ []) ∷ [])
    []
    (logged 3 (entry (weak_key (97 ∷ a)) 32 3 1000 0 ∷ []))

-- a block that waits keeps its bytes, and a lane that verifies takes it up by them
abbrev pub BytesKept : Type 0
BytesKept = Leaves own_key new_pool
    (mode_item 0 Verify ∷ commands 1000 ((1, write a) ∷ []) ∷ commands 2000 ((1, free) ∷ []) ∷ commands 3000 []
    ∷ commands 4000 ((2, write a) ∷ []) ∷ [])
    (settings_note 2 ∷ told 3 (new ∷ []) (32 ∷ []) ∷ told 4 (counted ∷ []) [] ∷ group_note 5 [] ∷ told 6 (new ∷ []) [] ∷ [])
    (pointer 2 a 32 3 (tracked 4000) ∷ [])
    (logged 5 (entry (own_key a) 32 3 4000 1 ∷ []))

-- a prune by share takes the oldest first, whatever its key, and none that has two pointers
abbrev pub OldestFirst : Type 0
OldestFirst = Leaves own_key new_pool
    (commands 1000 ((1, write c) ∷ (2, write c) ∷ (3, write b) ∷ []) ∷ commands 2000 ((4, write a) ∷ []) ∷ prune_item 3000 (Share 50)
    ∷ [])
    (told 2 (new ∷ hit ∷ new ∷ []) (32 ∷ 33 ∷ []) ∷ told 3 (new ∷ []) (34 ∷ []) ∷ prune_note 4 1 ∷ [])
    (pointer 1 c 32 2 (tracked 1000) ∷ pointer 2 c 32 2 (tracked 1000) ∷ pointer 3 b 33 2 loose ∷ pointer 4 a 34 3 (tracked 2000) ∷ [])
    (record empty_table {
      active = changes.Entry (entry (own_key a) 34 3 2000 1) ∷ changes.Gone (own_key b)
          ∷ changes.Entry (entry (own_key c) 32 2 1000 2) ∷ [];
      age = 3;
    })

-- a prune leaves a pointer outside the table as it is
abbrev pub PlainStays : Type 0
PlainStays = Leaves
    own_key
    (record new_pool {
      pool = record empty_pool { pointers = pointer 1 a 32 1 (tracked 1000) ∷ pointer 2 a 33 1 plain ∷ [] };
      table = record empty_table { zap = entry (own_key a) 32 1 1000 1 ∷ [] };
    })
    (prune_item 2000 (Share 100) ∷ [])
    (prune_note 2 1 ∷ [])
    (pointer 1 a 32 1 loose ∷ pointer 2 a 33 1 plain ∷ [])
    (record empty_table { zap = entry (own_key a) 32 1 1000 1 ∷ []; active = changes.Gone (own_key a) ∷ []; age = 1 })

-- the quota goes by keys and not by pointers
abbrev pub QuotaByKeys : Type 0
QuotaByKeys = Leaves
    own_key
    new_pool
    (quota_item (Some 512) ∷ commands 1000 ((1, write a) ∷ (2, write a) ∷ (3, write b) ∷ (4, write c) ∷ []) ∷ [])
    (settings_note 2 ∷ told 3 (new ∷ hit ∷ new ∷ to_write written.Quota ∷ []) (32 ∷ 33 ∷ 34 ∷ []) ∷ [])
    (pointer 1 a 32 3 (tracked 1000) ∷ pointer 2 a 32 3 (tracked 1000) ∷ pointer 3 b 33 3 (tracked 1000) ∷ pointer 4 c 34 3 plain ∷ [])
    (logged 2 (entry (own_key a) 32 3 1000 2 ∷ entry (own_key b) 33 3 1000 1 ∷ []))

-- of the sector of a block that waits as many bytes count as its key says
abbrev pub CutBlock : Type 0
CutBlock = Leaves
    own_key
    (record {
      pool = record empty_pool { modes = Verify ∷ replicate 15 On };
      table = record empty_table { zap = []; active = changes.Entry (entry (own_key a) 40 1 1000 0) ∷ [] };
      logs = record { active = changes.Entry (entry (own_key a) 40 1 1000 0) ∷ []; flushing = [] };
      blocks = λ place. if place == 40 then 97 ∷ 0 ∷ 0 ∷ [] else [];
      sectors = 2048;
      pages = [];
    })
    (commands 2000 ((1, write a) ∷ []) ∷ [])
    (told 2 (new ∷ []) [] ∷ [])
    (pointer 1 a 40 1 (tracked 2000) ∷ [])
    (logged 1 (entry (own_key a) 40 1 2000 1 ∷ []))

-- pointers stand by lane and then by slot, and a block of at most 4,096 bytes takes one sector
pub record Ordered : Type 0 where
  pub pointers : (fold with_pointer empty_pool
      (record (pointer 1 a 32 2 plain) { lane = 1 } ∷ pointer 3 a 33 2 plain ∷ pointer 2 a 34 2 plain
      ∷ record (pointer 0 a 35 2 plain) { lane = 2 } ∷ [])).pointers
      ≡ pointer 2 a 34 2 plain ∷ pointer 3 a 33 2 plain ∷ record (pointer 1 a 32 2 plain) { lane = 1 }
      ∷ record (pointer 0 a 35 2 plain) { lane = 2 } ∷ []
  pub runs : map (λ bytes. run_length (record (own_key a) { len = bytes })) (1 ∷ 4096 ∷ 4097 ∷ 131072 ∷ []) ≡ 1 ∷ 1 ∷ 2 ∷ 32 ∷ []

-- a pointer's block at sector 32, and a waiting one at 33
abbrev pub two_named : Standing
two_named = record {
  pool = record empty_pool { pointers = pointer 1 a 32 1 plain ∷ [] };
  table = record empty_table { active = changes.Entry (entry (own_key b) 33 1 1000 0) ∷ [] };
  logs = record { active = changes.Entry (entry (own_key b) 33 1 1000 0) ∷ []; flushing = [] };
  blocks = λ place. b;
  sectors = 2048;
  pages = 40 ∷ [];
}

abbrev pub IsFreeThere : (place : ℕ) → Type 0
IsFreeThere place = IsFree two_named place 1

-- a place is free that no pointer, waiting home or page names, behind the ring and on the disk; two runs are apart
pub record FreePlaces : Type 0 where
  pub between : IsFreeThere 34
  pub last : IsFreeThere 2047
  pub pointed : IsFreeThere 32 → ⊥
  pub waiting : IsFreeThere 33 → ⊥
  pub page : IsFreeThere 40 → ⊥
  pub ring : IsFreeThere 31 → ⊥
  pub behind : IsFreeThere 2048 → ⊥
  pub twice : AreFresh (IsFree new_pool) ((34, 1) ∷ (34, 1) ∷ []) → ⊥
  pub apart : AreFresh (IsFree new_pool) ((34, 1) ∷ (33, 1) ∷ [])
  pub used : used_sectors 42 (40 ∷ []) two_named.pool two_named.table ≡ replicate 34 true ++ replicate 6 false ++ true ∷ false ∷ []
  pub free : free_count 42 (40 ∷ []) two_named.pool two_named.table ≡ 7

-- whether these are notes of a run of one write
abbrev pub AreNotes : List Told → Type 0
AreNotes notes = AreNotesOf always_sealed (rules_by own_key) new_pool (commands 1000 ((1, write a) ∷ []) ∷ []) notes

-- notes that tell something else than a run are none of its notes
pub record OtherNotes : Type 0 where
  pub right : AreNotes (told 2 (new ∷ []) (32 ∷ []) ∷ [])
  pub elsewhere : AreNotes (told 2 (new ∷ []) (2047 ∷ []) ∷ [])
  pub missing : AreNotes [] → ⊥
  pub one_more : AreNotes (told 2 (new ∷ []) (32 ∷ []) ∷ group_note 3 [] ∷ []) → ⊥
  pub number : AreNotes (told 3 (new ∷ []) (32 ∷ []) ∷ []) → ⊥
  pub kind : AreNotes (record (told 2 (new ∷ []) (32 ∷ [])) { kind = Prune } ∷ []) → ⊥
  pub taken : AreNotes (record (told 2 (new ∷ []) (32 ∷ [])) { taken = 1 } ∷ []) → ⊥
  pub cut : AreNotes (record (told 2 (new ∷ []) (32 ∷ [])) { outcome = Cut } ∷ []) → ⊥
  pub answer : AreNotes (told 2 (hit ∷ []) (32 ∷ []) ∷ []) → ⊥
  pub second_answer : AreNotes (told 2 (new ∷ new ∷ []) (32 ∷ []) ∷ []) → ⊥
  pub lane : AreNotes (group_note 2 (lane_note 1 (new ∷ []) (32 ∷ []) ∷ []) ∷ []) → ⊥
  pub idle_lane : AreNotes (group_note 2 (lane_note 0 (new ∷ []) (32 ∷ []) ∷ lane_note 1 [] [] ∷ []) ∷ []) → ⊥
  pub ring : AreNotes (told 2 (new ∷ []) (31 ∷ []) ∷ []) → ⊥
  pub no_place : AreNotes (told 2 (new ∷ []) [] ∷ []) → ⊥
  pub second_place : AreNotes (told 2 (new ∷ []) (32 ∷ 33 ∷ []) ∷ []) → ⊥
  pub fault : AreNotes (told 2 (to_write written.Fault ∷ []) [] ∷ []) → ⊥
