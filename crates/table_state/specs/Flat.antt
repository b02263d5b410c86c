-- What a flat image stands for: a pool of pointers with the state of its table. This is version 0 of the image, in which five
-- chains keep the slots, the two classes of the stored table, and the two logs.
use Rattle.std.specs.Prelude.{◌≡◌, ℕ, ◌<◌, ◌≤◌, ◌^◌, ⊤, true, false, ◌&&◌, ◌==◌, nat_lt, List, [], length, take, map, fold, sum_by, Option, Some, None, Ok, if◌then◌else◌}
use Rattle.std.specs.List.{AllByRecursion, list_any}
use Rattle.ddt_entry.specs.Records.{change_in}
use Rattle.ddt_entry.specs.declared.entry.Home.{Home}
use Rattle.ddt_entry.specs.declared.entry.Entry.{Entry}
use Rattle.ddt_entry.specs.declared.entry.Change.{Change}
use Rattle.ddt_entry.specs.declared.entry.Change.TheVariants as changes
use Rattle.ddt_entry.specs.declared.entry.SlotKind.{SlotKind}
use Rattle.ddt_entry.specs.declared.entry.SlotKind.TheVariants.{Plain, Flagged}
use Rattle.disk_model.specs.Images.{Image, sector_at}
use Rattle.page_tree.specs.Chains.{chain_in}
use Rattle.page_tree.specs.declared.pointer.PagePtr.{PagePtr}
use Rattle.uber_ring.specs.Ring.{newest}
use Rattle.uber_ring.specs.declared.seal.Seal.{Seal}
use Rattle.pool_model.specs.Pool.{Pool, Pointer, Mark, plain, tracked, loose, IsWellFormed}
use Rattle.pool_model.specs.Table.{TableState, entry_at, set_entry, found, AreRising, counted_homes, Matches, waiting_in}
use Rattle.pool_model.specs.Logs.{last_changes, left_in, Logs}
use Rattle.table_state.specs.SealForms.{is_formed, modes_in, quota_in, checkpoint_in, slots_root, unique_root, duplicate_root, active_root, flushing_root}
use Rattle.slot_table.specs.Slots.{AreRisingSlots}
use Rattle.table_state.specs.SlotRecords.{slot_in}
use Rattle.slot_table.specs.declared.slot.SlotRecord.{SlotRecord}

-- the version of the image that is read and written
abbrev pub image_version : ℕ
image_version = 0

-- what the five chains keep, and the sectors of their pages in the order in which they are read
pub record Flat : Type 0 where
  pub slots : List SlotRecord
  pub unique : List Entry
  pub duplicate : List Entry
  pub active : List Change
  pub flushing : List Change
  pub named : List ℕ

-- the walk of a chain from these sectors on comes to these sectors and records
abbrev pub Reads : Image → (before : List ℕ) → Option PagePtr → (after : List ℕ) → List (List ℕ) → Type 0
Reads image before root after records = chain_in image (length image) before root ≡ Some (record { named = after; records = records })

-- the chains are read in this order, and their records spell this
pub record IsRead (image : Image) (seal : Seal) (flat : Flat) : Type 0 where
  pub after_slots : List ℕ
  pub after_unique : List ℕ
  pub after_duplicate : List ℕ
  pub after_active : List ℕ
  pub slots : List (List ℕ)
  pub unique : List (List ℕ)
  pub duplicate : List (List ℕ)
  pub active : List (List ℕ)
  pub flushing : List (List ℕ)
  pub first : Reads image [] (slots_root seal) after_slots slots
  pub second : Reads image after_slots (unique_root seal) after_unique unique
  pub third : Reads image after_unique (duplicate_root seal) after_duplicate duplicate
  pub fourth : Reads image after_duplicate (active_root seal) after_active active
  pub fifth : Reads image after_active (flushing_root seal) flat.named flushing
  pub slots_spelled : map (slot_in seal.sectors seal.group) slots ≡ map Some flat.slots
  pub unique_spelled : map change_in unique ≡ map (λ entry. Ok (changes.Entry entry)) flat.unique
  pub duplicate_spelled : map change_in duplicate ≡ map (λ entry. Ok (changes.Entry entry)) flat.duplicate
  pub active_spelled : map change_in active ≡ map Ok flat.active
  pub flushing_spelled : map change_in flushing ≡ map Ok flat.flushing

-- the ranges of an entry's numbers, in a pool of so many sectors whose last group is this one
pub record IsWithin (sectors group : ℕ) (entry : Entry) : Type 0 where
  pub place : 32 ≤ entry.home.place
  pub on_disk : entry.home.place < sectors
  pub born : 1 ≤ entry.home.birth
  pub birth : entry.home.birth ≤ group
  pub since : entry.home.since < 2 ^ 40
  pub count : entry.home.count ≤ 1048576

abbrev pub IsChangeWithin : (sectors group : ℕ) → Change → Type 0
IsChangeWithin sectors group (changes.Entry entry) = IsWithin sectors group entry
IsChangeWithin sectors group (changes.Gone key) = ⊤

-- the rules that the parts of an image keep together
pub record HoldTogether (seal : Seal) (flat : Flat) : Type 0 where
  pub pages_within : AllByRecursion (λ sector. sector < seal.sectors) flat.named
  pub slots_rising : AreRisingSlots flat.slots
  pub unique_within : AllByRecursion (IsWithin seal.sectors seal.group) flat.unique
  pub duplicate_within : AllByRecursion (IsWithin seal.sectors seal.group) flat.duplicate
  pub active_within : AllByRecursion (IsChangeWithin seal.sectors seal.group) flat.active
  pub flushing_within : AllByRecursion (IsChangeWithin seal.sectors seal.group) flat.flushing
  pub unique_rising : AreRising flat.unique
  pub duplicate_rising : AreRising flat.duplicate
  pub counted_once : AllByRecursion (λ entry. entry.home.count ≡ 1) flat.unique
  pub counted_more : AllByRecursion (λ entry. 1 < entry.home.count) flat.duplicate
  pub one_class : AllByRecursion (λ entry. entry_at entry.key flat.duplicate ≡ None) flat.unique
  pub active_changes : seal.active_changes ≡ length flat.active
  pub flushing_changes : seal.flushing_changes ≡ length flat.flushing

-- the table: both classes as one, and of each log the last change of a key; of the flushing log only what is not flushed yet and the
-- active log doesn't name
abbrev pub table_in : Seal → Flat → TableState
table_in seal flat =
    let active : List Change = last_changes flat.active in
    record {
      zap = fold (λ entries entry. set_entry entry entries) flat.unique flat.duplicate;
      active = active;
      flush = left_in (checkpoint_in seal) active flat.flushing;
      age = seal.age;
      checkpoint = checkpoint_in seal;
    }

-- how the table knows a pointer that was flagged when it was written: it counts it where the key's home has its place and birth
abbrev pub mark_by : Option Home → (place birth : ℕ) → Mark
mark_by None place birth = loose
mark_by (Some home) place birth =
    if nat_lt 0 home.count && (home.place == place) && (home.birth == birth) then tracked home.since else loose

abbrev pub mark_of : SlotKind → Option Home → (place birth : ℕ) → Mark
mark_of Plain home place birth = plain
mark_of Flagged home place birth = mark_by home place birth

-- a slot's pointer, with the bytes at its place, cut to its length
abbrev pub pointer_of : Image → TableState → SlotRecord → Pointer
pointer_of image table slot = record {
  lane = slot.lane;
  slot = slot.slot;
  key = slot.pointer.key;
  content = take slot.pointer.key.len (sector_at image slot.pointer.place);
  place = slot.pointer.place;
  birth = slot.pointer.birth;
  mark = mark_of slot.pointer.kind (found table slot.pointer.key) slot.pointer.place slot.pointer.birth;
}

-- the logs as the chains keep them
abbrev pub logs_in : Flat → Logs
logs_in flat = record { active = flat.active; flushing = flat.flushing }

abbrev pub pool_in : Image → Seal → Flat → Pool
pool_in image seal flat = record {
  pointers = map (pointer_of image (table_in seal flat)) flat.slots;
  modes = modes_in seal;
  quota = quota_in seal;
  group = seal.group;
}

-- no block lies in a page's sector
abbrev pub IsClear : (named : List ℕ) → (place : ℕ) → Type 0
IsClear named place = list_any (λ sector. sector == place) named ≡ false

-- the image stands for this pool with this table, for a key function with this tag
pub record StandsFor (tag : ℕ) (image : Image) (pool : Pool) (table : TableState) : Type 0 where
  pub seal : Seal
  pub flat : Flat
  pub counts : newest image_version image ≡ Some seal
  pub formed : is_formed tag (length image) seal ≡ true
  pub read : IsRead image seal flat
  pub whole : HoldTogether seal flat
  pub table_is : table ≡ table_in seal flat
  pub pool_is : pool ≡ pool_in image seal flat
  pub well_formed : IsWellFormed seal.sectors pool
  pub matches : Matches pool table
  pub homes : seal.homes ≡ length (counted_homes table)
  pub references : seal.counts ≡ sum_by (λ entry. entry.home.count) (counted_homes table)
  pub pages : seal.pages ≡ length flat.named
  pub pointers_clear : AllByRecursion (λ pointer. IsClear flat.named pointer.place) pool.pointers
  pub waiting_clear : AllByRecursion (λ entry. IsClear flat.named entry.home.place) (waiting_in table)

-- two images hold the same in each of these sectors
abbrev pub SameIn : (image c : Image) → List ℕ → Type 0
SameIn image c sectors = AllByRecursion (λ sector. sector_at c sector ≡ sector_at image sector) sectors

-- no seal counts: there is no pool
abbrev pub HasNoPool : Image → Type 0
HasNoPool image = newest image_version image ≡ None

-- a seal counts, and the image stands for no pool
pub record IsDamaged (tag : ℕ) (image : Image) : Type 0 where
  pub sealed : HasNoPool image → ⊥
  pub no_pool : (pool : Pool) (table : TableState) → StandsFor tag image pool table → ⊥
