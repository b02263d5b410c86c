-- What a group's sync writes: the records of the five chains, and the seal.
use Rattle.std.specs.Prelude.{◌≡◌, ℕ, ◌≤◌, true, List, [], ◌∷◌, ◌++◌, length, map, replicate, sum_by, Option, Some, None, IfSome}
use Rattle.std.specs.List.{AllByRecursion, flat_map}
use Rattle.ddt_entry.specs.Spelling.{record_bytes, IsKeyLength, Fits as ChangeFits}
use Rattle.ddt_entry.specs.declared.key.Key.{Key}
use Rattle.ddt_entry.specs.declared.entry.Entry.{Entry}
use Rattle.ddt_entry.specs.declared.entry.Change.TheVariants as changes
use Rattle.ddt_entry.specs.declared.entry.Pointer.{Pointer as SlotPointer}
use Rattle.disk_model.specs.Images.{Image, sector_at}
use Rattle.page_tree.specs.Chains.{pointer_or_null}
use Rattle.page_tree.specs.ChainWrites.{Chain, chain_of, pages_for, HoldsWrites, AreOpen}
use Rattle.page_tree.specs.Pointers.{null_pointer}
use Rattle.page_tree.specs.declared.pointer.PagePtr.{PagePtr}
use Rattle.uber_ring.specs.Ring.{newest}
use Rattle.uber_ring.specs.declared.seal.Seal.{Seal}
use Rattle.pool_model.specs.declared.commands.Mode.{Mode}
use Rattle.pool_model.specs.declared.closed.SlotChange.{SlotChange}
use Rattle.pool_model.specs.Pool.{Pool, IsWellFormed}
use Rattle.pool_model.specs.Mirrors.{Stored}
use Rattle.pool_model.specs.Table.{TableState, Matches, waiting_in, counted_homes, IsTable}
use Rattle.pool_model.specs.Replaying.{LoggedTable, Replays}
use Rattle.table_state.specs.SealForms.{fewest_sectors, most_sectors, last_group}
use Rattle.table_state.specs.Spelling.{mode_byte, slot_bytes, FitsSlot}
use Rattle.table_state.specs.SlotRecords.{is_slot}
use Rattle.slot_table.specs.Slots.{AreRisingSlots}
use Rattle.table_state.specs.Flat.{Flat, image_version, IsClear, IsWithin}
use Rattle.table_state.specs.Tables.{AreLogsWithin, HaveKeyLengths, unique_in, duplicate_in}
use Rattle.table_state.specs.Pools.{with_blocks}
use Rattle.slot_table.specs.declared.slot.SlotRecord.{SlotRecord}

-- a chain that is to be written: its records, and a place for each page
pub record ChainPart : Type 0 where
  pub places : List ℕ
  pub records : List (List ℕ)

abbrev pub part_chain : ChainPart → Chain
part_chain part = chain_of part.places part.records

-- the places of all pages, in the order in which they are read again
abbrev pub places_in : List ChainPart → List ℕ
places_in parts = flat_map (λ part. part.places) parts

abbrev pub roots_of : List ChainPart → List PagePtr
roots_of parts = map (λ part. pointer_or_null (part_chain part).root) parts

-- an image holds the pages of these chains
abbrev pub HoldsParts : Image → List ChainPart → Type 0
HoldsParts image parts = AllByRecursion (λ part. HoldsWrites image (part_chain part).writes) parts

abbrev pub entry_bytes : Entry → List ℕ
entry_bytes entry = record_bytes (changes.Entry entry)

-- the records of the five chains: slots, unique, duplicate, active, flushing
abbrev pub records_in : List SlotRecord → LoggedTable → List (List (List ℕ))
records_in slots kept =
    map slot_bytes slots ∷ map entry_bytes (unique_in kept.table.zap) ∷ map entry_bytes (duplicate_in kept.table.zap)
    ∷ map record_bytes kept.logs.active ∷ map record_bytes kept.logs.flushing ∷ []

-- what an image keeps then
abbrev pub flat_of : List SlotRecord → LoggedTable → (pages : List ℕ) → Flat
flat_of slots kept pages = record {
  slots = slots;
  unique = unique_in kept.table.zap;
  duplicate = duplicate_in kept.table.zap;
  active = kept.logs.active;
  flushing = kept.logs.flushing;
  named = pages;
}

-- ---- The seal

abbrev pub flag_of : {X : Type 0} → Option X → ℕ
flag_of None = 0
flag_of (Some value) = 1

abbrev pub quota_number : Option ℕ → ℕ
quota_number None = 0
quota_number (Some quota) = quota

abbrev pub checkpoint_len : Option Key → ℕ
checkpoint_len None = 0
checkpoint_len (Some key) = key.len

abbrev pub checkpoint_digest : Option Key → List ℕ
checkpoint_digest None = replicate 32 0
checkpoint_digest (Some key) = key.digest

-- the seal of a group: the settings, the state of the table, the roots of the five chains with a null pointer behind them, and the sums
abbrev pub seal_of : (tag sectors group : ℕ) → List Mode → Option ℕ → LoggedTable → (roots : List PagePtr) → (pages : ℕ) → Seal
seal_of tag sectors group modes quota kept roots pages = record {
  version = image_version;
  tag = tag;
  group = group;
  sectors = sectors;
  quota = quota_number quota;
  quota_flag = flag_of quota;
  modes = map mode_byte modes;
  age = kept.table.age;
  active_changes = length kept.logs.active;
  flushing_changes = length kept.logs.flushing;
  checkpoint_flag = flag_of kept.table.checkpoint;
  checkpoint_len = checkpoint_len kept.table.checkpoint;
  checkpoint_digest = checkpoint_digest kept.table.checkpoint;
  pointers = roots ++ null_pointer ∷ [];
  homes = length (counted_homes kept.table);
  counts = sum_by (λ entry. entry.home.count) (counted_homes kept.table);
  pages = pages;
}

-- ---- When an image holds all of a group

-- slots, a table and its logs that an image can keep: in their ranges, sorted, each with a spelling
pub record CanBeKept (sectors group : ℕ) (slots : List SlotRecord) (kept : LoggedTable) : Type 0 where
  pub enough : fewest_sectors ≤ sectors
  pub few : sectors ≤ most_sectors
  pub first : 1 ≤ group
  pub last : group ≤ last_group
  pub slots_within : AllByRecursion (λ slot. is_slot sectors group slot ≡ true) slots
  pub slots_rising : AreRisingSlots slots
  pub slots_fit : AllByRecursion FitsSlot slots
  pub sorted : IsTable kept.table
  pub replays : Replays kept.table kept.logs
  pub zap_within : AllByRecursion (IsWithin sectors group) kept.table.zap
  pub logs_within : AreLogsWithin sectors group kept.logs
  pub zap_fits : AllByRecursion (λ entry. ChangeFits (changes.Entry entry)) kept.table.zap
  pub active_fits : AllByRecursion ChangeFits kept.logs.active
  pub flushing_fits : AllByRecursion ChangeFits kept.logs.flushing
  pub zap_lengths : AllByRecursion (λ entry. IsKeyLength entry.key.len) kept.table.zap
  pub log_lengths : HaveKeyLengths kept.logs
  pub checkpoint : kept.table.flush ≡ [] → kept.table.checkpoint ≡ None

-- the slot that a change makes of a pointer
abbrev pub changed_slot : SlotChange → SlotPointer → SlotRecord
changed_slot change pointer = record { lane = change.lane; slot = change.slot; pointer = pointer }

-- a change of a slot that there is, to a pointer in its ranges that has a spelling, or to none
pub record ChangesSlotWithin (sectors group : ℕ) (change : SlotChange) : Type 0 where
  pub lane : change.lane ≤ 15
  pub slot : change.slot ≤ 65_535
  pub pointer : IfSome change.pointer
      (λ pointer. (is_slot sectors group (changed_slot change pointer) ≡ true) × FitsSlot (changed_slot change pointer))

-- the pool and the table that an image has to stand for, and no block in a page's sector
pub record CanStand (sectors : ℕ) (places : List ℕ) (pool : Pool) (table : TableState) : Type 0 where
  pub well_formed : IsWellFormed sectors pool
  pub matches : Matches pool table
  pub pointers_clear : AllByRecursion (λ p. IsClear places p.place) pool.pointers
  pub waiting_clear : AllByRecursion (λ entry. IsClear places entry.home.place) (waiting_in table)

-- chains of these slots, this table and its logs, each page at a place of its own
pub record AreParts (sectors : ℕ) (slots : List SlotRecord) (kept : LoggedTable) (parts : List ChainPart) : Type 0 where
  pub spelled : map (λ part. part.records) parts ≡ records_in slots kept
  pub pages : AllByRecursion (λ part. length part.places ≡ pages_for (length part.records)) parts
  pub places_open : AreOpen sectors [] (places_in parts)

-- the blocks of these slots stand in an image as they stand in another
abbrev pub SameBlocks : (image c : Image) → List SlotRecord → Type 0
SameBlocks image c slots = AllByRecursion (λ slot. sector_at c slot.pointer.place ≡ sector_at image slot.pointer.place) slots

-- an image after a group's sync: the group's seal counts, its chains are there, and the blocks of its slots stand as in the old image with the group's blocks
pub record IsSealedImage (tag sectors group : ℕ) (image c : Image) (slots : List SlotRecord) (kept : LoggedTable) (modes : List Mode)
    (quota : Option ℕ) (contents : List Stored) (parts : List ChainPart) : Type 0 where
  pub counts : newest image_version c ≡ Some (seal_of tag sectors group modes quota kept (roots_of parts) (length (places_in parts)))
  pub there : sectors ≤ length c
  pub held : HoldsParts c parts
  pub blocks : SameBlocks (with_blocks contents image) c slots
