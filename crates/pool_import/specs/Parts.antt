-- The parts of a flat image, one chain at a time.
use Rattle.std.specs.Prelude.{◌≡◌, ℕ, List, map, Option, Some, None, Ok}
use Rattle.ddt_entry.specs.Records.{change_in}
use Rattle.ddt_entry.specs.declared.entry.Entry.{Entry}
use Rattle.ddt_entry.specs.declared.entry.Change.{Change}
use Rattle.ddt_entry.specs.declared.entry.Change.TheVariants as changes
use Rattle.disk_model.specs.Images.{Image}
use Rattle.page_tree.specs.declared.pointer.PagePtr.{PagePtr}
use Rattle.table_state.specs.Flat.{Reads}
use Rattle.table_state.specs.SlotRecords.{slot_in}
use Rattle.slot_table.specs.declared.slot.SlotRecord.{SlotRecord}

-- a chain that spells these slots
abbrev pub ReadsSlots : (sectors group : ℕ) → Image → (before : List ℕ) → Option PagePtr → (after : List ℕ) → List SlotRecord → Type 0
ReadsSlots sectors group image before root after slots =
    (records : List (List ℕ)) × Reads image before root after records × (map (slot_in sectors group) records ≡ map Some slots)

-- a chain that spells these entries
abbrev pub ReadsEntries : Image → (before : List ℕ) → Option PagePtr → (after : List ℕ) → List Entry → Type 0
ReadsEntries image before root after entries =
    (records : List (List ℕ)) × Reads image before root after records
    × (map change_in records ≡ map (λ entry. Ok (changes.Entry entry)) entries)

-- a chain that spells these changes
abbrev pub ReadsChanges : Image → (before : List ℕ) → Option PagePtr → (after : List ℕ) → List Change → Type 0
ReadsChanges image before root after log =
    (records : List (List ℕ)) × Reads image before root after records × (map change_in records ≡ map Ok log)

-- the sector of a chain's first page, and 0 where it has none
abbrev pub first_sector : Option PagePtr → ℕ
first_sector None = 0
first_sector (Some pointer) = pointer.sector
