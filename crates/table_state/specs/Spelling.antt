-- The one spelling of a slot in the 72 bytes of `SlotRecords`, which bytes and which slots have that form, and the seal of a new pool.
use Rattle.std.specs.Prelude.{◌≡◌, ℕ, ◌^◌, ◌<◌, ◌≤◌, ◌⊎◌, List, ◌++◌, replicate}
use Rattle.ddt_entry.specs.Bytes.{number_bytes, zeros}
use Rattle.ddt_entry.specs.Spelling.{IsKeyLength, KeyFits}
use Rattle.ddt_entry.specs.declared.entry.SlotKind.{SlotKind}
use Rattle.ddt_entry.specs.declared.entry.SlotKind.TheVariants.{Plain, Flagged}
use Rattle.slot_table.specs.declared.slot.SlotRecord.{SlotRecord}
use Rattle.table_state.specs.SlotRecords.{kind_at, slot_at}
use Rattle.table_state.specs.Flat.{image_version}
use Rattle.page_tree.specs.Pointers.{null_pointer}
use Rattle.uber_ring.specs.declared.seal.Seal.{Seal}
use Rattle.pool_model.specs.declared.commands.Mode.{Mode}
use Rattle.pool_model.specs.declared.commands.Mode.TheVariants.{Off, On, Verify}

-- the number that stands for a kind
abbrev pub kind_number : SlotKind → ℕ
kind_number Plain = 1
kind_number Flagged = 2

-- the one spelling of a slot: 72 bytes
abbrev pub slot_bytes : SlotRecord → List ℕ
slot_bytes held =
    number_bytes 4 held.lane
    ++ number_bytes 4 held.slot
    ++ number_bytes 4 (kind_number held.pointer.kind)
    ++ number_bytes 4 held.pointer.key.len
    ++ held.pointer.key.digest
    ++ number_bytes 8 held.pointer.place
    ++ number_bytes 8 held.pointer.birth
    ++ zeros 8

-- each part of the record fits its field
pub record FitsSlot (held : SlotRecord) : Type 0 where
  pub lane : held.lane < 2 ^ 32
  pub slot : held.slot < 2 ^ 32
  pub key : KeyFits held.pointer.key
  pub place : held.pointer.place < 2 ^ 64
  pub birth : held.pointer.birth < 2 ^ 64

-- each field is in its range, by the table
pub record IsSlot (sectors group : ℕ) (held : SlotRecord) : Type 0 where
  pub lane : held.lane ≤ 15
  pub slot : held.slot ≤ 65_535
  pub len : IsKeyLength held.pointer.key.len
  pub place : (32 ≤ held.pointer.place) × (held.pointer.place < sectors)
  pub birth : (1 ≤ held.pointer.birth) × (held.pointer.birth ≤ group)

-- the bytes begin with the record of a slot, by the table
pub record IsSlotForm (sectors group : ℕ) (bytes : List ℕ) : Type 0 where
  pub kind : (kind_at bytes ≡ 1) ⊎ (kind_at bytes ≡ 2)
  pub ranges : IsSlot sectors group (slot_at Plain bytes)

-- the byte that says a lane's mode
abbrev pub mode_byte : Mode → ℕ
mode_byte Off = 0
mode_byte On = 1
mode_byte Verify = 2

-- the seal of a new pool, which is empty: group 1, lanes on, no quota, null pointers
abbrev pub new_seal : (tag sectors : ℕ) → Seal
new_seal tag sectors = record {
  version = image_version;
  tag = tag;
  group = 1;
  sectors = sectors;
  quota = 0;
  quota_flag = 0;
  modes = replicate 16 1;
  age = 0;
  active_changes = 0;
  flushing_changes = 0;
  checkpoint_flag = 0;
  checkpoint_len = 0;
  checkpoint_digest = replicate 32 0;
  pointers = replicate 6 null_pointer;
  homes = 0;
  counts = 0;
  pages = 0;
}
