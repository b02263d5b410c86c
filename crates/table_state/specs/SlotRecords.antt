-- The form of a slot in 72 bytes. Its numbers are little-endian.
--
--   offset  bytes  field
--        0      4  lane, at most 15
--        4      4  slot, at most 65,535
--        8      4  kind: 1 for a plain pointer, 2 for a flagged one
--       12      4  the key's length, from 1 to 4,096
--       16     32  the key's digest
--       48      8  place, from 32 to the pool's sectors less 1
--       56      8  birth, from 1 to the seal's group
--       64      8  zeros, which no reader looks at
use Rattle.std.specs.Prelude.{ℕ, Bool, ◌==◌, ◌&&◌, nat_le, nat_lt, if◌then◌else◌, List, Option, Some, None}
use Rattle.ddt_entry.specs.Bytes.{bytes_at, number_at}
use Rattle.ddt_entry.specs.Records.{is_key_length}
use Rattle.ddt_entry.specs.declared.entry.SlotKind.{SlotKind}
use Rattle.ddt_entry.specs.declared.entry.SlotKind.TheVariants.{Plain, Flagged}
use Rattle.slot_table.specs.declared.slot.SlotRecord.{SlotRecord}

-- the number that stands where the kind does
abbrev pub kind_at : List ℕ → ℕ
kind_at bytes = number_at 4 8 bytes

-- the other fields, said of a pointer of this kind
abbrev pub slot_at : SlotKind → List ℕ → SlotRecord
slot_at kind bytes = record {
  lane = number_at 4 0 bytes;
  slot = number_at 4 4 bytes;
  pointer = record {
    kind = kind;
    key = record { len = number_at 4 12 bytes; digest = bytes_at 32 16 bytes };
    place = number_at 8 48 bytes;
    birth = number_at 8 56 bytes;
  };
}

-- the kind that a number stands for
abbrev pub kind_said : ℕ → Option SlotKind
kind_said number = if number == 1 then Some Plain else (if number == 2 then Some Flagged else None)

-- whether each field is in its range, in a pool of these sectors under a seal of this group
abbrev pub is_slot : (sectors group : ℕ) → SlotRecord → Bool
is_slot sectors group held =
    nat_le held.lane 15
    && nat_le held.slot 65_535
    && is_key_length held.pointer.key.len
    && nat_le 32 held.pointer.place
    && nat_lt held.pointer.place sectors
    && nat_le 1 held.pointer.birth
    && nat_le held.pointer.birth group

-- a record whose fields are in their ranges
abbrev pub in_range : (sectors group : ℕ) → SlotRecord → Option SlotRecord
in_range sectors group held = if is_slot sectors group held then Some held else None

-- the record that bytes spell, once their kind is known
abbrev pub slot_of : (sectors group : ℕ) → Option SlotKind → List ℕ → Option SlotRecord
slot_of sectors group None bytes = None
slot_of sectors group (Some kind) bytes = in_range sectors group (slot_at kind bytes)

-- the record that the first 72 bytes spell
abbrev pub slot_in : (sectors group : ℕ) → List ℕ → Option SlotRecord
slot_in sectors group bytes = slot_of sectors group (kind_said (kind_at bytes)) bytes
