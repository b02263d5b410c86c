-- What a map of slots keeps besides its pairs.
use Rattle.std.specs.Prelude.{◌≡◌, ℕ, ◌+◌, ◌-◌, ◌^◌, ◌%◌, List}
use Rattle.slot_table.specs.declared.slot.SlotRecord.{SlotRecord}
use Rattle.slot_table.specs.Slots.{AreRisingSlots, plain_in}

-- a number without one part and with another, modulo 2^64
abbrev pub moved : (number gone come : ℕ) → ℕ
moved number gone come = (number + (2 ^ 64 - gone) + come) % 2 ^ 64

-- the slots rise, and how many hold a pointer outside the table is kept
pub record IsSlotMap (slots : List SlotRecord) (plain : ℕ) : Type 0 where
  pub rising : AreRisingSlots slots
  pub counted : plain ≡ plain_in slots % 2 ^ 64
