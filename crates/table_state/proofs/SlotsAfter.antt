-- What the changes of a group leave of the slots: they rise as before, are in their ranges and have spellings.
use Rattle.std.proofs.Common.{◌≡◌, ℕ, ◌+◌, ◌≤◌, true, List, [], ◌∷◌, Option, Some, None, length, arith}
use Rattle.std.specs.Prelude.{IfSome}
use Rattle.std.specs.List.{AllByRecursion}
use Rattle.ddt_entry.specs.declared.entry.Pointer.{Pointer as SlotPointer}
use Rattle.pool_model.specs.declared.closed.SlotChange.{SlotChange}
use Rattle.slot_table.specs.Slots.{set_slot, AreRisingSlots}
use Rattle.slot_table.specs.declared.slot.SlotRecord.{SlotRecord}
use Rattle.slot_table.proofs.SlotLaws.{each_set, rising_set, length-set_slot}
use Rattle.table_state.specs.SlotRecords.{is_slot}
use Rattle.table_state.specs.Spelling.{FitsSlot}
use Rattle.table_state.specs.Pools.{slots_after}
use Rattle.table_state.specs.Sealed.{changed_slot, ChangesSlotWithin}
use Rattle.pool_model.proofs.Lists.{all_from}
use Rattle.table_state.proofs.SlotLaws.{is_slot-from, is_slot-true}

-- ---- One change

-- a change makes only slots of which this holds
abbrev pub Makes : (SlotRecord → Type 0) → SlotChange → Type 0
Makes P change = IfSome change.pointer (λ pointer. P (changed_slot change pointer))

-- ---- All changes

-- what holds of each slot and of each that a change makes holds of each in the end
pub each_after : (P : SlotRecord → Type 0) (changes : List SlotChange) (slots : List SlotRecord) → AllByRecursion (Makes P) changes
    → AllByRecursion P slots → AllByRecursion P (slots_after changes slots)
each_after P [] slots makes all = all
each_after P (change ∷ changes) slots makes all = each_after P changes (set_slot slots change) makes.1 (each_set P slots change makes.0 all)

-- slots rise after changes as before them
pub rising_after : (changes : List SlotChange) (slots : List SlotRecord) → AreRisingSlots slots
    → AreRisingSlots (slots_after changes slots)
rising_after [] slots rising = rising
rising_after (change ∷ changes) slots rising = rising_after changes (set_slot slots change) (rising_set slots change rising)

-- each change brings a slot at the most
pub length_after : (changes : List SlotChange) (slots : List SlotRecord)
    → length (slots_after changes slots) ≤ length slots + length changes
length_after [] slots = omega arith
length_after (change ∷ changes) slots = omega (arith, length_after changes (set_slot slots change), length-set_slot slots change)

two_of : (P Q : SlotRecord → Type 0) (change : SlotChange) (pointer : Option SlotPointer)
    → IfSome pointer (λ p. P (changed_slot change p) × Q (changed_slot change p))
    → IfSome pointer (λ p. P (changed_slot change p)) × IfSome pointer (λ p. Q (changed_slot change p))
two_of P Q change None both = (tt, tt)
two_of P Q change (Some pointer) both = both

-- slots stay in their ranges
pub within_after : (sectors group : ℕ) (changes : List SlotChange) (slots : List SlotRecord)
    → AllByRecursion (ChangesSlotWithin sectors group) changes → AllByRecursion (λ slot. is_slot sectors group slot ≡ true) slots
    → AllByRecursion (λ slot. is_slot sectors group slot ≡ true) (slots_after changes slots)
within_after sectors group changes slots within all =
    each_after (λ slot. is_slot sectors group slot ≡ true) changes slots
    (all_from (ChangesSlotWithin sectors group) (Makes (λ slot. is_slot sectors group slot ≡ true))
    (λ change one. (two_of (λ slot. is_slot sectors group slot ≡ true) FitsSlot change change.pointer one.pointer).0) changes within)
    all

-- ---- A later group

is_slot_later : (sectors group later : ℕ) → group ≤ later → (slot : SlotRecord) → is_slot sectors group slot ≡ true
    → is_slot sectors later slot ≡ true
is_slot_later sectors group later le slot is =
    let at = is_slot-from sectors group slot is in
    is_slot-true sectors later slot
    (record { lane = at.lane; slot = at.slot; len = at.len; place = at.place; birth = (at.birth.0, omega (arith, at.birth.1, le)) })

-- slots of a group are slots of each later one
pub within_later : (sectors group later : ℕ) → group ≤ later → (slots : List SlotRecord)
    → AllByRecursion (λ slot. is_slot sectors group slot ≡ true) slots → AllByRecursion (λ slot. is_slot sectors later slot ≡ true) slots
within_later sectors group later le slots within =
    all_from (λ slot. is_slot sectors group slot ≡ true) (λ slot. is_slot sectors later slot ≡ true)
    (is_slot_later sectors group later le) slots within
