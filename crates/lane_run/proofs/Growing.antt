-- A pointer that comes to an empty slot makes one slot more.
use Rattle.std.proofs.Common.{◌≡◌, ℕ, ◌+◌, true, false, not, List, [], ◌∷◌, ◌++◌, length, Option, Some, None, ap, ◌∙◌}
use Rattle.std.specs.Prelude.{filter, IfSome}
use Rattle.std.specs.List.{AllByRecursion, list_any}
use Rattle.std.proofs.lemmas.Bool.{or_parts}
use Rattle.ddt_entry.specs.declared.entry.Pointer.{Pointer as SlotPointer}
use Rattle.pool_model.specs.declared.closed.SlotChange.{SlotChange}
use Rattle.pool_model.proofs.Lists.{all_from, filter_whole}
use Rattle.slot_table.specs.Slots.{is_slot_at, slot_with, set_slot}
use Rattle.table_state.specs.Pools.{Held, slots_after}
use Rattle.table_state.specs.Sealed.{changed_slot}
use Rattle.slot_table.specs.declared.slot.SlotRecord.{SlotRecord}
use Rattle.slot_table.proofs.SlotLaws.{length_inserted}
use Rattle.table_state.proofs.SlotsAfter.{Makes, each_after}
use Rattle.table_state.proofs.SlotsOf.{change_behind}
use Rattle.table_state.proofs.UnusedOf.{each_fails}
use Rattle.lane_run.specs.Live.{Live, is_change_at, is_taken}

-- no slot at this place
abbrev NotAt : (lane slot : ℕ) → SlotRecord → Type 0
NotAt lane slot held = is_slot_at lane slot held ≡ false

-- where the slot was empty, a change that brings a pointer to it makes one slot more
length_brought : (slots : List SlotRecord) (change : SlotChange) (pointer : SlotPointer) → change.pointer ≡ Some pointer
    → AllByRecursion (NotAt change.lane change.slot) slots → length (set_slot slots change) ≡ length slots + 1
length_brought slots change pointer brings empty =
    ap (λ (o : Option SlotPointer). length (slot_with change o left)) brings
    ∙ length_inserted (changed_slot change pointer) left
    ∙ ap (λ (xs : List SlotRecord). length xs + 1)
    (filter_whole (λ held. not (is_slot_at change.lane change.slot held)) slots
    (all_from (NotAt change.lane change.slot) (λ held. not (is_slot_at change.lane change.slot held) ≡ true)
    (λ held fails. ap not fails) slots empty))
  where
    left : List SlotRecord
    left = filter (λ held. not (is_slot_at change.lane change.slot held)) slots

-- a slot of lane 0 that the group found empty and brought nothing to is empty
still_empty : (held : Held) (live : Live) (slot : ℕ) → is_taken held live slot ≡ false
    → AllByRecursion (NotAt 0 slot) (slots_after live.slots held.slots)
still_empty held live slot empty =
    let parts = or_parts (list_any (is_slot_at 0 slot) held.slots) (list_any (is_change_at slot) live.slots) empty in
    each_after (NotAt 0 slot) live.slots held.slots
    (all_from (λ (change : SlotChange). is_change_at slot change ≡ false) (Makes (NotAt 0 slot)) makes live.slots
    (each_fails (is_change_at slot) live.slots parts.1))
    (each_fails (is_slot_at 0 slot) held.slots parts.0)
  where
    makes : (change : SlotChange) → is_change_at slot change ≡ false → Makes (NotAt 0 slot) change
    makes change fails = by_pointer change.pointer
      where
        by_pointer : (o : Option SlotPointer) → IfSome o (λ pointer. NotAt 0 slot (changed_slot change pointer))
        by_pointer None = tt
        by_pointer (Some pointer) = fails

-- so a write that brings a pointer there makes one slot more
pub one_slot_more : (held : Held) (live : Live) (change : SlotChange) (pointer : SlotPointer) → change.lane ≡ 0
    → change.pointer ≡ Some pointer
    → is_taken held live change.slot ≡ false
    → length (slots_after (live.slots ++ change ∷ []) held.slots) ≡ length (slots_after live.slots held.slots) + 1
one_slot_more held live change pointer first brings empty =
    ap length (change_behind live.slots change held.slots)
    ∙ length_brought (slots_after live.slots held.slots) change pointer brings
    (all_from (NotAt 0 change.slot) (NotAt change.lane change.slot)
    (λ s not_there. ap (λ lane. is_slot_at lane change.slot s) first ∙ not_there)
    (slots_after live.slots held.slots) (still_empty held live change.slot empty))
