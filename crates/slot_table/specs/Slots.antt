-- The slots of all lanes that hold a pointer, in rising order of lane and slot.
use Rattle.std.specs.Prelude.{◌≡◌, ℕ, ◌<◌, Bool, true, false, count_by, not, ◌&&◌, ◌||◌, ◌==◌, nat_lt, List, [], ◌∷◌, filter, fold, map, Option, Some, None, if◌then◌else◌}
use Rattle.std.specs.List.{AllByRecursion, find}
use Rattle.std.specs.Option.{option_map}
use Rattle.ddt_entry.specs.declared.entry.Pointer.{Pointer as SlotPointer}
use Rattle.ddt_entry.specs.declared.entry.SlotKind.{SlotKind}
use Rattle.ddt_entry.specs.declared.entry.SlotKind.TheVariants.{Plain, Flagged}
use Rattle.pool_model.specs.Pool.{Pairwise}
use Rattle.pool_model.specs.declared.closed.SlotChange.{SlotChange}
use Rattle.slot_table.specs.declared.slot.SlotPlace.{SlotPlace}
use Rattle.slot_table.specs.declared.slot.SlotRecord.{SlotRecord}

abbrev pub is_plain_kind : SlotKind → Bool
is_plain_kind Plain = true
is_plain_kind Flagged = false

-- one slot comes before another
abbrev pub stands_before : SlotRecord → SlotRecord → Bool
stands_before a b = nat_lt a.lane b.lane || ((a.lane == b.lane) && nat_lt a.slot b.slot)

abbrev pub is_slot_at : (lane slot : ℕ) → SlotRecord → Bool
is_slot_at lane slot held = (held.lane == lane) && (held.slot == slot)

-- what a slot holds
abbrev pub pointer_at : (lane slot : ℕ) → List SlotRecord → Option SlotPointer
pointer_at lane slot slots = option_map (λ held. held.pointer) (find (is_slot_at lane slot) slots)

-- whether a pointer is outside the table
abbrev pub is_outside : SlotPointer → Bool
is_outside pointer = is_plain_kind pointer.kind

-- how many slots hold a pointer that is outside the table
abbrev pub plain_in : List SlotRecord → ℕ
plain_in slots = count_by (λ held. is_outside held.pointer) slots

-- one, where a slot holds such a pointer
abbrev pub plain_of : Option SlotPointer → ℕ
plain_of None = 0
plain_of (Some pointer) = if is_outside pointer then 1 else 0

-- slots in rising order, with one more at its place
abbrev pub insert_slot : SlotRecord → List SlotRecord → List SlotRecord
insert_slot new [] = new ∷ []
insert_slot new (held ∷ slots) = if stands_before new held then new ∷ held ∷ slots else held ∷ insert_slot new slots

abbrev pub slot_with : SlotChange → Option SlotPointer → List SlotRecord → List SlotRecord
slot_with change None slots = slots
slot_with change (Some pointer) slots = insert_slot (record { lane = change.lane; slot = change.slot; pointer = pointer }) slots

-- the slots after one of them changed: what it held goes, and what it holds now comes
abbrev pub set_slot : List SlotRecord → SlotChange → List SlotRecord
set_slot slots change = slot_with change change.pointer (filter (λ held. not (is_slot_at change.lane change.slot held)) slots)

-- the change that makes a slot hold its pointer
abbrev pub held_as : SlotRecord → SlotChange
held_as held = record { lane = held.lane; slot = held.slot; pointer = Some held.pointer }

-- slots that hold their pointers one after another
abbrev pub all_held : (slots : List SlotRecord) → List SlotRecord → List SlotRecord
all_held slots more = fold (λ so_far held. set_slot so_far (held_as held)) slots more

-- a slot of a lane that there can be
pub record IsPlaced (held : SlotRecord) : Type 0 where
  pub lane : held.lane < 16
  pub slot : held.slot < 65_536

abbrev pub AreRisingSlots : List SlotRecord → Type 0
AreRisingSlots slots = Pairwise (λ a b. stands_before a b ≡ true) slots

-- the slots rise, each of a lane that there can be
pub record AreSlots (slots : List SlotRecord) : Type 0 where
  pub rising : AreRisingSlots slots
  pub placed : AllByRecursion IsPlaced slots

-- ---- A map from places to pointers, as the list of its slots

abbrev pub slot_of : SlotPlace × SlotPointer → SlotRecord
slot_of pair = record { lane = pair.0.lane; slot = pair.0.slot; pointer = pair.1 }

abbrev pub slots_of : List (SlotPlace × SlotPointer) → List SlotRecord
slots_of pairs = map slot_of pairs
