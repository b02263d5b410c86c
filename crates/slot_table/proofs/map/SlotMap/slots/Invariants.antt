use Rattle.std.proofs.Common.{◌≡◌, ◌++◌}
use Rattle.slot_table.specs.Slots.{slots_of}
use Rattle.slot_table.proofs.map.SlotMap.slots.Given as goal

-- the slots so far, and then those that are left, are all
abbrev pub invariant-pointers : goal.invariant-pointers
invariant-pointers l = l.list.items ++ slots_of l.place-iterator ≡ l.self
