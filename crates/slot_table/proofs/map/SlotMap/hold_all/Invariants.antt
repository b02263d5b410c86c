use Rattle.std.proofs.Common.{◌≡◌, take}
use Rattle.slot_table.specs.Slots.{all_held}
use Rattle.slot_table.proofs.map.SlotMap.hold_all.Given as goal

abbrev pub invariant-slots : goal.invariant-slots
invariant-slots l = l.self ≡ all_held l.initial.self (take l.held-index l.slots)
