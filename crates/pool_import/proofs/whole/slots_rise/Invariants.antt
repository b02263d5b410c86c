use Rattle.std.proofs.Common.{◌≡◌, None, drop}
use Rattle.slot_table.specs.Slots.{stands_before}
use Rattle.pool_import.specs.Together.{rises}
use Rattle.pool_import.proofs.whole.slots_rise.Given as goal

abbrev pub invariant-slots : goal.invariant-slots
invariant-slots l = rises stands_before l.last (drop l.slot-index l.slots) ≡ rises stands_before None l.slots
