use Rattle.std.proofs.Common.{◌≡◌, map, Some, ◌-◌, ◌≤◌, ◌++◌, length, drop}
use Rattle.table_state.specs.SlotRecords.{slot_in}
use Rattle.pool_import.proofs.slots.slots_of.Given as goal

abbrev pub invariant-records : goal.invariant-records
invariant-records l =
    (map Some l.slots.items ++ map (slot_in l.sectors l.group) (drop l.record-index l.record-items) ≡ map
    (slot_in l.sectors l.group) l.record-items)
    × (length l.record-items - l.record-index ≤ l.slots.spare)
