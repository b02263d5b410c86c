use Rattle.std.proofs.Common.{◌≡◌, map, ◌-◌, ◌≤◌, length, take}
use Rattle.table_state.specs.Spelling.{slot_bytes}
use Rattle.txg_sync.proofs.chain_records.slot_records.Given as goal

abbrev pub invariant-slots : goal.invariant-slots
invariant-slots l =
    (l.records.items ≡ map slot_bytes (take l.held-index l.slots))
    × (length l.slots - l.held-index ≤ l.records.spare)
