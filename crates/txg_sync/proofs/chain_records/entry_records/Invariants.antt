use Rattle.std.proofs.Common.{◌≡◌, map, ◌-◌, ◌≤◌, length, take}
use Rattle.table_state.specs.Sealed.{entry_bytes}
use Rattle.txg_sync.proofs.chain_records.entry_records.Given as goal

abbrev pub invariant-entries : goal.invariant-entries
invariant-entries l =
    (l.records.items ≡ map entry_bytes (take l.entry-index l.entries))
    × (length l.entries - l.entry-index ≤ l.records.spare)
