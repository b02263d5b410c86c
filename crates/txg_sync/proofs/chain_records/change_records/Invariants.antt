use Rattle.std.proofs.Common.{◌≡◌, map, ◌-◌, ◌≤◌, length, take}
use Rattle.ddt_entry.specs.Spelling.{record_bytes}
use Rattle.txg_sync.proofs.chain_records.change_records.Given as goal

abbrev pub invariant-changes : goal.invariant-changes
invariant-changes l =
    (l.records.items ≡ map record_bytes (take l.change-index l.changes))
    × (length l.changes - l.change-index ≤ l.records.spare)
