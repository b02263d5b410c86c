use Rattle.std.proofs.Common.{◌≡◌, map, Ok, ◌-◌, ◌≤◌, ◌++◌, length, drop}
use Rattle.ddt_entry.specs.Records.{change_in}
use Rattle.pool_import.proofs.changes.changes_of.Given as goal

abbrev pub invariant-records : goal.invariant-records
invariant-records l =
    (map Ok l.changes.items ++ map change_in (drop l.record-index l.record-items) ≡ map change_in l.record-items)
    × (length l.record-items - l.record-index ≤ l.changes.spare)
