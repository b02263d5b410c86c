use Rattle.std.proofs.Common.{◌≡◌, map, Ok, ◌-◌, ◌≤◌, ◌++◌, length, drop}
use Rattle.ddt_entry.specs.Records.{change_in}
use Rattle.ddt_entry.specs.declared.entry.Change.TheVariants.{Entry}
use Rattle.pool_import.proofs.changes.entries_of.Given as goal

abbrev pub invariant-records : goal.invariant-records
invariant-records l =
    (map (λ entry. Ok (Entry entry)) l.entries.items ++ map change_in (drop l.record-index l.record-items) ≡ map change_in l.record-items)
    × (length l.record-items - l.record-index ≤ l.entries.spare)
