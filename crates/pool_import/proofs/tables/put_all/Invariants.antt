use Rattle.std.proofs.Common.{◌≡◌, List, drop, fold}
use Rattle.ddt_entry.specs.declared.entry.Entry.{Entry}
use Rattle.pool_model.specs.Table.{set_entry}
use Rattle.pool_import.proofs.tables.put_all.Given as goal

abbrev pub invariant-entries : goal.invariant-entries
invariant-entries g l =
    fold (λ (stored : List Entry) entry. set_entry entry stored) l.classes (drop l.entry-index l.entries)
    ≡ fold (λ (stored : List Entry) entry. set_entry entry stored) l.initial.classes l.entries
