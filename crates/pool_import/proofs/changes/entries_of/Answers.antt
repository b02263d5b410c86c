use Rattle.std.proofs.Common.{Ok, arith}
use Rattle.ddt_entry.specs.Records.{change_in}
use Rattle.ddt_entry.specs.declared.entry.Change.TheVariants.{Entry}
use Rattle.pool_import.proofs.Ranges.{entries_in_range, made_whole}
use Rattle.pool_import.proofs.changes.entries_of.Goals as goal

pub returns-clause-lengths : goal.returns-clause-lengths
returns-clause-lengths c = entries_in_range c.as_slice-record-items.result.now c.records.entries.items
    (made_whole change_in
    (λ entry. Ok (Entry entry)) c.as_slice-record-items.result.now c.records.entries.items c.records.record-index c.records.invariant.0
    (omega arith))
