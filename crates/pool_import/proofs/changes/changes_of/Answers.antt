use Rattle.std.proofs.Common.{Ok, arith}
use Rattle.ddt_entry.specs.Records.{change_in}
use Rattle.pool_import.proofs.Ranges.{changes_in_range, made_whole}
use Rattle.pool_import.proofs.changes.changes_of.Goals as goal

pub returns-clause-lengths : goal.returns-clause-lengths
returns-clause-lengths c = changes_in_range c.as_slice-record-items.result.now c.records.changes.items
    (made_whole change_in Ok c.as_slice-record-items.result.now c.records.changes.items c.records.record-index c.records.invariant.0
    (omega arith))
