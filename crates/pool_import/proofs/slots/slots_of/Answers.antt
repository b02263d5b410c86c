use Rattle.std.proofs.Common.{Some, arith}
use Rattle.table_state.specs.SlotRecords.{slot_in}
use Rattle.pool_import.proofs.Ranges.{slots_in_range, made_whole}
use Rattle.pool_import.proofs.slots.slots_of.Goals as goal

pub returns-clause-within : goal.returns-clause-within
returns-clause-within c = slots_in_range c.args.sectors c.args.group c.as_slice-record-items.result.now c.records.slots.items
    (made_whole (slot_in c.args.sectors c.args.group) Some c.as_slice-record-items.result.now c.records.slots.items c.records.record-index
    c.records.invariant.0 (omega arith))
