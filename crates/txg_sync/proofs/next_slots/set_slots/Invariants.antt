use Rattle.std.proofs.Common.{◌≡◌, drop}
use Rattle.table_state.specs.Pools.{slots_after}
use Rattle.txg_sync.proofs.next_slots.set_slots.Given as goal

abbrev pub invariant-changes : goal.invariant-changes
invariant-changes l = slots_after (drop l.change-index l.changes) l.slots ≡ slots_after l.changes l.fn.slots
