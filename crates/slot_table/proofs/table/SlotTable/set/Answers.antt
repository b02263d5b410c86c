use Rattle.std.proofs.Common.{sym, subst}
use Rattle.slot_table.specs.Slots.{AreSlots}
use Rattle.slot_table.proofs.SlotLaws.{slots_set}
use Rattle.slot_table.proofs.table.SlotTable.set.Goals as goal

pub invariant_of-self-2 : goal.invariant_of-self-2
invariant_of-self-2 g c =
    subst AreSlots (sym c.in_ok-set.ensures.set)
    (slots_set c.self.inside.slots (record { lane = c.args.lane; slot = c.args.slot; pointer = c.args.pointer }) c.requires.lane
    c.requires.slot c.self.invariant)
