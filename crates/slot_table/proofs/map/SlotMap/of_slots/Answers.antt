use Rattle.std.proofs.Common.{◌∙◌, List, ap}
use Rattle.slot_table.specs.declared.slot.SlotRecord.{SlotRecord}
use Rattle.slot_table.specs.Slots.{all_held}
use Rattle.slot_table.proofs.SlotLaws.{held_back}
use Rattle.slot_table.proofs.map.SlotMap.of_slots.Goals as goal

pub returns : goal.returns
returns c = λ rising.
    c.in_ok-hold_all.ensures ∙ ap (λ (first : List SlotRecord). all_held first c.args.slots.now) c.new-map.ensures
    ∙ held_back c.args.slots.now rising
