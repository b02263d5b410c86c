use Rattle.std.proofs.Common.{◌∙◌, ap}
use Rattle.std.specs.Prelude.{List}
use Rattle.slot_table.specs.declared.slot.SlotRecord.{SlotRecord}
use Rattle.slot_table.specs.Slots.{pointer_at}
use Rattle.slot_table.proofs.SlotPairs.{lookup-slots_of}
use Rattle.slot_table.proofs.map.SlotMap.get.Goals as goal

pub returns : goal.returns
returns c =
    c.copied.ensures ∙ c.get.ensures.value ∙ lookup-slots_of c.args.place c.self.inside.pointers.entries
    ∙ ap (λ (slots : List SlotRecord). pointer_at c.args.place.lane c.args.place.slot slots) c.self.view_is
