use Rattle.std.proofs.Common.{◌≡◌, ◌∙◌, ◌^◌, ◌%◌, length, ap, arith}
use Rattle.slot_table.specs.Slots.{slots_of, plain_in}
use Rattle.slot_table.proofs.SlotLaws.{plain_few}
use Rattle.slot_table.proofs.SlotPairs.{length-slots_of}
use Rattle.slot_table.proofs.map.SlotMap.plain.Goals as goal

pub returns : goal.returns
returns c =
    let slots = slots_of c.self.inside.pointers.entries in
    let long : c.len-bound.result ≡ length c.self.inside.pointers.entries = c.len-bound.ensures.len in
    let exact : plain_in slots % 2 ^ 64 ≡ plain_in slots =
    omega (arith, plain_few slots, length-slots_of c.self.inside.pointers.entries, long, c.len-bound.type_inv) in
    c.self.invariant.counted ∙ exact ∙ ap plain_in c.self.view_is
