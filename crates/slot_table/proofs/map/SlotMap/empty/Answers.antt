use Rattle.std.proofs.Common.{◌≡◌, ◌∙◌, ap, subst, sym, None}
use Rattle.std.specs.Prelude.{List}
use Rattle.std.specs.Map.{remove_entry}
use Rattle.std.specs.BTreeMap.{is_at}
use Rattle.slot_table.specs.declared.slot.SlotRecord.{SlotRecord}
use Rattle.slot_table.specs.Maps.{moved, IsSlotMap}
use Rattle.slot_table.specs.Slots.{plain_of, set_slot, slots_of}
use Rattle.slot_table.proofs.SlotPairs.{place_cmp, slots_of-remove, removed_map}
use Rattle.slot_table.proofs.map.SlotMap.empty.Goals as goal

pub invariant_of-self : goal.invariant_of-self
invariant_of-self c =
    let pairs = c.self.inside.pointers.entries in
    let plain = c.self.inside.plain in
    let numbers : c.moved-self-inside.result ≡ moved plain (plain_of c.remove-gone.result) 0 =
    c.moved-self-inside.ensures ∙ ap (λ n. moved plain n 0) c.plain_of.ensures in
    rw c.remove-gone.ensures.entries
    (subst (IsSlotMap (slots_of (remove_entry (is_at (place_cmp c.args.place)) pairs))) (sym numbers)
    (removed_map c.args.place pairs plain c.remove-gone.result c.self.invariant c.remove-gone.ensures.value))

pub returns : goal.returns
returns c =
    ap slots_of c.remove-gone.ensures.entries ∙ slots_of-remove c.args.place c.self.inside.pointers.entries c.self.invariant.rising
    ∙ ap (λ (slots : List SlotRecord). set_slot slots
    (record { lane = c.args.place.lane; slot = c.args.place.slot; pointer = None })) c.self.view_is
