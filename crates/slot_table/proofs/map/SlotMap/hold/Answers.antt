use Rattle.std.proofs.Common.{◌≡◌, ◌∙◌, ap, subst, sym, Some}
use Rattle.std.specs.Prelude.{List}
use Rattle.std.specs.BTreeMap.{insert_entry}
use Rattle.slot_table.specs.declared.slot.SlotRecord.{SlotRecord}
use Rattle.slot_table.specs.Maps.{moved, IsSlotMap}
use Rattle.slot_table.specs.Slots.{plain_of, set_slot, slots_of}
use Rattle.slot_table.proofs.SlotPairs.{place_cmp, slots_of-insert, inserted_map}
use Rattle.slot_table.proofs.map.SlotMap.hold.Goals as goal

pub invariant_of-self-2 : goal.invariant_of-self-2
invariant_of-self-2 c =
    let pairs = c.self.inside.pointers.entries in
    let plain = c.self.inside.plain in
    let numbers : c.moved-self-inside.result ≡ moved plain (plain_of c.in_ok-gone.gone) (plain_of (Some c.args.pointer)) =
    c.moved-self-inside.ensures ∙ ap (λ n. moved plain n c.plain_of-2.result) c.plain_of.ensures
    ∙ ap (moved plain (plain_of c.in_ok-gone.gone)) c.plain_of-2.ensures in
    rw c.in_ok-gone.ensures.entries
    (subst (IsSlotMap (slots_of (insert_entry place_cmp pairs c.args.place c.args.pointer))) (sym numbers)
    (inserted_map c.args.place c.args.pointer pairs plain c.in_ok-gone.gone c.self.invariant c.in_ok-gone.ensures.old))

pub returns-clause-held : goal.returns-clause-held
returns-clause-held c =
    ap slots_of c.in_ok-gone.ensures.entries
    ∙ slots_of-insert c.args.place c.args.pointer c.self.inside.pointers.entries c.self.invariant.rising
    ∙ ap (λ (slots : List SlotRecord). set_slot slots
    (record { lane = c.args.place.lane; slot = c.args.place.slot; pointer = Some c.args.pointer })) c.self.view_is
