-- What a slot holds is found where one is there.
use Rattle.std.proofs.Common.{◌≡◌, ◌∙◌, Bool, true, false, cond, List, [], ◌∷◌, find, Some, refl, ap}
use Rattle.std.specs.Prelude.{is_some, ◌||◌}
use Rattle.std.specs.List.{list_any}
use Rattle.std.specs.Option.{option_map}
use Rattle.slot_table.specs.Slots.{is_slot_at}
use Rattle.slot_table.specs.declared.slot.SlotRecord.{SlotRecord}
use Rattle.lane_run.proofs.live.is_held.Goals as goal

found_any : (test : SlotRecord → Bool) (slots : List SlotRecord)
    → is_some (option_map (λ (held : SlotRecord). held.pointer) (find test slots)) ≡ list_any test slots
found_any test [] = refl
found_any test (held ∷ slots) = by_test (test held) (found_any test slots)
  where
    by_test : (b : Bool) → is_some (option_map (λ (h : SlotRecord). h.pointer) (find test slots)) ≡ list_any test slots
        → is_some (option_map (λ (h : SlotRecord). h.pointer) (cond b (Some held) (find test slots))) ≡ (b || list_any test slots)
    by_test true rest = refl
    by_test false rest = rest

pub returns : goal.returns
returns c = c.is_some.ensures ∙ ap is_some c.get.ensures ∙ found_any (is_slot_at 0 c.args.slot) c.args.slots.now
