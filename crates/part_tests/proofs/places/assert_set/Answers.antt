use Rattle.std.proofs.Common.{◌≡◌, ℕ, true, List, Option, Some, sym, ap, ◌∙◌}
use Rattle.std.specs.List.{list_any}
use Rattle.std.specs.Ordering.{nat_cmp}
use Rattle.std.specs.Map.{set_value}
use Rattle.std.specs.BTreeMap.{is_at}
use Rattle.std.proofs.lemmas.Map.{keys-set_value}
use Rattle.std.proofs.lemmas.Map.Made.{is_some-lookup}
use Rattle.grant_book.specs.declared.lane_slots.SlotView.{SlotView}
use Rattle.grant_book.specs.Lanes.{is_named}
use Rattle.part_tests.proofs.places.assert_set.Goals as goal

-- a slot that is named is so once another, or itself, was set
still_named : (asked slot : ℕ) (view : Option SlotView) (old new : List (ℕ × Option SlotView)) → is_named asked old ≡ true
    → new ≡ set_value (is_at (nat_cmp slot)) old view → is_named asked new ≡ true
still_named asked slot view old new named set = ap (is_named asked) set
    ∙ is_some-lookup (is_at (nat_cmp asked)) (set_value (is_at (nat_cmp slot)) old view)
    ∙ ap (list_any (is_at (nat_cmp asked))) (keys-set_value (is_at (nat_cmp slot)) old view)
    ∙ sym (is_some-lookup (is_at (nat_cmp asked)) old) ∙ named

pub set-requires-2 : goal.set-requires-2
set-requires-2 g c = still_named 4 9 (Some c.view.result) c.in_ok-lane.lane c.set.new.self (c.in_ok-lane.ensures.named 4) c.set.ensures.set

pub set-requires-3 : goal.set-requires-3
set-requires-3 g c =
    let first = still_named 9 9 (Some c.view.result) c.in_ok-lane.lane c.set.new.self (c.in_ok-lane.ensures.named 9) c.set.ensures.set in
    still_named 9 4 (Some c.view-3.result) c.set.new.self c.set-2.new.self first c.set-2.ensures.set
