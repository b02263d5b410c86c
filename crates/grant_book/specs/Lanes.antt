-- What the slots hold that a lane's commands name, while the lane runs: each slot once, in rising order.
use Rattle.std.specs.Prelude.{ℕ, Bool, List, Option, is_some}
use Rattle.std.specs.Map.{lookup}
use Rattle.std.specs.BTreeMap.{is_at}
use Rattle.std.specs.Option.{option_flatten}
use Rattle.std.specs.Ordering.{nat_cmp}
use Rattle.grant_book.specs.declared.lane_slots.SlotView.{SlotView}

-- whether a slot is named
abbrev pub is_named : (slot : ℕ) → List (ℕ × Option SlotView) → Bool
is_named slot slots = is_some (lookup (is_at (nat_cmp slot)) slots)

-- what a slot holds; a slot that isn't named holds nothing
abbrev pub view_at : (slot : ℕ) → List (ℕ × Option SlotView) → Option SlotView
view_at slot slots = option_flatten (lookup (is_at (nat_cmp slot)) slots)
