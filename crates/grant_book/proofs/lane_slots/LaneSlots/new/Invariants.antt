use Rattle.std.proofs.Common.{◌≡◌, ℕ, ◌||◌, ◌==◌, None, drop}
use Rattle.std.specs.List.{list_any}
use Rattle.grant_book.specs.Lanes.{is_named, view_at}
use Rattle.grant_book.proofs.lane_slots.LaneSlots.new.Given as goal

-- the slots so far, and then those that are left, are named, and none holds anything
abbrev pub invariant-slots : goal.invariant-slots
invariant-slots l = record {
  named : (asked : ℕ) → (is_named asked l.views.entries || list_any (λ slot. asked == slot) (drop l.slot-index l.slots)) ≡ list_any
      (λ slot. asked == slot) l.slots;
  empty : (asked : ℕ) → view_at asked l.views.entries ≡ None;
}
