use Rattle.std.proofs.Common.{◌+◌, ◌||◌, ◌==◌, ◌∙◌, drop, sym, ap, ℕ}
use Rattle.std.specs.List.{list_any}
use Rattle.grant_book.specs.Lanes.{is_named}
use Rattle.grant_book.proofs.LaneLaws.{named_more, any_next, empty_more}
use Rattle.grant_book.proofs.lane_slots.LaneSlots.new.Goals as goal

pub slots-preserved : goal.slots-preserved
slots-preserved c = record {
  named = λ asked.
      named_more _ asked _ _ (list_any (λ (slot : ℕ). asked == slot) (drop (c.slots.slot-index + 1) c.args.slots.now))
      (c.in_ok-insert.ensures.updates.0 asked)
      ∙ ap (λ b. is_named asked c.slots.views.entries || b) (sym (any_next asked c.args.slots.now c.slots.slot-index c.slots-test.true))
      ∙ c.slots.invariant.named asked;
  empty = λ asked. empty_more _ asked _ _ (c.in_ok-insert.ensures.updates.0 asked) (c.slots.invariant.empty asked);
}
