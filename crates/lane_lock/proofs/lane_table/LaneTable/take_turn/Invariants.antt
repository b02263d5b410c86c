use Rattle.std.proofs.Common.{◌≡◌}
use Rattle.lane_lock.specs.Steps.{IsSame}
use Rattle.lane_lock.proofs.lane_table.LaneTable.take_turn.Given as goal

abbrev pub invariant-loop : goal.invariant-loop
invariant-loop g l = IsSame l.initial.place l.place × (l.place.me ≡ l.initial.place.me)
