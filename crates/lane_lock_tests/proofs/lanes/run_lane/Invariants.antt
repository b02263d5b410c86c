use Rattle.std.proofs.Common.{◌-◌, ◌≡◌, ◌≤◌, length}
use Rattle.lane_lock.specs.Seats.{IsSeatOf}
use Rattle.lane_lock_tests.proofs.lanes.run_lane.Given as goal

abbrev pub invariant-steps : goal.invariant-steps
invariant-steps g l = IsSeatOf l.lock l.seat × (l.seat.lane ≡ l.initial.seat.lane) × (length l.seat.own ≤ l.taken)

abbrev pub decreases-steps : goal.decreases-steps
decreases-steps g l = l.count - l.taken
