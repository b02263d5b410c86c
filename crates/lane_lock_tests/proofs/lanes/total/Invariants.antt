use Rattle.std.proofs.Common.{◌≡◌, ◌+◌, ◌≤◌, ◌-◌, length, drop, sum}
use Rattle.lane_lock_tests.proofs.lanes.total.Given as goal

abbrev pub decreases-add : goal.decreases-add
decreases-add l = length l.shares - l.at

abbrev pub invariant-add : goal.invariant-add
invariant-add l = (l.at ≤ length l.shares) × (l.sum + sum (drop l.at l.shares) ≡ sum l.shares)
