use Rattle.std.proofs.Common.{length}
use Rattle.live_core_tests.proofs.at_once.+run_lanes.Given as goal

abbrev pub decreases-run_lanes : goal.decreases-run_lanes
decreases-run_lanes g l = length l.seats.items
