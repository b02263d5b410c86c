use Rattle.live_core_tests.specs.Seated.{IsReady}
use Rattle.live_core_tests.proofs.at_once.run_lane.Given as goal

abbrev pub invariant-keys : goal.invariant-keys
invariant-keys g l = IsReady l.lock l.seat l.own l.tally.left
