use Rattle.live_core_tests.specs.Seated.{IsReady}
use Rattle.live_core_tests.proofs.at_once.claim.Given as goal

abbrev pub invariant-turns : goal.invariant-turns
invariant-turns g l = IsReady l.lock l.seat l.lane l.tally.left
