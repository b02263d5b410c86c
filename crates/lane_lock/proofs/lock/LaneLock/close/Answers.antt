use Rattle.lane_lock.proofs.Gathers.{closes}
use Rattle.lane_lock.proofs.lock.LaneLock.close.Goals as goal

pub returns-clause-seats : goal.returns-clause-seats
returns-clause-seats g c = closes _ _ _ _ _ c.gather-place.ensures.all c.finish.ensures.ended
