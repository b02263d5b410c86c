use Rattle.std.proofs.Common.{◌≡◌, drop}
use Rattle.pool_model.specs.Command.{last_tracked}
use Rattle.plain_run.proofs.course.last_tracked.Given as goal

abbrev pub invariant-loop-pool : goal.invariant-loop-pool
invariant-loop-pool l = last_tracked l.key l.pools ≡ last_tracked l.key (drop l.pool-index l.pools)
