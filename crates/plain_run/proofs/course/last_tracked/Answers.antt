use Rattle.std.proofs.Common.{sym, ◌∙◌}
use Rattle.plain_run.proofs.LastTracked.{last_tracked-here, last_tracked-later}
use Rattle.plain_run.proofs.course.last_tracked.Goals as goal

pub returns-in-Some : goal.returns-in-Some
returns-in-Some c =
    sym (c.loop-pool.invariant ∙ last_tracked-here _ _ _ _ _ c.loop-pool-test.true c.pool-item.is (sym c.in-Some.ensures))

pub loop-pool-preserved : goal.loop-pool-preserved
loop-pool-preserved c =
    c.loop-pool.invariant ∙ last_tracked-later _ _ _ _ c.loop-pool-test.true c.pool-item.is (sym c.in_default.ensures)
