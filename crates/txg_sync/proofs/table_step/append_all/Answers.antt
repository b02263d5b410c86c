use Rattle.txg_sync.specs.TableSteps.{counted_as}
use Rattle.txg_sync.proofs.Totals.{counted_more}
use Rattle.txg_sync.proofs.table_step.append_all.Goals as goal

pub changes-preserved : goal.changes-preserved
changes-preserved g c =
    counted_more c.args.classes.now (counted_as c.args.logs.now c.args.totals.now) (counted_as c.changes.logs c.changes.totals)
    (counted_as c.append_one.new.logs c.append_one.new.totals) c.args.changes.now c.changes.change-index _ c.changes-test.true
    c.changes.invariant c.in_ok-append_one.ensures
