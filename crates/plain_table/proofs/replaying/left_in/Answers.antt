use Rattle.plain_table.proofs.Replayed.{left_more}
use Rattle.plain_table.proofs.replaying.left_in.Goals as goal

pub changes-preserved : goal.changes-preserved
changes-preserved c =
    left_more c.args.checkpoint.now c.args.active.now c.args.log.now c.changes.change-index _ c.changes-test.true c.changes.invariant
    c.in_ok-set_left.ensures
