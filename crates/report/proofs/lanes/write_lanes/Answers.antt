use Rattle.std.proofs.Common.{map}
use Rattle.pool_model.specs.Mirrors.{task_of}
use Rattle.report.proofs.LaneLemmas.{lanes-splits}
use Rattle.report.proofs.Written.{Remains-cut, Remains-more}
use Rattle.report.proofs.lanes.write_lanes.Goals as goal

pub returns-in_err-write_lane : goal.returns-in_err-write_lane
returns-in_err-write_lane g c =
    Remains-cut c.from_residual.ensures.0
    (lanes-splits (map task_of c.args.commands.now) _ _ _ c.lanes-test.true c.note-item.is) c.lanes.invariant
    c.in_err-write_lane.ensures

pub lanes-preserved : goal.lanes-preserved
lanes-preserved g c =
    Remains-more (lanes-splits (map task_of c.args.commands.now) _ _ _ c.lanes-test.true c.note-item.is) c.lanes.invariant
    c.in_ok-write_lane.ensures
