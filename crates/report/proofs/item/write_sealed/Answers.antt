use Rattle.std.proofs.Common.{map}
use Rattle.std.specs.List.{flat_map}
use Rattle.pool_model.specs.Plain.{lane_told}
use Rattle.pool_model.specs.Mirrors.{task_of}
use Rattle.pool_model.specs.Text.{lane_text}
use Rattle.report.proofs.Written.{Wrote-failed, Wrote-longer, Wrote-then}
use Rattle.report.proofs.item.write_sealed.Goals as goal

pub returns-in_err-write_line-in-Lanes : goal.returns-in_err-write_line-in-Lanes
returns-in_err-write_line-in-Lanes g c =
    let name = rw c.in-Lanes.is at c.kind_name.ensures.name in
    let heading = rw name at c.in_err-write_line-in-Lanes.ensures in
    let answers = flat_map (lane_text (map task_of c.in-Lanes.group.commands.items)) (map lane_told c.args.note.now.lanes.items) in
    let failed = c.from_residual.ensures.0 in
    rw c.in-Lanes.is (Wrote-longer answers failed (Wrote-failed failed heading))

pub returns-in_ok-write_line-in-Lanes : goal.returns-in_ok-write_line-in-Lanes
returns-in_ok-write_line-in-Lanes g c =
    let name = rw c.in-Lanes.is at c.kind_name.ensures.name in
    let heading = rw name at c.in_ok-write_line-in-Lanes.ensures in
    let answers = rw (c.as_slice.ensures, c.as_slice-in-Lanes.ensures) at c.write_lanes.ensures in
    rw c.in-Lanes.is (Wrote-then heading answers)
