-- The lanes so far were written.
use Rattle.std.proofs.Common.{drop, map}
use Rattle.std.specs.List.{flat_map}
use Rattle.pool_model.specs.Plain.{lane_told}
use Rattle.pool_model.specs.Mirrors.{task_of}
use Rattle.pool_model.specs.Text.{lane_text}
use Rattle.report.proofs.Written.{Remains}
use Rattle.report.proofs.lanes.write_lanes.Given as goal

abbrev pub invariant-lanes : goal.invariant-lanes
invariant-lanes g l =
    Remains (g.W.Sink.written l.initial.out) (g.W.Sink.written l.out) (g.W.Sink.faults l.initial.out) (g.W.Sink.faults l.out)
    (flat_map (lane_text (map task_of l.commands)) (map lane_told (drop l.note-index l.notes)))
    (flat_map (lane_text (map task_of l.commands)) (map lane_told l.notes))
