use Rattle.std.proofs.Common.{◌≡◌, List, drop, fold, map}
use Rattle.std.specs.List.{flat_map}
use Rattle.pool_model.specs.declared.notes.LaneNote.{LaneNote}
use Rattle.pool_model.specs.Plain.{lane_told}
use Rattle.pool_model.specs.Mirrors.{task_of}
use Rattle.pool_model.specs.Command.{after}
use Rattle.pool_model.specs.Group.{turns_of}
use Rattle.plain_run.specs.Openings.{opening_by}
use Rattle.plain_run.proofs.group.after_lanes.Given as goal

abbrev pub invariant-loop-lane : goal.invariant-loop-lane
invariant-loop-lane g l =
    let step = after (opening_by (g.K.KeyOf.keying l.keyer).key_of l.opening) in
    let turns = λ (notes : List LaneNote). flat_map (turns_of (map task_of l.commands)) (map lane_told notes) in
    fold step l.course (turns (drop l.lane-index l.notes)) ≡ fold step l.initial.course (turns l.notes)
