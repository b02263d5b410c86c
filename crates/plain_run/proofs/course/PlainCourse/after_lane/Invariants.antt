use Rattle.std.proofs.Common.{◌≡◌, drop, fold}
use Rattle.pool_model.specs.Command.{after}
use Rattle.plain_run.specs.Openings.{opening_by}
use Rattle.plain_run.proofs.Turns.{turns_left}
use Rattle.plain_run.proofs.course.PlainCourse.after_lane.Given as goal

abbrev pub invariant-loop-command : goal.invariant-loop-command
invariant-loop-command g l =
    let step = after (opening_by (g.K.KeyOf.keying l.keyer).key_of l.opening) in
    fold step l.course (turns_left l.note.lane (drop l.command-index l.commands) l.answers)
    ≡ fold step l.initial.course (turns_left l.note.lane l.commands l.initial.answers)
