-- The lane's commands so far were written with their answers.
use Rattle.std.proofs.Common.{drop}
use Rattle.report.proofs.LaneLemmas.{answered_text}
use Rattle.report.proofs.Written.{Remains}
use Rattle.report.proofs.lanes.write_lane.Given as goal

abbrev pub invariant-commands : goal.invariant-commands
invariant-commands g l =
    Remains (g.W.Sink.written l.initial.out) (g.W.Sink.written l.out) (g.W.Sink.faults l.initial.out) (g.W.Sink.faults l.out)
    (answered_text l.note.lane (drop l.command-index l.commands) l.answers) (answered_text l.note.lane l.commands l.initial.answers)
