use Rattle.std.proofs.Common.{ap}
use Rattle.report.proofs.LaneLemmas.{answered_text, answered_text-own, answered_text-other}
use Rattle.report.proofs.Written.{Remains-cut, Remains-more, Remains-same, Wrote-same}
use Rattle.report.proofs.lanes.write_lane.Goals as goal
use Rattle.report.proofs.lanes.write_lane.Goals.{then-command-note+in-Some+in_ok-write_command, else-command-note}

pub returns-in_err-write_command : goal.returns-in_err-write_command
returns-in_err-write_command g c =
    Wrote-same (ap (answered_text c.args.note.now.lane c.args.commands.now) c.as_slice-answers.ensures)
    (Remains-cut c.from_residual.ensures.0
    (answered_text-own _ _ _ _ _ _ _ c.commands-test.true c.command-item.is c.if-command-note.true c.in-Some.ensures.cases.0)
    c.commands.invariant
    c.in_err-write_command.ensures)

pub commands-preserved : goal.commands-preserved
commands-preserved g c =
    elim c.if-command-note.branch [
      | then-command-note+in-Some+in_ok-write_command w ↦
          rw (w.out-is, w.answers-is)
          (Remains-more (answered_text-own _ _ _ _ _ _ _ c.commands-test.true c.command-item.is w.if-command-note.true
          w.in-Some.ensures.cases.0) c.commands.invariant
          w.in_ok-write_command.ensures)
      | else-command-note w ↦
          rw (w.out-is, w.answers-is)
          (Remains-same (answered_text-other _ _ _ _ _ c.commands-test.true c.command-item.is w.if-command-note.false) c.commands.invariant)
    ]
