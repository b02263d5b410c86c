-- The digits of the bytes so far were written.
use Rattle.std.proofs.Common.{length}
use Rattle.hex.specs.Hex.{encode_lower}
use Rattle.report.proofs.Written.{Remains}
use Rattle.report.proofs.commands.write_hex.Given as goal

abbrev pub invariant-pieces : goal.invariant-pieces
invariant-pieces g l =
    Remains (g.W.Sink.written l.initial.out) (g.W.Sink.written l.out) (g.W.Sink.faults l.initial.out) (g.W.Sink.faults l.out)
    (encode_lower l.rest)
    (encode_lower l.initial.rest)

abbrev pub decreases-pieces : goal.decreases-pieces
decreases-pieces g l = length l.rest
