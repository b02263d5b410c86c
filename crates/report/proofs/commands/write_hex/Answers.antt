use Rattle.std.proofs.Common.{sym}
use Rattle.std.proofs.lemmas.Bool.{eqb-true}
use Rattle.report.proofs.HexLemmas.{encode_lower-splits, encode_lower-nil}
use Rattle.report.proofs.Written.{Remains-cut, Remains-more, Remains-nothing}
use Rattle.report.proofs.commands.write_hex.Goals as goal

pub returns-in_err-write_piece : goal.returns-in_err-write_piece
returns-in_err-write_piece g c =
    Remains-cut c.from_residual.ensures.0 (encode_lower-splits _ _) c.pieces.invariant
    (rw c.split_at.ensures.front at c.in_err-write_piece.ensures)

pub pieces-preserved : goal.pieces-preserved
pieces-preserved g c =
    rw c.split_at.ensures.back
    (Remains-more (encode_lower-splits _ _) c.pieces.invariant (rw c.split_at.ensures.front at c.in_ok-write_piece.ensures))

pub returns : goal.returns
returns g c = Remains-nothing (encode_lower-nil _ (eqb-true _ 0 (sym c.pieces-test.ensures))) c.pieces.invariant
