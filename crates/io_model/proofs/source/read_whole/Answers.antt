use Rattle.std.proofs.Common.{◌+◌, ◌≤◌, take, arith, vec_len}
use Rattle.std.proofs.lemmas.Grind.{common_steps}
use Rattle.io_model.proofs.Bytes.{ConsumesUpTo-more}
use Rattle.io_model.proofs.source.read_whole.Goals as goal

pub returns-in_err-extend_from_slice-clause-never_past :
    goal.returns-in_err-extend_from_slice-clause-never_past
returns-in_err-extend_from_slice-clause-never_past g c =
    let read = c.in_ok-count.ensures in
    ConsumesUpTo-more _ _ _ c.pieces.bytes.items (take c.in_ok-count.count c.read.new.out) _ c.pieces.invariant.read read.bytes.0
    (let fits : c.in_ok-count.count + vec_len c.pieces.bytes ≤ c.args.limit + 1 = grind (arith, common_steps) in omega
    (arith, read.bound.1, c.pieces.bytes.ok.0))
