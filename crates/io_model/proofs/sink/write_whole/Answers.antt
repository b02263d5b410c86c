use Rattle.std.proofs.Common.{◌++◌, take, sym, ap, ◌∙◌, arith}
use Rattle.std.proofs.lemmas.Result.{err_from_is_err_and}
use Rattle.std.proofs.KnownBytes.{Appends-trans}
use Rattle.io_model.proofs.Bytes.{TookFront-kept, split_moved}
use Rattle.io_model.proofs.sink.write_whole.Goals as goal

pub returns-in_err-count-clause-front : goal.returns-in_err-count-clause-front
returns-in_err-count-clause-front g c =
    let before = c.parts.invariant in
    let p = err_from_is_err_and c.from_residual.result c.from_residual.ensures.1 in
    rw p.1 (TookFront-kept _ _ _ c.args.text.now before.0 c.parts.rest.now before.1 before.2 c.in_err-count.ensures.bytes)

pub parts-preserved : goal.parts-preserved
parts-preserved g c =
    let before = c.parts.invariant in
    let taken = take c.in_ok-count.count c.parts.rest.now in
    let moved = split_moved c.args.text.now before.0 c.parts.rest.now c.in_ok-count.count before.1 in
    (before.0 ++ taken, moved ∙ ap (λ l. (before.0 ++ taken) ++ l) (sym c.split_at.ensures.back), Appends-trans _ _ _ before.0 taken before.2 c.in_ok-count.ensures.bytes, omega (arith, c.in_ok-count.ensures.cause.later))
