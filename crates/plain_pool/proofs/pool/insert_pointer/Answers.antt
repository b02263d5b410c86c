use Rattle.pool_model.specs.Pool.{comes_before}
use Rattle.plain_pool.proofs.Insertions.{insert_pointer-insert}
use Rattle.plain_pool.proofs.pool.insert_pointer.Goals as goal
use Rattle.pool_model.proofs.Loops.{unwrap_or-position}

pub returns : goal.returns
returns c =
    let by_place = insert_pointer-insert c.args.pointer c.args.pointers.items in
    let place = unwrap_or-position (comes_before c.args.pointer) c.args.pointers.items in
    cc (c.in_ok-insert.ensures.items, c.args.pointers.ok.0)
