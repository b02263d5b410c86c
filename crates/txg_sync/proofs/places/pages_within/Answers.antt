use Rattle.std.proofs.Common.{arith, ap}
use Rattle.page_tree.specs.ChainWrites.{pages_for}
use Rattle.txg_sync.proofs.PlacedParts.{pages_within_all}
use Rattle.txg_sync.proofs.places.pages_within.Goals as goal

pub returns-then-more-free-clause-lacking : goal.returns-then-more-free-clause-lacking
returns-then-more-free-clause-lacking c =
    let all = pages_within_all c.args.lists.now c.lists.records-index c.records-item.result c.lists-test.true c.records-item.is in
    omega (arith, all, c.lists.invariant.0, c.lists.invariant.1, c.if-more-free.true, c.pages_for-more.ensures, ap pages_for c.len.ensures)
