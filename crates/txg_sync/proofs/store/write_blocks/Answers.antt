-- Each block is one of the places, and stands there with those before it.
use Rattle.std.proofs.Common.{◌∙◌, ℕ, List, map, ap, subst}
use Rattle.disk_model.specs.DiskLaws.{Holds}
use Rattle.table_state.specs.Pools.{block_sector}
use Rattle.disk_model.proofs.Moments.{goes_on, keeps_on}
use Rattle.page_tree.specs.ChainWrites.{ChainLeaves}
use Rattle.pool_model.specs.Mirrors.{stored_of}
use Rattle.table_state.specs.Closing.{block_places}
use Rattle.txg_sync.proofs.Storing.{stores_more, block_touched, block_torn, block_leaves}
use Rattle.txg_sync.proofs.store.write_blocks.Goals as goal

pub returns-in_err-write-clause-touched : goal.returns-in_err-write-clause-touched
returns-in_err-write-clause-touched g c =
    block_torn c.args.contents.now c.each.stored-index c.stored-item.result c.each-test.true c.stored-item.is _ _ _ c.each.invariant.2
    c.in_err-write.ensures.touched

pub returns-in_err-write-clause-any_moment : goal.returns-in_err-write-clause-any_moment
returns-in_err-write-clause-any_moment g c =
    let P = ChainLeaves (block_places (map stored_of c.args.contents.now)) (g.D.Disk.state c.args.disk.now).may_leave in
    let leaves = block_leaves c.args.contents.now c.each.stored-index c.stored-item.result c.each-test.true c.stored-item.is
    (g.D.Disk.state c.args.disk.now).may_leave (g.D.Disk.state c.each.disk).may_leave c.each.invariant.4 in
    goes_on c.each.invariant.3 c.write.ensures.time (λ c' left. leaves c' (c.write.ensures.crash c' left))

pub each-preserved : goal.each-preserved
each-preserved g c =
    let P = ChainLeaves (block_places (map stored_of c.args.contents.now)) (g.D.Disk.state c.args.disk.now).may_leave in
    let leaves = block_leaves c.args.contents.now c.each.stored-index c.stored-item.result c.each-test.true c.stored-item.is
    (g.D.Disk.state c.args.disk.now).may_leave (g.D.Disk.state c.each.disk).may_leave c.each.invariant.4 in
    let bytes = c.sector_of-sector.ensures ∙ ap block_sector c.as_slice.ensures in
    let held = subst (λ (b : List ℕ). Holds (g.D.Disk.state c.each.disk).seen (g.D.Disk.state c.write.new.self).seen
    c.stored-item.result.place b) bytes c.in_ok-write.ensures.written in (
      keeps_on c.each.invariant.0 c.write.ensures.accounts.keeps,
      stores_more c.args.contents.now c.each.stored-index c.stored-item.result c.each-test.true c.stored-item.is _ _ _ c.each.invariant.1
          held,
      block_touched c.args.contents.now c.each.stored-index c.stored-item.result c.each-test.true c.stored-item.is _ _ _ c.each.invariant.2
          held,
      goes_on c.each.invariant.3 c.write.ensures.time (λ c' left. leaves c' (c.write.ensures.crash c' left)),
      λ c' left. leaves c' (c.write.ensures.crash c' left),
    )
